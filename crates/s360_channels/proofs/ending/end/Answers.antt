use Rattle.std.proofs.Common.{refl, arith}
use Rattle.s360_channel.proofs.Parts.{last_but_one_fits}
use Rattle.s360_channels.proofs.ending.end.Goals as goal

pub into_images-requires : goal.into_images-requires
into_images-requires g c = (omega arith, (search (last_but_one_fits), c.reset-reset.ensures.rests))

pub returns : goal.returns
returns g c = λ s m t. record {
  last = _;
  reset = c.reset-reset.ensures.does s m t;
  calls = c.reset-reset.ensures.calls s;
  same_storage = refl;
  same_images = c.into_images.ensures.images;
  volumes = c.into_images.ensures.volumes;
}
