use Rattle.std.proofs.Common.{refl, arith}
use Rattle.s360_channel.specs.Selector.{over}
use Rattle.s360_channel.proofs.Parts.{last_but_one_fits}
use Rattle.s360_channel.proofs.channel.Channel.finish.Goals as goal

pub into_images-requires : goal.into_images-requires
into_images-requires g c = (omega arith, (search (last_but_one_fits), c.reset-reset.ensures.rests))

pub returns : goal.returns
returns g c = rw (← c.self.view_is) (λ m h.
    let s = c.self.inside.storage in
    let r = c.reset-reset in
    record {
      last = over r.new.self s;
      reset = r.ensures.does s m h;
      calls = r.ensures.calls s;
      same_storage = refl;
      same_images = c.into_images.ensures.images;
      volumes = c.into_images.ensures.volumes;
    })
