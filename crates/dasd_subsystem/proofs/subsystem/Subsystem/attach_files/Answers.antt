use Rattle.std.proofs.Common.{rules, tests, ◌≡◌, ◌∙◌, ◌/◌, ◌%◌, true, subst, sym}
use Rattle.std.specs.Prelude.{is_some}
use Rattle.ckd_image.specs.Image.{HoldsImage}
use Rattle.s360_channels.specs.Channels.{channel_at, numbered}
use Rattle.s360_channels.specs.Selectors.{across}
use Rattle.dasd_subsystem.proofs.Refusing.{some_over, not_taken}
use Rattle.dasd_subsystem.proofs.SameFiles.{only}
use Rattle.dasd_subsystem.proofs.subsystem.Subsystem.attach_files.Goals as goal

-- the image is that of the files
pub returns-in-Ok-clause-attached : goal.returns-in-Ok-clause-attached
returns-in-Ok-clause-attached c = λ s. record {
  image = c.in_ok-image.image;
  of_files = c.in_ok-image.ensures.image.holds;
  attaches = c.in-Ok.ensures.attached s;
}

-- the files are an image, and the channel refuses it
pub returns-in-Err-clause-refused : goal.returns-in-Err-clause-refused
returns-in-Err-clause-refused c = λ s.
    let o = channel_at (c.args.address / 256) (across c.args.self.now.channels s) in
    let has : is_some (numbered (c.args.address / 256) c.args.self.now.channels.channels) ≡ true = search (rules, tests) in
    let some : is_some o ≡ true = some_over s (numbered (c.args.address / 256) c.args.self.now.channels.channels) ∙ has in
    not_taken o (c.args.address % 256) c.args.files c.in-Err.refusal some (record {
      few = c.in_ok-image.ensures.few;
      image = c.in_ok-image.image;
      of_files = c.in_ok-image.ensures.image.holds;
    }) (c.in-Err.ensures.refused s)

-- no other files than those that were given hold the image
pub returns-in-Err-clause-handed_back : goal.returns-in-Err-clause-handed_back
returns-in-Err-clause-handed_back c =
    only c.of.result c.args.files c.in-Err.image c.of.ensures
    (subst (HoldsImage c.args.files) (sym c.in-Err.ensures.handed_back) c.in_ok-image.ensures.image)
