use Rattle.std.proofs.Common.{rules, tests, ◌≡◌, ◌∙◌, ◌/◌, ◌%◌, true, subst}
use Rattle.std.specs.Prelude.{is_some}
use Rattle.ckd_image.specs.Image.{ImageState}
use Rattle.s360_channels.specs.Channels.{channel_at, numbered}
use Rattle.s360_channels.specs.Selectors.{across}
use Rattle.dasd_subsystem.specs.Attaching.{AttachesImage}
use Rattle.dasd_subsystem.proofs.Refusing.{err_at, ok_at, some_over, not_taken_new}
use Rattle.dasd_subsystem.proofs.subsystem.Subsystem.attach_new.Goals as goal
use Rattle.dasd_subsystem.proofs.subsystem.Subsystem.attach_new.Goals.{in-Ok, in-Err}

-- the image is the new one
pub returns-clause-attached : goal.returns-clause-attached
returns-clause-attached c = λ s. elim c.match-attach_image.branch [
  | in-Ok w ↦ ok_at _ _ _ w.result-is (subst (λ (i : ImageState). AttachesImage c.args.address i (across c.args.self.now.channels s)
      (across c.attach_image.new.subsystem.channels s)) c.in_ok-image.ensures.image (w.in-Ok.ensures.attached s))
  | in-Err w ↦ ok_at _ _ _ w.result-is tt
]

-- there is a volume, and the channel refuses it
pub returns-clause-refused : goal.returns-clause-refused
returns-clause-refused c = λ s.
    let o = channel_at (c.args.address / 256) (across c.args.self.now.channels s) in
    let has : is_some (numbered (c.args.address / 256) c.args.self.now.channels.channels) ≡ true = search (rules, tests) in
    let some : is_some o ≡ true = some_over s (numbered (c.args.address / 256) c.args.self.now.channels.channels) ∙ has in
    elim c.match-attach_image.branch [
      | in-Ok w ↦ err_at _ _ _ w.result-is tt
      | in-Err w ↦ err_at _ _ _ w.result-is (not_taken_new o (c.args.address % 256) c.args.cylinders w.in-Err.refusal some
          c.in_ok-image.ensures.some (w.in-Err.ensures.refused s))
    ]
