use Rattle.std.proofs.Common.{rules, ◌≡◌, ◌∙◌, ap, refl, subst, w32, Bool, true, false, not, to_z, of_z}
use Rattle.std.proofs.lemmas.Int.{to_z-of_z}
use Rattle.lone_drive_c.specs.declared.allowed.Allowance.{Allowance}
use Rattle.lone_drive_c.specs.Calls.{Allowed, SettlesTrack}
use Rattle.lone_drive_c.specs.Codes.{bytes_passed}
use Rattle.lone_drive_c.proofs.commands.settle.Goals as goal

allowed : (b : Bool) → not b ≡ false → true ≡ b
allowed true h = refl
allowed false h = h

-- it is allowed, and C is told whether the track was saved
pub returns : goal.returns
returns c =
    let old = c.args.drive.now in let new = c.settle.new.self in let code = to_z w32 (of_z w32 c.of_settled.result) in
    let settles : SettlesTrack code old new = record {
      settled = c.settle.result;
      told = to_z-of_z w32 c.of_settled.result (search rules) ∙ c.of_settled.ensures;
      counted = c.settle.ensures.counted;
      state = c.settle.ensures.state;
      saved = c.settle.ensures.saved;
      calls = c.settle.ensures.calls;
      reported = c.settle.ensures.reported;
    } in subst (λ (b : Bool). Allowed b bytes_passed (SettlesTrack code old new) code (new ≡ old))
    (allowed c.may.result.settle c.if-not-may.false ∙ ap (λ (m : Allowance). m.settle) c.may.ensures) settles
