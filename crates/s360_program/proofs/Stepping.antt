-- What a step of a program is, by its parts.
use Rattle.std.proofs.Common.{◌≡◌, ℕ, ◌<◌, refl}
use Rattle.s360_words.specs.Storage.{Storage}
use Rattle.ckd_drive.specs.Work.{DriveState, answer_of_look}
use Rattle.ckd_drive.specs.declared.answers.Look.TheVariants as seen
use Rattle.s360_laws.specs.Units.{unit}
use Rattle.s360_storage.specs.Kept.{KeepsStorage}
use Rattle.s360_program.specs.Stands.{phase_in}
use Rattle.s360_program.specs.Steps.{run_of, in_bytes, count_of, ComesBy, Fits, IsQuiet, IsStep, Looked, Steps}
use Rattle.s360_program.specs.declared.run.Run.{Run}
use Rattle.s360_program.specs.declared.run.Step.{Step}
use Rattle.s360_program.proofs.Looking.{look_finds}
use Rattle.s360_program.proofs.Moments.{MachineState}
use Rattle.s360_program.proofs.Quiet.{finds_quiet, first_quiet}
use Rattle.s360_program.proofs.Transferring.{counts_some, unit_steps}

-- storage that is not written keeps its size and its keys
pub kept : (s : Storage) → KeepsStorage s s
kept s = record { size = refl; keys = refl }

-- a step that makes no call of the store where its first unit needs none; it names run, storage and drive before and
-- behind, since a step is said of all of them
pub quietly : (r r2 : Run) (s s2 : Storage) (d0 d2 : DriveState) (most : ℕ) (a : Step) → Fits r d0 → KeepsStorage s s2
    → (IsQuiet d0 → d2.image ≡ d0.image)
    → Steps r.key (phase_in (run_of r) s d0) most a r2 s2 d0 d2 → IsStep r s d0 most a r2 s2 d2
quietly r r2 s s2 d0 d2 most a fits keeps quiet steps = record {
  steps = steps;
  storage = keeps;
  quiet = λ h. quiet (first_quiet (run_of r) s d0 (count_of a) r.key fits.stands
      (counts_some r.key (phase_in (run_of r) s d0) most a r2 s2 d0 d2 steps) h);
}

-- one unit
pub one_unit : (before after : MachineState) (most : ℕ) (a : Step) → Fits before.run before.drive → 0 < most
    → KeepsStorage before.storage after.storage → (IsQuiet before.drive → after.drive.image ≡ before.drive.image)
    → ComesBy before.run.key (λ f. unit f before.run.key (phase_in (run_of before.run) before.storage before.drive)) a after.run
    after.storage before.drive after.drive
    → IsStep before.run before.storage before.drive most a after.run after.storage after.drive
one_unit before after most a fits some keeps quiet comes =
    quietly before.run after.run before.storage after.storage before.drive after.drive most a fits keeps quiet
    (unit_steps before.run.key (phase_in (run_of before.run) before.storage before.drive) most after.run after.storage a before.drive
    after.drive some comes)

-- a look that finds the area, and the step that goes on from there
pub finds : (before after : MachineState) (left most : ℕ) (found : DriveState) {a : Step} → Looked before.run before.drive found
    → seen.Ready left ≡ answer_of_look found.work → after.drive.image.loads ≡ found.image.loads
    → IsStep (in_bytes before.run) before.storage found most a after.run after.storage after.drive
    → IsStep before.run before.storage before.drive most a after.run after.storage after.drive
finds before after left most found {a} k answer loads is = record {
  steps = look_finds before.run before.storage before.drive found k left answer most after.run after.storage a after.drive loads is.steps;
  storage = is.storage;
  quiet = finds_quiet before.run before.storage left (count_of a) before.drive found after.drive k answer
      (counts_some before.run.key (phase_in (run_of (in_bytes before.run)) before.storage found) most a after.run after.storage found
      after.drive is.steps) is.quiet;
}
