-- Where the arm and the head stand in the parts of a command: they leave a track only where the definitions say that they do.
use Rattle.std.proofs.Common.{rules, ◌≡◌, ℕ, refl, false, List, [], Some, None}
use Rattle.ckd_track.specs.declared.geometries.Geometry.{Geometry}
use Rattle.ckd_position.specs.Contents.{Sighted}
use Rattle.ckd_sense.specs.declared.commands.Command.{Command}
use Rattle.ckd_sense.specs.declared.commands.Command.TheVariants as command
use Rattle.ckd_sense.specs.declared.sense_bytes.Sense.{Sense}
use Rattle.ckd_sense.specs.declared.sense_bytes.TheConstants.Sense as cause
use Rattle.ckd_command.specs.declared.registers.Registers.{Registers}
use Rattle.ckd_command.specs.declared.tables.Aim.{Aim}
use Rattle.ckd_command.specs.declared.tables.Aim.TheVariants.{Next}
use Rattle.ckd_command.specs.declared.tables.Action.{Action}
use Rattle.ckd_command.specs.declared.tables.Action.TheVariants as action
use Rattle.ckd_command.specs.declared.begin.Opened.{Opened}
use Rattle.ckd_command.specs.Answers.{Beginning, Rejected, Immediate, Started, ToCylinderZero}
use Rattle.ckd_command.specs.Answers.{Sight, Found, IndexPassed, NextHead, Missed}
use Rattle.ckd_command.proofs.CommandFacts.{beginning_by, closing_facts}
pub use Rattle.ckd_command.proofs.CommandFacts.{AtSameTrack, ClosesAt}
use Rattle.ckd_command.proofs.Sights.{sight_by}
use Rattle.ckd_command.specs.Tables.{aim, action_of}
use Rattle.ckd_command.specs.Commands.{closing, close_by, beginning, started, cleared, sight}

-- How a command begins: the arm stays, but where it goes to cylinder 0 first; and a command that looks for an area begins with
-- no sense.

abbrev pub NoSenseFor : Aim → Sense → Type 0
NoSenseFor (Next kind) sense = sense ≡ cause.ZERO
NoSenseFor _ sense = Unit {0}

abbrev pub BeginsAt : Registers → Beginning → Type 0
BeginsAt before (Rejected r) = AtSameTrack before r
BeginsAt before (Immediate r) = AtSameTrack before r
BeginsAt before (Started r o) = AtSameTrack before r × NoSenseFor (aim o.command) r.sense
BeginsAt before (ToCylinderZero r None) = AtSameTrack before r
BeginsAt before (ToCylinderZero r (Some o)) = AtSameTrack before r × NoSenseFor (aim o.command) r.sense

no_sense : (c : Command) (r : Registers) → NoSenseFor (aim c) (cleared c r).sense
no_sense command.Sense r = search rules
no_sense _ r = search rules

starts_at : (c : Command) (before r : Registers) (o : Opened) → AtSameTrack before r → NoSenseFor (aim o.command) r.sense
    → BeginsAt before (started c r o)
starts_at command.NoOperation before r o h k = h
starts_at command.Recalibrate before r o h k = h
starts_at _ before r o h k = (h, k)

pub beginning_at : (code : ℕ) (r : Registers) → BeginsAt r (beginning code r)
beginning_at code r =
    beginning_by (BeginsAt r) code r (λ c bits _. record { cylinder = refl; head = refl }) (λ c o is. starts_at c r (cleared c r) o
    (record { cylinder = refl; head = refl }) (rw is (no_sense c r)))

-- How it looks: the head stays, but where the next head's track follows; and nothing is reported but where the look fails.

abbrev pub SightAt : Registers → Opened → Sight → Type 0
SightAt before o (Found opened) = opened.command ≡ o.command
SightAt before o (IndexPassed r) = AtSameTrack before r × (r.sense ≡ before.sense)
SightAt before o (NextHead r) = r.sense ≡ before.sense
SightAt before o (Missed r) = AtSameTrack before r

pub sight_at : (g : Geometry) (t : Sighted) (o : Opened) (r : Registers) → SightAt r o (sight g t o r)
sight_at g t o r =
    sight_by (SightAt r o) g t o r refl (λ a. refl) (record { cylinder = refl; head = refl }) (
      record { cylinder = refl; head = refl },
      refl,
    ) (λ e. refl) (λ c h. record { cylinder = refl; head = refl })

-- How it closes: the arm moves only where it leaves the track.

pub closing_at : (g : Geometry) (t : Sighted) (o : Opened) (r : Registers) (b : List ℕ) → ClosesAt r (closing g t o r b)
closing_at g t o r b = (closing_facts g t o r b).arm

-- without a byte it never does
empty_at : (a : Action) (g : Geometry) (t : Sighted) (o : Opened) (r : Registers) → (close_by a g t o r []).moves_off ≡ false
empty_at action.Search g t o r = refl
empty_at _ g t o r = refl

pub closing_empty : (g : Geometry) (t : Sighted) (o : Opened) (r : Registers) → (closing g t o r []).moves_off ≡ false
unfolding closing
closing_empty g t o r = empty_at (action_of o.command) g t o r
