-- Where a running program stands, beside storage and a drive.
use Rattle.std.specs.Prelude.{◌≡◌, ℕ, ◌+◌, ◌≤◌, ◌<◌, ◌^◌, List, true, None, length}
use Rattle.s360_words.specs.Storage.{Storage}
use Rattle.ckd_command.specs.Drive.{State, Open, gives, length_of, unsaved}
use Rattle.ckd_drive.specs.Work.{DriveState, Work, Idle, Looking, Passing}
use Rattle.s360_laws.specs.Places.{Place}
use Rattle.s360_laws.specs.Units.{ProgramPhase, Between}
use Rattle.s360_laws.specs.Units as phase
use Rattle.s360_program.specs.Stage.{Stage}
use Rattle.s360_program.specs.Stage as stage

-- What a running program keeps: the protection key of its stores, the channel's place in it, and what comes next. The
-- bytes of storage, and those that have passed in the open command, are kept by storage and by the drive alone.
pub record RunningState : Type 0 where
  pub key : ℕ
  pub place : Place
  pub stage : Stage

-- the phase in which it stands
abbrev pub phase_by : Stage → Place → Storage → State → Work → ProgramPhase
phase_by (stage.Looking ccw) p s d (Looking o) =
    phase.Looking (record { opened = o; state = d }) (record { storage = s; ccw = ccw; place = p })
phase_by (stage.Moving ccw address) p s d (Passing o b left) =
    phase.Moving (record { opened = o; state = d })
    (record { storage = s; ccw = ccw; place = p; address = address; bytes = b })
phase_by _ p s d _ = Between (record { storage = s; place = p; state = d })

-- the phase in which a running program stands
abbrev pub phase_in : RunningState → Storage → DriveState → ProgramPhase
phase_in r s d = phase_by r.stage r.place s d.state d.work

-- the drive reports no more bytes as left than may pass, and where it gives them it reports all; where it takes them it reports
-- all of them too, but for the eight of a count area, which it reports first
abbrev pub LeftFits : Open → List ℕ → (left : ℕ) → Type 0
LeftFits o b left =
    (length b + left ≤ length_of o b) × (gives o ≡ true → length b + left ≡ length_of o b)
    × ((length b + left ≡ 8 → ⊥) → length b + left ≡ length_of o b)

-- what comes next is what the drive is at
abbrev pub StageFits : Stage → State → Work → Type 0
StageFits stage.Between s Idle = Unit {0}
StageFits (stage.Looking ccw) s (Looking o) = Unit {0}
StageFits (stage.Moving ccw address) s (Passing o b left) = LeftFits (record { opened = o; state = s }) b left
StageFits _ s _ = ⊥

-- A running program and a drive stand together. Storage does not come into it: it may change between two calls.
pub record Stands (r : RunningState) (d : DriveState) : Type 0 where
  pub fits : StageFits r.stage d.state d.work
  pub saved : unsaved d.state ≡ None

-- Addresses.

-- a word that was fetched stands within the greatest storage, and so do the bytes under it, but for those of its count;
-- while its command looks for an area the whole count is left, and no good word counts 0
abbrev pub StageWithin : Stage → Place → Type 0
StageWithin stage.Between p = Unit {0}
StageWithin (stage.Looking ccw) p = (p.next ≤ 2 ^ 24) × (ccw.address + p.residual < 2 ^ 25) × (0 < p.residual)
StageWithin (stage.Moving ccw address) p = (p.next ≤ 2 ^ 24) × (address + p.residual < 2 ^ 25)

-- a status modifier may lead past the end of the greatest storage
pub record PlaceWithin (p : Place) : Type 0 where
  pub next : p.next ≤ 2 ^ 24 + 8
  pub last : p.last ≤ 2 ^ 24 + 8

-- the key, the channel's place and the addresses of a running program are within their ranges
pub record Within (r : RunningState) : Type 0 where
  pub key : r.key < 16
  pub place : PlaceWithin r.place
  pub stage : StageWithin r.stage r.place
