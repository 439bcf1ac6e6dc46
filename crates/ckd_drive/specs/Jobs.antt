-- What a drive works with, and what the parts of a call make of it.
use Rattle.std.specs.Prelude.{◌≡◌, ℕ, List, Bool, true, false, ◌&&◌, Some, length}
use Rattle.ckd_track.specs.Track.{track_of, track_or_none}
use Rattle.ckd_position.specs.Areas.{next_of_kind}
use Rattle.ckd_position.specs.Comparisons.{is_satisfied}
use Rattle.ckd_position.specs.Contents.{is_readable, bytes_of}
use Rattle.ckd_position.specs.declared.areas.Area.{Area}
use Rattle.ckd_position.specs.declared.areas.Kind.{Kind}
use Rattle.ckd_position.specs.declared.areas.Next.TheVariants as next
use Rattle.ckd_sense.specs.Commands.{decoded}
use Rattle.ckd_sense.specs.declared.commands.Command.{Command}
use Rattle.ckd_command.specs.declared.tables.Action.TheVariants.{Search}
use Rattle.ckd_command.specs.declared.tables.Aim.TheVariants.{Next}
use Rattle.ckd_command.specs.Tables.{aim, action_of, comparison, extent_of}
use Rattle.ckd_command.specs.declared.registers.Mark.{Mark}
use Rattle.ckd_command.specs.declared.look.LookOutcome.{LookOutcome}
use Rattle.ckd_command.specs.declared.close.Closed.{Closed}
use Rattle.ckd_command.specs.Answers.{seen_as, SeenStays, closed_as, ClosedStays}
use Rattle.ckd_command.specs.Commands.{beginning, sight}
use Rattle.ckd_drive.specs.declared.job.Job.{Job}
use Rattle.ckd_drive.specs.declared.answers.DriveStage.{DriveStage}
use Rattle.ckd_drive.specs.declared.answers.DriveStage.TheVariants as stage
use Rattle.ckd_drive.specs.Invariant.{HalfDone, own_track, own_slot, Parts, parts_of, BeginsWell, AreaIsThere, state_of}
use Rattle.ckd_drive.specs.Passing.{Absorbs, Finishes, command_end_at}
use Rattle.ckd_drive.specs.Calls.{Begins, Looks}
use Rattle.ckd_drive.specs.Work.{gives_at_once, gives_common}
use Rattle.ckd_slot.specs.Cache.{holds}

-- the command half done that a job holds
abbrev pub half_done : {S : Type 0} → Job S → HalfDone
half_done j = record {
  cache = j.cache;
  registers = j.registers;
  opened = j.opened;
  progress = j.progress;
  before = j.before.bytes;
  passed = j.passed.bytes;
}

-- what a drive of this job is made of
abbrev pub parts_held : {S : Type 0} → Job S → Mark → DriveStage → Parts
parts_held j m s = parts_of (half_done j) m s

-- A job takes these bytes, into its cache where the command writes; the rest have the place that is left, and nothing else
-- changes.
pub record Takes {S : Type 0} (old : Job S) (more : List ℕ) (new : Job S) : Type 0 where
  pub absorbs : Absorbs (half_done old) more new.cache new.before.bytes new.progress.place
  pub stays : new ≡ record old {
    cache = new.cache;
    before = new.before;
    progress = record old.progress { place = new.progress.place };
  }

-- what a code leads to fits the track under the arm of a job
abbrev pub BeginsBy : {S : Type 0} → (code : ℕ) → Job S → Type 0
BeginsBy code j = BeginsWell j.cache (own_track (half_done j)) j.registers (beginning code j.registers)

-- an idle job with this mark begins the command of a code, and comes to this mark and this stage
abbrev pub Starts : {S : Type 0} → (code : ℕ) → (old : Job S) → (was : Mark) → (new : Job S) → (now : Mark) → DriveStage
    → Type 0
Starts code old was new now s = Begins (parts_held old was stage.Idle) (parts_held new now s)
    (beginning code old.registers)

-- a job whose track is at hand looks at it, and sees this; nothing but the registers changes
pub record Sees {S : Type 0} (old : Job S) (seen : LookOutcome) (new : Job S) : Type 0 where
  pub seen_is : seen_as seen old.opened new.registers
      ≡ sight old.cache.image.geometry (track_of (own_slot (half_done old))) old.opened old.registers
  pub there : AreaIsThere (track_of (own_slot (half_done old))) old.opened (seen_as seen old.opened new.registers)
  pub registers : SeenStays seen old.registers new.registers
  pub stays : new ≡ record old { registers = new.registers }

-- a job with this mark whose command looks for its area looks, and comes to this mark and this stage
abbrev pub LooksTo : {S : Type 0} → (old : Job S) → (was : Mark) → (new : Job S) → (now : Mark) → DriveStage → Type 0
LooksTo old was new now s = Looks (parts_held old was stage.Looking) (parts_held new now s)

-- a job closes its command so by the bytes that passed, once a record that was due is made; nothing else but the registers changes
pub record ClosesTo {S : Type 0} (old : Job S) (closed : Closed) (new : Job S) : Type 0 where
  pub finishes : Finishes (half_done old) old.progress.place new.cache new.before.bytes new.progress.place
  pub closes : closed_as closed new.registers
      ≡ command_end_at new.cache.image.geometry old.registers old.opened old.progress.moved new.progress.place
  pub registers : ClosedStays closed old.registers new.registers
  pub stays : new ≡ record old {
    cache = new.cache;
    before = new.before;
    progress = record old.progress { place = new.progress.place };
    registers = new.registers;
  }

-- whether a job with this mark, whose command looks for its area, gives its bytes at once: its track is at hand, and the
-- command is a read that is lent whole and finds its area with its next look
abbrev pub lends : {S : Type 0} → Job S → Mark → Bool
lends j m = holds j.cache.held (own_track (half_done j)) && gives_at_once (state_of (parts_held j m stage.Looking))

-- the same of the commonest reads
abbrev pub lends_common : {S : Type 0} → Job S → Mark → Bool
lends_common j m = holds j.cache.held (own_track (half_done j)) && gives_common (state_of (parts_held j m stage.Looking))

-- A search that fails at once.

-- the next area of this kind on the track under the arm, which reads whole, is as long as these bytes, and does not satisfy this search
pub record IsUnlike (h : HalfDone) (c : Command) (k : Kind) (wanted : List ℕ) (a : Area) : Type 0 where
  pub readable : is_readable (track_of (own_slot h)) ≡ true
  pub comes : next.Found a ≡ next_of_kind (track_or_none (track_of (own_slot h))) h.registers.position k
  pub long : length (bytes_of (extent_of c) (track_of (own_slot h)) a) ≡ length wanted
  pub fails : is_satisfied (comparison c) (bytes_of (extent_of c) (track_of (own_slot h)) a) wanted ≡ false

-- the same, of the search of a code
pub record IsUnlikeBy (h : HalfDone) (code : ℕ) (wanted : List ℕ) (a : Area) : Type 0 where
  pub command : Command
  pub multi_track : Bool
  pub decodes : decoded code ≡ Some (record { command = command; multi_track = multi_track })
  pub kind : Kind
  pub aimed : aim command ≡ Next kind
  pub searches : action_of command ≡ Search
  pub unlike : IsUnlike h command kind wanted a
