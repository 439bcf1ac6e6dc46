-- What a command gives, takes and makes of a track, by its action.
use Rattle.std.proofs.Common.{◌≡◌, ◌∙◌, ap, refl, ℕ, ◌+◌, ◌<◌, ◌≤◌, List, ◌++◌, Option, Some, Ok, true, false, ◌==◌, length, length-append}
use Rattle.std.proofs.Common.{arith}
use Rattle.std.proofs.lemmas.Bool.Decides.{nat_tests}
use Rattle.ckd_track.specs.Track.{Record, track_in, track_of, body_length}
use Rattle.ckd_track.specs.declared.geometries.Geometry.{Geometry}
use Rattle.ckd_position.specs.Contents.{Sighted, formatted, kept, replaced, with_record_changed}
use Rattle.ckd_position.specs.declared.areas.Area.{Area}
use Rattle.ckd_position.specs.declared.extents.AreaBytes.TheVariants as extent
use Rattle.ckd_sense.specs.declared.commands.Command.{Command}
use Rattle.ckd_sense.specs.declared.commands.Command.TheVariants as command
use Rattle.ckd_command.specs.declared.registers.Registers.{Registers}
use Rattle.ckd_command.specs.declared.tables.Action.{Action}
use Rattle.ckd_command.specs.declared.tables.Action.TheVariants as action
use Rattle.ckd_command.specs.declared.begin.Opened.{Opened}
use Rattle.ckd_command.specs.Tables.{action_of, extent_of}
use Rattle.ckd_command.specs.Commands.{Closing, area_bytes, area_ends, bytes_for, close_by, closing, end_of_area, format_ends, length_after}
use Rattle.ckd_command.specs.Commands.{new_record_fits, updated, writes}
use Rattle.ckd_command.proofs.Lengths.{length_by, same_count}

pub area_by : (a : Action) (t : Sighted) (o : Opened) (r : Registers) → action_of o.command ≡ a → area_bytes t o r ≡ bytes_for a t o r
unfolding area_bytes
area_by a t o r is = rw is refl

pub closing_by : (a : Action) (g : Geometry) (t : Sighted) (o : Opened) (r : Registers) (b : List ℕ) → action_of o.command ≡ a
    → closing g t o r b ≡ close_by a g t o r b
unfolding closing
closing_by a g t o r b is = rw is refl

-- Sense.

sense_extent : (c : Command) → action_of c ≡ action.GiveSense → extent_of c ≡ extent.Nothing
sense_extent command.Sense e = refl
sense_extent _ e = absurd cc

pub sense_length : (g : Geometry) (t : Sighted) (o : Opened) (r : Registers) (b : List ℕ) → action_of o.command ≡ action.GiveSense
    → length_after g t o r b ≡ 6
sense_length g t o r b is = length_by action.GiveSense g t o r b is ∙ ap length (area_by action.GiveSense t o r is)

pub sense_closes : (g : Geometry) (t : Sighted) (o : Opened) (r : Registers) (b : List ℕ) → action_of o.command ≡ action.GiveSense
    → closing g t o r b ≡ area_ends o r false
sense_closes g t o r b is = closing_by action.GiveSense g t o r b is ∙ rw (sense_extent o.command is) refl

-- An update of which a byte has come.

updated_is : (slot : List ℕ) (a : Area) (t : Sighted) (area : Option Area) (change : Record → Record) (c : Closing) → t ≡ Ok (track_in slot)
    → area ≡ Some a → updated t area change c ≡ writes (with_record_changed change a (track_in slot)) c
updated_is slot a t area change c e f = rw (e, f) refl

-- it closes by a write; what the closing asks of it is a premise each: the action, the track, the area and a byte
pub update_closes : (g : Geometry) (slot : List ℕ) (o : Opened) (r : Registers) (a : Area) (b : List ℕ)
    → action_of o.command ≡ action.Update → track_of slot ≡ Ok (track_in slot) → o.area ≡ Some a → 0 < length b
    → closing g (track_of slot) o r b ≡ writes (with_record_changed (replaced (extent_of o.command) b) a (track_in slot))
    (end_of_area (track_of slot) o r)
update_closes g slot o r a b is reads there some =
    let none : (length b == 0) ≡ false = grind (arith, nat_tests) in
    closing_by action.Update g (track_of slot) o r b is
    ∙ rw none (updated_is slot a (track_of slot) o.area (replaced (extent_of o.command) b) (end_of_area (track_of slot) o r) reads
    there)

-- A formatting write whose count bytes have come, and fit.

pub record FormatsOn (g : Geometry) (t : Sighted) (o : Opened) (r : Registers) (b more : List ℕ) : Type 0 where
  pub closes : closing g t o r (b ++ more) ≡ writes (formatted t o.area (b ++ more)) (format_ends r (length (kept t o.area)))
  pub wants : length_after g t o r (b ++ more) ≡ 8 + body_length b

pub formats_on : (g : Geometry) (t : Sighted) (o : Opened) (r : Registers) (b more : List ℕ) → action_of o.command ≡ action.Format
    → 8 ≤ length b → new_record_fits g t o b ≡ true → FormatsOn g t o r b more
formats_on g t o r b more is long fits =
    let s = same_count b more long in
    let some : (length (b ++ more) == 0) ≡ false = grind (arith, nat_tests, length-append b more) in
    let still : new_record_fits g t o (b ++ more) ≡ true = rw (s.key, s.bytes) fits in
    record {
      closes = closing_by action.Format g t o r (b ++ more) is ∙ rw (s.short, some, still) refl;
      wants = length_by action.Format g t o r (b ++ more) is ∙ rw (s.short, still, s.key, s.bytes) refl;
    }
