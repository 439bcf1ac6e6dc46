-- Units of a channel program until something happens, and what they come to.
use Rattle.std.specs.Prelude.{◌≡◌, ◌⊎◌, ◌+◌, ◌*◌, ◌/◌, ◌%◌, ◌<◌, ◌≤◌, ◌&&◌, ◌||◌, ◌==◌, ℕ, suc, nat_lt, Bool, true, false, if◌then◌else◌, Option, Some, None}
use Rattle.std.specs.Prelude.{List, [], ◌∷◌, length}
use Rattle.s360_laws.specs.Events.{StepBy, Stepped}
use Rattle.s360_channel.specs.Channel.{ChannelState}
use Rattle.s360_trace.specs.Looks.{IsDone}
use Rattle.dasd_subsystem.specs.Glances.{Sees, asks, changes_cylinder, changes_track, crossed, moves_byte, passes_index, runs, stores_byte}
use Rattle.dasd_subsystem.specs.Shown.{numbers_of}
use Rattle.dasd_subsystem.specs.Watched.{place_of}
use Rattle.dasd_subsystem.specs.declared.glances.Glance.{Glance}
use Rattle.dasd_subsystem.specs.declared.until.Counts.{Counts}
use Rattle.dasd_subsystem.specs.declared.until.RunProgress.{RunProgress}
use Rattle.dasd_subsystem.specs.declared.until.Until.{Until}
use Rattle.dasd_subsystem.specs.declared.until.Wanted.{Wanted}

-- What a caller waits for.

-- The bits of a byte: 1 an interruption that is asked for, 2 another cylinder, 4 another track; no other is one.
abbrev pub until_of : (byte : ℕ) → Option Until
until_of byte =
    if nat_lt byte 8
    then Some (record { asked = byte % 2 == 1; cylinder = byte / 2 % 2 == 1; track = byte / 4 == 1 })
    else None

-- a bit, where it is on
abbrev pub bit : (weight : ℕ) → (on : Bool) → ℕ
bit weight on = if on then weight else 0

-- the byte of these bits
abbrev pub byte_of : Until → ℕ
byte_of u = bit 1 u.asked + bit 2 u.cylinder + bit 4 u.track

-- nothing
abbrev pub nothing : Until
nothing = record { asked = false; cylinder = false; track = false }

-- whether it is something
abbrev pub is_any : Until → Bool
is_any u = u.asked || u.cylinder || u.track

-- what of that happened in a unit: it is one to stop behind, where this is something
abbrev pub happened : Until → (before behind : Glance) → Until
happened until before behind = record {
  asked = until.asked && asks before behind;
  cylinder = until.cylinder && changes_cylinder before behind;
  track = until.track && changes_track before behind;
}

-- What units come to.

-- no units
abbrev pub no_counts : Counts
no_counts = record { cylinders = 0; units = 0; bytes = 0; indexes = 0; stored = 0; low = 0; high = 0 }

-- the lower of an address and the lowest of so many others, and the higher
abbrev pub lower_of : (others lowest address : ℕ) → ℕ
lower_of others lowest address = if (others == 0) || nat_lt address lowest then address else lowest

abbrev pub higher_of : (others highest address : ℕ) → ℕ
higher_of others highest address = if (others == 0) || nat_lt highest address then address else highest

-- a byte more that was stored, at this address
abbrev pub with_stored : Counts → (address : ℕ) → Counts
with_stored c address = record c {
  stored = c.stored + 1;
  low = lower_of c.stored c.low address;
  high = higher_of c.stored c.high address;
}

-- a unit more: the cylinders that it crossed, the byte that it moved, the index that it passed
abbrev pub with_moved : Counts → (before behind : Glance) → Counts
with_moved c before behind = record c {
  cylinders = c.cylinders + crossed before behind;
  units = c.units + 1;
  bytes = c.bytes + bit 1 (moves_byte before behind);
  indexes = c.indexes + bit 1 (passes_index before behind);
}

-- and where it stored its byte
abbrev pub with_unit : Counts → (before behind : Glance) → Counts
with_unit c before behind =
    if stores_byte before behind then with_stored (with_moved c before behind) (place_of before.work) else with_moved c before behind

-- all units between these glances, of which the latest comes first
abbrev pub came_to : List Glance → Counts
came_to [] = no_counts
came_to (first ∷ []) = no_counts
came_to (behind ∷ before ∷ earlier) = with_unit (came_to (before ∷ earlier)) before behind

-- What happens.

-- A channel is seen between its units, by these glances of which the latest comes first: before the first unit, and behind each.
abbrev pub AreSeen : List Glance → (old new : ChannelState) → Type 0
AreSeen [] old new = ⊥
AreSeen (first ∷ []) old new = (new ≡ old) × Sees first new
AreSeen (behind ∷ before ∷ earlier) old new =
    (between : ChannelState) × AreSeen (before ∷ earlier) old between × IsDone (StepBy 1) (Stepped 1) between new × Sees behind new

-- none of the units between these glances is one to stop behind
abbrev pub GoOn : Until → List Glance → Type 0
GoOn until [] = Unit {0}
GoOn until (first ∷ []) = Unit {0}
GoOn until (behind ∷ before ∷ earlier) = (is_any (happened until before behind) ≡ false) × GoOn until (before ∷ earlier)

-- what happened in the last of them
abbrev pub last_happened : Until → List Glance → Until
last_happened until [] = nothing
last_happened until (first ∷ []) = nothing
last_happened until (behind ∷ before ∷ earlier) = happened until before behind

-- all glances but the last
abbrev pub earlier : List Glance → List Glance
earlier [] = []
earlier (behind ∷ glances) = glances

-- a program no longer runs at the last of these glances
abbrev pub HasEnded : List Glance → Type 0
HasEnded [] = ⊥
HasEnded (last ∷ earlier) = runs last.subchannel ≡ false

-- what is told: the counts, the subchannel behind the last unit, and what happened in that
abbrev pub told_of : Counts → (subchannel : ℕ × ℕ × ℕ) → (stopped : Until) → RunProgress
told_of c n stopped = record {
  cylinders = c.cylinders;
  units = c.units;
  bytes = c.bytes;
  indexes = c.indexes;
  stored = c.stored;
  low = c.low;
  high = c.high;
  subchannel = n.0;
  device = n.1;
  asked = n.2;
  stopped = byte_of stopped;
  reserved = 0 ∷ 0 ∷ 0 ∷ 0 ∷ [];
}

-- the same by the glances
abbrev pub progress_of : Until → List Glance → RunProgress
progress_of until [] = told_of no_counts (0, 0, 0) nothing
progress_of until (last ∷ earlier) =
    told_of (came_to (last ∷ earlier)) (numbers_of last.subchannel) (last_happened until (last ∷ earlier))

-- So many units are done as one step of as many units does, seen by these glances.
pub record AreDone (glances : List Glance) (units : ℕ) (old new : ChannelState) : Type 0 where
  pub steps : IsDone (StepBy units) (Stepped units) old new
  pub seen : AreSeen glances old new
  pub many : length glances ≡ suc units

-- A program runs until something happens for which its caller waits, until it ends, or until so many units are done: no unit before the
-- last is one to stop behind; and where it ends before, the last one is, or the program has ended.
pub record RunsUntil (wanted : Wanted) (progress : RunProgress) (old new : ChannelState) : Type 0 where
  pub glances : List Glance
  pub done : AreDone glances progress.units old new
  pub most : progress.units ≤ wanted.units
  pub go_on : GoOn wanted.until (earlier glances)
  pub ends : progress.units < wanted.units → HasEnded glances ⊎ (is_any (last_happened wanted.until glances) ≡ true)
  pub told : progress ≡ progress_of wanted.until glances

-- and what is answered of that channel
abbrev pub UntilTo : Wanted → Option RunProgress → (old new : ChannelState) → Type 0
UntilTo wanted None old new = ⊥
UntilTo wanted (Some progress) old new = RunsUntil wanted progress old new

-- so few that their sums fit
pub record AreFew (c : Counts) : Type 0 where
  pub bytes : c.bytes ≤ c.units
  pub indexes : c.indexes ≤ c.units
  pub stored : c.stored ≤ c.units
  pub cylinders : c.cylinders ≤ 65535 * c.units
