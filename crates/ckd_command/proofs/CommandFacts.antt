-- How a command begins, looks and closes, whatever the drive remembers and whatever the track holds.
use Rattle.std.proofs.Common.{◌≡◌, ℕ, refl, ap, ◌∙◌, true, false, Bool, cond, List, [], ◌∷◌, Option, Some, None, ◌⊎◌, inl, inr}
use Rattle.std.specs.Prelude.{bit_and, Ok, not, ◌&&◌, ◌==◌, length, nat_lt, slice_range, take, bytes_eq}
use Rattle.std.proofs.lemmas.Bool.{cond_both}
use Rattle.std.proofs.lemmas.Nat.{and_or_apart, and_or_self}
use Rattle.s360_words.specs.Words.{has}
use Rattle.ckd_track.specs.Track.{Record, Track}
use Rattle.ckd_track.specs.Model.{heads_of}
use Rattle.ckd_track.specs.declared.geometries.Geometry.{Geometry}
use Rattle.ckd_position.specs.declared.areas.Area.{Area}
use Rattle.ckd_sense.specs.Commands.{decoded}
use Rattle.ckd_sense.specs.Masks.{is_write, permit_of}
use Rattle.ckd_sense.specs.declared.commands.Command.{Command}
use Rattle.ckd_sense.specs.declared.commands.Command.TheVariants as command
use Rattle.ckd_sense.specs.declared.commands.CommandCode.{CommandCode}
use Rattle.ckd_sense.specs.declared.masks.Permit.{Permit}
use Rattle.ckd_sense.specs.declared.masks.Permit.TheVariants.{Yes, NoWrite, NoSeek}
use Rattle.ckd_sense.specs.declared.sense_bytes.Sense.{Sense}
use Rattle.ckd_sense.specs.declared.sense_bytes.TheConstants.Sense as cause
use Rattle.ckd_command.specs.declared.registers.Registers.{Registers}
use Rattle.ckd_command.specs.declared.tables.Action.{Action}
use Rattle.ckd_command.specs.declared.tables.Action.TheVariants as action
use Rattle.ckd_command.specs.declared.begin.Opened.{Opened}
use Rattle.ckd_command.specs.Answers.{Beginning, Rejected, Immediate, Started, ToCylinderZero}
use Rattle.ckd_command.specs.Answers.{Sight, Found, IndexPassed, NextHead, Missed}
use Rattle.ckd_command.proofs.Sights.{sight_by}
use Rattle.ckd_command.specs.Tables.{action_of, extent_of, ends_with_data}
use Rattle.ckd_position.specs.Contents.{Sighted, replaced, kept}
use Rattle.ckd_command.specs.Commands.{Closing, ends, fails, writes, closing, close_by, whole_field, with_cause, at_end}
use Rattle.ckd_command.specs.Commands.{seek_cylinder_and_head, seek_head, set_file_mask, search_ends, area_ends, end_of_area, update}
use Rattle.ckd_command.specs.Commands.{updated, format, format_ends, new_record_fits, write_home_address, own_home_address}
use Rattle.ckd_command.specs.Commands.{home_address_ends, ending_status, number, beginning, begin_decoded, begin_allowed, started, cleared}
use Rattle.ckd_command.specs.Commands.{refusal, refusal_under, is_out_of_sequence, sight, at_index}

-- Equipment check, which is of the store alone.

abbrev pub tells_store : Registers → Bool
tells_store r = has r.sense.0 cause.EQUIPMENT_CHECK.0

-- the cause of a fault of the store has it
pub store_fault_is_told : (r : Registers) → tells_store (with_cause r cause.STORE_FAULT) ≡ true
store_fault_is_told r = ap (λ n. not (n == 0)) (and_or_self cause.EQUIPMENT_CHECK.0 r.sense.0)

-- it is not reported where it was not reported before
abbrev pub NotTold : Registers → Registers → Type 0
NotTold before after = tells_store before ≡ false → tells_store after ≡ false

-- no other cause has it
with_other : (r : Registers) (bits : ℕ) → bit_and bits cause.EQUIPMENT_CHECK.0 ≡ 0 → NotTold r (with_cause r (record { 0 = bits }))
with_other r bits h e = ap (λ n. not (n == 0)) (and_or_apart cause.EQUIPMENT_CHECK.0 r.sense.0 bits h) ∙ e

-- Where the arm and the head stand.

-- the arm and the head are where they were
pub record AtSameTrack (before after : Registers) : Type 0 where
  pub cylinder : after.cylinder ≡ before.cylinder
  pub head : after.head ≡ before.head

-- the arm and the head stay, and equipment check is not reported
record Stays (before after : Registers) : Type 0 where
  arm : AtSameTrack before after
  not_told : NotTold before after

-- How a command closes.

-- the arm moves only where it leaves the track
abbrev pub ClosesAt : Registers → Closing → Type 0
ClosesAt before c = (c.moves_off ≡ true) ⊎ ((c.motion ≡ false) × AtSameTrack before c.registers)

-- with channel end, and device end unless the arm still moves; no track is written without a byte, nor by a command that is no
-- write; and equipment check is not reported
pub record IsClosing (before : Registers) (b : List ℕ) (write : Bool) (c : Closing) : Type 0 where
  pub channel_end : has c.unit 0x08 ≡ true
  pub device_end : has c.unit 0x04 ≡ not c.motion
  pub written : (c.written ≡ None) ⊎ ((b ≡ [] → ⊥) × (write ≡ true))
  pub not_told : NotTold before c.registers
  pub arm : ClosesAt before c

itself : (r s : Registers) → s.cylinder ≡ r.cylinder → s.head ≡ r.head → s.sense ≡ r.sense → Stays r s
itself r s c h e = record { arm = record { cylinder = c; head = h }; not_told = λ k. rw e k }

module _ (r : Registers) (b : List ℕ) (w : Bool) where
  abbrev Closes : Closing → Type 0
  Closes = IsClosing r b w

  plain : (s : Registers) (unit : ℕ) → has unit 0x08 ≡ true → has unit 0x04 ≡ true → Stays r s → Closes (ends s unit)
  plain s unit c d k = record { channel_end = c; device_end = d; written = inl refl; not_told = k.not_told; arm = inr (refl, k.arm) }

  check : (s : Registers) (bits : ℕ) → bit_and bits cause.EQUIPMENT_CHECK.0 ≡ 0 → Stays r s → Closes (fails s (record { 0 = bits }))
  check s bits h k = plain (with_cause s (record { 0 = bits })) _ refl refl (record {
    arm = record {
      cylinder = k.arm.cylinder;
      head =
          k.arm.head;
    };
    not_told = λ e. with_other s bits h (k.not_told e);
  })

  writing : (t : Track) (c : Closing) → w ≡ true → (b ≡ [] → ⊥) → Closes c → Closes (writes t c)
  writing t c write some h = record {
    channel_end = h.channel_end;
    device_end = h.device_end;
    written = inr (some, write);
    not_told =
        h.not_told;
    arm = h.arm;
  }

  either : (a : Bool) (x y : Closing) → Closes x → Closes y → Closes (cond a x y)
  either a x y p q = cond_both a x y Closes (λ _. p) (λ _. q)

  -- without a byte, and with one
  by_bytes : (x y : Closing) → Closes x → ((b ≡ [] → ⊥) → Closes y) → Closes (cond (length b == 0) x y)
  by_bytes x y p q = cond_both (length b == 0) x y Closes (λ _. p) (λ some. q (λ none. let f = rw none at some in cc))

  -- a field that must come whole, where the registers have gone on without telling anything
  whole : (s : Registers) (size : ℕ) (c : Closing) → Stays r s → ((b ≡ [] → ⊥) → Closes c) → Closes (whole_field s b size c)
  whole s size c k h = by_bytes (ends s ending_status) _ (plain s _ refl refl k) (λ some. either (nat_lt (length b) size) _ c
      (check s _ refl k) (h some))

  seeks : (g : Geometry) → Closes (seek_cylinder_and_head g r b)
  seeks g = either (number (take 2 b) == 0 && nat_lt (number (slice_range b 2 4)) g.cylinders && nat_lt (number (slice_range b 4 6))
      (heads_of g.model)) _ _
      (record { channel_end = refl; device_end = refl; written = inl refl; not_told = λ e. e; arm = inl refl })
      (check r _ refl (itself _ _ refl refl refl))

  head_seeks : (g : Geometry) → Closes (seek_head g r b)
  head_seeks g = either (nat_lt (number (slice_range b 4 6)) (heads_of g.model)) _ _
      (record { channel_end = refl; device_end = refl; written = inl refl; not_told = λ e. e; arm = inl refl })
      (check r _ refl (itself _ _ refl refl refl))

  masks : (bytes : List ℕ) → Closes (set_file_mask r bytes)
  masks [] = plain r _ refl refl (itself _ _ refl refl refl)
  masks (x ∷ bytes) = plain _ _ refl refl (itself _ _ refl refl refl)

  searches : (o : Opened) (satisfied all : Bool) → Closes (search_ends o r satisfied all)
  searches o true all = plain _ _ refl refl (itself _ _ refl refl refl)
  searches o false all = plain _ _ refl refl (itself _ _ refl refl refl)

  area_end : (o : Opened) (no_data : Bool) → Closes (area_ends o r no_data)
  area_end o no_data = cond_both (ends_with_data (extent_of o.command) && no_data) _ _ (λ unit. Closes (ends (at_end o r) unit))
      (λ _. plain _ _ refl refl (itself _ _ refl refl refl))
      (λ _. plain _ _ refl refl (itself _ _ refl refl refl))

  updates : (change : Record → Record) (t : Sighted) (o : Opened) → w ≡ true → Closes (update change t o r b)
  updates change t o write = by_bytes (end_of_area t o r) _ (area_end o _) (go t o.area (end_of_area t o r) (area_end o _))
    where
      go : (t : Sighted) (a : Option Area) (c : Closing) → Closes c → (b ≡ [] → ⊥) → Closes (updated t a change c)
      go (Ok t) (Some a) c h some = writing _ c write some h
      go _ _ c h some = h

  formats : (g : Geometry) (t : Sighted) (o : Opened) → w ≡ true → (b ≡ [] → ⊥) → Closes (format g t o r b)
  formats g t o write some = either (new_record_fits g t o b) _ _
      (writing _ (format_ends r (length (kept t o.area))) write some (plain _ _ refl refl (itself _ _ refl refl refl)))
      (check r _ refl (itself _ _ refl refl refl))

  homes : (o : Opened) → w ≡ true → (b ≡ [] → ⊥) → Closes (write_home_address o r b)
  homes o write some = either (bytes_eq b (own_home_address r)) _ _
      (writing _ (home_address_ends o r) write some (plain _ _ refl refl (itself _ _ refl refl refl)))
      (check (at_end o r) _ refl (itself _ _ refl refl refl))

-- the actions of the writes
abbrev writes_by : Action → Bool
writes_by action.WriteHomeAddress = true
writes_by action.Format = true
writes_by action.Update = true
writes_by _ = false

is_write_by : (c : Command) → writes_by (action_of c) ≡ is_write c
is_write_by command.Sense = refl
is_write_by _ = refl

closes : (a : Action) (g : Geometry) (t : Sighted) (o : Opened) (r : Registers) (b : List ℕ)
    → IsClosing r b (writes_by a) (close_by a g t o r b)
closes action.SeekCylinderAndHead g t o r b = whole r b _ r 6 _ (itself _ _ refl refl refl) (λ some. seeks r b _ g)
closes action.SeekHead g t o r b = whole r b _ r 6 _ (itself _ _ refl refl refl) (λ some. head_seeks r b _ g)
closes action.SetFileMask g t o r b = masks r b _ b
closes action.Search g t o r b = searches r b _ o _ _
closes action.WriteHomeAddress g t o r b = whole r b _ (at_end o r) 5 _ (itself _ _ refl refl refl) (homes r b _ o refl)
closes action.Format g t o r b = whole r b _ r 8 _ (itself _ _ refl refl refl) (formats r b _ g t o refl)
closes action.Update g t o r b = updates r b _ (replaced (extent_of o.command) b) t o refl
closes _ g t o r b = area_end r b _ o _

pub closing_facts : (g : Geometry) (t : Sighted) (o : Opened) (r : Registers) (b : List ℕ)
    → IsClosing r b (is_write o.command) (closing g t o r b)
unfolding closing
closing_facts g t o r b = rw (← is_write_by o.command) (closes (action_of o.command) g t o r b)

-- How a command begins: equipment check is not reported.

abbrev pub BeginsSilent : Registers → Beginning → Type 0
BeginsSilent before (Rejected r) = NotTold before r
BeginsSilent before (Immediate r) = NotTold before r
BeginsSilent before (Started r o) = NotTold before r
BeginsSilent before (ToCylinderZero r o) = NotTold before r

cleared_silent : (c : Command) (r : Registers) → NotTold r (cleared c r)
cleared_silent command.Sense r e = e
cleared_silent _ r e = refl

starts_silent : (c : Command) (before r : Registers) (o : Opened) → NotTold before r → BeginsSilent before (started c r o)
starts_silent command.ReadIpl before r o h = h
starts_silent _ before r o h = h

-- a command is refused for a cause without equipment check
abbrev IsOther : Option Sense → Type 0
IsOther (Some s) = bit_and s.0 cause.EQUIPMENT_CHECK.0 ≡ 0
IsOther None = Unit {0}

refusals : (p : Permit) (c : Command) (r : Registers) → IsOther (refusal_under p c r)
refusals NoWrite c r = refl
refusals NoSeek c r = refl
refusals Yes c r = cond_both (is_out_of_sequence c r) (Some cause.OUT_OF_SEQUENCE) None IsOther (λ _. refl) (λ _. tt)

-- what holds where a command is refused, and where it starts, holds of every beginning
pub beginning_by : (P : Beginning → Type 0) (code : ℕ) (r : Registers) → ((c : Command) (bits : ℕ) → bit_and bits cause.EQUIPMENT_CHECK.0
    ≡ 0 → P (Rejected (with_cause (cleared c r) (record { 0 = bits }))))
    → ((c : Command) (o : Opened) → o.command ≡ c → P (started c (cleared c r) o)) → P (beginning code r)
unfolding beginning
beginning_by P code r refused starts = go (decoded code)
  where
    by : (c : CommandCode) (x : Option Sense) → IsOther x → P (begin_allowed c r x)
    by c (Some s) h = refused c.command s.0 h
    by c None h = starts c.command _ refl

    go : (c : Option CommandCode) → P (begin_decoded c r)
    go None = refused command.NoOperation cause.INVALID_COMMAND.0 refl
    go (Some c) = by c (refusal c.command r) (refusals (permit_of r.file_mask c.command) c.command r)

pub beginning_silent : (code : ℕ) (r : Registers) → BeginsSilent r (beginning code r)
beginning_silent code r = beginning_by (BeginsSilent r) code r (λ c bits h. λ e. with_other (cleared c r) bits h (cleared_silent c r e))
    (λ c o _. starts_silent c r (cleared c r) o (cleared_silent c r))

-- How it looks: equipment check is not reported.

abbrev pub SightSilent : Registers → Sight → Type 0
SightSilent before (Found o) = Unit {0}
SightSilent before (IndexPassed r) = NotTold before r
SightSilent before (NextHead r) = NotTold before r
SightSilent before (Missed r) = NotTold before r

pub sight_silent : (g : Geometry) (t : Sighted) (o : Opened) (r : Registers) → SightSilent r (sight g t o r)
sight_silent g t o r = sight_by (SightSilent r) g t o r tt (λ a. tt) (with_other r cause.UNREADABLE_TRACK.0 refl) (λ e. e) (λ _. λ e. e)
    (λ c h. with_other (at_index r) c.0 h)
