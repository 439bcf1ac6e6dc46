-- What the laws of programs need to know of a drive: how a command ends, and what a fault of the store does to it.
use Rattle.std.proofs.Common.{arith, ◌≡◌, ℕ, suc, refl, ap, ◌∙◌, true, false, Bool, not, List, [], ◌∷◌, Option, Some, None, ◌⊎◌, inl, inr}
use Rattle.std.specs.Prelude.{◌&&◌, length, slice_get, slice_set, slice_index_or, option_map, ◌==◌}
use Rattle.std.proofs.lemmas.Nat.{and_or_self, and_or_apart}
use Rattle.s360_words.specs.declared.flags.TheConstants.UnitStatus.{UNIT_CHECK}
use Rattle.s360_words.specs.declared.flags.UnitStatus.{UnitStatus}
use Rattle.s360_words.specs.Storage.{overwritten}
use Rattle.s360_words.proofs.Overwriting.{length-overwritten}
use Rattle.ckd_command.specs.declared.registers.Registers.{Registers}
use Rattle.ckd_command.specs.Answers as answer
use Rattle.ckd_command.specs.Commands.{Closing, beginning, sight}
use Rattle.ckd_command.specs.Drive.{IdleDrive, State, Volume, unsaved, tells_equipment_check, is_written, drive_of, number_under}
use Rattle.ckd_command.specs.Drive.{slot_under, track_under, Fault, LoadFails, SaveFails, left_by, lost, saving, moving_off, with_registers}
use Rattle.ckd_command.specs.Drive.{with_store_fault, Open, Rejected, begin, begun, Failed, look, looked, Closed, failed, close, closed}
use Rattle.ckd_command.specs.Drive.{closed_moving, settled, with_unit_check}
use Rattle.ckd_command.proofs.Arms.{AtSameTrack, BeginsAt, beginning_at, closing_at, closing_empty}
use Rattle.ckd_command.proofs.CommandFacts.{IsClosing, closing_facts, store_fault_is_told}
use Rattle.s360_laws.specs.Endings.{immediate}
use Rattle.s360_laws.specs.Status.{tells}
use Rattle.s360_laws.specs.StoreCalls.{closing_of, goes_to_next_head, leaves_as_it_begins, leaves_looking, looks_for_area}
use Rattle.s360_laws.specs.Faults.{LosesAtMost}
use Rattle.s360_laws.specs.Laws.{IsEnd}
use Rattle.s360_laws.proofs.Units.{BegunIs, LookIs}

-- How a command ends.

-- a command is closed with channel end, and device end unless the arm still moves
pub close_end : (f : Option Fault) (o : Open) (b : List ℕ) → IsEnd (close f o b).unit (close f o b).motion
close_end f o b = by (closing_of o b) (closing_of o b).moves_off (closing_facts _ _ _ _ b)
  where
    by : {w : Bool} (c : Closing) (moves_off : Bool) → IsClosing o.state.registers b w c → let d = closed f o.state c moves_off in
        IsEnd d.unit d.motion
    by c true h = elim (left_by f o.state.mark)
        as (λ x. let d = saving x o.state failed (closed_moving o.state c) in IsEnd d.unit d.motion) [
          | Some left ↦ record { channel_end = refl; device_end = refl }
          | None ↦ record {
            channel_end = h.channel_end;
            device_end =
                h.device_end;
          }
        ]
    by c false h = record { channel_end = h.channel_end; device_end = h.device_end }

pub joins_check : (unit : UnitStatus) → tells (with_unit_check unit) UNIT_CHECK ≡ true
joins_check unit = ap (λ n. not (n == 0)) (and_or_self 0x02 unit.0)

-- unit check is told beside these
pub joins_end : (unit : UnitStatus) (motion : Bool) → IsEnd unit motion → IsEnd (with_unit_check unit) motion
joins_end unit motion h = record {
  channel_end = ap (λ n. not (n == 0)) (and_or_apart 0x08 unit.0 0x02 refl) ∙ h.channel_end;
  device_end = ap (λ n. not (n == 0)) (and_or_apart 0x04 unit.0 0x02 refl) ∙ h.device_end;
}

-- and saving its track keeps them
pub settle_end : (f : Option Fault) (c : Closed) → IsEnd c.unit c.motion → IsEnd (settled f c).unit (settled f c).motion
settle_end f c h = elim (left_by f c.state.mark) as (λ x. let d =
    saving x c.state (λ s. record c { state = s; unit = with_unit_check c.unit }) c in
    IsEnd d.unit d.motion) [ None ↦ h | Some left ↦ joins_end c.unit c.motion h ]

pub immediate_end : (s : State) (motion : Bool) → IsEnd (immediate s motion).unit motion
immediate_end s motion = record { channel_end = grind arith; device_end = grind arith }

-- Slots.

pub get_set_other : (xs : List (List ℕ)) (i j : ℕ) (y : List ℕ) → (j ≡ i → ⊥) → slice_get (slice_set xs i y) j ≡ slice_get xs j
get_set_other (x ∷ xs) (suc i) (suc j) y h = get_set_other xs i j y (λ e. h (ap suc e))
get_set_other xs i j y h = grind arith

get_set_size : (xs : List (List ℕ)) (i : ℕ) (left : List ℕ)
    → option_map length (slice_get (slice_set xs i (overwritten (slice_index_or xs i []) 0 left)) i) ≡ option_map length (slice_get xs i)
get_set_size (x ∷ xs) (suc i) left = get_set_size xs i left
get_set_size xs i left = grind (arith, length-overwritten)

-- Faults.

-- what a call of the store that fails leaves of a drive: equipment check, at most one lost slot, and the arm where it was
pub record Fails (fault : Fault) (before : IdleDrive) (at : Registers) (s : State) : Type 0 where
  pub equipment_check : tells_equipment_check (drive_of s).sense ≡ true
  pub slots : LosesAtMost fault before (drive_of s) (unsaved s)
  pub arm : AtSameTrack at s.registers

pub same_arm : (r : Registers) → AtSameTrack r r
same_arm r = record { cylinder = refl; head = refl }

-- a save that fails, where the slots before and the arm were the same
pub lost_fails : (left : List ℕ) (s : State) (before : IdleDrive) (at : Registers) → s.volume ≡ before.volume → AtSameTrack at s.registers
    → Fails (SaveFails left) before at (lost s left)
lost_fails left s before at e k = record {
  equipment_check = store_fault_is_told s.registers;
  slots = (
    refl,
    record {
      geometry = ap (λ v. v.geometry) e;
      others = λ n h. get_set_other s.volume.slots (number_under s) n (overwritten (slot_under s) 0 left) h
          ∙ ap (λ v. slice_get v.slots n) e;
      size = get_set_size s.volume.slots (number_under s) left ∙ ap (λ v. option_map length (slice_get v.slots (number_under s))) e;
    },
  );
  arm = record { cylinder = k.cylinder; head = k.head };
}

pub load_fails : (o : Open) → Fails LoadFails (drive_of o.state) o.state.registers (with_store_fault o.state)
load_fails o = record {
  equipment_check = store_fault_is_told o.state.registers;
  slots = refl;
  arm = record {
    cylinder = refl;
    head =
        refl;
  };
}

-- what a save that fails comes to, where the track is written; and where it is not, nothing is saved
pub saving_or : {A : Type 0} (left : List ℕ) (s : State) (fails : State → A) (goes : A) → let x =
    moving_off (Some (SaveFails left)) s fails goes in (is_written s ≡ true → x ≡ fails (lost s left)) × (is_written s ≡ false → x ≡ goes)
saving_or left s fails goes = grind arith

-- what is so of a save alone
abbrev pub if_save : Fault → Bool → Bool
if_save LoadFails b = false
if_save (SaveFails left) b = b

-- A call of the drive in which the fault is met, and that is else the same.
abbrev pub FailsOr : {A : Type 0} → (met : Bool) → Fault → (before : IdleDrive) → Registers → (State → A) → (Option Fault → A) → Type 0
FailsOr met f before at fails call =
    (met ≡ true → (t : State) × (call (Some f) ≡ fails t) × Fails f before at t) × (met ≡ false → call (Some f) ≡ call None)

-- One whose save fails where the arm or the head leaves a written track. The drive moves off from the registers `r`,
-- and the volume and the arm are tied to those before it: a command that is closed has other registers than the phase
-- that it ends. Its premises are many, since a closing, a look and a beginning come here.
leaves_or : {A : Type 0} (left : List ℕ) (s : State) (r : Registers) (before : IdleDrive) (at : Registers) (fails : State → A) (y : A)
    → s.volume ≡ before.volume → AtSameTrack at r
    → FailsOr (is_written s) (SaveFails left) before at fails (λ f. moving_off f (with_registers s r) fails y)
leaves_or left s r before at fails y e k =
    let t = with_registers s r in
    let h = saving_or left t fails y in
    (λ w. (lost t left, h.0 w, lost_fails left t before at e k), h.1)

-- Closing.

pub close_fails : (f : Fault) (o : Open) (b : List ℕ) (before : IdleDrive) (at : Registers) → (close None o b).state.volume ≡ before.volume
    → AtSameTrack at o.state.registers
    → FailsOr (if_save f ((closing_of o b).moves_off && is_written o.state)) f before at failed (λ f. close f o b)
close_fails f o b before at e k = go f (closing_of o b) (closing_of o b).moves_off e
  where
    go : (f : Fault) (c : Closing) (moves_off : Bool) → (closed None o.state c moves_off).state.volume ≡ before.volume
        → FailsOr (if_save f (moves_off && is_written o.state)) f before at failed (λ f. closed f o.state c moves_off)
    go (SaveFails left) c true e = leaves_or left o.state o.state.registers before at failed (closed_moving o.state c) e k
    go f c moves_off e = (λ h. absurd (grind arith), λ h. grind arith)

-- a command that leaves its track written leaves the arm there, and at rest
pub record StaysWritten (at : Registers) (c : Closed) : Type 0 where
  pub motion : c.motion ≡ false
  pub arm : AtSameTrack at c.state.registers

pub close_stays : (o : Open) (b : List ℕ) → is_written (close None o b).state ≡ true → StaysWritten o.state.registers (close None o b)
close_stays o b = go (closing_of o b) (closing_of o b).moves_off (closing_at _ _ _ _ b) refl
  where
    go : (c : Closing) (moves_off : Bool) → ((c.moves_off ≡ true) ⊎ ((c.motion ≡ false) × AtSameTrack o.state.registers c.registers))
        → c.moves_off ≡ moves_off
        → is_written (closed None o.state c moves_off).state ≡ true → StaysWritten o.state.registers (closed None o.state c moves_off)
    go c true h e w = absurd (cc)
    go c false (inl h) e w = absurd (cc)
    go c false (inr h) e w = record { motion = h.0; arm = h.1 }

-- with no byte no command leaves its track
pub empty_stays : (o : Open) → (closing_of o []).moves_off ≡ false
empty_stays o = closing_empty _ _ _ _

-- nor does it change one
empty_writes : (o : Open) → (closing_of o []).written ≡ None
empty_writes o = elim (closing_facts o.state.volume.geometry (track_under o.state) o.opened o.state.registers []).written
    [ inl h ↦ h | inr h ↦ absurd (h.0 refl) ]

pub close_none : (o : Open) → ((close None o []).state.volume ≡ o.state.volume) × (is_written (close None o []).state ≡ is_written o.state)
close_none o = rw (empty_stays o, empty_writes o) (refl, refl)

-- Settle.

-- where the command failed already by this fault, nothing more is lost as the program ends
pub settle_again : (f : Fault) (c : Closed) (before : IdleDrive) (at : Registers) → Fails f before at c.state → settled (Some f) c ≡ c
settle_again f c before at h = grind arith

-- Looks.

-- a load that fails ends a look for an area; one that does not look for any makes none
pub look_loads : (o : Open) → (looks_for_area o ≡ true → look (Some LoadFails) o ≡ Failed (with_store_fault o.state))
    × (looks_for_area o ≡ false → look (Some LoadFails) o ≡ look None o)
look_loads o = grind arith

-- what an open command sights of the track under the arm
abbrev pub sighted : Open → answer.Sight
sighted o = sight o.state.volume.geometry (track_under o.state) o.opened o.state.registers

-- whether a look meets a fault: it loads, or it saves before the head goes on to the next track
abbrev pub look_meets : Fault → Open → Bool
look_meets LoadFails o = looks_for_area o
look_meets (SaveFails left) o = leaves_looking o && is_written o.state

pub look_fails : (f : Fault) (o : Open) → FailsOr (look_meets f o) f (drive_of o.state) o.state.registers Failed (λ f. look f o)
look_fails LoadFails o = let h = look_loads o in (λ w. (with_store_fault o.state, h.0 w, load_fails o), h.1)
look_fails (SaveFails left) o = go (sighted o)
  where
    go : (s : answer.Sight) → FailsOr (goes_to_next_head s && is_written o.state) (SaveFails left) (drive_of o.state) o.state.registers
        Failed (λ f. looked f o s)
    go (answer.NextHead r) = leaves_or left o.state o.state.registers _ _ Failed _ refl (same_arm o.state.registers)
    go s = (λ h. absurd (cc), λ h. refl)

-- Beginnings.

-- a save fails before the arm goes to cylinder 0
pub begin_fails : (f : Fault) (code : ℕ) (s : State)
    → FailsOr (if_save f (leaves_as_it_begins (beginning code s.registers) && is_written s)) f (drive_of s) s.registers Rejected
    (λ f. begin f code s)
begin_fails f code s = go f (beginning code s.registers) (beginning_at code s.registers)
  where
    go : (f : Fault) (b : answer.Beginning) → BeginsAt s.registers b → FailsOr (if_save f (leaves_as_it_begins b && is_written s)) f
        (drive_of s) s.registers Rejected (λ f. begun f s b)
    go (SaveFails left) (answer.ToCylinderZero r None) k = leaves_or left s r _ _ Rejected _ refl k
    go (SaveFails left) (answer.ToCylinderZero r (Some o)) k = leaves_or left s r _ _ Rejected _ refl k.0
    go f b k = (λ h. absurd (grind arith), λ h. grind arith)

-- Beginning and looking change no slot: what holds of the volume holds of it behind them.

abbrev pub VolumeClosed : (Volume → Type 0) → Closed → Type 0
VolumeClosed V c = V c.state.volume

abbrev pub VolumeIn : (Volume → Type 0) → State → Type 0
VolumeIn V s = V s.volume

pub begin_keeps : (V : Volume → Type 0) (code : ℕ) (s : State) → V s.volume → BegunIs (VolumeClosed V) (VolumeIn V) (begin None code s)
begin_keeps V code s h = grind arith

pub look_keeps : (V : Volume → Type 0) (o : Open) → V o.state.volume → LookIs (VolumeClosed V) (VolumeIn V) None (look None o)
look_keeps V o h = go (sighted o)
  where
    go : (s : answer.Sight) → LookIs (VolumeClosed V) (VolumeIn V) None (looked None o s)
    go (answer.Found opened) = (h, rw (close_none (record o { opened = opened })).0 h)
    go s = h
