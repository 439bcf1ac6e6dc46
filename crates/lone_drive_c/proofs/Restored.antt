-- What a save wrote is restored.
use Rattle.std.proofs.Common.{◌≡◌, ◌∙◌, arith, refl, ap, subst, ℤ, pos, ℕ, ◌/◌, ◌%◌}
use Rattle.std.proofs.Common.{List, [], ◌∷◌, ◌++◌, drop, length, take, Bool, true, false, not, ◌&&◌, Option, Some, None}
use Rattle.std.specs.Prelude.{is_none, nat_le}
use Rattle.byteorder.specs.Endian.{big_number}
use Rattle.ckd_track.specs.declared.geometries.Geometry.{Geometry}
use Rattle.ckd_position.specs.declared.areas.Position.{Position}
use Rattle.ckd_position.specs.declared.areas.Position.TheVariants.{AtIndex, At}
use Rattle.ckd_sense.specs.Masks.{mask_of_byte}
use Rattle.ckd_sense.specs.declared.masks.FileMask.{FileMask}
use Rattle.ckd_sense.specs.declared.masks.WritePermission.{WritePermission}
use Rattle.ckd_sense.specs.declared.masks.WritePermission.TheVariants.{InhibitHomeAddressAndR0, InhibitAllWrites}
use Rattle.ckd_sense.specs.declared.masks.WritePermission.TheVariants.{InhibitFormatWrites, PermitAllWrites}
use Rattle.ckd_sense.specs.declared.masks.SeekPermission.{SeekPermission}
use Rattle.ckd_sense.specs.declared.masks.SeekPermission.TheVariants.{PermitAllSeeks, PermitSeekCylinderAndHead}
use Rattle.ckd_sense.specs.declared.masks.SeekPermission.TheVariants.{PermitSeekHead, InhibitAllSeeks}
use Rattle.ckd_command.specs.declared.registers.Credit.{Credit}
use Rattle.ckd_command.specs.declared.registers.Lap.{Lap}
use Rattle.ckd_command.specs.declared.registers.Lap.TheVariants.{First, Second}
use Rattle.ckd_command.specs.declared.registers.Mark.{Mark}
use Rattle.ckd_command.specs.declared.registers.Mark.TheVariants.{Saved, Written, Lost}
use Rattle.ckd_command.specs.declared.registers.Registers.{Registers}
use Rattle.ckd_command.specs.Commands.{program_start}
use Rattle.ckd_image.specs.Image.{ImageState}
use Rattle.ckd_command.specs.Drive.{Volume, is_written, is_written_by, unsaved, unsaved_by}
use Rattle.ckd_drive.specs.Work.{Work, Idle, Over, Looking, Passing, DriveState}
use Rattle.ckd_drive.specs.Work.{begun_program, has_track, is_idle, owed_mark, restored}
use Rattle.lone_drive_c.specs.Calls.{Allowed}
use Rattle.lone_drive_c.specs.Saving.{are_first, is_at_index, is_between, is_first, permits_all_seeks, permits_as_first, saved_bytes}
use Rattle.lone_drive_c.specs.Saving.{cylinder_in, head_in, sense_in}
use Rattle.lone_drive_c.specs.Saving.{BeginsBetween, SavedIsRestored, TellsRestored}
use Rattle.lone_drive_c.specs.Codes.{command_open, no_room, no_track, not_saved, program_runs}

-- What is remembered of a program.

both : (a b : Bool) → (a && b) ≡ true → (a ≡ true) × (b ≡ true)
both true b e = (refl, e)
both false b e = absurd (cc)

at_index : (p : Position) → is_at_index p ≡ true → p ≡ AtIndex
at_index AtIndex e = refl
at_index (At a) e = absurd (cc)

first : (l : Lap) → is_first l ≡ true → l ≡ First
first First e = refl
first Second e = absurd (cc)

writes : (w : WritePermission) → permits_as_first w ≡ true → w ≡ InhibitHomeAddressAndR0
writes InhibitHomeAddressAndR0 e = refl
writes InhibitAllWrites e = absurd (cc)
writes InhibitFormatWrites e = absurd (cc)
writes PermitAllWrites e = absurd (cc)

seeks : (s : SeekPermission) → permits_all_seeks s ≡ true → s ≡ PermitAllSeeks
seeks PermitAllSeeks e = refl
seeks PermitSeekCylinderAndHead e = absurd (cc)
seeks PermitSeekHead e = absurd (cc)
seeks InhibitAllSeeks e = absurd (cc)

unset : (b : Bool) → not b ≡ true → b ≡ false
unset true e = absurd (cc)
unset false e = refl

none : (c : Option Credit) → is_none c ≡ true → c ≡ None
none None e = refl
none (Some c) e = absurd (cc)

saved : (m : Mark) (r : Registers) → is_written_by m ≡ false → is_none (unsaved_by m r) ≡ true → m ≡ Saved
saved Saved r w u = refl
saved Written r w u = absurd (cc)
saved Lost r w u = absurd (cc)

idle : (w : Work) → is_idle w ≡ true → w ≡ Idle
idle Idle e = refl
idle (Over k) e = absurd (cc)
idle (Looking o) e = absurd (cc)
idle (Passing o b left) e = absurd (cc)

mask : (w : WritePermission) (s : SeekPermission) → w ≡ InhibitHomeAddressAndR0 → s ≡ PermitAllSeeks
    → mask_of_byte 0x00 ≡ record { writes = w; seeks = s }
mask w s e f = cc

fields : (r : Registers) (p : Position) (m : FileMask) (b : Bool) (c : Option Credit) (l : Lap) → p ≡ AtIndex → mask_of_byte 0x00 ≡ m
    → b ≡ false → c ≡ None → l ≡ First
    → program_start r ≡ record r { position = p; file_mask = m; mask_set = b; credit = c; lap = l }
fields r p m b c l e f g h i = cc

-- registers with which a program begins
starts : (r : Registers) → are_first r ≡ true → program_start r ≡ r
starts r e =
    let p = both (is_at_index r.position) _ e in
    let l = both (is_first r.lap) _ p.1 in
    let w = both (permits_as_first r.file_mask.writes) _ l.1 in
    let s = both (permits_all_seeks r.file_mask.seeks) _ w.1 in
    let m = both (not r.mask_set) (is_none r.credit) s.1 in
    fields r r.position r.file_mask r.mask_set r.credit r.lap (at_index r.position p.0)
    (mask r.file_mask.writes r.file_mask.seeks (writes r.file_mask.writes w.0) (seeks r.file_mask.seeks s.0)) (unset r.mask_set m.0)
    (none r.credit m.1) (first r.lap l.0)

owed : (m : Mark) (r : Registers) → is_none (unsaved_by (owed_mark m) r) ≡ true
owed Saved r = refl
owed Written r = refl
owed Lost r = refl

pub begins_between : BeginsBetween
begins_between s = owed s.mark (begun_program s).registers

-- Bytes.

number : (n : ℕ) → big_number 2 (n / 256 ∷ n % 256 ∷ []) ≡ n
number n = omega arith

-- a save that is told as done was allowed
told : (i n b w : Bool) (does kept : Type 0)
    → Allowed i command_open (Allowed n not_saved (Allowed b program_runs (Allowed w no_room does (pos 0) kept) (pos 0) kept) (pos 0) kept)
    (pos 0) kept
    → ((i ≡ true) × (n ≡ true)) × ((b ≡ true) × does)
told true true true true does kept a = ((refl, refl), (refl, a))
told true true true false does kept a = absurd (let h : pos 0 ≡ no_room = a.0 in cc)
told true true false w does kept a = absurd (let h : pos 0 ≡ program_runs = a.0 in cc)
told true false b w does kept a = absurd (let h : pos 0 ≡ not_saved = a.0 in cc)
told false n b w does kept a = absurd (let h : pos 0 ≡ command_open = a.0 in cc)

-- a restore that is allowed is done
done : (i n t : Bool) (does : Type 0) (code : ℤ) (kept : Type 0) → i ≡ true → n ≡ true → t ≡ true
    → Allowed i command_open (Allowed n not_saved (Allowed t no_track does code kept) code kept) code kept → does
done true true true does code kept e f g a = a
done true true false does code kept e f g a = absurd (cc)
done true false t does code kept e f g a = absurd (cc)
done false n t does code kept e f g a = absurd (cc)

-- what was written is read
written_first : (r : Registers) (rest into : List ℕ) (written : ℕ) → into ≡ saved_bytes r ++ rest → written ≡ 15
    → take written into ≡ saved_bytes r
written_first r rest into written i w = ap (take written) i ∙ ap (λ n. take n (saved_bytes r ++ rest)) w

has_place : (g : Geometry) (r : Registers) → has_track g r.cylinder r.head ≡ true
    → has_track g (cylinder_in (saved_bytes r)) (head_in (saved_bytes r)) ≡ true
has_place g r has =
    ap (λ c. has_track g c (head_in (saved_bytes r))) (number r.cylinder) ∙ (ap (has_track g r.cylinder) (number r.head) ∙ has)

at_place : (c c' h h' s s' : ℕ) (e : DriveState) → c ≡ c' → h ≡ h' → s ≡ s'
    → restored c h (record { 0 = s }) e ≡ restored c' h' (record { 0 = s' }) e
at_place c c' h h' s s' e p q t = cc

-- a drive of these parts
abbrev whole : ImageState → Volume → Registers → Mark → Work → DriveState
whole i v r m w = record { image = i; state = record { volume = v; registers = r; mark = m }; work = w }

-- this drive with these registers, and no track that waits
abbrev with_all : DriveState → Registers → DriveState
with_all e r = whole e.image e.state.volume r Saved e.work

back : (r : Registers) (e : DriveState) → are_first r ≡ true
    → restored (cylinder_in (saved_bytes r)) (head_in (saved_bytes r)) (sense_in (saved_bytes r)) e ≡ with_all e r
back r e f =
    at_place _ r.cylinder _ r.head _ r.sense.0 e (number r.cylinder) (number r.head) (number r.sense.0) ∙ ap (with_all e) (starts r f)

same : (i : ImageState) (v : Volume) (r : Registers) (m : Mark) (w u : Work) → m ≡ Saved → w ≡ Idle → u ≡ Idle
    → whole i v r Saved u ≡ whole i v r m w
same i v r m w u e f g = cc

pub saved_is_restored : SavedIsRestored
saved_is_restored d e f bytes code by can restore =
    let r = d.state.registers in
    let k = told (is_idle d.work) (not (is_written d.state)) (is_between d.state) (nat_le 15 (length by.before))
    ((pos 0 ≡ pos 0) × (by.into ≡ saved_bytes r ++ drop 15 by.before) × (by.written ≡ 15))
    ((by.into ≡ by.before) × (by.written ≡ by.was)) by.told in
    let z = both (are_first r) (is_none (unsaved d.state)) k.1.0 in
    let all : bytes ≡ saved_bytes r = by.are ∙ written_first r (drop 15 by.before) by.into by.written k.1.1.1 k.1.1.2 in
    let t = subst (λ b. TellsRestored code b e f) all restore in
    let p = done (is_idle e.work) (not (is_written e.state))
    (has_track e.state.volume.geometry (cylinder_in (saved_bytes r)) (head_in (saved_bytes r)))
    ((code ≡ pos 0) × (f ≡ restored (cylinder_in (saved_bytes r)) (head_in (saved_bytes r)) (sense_in (saved_bytes r)) e)) code (f ≡ e)
    can.idle (ap not can.saved) (has_place e.state.volume.geometry r can.track) t in (
      p.0,
      p.1
          ∙ (back r e z.0 ∙ same e.image e.state.volume r d.state.mark d.work e.work
          (saved d.state.mark r (unset (is_written d.state) k.0.1) z.1) (idle d.work k.0.0) (idle e.work can.idle)),
    )
