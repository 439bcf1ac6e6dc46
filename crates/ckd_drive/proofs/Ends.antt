-- How commands end.
use Rattle.std.proofs.Common.{rules, inl, inr, subst, ◌≡◌, ◌∙◌, ap, sym, refl, ℕ, ◌+◌, ◌<◌, List, [], ◌∷◌, Bool, true, false, ◌&&◌}
use Rattle.std.proofs.Common.{◌||◌, ◌==◌, nat_lt, if◌then◌else◌, Option, Some, None, length, take, set-set, get_or-set_same, slice_set}
use Rattle.std.proofs.Common.{slice_range, append-nil, length-drop, bytes_eq, arith}
use Rattle.std.proofs.lemmas.List.{set-get_or}
use Rattle.std.proofs.lemmas.Bool.{and_parts, cond_both, ltb-true}
use Rattle.std.proofs.lemmas.Bool.Decides.{nat_tests}
use Rattle.std.proofs.Math.Bool.{and-true, and-false}
use Rattle.ckd_track.specs.Track.{Track, track_of, slot_of}
use Rattle.ckd_track.specs.Model.{heads_of}
use Rattle.ckd_track.specs.declared.geometries.Geometry.{Geometry}
use Rattle.ckd_command.specs.declared.registers.Registers.{Registers}
use Rattle.ckd_command.specs.declared.registers.Credit.{Credit}
use Rattle.ckd_command.specs.declared.registers.Mark.{Mark}
use Rattle.ckd_command.specs.declared.registers.Mark.TheVariants.{Saved, Lost}
use Rattle.ckd_command.specs.declared.tables.Action.{Action}
use Rattle.ckd_command.specs.declared.tables.Action.TheVariants as action
use Rattle.ckd_command.specs.declared.begin.Opened.{Opened}
use Rattle.ckd_command.specs.Answers.{CommandEnd}
use Rattle.ckd_slot.specs.declared.windows.Window.{Window}
use Rattle.ckd_drive.specs.declared.transfer.Transfer.{Transfer}
use Rattle.ckd_drive.specs.declared.transfer.Transfer.TheVariants.{Field, Search, Due, Filled}
use Rattle.ckd_drive.specs.declared.answers.DriveStage.TheVariants.{Idle}
use Rattle.ckd_command.specs.Tables.{action_of}
use Rattle.ckd_position.specs.Contents.{Sighted}
use Rattle.ckd_command.specs.Commands.{Closing, IsAtTrack, area_bytes, close_by, command_end, search_ends, own_home_address}
use Rattle.ckd_command.specs.Commands.{new_record_fits, number as number_of, whole_field, at_end}
use Rattle.ckd_slot.specs.Cache.{CacheState, after_save, after_failed_save}
use Rattle.ckd_drive.specs.Invariant.{Stands, HasFilled, state_of, IsPlaced, IsField, CreditIs, AtHand, seen_by, track_under, is_filled}
use Rattle.ckd_drive.specs.Invariant.{is_filled_by, HalfDone, Parts, parts_of, own_track, AtWork, at_work, geometry_in, number_in, slot_in}
use Rattle.ckd_drive.specs.Invariant.{closing_in, closes_by, Goes}
use Rattle.ckd_drive.specs.Passing.{mark_left, command_end_at, field_ends, is_due}
use Rattle.ckd_command.specs.Drive.{State, closed_staying, SaveFails, is_written_by}
use Rattle.ckd_command.specs.declared.close.DriveEnding.{DriveEnding}
use Rattle.ckd_drive.specs.declared.transfer.WrittenArea.{WrittenArea}
use Rattle.ckd_drive.specs.declared.transfer.WrittenArea.TheVariants as written
use Rattle.ckd_drive.specs.Work.{DriveState, CallsStore, closed_of, ending_of, after_end, end_saves, failed_ending, fault_met, with_image}
use Rattle.ckd_drive.proofs.Calls.{changed_is, calls_none, calls_of_save, calls_of_failed_save, fault_none, lost_registers, save_lost}
use Rattle.ckd_drive.specs.Calls.{Ends, Leaves, Loses}
use Rattle.ckd_drive.proofs.Reported.{end_reports}
use Rattle.ckd_drive.proofs.Moving.{Finished}
use Rattle.ckd_drive.proofs.Standing.{no_credit, geometry_saved, failures_saved, saved_stands, lost_stands, seen_track, goes_of}
use Rattle.ckd_drive.proofs.Standing.{no_filled_seen, number_there}
use Rattle.ckd_command.proofs.Closings.{closing_by}
use Rattle.ckd_command.proofs.Arms.{AtSameTrack, closing_at}

-- of three tests the last one leads to a track that is written
three : (x y z : Bool) (p q s k : Closing) → (if x then p else (if y then q else (if z then s else k))).written ≡ None
    → (z ≡ true → s.written ≡ None → ⊥)
    → (if x then p else (if y then q else (if z then s else k))) ≡ (if x then p else (if y then q else k))
three false false true p q s k w n = absurd (n refl w)
three _ _ _ p q s k w n = refl

field_closes : (a : Action) (g : Geometry) (t : Sighted) (o : Opened) (r : Registers) (b : List ℕ) → IsField a
    → (close_by a g t o r b).written ≡ None → close_by a g t o r b ≡ field_ends a g o r b
field_closes action.WriteHomeAddress g t o r b f w = three (length b == 0) (nat_lt (length b) 5) (bytes_eq b (own_home_address r)) _ _ _ _ w
    (λ e x. cc)
field_closes action.Format g t o r b f w = three (length b == 0) (nat_lt (length b) 8) (new_record_fits g t o b) _ _ _ _ w (λ e x. cc)
field_closes _ g t o r b f w = search rules

search_stays : (o : Opened) (r : Registers) (a b : Bool) → ((search_ends o r a b).written ≡ None)
    × ((search_ends o r a b).moves_off ≡ false)
search_stays o r true b = (refl, refl)
search_stays o r false b = (refl, refl)

-- how a command closes is known by its place
pub command_end_is : (job : AtWork) (p : Transfer) (moved : ℕ)
    → is_due p ≡ false → number_in job < length job.cache.slots → IsPlaced job p → length job.passed ≡ moved
    → command_end (closing_in job (seen_track job p)) ≡ command_end_at (geometry_in job) job.registers job.opened moved p
command_end_is job (Due w number count) moved made lt x m = absurd cc
command_end_is job (Filled w u) moved made lt x m =
    rw (get_or-set_same job.cache.slots (number_in job) job.before [] lt)
    (rw (append-nil job.passed) at (x.filled.closes [] (omega arith)).so)
command_end_is job (Field f) moved made lt x m =
    let t = track_of (slot_in job) in
    let a = action_of job.opened.command in
    let is = closing_by a (geometry_in job) t job.opened job.registers job.passed refl in
    let plain = field_closes a (geometry_in job) t job.opened job.registers job.passed x.0.is_field (ap (λ (k : Closing). k.written)
    (sym is) ∙ x.2) in
    rw (rw m at x.0.collected) (ap command_end (is ∙ plain))
command_end_is job (Search w so_far) moved made lt x m =
    let t = track_of (slot_in job) in
    let area = area_bytes t job.opened job.registers in
    let is = closing_by action.Search (geometry_in job) t job.opened job.registers job.passed x.0.is_search in
    let size : length area ≡ length job.passed + w.len = omega (arith, x.0.lies.size, length-drop (length job.passed) area, x.0.room) in
    let whole : (length job.passed == length area) ≡ (w.len == 0) = grind (arith, nat_tests, size) in
    ap command_end is ∙ rw (whole, x.0.compared, m) refl
command_end_is job _ moved made lt x m = x.2.so

pub unwritten_is : (job : AtWork) (p : Transfer)
    → is_due p ≡ false → IsPlaced job p → is_filled_by p ≡ false → (closing_in job (seen_track job p)).written ≡ None
unwritten_is job (Due w number count) made x f = absurd cc
unwritten_is job (Filled w u) made x f = absurd cc
unwritten_is job (Field y) made x f = x.2
unwritten_is job (Search w so_far) made x f =
    ap (λ (k : Closing). k.written) (closing_by action.Search (geometry_in job) (track_of (slot_in job)) job.opened job.registers job.passed
    x.0.is_search) ∙ (search_stays job.opened job.registers _ _).0
unwritten_is job _ made x f = x.2.unwritten

-- The state that is left.

-- a track that was written is in its place
written_there : (job : AtWork) (w : Window) (u : WrittenArea) → number_in job < length job.cache.slots → HasFilled job w u
    → (t : Track) × ((closing_in job (seen_track job (Filled w u))).written ≡ Some t)
    × (slice_set (slice_set job.cache.slots (number_in job) job.before) (number_in job) (slot_of (geometry_in job).track_size t)
    ≡ job.cache.slots)
written_there job w u lt x =
    let k = x.filled.closes [] (omega arith) in
    let slot : slot_of (geometry_in job).track_size k.track ≡ slot_in job = k.slot_is ∙ rw (append-nil job.passed) (sym x.slot_is) in (
      k.track,
      rw (get_or-set_same job.cache.slots (number_in job) job.before [] lt) (rw (append-nil job.passed) at k.written),
      rw (slot, set-set job.cache.slots (number_in job) job.before (slot_in job)) (set-get_or job.cache.slots (number_in job) []),
    )

pub staying : (job : AtWork) (m : Mark) (p : Transfer) (u : CommandEnd)
    → is_due p ≡ false → number_in job < length job.cache.slots → IsPlaced job p → command_end (closing_in job (seen_track job p)) ≡ u
    → closed_staying (record {
      volume = record { geometry = geometry_in job; slots = seen_by job.cache.slots (number_in job) job.before p };
      registers = job.registers;
      mark = m;
    }) (closing_in job (seen_track job p))
    ≡ record {
      state =
          record { volume = record { geometry = geometry_in job; slots = job.cache.slots }; registers = u.registers; mark = mark_left p m };
      unit = u.ending.unit;
      motion = u.ending.motion;
    }
staying job m (Filled w v) u made lt x out = (let there = written_there job w v lt x in rw (there.1, there.2, ← out) refl)
staying job m (Due w number count) u made lt x out = absurd cc
staying job m p u made lt x out = rw (unwritten_is job p made x refl, ← out) refl

-- A drive that is so for those who call it stands while the bytes of a command pass, which would close so; a record that was
-- due is made.
pub record Closes (d : Parts) (now : DriveState) (u : CommandEnd) : Type 0 where
  pub drive : Finished d now d.job
  pub out : u ≡ command_end_at d.job.cache.image.geometry d.job.registers d.job.opened d.job.progress.moved d.job.progress.place

-- Where the arm is then, and the credit.

-- where the arm stays a credit is for a track at hand; where it moves there is none, and the arm goes to a track
pub record Lands (c : CacheState) (g : Geometry) (n : ℕ) (u : CommandEnd) : Type 0 where
  pub stays : u.moves_off ≡ false → CreditIs u.registers.credit c n
  pub moves : u.moves_off ≡ true → IsAtTrack g u.registers × (u.registers.credit ≡ None)

any_credit : (c : CacheState) (n : ℕ) (k : Option Credit) → AtHand c n → CreditIs k c n
any_credit c n None h = tt
any_credit c n (Some k) h = h

module _ (c : CacheState) (g : Geometry) (n : ℕ) where
  -- an end that stays, without a credit
  plain : (u : CommandEnd) → u.moves_off ≡ false → u.registers.credit ≡ None → Lands c g n u
  plain u off none = record { stays = λ _. no_credit c u.registers n none; moves = λ e. absurd cc }

  -- and over a track at hand
  over_hand : (u : CommandEnd) → u.moves_off ≡ false → AtHand c n → Lands c g n u
  over_hand u off h = record { stays = λ _. any_credit c n u.registers.credit h; moves = λ e. absurd cc }

  gone : (u : CommandEnd) → u.moves_off ≡ true → IsAtTrack g u.registers → u.registers.credit ≡ None → Lands c g n u
  gone u off at none = record { stays = λ e. absurd cc; moves = λ _. (at, none) }

  abbrev LandsBy : Closing → Type 0
  LandsBy k = Lands c g n (command_end k)

  -- a field that must come whole moves nothing, unless it is whole
  whole : (q : Registers) (b : List ℕ) (size : ℕ) (k : Closing) → q.credit ≡ None → LandsBy k → LandsBy (whole_field q b size k)
  whole q b size k none l = cond_both (length b == 0) _ _ LandsBy (λ _. plain _ refl none)
      (λ _. cond_both (nat_lt (length b) size) _ _ LandsBy (λ _. plain _ refl none) (λ _. l))

  -- how a field ends, by its action, over any bytes of it
  field : (r : Registers) (o : Opened) (a : Action) (b : List ℕ) → r.credit ≡ None → IsAtTrack g r → IsField a
      → LandsBy (field_ends a g o r b)
  field r o action.SeekCylinderAndHead b none at f =
      let cylinder = number_of (slice_range b 2 4) in
      let head = number_of (slice_range b 4 6) in
      whole r b 6 _ none (cond_both (number_of (take 2 b) == 0 && nat_lt cylinder g.cylinders && nat_lt head (heads_of g.model)) _ _ LandsBy
      (λ e. (let t = and_parts (number_of (take 2 b) == 0 && nat_lt cylinder g.cylinders) (nat_lt head (heads_of g.model)) e in
      let within = ltb-true cylinder g.cylinders (and_parts (number_of (take 2 b) == 0) (nat_lt cylinder g.cylinders) t.0).1 in
      gone _ refl (record { cylinder = within; head = ltb-true head (heads_of g.model) t.1 }) none))
      (λ _. plain _ refl none))
  field r o action.SeekHead b none at f =
      let head = number_of (slice_range b 4 6) in
      whole r b 6 _ none (cond_both (nat_lt head (heads_of g.model)) _ _ LandsBy
      (λ e. gone _ refl (record { cylinder = at.cylinder; head = ltb-true head (heads_of g.model) e }) none)
      (λ _. plain _ refl none))
  field r o action.SetFileMask [] none at f = plain _ refl none
  field r o action.SetFileMask (x ∷ b) none at f = plain _ refl none
  field r o action.WriteHomeAddress b none at f = whole (at_end o r) b 5 _ none (plain _ refl none)
  field r o action.Format b none at f = whole r b 8 _ none (plain _ refl none)
  field r o _ b none at f = absurd f

written_stays : (r : Registers) (o : Opened) (what : WrittenArea) → (closes_by r o what).moves_off ≡ false
written_stays r o (written.Area no_data) = refl
written_stays r o _ = refl

lands : (job : AtWork) (p : Transfer) (moved : ℕ) → IsPlaced job p → job.registers.credit ≡ None → IsAtTrack (geometry_in job) job.registers
    → Lands job.cache (geometry_in job) (number_in job) (command_end_at (geometry_in job) job.registers job.opened moved p)
lands job (Filled w what) moved x none at = over_hand job.cache (geometry_in job) (number_in job) _
    (written_stays job.registers job.opened what) x.at_hand
lands job (Search w so_far) moved x none at = over_hand job.cache (geometry_in job) (number_in job) _
    (search_stays job.opened job.registers _ _).1 x.0.at_hand
lands job (Field f) moved x none at = field job.cache (geometry_in job) (number_in job) job.registers job.opened
    (action_of job.opened.command) (take moved f) none at x.0.is_field
lands job _ moved x none at = plain job.cache (geometry_in job) (number_in job) _ refl none

-- a command that moves the arm has written nothing
moving_unfilled : (job : AtWork) (p : Transfer) (moved : ℕ) → (command_end_at (geometry_in job) job.registers job.opened moved p).moves_off
    ≡ true → is_filled_by p ≡ false
moving_unfilled job (Filled w what) moved e = absurd (let stays = written_stays job.registers job.opened what in cc)
moving_unfilled job _ moved e = refl

-- The drive after the end.

-- a drive that has ended its command so
pub record Ended (now : DriveState) (after : Parts) (ending : DriveEnding) : Type 0 where
  pub stands : Stands after
  pub ends : Ends now (state_of after) ending

-- it is that by its state, its ending and its calls
ended : (now : DriveState) (after : Parts) (ending : DriveEnding) → Stands after
    → state_of after ≡ with_image (after_end (fault_met now (state_of after)) now) after.job.cache.image
    → ending ≡ ending_of (closed_of (fault_met now (state_of after)) now now.work) → CallsStore false (end_saves now) now (state_of after)
    → Ended now after ending
ended now after ending stands state says calls = record {
  stands = stands;
  ends = record { state = state; ends = says; calls = calls; reported = end_reports now (state_of after) ending state says calls };
}

module _ {d : Parts} {now : DriveState} {u : CommandEnd} (e : Closes d now u) where
  goes : Goes d.job
  goes = goes_of d e.drive.stands e.drive.passes

  -- how the command closes by the definitions, and by the track as they see it
  abbrev closing_seen : Closing
  closing_seen = closing_in (at_work d.job) (seen_track (at_work d.job) d.job.progress.place)

  -- it is the same
  closes_so : command_end closing_seen ≡ u
  closes_so = command_end_is (at_work d.job) d.job.progress.place d.job.progress.moved e.drive.made (number_there d e.drive.stands)
      goes.placed goes.moved ∙ sym e.out

  off_so : closing_seen.moves_off ≡ u.moves_off
  off_so = ap (λ (y : CommandEnd). y.moves_off) closes_so

  -- which saving the definitions see at the end
  saves_at_end : end_saves (state_of d) ≡ (is_written_by d.mark && u.moves_off)
  saves_at_end = rw (e.drive.passes, off_so) refl

  lands_so : Lands d.job.cache d.job.cache.image.geometry (own_track d.job) u
  lands_so = rw e.out (lands (at_work d.job) d.job.progress.place d.job.progress.moved goes.placed goes.no_credit e.drive.stands.arm)

  arm_stays : u.moves_off ≡ false → AtSameTrack d.job.registers u.registers
  arm_stays off = elim (closing_at d.job.cache.image.geometry (seen_track (at_work d.job) d.job.progress.place) d.job.opened d.job.registers
      d.job.passed) [
        | inl moves ↦ absurd (let stays = off_so ∙ off in cc)
        | inr x ↦ subst (AtSameTrack d.job.registers) (ap (λ (y : CommandEnd). y.registers) closes_so) x.1
      ]

  unfilled : u.moves_off ≡ true → is_filled_by d.job.progress.place ≡ false
  unfilled moves = moving_unfilled (at_work d.job) d.job.progress.place d.job.progress.moved (ap (λ (y : CommandEnd). y.moves_off)
      (sym e.out) ∙ moves)

  -- the arm stays
  pub stays_ends : u.moves_off ≡ false
      → Ended now (parts_of (record d.job { registers = u.registers }) (mark_left d.job.progress.place d.mark) Idle) u.ending
  stays_ends off =
      let after : Parts = parts_of (record d.job { registers = u.registers }) (mark_left d.job.progress.place d.mark) Idle in
      let none : fault_met (state_of d) (state_of after) ≡ None = fault_none (state_of d) (state_of after) refl in
      let closed : closed_of None (state_of d) (state_of d).work ≡
      record { state = (state_of after).state; unit = u.ending.unit; motion = u.ending.motion } =
      rw (e.drive.passes, off_so ∙ off) (staying (at_work d.job) d.mark d.job.progress.place u e.drive.made (number_there d e.drive.stands)
      goes.placed closes_so) in
      let k = arm_stays off in
      let same : track_under d.job.cache.image.geometry u.registers ≡ own_track d.job = rw (k.cylinder, k.head) refl in
      rw (← e.drive.state) (ended (state_of d) after u.ending
      (record {
        volume = e.drive.stands.volume;
        arm = record { cylinder = rw k.cylinder e.drive.stands.arm.cylinder; head = rw k.head e.drive.stands.arm.head };
        anchored = rw same e.drive.stands.anchored;
        marked = marks d.job.progress.place d.mark d.job.cache.changed (rw e.drive.passes at e.drive.stands.marked);
        work = rw same (lands_so.stays off);
      })
      (rw (none, closed) refl) (rw (none, closed) refl) (calls_none _ _ (state_of d) (state_of after) refl (saves_at_end
      ∙ rw off (and-false (is_written_by d.mark)))))
    where
      marks : (q : Transfer) (m : Mark) (b : Bool) → b ≡ (is_written_by m || is_filled_by q) → b ≡ (is_written_by (mark_left q m) || false)
      marks (Filled w u) Saved b e = e
      marks _ _ b e = e

  -- it moves: what the definitions see of it then, and that a written track is saved
  moves_so : (moves : u.moves_off ≡ true) → (closing_seen.moves_off ≡ true) × (is_filled d.stage d.job ≡ false)
      × (seen_by d.job.cache.slots (own_track d.job) d.job.before d.job.progress.place ≡ d.job.cache.slots)
      × (d.job.cache.changed ≡ end_saves (state_of d))
  moves_so moves =
      let plain : is_filled d.stage d.job ≡ false = rw e.drive.passes (unfilled moves) in (
        off_so ∙ moves,
        plain,
        no_filled_seen d.job.cache.slots (own_track d.job) d.job.before d.job.progress.place (unfilled moves),
        changed_is d e.drive.stands plain ∙ sym (saves_at_end ∙ rw moves (and-true (is_written_by d.mark))),
      )

  -- the track that it leaves is saved
  pub leaves_ends : (new : HalfDone) (m : Mark) → u.moves_off ≡ true → Leaves d.job new m u.registers
      → Ended now (parts_of new m Idle) u.ending
  leaves_ends new m moves l =
      let c = d.job.cache in
      let k = moves_so moves in
      let at = lands_so.moves moves in
      let after : Parts = parts_of (record d.job { cache = after_save c; registers = u.registers }) Saved Idle in
      let none : fault_met (state_of d) (state_of after) ≡ None = fault_none (state_of d) (state_of after) (failures_saved c) in
      let left : State =
      record { volume = record { geometry = c.image.geometry; slots = c.slots }; registers = u.registers; mark = Saved } in
      let closed : closed_of None (state_of d) (state_of d).work ≡ record { state = left; unit = u.ending.unit; motion = u.ending.motion } =
      rw (e.drive.passes, k.0, ← closes_so, k.2) refl in
      rw (← e.drive.state, l.0, l.1)
      (ended (state_of d) after u.ending
      (saved_stands d after.job Idle e.drive.stands refl refl at.0 (no_credit (after_save c) u.registers (own_track after.job) at.1))
      (rw (none, closed, geometry_saved c) refl) (rw (none, closed) refl) (calls_of_save _ _ c (state_of d) (state_of after) refl refl k.3))

  -- that track can't be saved
  pub lost_ends : (new : HalfDone) (m : Mark) → u.moves_off ≡ true → Loses d.job new m → Ended now (parts_of new m Idle) failed_ending
  lost_ends new m moves l =
      let c = d.job.cache in
      let k = moves_so moves in
      let after : Parts = parts_of (record d.job { cache = after_failed_save c l.left; registers = lost_registers d.job.registers }) Lost
      Idle in
      let s = save_lost d d.job new m (state_of after) e.drive.stands k.1 refl l refl in
      let closed : closed_of (Some (SaveFails l.left)) (state_of d) (state_of d).work ≡
      record { state = (state_of after).state; unit = record { 0 = 0x0E }; motion = false } =
      rw (e.drive.passes, k.0, k.2, s.written, s.held, s.whole) refl in
      rw (← e.drive.state, l.job, l.mark_is)
      (ended (state_of d) after failed_ending
      (lost_stands d l.left after.job Idle e.drive.stands l.size refl refl refl refl tt)
      (rw (s.fault, closed) refl) (rw (s.fault, closed) refl) (calls_of_failed_save _ _ c l.left (state_of d)
      (state_of after) refl refl k.3 l.changed))
