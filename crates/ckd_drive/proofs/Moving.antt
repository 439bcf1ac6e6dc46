-- Bytes that pass.
use Rattle.std.proofs.Common.{◌≡◌, ◌∙◌, ap, sym, subst, refl, inl, inr, ◌⊎◌, ℕ, ◌+◌, ◌-◌, ◌<◌, ◌≤◌, ◌^◌, List, [], ◌++◌, true, false}
use Rattle.std.proofs.Common.{length, take, drop, slice_range, append-nil, length-append, length-take, length-drop, drop-drop, arith, Bool}
use Rattle.std.proofs.Common.{◌||◌}
use Rattle.std.proofs.lemmas.List.{take-take, drop-take, get_or_past}
use Rattle.std.proofs.lemmas.Bool.{cases_lt}
use Rattle.ckd_track.specs.Track.{track_of}
use Rattle.ckd_command.specs.declared.tables.Action.{Action}
use Rattle.ckd_command.specs.declared.tables.Action.TheVariants as action
use Rattle.ckd_command.specs.Answers.{CommandEnd}
use Rattle.ckd_slot.specs.declared.windows.Window.{Window}
use Rattle.ckd_drive.specs.declared.transfer.Transfer.{Transfer}
use Rattle.ckd_drive.specs.declared.transfer.Transfer.TheVariants.{Sense, Field, Read, Search, Fill, Due, Filled}
use Rattle.ckd_drive.specs.declared.answers.DriveStage.TheVariants.{Passing}
use Rattle.ckd_command.specs.Tables.{is_giving}
use Rattle.ckd_position.specs.Contents.{Sighted}
use Rattle.ckd_command.specs.Commands.{Closing, area_bytes, command_end}
use Rattle.ckd_slot.specs.Buffer.{Lies}
use Rattle.ckd_slot.specs.Cache.{CacheState, IsVolume, slot_held}
use Rattle.ckd_drive.specs.Work as work
use Rattle.ckd_drive.specs.Work.{DriveState, gives_now, left_of, given_now, passed_of, moved_on, passes_now}
use Rattle.ckd_drive.specs.Invariant.{Stands, IsPlaced, IsField, ClosesUnwritten, remaining, state_of, slot_at, is_filled_by, Parts, AtWork}
use Rattle.ckd_drive.specs.Invariant.{closing_in, HalfDone, own_slot, own_track, action_now, area_in, seen_with, at_work, parts_of}
use Rattle.ckd_drive.specs.Passing.{given_on, Works, Absorbs, with_taken, with_place, Finishes, is_due}
use Rattle.ckd_command.proofs.Closings.{area_by, closing_by, sense_closes as closes_sense, sense_length}
use Rattle.ckd_command.proofs.Lengths.{length_by}
use Rattle.ckd_drive.proofs.Standing.{goes_of, slot_is, passing_in}
use Rattle.std.proofs.Math.Bool.{or-false}
use Rattle.ckd_command.specs.Drive.{is_written_by}

-- Windows.

behind_less : (a k : ℕ) → a + k - a ≡ k
behind_less a k = omega arith

pub lies_first : (slot bytes : List ℕ) (w : Window) (k : ℕ) → Lies slot w bytes → k ≤ w.len → slice_range slot w.start (w.start + k)
    ≡ take k bytes
lies_first slot bytes w k l le =
    rw (behind_less w.start k, ← (rw (behind_less w.start w.len) at l.here)) (sym (take-take k w.len (drop w.start slot) le))

drop_take : (k n : ℕ) (s : List ℕ) → k ≤ n → drop k (take n s) ≡ take (n - k) (drop k s)
drop_take k n s le = (let e : n ≡ k + (n - k) = omega (arith, le) in
    (let P : ℕ → Type 0 = λ x. drop k (take x s) ≡ take (n - k) (drop k s) in subst P (sym e) (drop-take k (n - k) s)))

-- no slot is longer than a track size may be
pub slot_small : (c : CacheState) (n : ℕ) → IsVolume c → length (slot_at c.slots n) ≤ 65536
slot_small c n v = by_place (cases_lt n (length c.slots))
  where
    by_place : (n < length c.slots) ⊎ (length c.slots ≤ n) → length (slot_at c.slots n) ≤ 65536
    by_place (inl lt) = (let e = v.sizes n [] lt in omega (arith, e, v.geometry.limit))
    by_place (inr le) = (let e : slot_at c.slots n ≡ [] = get_or_past c.slots n [] le in rw e (omega arith))

-- what is left of an area whose first bytes are behind, once more of them are
pub record WindowMoves (half : HalfDone) (more : List ℕ) (w : Window) : Type 0 where
  pub lies : Lies (own_slot half) (record { start = w.start + length more; len = w.len - length more }) (drop (length (half.passed ++ more))
      (area_in (at_work half)))
  pub first : slice_range (own_slot half) w.start (w.start + length more) ≡ take (length more)
      (drop (length half.passed) (area_in (at_work half)))
  pub room : length (half.passed ++ more) ≤ length (area_in (at_work half))
  pub begins : length (half.passed ++ more) ≤ w.start + length more
  pub len : length (area_in (at_work half)) ≡ length (half.passed ++ more) + (w.len - length more)
  pub small : length half.passed + length more < 2 ^ 32

pub window_moves : (half : HalfDone) (more : List ℕ) (w : Window) → IsVolume half.cache
    → Lies (own_slot half) w (drop (length half.passed) (area_in (at_work half)))
    → length half.passed ≤ length (area_in (at_work half)) → length half.passed ≤ w.start → length more ≤ w.len → WindowMoves half more w
window_moves half more w v l room begins le =
    let slot = own_slot half in
    let area = area_in (at_work half) in
    let far = length-append half.passed more in
    let whole : length area ≡ length half.passed + w.len = omega (arith, l.size, length-drop (length half.passed) area, room) in
    let behind : drop (length more) (drop (length half.passed) area) ≡ drop (length (half.passed ++ more)) area =
    drop-drop (length more) (length half.passed) area ∙ rw far refl in
    record {
      lies = record {
        within = omega (arith, l.within, le);
        size = omega (arith, length-drop (length (half.passed ++ more)) area, whole, far, le);
        here = rw (
          behind_less (w.start + length more) (w.len - length more),
          ← behind,
          ← (rw (behind_less w.start w.len) at l.here),
          drop_take (length more) w.len (drop w.start slot) le,
          drop-drop (length more) w.start slot,
        ) refl;
      };
      first = lies_first slot (drop (length half.passed) area) w (length more) l le;
      room = omega (arith, whole, far, le);
      begins = omega (arith, begins, far);
      len = omega (arith, whole, far, le);
      small = omega (arith, begins, l.within, le, slot_small half.cache (own_track half) v);
    }

-- Bytes that pass.

-- the track stays as it is: by all that the bytes come to, since each place of them comes here
pub absorbs_plain : (half : HalfDone) (more : List ℕ) (place' : Transfer)
    → Works half → is_filled_by half.progress.place ≡ false → is_filled_by place' ≡ false
    → seen_with half half.before place' ≡ seen_with half half.before half.progress.place
    → remaining (action_now half) place' (length (half.passed ++ more)) ≡ remaining (action_now half) half.progress.place
    (length half.passed) - length more
    → IsPlaced (at_work (record half { passed = half.passed ++ more })) place' → length half.passed + length more < 2 ^ 32
    → Absorbs half more half.cache half.before place'
absorbs_plain half more place' x f f' seen rest placed small =
    let goes = x.goes in
    record {
      works = record {
        volume = x.volume;
        arm = x.arm;
        anchored = x.anchored;
        goes = record {
          moved = rw (← goes.moved) (length-append half.passed more);
          left = omega (arith, goes.left, rest);
          placed = placed;
          no_credit = goes.no_credit;
        };
      };
      image = refl;
      seen_same = seen;
      changed = rw f' (sym (or-false half.cache.changed));
      still = λ e. absurd cc;
      small = small;
    }

marked_by : (w f f' : Bool) → (f ≡ true → f' ≡ true) → ((w || f) || f') ≡ (w || f')
marked_by false true false k = absurd (let e = k refl in cc)
marked_by _ _ _ k = refl

-- whatever the cache, the slot before and the place came to
pub taken_stands : {d : Parts} {more : List ℕ} {c : CacheState} {before : List ℕ} {place : Transfer} → Stands d → d.stage ≡ Passing
    → Absorbs d.job more c before place
    → Stands (parts_of (with_taken d.job more c before place) d.mark Passing)
taken_stands {d} {more} {c} {before} {place} x is a =
    let marked : d.job.cache.changed ≡ (is_written_by d.mark || is_filled_by d.job.progress.place) = rw is at x.marked in
    let w = a.works in
    record {
      volume = w.volume;
      arm = w.arm;
      anchored = w.anchored;
      marked = a.changed ∙ rw marked (marked_by (is_written_by d.mark) (is_filled_by d.job.progress.place) (is_filled_by place) a.still);
      work = w.goes;
    }

-- and is the drive that the definitions have
pub taken_state : {d : Parts} {more : List ℕ} {c : CacheState} {before : List ℕ} {place : Transfer} (now : DriveState) → d.stage ≡ Passing
    → state_of d ≡ now → Absorbs d.job more c before place
    → state_of (parts_of (with_taken d.job more c before place) d.mark Passing) ≡ record now { work = moved_on more now.work }
taken_state now is now_is a = rw (← now_is, is, a.image, a.seen_same) refl

-- A command once a record that was due is made: its drive is as it was for those who call it.
pub record Finished (d : Parts) (now : DriveState) (h : HalfDone) : Type 0 where
  pub stands : Stands (parts_of h d.mark d.stage)
  pub passes : d.stage ≡ Passing
  pub state : state_of (parts_of h d.mark d.stage) ≡ now
  pub made : is_due h.progress.place ≡ false

pub finished : (d : Parts) (now : DriveState) (c : CacheState) (before : List ℕ) (place : Transfer) → Stands d → state_of d ≡ now
    → passes_now now.work ≡ true → Finishes d.job d.job.progress.place c before place
    → Finished d now (with_place d.job c before place)
finished d now c before place x now_is passing f = by_place d.job.progress.place refl f
  where
    is : d.stage ≡ Passing
    is = passing_in d now now_is passing

    by_place : (p : Transfer) → d.job.progress.place ≡ p → Finishes d.job p c before place
        → Finished d now (with_place d.job c before place)
    by_place (Due w number count) at k =
        let a = k.0 in
        let job = d.job in
        let S : HalfDone → Type 0 = λ h. Stands (parts_of h d.mark Passing) in
        let moved : job.progress.moved + 0 ≡ job.progress.moved = omega arith in
        let left : job.progress.left - 0 ≡ job.progress.left = omega arith in
        let same : with_taken job [] c before place ≡ with_place job c before place = rw (append-nil job.passed, moved, left) refl in
        record {
          stands = rw is (subst S same (taken_stands x is a));
          passes = is;
          state = rw (← now_is, is, a.image, a.seen_same) refl;
          made = k.1;
        }
    by_place p at k =
        let F : Transfer → Type 0 = λ q. Finished d now (with_place d.job d.job.cache d.job.before q) in
        rw (k.0, k.1, k.2) (subst F at (record { stands = x; passes = is; state = now_is; made = rw at refl }))

-- Bytes that are given.

same_closing : (job : AtWork) (t : Sighted) (more : List ℕ) (u : CommandEnd) (k : Closing) → ((b : List ℕ)
    → closing_in (record job { passed = b }) t ≡ k) → ClosesUnwritten job t u
    → ClosesUnwritten (record job { passed = job.passed ++ more }) t u
same_closing job t more u k same x =
    let e = same (job.passed ++ more) ∙ sym (same job.passed) in
    record { so = ap command_end e ∙ x.so; unwritten = ap (λ (y : Closing). y.written) e ∙ x.unwritten }

read_absorbs : (half : HalfDone) (more : List ℕ) (w : Window) (u : Bool) → Works half → half.progress.place ≡ Read w u
    → length more ≤ half.progress.left
    → Absorbs half more half.cache half.before (Read (record { start = w.start + length more; len = w.len - length more }) u)
read_absorbs half more w u x at may =
    let left : half.progress.left ≤ w.len = rw at at x.goes.left in
    let placed = rw at at x.goes.placed in
    let h = placed.0 in
    let m = window_moves half more w x.volume h.lies h.room h.begins (omega (arith, left, may)) in
    absorbs_plain half more (Read (record { start = w.start + length more; len = w.len - length more }) u) x (rw at refl) refl (rw at refl)
    (rw at refl) (
      record { is_read = h.is_read; held = h.held; lies = m.lies; room = m.room; begins = m.begins },
      record { again = placed.1.again; len = length_by action.Read _ _ half.opened half.registers (half.passed ++ more) h.is_read ∙ m.len },
      same_closing (at_work half) _ more _ _ (λ b. closing_by action.Read _ _ half.opened half.registers b h.is_read) placed.2,
    )
    m.small

sense_absorbs : (half : HalfDone) (more b : List ℕ) → Works half → half.progress.place ≡ Sense b → length more ≤ half.progress.left
    → Absorbs half more half.cache half.before (Sense b)
sense_absorbs half more b x at may =
    let left : half.progress.left ≤ 6 - length half.passed = rw at at x.goes.left in
    let placed = rw at at x.goes.placed in
    let h = placed.0 in
    let far = length-append half.passed more in
    let wants = sense_length half.cache.image.geometry (track_of (own_slot half)) half.opened half.registers
    (half.passed ++ more) h.is_sense in
    let room : length (half.passed ++ more) ≤ 6 = omega (arith, far, left, may, h.room) in
    absorbs_plain half more (Sense b) x (rw at refl) refl (rw at refl) (rw at (omega (arith, far))) (
      record { is_sense = h.is_sense; bytes_are = h.bytes_are; room = room },
      record { again = placed.1.again; len = omega (arith, wants, room) },
      same_closing (at_work half) _ more _ _ (λ b. closes_sense _ _ half.opened half.registers b h.is_sense) placed.2,
    )
    (omega (arith, room, far))

-- only those and the bytes of an area are given
field_takes : (a : Action) → IsField a → is_giving a ≡ true → ⊥
field_takes action.GiveSense f e = f
field_takes action.Read f e = f
field_takes _ f e = cc

not_given : (a b : Action) → a ≡ b → is_giving b ≡ false → is_giving a ≡ true → ⊥
not_given a b is takes gives = (let none : is_giving a ≡ false = rw is takes in cc)

given_absorbs : (half : HalfDone) (more : List ℕ) (k : ℕ) → Works half → k ≡ length more → k ≤ half.progress.left
    → is_giving (action_now half) ≡ true → Absorbs half more half.cache half.before (given_on half.progress.place k)
given_absorbs half more k x n may giving = rw n (by_place half.progress.place refl)
  where
    by_place : (place : Transfer) → half.progress.place ≡ place → Absorbs half more half.cache half.before (given_on place (length more))
    by_place (Sense b) at = sense_absorbs half more b x at (omega (arith, may, n))
    by_place (Read w u) at = read_absorbs half more w u x at (omega (arith, may, n))
    by_place (Field f) at = absurd (field_takes (action_now half) (rw at at x.goes.placed).0.is_field giving)
    by_place (Search w so_far) at = absurd (not_given _ action.Search (rw at at x.goes.placed).0.is_search refl giving)
    by_place (Fill w u) at = absurd (not_given _ action.Update (rw at at x.goes.placed).0.is_update refl giving)
    by_place (Due w number count) at = absurd (not_given _ _ refl (rw at at x.goes.placed).filled.takes giving)
    by_place (Filled w u) at = absurd (not_given _ _ refl (rw at at x.goes.placed).takes giving)

-- what may be given: so many bytes, and they are what the definitions give
pub record Lends (now : DriveState) (bytes : List ℕ) : Type 0 where
  pub size : length bytes ≡ left_of now.work
  pub bytes_are : bytes ≡ slice_range (given_now now now.work) (length (passed_of now.work)) (length (passed_of now.work)
      + left_of now.work)

pub sense_lends : (d : Parts) (b : List ℕ) (now : DriveState)
    → Stands d → d.stage ≡ Passing → d.job.progress.place ≡ Sense b → state_of d ≡ now
    → Lends now (slice_range b d.job.progress.moved (d.job.progress.moved + d.job.progress.left))
sense_lends d b now x is at now_is =
    let p = d.job.progress in
    let goes = goes_of d x is in
    let h = (rw at at goes.placed).0 in
    let left : p.left ≤ 6 - length d.job.passed = rw at at goes.left in
    let long : length b ≡ 6 = ap length h.bytes_are in
    rw (← now_is, is) (record {
      size =
          omega (arith, length-take (p.moved + p.left - p.moved) (drop p.moved b), length-drop p.moved b, long, left, goes.moved, h.room);
      bytes_are = rw (← goes.moved, area_by action.GiveSense _ d.job.opened d.job.registers h.is_sense, h.bytes_are) refl;
    })

-- the bytes of an area, by the slot as the code reads it
pub read_lends : (d : Parts) (slot : List ℕ) (w : Window) (u : Bool) (now : DriveState)
    → Stands d → d.stage ≡ Passing → d.job.progress.place ≡ Read w u → slot ≡ slot_held d.job.cache → state_of d ≡ now
    → Lends now (slice_range slot w.start (w.start + d.job.progress.left))
read_lends d slot w u now x is at here_is now_is =
    let p = d.job.progress in
    let old = own_slot d.job in
    let goes = goes_of d x is in
    let left : p.left ≤ w.len = rw at at goes.left in
    let h = (rw at at goes.placed).0 in
    let area = area_bytes (track_of old) d.job.opened d.job.registers in
    let here : slice_range old w.start (w.start + p.left) ≡ slice_range area (length d.job.passed) (length d.job.passed + p.left) =
    lies_first old (drop (length d.job.passed) area) w p.left h.lies left ∙ rw (behind_less (length d.job.passed) p.left) refl in
    rw (slot_is d.job.cache (own_track d.job) slot h.held here_is, ← now_is, is) (record {
      size = omega (arith, length-take (w.start + p.left - w.start) (drop w.start old), length-drop w.start old, left, h.lies.within);
      bytes_are = rw at here;
    })

-- what passing so many of these bytes makes of the drive
pub record HasPassed (d : Parts) (bytes : List ℕ) (now : DriveState) (k : ℕ) : Type 0 where
  pub long : length (take k bytes) ≡ k
  pub stands : Stands (parts_of (with_taken d.job (take k bytes) d.job.cache d.job.before (given_on d.job.progress.place k)) d.mark Passing)
  pub state : state_of (parts_of (with_taken d.job (take k bytes) d.job.cache d.job.before (given_on d.job.progress.place k)) d.mark
      Passing)
      ≡ record now {
        work = moved_on (slice_range (given_now now now.work) (length (passed_of now.work)) (length (passed_of now.work) + k))
            now.work;
      }

-- by the bytes that are lent, and by all that the caller of a drive has of it
pub has_passed : (d : Parts) (bytes : List ℕ) (now : DriveState) (k : ℕ)
    → Stands d → d.stage ≡ Passing → state_of d ≡ now → gives_now now.work ≡ true → k ≤ left_of now.work
    → length bytes ≡ left_of now.work → bytes ≡ slice_range (given_now now now.work) (length (passed_of now.work))
    (length (passed_of now.work) + left_of now.work)
    → HasPassed d bytes now k
has_passed d bytes now k x is now_is gives le long are =
    let more : List ℕ = take k bytes in
    let n : length more ≡ k = omega (arith, length-take k bytes, long, le) in
    let work_is : now.work ≡ work.Passing d.job.opened d.job.passed d.job.progress.left = sym (ap (λ (y : DriveState). y.work) now_is)
    ∙ rw is refl in
    let works : Works d.job = record { volume = x.volume; arm = x.arm; anchored = x.anchored; goes = goes_of d x is } in
    let a = given_absorbs d.job more k works (sym n) (rw work_is at le) (rw work_is at gives) in
    let range : more ≡ slice_range (given_now now now.work) (length (passed_of now.work)) (length (passed_of now.work) + k) =
    rw (are, behind_less (length (passed_of now.work)) (left_of now.work), behind_less (length (passed_of now.work)) k)
    (take-take k (left_of now.work) (drop (length (passed_of now.work)) (given_now now now.work)) le) in
    record {
      long = n;
      stands = taken_stands x is a;
      state = taken_state {d = d} now is now_is a ∙ ap (λ (b : List ℕ). record now { work = moved_on b now.work }) range;
    }
