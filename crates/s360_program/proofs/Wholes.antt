-- A read whose bytes pass at once: the units are those of a look, of these bytes, and of its end.
use Rattle.std.proofs.Common.{◌≡◌, ◌⊎◌, ◌∙◌, inl, inr, not, ◌&&◌, ℕ, ◌+◌, ◌-◌, ◌<◌, ◌≤◌, nat_lt, ap, sym, refl, arith, true, false, Bool}
use Rattle.std.proofs.Common.{List, [], ◌∷◌, None, length, take, length-take-le}
use Rattle.std.specs.Prelude.{slice_range, Ok, IsTrue}
use Rattle.std.proofs.lemmas.Bool.Decides.{nat_tests}
use Rattle.s360_words.specs.Storage.{Storage, stored, may_store}
use Rattle.s360_words.specs.Words.{suppresses_length}
use Rattle.ckd_command.proofs.Lengths.{gives_length}
use Rattle.ckd_command.specs.declared.close.DriveEnding.{DriveEnding}
use Rattle.ckd_command.specs.Drive.{AfterLook, Closed, length_of, unsaved}
use Rattle.ckd_drive.proofs.Calls.{calls_none}
use Rattle.ckd_drive.specs.declared.answers.WholeRead.{WholeRead}
use Rattle.ckd_drive.specs.Work.{DriveState, Passing, Idle, Over, GivesWhole, state_behind, whole_ending, after_look, after_look_of}
use Rattle.ckd_drive.specs.Work.{after_sight, after_end, closed_of, ending_of, fault_met, with_image, look_loads, look_saves, look_saves_of}
use Rattle.ckd_drive.specs.Work.{end_saves, failed_ending, CallsStore, Reports, open_at, given_now, moved_on, gives_now, left_of}
use Rattle.s360_laws.specs.Commands.{choice}
use Rattle.s360_laws.specs.Units.{next_chosen, unit}
use Rattle.s360_program.specs.Stands.{phase_in}
use Rattle.s360_program.specs.Steps.{run_of, in_bytes, segment_of, behind, request_at, status_of, condition_for, Fits, ComesBy, MovesBytes}
use Rattle.s360_program.specs.Steps.{PassesWhole, Looked, Steps, WalksBy, Flows, HasFound, differs}
use Rattle.s360_program.specs.declared.run.Comes.TheVariants as comes
use Rattle.s360_program.specs.declared.run.Run.{Run}
use Rattle.s360_program.specs.declared.run.Step.{Step}
use Rattle.s360_program.proofs.Ends.{EndsCommand}
use Rattle.s360_program.proofs.Looking.{look_finds, look_fits}
use Rattle.s360_program.proofs.Meeting.{met_none}
use Rattle.s360_program.proofs.MovingBytes.{gives_so, may_be, ranged}
use Rattle.s360_program.proofs.Moments.{moment_of}
use Rattle.s360_program.proofs.Transferring.{again, completes, moves_on, unit_behind, unit_comes}

take_all : (xs : List ℕ) → take (length xs) xs ≡ xs
take_all [] = refl
take_all (x ∷ xs) = ap (λ ys. x ∷ ys) (take_all xs)

-- of as many bytes as there are, all
takes_all : (xs : List ℕ) (n : ℕ) → n ≡ length xs → take n xs ≡ xs
takes_all xs n e = ap (λ k. take k xs) e ∙ take_all xs

reaches : (n m : ℕ) → n ≤ m → (n < m → ⊥) → n ≡ m
reaches n m le never = by (nat_lt n m) refl
  where
    by : (b : Bool) → nat_lt n m ≡ b → n ≡ m
    by true e = absurd (never (grind (arith, nat_tests)))
    by false e = grind (arith, nat_tests)

-- as many are stored as may be
pub stores_all : (s : Storage) (key a n m : ℕ) → n ≤ m → ((i : ℕ) → i < m → IsTrue (may_store s key (a + i)))
    → (n < m → may_store s key (a + n) ≡ false) → n ≡ m
stores_all s key a n m le may next = reaches n m le (λ less. never (may_store s key (a + n)) (may n less) (next less))
  where
    never : (b : Bool) → IsTrue b → b ≡ false → ⊥
    never true h e = cc
    never false h e = cc

-- the bytes of a read that pass were stored, all of them
pub all_stored : (s s2 : Storage) (key a n m : ℕ) (given : List ℕ) → m ≤ length given → n ≤ length (take m given)
    → ((i : ℕ) → i < m → IsTrue (may_store s key (a + i))) → (n < length (take m given) → may_store s key (a + n) ≡ false)
    → s2 ≡ stored s a (take n (take m given)) → s2 ≡ stored s a (take m given)
all_stored s s2 key a n m given has few may next is =
    let long : length (take m given) ≡ m = length-take-le m given has in
    let all : n ≡ m = stores_all s key a n m (omega (arith, few, long)) may (λ h. next (omega (arith, h, long))) in
    is ∙ ap (stored s a) (takes_all (take m given) n (all ∙ sym long))

-- nothing of a length is told as incorrect where the drive has just as many bytes as the word counts
pub same_told : (b : Bool) (n has : ℕ) → has ≡ n → false ≡ (not b && differs (n - n) (has - n))
same_told b n has same =
    let none : n - n ≡ 0 = omega arith in
    let behind : has - n ≡ 0 = omega (arith, same) in
    rw (none, behind) (by b)
  where
    by : (b : Bool) → false ≡ (not b && differs 0 0)
    by true = refl
    by false = refl

-- The drive once the area is found, once some bytes passed, and once the read ended.

module _ (d : DriveState) (given : List ℕ) (read : WholeRead) (w : GivesWhole d given read) where
  abbrev pub found_drive : DriveState
  found_drive = record d { work = Passing w.opened [] (length given) }

  abbrev pub passed_drive : (n : ℕ) → DriveState
  passed_drive n = record d { work = Passing w.opened (take n given) (length given - length (take n given)) }

  abbrev pub ended_drive : DriveState
  ended_drive = record d { state = state_behind d.state read; work = Idle }

  long : length_of (open_at d w.opened) [] ≡ length given
  long = gives_length (open_at d w.opened) [] w.gives ∙ ap length w.given

  found_is : after_look None d ≡ found_drive
  found_is = ap (after_look_of None d) w.works ∙ ap (λ (l : AfterLook). after_sight l d) w.finds
      ∙ ap (λ n. record d { work = Passing w.opened [] n }) long

  pub looks_state : found_drive ≡ with_image (after_look (fault_met d found_drive) d) found_drive.image
  looks_state = ap (λ (x : DriveState). with_image x d.image) (sym (ap (λ f. after_look f d) (met_none d found_drive refl) ∙ found_is))

  pub looks_calls : CallsStore (look_loads d) (look_saves d) d found_drive
  looks_calls = calls_none (look_loads d) (look_saves d) d found_drive refl (ap (look_saves_of d) w.works ∙ w.stays)

  pub looks_reports : Reports (found_drive.work ≡ Over failed_ending) d found_drive
  looks_reports = record { failed = inl refl; good = λ _ h. h }

  range : (n : ℕ) → slice_range (given_now found_drive found_drive.work) 0 (0 + n) ≡ take n given
  range n = ap (λ (g : List ℕ). slice_range g 0 (0 + n)) w.given ∙ ranged given 0 n

  passed_is : (n : ℕ) → passed_drive n ≡ record found_drive {
    work =
        moved_on (slice_range (given_now found_drive found_drive.work) 0 (0 + n)) found_drive.work;
  }
  passed_is n = sym (ap (λ (b : List ℕ). record found_drive { work = moved_on b found_drive.work }) (range n))

  pub passed_ends : (n : ℕ) (e : DriveEnding) (now : DriveState) → unsaved d.state ≡ None → e ≡ whole_ending read → now ≡ ended_drive
      → EndsCommand e (passed_drive n) now
  passed_ends n e now saved e_is now_is = rw (e_is, now_is) (record {
    saved = saved;
    state = sym (ap (λ f. with_image (after_end f (passed_drive n)) d.image) none
        ∙ ap (λ (c : Closed). record d { state = c.state; work = Idle }) (w.ends (take n given)));
    ending = sym (ap (λ f. ending_of (closed_of f (passed_drive n) (passed_drive n).work)) none ∙ ap ending_of (w.ends (take n given)));
    calls = calls_none false (end_saves (passed_drive n)) (passed_drive n) ended_drive refl
        (w.keeps (take n given) (length given - length (take n given)));
    reports = record { failed = inl refl; good = λ _ h. h };
  })
    where
      none : fault_met (passed_drive n) ended_drive ≡ None
      none = met_none (passed_drive n) ended_drive refl

-- The units.

module _ (r : Run) (most : ℕ) (s : Storage) (d : DriveState) (given : List ℕ) (n : ℕ) (read : WholeRead) (fits : Fits r d)
    (at : r.comes ≡ comes.Look) (p : PassesWhole r most s d given n read) where
  abbrev found : DriveState
  found = found_drive d given read p.gives

  abbrev passed : DriveState
  passed = passed_drive d given read p.gives n

  abbrev behind_them : Storage
  behind_them = stored s r.ccw.address (take n given)

  moved : MovesBytes (segment_of (in_bytes r) n) s found (Ok n) behind_them passed
  moved =
      let all = long d given read p.gives in
      gives_so n (segment_of (in_bytes r) n) s behind_them found passed found.work
      (record {
        moving = omega (arith, all);
        some = p.some;
        few = omega arith;
        left = p.has;
      }) p.gives.gives
      (λ i h. inr (may_be s r.key (r.ccw.address + i) (p.may i h)))
      (passed_is d given read p.gives n)
      (rw p.stores (ap (stored s r.ccw.address) (sym (range d given read p.gives n))))

  looked : Looked r d found
  looked = record {
    fits = fits;
    at = at;
    state = looks_state d given read p.gives;
    calls = looks_calls d given read p.gives;
    reports =
        looks_reports d given read p.gives;
  }

  fits_found : Fits (in_bytes r) found
  fits_found = look_fits r s d found looked (length given) refl

  abbrev moved_run : Run
  moved_run = record r { comes = comes.Bytes; place = record r.place { residual = r.place.residual - n }; address = r.ccw.address + n }

  -- a drive that gives its bytes says how many are left
  says : (x : DriveState) → gives_now x.work ≡ true → HasFound x → Flows (record { gives = gives_now x.work; left = left_of x.work }) x x
  says x gives has = again x has (λ z. inl gives)

  walked : WalksBy r.key (phase_in (run_of (in_bytes r)) s found) most n moved_run behind_them found passed
  walked = moves_on (in_bytes r) most n n s behind_them found passed
      (record {
        fits = fits_found;
        at = refl;
        flow = record { gives = gives_now found.work; left = left_of found.work };
        drive = found;
        flows = says found p.gives.gives fits_found.stands.fits;
      })
      (record { few = n; asked = omega (arith, p.counts, p.few); counted = p.counts; has = p.has }) moved refl

  left_is : length given - length (take n given) ≡ length given - n
  left_is = ap (λ k. length given - k) (length-take-le n given p.has)

  either_spent : (n ≡ r.place.residual) ⊎ (n ≡ length given) → (r.place.residual - n ≡ 0) ⊎ (left_of passed.work ≡ 0)
  either_spent (inl e) = inl (omega (arith, e))
  either_spent (inr e) = inr (omega (arith, e, left_is))

  pub whole_steps : (incorrect : Bool) → incorrect ≡ (not (suppresses_length r.ccw) && differs (r.place.residual - n) (length given - n))
      → (r2 : Run) (a : Step) (d2 : DriveState) → d2.image.loads ≡ d.image.loads
      → ComesBy r.key (λ f. next_chosen (choice f r.key (request_at behind_them r.ccw (record r {
        place =
            record r.place { residual = r.place.residual - n };
      })) (closed_of f passed passed.work) (status_of (condition_for incorrect (closed_of f passed passed.work).unit)))) a r2 behind_them
      passed d2
      → Steps r.key (phase_in (run_of r) s d) most (behind n a) r2 behind_them d d2
  whole_steps incorrect i r2 a d2 loads is =
      look_finds r s d found looked (length given) refl most r2 behind_them (behind n a) d2 loads
      (unit_behind (moment_of (record { run = in_bytes r; storage = s; drive = found })) n most
      (phase_in (run_of moved_run) behind_them passed) r2 behind_them a d2
      (omega (arith, p.counts, p.few)) walked.goes
      (unit_comes (λ f. unit f r.key (phase_in (run_of moved_run) behind_them passed))
      (λ f. unit f r.key (phase_in (run_of moved_run) behind_them passed)) r.key
      behind_them r2 a found passed d2 (λ f. refl) (record { image = refl; state = refl; loads = loads })
      (completes moved_run r2 behind_them a passed passed d2 (record { gives = gives_now passed.work; left = left_of passed.work }) refl
      (says passed p.gives.gives walked.fits.stands.fits) incorrect (λ z. p.unchained) (either_spent p.spent)
      (rw left_is i) loads is)))
