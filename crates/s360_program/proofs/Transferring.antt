-- What each way through a unit of a command whose area is found comes to.
use Rattle.std.proofs.Common.{◌≡◌, ◌⊎◌, inl, inr, ℕ, zero, suc, ◌+◌, ◌-◌, ◌<◌, ◌≤◌, ◌^◌, refl, sym, ap, subst, ◌∙◌, arith, true, false}
use Rattle.std.proofs.Common.{Bool, not, ◌&&◌, ◌||◌, List, [], ◌++◌, Option, nat_lt, length, append-nil, length-append}
use Rattle.std.specs.Prelude.{if◌then◌else◌, ◌==◌, Ok, Err}
use Rattle.std.proofs.lemmas.Bool.Decides.{nat_tests}
use Rattle.ckd_image.specs.Image.{ImageState}
use Rattle.s360_words.specs.Storage.{Storage}
use Rattle.s360_words.specs.Words.{chains_data, suppresses_length}
use Rattle.s360_words.specs.declared.flags.TheConstants.ChannelStatus.{INCORRECT_LENGTH}
use Rattle.s360_words.specs.declared.flags.TheConstants.UnitStatus.{UNIT_CHECK}
use Rattle.s360_words.specs.declared.words.Csw.{Csw}
use Rattle.ckd_command.specs.Drive.{State, Open, Fault, length_of, close, drive_of, unsaved, tells_equipment_check}
use Rattle.ckd_command.proofs.Lengths.{length_grows, length_stays, gives_length}
use Rattle.ckd_drive.specs.Work.{DriveState, Work, Idle, Over, Looking, Passing, closed_of, left_of, gives_now, passed_of, may_end}
use Rattle.ckd_command.specs.Tables.{action_of, is_giving}
use Rattle.s360_program.proofs.Advancing.{more_units}
use Rattle.s360_laws.specs.Commands.{choice}
use Rattle.s360_laws.specs.Endings.{ending}
use Rattle.s360_laws.specs.Places.{Place}
use Rattle.s360_laws.specs.Scripts.{units}
use Rattle.s360_laws.specs.Status.{no_channel_status, tells}
use Rattle.s360_laws.specs.Transfers.{Transfer, next_bytes}
use Rattle.s360_laws.specs.Units.{ProgramPhase, Moving, Next, EndsIn, unit, next_chosen, walk, on_next, StandsIn}
use Rattle.s360_program.specs.Place.{place_of}
use Rattle.s360_program.specs.Stands.{LeftFits, StageFits, StageWithin, phase_by, phase_in}
use Rattle.s360_program.specs.Steps.{run_of, in_bytes, count_of, HasFound, FindsBy, Fits, ComesBy, EndsBy, OverBy, Steps, WalksBy, told_of}
use Rattle.s360_program.specs.Steps.{Flows, FlowsBy, with_left, MovesBytes, MovesBytesBy, MovesBytesAs, segment_of, status_of}
use Rattle.s360_program.specs.Steps.{condition_for, differs, request_at, behind, IsQuiet}
use Rattle.s360_program.specs.declared.conditions.ChannelCondition.{ChannelCondition}
use Rattle.s360_program.specs.declared.conditions.ChannelCondition.TheVariants as condition
use Rattle.s360_program.specs.declared.moving.Flow.{Flow}
use Rattle.s360_program.specs.declared.moving.StorageArea.{StorageArea}
use Rattle.s360_program.specs.declared.run.Run.{Run}
use Rattle.s360_program.specs.Stage.{stage_by, stage_of}
use Rattle.s360_program.specs.Stage as stage
use Rattle.s360_program.specs.declared.run.Comes.TheVariants as comes
use Rattle.s360_program.specs.declared.run.Step.{Step}
use Rattle.s360_program.specs.declared.run.Step.TheVariants as step
use Rattle.s360_program.specs.Advances.{NeedNoStore}
use Rattle.s360_program.proofs.Meeting.{comes_after}
use Rattle.s360_program.proofs.Moments.{Moment, moment_of}
use Rattle.s360_program.proofs.Quiet.{phase_quiet}
use Rattle.s360_laws.proofs.AtOnce.{at_once}

-- One unit.

pub over_once : (key : ℕ) (phase : ProgramPhase) (most : ℕ) (told : Csw × Bool) (s : Storage) (d0 d1 : DriveState) → 0 < most
    → EndsBy (λ f. unit f key phase) told s d0 d1 → OverBy key phase most 1 told s d0 d1
over_once key phase most told s d0 d1 h e = record { earlier = 0; last = refl; few = omega arith; at = phase; goes = refl; ends = e }

-- a step that is one unit; it names phase, run, storage and both drives, since a step is said of all of them
pub unit_steps : (key : ℕ) (phase : ProgramPhase) (most : ℕ) (r : Run) (s : Storage) (a : Step) (d0 d1 : DriveState) → 0 < most
    → ComesBy key (λ f. unit f key phase) a r s d0 d1 → Steps key phase most a r s d0 d1
unit_steps key phase most r s (step.Units n) d0 d1 h c =
    let w = c.1 in
    record {
      some = omega (arith, c.0);
      few = omega (arith, c.0);
      failures = w.failures;
      goes = ap (λ n. walk (units n) key phase) c.0 ∙ ap (λ n. on_next [] n (walk [] key)) w.goes;
      same_key = w.same_key;
      fits = w.fits;
      no_check = w.no_check;
    }
unit_steps key phase most r s (step.Over n) d0 d1 h c = subst (λ n. Steps key phase most (step.Over n) r s d0 d1) (sym c.0)
    (over_once key phase most (told_of r) s d0 d1 h c.1)

-- a drive has only looked again, which left its image and its state, and nothing is loaded behind that
pub record LooksAgain (d0 d1 d2 : DriveState) : Type 0 where
  pub image : d1.image ≡ d0.image
  pub state : d1.state ≡ d0.state
  pub loads : d2.image.loads ≡ d1.image.loads

-- one unit, of a drive that has only looked again
pub unit_comes : (next later : Option Fault → Next) (key : ℕ) (s : Storage) (r : Run) (a : Step) (d0 d1 d2 : DriveState)
    → ((f : Option Fault) → next f ≡ later f) → LooksAgain d0 d1 d2 → ComesBy key later a r s d1 d2 → ComesBy key next a r s d0 d2
unit_comes next later key s r a d0 d1 d2 e looks is =
    comes_after (λ f. Unit {0}) next later key s r a d0 d1 d2
    (record {
      same_next = λ f at. e f;
      at = tt;
      stable = λ left rose. tt;
      failures = ap (λ (i : ImageState). i.failures) looks.image;
      loads = looks.loads;
      quiet = λ q. ap (λ (s : State). tells_equipment_check (drive_of s).sense) looks.state ∙ q;
    }) is

-- The end of a command.

same_length : (r left m L : ℕ) → (left ≡ 0 → m ≡ L) → m + left ≤ L → differs r left ≡ ((m == L && nat_lt 0 r) || (r == 0 && nat_lt m L))
same_length r zero m L h le = let e : m ≡ L = h refl in grind (arith, nat_tests)
same_length r (suc left) m L h le = grind (arith, nat_tests)

no_byte : (r left m L : ℕ) → (left ≡ 0 → m ≡ L) → (r == 0 || left == 0) ≡ true → (nat_lt 0 r && nat_lt m L) ≡ false
no_byte r zero m L h z = let e : m ≡ L = h refl in grind (arith, nat_tests)
no_byte r (suc left) m L h z = grind (arith, nat_tests)

a_byte : (r left m L : ℕ) → m + left ≤ L → (r == 0 || left == 0) ≡ false → (nat_lt 0 r && nat_lt m L) ≡ true
a_byte r left m L h z = grind (arith, nat_tests)

-- how the count stands, as the definitions ask for it
no_chain : (r : ℕ) (b : Bool) → (r ≡ 0 → b ≡ false) → (r == 0 && b) ≡ false
no_chain zero b h = h refl
no_chain (suc r) b h = grind (arith, nat_tests)

no_more : (r left : ℕ) → (r ≡ 0) ⊎ (left ≡ 0) → (r == 0 || left == 0) ≡ true
no_more r left h = grind (arith, nat_tests)

some_more : (r left : ℕ) → 0 < r → 0 < left → (r == 0 || left == 0) ≡ false
some_more r left h k = grind (arith, nat_tests)

told_length : (b i : Bool) → (if not b && i then INCORRECT_LENGTH else no_channel_status)
    ≡ status_of (if i && not b then condition.IncorrectLength else condition.Clear)
told_length true true = refl
told_length true false = refl
told_length false true = refl
told_length false false = refl

module _ (r : Run) (s : Storage) (d0 d1 : DriveState) (flow : Flow) where
  -- where bytes come next, under the word that the program has kept
  abbrev at_bytes : Work → ProgramPhase
  at_bytes w = phase_by (stage.Moving r.ccw r.address) (place_of r.place) s d0.state w

  completes_by : (f : Option Fault) (incorrect : Bool) (w : Work) → FlowsBy flow d0.state w → (r.place.residual == 0 && chains_data r.ccw)
      ≡ false → (r.place.residual == 0 || flow.left == 0) ≡ true
      → d1 ≡ record d0 { work = with_left flow.left w } → incorrect ≡ (not (suppresses_length r.ccw) && differs r.place.residual flow.left)
      → unit f r.key (at_bytes w)
      ≡ next_chosen (choice f r.key (request_at s r.ccw r) (closed_of f d1 d1.work)
      (status_of (condition_for incorrect (closed_of f d1 d1.work).unit)))
  completes_by f incorrect Idle told needs spent drive i = absurd told
  completes_by f incorrect (Over x) told needs spent drive i = absurd told
  completes_by f incorrect (Looking o) told needs spent drive i = absurd told
  completes_by f incorrect (Passing o b l) told needs spent drive i =
      rw (
        needs,
        no_byte r.place.residual flow.left (length b) (length_of (record { opened = o; state = d0.state }) b) told.1 spent,
        drive,
        ← (same_length r.place.residual flow.left (length b) (length_of (record { opened = o; state = d0.state }) b) told.1 told.2),
        ← i,
        told_length (tells (close f (record { opened = o; state = d0.state }) b).unit UNIT_CHECK) incorrect,
      )

  -- a check stops it
  checks_by : (check : ChannelCondition) (few : ℕ) (s2 : Storage) (d2 : DriveState) (w : Work) → FlowsBy flow d0.state w
      → (r.place.residual == 0 && chains_data r.ccw) ≡ false → (r.place.residual == 0 || flow.left == 0) ≡ false
      → MovesBytesBy (segment_of r few) (Err check) s s2 (record d0 { work = with_left flow.left w }) d2 (with_left flow.left w)
      → (s2 ≡ s) × (d2.image ≡ d0.image) × (d2.state ≡ d0.state)
      × ((f : Option Fault) → unit f r.key (at_bytes w) ≡ EndsIn s2 (ending f r.key (place_of r.place) (closed_of f d2 d2.work)
      (status_of check)))
  checks_by check few s2 d2 Idle told needs spent h = absurd told
  checks_by check few s2 d2 (Over x) told needs spent h = absurd told
  checks_by check few s2 d2 (Looking o) told needs spent h = absurd told
  checks_by check few s2 d2 (Passing o b l) told needs spent q =
      let O : Open = record { opened = o; state = d0.state } in (
        q.0,
        ap (λ (d : DriveState). d.image) q.1,
        ap (λ (d : DriveState). d.state) q.1,
        λ f. rw (q.0, q.1, needs, a_byte r.place.residual flow.left (length b) (length_of O b) told.2 spent, q.3 (place_of r.place), q.2),
      )

-- where bytes come next they come under the last word
bytes_come : (r : Run) → r.comes ≡ comes.Bytes → stage_of r ≡ stage.Moving r.ccw r.address
bytes_come r at = ap (λ c. stage_by c r.ccw r.address) at

module _ (r r2 : Run) (s : Storage) (a : Step) (d0 d1 d2 : DriveState) (flow : Flow) (at : r.comes ≡ comes.Bytes)
    (flows : Flows flow d0 d1) where
  unit_there : (f : Option Fault) → unit f r.key (phase_in (run_of r) s d0) ≡ unit f r.key (phase_by (stage.Moving r.ccw r.address)
      (place_of r.place) s d0.state d0.work)
  unit_there f = ap (λ g. unit f r.key (phase_by g (place_of r.place) s d0.state d0.work)) (bytes_come r at)

  -- the count or the drive's bytes are spent, and the command ends
  pub completes : (incorrect : Bool) → (r.place.residual ≡ 0 → chains_data r.ccw ≡ false) → (r.place.residual ≡ 0) ⊎ (flow.left ≡ 0)
      → incorrect ≡ (not (suppresses_length r.ccw) && differs r.place.residual flow.left) → d2.image.loads ≡ d1.image.loads
      → ComesBy r.key (λ f. next_chosen (choice f r.key (request_at s r.ccw r) (closed_of f d1 d1.work)
      (status_of (condition_for incorrect (closed_of f d1 d1.work).unit)))) a r2 s d1 d2
      → ComesBy r.key (λ f. unit f r.key (phase_in (run_of r) s d0)) a r2 s d0 d2
  completes incorrect needs spent i loads =
      unit_comes (λ f. unit f r.key (phase_in (run_of r) s d0))
      (λ f. next_chosen (choice f r.key (request_at s r.ccw r) (closed_of f d1 d1.work)
      (status_of (condition_for incorrect (closed_of f d1 d1.work).unit)))) r.key s r2 a d0 d1 d2
      (λ f. unit_there f ∙ completes_by r s d0 d1 flow f incorrect d0.work flows.told
      (no_chain r.place.residual (chains_data r.ccw) needs) (no_more r.place.residual flow.left spent) flows.drive i)
      (record {
        image = ap (λ (d : DriveState). d.image) flows.drive;
        state = ap (λ (d : DriveState). d.state) flows.drive;
        loads = loads;
      })

  -- a check stops the command
  pub checks : (check : ChannelCondition) (few : ℕ) (s2 : Storage) (d : DriveState) → 0 < r.place.residual → 0 < flow.left
      → MovesBytes (segment_of r few) s d1 (Err check) s2 d → d2.image.loads ≡ d.image.loads
      → ComesBy r.key (λ f. EndsIn s2 (ending f r.key (place_of r.place) (closed_of f d d.work) (status_of check))) a r2 s2 d d2
      → ComesBy r.key (λ f. unit f r.key (phase_in (run_of r) s d0)) a r2 s2 d0 d2
  checks check few s2 d some more h loads =
      unit_comes (λ f. unit f r.key (phase_in (run_of r) s d0)) (λ f. EndsIn s2 (ending f r.key (place_of r.place) (closed_of f d d.work)
      (status_of check))) r.key s2 r2 a d0 d d2
      (λ f. unit_there f ∙ k.3 f) (record { image = k.1; state = k.2; loads = loads })
    where
      k : (s2 ≡ s) × (d.image ≡ d0.image) × (d.state ≡ d0.state)
          × ((f : Option Fault) → unit f r.key (phase_by (stage.Moving r.ccw r.address) (place_of r.place) s d0.state d0.work)
          ≡ EndsIn s2 (ending f r.key (place_of r.place) (closed_of f d d.work) (status_of check)))
      k = checks_by r s d0 d1 flow check few s2 d d0.work flows.told (no_chain r.place.residual (chains_data r.ccw)
          (λ z. absurd (omega arith))) (some_more r.place.residual flow.left some more)
          (subst (λ (d' : DriveState). MovesBytesBy (segment_of r few) (Err check) s s2 d' d d'.work) flows.drive h)

-- Bytes.

-- what a drive that has found the area reports again
pub again : (d : DriveState) → HasFound d → (left_of d.work ≡ 0 → (gives_now d.work ≡ true) ⊎ (length (passed_of d.work) ≡ 8 → ⊥))
    → Flows (record { gives = gives_now d.work; left = left_of d.work }) d d
again d f all = by d.work f all
  where
    by : (w : Work) → FindsBy d.state w → (left_of w ≡ 0 → (gives_now w ≡ true) ⊎ (length (passed_of w) ≡ 8 → ⊥))
        → Flows (record { gives = gives_now w; left = left_of w }) (record d { work = w }) (record d { work = w })
    by Idle f all = absurd f
    by (Over x) f all = absurd f
    by (Looking o) f all = absurd f
    by (Passing o b l) f all = record { told = (refl, λ z. none z (all z), f.0, f.1, f.2); drive = refl }
      where
        L : ℕ
        L = length_of (record { opened = o; state = d.state }) b

        none : l ≡ 0 → (is_giving (action_of o.command) ≡ true) ⊎ (length b ≡ 8 → ⊥) → length b ≡ L
        none z (inl g) = let e : length b + l ≡ L = f.1 g in omega arith
        none z (inr n) = let e : length b + l ≡ L = f.2 (λ h. n (omega arith)) in omega arith

-- so many bytes move at once
module _ (r : Run) (few m : ℕ) (s s2 : Storage) (d0 d2 : DriveState) (flow : Flow) where
  abbrev IsMoved : Work → Type 0
  IsMoved w =
      (walk (units m) r.key (phase_by (stage.Moving r.ccw r.address) (place_of r.place) s d0.state w)
      ≡ StandsIn (phase_by (stage.Moving r.ccw (r.address + m)) (record (place_of r.place) { residual = r.place.residual - m }) s2 d2.state
      d2.work))
      × StageFits (stage.Moving r.ccw (r.address + m)) d2.state d2.work × (d2.image ≡ d0.image) × (d2.state ≡ d0.state) × (0 < m)
      × (m ≤ few)

  moved_by : (w : Work) → FlowsBy flow d0.state w → few ≤ flow.left → few ≤ r.place.residual
      → MovesBytesBy (segment_of r few) (Ok m) s s2 (record d0 { work = with_left flow.left w }) d2 (with_left flow.left w) → IsMoved w
  moved_by Idle told ml mr q = absurd told
  moved_by (Over x) told ml mr q = absurd told
  moved_by (Looking o) told ml mr q = absurd told
  moved_by (Passing o b l) told ml mr q = (
    steps,
    subst (λ (d : DriveState). StageFits (stage.Moving r.ccw (r.address + m)) d.state d.work) (sym k.drive) fits,
    ap (λ (d : DriveState). d.image) k.drive,
    ap (λ (d : DriveState). d.state) k.drive,
    q.0,
    q.1,
  )
    where
      both : (m few r : ℕ) → m ≤ few → few ≤ r → m ≤ r
      both m few r x y = omega arith

      O : Open
      O = record { opened = o; state = d0.state }

      t : Transfer
      t = record { storage = s; ccw = r.ccw; place = place_of r.place; address = r.address; bytes = b }

      k : MovesBytesAs m r.key O t (Passing o b flow.left) s2 (record d0 { work = Passing o b flow.left }) d2
      k = q.2 (place_of r.place) (both m few r.place.residual q.1 mr)

      new : List ℕ
      new = next_bytes m O t

      sum : length (b ++ new) + (flow.left - length new) ≡ length b + flow.left
      sum = let has : m ≤ flow.left = both m few flow.left q.1 ml in omega (arith, length-append b new, k.count, has)

      fits : LeftFits O (b ++ new) (flow.left - length new)
      fits = rw sum (
        omega (arith, told.2, length_grows O b new),
        λ g. told.3 g ∙ gives_length O b g ∙ sym (gives_length O (b ++ new) g),
        λ h. by_length h (length_stays O b new),
      )
        where
          by_length : (length b + flow.left ≡ 8 → ⊥) → (length_of O b ≡ 8) ⊎ (length_of O b ≡ length_of O (b ++ new))
              → length b + flow.left ≡ length_of O (b ++ new)
          by_length h (inl eight) = absurd (h (told.4 h ∙ eight))
          by_length h (inr same) = told.4 h ∙ same

      steps : walk (units m) r.key (Moving O t) ≡ StandsIn (phase_by (stage.Moving r.ccw (r.address + m))
          (record (place_of r.place) { residual = r.place.residual - m }) s2 d2.state d2.work)
      steps =
          ap (λ u. walk u r.key (Moving O t)) (sym (append-nil (units m))) ∙ at_once m r.key [] O t k.may
          ∙ rw (k.drive, k.storage) refl

-- bytes come next in a program that fits its drive, which was asked: what it says, and the drive behind that
pub record AsksForBytes (r : Run) (d0 : DriveState) : Type 0 where
  pub fits : Fits r d0
  pub at : r.comes ≡ comes.Bytes
  pub flow : Flow
  pub drive : DriveState
  pub flows : Flows flow d0 drive

-- so few bytes that they are asked for, counted and left
pub record Fewest (most residual left : ℕ) : Type 0 where
  pub few : ℕ
  pub asked : few ≤ most
  pub counted : few ≤ residual
  pub has : few ≤ left

-- so many bytes move at once
pub moves_on : (r : Run) (most m n : ℕ) (s s2 : Storage) (d0 d2 : DriveState) (asks : AsksForBytes r d0)
    (least : Fewest most r.place.residual asks.flow.left) → MovesBytes (segment_of r least.few) s asks.drive (Ok m) s2 d2 → n ≡ m
    → WalksBy r.key (phase_in (run_of r) s d0) most m (record r {
      place = record r.place { residual = r.place.residual - m };
      address =
          r.address + n;
    }) s2 d0 d2
moves_on r most m n s s2 d0 d2 asks least h e =
    subst (λ n. WalksBy r.key (phase_in (run_of r) s d0) most m (record r {
      place = record r.place { residual = r.place.residual - m };
      address = r.address + n;
    }) s2 d0 d2) (sym e)
    (subst (λ c. WalksBy r.key (phase_in (run_of r) s d0) most m (record r {
      place = record r.place { residual = r.place.residual - m };
      comes = c;
      address = r.address + m;
    }) s2 d0 d2) (sym asks.at) (record {
      some = x.4;
      few = omega (arith, x.5, least.asked);
      failures = ap (λ (i : ImageState). i.failures) x.2;
      goes = ap (λ c. walk (units m) r.key (phase_by (stage_by c r.ccw r.address) (place_of r.place) s d0.state d0.work)) asks.at ∙ x.0;
      same_key = refl;
      fits = record {
        within = record {
          key = asks.fits.within.key;
          place = record { next = asks.fits.within.place.next; last = asks.fits.within.place.last };
          stage =
              (narrow.0, smaller r.address r.place.residual m (omega (arith, x.5, least.counted)) narrow.1);
        };
        stands = record { fits = x.1; saved = ap unsaved x.3 ∙ asks.fits.stands.saved };
      };
      no_check = λ q. ap (λ (s : State). tells_equipment_check (drive_of s).sense) x.3 ∙ q;
    }))
  where
    x : IsMoved r least.few m s s2 d0 d2 asks.flow d0.work
    x = moved_by r least.few m s s2 d0 d2 asks.flow d0.work asks.flows.told least.has least.counted
        (subst (λ (d : DriveState). MovesBytesBy (segment_of r least.few) (Ok m) s s2 d d2 d.work) asks.flows.drive h)

    narrow : StageWithin (stage.Moving r.ccw r.address) (place_of r.place)
    narrow = subst (λ c. StageWithin (stage_by c r.ccw r.address) (place_of r.place)) asks.at asks.fits.within.stage

    smaller : (a r m : ℕ) → m ≤ r → a + r < 2 ^ 25 → (a + m) + (r - m) < 2 ^ 25
    smaller a r m le h = omega arith

-- All bytes of a command, and its end.

-- whether all of them have passed, and the command has all that it wants
pub all_told : (m n : ℕ) (gives : Bool) → (m == n && (gives || not (m == 8))) ≡ true → (n ≤ m) × ((gives ≡ true) ⊎ (m ≡ 8 → ⊥))
all_told m n true h = (grind (arith, nat_tests), inl refl)
all_told m n false h = (grind (arith, nat_tests), inr (λ e. grind (arith, nat_tests)))

-- what the drive is at behind them; the work is named apart from the drive, since it goes by its cases, and storage and
-- drive before and behind, since bytes that move are said of all of them
behind_bytes : (g : StorageArea) (m : ℕ) (p : Place) (s s2 : Storage) (d d2 : DriveState) (w : Work) → MovesBytesBy g (Ok m) s s2 d d2 w
    → m ≤ p.residual
    → (left_of d2.work ≡ left_of w - m) × (length (passed_of d2.work) ≡ length (passed_of w) + m) × (gives_now d2.work ≡ gives_now w)
    × (d2.image ≡ d.image) × (d2.state ≡ d.state)
behind_bytes g m p s s2 d d2 Idle q le = absurd q
behind_bytes g m p s s2 d d2 (Over x) q le = absurd q
behind_bytes g m p s s2 d d2 (Looking o) q le = absurd q
behind_bytes g m p s s2 d d2 (Passing o b left) q le =
    let k = q.2 p le in
    rw k.drive (ap (λ n. left - n) k.count, length-append b _ ∙ ap (λ n. length b + n) k.count, refl, refl, refl)

-- one unit behind so many bytes, which lead to this phase
pub unit_behind : (start : Moment) (m most : ℕ) (at : ProgramPhase) (r : Run) (s : Storage) (a : Step) (d : DriveState) → m < most
    → walk (units m) start.key start.phase ≡ StandsIn at → ComesBy start.key (λ f. unit f start.key at) a r s start.drive d
    → Steps start.key start.phase most (behind m a) r s start.drive d
unit_behind start m most at r s (step.Units n) d few walked c =
    let w = c.1 in
    record {
      some = omega arith;
      few = omega (arith, few);
      failures = w.failures;
      goes = more_units start.key start.key start.phase at (phase_in (run_of r) s d) m 1 refl walked
          (ap (λ n. on_next [] n (walk [] start.key)) w.goes);
      same_key = w.same_key;
      fits = w.fits;
      no_check = w.no_check;
    }
unit_behind start m most at r s (step.Over n) d few walked c =
    record { earlier = m; last = refl; few = omega (arith, few); at = at; goes = walked; ends = c.1 }

-- the drive may end a command whose area it has found
pub found_ends : (s : State) (w : Work) → FindsBy s w → may_end w ≡ true
found_ends s Idle f = absurd f
found_ends s (Over x) f = absurd f
found_ends s (Looking o) f = absurd f
found_ends s (Passing o b l) f = refl

-- a drive whose first byte may not move stays
pub refused_stays : (g : StorageArea) (check : ChannelCondition) (s s2 : Storage) (d d2 : DriveState) (w : Work)
    → MovesBytesBy g (Err check) s s2 d d2 w → d2 ≡ d
refused_stays g check s s2 d d2 Idle q = absurd q
refused_stays g check s s2 d d2 (Over x) q = absurd q
refused_stays g check s s2 d d2 (Looking o) q = absurd q
refused_stays g check s s2 d d2 (Passing o b l) q = q.1

-- one unit counts one, and a step some
pub counts_one : (key : ℕ) (next : Option Fault → Next) (a : Step) (r : Run) (s : Storage) (d0 d1 : DriveState)
    → ComesBy key next a r s d0 d1 → 0 < count_of a
counts_one key next (step.Units n) r s d0 d1 c = omega (arith, c.0)
counts_one key next (step.Over n) r s d0 d1 c = omega (arith, c.0)

pub counts_some : (key : ℕ) (phase : ProgramPhase) (most : ℕ) (a : Step) (r : Run) (s : Storage) (d0 d1 : DriveState)
    → Steps key phase most a r s d0 d1 → 0 < count_of a
counts_some key phase most (step.Units n) r s d0 d1 w = w.some
counts_some key phase most (step.Over n) r s d0 d1 w = omega (arith, w.last)

module _ (r : Run) (d0 : DriveState) (fits : Fits (in_bytes r) d0) (some : 0 < r.place.residual) (left : left_of d0.work
    ≡ r.place.residual) where
  abbrev pub found : Flow
  found = record { gives = gives_now d0.work; left = left_of d0.work }

  pub flows : Flows (record { gives = gives_now d0.work; left = left_of d0.work }) d0 d0
  flows = again d0 fits.stands.fits (λ z. absurd (omega (arith, z, left, some)))

  module _ (m : ℕ) (s s2 : Storage) (d2 : DriveState) (h : MovesBytes (segment_of (in_bytes r) r.place.residual) s d0 (Ok m) s2 d2) where
    -- some of them, or all
    pub moves_some : (most n : ℕ) → r.place.residual ≤ most → n ≡ m
        → WalksBy r.key (phase_in (run_of (in_bytes r)) s d0) most m (record r {
          comes = comes.Bytes;
          place =
              record r.place { residual = r.place.residual - m };
          address = r.ccw.address + n;
        }) s2 d0 d2
    moves_some most n few e =
        moves_on (in_bytes r) most m n s s2 d0 d2 (record { fits = fits; at = refl; flow = found; drive = d0; flows = flows })
        (record { few = r.place.residual; asked = omega (arith, few); counted = omega arith; has = omega (arith, left) }) h e

    abbrev pub moved_run : Run
    moved_run = record r { comes = comes.Bytes; place = record r.place { residual = r.place.residual - m }; address = r.ccw.address + m }

    pub walked : WalksBy r.key (phase_in (run_of (in_bytes r)) s d0) r.place.residual m moved_run s2 d0 d2
    walked = moves_some r.place.residual m (omega arith) refl

    module _ (first : passed_of d0.work ≡ []) (all : r.place.residual ≤ m) (whole : (gives_now d0.work ≡ true) ⊎ (m ≡ 8 → ⊥)) where
      now : (left_of d2.work ≡ left_of d0.work - m) × (length (passed_of d2.work) ≡ length (passed_of d0.work) + m)
          × (gives_now d2.work ≡ gives_now d0.work) × (d2.image ≡ d0.image) × (d2.state ≡ d0.state)
      now = behind_bytes (segment_of (in_bytes r) r.place.residual) m (place_of r.place) s s2 d0 d2 d0.work h walked.few

      pub all_moved : m ≡ r.place.residual
      all_moved = omega (arith, all, walked.few)

      passed : length (passed_of d2.work) ≡ m
      passed = now.1 ∙ ap (λ (b : List ℕ). length b + m) first ∙ (omega arith)

      spent : left_of d2.work ≡ 0
      spent = omega (arith, now.0, left, all)

      nothing : r.place.residual - m ≡ 0
      nothing = omega (arith, all)

      ends_whole : (gives_now d0.work ≡ true) ⊎ (m ≡ 8 → ⊥) → (gives_now d2.work ≡ true) ⊎ (length (passed_of d2.work) ≡ 8 → ⊥)
      ends_whole (inl g) = inl (now.2 ∙ g)
      ends_whole (inr n) = inr (λ e. n (sym passed ∙ e))

      flows_behind : Flows (record { gives = gives_now d2.work; left = left_of d2.work }) d2 d2
      flows_behind = again d2 walked.fits.stands.fits (λ z. ends_whole whole)

      told : (b : Bool) → false ≡ (not b && differs (r.place.residual - m) (left_of d2.work))
      told b = rw (nothing, spent) (by b)
        where
          by : (b : Bool) → false ≡ (not b && differs 0 0)
          by true = refl
          by false = refl

      pub moves_all : (most : ℕ) (r3 : Run) (a : Step) (d3 : DriveState) → r.place.residual < most → chains_data r.ccw ≡ false
          → d3.image.loads ≡ d2.image.loads
          → ComesBy r.key (λ f. next_chosen (choice f r.key (request_at s2 r.ccw (record r { place = record r.place { residual = 0 } }))
          (closed_of f d2 d2.work) (status_of (condition_for false (closed_of f d2 d2.work).unit)))) a r3 s2 d2 d3
          → Steps r.key (phase_in (run_of (in_bytes r)) s d0) most (behind m a) r3 s2 d0 d3
      moves_all most r3 a d3 few unchained loads is =
          unit_behind (moment_of (record { run = in_bytes r; storage = s; drive = d0 })) m most (phase_in (run_of moved_run) s2 d2) r3 s2 a
          d3 (omega (arith, few, walked.few)) walked.goes
          (unit_comes (λ f. unit f r.key (phase_in (run_of moved_run) s2 d2)) (λ f. unit f r.key (phase_in (run_of moved_run) s2 d2)) r.key
          s2 r3 a d0 d2 d3 (λ f. refl) (record { image = now.3; state = now.4; loads = loads })
          (completes moved_run r3 s2 a d2 d2 d3 (record { gives = gives_now d2.work; left = left_of d2.work }) refl flows_behind false
          (λ z. unchained) (inl nothing) (told (suppresses_length r.ccw)) loads
          (subst (λ n. ComesBy r.key
          (λ f. next_chosen (choice f r.key (request_at s2 r.ccw (record r { place = record r.place { residual = n } }))
          (closed_of f d2 d2.work) (status_of (condition_for false (closed_of f d2 d2.work).unit)))) a r3 s2 d2 d3) (sym nothing) is)))

      pub quiet_behind : (a : Step) → NeedNoStore r.key (phase_in (run_of (in_bytes r)) s d0) (count_of (behind m a)) → IsQuiet d2
      quiet_behind a h = phase_quiet (run_of moved_run) s2 d2 walked.fits.stands (h m (phase_in (run_of moved_run) s2 d2)
          (by a) walked.goes)
        where
          by : (a : Step) → m < count_of (behind m a)
          by (step.Units n) = omega arith
          by (step.Over n) = omega arith
