-- Faults that the calls of one unit meet together.
use Rattle.std.proofs.Common.{◌≡◌, ◌⊎◌, inl, inr, ℕ, ◌+◌, ◌≤◌, refl, sym, ap, subst, ◌∙◌, arith, true, false, Bool, not, ◌&&◌, ◌||◌, ◌==◌}
use Rattle.std.proofs.Common.{List, Option, Some, None}
use Rattle.std.specs.Prelude.{if◌then◌else◌}
use Rattle.std.proofs.lemmas.Bool.Decides.{nat_tests}
use Rattle.std.proofs.lemmas.Nat.{and_or_self}
use Rattle.ckd_image.specs.Image.{ImageState}
use Rattle.s360_words.specs.Storage.{Storage}
use Rattle.s360_words.specs.Words.{has}
use Rattle.s360_words.specs.declared.flags.TheConstants.ChannelStatus.{INCORRECT_LENGTH}
use Rattle.s360_words.specs.declared.flags.TheConstants.UnitStatus.{UNIT_CHECK}
use Rattle.s360_words.specs.declared.flags.UnitStatus.{UnitStatus}
use Rattle.s360_words.specs.declared.words.Csw.{Csw}
use Rattle.ckd_command.specs.declared.registers.Mark.{Mark}
use Rattle.ckd_command.specs.declared.registers.Mark.TheVariants.{Saved, Written, Lost}
use Rattle.ckd_command.specs.Drive.{IdleDrive, Closed, Fault, LoadFails, SaveFails, drive_of, is_written, is_written_by, left_by, saving}
use Rattle.ckd_command.specs.Drive.{settled, with_unit_check, unsaved, tells_equipment_check}
use Rattle.ckd_command.proofs.Marks.{Calm}
use Rattle.s360_laws.specs.Endings.{ending}
use Rattle.s360_laws.specs.Places.{Place}
use Rattle.s360_laws.specs.Status.{tells, beside, with_interruption}
use Rattle.s360_laws.specs.Units.{Next, EndsIn}
use Rattle.s360_laws.specs.Unsaved.{GainsNoCheck}
use Rattle.ckd_drive.specs.Work.{DriveState, fault_met, CallsStore, Reports}
use Rattle.s360_program.specs.Advances.{IsEnding, TellsFault, CallsAtMost}
use Rattle.s360_program.specs.Steps.{IsMetBy, ToldOf, EndsBy, ComesBy, Settles, told_of, status_of}
use Rattle.s360_program.specs.declared.conditions.ChannelCondition.{ChannelCondition}
use Rattle.s360_program.specs.declared.conditions.ChannelCondition.TheVariants as condition
use Rattle.s360_program.specs.declared.run.Run.{Run}
use Rattle.s360_program.specs.declared.run.Step.{Step}
use Rattle.s360_program.specs.declared.run.Step.TheVariants as step
use Rattle.s360_program.proofs.Cases.{never, only_left, only_right}

-- The fault that a call met.

self_equal : (n : ℕ) → (n == n) ≡ true
self_equal n = grind (arith, nat_tests)

one_more : (n : ℕ) → (n + 1 == n) ≡ false
one_more n = grind (arith, nat_tests)

none_more : (n : ℕ) → (n + 0 == n) ≡ true
none_more n = grind (arith, nat_tests)

pub met_none : (d0 d1 : DriveState) → d1.image.failures ≡ d0.image.failures → fault_met d0 d1 ≡ None
met_none d0 d1 h = rw (h, self_equal d0.image.failures)

pub met_by : (l m : Bool) (d0 d1 : DriveState) → CallsStore l m d0 d1 → IsMetBy (fault_met d0 d1) d0 d1
met_by l m d0 d1 k = go m k.saves k.failures
  where
    go : (m : Bool) → d1.image.saves ≡ d0.image.saves + (if m then 1 else 0)
        → (d1.image.failures ≡ d0.image.failures) ⊎ ((d1.image.failures ≡ d0.image.failures + 1)
        × ((m ≡ true) ⊎ (d1.image.loads ≡ d0.image.loads + 1)))
        → IsMetBy (fault_met d0 d1) d0 d1
    go m s (inl h) = rw (h, self_equal d0.image.failures)
    go true s (inr h) = rw (h.0, one_more d0.image.failures, s, one_more d0.image.saves)
    go false s (inr (h, inl x)) = never x
    go false s (inr (h, inr x)) = rw (h, one_more d0.image.failures, s, none_more d0.image.saves) (refl, omega (arith, x))

-- a call that loads nothing
pub loads_none : (m : Bool) (d0 d1 : DriveState) → CallsStore false m d0 d1 → d1.image.loads ≡ d0.image.loads
loads_none m d0 d1 k = only_left k.loads (λ h. never h.0)

-- and saves nothing leaves the image
pub untouched : (m : Bool) (d0 d1 : DriveState) → m ≡ false → CallsStore false m d0 d1 → d1.image ≡ d0.image
untouched m d0 d1 e k = k.untouched e (loads_none m d0 d1 k)

-- what a call makes of the store is said of the images alone
behind : (l m : Bool) (d0 d1 d2 : DriveState) → d2.image ≡ d1.image → CallsStore l m d0 d1 → CallsStore l m d0 d2
behind l m d0 d1 d2 e a =
    subst (λ (i : ImageState). CallsStore l m d0 (record d2 { image = i })) (sym e)
    (record {
      loads = a.loads;
      saves = a.saves;
      failures = a.failures;
      slots = a.slots;
      untouched = a.untouched;
      lasting =
          a.lasting;
      geometry = a.geometry;
    })

before : (l m : Bool) (d0 d1 d2 : DriveState) → d1.image ≡ d0.image → CallsStore l m d1 d2 → CallsStore l m d0 d2
before l m d0 d1 d2 e b =
    subst (λ (i : ImageState). CallsStore l m (record d0 { image = i }) d2) e
    (record {
      loads = b.loads;
      saves = b.saves;
      failures = b.failures;
      slots = b.slots;
      untouched = b.untouched;
      lasting =
          b.lasting;
      geometry = b.geometry;
    })

-- a call that loads nothing and fails has failed to save, and the sense says so
saving_failed : (w : Bool) (So : Type 0) (d1 d2 : DriveState) → CallsStore false w d1 d2 → Reports So d1 d2
    → d2.image.failures ≡ d1.image.failures + 1
    → (w ≡ true) × (tells_equipment_check d2.state.registers.sense ≡ true)
saving_failed w So d1 d2 calls reports rose = (saved w calls, (only_right reports.failed not_both).1)
  where
    not_both : d2.image.failures ≡ d1.image.failures → ⊥
    not_both same = omega arith

    saved : (w : Bool) → CallsStore false w d1 d2 → w ≡ true
    saved true k = refl
    saved false k = absurd (not_both (ap (λ (i : ImageState). i.failures) (untouched false d1 d2 refl k)))

-- a call that did not fail met no fault
pub unfailed : (Failed : Type 0) (d0 d1 : DriveState) → (Failed → ⊥) → Reports Failed d0 d1 → d1.image.failures ≡ d0.image.failures
unfailed Failed d0 d1 n reports = only_left reports.failed (λ h. n h.0)

-- Settling.

-- where nothing is to be saved, no saving fails
settled_unwritten : (f : Option Fault) (c : Closed) → is_written c.state ≡ false → settled f c ≡ c
settled_unwritten None c h = refl
settled_unwritten (Some LoadFails) c h = refl
settled_unwritten (Some (SaveFails left)) c h = go c.state.mark h
  where
    go : (m : Mark) → is_written_by m ≡ false → saving (left_by (Some (SaveFails left)) m) c.state (λ s. record c {
      state = s;
      unit =
          with_unit_check c.unit;
    }) c ≡ c
    go Saved k = refl
    go Lost k = refl
    go Written k = never (sym k)

-- where a written track can't be saved, unit check is reported
settled_failed : (left : List ℕ) (c : Closed) → is_written c.state ≡ true → tells (settled (Some (SaveFails left)) c).unit UNIT_CHECK ≡ true
settled_failed left c h = go c.state.mark h
  where
    go : (m : Mark) → is_written_by m ≡ true → tells (saving (left_by (Some (SaveFails left)) m) c.state (λ s. record c {
      state = s;
      unit =
          with_unit_check c.unit;
    }) c).unit UNIT_CHECK ≡ true
    go Saved k = never k
    go Lost k = never k
    go Written k = ap (λ n. not (n == 0)) (and_or_self 0x02 c.unit.0)

ending_unwritten : (f g : Option Fault) (key : ℕ) (p : Place) (c : Closed) (k : ChannelCondition) → is_written c.state ≡ false
    → ending f key p c (status_of k) ≡ ending g key p c (status_of k)
ending_unwritten f g key p c k h = rw (settled_unwritten f c h, settled_unwritten g c h)

-- incorrect length is not reported beside unit check
length_untold : (asked : Bool) (unit : UnitStatus) (k : ChannelCondition) → tells unit UNIT_CHECK ≡ true
    → has (with_interruption asked (beside unit (status_of k))).0 INCORRECT_LENGTH.0 ≡ false
length_untold asked unit k h =
    ap (λ b. has (with_interruption asked (if b && is_length k then record { 0 = 0 } else status_of k)).0 INCORRECT_LENGTH.0) h ∙ go asked k
  where
    is_length : ChannelCondition → Bool
    is_length k = (status_of k).0 == INCORRECT_LENGTH.0

    go : (asked : Bool) (k : ChannelCondition) → has (with_interruption asked (if is_length k then record { 0 = 0 } else status_of k)).0
        INCORRECT_LENGTH.0 ≡ false
    go true condition.Clear = refl
    go true condition.IncorrectLength = refl
    go true condition.ProgramCheck = refl
    go true condition.ProtectionCheck = refl
    go false condition.Clear = refl
    go false condition.IncorrectLength = refl
    go false condition.ProgramCheck = refl
    go false condition.ProtectionCheck = refl

-- its premises are many, since a save that fails as the program ends and a call that failed before it come here
tells_fault : (f : Option Fault) (key : ℕ) (p : Place) (c : Closed) (k : ChannelCondition) (told : Csw × Bool) (d : DriveState)
    → tells (settled f c).unit UNIT_CHECK ≡ true
    → tells_equipment_check d.state.registers.sense ≡ true → IsEnding (ending f key p c (status_of k)) told d → TellsFault told.0 d
tells_fault f key p c k told d unit sense is = record {
  unit_check = ap (λ (w : Csw). tells w.unit UNIT_CHECK) is.csw ∙ unit;
  length = ap (λ (w : Csw). has w.channel.0 INCORRECT_LENGTH.0) is.csw ∙ length_untold p.interruption (settled f c).unit k unit;
  equipment_check = sense;
}

-- A call of the drive, and then the end of the program: together they meet the fault of the one that failed. `At f` says that with
-- the fault f the call comes to what it came to: a command that is over so.
pub record Call (At : Option Fault → Type 0) (Failed : Type 0) (l m : Bool) (c : Closed) (d0 d1 : DriveState) : Type 0 where
  pub stable : At None → (left : List ℕ) → is_written c.state ≡ true → At (Some (SaveFails left))
  pub calm : At None → Calm (tells_equipment_check (drive_of d0.state).sense ≡ false) c.state
  pub fails : Failed → tells c.unit UNIT_CHECK ≡ true
  pub at : At (fault_met d0 d1)
  pub same : c.state ≡ d1.state
  pub calls : CallsStore l m d0 d1
  pub reports : Reports Failed d0 d1

module _ (next : Option Fault → Next) (c : Closed) (key : ℕ) (p : Place) (k : ChannelCondition) (s : Storage) (told : Csw × Bool) where
  pub ends_after : (At : Option Fault → Type 0) (Failed : Type 0) (l m : Bool) (d0 d1 d2 : DriveState) → Call At Failed l m c d0 d1
      → Settles c key p k told d1 d2
      → ((f : Option Fault) → At f → next f ≡ EndsIn s (ending f key p c (status_of k))) → EndsBy next told s d0 d2
  ends_after At Failed l m d0 d1 d2 call end nexts = by_count call.calls.failures call.reports.failed
    where
      -- the second call, where the first one did not fail
      second : d1.image.failures ≡ d0.image.failures → At None → (f : Option Fault) → IsMetBy f d1 d2
          → IsEnding (ending f key p c (status_of k)) told d2 → EndsBy next told s d0 d2
      second h at None m is = record {
        fault = None;
        met = m ∙ h;
        ending = ending None key p c (status_of k);
        ends = nexts None at;
        is_ending = is;
        told_of = record {
          saved = is.drive.unsaved ∙ (call.calm at).saved;
          no_check = subst (λ e. GainsNoCheck (drive_of d0.state) e)
              (sym is.drive.drive) (call.calm at).quiet;
        };
      }
      second h at (Some LoadFails) m is = absurd (omega (arith, m.1, loads_none (is_written d1.state) d1 d2 end.calls))
      second h at (Some (SaveFails left)) m is =
          let x = saving_failed (is_written d1.state) _ d1 d2 end.calls end.reports m in
          let w : is_written c.state ≡ true = ap is_written call.same ∙ x.0 in
          record {
            fault = Some (SaveFails left);
            met = m ∙ ap (λ n. n + 1) h;
            ending = ending (Some (SaveFails left)) key p c (status_of k);
            ends = nexts (Some (SaveFails left)) (call.stable at left w);
            is_ending = is;
            told_of = tells_fault (Some (SaveFails left)) key p c k told d2 (settled_failed left c w) x.1 is;
          }

      -- the first one failed, and nothing is saved by the second
      first : d1.image.failures ≡ d0.image.failures + 1 → Failed → tells_equipment_check d1.state.registers.sense ≡ true
          → is_written d1.state ≡ false → EndsBy next told s d0 d2
      first rose failed sense w = record {
        fault = fault_met d0 d2;
        met = met;
        ending = ending (fault_met d1 d2) key p c (status_of k);
        ends = nexts (fault_met d0 d2) (subst (λ i. At (fault_met d0 (record d2 { image = i }))) (sym image) call.at)
            ∙ ap (λ e. EndsIn s e) (ending_unwritten (fault_met d0 d2) (fault_met d1 d2) key p c k cw);
        is_ending = end.is;
        told_of = told_by (fault_met d0 d2) met;
      }
        where
          cw : is_written c.state ≡ false
          cw = ap is_written call.same ∙ w

          image : d2.image ≡ d1.image
          image = untouched (is_written d1.state) d1 d2 w end.calls

          met : IsMetBy (fault_met d0 d2) d0 d2
          met = met_by l m d0 d2 (behind l m d0 d1 d2 image call.calls)

          kept : settled (fault_met d1 d2) c ≡ c
          kept = settled_unwritten (fault_met d1 d2) c cw

          drive : drive_of d2.state ≡ drive_of d1.state
          drive = end.is.drive.drive ∙ ap (λ (c : Closed). drive_of c.state) kept ∙ ap drive_of call.same

          told_by : (f : Option Fault) → IsMetBy f d0 d2 → ToldOf f told.0 d0 d2
          told_by None m = absurd (omega (arith, m, rose, ap (λ (i : ImageState). i.failures) image))
          told_by (Some f) m =
              tells_fault (fault_met d1 d2) key p c k told d2 (ap (λ (c : Closed). tells c.unit UNIT_CHECK) kept ∙ call.fails failed)
              (ap (λ (d : IdleDrive). tells_equipment_check d.sense) drive ∙ sense) end.is

      by_count : (d1.image.failures ≡ d0.image.failures) ⊎ ((d1.image.failures ≡ d0.image.failures + 1)
          × ((m ≡ true) ⊎ (d1.image.loads ≡ d0.image.loads + 1)))
          → (d1.image.failures ≡ d0.image.failures) ⊎ (Failed × (tells_equipment_check d1.state.registers.sense ≡ true)
          × (is_written d1.state ≡ false)) → EndsBy next told s d0 d2
      by_count (inr h) (inr r) = first h.0 r.0 r.1 r.2
      by_count (inl h) r = second h (subst At (met_none d0 d1 h) call.at) (fault_met d1 d2)
          (met_by false (is_written d1.state) d1 d2 end.calls) end.is
      by_count (inr x) (inl h) = second h (subst At (met_none d0 d1 h) call.at) (fault_met d1 d2)
          (met_by false (is_written d1.state) d1 d2 end.calls) end.is

  -- The program ends by one call of the drive, its last.
  pub ends_now : (d0 d2 : DriveState) → c.state ≡ d0.state → unsaved d0.state ≡ None → Settles c key p k told d0 d2
      → ((f : Option Fault) → next f ≡ EndsIn s (ending f key p c (status_of k))) → EndsBy next told s d0 d2
  ends_now d0 d2 same saved end nexts =
      ends_after (λ f. Unit {0}) ⊥ false false d0 d0 d2 (record {
        stable = λ at left w. tt;
        calm = λ at. record { saved = ap unsaved same ∙ saved; quiet = λ q. ap (λ s. tells_equipment_check (drive_of s).sense) same ∙ q };
        fails = λ x. absurd x;
        at = tt;
        same = same;
        calls = record {
          loads = inl refl;
          saves = none d0.image.saves;
          failures = inl refl;
          slots = λ e. refl;
          untouched =
              λ e l. refl;
          lasting = refl;
          geometry = refl;
        };
        reports = record { failed = inl refl; good = λ h k. k };
      }) end (λ f at. nexts f)
    where
      none : (n : ℕ) → n ≡ n + 0
      none n = omega arith

-- A call of the drive goes well, and more calls follow.

-- A call goes well, and those that follow it load nothing: the unit comes to what they come to, with no fault or with a save's. `At f`
-- says that with the fault f the call comes to what it came to.
pub record GoesWell (At : Option Fault → Type 0) (next later : Option Fault → Next) (d0 d1 d2 : DriveState) : Type 0 where
  pub same_next : (f : Option Fault) → At f → next f ≡ later f
  pub at : At None
  pub stable : (left : List ℕ) → d2.image.failures ≡ d1.image.failures + 1 → At (Some (SaveFails left))
  pub failures : d1.image.failures ≡ d0.image.failures
  pub loads : d2.image.loads ≡ d1.image.loads
  pub quiet : GainsNoCheck (drive_of d0.state) (drive_of d1.state)

pub more_after : (At : Option Fault → Type 0) (next later : Option Fault → Next) (s : Storage) (told : Csw × Bool) (d0 d1 d2 : DriveState)
    → GoesWell At next later d0 d1 d2 → EndsBy later told s d1 d2 → EndsBy next told s d0 d2
more_after At next later s told d0 d1 d2 well is = go is.fault is.met is.ends is.told_of
  where
    by : (f : Option Fault) → IsMetBy f d0 d2 → next f ≡ EndsIn s is.ending → ToldOf f told.0 d0 d2 → EndsBy next told s d0 d2
    by f m n t = record { fault = f; met = m; ending = is.ending; ends = n; is_ending = is.is_ending; told_of = t }

    go : (f : Option Fault) → IsMetBy f d1 d2 → later f ≡ EndsIn s is.ending → ToldOf f told.0 d1 d2 → EndsBy next told s d0 d2
    go None m n t = by None (m ∙ well.failures) (well.same_next None well.at ∙ n)
        (record { saved = t.saved; no_check = λ q. t.no_check (well.quiet q) })
    go (Some LoadFails) m n t = absurd (omega (arith, m.1, well.loads))
    go (Some (SaveFails left)) m n t = by (Some (SaveFails left)) (m ∙ ap (λ n. n + 1) well.failures)
        (well.same_next (Some (SaveFails left)) (well.stable left m) ∙ n) t

-- the same where the unit goes on
pub comes_after : (At : Option Fault → Type 0) (next later : Option Fault → Next) (key : ℕ) (s : Storage) (r : Run) (a : Step)
    (d0 d1 d2 : DriveState) → GoesWell At next later d0 d1 d2 → ComesBy key later a r s d1 d2 → ComesBy key next a r s d0 d2
comes_after At next later key s r (step.Units n) d0 d1 d2 well is =
    let w = is.1 in (
      is.0,
      record {
        failures = w.failures ∙ well.failures;
        goes = well.same_next None well.at ∙ w.goes;
        same_key = w.same_key;
        fits = w.fits;
        no_check =
            λ q. w.no_check (well.quiet q);
      },
    )
comes_after At next later key s r (step.Over n) d0 d1 d2 well is = (is.0, more_after At next later s (told_of r) d0 d1 d2 well is.1)

-- How often the store is called.

pub once : (l m : Bool) (d0 d1 : DriveState) → CallsStore l m d0 d1 → CallsAtMost 1 d0 d1
once l m d0 d1 k = record { calls = go m k.saves k.loads; lasting = k.lasting; geometry = k.geometry }
  where
    go : (m : Bool) → d1.image.saves ≡ d0.image.saves + (if m then 1 else 0) → (d1.image.loads ≡ d0.image.loads)
        ⊎ ((l ≡ true) × (m ≡ false) × (d1.image.loads ≡ d0.image.loads + 1))
        → d1.image.loads + d1.image.saves ≤ d0.image.loads + d0.image.saves + 1
    go true s (inl x) = omega arith
    go true s (inr x) = never (sym x.1)
    go false s (inl x) = omega arith
    go false s (inr x) = let y : d1.image.loads ≡ d0.image.loads + 1 = x.2 in omega arith

pub both : (n k : ℕ) (d0 d1 d2 : DriveState) → CallsAtMost n d0 d1 → CallsAtMost k d1 d2 → CallsAtMost (n + k) d0 d2
both n k d0 d1 d2 a b = record {
  calls = omega (arith, a.calls, b.calls);
  lasting = b.lasting ∙ a.lasting;
  geometry = b.geometry
      ∙ a.geometry;
}

-- Two calls of which at most one saves, and which load nothing: the other one leaves the image.

pub saves_together : (m w : Bool) (d0 d1 d2 : DriveState) → (m ≡ true → w ≡ false) → CallsStore false m d0 d1 → CallsStore false w d1 d2
    → CallsStore false (m || w) d0 d2
saves_together true w d0 d1 d2 only a b = behind false true d0 d1 d2 (untouched w d1 d2 (only refl) b) a
saves_together false w d0 d1 d2 only a b = before false w d0 d1 d2 (untouched false d0 d1 refl a) b
