-- An available channel: what a start leaves, and what starts, tests and interruptions do by the arms of its drives.
use Rattle.std.proofs.Common.{◌≡◌, ℕ, refl, sym, ap, subst, ◌∙◌, Bool, cond, ◌==◌, List, map, Some, ◌+◌, ◌*◌, ◌<◌, true, false, [], ◌∷◌}
use Rattle.std.proofs.Common.{length, Option, None}
use Rattle.std.proofs.lemmas.Bool.{eqb-false}
use Rattle.std.proofs.lemmas.Option.{slice_get_within}
use Rattle.std.specs.Prelude.{slice_get, slice_set, if◌then◌else◌, find, filter, position, option_map, nat_lt}
use Rattle.s360_words.specs.declared.flags.ChannelStatus.{ChannelStatus}
use Rattle.s360_words.specs.declared.flags.TheConstants.ChannelStatus.{PROGRAM_CHECK}
use Rattle.s360_words.specs.declared.flags.TheConstants.UnitStatus.{UNIT_CHECK, BUSY, DEVICE_END}
use Rattle.s360_words.specs.declared.words.Csw.{Csw}
use Rattle.s360_words.specs.Storage.{Storage, changed, status_stored, caw_word, csw_stored}
use Rattle.ckd_command.specs.declared.close.DriveEnding.{DriveEnding}
use Rattle.ckd_command.specs.Drive.{drive_of}
use Rattle.ckd_drive.specs.Work.{DriveState}
use Rattle.s360_laws.specs.Runs.{Start}
use Rattle.s360_laws.specs.Scripts.{units}
use Rattle.s360_laws.specs.Starts.{First, first}
use Rattle.s360_laws.specs.Status.{no_channel_status, no_unit_status, with_interruption, busy_device_end}
use Rattle.s360_program.specs.declared.program.Start.TheVariants as start
use Rattle.s360_program.specs.Laws.{AcceptedStands}
use Rattle.s360_program.specs.Stands.{RunningState}
use Rattle.s360_program.specs.Starting.{IsBad, IsRejected, IsImmediate, IsAccepted}
use Rattle.s360_laws.specs.declared.arm.Arm.{Arm}
use Rattle.s360_laws.specs.declared.arm.Arm.TheVariants.{InMotion, AtRest, Arrived}
use Rattle.s360_laws.specs.declared.condition.ConditionCode.TheVariants as code
use Rattle.s360_laws.specs.Events.{Answer, WithCode, Interrupted}
use Rattle.s360_laws.specs.Machine.{Machine, Device, started, start_of, arm_after, with_device, start_device, test_device, device_at}
use Rattle.s360_laws.specs.Machine.{csw_of_unit, with_arm, lower, lowest, has_arrived, interrupt_device}
use Rattle.s360_laws.specs.Machine as machine
use Rattle.s360_laws.specs.Soundness.{AreDistinct}
use Rattle.s360_laws.proofs.FindDevices.{distinct_map, keeps_one, set_drive, set_both, set_arm}
use Rattle.s360_laws.specs.declared.status.Condition.{Condition}
use Rattle.s360_laws.specs.declared.status.Condition.TheVariants.{Stored}
use Rattle.s360_laws.specs.declared.status.Status.{Status}
use Rattle.s360_laws.specs.Seen.{condition_seen, status_seen, csw_seen}
use Rattle.s360_channel.specs.Channel.{machine_of, Shows}
use Rattle.attached_drives.specs.Drives.{AttachedState, AllRest, OthersRest, device_of, is_at}
use Rattle.s360_channel.specs.declared.subchannel.Subchannel.{Subchannel}
use Rattle.s360_channel.specs.declared.subchannel.Subchannel.TheVariants.{Idle, Working}
use Rattle.attached_drives.specs.DriveCalls.{DriveChanges, ArmChanges, Starts}
use Rattle.s360_channel.specs.Nexts.{ShowsNext, of_parts, idle_machine}
use Rattle.attached_drives.proofs.Places.{changes, devices, devices_set, get_set, set_same, set_twice, all_set, others_of_all, others_set}
use Rattle.attached_drives.proofs.Places.{map_same, inside, FoundAt, arm_there, found_by, none_found, none_is_some, rests_at}

-- What a start leaves at an available channel.

-- the first unit of the program at a drive
abbrev pub first_of : (number : ℕ) → Storage → List AttachedState → AttachedState → First
first_of number s us u = first (start_of (idle_machine number s us) (drive_of u.drive.state))

abbrev pub next_of : (number : ℕ) → Storage → List AttachedState → AttachedState → Answer × Machine
next_of number s us u = started u.device (idle_machine number s us) (first_of number s us u)

module _ (number : ℕ) (s : Storage) (us : List AttachedState) (place : ℕ) (u : AttachedState) (there : slice_get us place ≡ Some u)
    (rest : AllRest us) (distinct : AreDistinct (devices us)) where
  abbrev here_started : Start
  here_started = start_of (idle_machine number s us) (drive_of u.drive.state)

  -- what a start did to the drive
  record Here (How : DriveState → DriveState → Type 0) (us' : List AttachedState) : Type 0 where
    drive : DriveState
    becomes : us' ≡ slice_set us place (record u { drive = drive })
    how : How u.drive drive

  here : (How : DriveState → DriveState → Type 0) (us' : List AttachedState) → DriveChanges place How us us' → Here How us'
  here How us' e =
      let same : e.attached ≡ u = inside e.attached u (sym e.was ∙ there) in record {
        drive = e.drive;
        becomes = rw same at e.becomes;
        how = subst (λ (v : AttachedState). How v.drive e.drive) same e.how;
      }

  -- a start that is bad
  pub starts_bad : (caw : ℕ) (sub : Subchannel) (answer : Condition Status) (us' : List AttachedState) (s' : Storage) → sub ≡ Idle
      → caw ≡ caw_word s → DriveChanges place (Starts caw s start.Bad) us us'
      → answer ≡ Stored (record { unit = no_unit_status; channel = PROGRAM_CHECK })
      → s' ≡ changed (status_stored no_unit_status.0 PROGRAM_CHECK.0) s
      → ShowsNext (next_of number s us u) (condition_seen status_seen answer) (of_parts number s' sub us')
  starts_bad caw sub answer us' s' idle word e is stored =
      let h = here (Starts caw s start.Bad) us' e in
      let bad = subst (λ caw. IsBad (record { caw = caw; storage = s; drive = drive_of u.drive.state }) u.drive h.drive) word h.how.0 in
      let same : us' ≡ us = h.becomes ∙ rw (bad.drive, set_same us place u there) refl in
      rw (idle, is, stored, same, bad.first) (record { answers = refl; shows = (refl, rest) })

  -- a command that is rejected
  pub starts_rejected : (caw : ℕ) (sub : Subchannel) (answer : Condition Status) (us' : List AttachedState) (s' : Storage) → sub ≡ Idle
      → caw ≡ caw_word s → DriveChanges place (Starts caw s start.Rejected) us us'
      → answer ≡ Stored (record { unit = UNIT_CHECK; channel = no_channel_status })
      → s' ≡ changed (status_stored UNIT_CHECK.0 no_channel_status.0) s
      → ShowsNext (next_of number s us u) (condition_seen status_seen answer) (of_parts number s' sub us')
  starts_rejected caw sub answer us' s' idle word e is stored =
      let h = here (Starts caw s start.Rejected) us' e in
      let rejected = subst (λ caw. IsRejected (record { caw = caw; storage = s; drive = drive_of u.drive.state }) h.drive) word h.how.0 in
      rw (idle, is, stored, h.becomes, rejected.first) (record {
        answers = refl;
        shows = (
          rw (devices_set us place u (record u { drive = h.drive }) (set_drive (drive_of h.drive.state)) distinct there refl) refl,
          all_set us place (record u { drive = h.drive }) rest rejected.rests,
        );
      })

  -- an immediate command, which is over at once
  pub starts_immediate : (caw : ℕ) (sub : Subchannel) (answer : Condition Status) (us' us'' : List AttachedState) (s' : Storage)
      (told : DriveEnding) (asked : Bool) (arm : Arm) (channel : ChannelStatus)
      → sub ≡ Idle → caw ≡ caw_word s → DriveChanges place (Starts caw s (start.Immediate told asked)) us us'
      → ArmChanges place arm us' us''
      → arm ≡ (if told.motion then InMotion else AtRest) → channel ≡ with_interruption asked no_channel_status
      → answer ≡ Stored (record { unit = told.unit; channel = channel }) → s' ≡ changed (status_stored told.unit.0 channel.0) s
      → ShowsNext (next_of number s us u) (condition_seen status_seen answer) (of_parts number s' sub us'')
  starts_immediate caw sub answer us' us'' s' told asked arm channel idle word e a arm_is channel_is is stored =
      let h = here (Starts caw s (start.Immediate told asked)) us' e in
      let i = subst (λ caw. IsImmediate (record { caw = caw; storage = s; drive = drive_of u.drive.state }) told asked h.drive) word h.how.0
      in
      let new : AttachedState = record u { drive = h.drive; arm = arm } in
      let same : a.attached ≡ record u { drive = h.drive } = inside a.attached (record u { drive = h.drive }) (sym a.was
      ∙ (ap (λ us. slice_get us place) h.becomes ∙ get_set us place u (record u { drive = h.drive }) there)) in
      let in_place : us'' ≡ slice_set us place new =
      a.becomes ∙ rw same (ap (λ us. slice_set us place new) h.becomes ∙ set_twice us place (record u { drive = h.drive }) new) in
      let same_channel : channel ≡ i.ending.csw.channel = channel_is ∙ sym i.channel in
      let same_device : device_of new ≡ set_both (arm_after i.ending) i.ending.drive (device_of u) =
      rw (arm_is, i.motion, i.drive.drive) refl in
      rw (idle, is, stored, in_place, i.first) (record {
        answers = rw (i.unit, same_channel) refl;
        shows = (
          rw (
            devices_set us place u new (set_both (arm_after i.ending) i.ending.drive) distinct there same_device,
            same_channel,
            i.unit,
          ) refl,
          all_set us place new rest i.drive.rests,
        );
      })

  -- a program that runs
  pub starts_accepted : AcceptedStands → (caw : ℕ) (us' : List AttachedState) (r : RunningState) → caw ≡ caw_word s
      → DriveChanges place (Starts caw s (start.Accepted r)) us us'
      → ShowsNext (next_of number s us u) (WithCode code.Zero) (of_parts number s (Working place r) us')
  starts_accepted stands caw us' r word e = rw accepted.first (record {
    answers = refl;
    shows = record {
      attached = new;
      is_there = ap (λ us. slice_get us place) h.becomes ∙ get_set us place u new there;
      storage = s;
      drive = drive_of u.drive.state;
      script = units 1;
      machine = ap (λ ds. record (machine_of (of_parts number s Idle us) (machine.Working u.device (units 1))) { devices = ds }) back;
      runs = stands here_started r h.drive accepted;
      others = subst (OthersRest place) (sym h.becomes) (others_set us place u new there (others_of_all us place rest));
    };
  })
    where
      h : Here (Starts caw s (start.Accepted r)) us'
      h = here (Starts caw s (start.Accepted r)) us' e

      accepted : IsAccepted here_started r h.drive
      accepted = subst (λ caw. IsAccepted (record { caw = caw; storage = s; drive = drive_of u.drive.state }) r h.drive) word h.how.0

      new : AttachedState
      new = record u { drive = h.drive }

      distinct_placed : AreDistinct (devices (slice_set us place new))
      distinct_placed = subst AreDistinct (sym (devices_set us place u new (set_drive (drive_of h.drive.state)) distinct there refl))
          (distinct_map _ (keeps_one u.device (set_drive (drive_of h.drive.state)) (λ v. refl)) (devices us) distinct)

      back : devices us ≡ map (changes u.device (set_drive (drive_of u.drive.state))) (devices us')
      back = sym (ap devices (set_twice us place new u ∙ set_same us place u there))
          ∙ devices_set (slice_set us place new) place new u (set_drive (drive_of u.drive.state)) distinct_placed
          (get_set us place u new there) refl
          ∙ ap (λ us. map (changes u.device (set_drive (drive_of u.drive.state))) (devices us)) (sym h.becomes)

-- The images of the drives, which a start and an arm leave as they are.

pub started_images : (us : List AttachedState) (place caw : ℕ) (s : Storage) (answer : _) (us' : List AttachedState)
    → DriveChanges place (Starts caw s answer) us us'
    → map (λ (u : AttachedState). u.drive.image) us' ≡ map (λ (u : AttachedState). u.drive.image) us
started_images us place caw s answer us' e = rw e.becomes (map_same (λ (u : AttachedState). u.drive.image) us place _ _ e.was e.how.1.image)

pub armed_images : (us : List AttachedState) (place : ℕ) (arm : Arm) (us' : List AttachedState) → ArmChanges place arm us us'
    → map (λ (u : AttachedState). u.drive.image) us' ≡ map (λ (u : AttachedState). u.drive.image) us
armed_images us place arm us' a = rw a.becomes (map_same (λ (u : AttachedState). u.drive.image) us place _ _ a.was refl)

-- An available channel: what starts, tests and interruptions do by the arms of its drives.

pub within : (device : ℕ) (us : List AttachedState) (place : ℕ) → position (is_at device) us ≡ Some place → place < length us
within device us place h = let f : FoundAt device us place = found_by device us place h in slice_get_within us place f.attached f.is_there

module _ (number : ℕ) (s : Storage) (us : List AttachedState) (place : ℕ) (u : AttachedState) (there : slice_get us place ≡ Some u)
    (rest : AllRest us) (distinct : AreDistinct (devices us)) where
  -- the arm changes, and storage too
  pub armed_shows : (arm : Arm) (us' : List AttachedState) (t : Storage) → ArmChanges place arm us us'
      → Shows (of_parts number t Idle us') (record (with_arm arm u.device (idle_machine number s us)) { storage = t }) Idle
  armed_shows arm us' t a = rw (a.becomes, inside a.attached u (sym a.was ∙ there)) (
    rw (devices_set us place u (record u { arm = arm }) (set_arm arm) distinct there refl) refl,
    all_set us place _ rest (rests_at us place u rest there),
  )

  pub start_arrived : (answer : Condition Status) (sub : Subchannel) (us' : List AttachedState) (s' : Storage) → sub ≡ Idle
      → u.arm ≡ Arrived → ArmChanges place AtRest us us'
      → answer ≡ Stored (record { unit = busy_device_end; channel = no_channel_status })
      → s' ≡ changed (status_stored busy_device_end.0 no_channel_status.0) s
      → ShowsNext (start_device u.device (idle_machine number s us) (Some (device_of u))) (condition_seen status_seen answer)
      (of_parts number s' sub us')
  start_arrived answer sub us' s' idle is_arm a is stored = rw (idle, is_arm, is, stored)
      (record { answers = refl; shows = armed_shows AtRest us' (changed (status_stored busy_device_end.0 no_channel_status.0) s) a })

  pub start_at_rest : (answer : Answer) (sub' : Subchannel) (us' : List AttachedState) (s' : Storage) → u.arm ≡ AtRest
      → ShowsNext (started u.device (idle_machine number s us) (first (start_of (idle_machine number s us) (drive_of u.drive.state))))
      answer (of_parts number s' sub' us')
      → ShowsNext (start_device u.device (idle_machine number s us) (Some (device_of u))) answer (of_parts number s' sub' us')
  start_at_rest answer sub' us' s' is_arm h = rw is_arm h

-- Test I/O, by the address that is asked.
module _ (device number : ℕ) (s : Storage) (us : List AttachedState) (rest : AllRest us) (distinct : AreDistinct (devices us)) where
  abbrev pub asked : Answer × Machine
  asked = test_device device (idle_machine number s us) (device_at (idle_machine number s us) device)

  pub test_none : position (is_at device) us ≡ None → ShowsNext asked (WithCode code.Three) (of_parts number s Idle us)
  test_none h = rw (none_found device us h) (record { answers = refl; shows = (refl, rest) })

  module _ (place : ℕ) (h : position (is_at device) us ≡ Some place) where
    f : FoundAt device us place
    f = found_by device us place h

    -- the device that is asked, by what its arm does
    by_arm : (arm : Arm) {answer : Answer} {s' : Storage} {us' : List AttachedState} → Some arm ≡ option_map (λ (u : AttachedState). u.arm)
        (slice_get us place)
        → ShowsNext (test_device device (idle_machine number s us) (Some (record (device_of f.attached) { arm = arm }))) answer
        (of_parts number s' Idle us') → ShowsNext asked answer (of_parts number s' Idle us')
    by_arm arm {answer} {s'} {us'} a k = rw (f.found, arm_there us place f.attached arm f.is_there a) k

    pub test_in_motion : (answer : Condition Csw) (s' : Storage) → Some InMotion ≡ option_map (λ (u : AttachedState). u.arm)
        (slice_get us place) → answer ≡ Stored (csw_of_unit BUSY) → s' ≡ changed (csw_stored (csw_of_unit BUSY)) s
        → ShowsNext asked (condition_seen csw_seen answer) (of_parts number s' Idle us)
    test_in_motion answer s' a is stored = rw (is, stored) (by_arm InMotion a (record { answers = refl; shows = (refl, rest) }))

    pub test_arrived : (answer : Condition Csw) (us' : List AttachedState) (s' : Storage)
        → Some Arrived ≡ option_map (λ (u : AttachedState). u.arm) (slice_get us place) → ArmChanges place AtRest us us'
        → answer ≡ Stored (csw_of_unit DEVICE_END) → s' ≡ changed (csw_stored (csw_of_unit DEVICE_END)) s
        → ShowsNext asked (condition_seen csw_seen answer) (of_parts number s' Idle us')
    test_arrived answer us' s' a c is stored = rw (is, stored) (by_arm Arrived a (record {
      answers = refl;
      shows = rw f.same_device at (armed_shows number s us place f.attached f.is_there rest distinct AtRest us'
          (changed (csw_stored (csw_of_unit DEVICE_END)) s) c);
    }))

    pub test_at_rest : Some AtRest ≡ option_map (λ (u : AttachedState). u.arm) (slice_get us place)
        → ShowsNext asked (WithCode code.Zero) (of_parts number s Idle us)
    test_at_rest a = by_arm AtRest a (record { answers = refl; shows = (refl, rest) })

-- Interruptions.

-- the lowest of some devices is the address of one
lowest_found : (device : ℕ) (ds : List Device) → lowest (filter has_arrived ds) ≡ Some device → find (λ d. d.device == device) ds ≡ None → ⊥
lowest_found device [] h none = none_is_some h
lowest_found device (d ∷ ds) h none = go (has_arrived d) (d.device == device) refl h none (lowest_found device ds)
  where
    lower_is : (o : Option ℕ) → lower d.device o ≡ Some device → (d.device == device) ≡ false → (o ≡ Some device → ⊥) → ⊥
    lower_is None h e k = eqb-false d.device device e (inside d.device device h)
    lower_is (Some b) h e k = by_test (nat_lt d.device b) h
      where
        by_test : (c : Bool) → cond c (Some d.device) (Some b) ≡ Some device → ⊥
        by_test true h = eqb-false d.device device e (inside d.device device h)
        by_test false h = k h

    go : (a b : Bool) → (d.device == device) ≡ b → lowest (cond a (d ∷ filter has_arrived ds) (filter has_arrived ds)) ≡ Some device
        → cond b (Some d) (find (λ d. d.device == device) ds) ≡ None
        → (lowest (filter has_arrived ds) ≡ Some device → find (λ d. d.device == device) ds ≡ None → ⊥) → ⊥
    go a true e h none k = none_is_some (sym none)
    go true false e h none k = lower_is (lowest (filter has_arrived ds)) h e (λ h. k h none)
    go false false e h none k = k h none

pub never_lost : (device : ℕ) (us : List AttachedState) → lowest (filter has_arrived (devices us)) ≡ Some device
    → position (is_at device) us ≡ None → ⊥
never_lost device us h none = lowest_found device (devices us) h (none_found device us none)

module _ (number : ℕ) (s : Storage) (us : List AttachedState) (rest : AllRest us) (distinct : AreDistinct (devices us)) where
  abbrev pub interrupted_now : Answer × Machine
  interrupted_now = interrupt_device (idle_machine number s us) (lowest (filter has_arrived (devices us)))

  pub interrupt_arrived : (device place : ℕ) (told : ℕ × Csw) (us' : List AttachedState) (s' : Storage)
      → lowest (filter has_arrived (devices us)) ≡ Some device → position (is_at device) us ≡ Some place → ArmChanges place AtRest us us'
      → told ≡ (256 * number + device, csw_of_unit DEVICE_END) → s' ≡ changed (csw_stored (csw_of_unit DEVICE_END)) s
      → ShowsNext interrupted_now (Interrupted (Some told)) (of_parts number s' Idle us')
  interrupt_arrived device place told us' s' h at a is stored =
      let f : FoundAt device us place = found_by device us place at in
      rw (h, is, stored) (record {
        answers = refl;
        shows = rw f.same_device at (armed_shows number s us place f.attached f.is_there rest distinct AtRest us'
            (changed (csw_stored (csw_of_unit DEVICE_END)) s) a);
      })
