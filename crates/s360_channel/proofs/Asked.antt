-- From what a channel shows after a call to what the call does: input/output instructions, arms that arrive, interruptions.
use Rattle.std.proofs.Common.{◌≡◌, ℕ, ◌/◌, ◌%◌, refl, sym, ap, subst, ◌∙◌, cond, ◌==◌, List, [], ◌∷◌, map, length, Option, Some, None}
use Rattle.std.proofs.Common.{arith, true, false, ◌+◌, ◌*◌, ◌<◌, Bool, ◌++◌, append_assoc}
use Rattle.std.proofs.lemmas.Bool.{eq-eqb}
use Rattle.std.proofs.lemmas.List.{length-map}
use Rattle.std.proofs.lemmas.Option.{slice_get_within}
use Rattle.std.specs.Prelude.{find, position, slice_get, slice_set, option_map, filter}
use Rattle.s360_words.specs.declared.words.Csw.{Csw}
use Rattle.s360_words.specs.Storage.{Storage, changed, csw_stored}
use Rattle.s360_laws.specs.Places.{Place}
use Rattle.s360_laws.specs.Scripts.{TakesInterruption, Outside}
use Rattle.s360_laws.specs.Units.{standing_in, phase_past, ProgramPhase, Between, Looking, Moving}
use Rattle.s360_program.specs.Advances.{Rests}
use Rattle.s360_program.specs.Laws.{StandsAfterChange, StandsAfterInterruption}
use Rattle.s360_program.specs.Stands.{RunningState, phase_in}
use Rattle.s360_laws.specs.declared.arm.Arm.{Arm}
use Rattle.s360_laws.specs.declared.arm.Arm.TheVariants.{InMotion, Arrived}
use Rattle.s360_laws.specs.declared.condition.ConditionCode.TheVariants.{Two, Three}
use Rattle.s360_laws.specs.Events.{Event, Sio, Tio, Answer, WithCode, CswStored, Arrive, HasArrived, Interrupt, Interrupted}
use Rattle.s360_laws.specs.Machine.{Machine, react, on_channel, start_io, start_device, test_io, test_device, device_at, tested}
use Rattle.s360_laws.specs.Machine.{with_subchannel, Device, with_arm, is_in_motion, interrupt_device, interrupt_program, lowest}
use Rattle.s360_laws.specs.Machine.{has_arrived, asked_by, run_of, start_of, with_csw, goes_on, interrupted}
use Rattle.s360_laws.specs.Machine as machine
use Rattle.s360_laws.specs.Soundness.{AreDistinct}
use Rattle.s360_laws.proofs.FindDevices.{different}
use Rattle.s360_laws.proofs.LedgerLists.{stays_sound}
use Rattle.s360_channel.specs.Calls.{DoesQuietly}
use Rattle.s360_channel.specs.Channel.{ChannelState, StandsFor, IsChannel, Shows, WorksFor}
use Rattle.attached_drives.specs.Drives.{AttachedState, device_of, is_at}
use Rattle.s360_channel.specs.declared.subchannel.Subchannel.{Subchannel}
use Rattle.s360_channel.specs.declared.subchannel.Subchannel.TheVariants.{Idle, Working, Pending}
use Rattle.attached_drives.specs.DriveCalls.{DriveIs, ArmChanges}
use Rattle.s360_channel.specs.Nexts.{ShowsNext, of_parts, idle_machine, DoesAt, DoesIdle, DoesOn, TakesProgram}
use Rattle.s360_channel.proofs.Changing.{seen_by, distinct_drives, SeenBy, device_seen, shows_armed}
use Rattle.attached_drives.proofs.Places.{FoundAt, found_by, none_found, rests_at, arm_there, inside, map_same}
use Rattle.s360_channel.proofs.Quiet.{images}
use Rattle.s360_channel.proofs.Works.{seen_there}

-- From what a channel shows after a call to what the call does; the cases of the input/output instructions.

-- what a quiet call does, from what the channel shows afterwards
pub quiet : (e : Event) (m : Machine) (answer : Answer) (old new : ChannelState) → StandsFor old m → new.number ≡ old.number
    → images new.drives ≡ images old.drives → ShowsNext (react e None m) answer new → DoesQuietly e m answer new
quiet e m answer old new st number same h = record {
  answers = h.answers;
  stands = record {
    number = subst (λ n. n < 7) (sym number) st.number;
    few = omega (
      arith,
      st.few,
      ap length same,
      length-map old.drives (λ (u : AttachedState). u.drive.image),
      length-map new.drives (λ (u : AttachedState). u.drive.image),
    );
    shows = h.shows;
    sound = stays_sound m ((e, None) ∷ []) st.sound;
  };
}

-- and of one that changes nothing
pub unchanged : (e : Event) (m : Machine) (answer : Answer) (number : ℕ) (s : Storage) (sub : Subchannel) (us : List AttachedState)
    → StandsFor (of_parts number s sub us) m → react e None m ≡ (answer, m) → DoesQuietly e m answer (of_parts number s sub us)
unchanged e m answer number s sub us st h = quiet e m answer (of_parts number s sub us) (of_parts number s sub us) st refl refl (record {
  answers = sym (ap (λ (r : Answer × Machine). r.0) h);
  shows = subst (λ m. Shows (of_parts number s sub us) m sub) (sym (ap (λ (r : Answer × Machine). r.1) h)) st.shows;
})

module _ (a number : ℕ) (s : Storage) (sub : Subchannel) (us : List AttachedState) (m : Machine)
    (st : StandsFor (of_parts number s sub us) m) where
  channel_there : m.channel ≡ number
  channel_there = (seen_by (of_parts number s sub us) m sub st.shows).channel

  pub off_channel : (r : Answer × Machine) → (a / 256 ≡ number → ⊥) → on_channel a m r ≡ (WithCode Three, m)
  off_channel r h = rw (channel_there, different (a / 256) number h) refl

  pub at_channel : (r : Answer × Machine) → a / 256 ≡ number → on_channel a m r ≡ r
  at_channel r h = rw (channel_there, eq-eqb (a / 256) number h) refl

  -- Start I/O at an address of another channel,
  pub start_other : (a / 256 ≡ number → ⊥) → DoesQuietly (Sio a) m (WithCode Three) (of_parts number s sub us)
  start_other h = unchanged (Sio a) m (WithCode Three) number s sub us st (off_channel (start_io (a % 256) m m.subchannel) h)

  start_two : (sub : Subchannel) → (sub ≡ Idle → ⊥) → Shows (of_parts number s sub us) m sub → start_io (a % 256) m m.subchannel
      ≡ (WithCode Two, m)
  start_two Idle h shows = absurd (h refl)
  start_two (Working place r) h shows = ap (λ (n : Machine). start_io (a % 256) m n.subchannel) shows.machine
  start_two (Pending device csw) h shows = ap (λ (n : Machine). start_io (a % 256) m n.subchannel) shows.0

  -- at a channel that is not available,
  pub start_busy : a / 256 ≡ number → (sub ≡ Idle → ⊥) → DoesQuietly (Sio a) m (WithCode Two) (of_parts number s sub us)
  start_busy e h = unchanged (Sio a) m (WithCode Two) number s sub us st (at_channel (start_io (a % 256) m m.subchannel) e
      ∙ start_two sub h st.shows)

  pub test_other : (a / 256 ≡ number → ⊥) → DoesQuietly (Tio a) m (WithCode Three) (of_parts number s sub us)
  test_other h = unchanged (Tio a) m (WithCode Three) number s sub us st (off_channel (test_io (a % 256) m m.subchannel) h)

-- and at one that is: where there is no such device, and where there is one.
module _ (a number : ℕ) (s : Storage) (us : List AttachedState) (m : Machine) (st : StandsFor (of_parts number s Idle us) m)
    (on : a / 256 ≡ number) where
  distinct : AreDistinct (map device_of us)
  distinct = distinct_drives (of_parts number s Idle us) m (seen_by (of_parts number s Idle us) m Idle st.shows) st.sound

  devices_there : device_at m (a % 256) ≡ find (λ d. d.device == a % 256) (map device_of us)
  devices_there = ap (λ (m : Machine). device_at m (a % 256)) st.shows.0

  idle_there : m.subchannel ≡ machine.Idle
  idle_there = ap (λ (m : Machine). m.subchannel) st.shows.0

  start_there : (x : Option machine.Device) → find (λ d. d.device == a % 256) (map device_of us) ≡ x
      → react (Sio a) None m ≡ start_device (a % 256) m x
  start_there x h = at_channel a number s Idle us m st (start_io (a % 256) m m.subchannel) on ∙ rw (idle_there, devices_there, h) refl

  pub start_none : position (is_at (a % 256)) us ≡ None → DoesQuietly (Sio a) m (WithCode Three) (of_parts number s Idle us)
  start_none h = unchanged (Sio a) m (WithCode Three) number s Idle us st (start_there None (none_found (a % 256) us h))

  pub start_at : (place : ℕ) (answer : Answer) (s' : Storage) (sub' : Subchannel) (us' : List AttachedState) → position (is_at (a % 256)) us
      ≡ Some place
      → DoesAt place (λ u m. start_device u.device m (Some (device_of u))) answer s us s' sub' us' → images us' ≡ images us
      → DoesQuietly (Sio a) m answer (of_parts number s' sub' us')
  start_at place answer s' sub' us' h does same =
      let f : FoundAt (a % 256) us place = found_by (a % 256) us place h in
      quiet (Sio a) m answer (of_parts number s Idle us) (of_parts number s' sub' us') st refl same
      (rw (start_there (Some (device_of f.attached)) f.found, st.shows.0)
      (subst (λ device. ShowsNext (start_device device (idle_machine number s us) (Some (device_of f.attached))) answer
      (of_parts number s' sub' us')) f.same_device (does f.attached f.is_there number st.shows.1 distinct)))

  pub test_at : (answer : Answer) (s' : Storage) (us' : List AttachedState)
      → DoesIdle (λ m. test_device (a % 256) m (device_at m (a % 256))) answer s us s' Idle us' → images us' ≡ images us
      → DoesQuietly (Tio a) m answer (of_parts number s' Idle us')
  test_at answer s' us' does same = quiet (Tio a) m answer (of_parts number s Idle us) (of_parts number s' Idle us') st refl same
      (rw (at_channel a number s Idle us m st (test_io (a % 256) m m.subchannel) on, st.shows.0) (does number st.shows.1 distinct))

-- Test I/O while a program runs, and while one's channel status word pends.
pub test_working : (a number : ℕ) (s : Storage) (place : ℕ) (r : RunningState) (us : List AttachedState) (m : Machine)
    → StandsFor (of_parts number s (Working place r) us) m → a / 256 ≡ number
    → DoesQuietly (Tio a) m (WithCode Two) (of_parts number s (Working place r) us)
test_working a number s place r us m st on = unchanged (Tio a) m (WithCode Two) number s (Working place r) us st
    (rw (at_channel a number s (Working place r) us m st (test_io (a % 256) m m.subchannel) on, st.shows.machine) refl)

module _ (a number : ℕ) (s : Storage) (device : ℕ) (csw : Csw) (us : List AttachedState) (m : Machine)
    (st : StandsFor (of_parts number s (Pending device csw) us) m) (on : a / 256 ≡ number) where
  there : react (Tio a) None m ≡ cond (a % 256 == device) (tested csw (with_subchannel machine.Idle m)) (WithCode Two, m)
  there = at_channel a number s (Pending device csw) us m st (test_io (a % 256) m m.subchannel) on
      ∙ ap (λ (n : Machine). test_io (a % 256) m n.subchannel) st.shows.0

  pub test_pending_other : (a % 256 ≡ device → ⊥) → DoesQuietly (Tio a) m (WithCode Two) (of_parts number s (Pending device csw) us)
  test_pending_other h = unchanged (Tio a) m (WithCode Two) number s (Pending device csw) us st (there ∙ rw (different (a % 256) device h)
      refl)

  pub test_pending : a % 256 ≡ device → (s' : Storage) → s' ≡ changed (csw_stored csw) s
      → DoesQuietly (Tio a) m (CswStored csw) (of_parts number s' Idle us)
  test_pending h s' stored = quiet (Tio a) m (CswStored csw) (of_parts number s (Pending device csw) us) (of_parts number s' Idle us)
      st refl refl (rw (there, eq-eqb (a % 256) device h) (record { answers = refl; shows = (rw (st.shows.0, stored) refl, st.shows.1) }))

-- the drive at the place of an address rests, where the channel is available
pub rests_there : (device number : ℕ) (s : Storage) (us : List AttachedState) (place : ℕ) → IsChannel (of_parts number s Idle us)
    → position (is_at device) us ≡ Some place → DriveIs place Rests us
rests_there device number s us place is h =
    let f : FoundAt device us place = found_by device us place h in
    record { attached = f.attached; is_there = f.is_there; holds = rests_at us place f.attached is.stands.shows.1 f.is_there }

-- a channel stays one, where its call is an event of the machine
pub stays : (e : Event) (m : Machine) (answer : Answer) (new : ChannelState) → DoesQuietly e m answer new → IsChannel new
stays e m answer new d = record { machine = (react e None m).1; stands = d.stands }

-- Arms that arrive.

module _ (a number : ℕ) (s : Storage) (sub : Subchannel) (us : List AttachedState) (m : Machine)
    (st : StandsFor (of_parts number s sub us) m) where
  abbrev seen_here : SeenBy (of_parts number s sub us) m
  seen_here = seen_by (of_parts number s sub us) m sub st.shows

  pub arrive_other : (a / 256 ≡ number → ⊥) → DoesQuietly (Arrive a) m (HasArrived false) (of_parts number s sub us)
  arrive_other h = unchanged (Arrive a) m (HasArrived false) number s sub us st
      (rw (seen_here.channel, different (a / 256) number h) refl)

  by_device : a / 256 ≡ number → (x : Option Device) → find (λ d. d.device == a % 256) (map device_of us) ≡ x
      → react (Arrive a) None m ≡ machine.arrive (a % 256) m (option_map seen_here.through x)
  by_device on x h = rw (ap (λ n. a / 256 == n) seen_here.channel ∙ eq-eqb (a / 256) number on) (ap (machine.arrive (a % 256) m)
      (device_seen (of_parts number s sub us) m seen_here (a % 256) x h))

  pub arrive_none : a / 256 ≡ number → position (is_at (a % 256)) us ≡ None
      → DoesQuietly (Arrive a) m (HasArrived false) (of_parts number s sub us)
  arrive_none on h = unchanged (Arrive a) m (HasArrived false) number s sub us st (by_device on None (none_found (a % 256) us h))

  module _ (on : a / 256 ≡ number) (place : ℕ) (h : position (is_at (a % 256)) us ≡ Some place) (arm : Arm) (is_arm : Some arm
      ≡ option_map (λ (u : AttachedState). u.arm) (slice_get us place)) where
    abbrev f : FoundAt (a % 256) us place
    f = found_by (a % 256) us place h

    by_arm : react (Arrive a) None m ≡ cond (is_in_motion arm) (HasArrived true, with_arm Arrived (a % 256) m) (HasArrived false, m)
    by_arm = by_device on (Some (device_of f.attached)) f.found
        ∙ rw (seen_here.arm (device_of f.attached), arm_there us place f.attached arm f.is_there is_arm) refl

    pub arrive_still : is_in_motion arm ≡ false → DoesQuietly (Arrive a) m (HasArrived false) (of_parts number s sub us)
    arrive_still k = unchanged (Arrive a) m (HasArrived false) number s sub us st (by_arm ∙ rw k refl)

    pub arrive_moves : (us' : List AttachedState) → arm ≡ InMotion → ArmChanges place Arrived us us'
        → DoesQuietly (Arrive a) m (HasArrived true) (of_parts number s sub us')
    arrive_moves us' k c = quiet (Arrive a) m (HasArrived true) (of_parts number s sub us) (of_parts number s sub us') st refl
        (rw c.becomes (map_same (λ (u : AttachedState). u.drive.image) us place c.attached _ c.was refl))
        (rw (by_arm, k) (record {
          answers = refl;
          shows = subst (λ us. Shows (of_parts number s sub us) (with_arm Arrived (a % 256) m) sub) (sym in_place)
              (subst (λ device. Shows (of_parts number s sub (slice_set us place (record f.attached { arm = Arrived })))
              (with_arm Arrived device m) sub) f.same_device
              (shows_armed (of_parts number s sub us) m place f.attached Arrived
              (distinct_drives (of_parts number s sub us) m seen_here st.sound) f.is_there sub st.shows));
        }))
      where
        in_place : us' ≡ slice_set us place (record f.attached { arm = Arrived })
        in_place = rw (c.becomes, inside c.attached f.attached (sym c.was ∙ f.is_there)) refl

-- Interruptions, by what the subchannel does.

-- while the channel is available; it names the parts of the channel before and behind, as the code has them at hand
pub interrupt_idle : (number : ℕ) (s : Storage) (us : List AttachedState) (m : Machine) (told : Option (ℕ × Csw)) (s' : Storage)
    (us' : List AttachedState) → StandsFor (of_parts number s Idle us) m
    → DoesOn number (λ m. interrupt_device m (lowest (filter has_arrived m.devices))) (Interrupted told) s us s' Idle us'
    → images us' ≡ images us → DoesQuietly Interrupt m (Interrupted told) (of_parts number s' Idle us')
interrupt_idle number s us m told s' us' st does same = quiet Interrupt m (Interrupted told) (of_parts number s Idle us)
    (of_parts number s' Idle us') st refl same
    (rw st.shows.0
    (does st.shows.1 (distinct_drives (of_parts number s Idle us) m (seen_by (of_parts number s Idle us) m Idle st.shows) st.sound)))

-- while a channel status word pends; it names the parts of the channel before and behind, as the code has them at hand
pub interrupt_pending : (number : ℕ) (s : Storage) (device : ℕ) (csw : Csw) (us : List AttachedState) (m : Machine) (told : ℕ
    × Csw) (s' : Storage) → StandsFor (of_parts number s (Pending device csw) us) m
    → told ≡ (256 * number + device, csw) → s' ≡ changed (csw_stored csw) s → DoesQuietly Interrupt m (Interrupted (Some told))
    (of_parts number s' Idle us)
interrupt_pending number s device csw us m told s' st is stored = quiet Interrupt m (Interrupted (Some told))
    (of_parts number s (Pending device csw) us) (of_parts number s' Idle us) st refl refl
    (rw (st.shows.0, is, stored) (record { answers = refl; shows = (refl, st.shows.1) }))

-- While a program runs.

-- where a phase asks for no interruption, taking one changes nothing
not_asked : (p : Place) (csw : Csw) → (cond p.interruption (Some csw) None) ≡ None → record p { interruption = false } ≡ p
not_asked p csw h = ap (λ b. record p { interruption = b }) (go p.interruption h)
  where
    go : (b : Bool) → cond b (Some csw) None ≡ None → false ≡ b
    go true h = absurd (cc)
    go false h = refl

none_taken : (key : ℕ) (phase : ProgramPhase) → (standing_in key phase).interruption ≡ None → phase_past TakesInterruption phase ≡ phase
none_taken key (Between p) h = ap (λ place. Between (record p { place = place })) (not_asked p.place _ h)
none_taken key (Looking o r) h = ap (λ place. Looking o (record r { place = place })) (not_asked r.place _ h)
none_taken key (Moving o t) h = ap (λ place. Moving o (record t { place = place })) (not_asked t.place _ h)

module _ (taking : StandsAfterInterruption) (changing : StandsAfterChange) (number : ℕ) (s : Storage) (place : ℕ) (r : RunningState)
    (us : List AttachedState) (m : Machine) (st : StandsFor (of_parts number s (Working place r) us) m) where
  abbrev w : WorksFor (of_parts number s (Working place r) us) place r m
  w = st.shows

  module _ (told : Option (ℕ × Csw)) (r' : RunningState) (s' : Storage) (device : ℕ) (is_device : Some device
      ≡ option_map (λ (u : AttachedState). u.device) (slice_get us place)) (t : TakesProgram number device told r r' s s') where
    same_device : device ≡ w.attached.device
    same_device = inside _ _ (is_device ∙ rw w.is_there refl)

    -- what the machine asks for is what is taken
    asks : asked_by (run_of m w.attached.device w.script) ≡ (standing_in r.key (phase_in r s w.attached.drive)).interruption
    asks = ap asked_by (seen_there (of_parts number s (Working place r) us) place r m w st.sound)

    reacts : (x : Option Csw) → (standing_in r.key (phase_in r s w.attached.drive)).interruption ≡ x
        → react Interrupt None m ≡ interrupt_program w.attached.device w.script m x
    reacts x h = ap (λ (n : Machine). machine.interrupt m n.subchannel) w.machine ∙ rw (asks, h) refl

    number_there : m.channel ≡ number
    number_there = ap (λ (m : Machine). m.channel) w.machine

    by_asked : (x : Option Csw) → (standing_in r.key (phase_in r s w.attached.drive)).interruption ≡ x
        → told ≡ option_map (λ csw. (256 * number + device, csw)) x
        → ShowsNext (interrupt_program w.attached.device w.script m x) (Interrupted told) (of_parts number s' (Working place r') us)
    by_asked None h is = record {
      answers = ap Interrupted is;
      shows = record {
        attached = w.attached;
        is_there = w.is_there;
        storage = w.storage;
        drive = w.drive;
        script = w.script;
        machine = w.machine;
        runs = rw (t.storage, is) (record {
          together = t.stands w.attached.drive w.runs.together;
          run = rw (t.key, t.taken s w.attached.drive, none_taken r.key (phase_in r s w.attached.drive) h) w.runs.run;
        });
        others = w.others;
      };
    }
    by_asked (Some csw) h is = record {
      answers = rw (is, same_device) (ap (λ n. Interrupted (Some (256 * n + w.attached.device, csw))) (sym number_there));
      shows = record {
        attached = w.attached;
        is_there = w.is_there;
        storage = w.storage;
        drive = w.drive;
        script = w.script ++ TakesInterruption ∷ Outside (csw_stored csw) ∷ [];
        machine = ap (with_subchannel (machine.Working w.attached.device (w.script ++ TakesInterruption ∷ Outside (csw_stored csw) ∷ [])))
            w.machine;
        runs = rw (t.storage, is, ← append_assoc w.script (TakesInterruption ∷ []) (Outside (csw_stored csw) ∷ []))
            (changing (start_of m w.drive) (w.script ++ TakesInterruption ∷ []) r' s w.attached.drive (csw_stored csw)
            (taking (start_of m w.drive) w.script r r' s w.attached.drive w.runs t.key (t.stands w.attached.drive w.runs.together)
            (t.taken s w.attached.drive)));
        others = w.others;
      };
    }

    pub interrupt_working : DoesQuietly Interrupt m (Interrupted told) (of_parts number s' (Working place r') us)
    interrupt_working = quiet Interrupt m (Interrupted told) (of_parts number s (Working place r) us)
        (of_parts number s' (Working place r') us) st refl refl
        (rw (reacts _ refl) (by_asked _ refl (t.told s w.attached.drive)))

-- the place of the program that runs is one of the drives
pub place_within : (number : ℕ) (s : Storage) (place : ℕ) (r : RunningState) (us : List AttachedState)
    → IsChannel (of_parts number s (Working place r) us) → place < length us
place_within number s place r us is = slice_get_within us place is.stands.shows.attached is.stands.shows.is_there
