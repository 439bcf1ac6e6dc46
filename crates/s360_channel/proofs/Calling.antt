-- Steps, cuts and resets at a channel, by what its subchannel is.
use Rattle.std.proofs.Common.{◌≡◌, ℕ, zero, suc, ◌+◌, ◌*◌, ◌/◌, ◌%◌, ◌≤◌, ◌⊎◌, inl, inr, refl, sym, ap, subst, ◌∙◌, arith, true, false}
use Rattle.std.proofs.Common.{Bool, cond, ◌==◌, List, [], ◌∷◌, map, length, Option, Some, None, ◌<◌}
use Rattle.std.proofs.lemmas.Bool.{eq-eqb}
use Rattle.std.proofs.lemmas.List.{length-map, length-set}
use Rattle.std.proofs.lemmas.Option.{slice_get_within}
use Rattle.std.proofs.lemmas.Simd.{map-map}
use Rattle.std.specs.Prelude.{option_map, is_some, slice_set, position, slice_get}
use Rattle.s360_words.specs.declared.words.Csw.{Csw}
use Rattle.s360_words.specs.Storage.{Storage}
use Rattle.ckd_command.specs.Drive.{Fault}
use Rattle.ckd_drive.specs.Work.{DriveState}
use Rattle.s360_laws.specs.Endings.{Ending}
use Rattle.s360_laws.specs.Units.{standing_in}
use Rattle.s360_program.specs.Advances.{Cuts, CutTellsOf, AdvancesTo, TellsOf}
use Rattle.s360_program.specs.Advances as program
use Rattle.s360_program.specs.declared.program.LongAdvance.{LongAdvance}
use Rattle.s360_program.specs.Stands.{RunningState, phase_in, Stands}
use Rattle.s360_laws.specs.declared.condition.ConditionCode.TheVariants.{Two, Three, Zero}
use Rattle.s360_laws.specs.Events.{Answer, Hio, Reset, WithCode, WasReset, StepBy, Stepped}
use Rattle.s360_laws.specs.Machine.{Machine, react, ended, cut, halt_io, fault_in, reset, unsaved_at, address_of, all_at_rest, at_rest}
use Rattle.s360_laws.specs.Machine.{is_working, step, device_at, with_status}
use Rattle.s360_laws.specs.Machine as machine
use Rattle.s360_laws.specs.NothingTold.{TellsNoTrack}
use Rattle.s360_laws.specs.Steps.{EndedByFault, ToldByReset}
use Rattle.s360_laws.proofs.FindDevices.{different}
use Rattle.s360_laws.proofs.LedgerLists.{stays}
use Rattle.s360_laws.proofs.MachineFaults.{fault_told_by_reset}
use Rattle.s360_laws.proofs.NoFaultTold.{no_fault_none_told}
use Rattle.s360_laws.specs.declared.status.Condition.{Condition}
use Rattle.s360_laws.specs.declared.status.Status.{Status}
use Rattle.s360_laws.specs.Seen.{condition_seen, status_seen}
use Rattle.s360_channel.specs.Calls.{Does, IsMet, Reports, CallsAtMost}
use Rattle.s360_channel.specs.Channel.{ChannelState, WorksFor, StandsFor, machine_of, Shows}
use Rattle.attached_drives.specs.Drives.{AttachedState, AllRest, device_of, is_at}
use Rattle.s360_channel.specs.declared.subchannel.Subchannel.{Subchannel}
use Rattle.s360_channel.specs.declared.subchannel.Subchannel.TheVariants.{Idle, Pending, Working}
use Rattle.attached_drives.specs.DriveCalls.{at_rest_attached, DriveChanges, DriveIs, AdvancesAt, CutsAt}
use Rattle.s360_channel.specs.Nexts.{of_parts}
use Rattle.s360_channel.specs.Ends.{arm_told, IsOver, MayBeCut, CutsProgram, LosesProgram, halted_idle, storage_halted}
use Rattle.s360_channel.proofs.Changing.{seen_by}
use Rattle.s360_channel.proofs.Stepping.{with_drive, with_both, channel_with, same_failures, one_failure, few_drives, does_this, fault_told}
use Rattle.s360_channel.proofs.Stepping.{met_in, over, over_machine, over_rest, over_fault, calls_at_most, failures_told, cut_calls}
use Rattle.s360_channel.proofs.Stepping.{runs_of, goes_on_does, ends_does}
use Rattle.attached_drives.proofs.Places.{devices, all_of_others, inside, get_set, set_twice, both_found}
use Rattle.s360_channel.proofs.Quiet.{images, none_fails, calls_then_none, none_calls, nothing_does}
use Rattle.s360_channel.proofs.Works.{subchannel_of, channel_of, seen_there, storage_seen}

-- Cuts of a program that runs, by Halt I/O and by a reset; and a reset while none runs.

fault_back : (f : Option Fault) → fault_in (met_in 0 f) ≡ f
fault_back None = refl
fault_back (Some f) = refl

-- Drives as a reset leaves them.

pub rest_images : (us : List AttachedState) → images (map at_rest_attached us) ≡ images us
rest_images us = map-map (λ (u : AttachedState). u.drive.image) at_rest_attached us

rest_devices : (us : List AttachedState) → map at_rest (devices us) ≡ devices (map at_rest_attached us)
rest_devices us = map-map at_rest device_of us ∙ sym (map-map device_of at_rest_attached us)

pub rest_all : (us : List AttachedState) → AllRest us → AllRest (map at_rest_attached us)
rest_all [] h = tt
rest_all (u ∷ us) h = (record { idle = h.0.idle; unwritten = h.0.unwritten }, rest_all us h.1)

rest_few : (us : List AttachedState) → length us ≤ 8 → length (map at_rest_attached us) ≤ 8
rest_few us h = rw length-map h

-- a channel that was reset, with the drives that it had
abbrev pub reset_with : ChannelState → List AttachedState → ChannelState
reset_with c us = record { number = c.number; storage = c.storage; subchannel = Idle; drives = map at_rest_attached us }

-- A reset while no program runs.
pub idle_reset : (c : ChannelState) (m : Machine) (s : machine.Subchannel) → StandsFor c m → is_working s ≡ false → m ≡ machine_of c s
    → AllRest c.drives → Does Reset m (WasReset None) c (reset_with c c.drives)
idle_reset c m s stands calm is rest = does_this Reset m (WasReset None) c (reset_with c c.drives) None _ stands (was s calm is)
    (record { number = refl; few = rest_few c.drives stands.few; shows = (refl, rest_all c.drives rest) })
    (none_fails c (reset_with c c.drives) (rest_images c.drives)) (no_fault_none_told m Reset (runs_of m stands.sound))
  where
    was : (s : machine.Subchannel) → is_working s ≡ false → m ≡ machine_of c s
        → react Reset None m ≡ (WasReset None, machine_of (reset_with c c.drives) machine.Idle)
    was machine.Idle h is = rw (is, rest_devices) refl
    was (machine.Pending p csw) h is = rw (is, rest_devices) refl
    was (machine.Working p script) h is = absurd (cc)

module _ (c : ChannelState) (place : ℕ) (r : RunningState) (m : Machine) (w : WorksFor c place r m) (stands : StandsFor c m)
    (told : Csw × Bool × Option (ℕ × ℕ)) (new : DriveState) (how : Cuts r.key (phase_in r c.storage w.attached.drive) told w.attached.drive
    new) (tells : CutTellsOf told w.attached.drive new) where
  abbrev ending : Ending
  ending = (standing_in r.key (phase_in r c.storage w.attached.drive)).cut how.fault

  is_cut : (f : Option Fault) → how.fault ≡ f → cut (fault_in (met_in 0 f)) w.attached.device m
      (machine.run_of m w.attached.device w.script) ≡ ended w.attached.device c.storage ending m
  is_cut f is = rw (
    seen_there c place r m w stands.sound,
    fault_back f,
    ← is,
    storage_seen r.key r.stage r.place c.storage w.attached.drive.state w.attached.drive.work,
  ) refl

  over_machine_now : ended w.attached.device c.storage ending m ≡ machine_of (over c place w.attached c.storage told.0 told.1 new)
      (machine.Pending w.attached.device told.0)
  over_machine_now = over_machine c place r m w stands.sound c.storage (told.0, told.1) new ending how.is_ending

  -- Halt I/O.

  module _ (a : ℕ) (here : (a / 256 == c.number) ≡ true) where
    abbrev now_over : ChannelState
    now_over = over c place w.attached c.storage told.0 told.1 new

    halt_by : (f : Option Fault) → how.fault ≡ f → react (Hio a) (met_in 0 f) m ≡ (WithCode Two, ended w.attached.device c.storage ending m)
    halt_by f is = simp (ap (λ n. a / 256 == n) (channel_of c place r m w) ∙ here, subchannel_of c place r m w)
        (ap (λ n. (WithCode Two, n)) (is_cut f is))

    halt_met : (f : Option Fault) → program.IsMet f w.attached.drive new → IsMet (met_in 0 f) (WithCode Two) c now_over
    halt_met None h = same_failures c c.storage (Pending w.attached.device told.0) place w.attached (with_both w.attached told.1 new)
        w.is_there h
    halt_met (Some f) h = one_failure c c.storage (Pending w.attached.device told.0) place w.attached (with_both w.attached told.1 new)
        w.is_there h

    halt_told : (f : Option Fault) → how.fault ≡ f → program.IsMet f w.attached.drive new → Reports (Hio a) m (met_in 0 f)
    halt_told None is h = no_fault_none_told m (Hio a) (runs_of m stands.sound)
    halt_told (Some f) is h = subst (λ a. EndedByFault a (WithCode Two)) (sym (halt_by (Some f) is))
        (over_fault c place r m w stands.sound c.storage (told.0, told.1) new ending how.is_ending (WithCode Two)
        (fault_told (told.0, told.1) w.attached.drive new tells.fault h))

    pub halt_does : Does (Hio a) m (WithCode Two) c now_over
    halt_does = does_this (Hio a) m (WithCode Two) c now_over (met_in 0 how.fault) (ended w.attached.device c.storage ending m) stands
        (halt_by how.fault refl)
        (record {
          number = refl;
          few = few_drives c c.storage (Pending w.attached.device told.0) place w.attached (with_both w.attached told.1 new) w.is_there
              stands.few;
          shows = (over_machine_now, over_rest c place r m w stands.sound c.storage (told.0, told.1) new ending how.is_ending);
        })
        (halt_met how.fault how.met) (halt_told how.fault refl how.met)

  -- A reset.

  abbrev drives_then : List AttachedState
  drives_then = slice_set c.drives place (with_drive w.attached new)

  -- the track that was not saved, with the address
  abbrev lost : Option (ℕ × ℕ × ℕ)
  lost = option_map (λ t. (256 * c.number + w.attached.device, t.0, t.1)) told.2

  reset_by : (f : Option Fault) → how.fault ≡ f → react Reset (met_in 0 f) m ≡ (
    WasReset lost,
    all_at_rest (ended w.attached.device c.storage ending m),
  )
  reset_by f is = simp (
    subchannel_of c place r m w,
    seen_there c place r m w stands.sound,
    fault_back f,
    ← is,
    channel_of c place r m w,
    storage_seen r.key r.stage r.place c.storage w.attached.drive.state w.attached.drive.work,
    how.unsaved,
  ) refl

  -- the arm does not matter then
  same_rest : (us : List AttachedState) (n : ℕ) (u v : AttachedState) → at_rest (device_of u) ≡ at_rest (device_of v)
      → map at_rest (devices (slice_set us n u)) ≡ map at_rest (devices (slice_set us n v))
  same_rest [] n u v h = refl
  same_rest (x ∷ us) zero u v h = ap (λ d. d ∷ map at_rest (devices us)) h
  same_rest (x ∷ us) (suc n) u v h = ap (λ ds. at_rest (device_of x) ∷ ds) (same_rest us n u v h)

  reset_machine : all_at_rest (ended w.attached.device c.storage ending m) ≡ machine_of (reset_with c drives_then) machine.Idle
  reset_machine = ap all_at_rest over_machine_now ∙ rw (
    same_rest c.drives place (with_both w.attached told.1 new)
        (with_drive w.attached new) refl,
    rest_devices,
  ) refl

  reset_met : (f : Option Fault) → program.IsMet f w.attached.drive new → IsMet (met_in 0 f) (WasReset lost) c (reset_with c drives_then)
  reset_met None h = none_fails (channel_with c c.storage Idle place (with_drive w.attached new)) (reset_with c drives_then)
      (rest_images drives_then) ∙ same_failures c c.storage Idle place w.attached (with_drive w.attached new) w.is_there h
  reset_met (Some f) h = none_fails (channel_with c c.storage Idle place (with_drive w.attached new)) (reset_with c drives_then)
      (rest_images drives_then) ∙ one_failure c c.storage Idle place w.attached (with_drive w.attached new) w.is_there h

  -- where no fault is met no track is reported
  untold : react Reset None m ≡ react Reset (met_in 0 how.fault) m → is_some told.2 ≡ true → ⊥
  untold same some = none_some told.2 (no_track lost (ap (λ (a : Answer × Machine). a.0) (same ∙ reset_by how.fault refl))
      (no_fault_none_told m Reset (runs_of m stands.sound)).0) some
    where
      no_track : (t : Option (ℕ × ℕ × ℕ)) → (react Reset None m).0 ≡ WasReset t → TellsNoTrack (react Reset None m).0 → t ≡ None
      no_track t h n = subst TellsNoTrack h n

      none_some : (t : Option (ℕ × ℕ)) → option_map {U = ℕ × ℕ × ℕ} (λ t. (256 * c.number + w.attached.device, t.0, t.1)) t ≡ None
          → is_some t ≡ true → ⊥
      none_some None h s = cc
      none_some (Some t) h s = cc

  reset_told : (f : Option Fault) → how.fault ≡ f → program.IsMet f w.attached.drive new → Reports Reset m (met_in 0 f)
  reset_told None is h = no_fault_none_told m Reset (runs_of m stands.sound)
  reset_told (Some f) is h = go (fault_told_by_reset m (record { units = 0; fault = f }) (runs_of m stands.sound)) tells.unsaved
    where
      go : ((react Reset (met_in 0 (Some f)) m ≡ react Reset None m) ⊎ ToldByReset m (react Reset (met_in 0 (Some f)) m))
          → ((new.image.failures ≡ w.attached.drive.image.failures) ⊎ (is_some told.2 ≡ true))
          → ToldByReset m (react Reset (met_in 0 (Some f)) m)
      go (inr t) u = t
      go (inl same) (inl stays) = absurd (omega (arith, stays, h))
      go (inl same) (inr some) = absurd (untold (sym same ∙ ap (λ f. react Reset (met_in 0 f) m) (sym is)) some)

  pub reset_does : Does Reset m (WasReset lost) c (reset_with c drives_then)
  reset_does = does_this Reset m (WasReset lost) c (reset_with c drives_then) (met_in 0 how.fault)
      (all_at_rest (ended w.attached.device c.storage ending m)) stands (reset_by how.fault refl)
      (record {
        number = refl;
        few = rest_few drives_then (few_drives c c.storage Idle place w.attached (with_drive w.attached new) w.is_there stands.few);
        shows = (
          reset_machine,
          rest_all drives_then (all_of_others c.drives place (with_drive w.attached new) w.others how.is_ending.drive.rests),
        );
      })
      (reset_met how.fault how.met) (reset_told how.fault refl how.met)

-- Steps, cuts and resets at a channel, by what its subchannel is.

pub works : (c : ChannelState) (m : Machine) (place : ℕ) (r : RunningState) → c.subchannel ≡ Working place r → StandsFor c m
    → WorksFor c place r m
works c m place r is s = subst (Shows c m) is s.shows

pub there : (c : ChannelState) (m : Machine) (place : ℕ) (r : RunningState) → c.subchannel ≡ Working place r → StandsFor c m
    → DriveIs place (Stands r) c.drives
there c m place r is s = let w = works c m place r is s in record { attached = w.attached; is_there = w.is_there; holds = w.runs.together }

-- the drive at a place
at_attached : (place : ℕ) (How : DriveState → DriveState → Type 0) (old new : List AttachedState) (u : AttachedState)
    → DriveChanges place How old new → slice_get old place ≡ Some u
    → (drive : DriveState) × (new ≡ slice_set old place (with_drive u drive)) × How u.drive drive
at_attached place How old new u d at =
    let e : d.attached ≡ u = inside d.attached u (sym d.was ∙ at) in
    (d.drive, d.becomes ∙ ap (λ u. slice_set old place (with_drive u d.drive)) e, subst (λ u. How u.drive d.drive) e d.how)

pub still_there : (place : ℕ) (How : DriveState → DriveState → Type 0) (old new : List AttachedState) → DriveChanges place How old new
    → place < length new
still_there place How old new d = rw (d.becomes, length-set) (slice_get_within old place d.attached d.was)

-- a program that is over, at the drive that it changed; it names the drives before, between and behind, since it joins
-- two changes of them
over_at : (place : ℕ) (csw : Csw) (motion : Bool) (old between new : List AttachedState) (u : AttachedState) (drive : DriveState)
    (subchannel : Subchannel) → IsOver place csw motion between new subchannel
    → slice_get old place ≡ Some u → between ≡ slice_set old place (with_drive u drive)
    → (new ≡ slice_set old place (with_both u motion drive)) × (subchannel ≡ Pending u.device csw)
over_at place csw motion old between new u drive subchannel o at is = (
  o.becomes ∙ ap (λ v. slice_set between place (record v { arm = arm_told motion })) e
      ∙ ap (λ us. slice_set us place (with_both u motion drive)) is ∙ set_twice old place (with_drive u drive) (with_both u motion drive),
  o.pends ∙ ap (λ v. Pending v.device csw) e,
)
  where
    e : o.attached ≡ with_drive u drive
    e = inside o.attached (with_drive u drive) (sym o.was ∙ ap (λ us. slice_get us place) is ∙ get_set old place u (with_drive u drive) at)

-- Steps.

none_steps : (c : ChannelState) (m : Machine) (k : ℕ) → ((place : ℕ) (r : RunningState) → c.subchannel ≡ Working place r → ⊥)
    → (s : Subchannel) → c.subchannel ≡ s → Shows c m s → react (StepBy k) None m ≡ (Stepped 0, m)
none_steps c m k never Idle is h = rw h.0 refl
none_steps c m k never (Pending device csw) is h = rw h.0 refl
none_steps c m k never (Working place r) is h = absurd (never place r is)

pub no_step_does : (c : ChannelState) (m : Machine) (k : ℕ) → ((place : ℕ) (r : RunningState) → c.subchannel ≡ Working place r → ⊥)
    → StandsFor c m → Does (StepBy k) m (Stepped 0) c c × CallsAtMost 0 c c
no_step_does c m k never s = (
  nothing_does (StepBy k) m c (Stepped 0) s (none_steps c m k never c.subchannel refl s.shows),
  none_calls 0 c c refl,
)

module _ (c : ChannelState) (m : Machine) (place : ℕ) (r : RunningState) (is : c.subchannel ≡ Working place r) (s : StandsFor c m) (k : ℕ)
    (a : LongAdvance) (r' : RunningState) (st : Storage) (drives : List AttachedState)
    (d : DriveChanges place (AdvancesAt r c.storage k a r' st) c.drives drives) where
  w : WorksFor c place r m
  w = works c m place r is s

  y : (drive : DriveState) × (drives ≡ slice_set c.drives place (with_drive w.attached drive))
      × AdvancesAt r c.storage k a r' st w.attached.drive drive
  y = at_attached place (AdvancesAt r c.storage k a r' st) c.drives drives w.attached d w.is_there

  calls_most : (subchannel : Subchannel) (u : AttachedState) → u.drive ≡ y.0
      → CallsAtMost (2 * a.done) c (channel_with c st subchannel place u)
  calls_most subchannel u e =
      calls_at_most c st subchannel place w.attached u w.is_there (2 * a.done) (rw (sym e) at y.2.calls)
      (rw (sym e) at (failures_told a.ending w.attached.drive y.0 y.2.tells))

  pub step_most : a.done ≤ k
  step_most = go a.ending y.2.advances
    where
      go : (e : Option (Csw × Bool)) → AdvancesTo r.key (phase_in r c.storage w.attached.drive) k a.done e r' st w.attached.drive y.0
          → a.done ≤ k
      go None h = omega (arith, h.done)
      go (Some told) h = h.done

  pub step_goes_on : a.ending ≡ None → Does (StepBy k) m (Stepped a.done) c (of_parts c.number st (Working place r') drives)
      × CallsAtMost (2 * a.done) c (of_parts c.number st (Working place r') drives)
  step_goes_on e = rw y.1 (
    goes_on_does c place r m w s k a.done st y.0 r' (simp e at y.2.advances),
    calls_most (Working place r') (with_drive w.attached y.0) refl,
  )

  pub step_ends : (csw : Csw) (motion : Bool) → a.ending ≡ Some (csw, motion) → (drives' : List AttachedState) (subchannel : Subchannel)
      → IsOver place csw motion drives drives' subchannel
      → Does (StepBy k) m (Stepped a.done) c (of_parts c.number st subchannel drives')
      × CallsAtMost (2 * a.done) c (of_parts c.number st subchannel drives')
  step_ends csw motion e drives' subchannel o =
      let z = over_at place csw motion c.drives drives drives' w.attached y.0 subchannel o w.is_there y.1 in
      rw (z.0, z.1) (
        ends_does c place r m w s k a.done st y.0 (csw, motion) (simp e at y.2.tells) (simp e at y.2.advances),
        calls_most (Pending w.attached.device csw) (with_both w.attached motion y.0) refl,
      )

-- Cuts.

may_be_cut : (c : ChannelState) (m : Machine) → StandsFor c m → (s : Subchannel) → c.subchannel ≡ s → MayBeCut s c.drives
may_be_cut c m h Idle is = tt
may_be_cut c m h (Pending device csw) is = tt
may_be_cut c m h (Working place r) is = there c m place r is h

pub cut_allowed : (c : ChannelState) (m : Machine) → StandsFor c m → MayBeCut c.subchannel c.drives
cut_allowed c m h = may_be_cut c m h c.subchannel refl

on_this : (c : ChannelState) (m : Machine) (a : ℕ) (b : Bool) → StandsFor c m → (a / 256 == c.number) ≡ b
    → react (Hio a) None m ≡ cond b (halt_io None (a % 256) m m.subchannel) (WithCode Three, m)
on_this c m a b s is = rw (ap (λ n. a / 256 == n) (seen_by c m c.subchannel s.shows).channel ∙ is) refl

-- an address of another channel
pub halts_elsewhere : (c : ChannelState) (m : Machine) (a : ℕ) → StandsFor c m → (a / 256 ≡ c.number → ⊥)
    → Does (Hio a) m (WithCode Three) c c
halts_elsewhere c m a s other = nothing_does (Hio a) m c (WithCode Three) s (on_this c m a false s (different (a / 256) c.number other))

-- a channel status word that pends stays
pub halts_pending : (c : ChannelState) (m : Machine) (a device : ℕ) (csw : Csw) → StandsFor c m → a / 256 ≡ c.number
    → c.subchannel ≡ Pending device csw → Does (Hio a) m (WithCode Zero) c c
halts_pending c m a device csw s here is = nothing_does (Hio a) m c (WithCode Zero) s
    (on_this c m a true s (eq-eqb _ _ here)
    ∙ ap (halt_io None (a % 256) m) (ap (λ (m : Machine). m.subchannel) (subst (Shows c m) is s.shows).0))

-- while the channel is available
module _ (c : ChannelState) (m : Machine) (a : ℕ) (s : StandsFor c m) (here : a / 256 ≡ c.number) (is : c.subchannel ≡ Idle) where
  abbrev halted : Bool → ChannelState
  halted b = record c { storage = storage_halted b c.storage }

  shown : (m ≡ machine_of c machine.Idle) × AllRest c.drives
  shown = subst (Shows c m) is s.shows

  halts : (b : Bool) → is_some (device_at (machine_of c machine.Idle) (a % 256)) ≡ b
      → Does (Hio a) m (condition_seen status_seen (halted_idle b)) c (halted b)
  halts b found = does_this (Hio a) m (condition_seen status_seen (halted_idle b)) c (halted b) None (machine_of (halted b) machine.Idle) s
      (on_this c m a true s (eq-eqb _ _ here) ∙ go b found) (record { number = refl; few = s.few; shows = rw is (refl, shown.1) }) refl
      (no_fault_none_told m (Hio a) (runs_of m s.sound))
    where
      go : (b : Bool) → is_some (device_at (machine_of c machine.Idle) (a % 256)) ≡ b
          → halt_io None (a % 256) m m.subchannel ≡ (condition_seen status_seen (halted_idle b), machine_of (halted b) machine.Idle)
      go true found = rw (shown.0, found) refl
      go false found = rw (shown.0, found) refl

  idle_halts : Does (Hio a) m (condition_seen status_seen (halted_idle (is_some (position (is_at (a % 256)) c.drives)))) c
      (halted (is_some (position (is_at (a % 256)) c.drives)))
  idle_halts = rw both_found (halts _ refl)

  pub halts_idle : (result : Condition Status) (st : Storage) → result ≡ halted_idle (is_some (position (is_at (a % 256)) c.drives))
      → st ≡ storage_halted (is_some (position (is_at (a % 256)) c.drives)) c.storage
      → Does (Hio a) m (condition_seen status_seen result) c (record c { storage = st }) × CallsAtMost 1 c (record c { storage = st })
  halts_idle result st answer left = (rw (answer, left) idle_halts, none_calls 1 c (record c { storage = st }) refl)

-- the program that runs is cut; by all that the answer clause of the code has at hand, a premise each
pub halts_working : (c : ChannelState) (m : Machine) (place : ℕ) (r : RunningState) → c.subchannel ≡ Working place r → StandsFor c m
    → (drives : List AttachedState) (subchannel : Subchannel) → CutsProgram c.subchannel c.drives drives subchannel
    → (a : ℕ) → a / 256 ≡ c.number → Does (Hio a) m (WithCode Two) c (of_parts c.number c.storage subchannel drives)
    × CallsAtMost 1 c (of_parts c.number c.storage subchannel drives)
halts_working c m place r is s drives subchannel h a here =
    let w = works c m place r is s in
    let cuts = subst (λ sub. CutsProgram sub c.drives drives subchannel) is h in
    let y = at_attached place (CutsAt r cuts.told) c.drives cuts.between w.attached cuts.cut w.is_there in
    let z = over_at place cuts.told.0 cuts.told.1 c.drives cuts.between drives w.attached y.0 subchannel cuts.over w.is_there y.1 in
    let u = with_both w.attached cuts.told.1 y.0 in
    simp (z.0, z.1) (
      halt_does c place r m w s cuts.told y.0 (y.2.cut c.storage) y.2.tells a (eq-eqb _ _ here),
      calls_at_most c c.storage (Pending w.attached.device cuts.told.0) place w.attached u w.is_there 1 (cut_calls _ w.attached.drive y.0
          (y.2.calls c.storage))
          (failures_told (Some (cuts.told.0, cuts.told.1)) w.attached.drive y.0 y.2.tells.fault),
    )

-- Resets.

module _ (c : ChannelState) (m : Machine) (s : StandsFor c m) where
  -- what a reset does, which leaves these drives at rest and reports this track
  abbrev pub Resets : List AttachedState → Option (ℕ × ℕ × ℕ) → Type 0
  Resets us unsaved = AllRest us × Does Reset m (WasReset unsaved) c (reset_with c us) × CallsAtMost 1 c (reset_with c us)

  module _ (drives : List AttachedState) (unsaved : Option (ℕ × ℕ × ℕ)) where
    calm : (sub : machine.Subchannel) → is_working sub ≡ false → (m ≡ machine_of c sub) × AllRest c.drives → (drives ≡ c.drives)
        × (unsaved ≡ None) → Resets drives unsaved
    calm sub quiet y h =
        rw (h.0, h.1) (y.1, idle_reset c m sub s quiet y.0 y.1, none_calls 1 c (reset_with c c.drives) (rest_images c.drives))

    resets_by : (sub : Subchannel) → c.subchannel ≡ sub → LosesProgram sub c.number c.drives drives unsaved → Resets drives unsaved
    resets_by Idle is h = calm machine.Idle refl (subst (Shows c m) is s.shows) h
    resets_by (Pending device csw) is h = calm (machine.Pending device csw) refl (subst (Shows c m) is s.shows) h
    resets_by (Working place r) is h =
        let w = works c m place r is s in
        let y = at_attached place (CutsAt r h.told) c.drives drives w.attached h.cut w.is_there in
        let e : h.attached ≡ w.attached = inside h.attached w.attached (sym h.was ∙ w.is_there) in
        let t : unsaved ≡ option_map (λ t. (256 * c.number + w.attached.device, t.0, t.1)) h.told.2 = h.tells
        ∙ ap (λ (u : AttachedState). option_map {U = ℕ × ℕ × ℕ} (λ t. (256 * c.number + u.device, t.0, t.1)) h.told.2) e in
        let u = with_drive w.attached y.0 in
        rw (y.1, t) (
          all_of_others c.drives place u w.others (y.2.cut c.storage).is_ending.drive.rests,
          reset_does c place r m w s h.told y.0 (y.2.cut c.storage) y.2.tells,
          calls_then_none 1 c (channel_with c c.storage Idle place u) (reset_with c (slice_set c.drives place u))
              (calls_at_most c c.storage Idle place w.attached u w.is_there 1 (cut_calls _ w.attached.drive y.0 (y.2.calls c.storage))
              (failures_told (Some (h.told.0, h.told.1)) w.attached.drive y.0 y.2.tells.fault))
              (rest_images (slice_set c.drives place u)),
        )

    pub resets : LosesProgram c.subchannel c.number c.drives drives unsaved → Resets drives unsaved
    resets h = resets_by c.subchannel refl h

    -- as the code leaves the subchannel and the drives
    pub resets_to : LosesProgram c.subchannel c.number c.drives drives unsaved → (subchannel : Subchannel) (now : List AttachedState)
        → subchannel ≡ Idle → now ≡ map at_rest_attached drives
        → Does Reset m (WasReset unsaved) c (record c { subchannel = subchannel; drives = now })
        × CallsAtMost 1 c (record c { subchannel = subchannel; drives = now })
    resets_to lost subchannel now idle rest = rw (idle, rest) ((resets lost).1, (resets lost).2)
