-- A channel that is put back as it was saved stands for the machine that is.
use Rattle.std.proofs.Common.{◌≡◌, ◌<◌, ◌≤◌, ℕ, ◌+◌, ◌∷◌, [], refl, subst}
use Rattle.std.proofs.Common.{◌==◌, ◌&&◌, Bool, true, false, cond, List, map, length, Option, Some, None}
use Rattle.std.proofs.lemmas.Bool.{and_parts, eqb-true}
use Rattle.std.proofs.lemmas.List.{length-map}
use Rattle.std.specs.Prelude.{find, is_some, not, position}
use Rattle.s360_words.specs.Storage.{Storage}
use Rattle.s360_words.specs.declared.words.Csw.{Csw}
use Rattle.s360_words.specs.declared.flags.TheConstants.UnitStatus.{CHANNEL_END, DEVICE_END}
use Rattle.s360_laws.specs.Status.{tells}
use Rattle.s360_laws.specs.Machine as machine
use Rattle.s360_laws.specs.Machine.{Device, Machine, device_at}
use Rattle.s360_laws.specs.Soundness.{AreDistinct, arm_owes, device_owes}
use Rattle.s360_program.specs.Advances.{Rests}
use Rattle.s360_laws.specs.declared.arm.Arm.{Arm}
use Rattle.s360_laws.specs.declared.arm.Arm.TheVariants.{AtRest, InMotion, Arrived}
use Rattle.s360_laws.proofs.FindDevices.{Keeps, distinct_map, found_map}
use Rattle.s360_channel.specs.Channel.{ChannelState, Shows, StandsFor, machine_of}
use Rattle.attached_drives.specs.Drives.{AllRest, AttachedState, device_of, is_at}
use Rattle.s360_channel.specs.Saves.{are_same_drives, device_back, is_ending, is_ending_of, is_working, machine_back, may_pend, owes}
use Rattle.s360_channel.specs.Saves.{put_back, subchannel_back, why_not_back}
use Rattle.attached_drives.specs.Saved.{drive_back, drives_back, entry, have_tracks}
use Rattle.s360_channel.specs.Selector.{IsSelector, SelectorState, over}
use Rattle.s360_channel.specs.declared.faults.SavedFault.TheVariants.{ProgramRuns, OtherDrives, NoSuchTrack, NotOwed}
use Rattle.attached_drives.specs.declared.drives_saved.SavedDrive.{SavedDrive}
use Rattle.s360_channel.specs.declared.saving.SavedChannel.{SavedChannel}
use Rattle.s360_channel.specs.declared.subchannel.Subchannel.{Subchannel}
use Rattle.s360_channel.specs.declared.subchannel.Subchannel.TheVariants.{Idle, Working, Pending}
use Rattle.attached_drives.proofs.Places.{devices, false_is_true, found_by}
use Rattle.s360_channel.proofs.Selecting.{still_over}
use mathlib.Core.Bool.{beq}

-- What is known where nothing stands against it.

pub record IsClear (saved : SavedChannel) (c : SelectorState) : Type 0 where
  pub quiet : is_working c.subchannel ≡ false
  pub drives : are_same_drives saved.drives c.drives ≡ true
  pub tracks : have_tracks saved.drives c.drives ≡ true
  pub pends : may_pend saved.pending saved.drives c.drives ≡ true

pub clear : (saved : SavedChannel) (c : SelectorState) → why_not_back saved c ≡ None → IsClear saved c
clear saved c h =
    let k = go (is_working c.subchannel) (are_same_drives saved.drives c.drives) (have_tracks saved.drives c.drives)
    (may_pend saved.pending saved.drives c.drives) h in
    record { quiet = k.0; drives = k.1; tracks = k.2; pends = k.3 }
  where
    go : (a b d e : Bool) → cond a (Some ProgramRuns) (cond (not b) (Some OtherDrives) (cond (not d) (Some NoSuchTrack)
        (cond (not e) (Some NotOwed) None))) ≡ None
        → (a ≡ false) × (b ≡ true) × (d ≡ true) × (e ≡ true)
    go true b d e h = absurd (cc)
    go false false d e h = absurd (cc)
    go false true false e h = absurd (cc)
    go false true true false h = absurd (cc)
    go false true true true h = (refl, refl, refl, refl)

-- The devices.

abbrev changed : List (Option (ℕ × SavedDrive)) → Device → Device
changed entries d = device_back (entry d.device entries) d

keeps : (entries : List (Option (ℕ × SavedDrive))) → Keeps (changed entries)
keeps entries d = go (entry d.device entries)
  where
    go : (o : Option SavedDrive) → (device_back o d).device ≡ d.device
    go None = refl
    go (Some saved) = refl

devices_back : (entries : List (Option (ℕ × SavedDrive))) (us : List AttachedState) → map (changed entries) (devices us)
    ≡ devices (drives_back entries us)
devices_back entries [] = refl
devices_back entries (u ∷ us) = rw (go (entry u.device entries), devices_back entries us) refl
  where
    go : (o : Option SavedDrive) → device_back o (device_of u) ≡ device_of (drive_back o u)
    go None = refl
    go (Some saved) = refl

all_back : (entries : List (Option (ℕ × SavedDrive))) (us : List AttachedState) → AllRest us → AllRest (drives_back entries us)
all_back entries [] r = tt
all_back entries (u ∷ us) r = (go (entry u.device entries), all_back entries us r.1)
  where
    go : (o : Option SavedDrive) → Rests (drive_back o u).drive
    go None = r.0
    go (Some saved) = record { idle = r.0.idle; unwritten = refl }

-- The word that pends.

owed_back : (entries : List (Option (ℕ × SavedDrive))) (us : List AttachedState) (device : ℕ) (csw : Csw)
    → is_some (position (is_at device) us) ≡ true
    → is_ending_of csw (entry device entries) ≡ true
    → (tells csw.unit CHANNEL_END ≡ true)
    × (cond (tells csw.unit DEVICE_END) 1 0 + device_owes (find (λ d. d.device == device) (map (changed entries) (devices us))) ≡ 1)
owed_back entries us device csw at ends = by_place (position (is_at device) us) refl at
  where
    by_entry : (u : AttachedState) (o : Option SavedDrive) → is_ending_of csw o ≡ true
        → (tells csw.unit CHANNEL_END ≡ true)
        × (cond (tells csw.unit DEVICE_END) 1 0 + device_owes (Some (device_back o (device_of u))) ≡ 1)
    by_entry u None e = false_is_true e
    by_entry u (Some saved) e = let both = and_parts _ _ e in (both.0, eqb-true _ 1 both.1)

    by_place : (x : Option ℕ) → position (is_at device) us ≡ x → is_some x ≡ true
        → (tells csw.unit CHANNEL_END ≡ true)
        × (cond (tells csw.unit DEVICE_END) 1 0 + device_owes (find (λ d. d.device == device) (map (changed entries) (devices us))) ≡ 1)
    by_place None h e = false_is_true e
    by_place (Some place) h e =
        let f = found_by device us place h in
        let ends_there = rw (← f.same_device) at ends in
        rw (found_map (λ n. n == device) (changed entries) (keeps entries) (devices us), f.found)
        (by_entry f.attached (entry f.attached.device entries) ends_there)

-- The channel.

module _ (saved : SavedChannel) (c : SelectorState) (s : Storage) (k : IsClear saved c) where
  now : ChannelState
  now = over (put_back saved c) s

  abbrev before : machine.Subchannel → Machine
  before x = machine_of (over c s) x

  same_devices : map (changed saved.drives) (devices c.drives) ≡ devices (drives_back saved.drives c.drives)
  same_devices = devices_back saved.drives c.drives

  stands_now : (x : machine.Subchannel) → c.number < 7 → length c.drives ≤ 8 → AllRest c.drives → AreDistinct (devices c.drives)
      → StandsFor (over (put_back saved c) s) (machine_back saved (before x))
  stands_now x number few rests distinct =
      go saved.pending k.pends
    where
      rested : AllRest (drives_back saved.drives c.drives)
      rested = all_back saved.drives c.drives rests

      apart : AreDistinct (map (changed saved.drives) (devices c.drives))
      apart = distinct_map (changed saved.drives) (keeps saved.drives) (devices c.drives) distinct

      go : (p : Option (ℕ × Csw)) → may_pend p saved.drives c.drives ≡ true
          → StandsFor (over (put_back (record saved { pending = p }) c) s) (machine_back (record saved { pending = p }) (before x))
      go None h = record {
        number = number;
        few = rw length-map few;
        shows = (rw same_devices refl, rested);
        sound = (apart, tt);
      }
      go (Some p) h =
          let both = and_parts _ _ h in
          record {
            number = number;
            few = rw length-map few;
            shows = (rw same_devices refl, rested);
            sound = (apart, owed_back saved.drives c.drives p.0 p.1 both.0 both.1);
          }

  pub stands_back : (m : Machine) → StandsFor (over c s) m → StandsFor (over (put_back saved c) s) (machine_back saved m)
  stands_back m st = go c.subchannel k.quiet st.shows
    where
      by_shown : (x : machine.Subchannel) → m ≡ before x → AllRest c.drives
          → StandsFor (over (put_back saved c) s) (machine_back saved m)
      by_shown x e r = rw e (stands_now x st.number st.few r (subst (λ (m : Machine). AreDistinct m.devices) e st.sound.0))

      go : (x : Subchannel) → is_working x ≡ false → Shows (over c s) m x
          → StandsFor (over (put_back saved c) s) (machine_back saved m)
      go Idle q h = by_shown machine.Idle h.0 h.1
      go (Pending device csw) q h = by_shown (machine.Pending device csw) h.0 h.1
      go (Working place r) q h = absurd (cc)

-- what is known of drives that may be put back: none works
pub rest_here : (saved : SavedChannel) (c : SelectorState) (s : Storage) (m : Machine) → IsClear saved c → StandsFor (over c s) m
    → AllRest c.drives
rest_here saved c s m k st = go c.subchannel k.quiet st.shows
  where
    go : (x : Subchannel) → is_working x ≡ false → Shows (over c s) m x → AllRest c.drives
    go Idle q h = h.1
    go (Pending device csw) q h = h.1
    go (Working place r) q h = absurd (cc)

-- an ending: channel end is there, and device end is where the arm does not owe it
pub ending_is : (csw : Csw) (arm : Arm)
    → (tells csw.unit CHANNEL_END && not (beq (tells csw.unit DEVICE_END) (owes arm))) ≡ is_ending csw arm
ending_is csw arm = go (tells csw.unit CHANNEL_END) (tells csw.unit DEVICE_END) arm
  where
    go : (a b : Bool) (arm : Arm) → (a && not (beq b (owes arm))) ≡ (a && (cond b 1 0 + arm_owes arm == 1))
    go true true AtRest = refl
    go true true InMotion = refl
    go true true Arrived = refl
    go true false AtRest = refl
    go true false InMotion = refl
    go true false Arrived = refl
    go false b arm = refl

-- the same of what the code makes of it
pub there : (saved : SavedChannel) (c : SelectorState) (s : Storage) (m : Machine) (subchannel : Subchannel) (drives : List AttachedState)
    → subchannel ≡ subchannel_back saved.pending → drives ≡ drives_back saved.drives c.drives → IsClear saved c → StandsFor (over c s) m
    → StandsFor (over (record c { subchannel = subchannel; drives = drives }) s) (machine_back saved m)
there saved c s m subchannel drives e f k st = rw (e, f) (stands_back saved c s k m st)

-- so it is a selector as before
pub selector_back : (saved : SavedChannel) (c : SelectorState) → IsSelector c → why_not_back saved c ≡ None → IsSelector (put_back saved c)
selector_back saved c h free =
    let k = h.is_over.channel in
    still_over c (put_back saved c) h refl (record {
      machine = machine_back saved k.machine;
      stands = stands_back saved c h.storage (clear saved c free) k.machine k.stands;
    })
