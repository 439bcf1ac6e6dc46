-- A channel that becomes what one was between two programs.
use Rattle.std.proofs.Common.{◌≡◌, ◌∙◌, ap, refl, sym, subst, ℕ, Bool, true, List, Some, None}
use Rattle.std.proofs.lemmas.Bool.{and_parts, eqb-true}
use Rattle.std.specs.Prelude.{option_map, position, slice_get, slice_set}
use Rattle.ckd_drive.specs.Work.{has_track}
use Rattle.s360_program.specs.Advances.{Rests}
use Rattle.s360_words.specs.declared.words.Csw.{Csw}
use Rattle.s360_laws.specs.Machine.{Machine, device_at}
use Rattle.s360_laws.specs.Soundness.{AreDistinct, arm_owes, device_owes}
use Rattle.s360_laws.specs.declared.arm.Arm.{Arm}
use Rattle.s360_channel.specs.Channel.{ChannelState, Shows, StandsFor}
use Rattle.attached_drives.specs.Drives.{AttachedState, is_at}
use Rattle.attached_drives.specs.DriveCalls.{DriveIs, MayRestore, RestoresAt}
use Rattle.s360_channel.specs.Packs.{IsFree}
use Rattle.s360_channel.specs.Restores.{RestoresDrive, as_saved, has_saved_track, is_available, is_owed, with_pending, with_saved}
use Rattle.attached_drives.specs.Saved.{attached_as_saved}
use Rattle.attached_drives.specs.declared.drives_saved.SavedDrive.{SavedDrive}
use Rattle.s360_channel.specs.declared.subchannel.Subchannel.TheVariants.{Idle, Pending}
use Rattle.s360_channel.proofs.Removing.{attached, device_there, is_free, rests_there, stands_changed}
use Rattle.attached_drives.proofs.Places.{arm_there, found_at, found_by, inside, none_found}

-- A drive that was free is as it was saved.

module _ (c : ChannelState) (m : Machine) (s : StandsFor c m) (device place : ℕ) (f : IsFree device place c) (saved : SavedDrive) where
  abbrev this : AttachedState
  this = attached_as_saved saved f.attached

  rests : Rests f.attached.drive
  rests = rests_there c m s device place f.attached (attached c m s device place f) f.runs

  stands_saved : StandsFor (record c { drives = slice_set c.drives place this }) (with_saved device saved m)
  stands_saved = stands_changed c m s device place f this (as_saved saved) (λ d. refl) refl
      (record { idle = rests.idle; unwritten = refl })

  -- whether its volume has the track, by what the code asks of the drive
  pub has_is : (b : Bool)
      → Some b ≡ option_map (λ (u : AttachedState). has_track u.drive.state.volume.geometry saved.cylinder saved.head)
      (slice_get c.drives place)
      → has_saved_track device saved m ≡ Some b
  has_is b h = rw (device_there c m s device place f.attached (attached c m s device place f) f.runs) (sym (rw f.is_there at h))

  pub may_restore : Some true ≡ option_map (λ (u : AttachedState). has_track u.drive.state.volume.geometry saved.cylinder saved.head)
      (slice_get c.drives place)
      → DriveIs place (MayRestore saved) c.drives
  may_restore h = record {
    attached = f.attached;
    is_there = f.is_there;
    holds = (rests, sym (inside true _ (rw f.is_there at h)));
  }

  pub restores : (drives : List AttachedState) → has_saved_track device saved m ≡ Some true → RestoresAt place saved c.drives drives
      → RestoresDrive device saved m c (record c { drives = drives })
  restores drives has r =
      let same : r.attached ≡ f.attached = inside r.attached f.attached (sym r.was ∙ f.is_there) in
      let placed : drives ≡ slice_set c.drives place this = r.becomes ∙ rw same refl in
      record {
        free = is_free c m s device place f;
        has_its_track = has;
        place = place;
        is_free = f;
        becomes = ap (λ us. record c { drives = us }) placed;
        stands = subst (λ us. StandsFor (record c { drives = us }) (with_saved device saved m)) (sym placed) stands_saved;
      }

-- A channel status word pends again.

-- the channel in which it pends
abbrev pending : (device : ℕ) → Csw → ChannelState → ChannelState
pending device csw c = record c { subchannel = Pending device csw }

pub stands_pending : (c : ChannelState) (m : Machine) (device : ℕ) (csw : Csw) → StandsFor c m → c.subchannel ≡ Idle
    → is_owed device csw m ≡ true → StandsFor (pending device csw c) (with_pending device csw m)
stands_pending c m device csw s idle owed =
    let shown = subst (Shows c m) idle s.shows in
    let both = and_parts _ _ owed in
    record {
      number = s.number;
      few = s.few;
      shows = (ap (with_pending device csw) shown.0, shown.1);
      sound = (s.sound.0, (both.0, eqb-true _ 1 both.1));
    }

-- a subchannel is available where that of the code is
pub available : (c : ChannelState) (m : Machine) → StandsFor c m → c.subchannel ≡ Idle → is_available m.subchannel ≡ true
available c m s idle = ap (λ (m : Machine). is_available m.subchannel) (subst (Shows c m) idle s.shows).0

-- what is owed of the arm of the drive with an address, where no program runs and no word pends
pub owes_at : (c : ChannelState) (m : Machine) (device place : ℕ) (arm : Arm) → StandsFor c m → c.subchannel ≡ Idle
    → position (is_at device) c.drives ≡ Some place → Some arm ≡ option_map (λ (u : AttachedState). u.arm) (slice_get c.drives place)
    → device_owes (device_at m device) ≡ arm_owes arm
owes_at c m device place arm s idle h e =
    let shown = (subst (Shows c m) idle s.shows).0 in
    let f = found_by device c.drives place h in
    let distinct = subst (λ (m : Machine). AreDistinct m.devices) shown s.sound.0 in
    rw (shown, ← f.same_device, found_at c.drives place f.attached distinct f.is_there, arm_there c.drives place _ arm f.is_there e) refl

pub owes_none : (c : ChannelState) (m : Machine) (device : ℕ) → StandsFor c m → c.subchannel ≡ Idle
    → position (is_at device) c.drives ≡ None → device_owes (device_at m device) ≡ 0
owes_none c m device s idle h = rw ((subst (Shows c m) idle s.shows).0, none_found device c.drives h) refl
