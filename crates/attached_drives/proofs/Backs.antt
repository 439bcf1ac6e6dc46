-- Drives that are put back one after another.
use Rattle.std.proofs.Common.{◌≡◌, ℕ, zero, suc, ◌+◌, ◌<◌, ◌≤◌, refl, sym, ap, ◌∙◌}
use Rattle.std.proofs.Common.{subst, arith, List, [], ◌∷◌, ◌++◌, map, length, take, drop, true, Bool}
use Rattle.std.proofs.Common.{Option, Some, None, ◌&&◌}
use Rattle.std.proofs.lemmas.Bool.{and_parts}
use Rattle.std.specs.Prelude.{option_map, slice_get, slice_set}
use Rattle.s360_program.specs.Advances.{Rests}
use Rattle.attached_drives.specs.Drives.{AttachedState, AllRest, device_of}
use Rattle.attached_drives.specs.DriveCalls.{DriveIs, MayBeBack, MayRestore, PutsBackAt, RestoresAt}
use Rattle.attached_drives.specs.Saved.{attached_as_saved}
use Rattle.attached_drives.specs.Saved.{drive_back, drives_back, drives_saved, entry, has_track_of, have_tracks, saved_drive}
use Rattle.attached_drives.specs.declared.drives_saved.SavedDrive.{SavedDrive}
use Rattle.attached_drives.proofs.Places.{false_is_true, inside, none_is_some, rests_at}

abbrev pub front : List (Option (ℕ × SavedDrive)) → ℕ → List AttachedState → List AttachedState
front entries i us = drives_back entries (take i us) ++ drop i us

abbrev back : List (Option (ℕ × SavedDrive)) → AttachedState → AttachedState
back entries u = drive_back (entry u.device entries) u

pub front_length : (entries : List (Option (ℕ × SavedDrive))) (i : ℕ) (us : List AttachedState) → length (front entries i us) ≡ length us
front_length entries zero us = refl
front_length entries (suc i) [] = refl
front_length entries (suc i) (u ∷ us) = ap suc (front_length entries i us)

pub front_all : (entries : List (Option (ℕ × SavedDrive))) (us : List AttachedState) → front entries (length us) us ≡ drives_back entries us
front_all entries [] = refl
front_all entries (u ∷ us) = ap (λ r. back entries u ∷ r) (front_all entries us)

get_front : (entries : List (Option (ℕ × SavedDrive))) (i : ℕ) (us : List AttachedState) → slice_get (front entries i us) i ≡ slice_get us i
get_front entries zero us = refl
get_front entries (suc i) [] = refl
get_front entries (suc i) (u ∷ us) = get_front entries i us

set_front : (entries : List (Option (ℕ × SavedDrive))) (i : ℕ) (us : List AttachedState) (u : AttachedState) → slice_get us i ≡ Some u
    → slice_set (front entries i us) i (back entries u) ≡ front entries (suc i) us
set_front entries zero [] u h = none_is_some h
set_front entries zero (w ∷ us) u h = ap (λ x. back entries x ∷ us) (sym (inside w u h))
set_front entries (suc i) [] u h = none_is_some h
set_front entries (suc i) (w ∷ us) u h = ap (λ r. back entries w ∷ r) (set_front entries i us u h)

there : (us : List AttachedState) (i : ℕ) → i < length us → (u : AttachedState) × (slice_get us i ≡ Some u)
there [] i l = absurd (omega (arith, l))
there (u ∷ us) zero l = (u, refl)
there (u ∷ us) (suc i) l = there us i (omega (arith, l))

-- each volume has its track
track_at : (entries : List (Option (ℕ × SavedDrive))) (us : List AttachedState) (i : ℕ) (u : AttachedState)
    → have_tracks entries us ≡ true → slice_get us i ≡ Some u
    → has_track_of (entry u.device entries) u.drive.state.volume.geometry ≡ true
track_at entries [] i u t h = none_is_some h
track_at entries (w ∷ us) zero u t h =
    subst (λ (u : AttachedState). has_track_of (entry u.device entries) u.drive.state.volume.geometry ≡ true) (inside w u h)
    (and_parts _ _ t).0
track_at entries (w ∷ us) (suc i) u t h = track_at entries us i u (and_parts _ _ t).1 h

-- so the next one may be put back
pub back_next : (entries : List (Option (ℕ × SavedDrive))) (us now : List AttachedState) (i : ℕ) → now ≡ front entries i us → i < length us
    → AllRest us → have_tracks entries us ≡ true → MayBeBack i entries now
back_next entries us now i e l r t = let k = there us i l in record {
  attached = k.0;
  is_there = ap (λ us. slice_get us i) e ∙ (get_front entries i us ∙ k.1);
  rests = rests_at us i k.0 r k.1;
  track = track_at entries us i k.0 t k.1;
}

pub one_more : (entries : List (Option (ℕ × SavedDrive))) (us now next : List AttachedState) (i : ℕ) → now ≡ front entries i us
    → PutsBackAt i entries now next → next ≡ front entries (i + 1) us
one_more entries us now next i e r =
    r.becomes ∙ (ap (λ us. slice_set us i (back entries r.attached)) e
    ∙ (set_front entries i us r.attached (sym (get_front entries i us) ∙ (ap (λ us. slice_get us i) (sym e) ∙ r.was))
    ∙ ap (λ n. front entries n us) (more i)))
  where
    more : (i : ℕ) → suc i ≡ i + 1
    more i = omega arith

-- The one at a place, by the entry that is found for the address of the drive there.

device_is : (us : List AttachedState) (place device : ℕ) (u : AttachedState)
    → Some device ≡ option_map (λ (u : AttachedState). u.device) (slice_get us place) → slice_get us place ≡ Some u → device ≡ u.device
device_is us place device u d h = inside device u.device (d ∙ ap (option_map (λ (u : AttachedState). u.device)) h)

pub never_without : (entries : List (Option (ℕ × SavedDrive))) (us : List AttachedState) (place device : ℕ)
    → Some device ≡ option_map (λ (u : AttachedState). u.device) (slice_get us place) → None ≡ entry device entries
    → MayBeBack place entries us → ⊥
never_without entries us place device d none m =
    false_is_true (ap (λ o. has_track_of o m.attached.drive.state.volume.geometry) (none
    ∙ ap (λ n. entry n entries) (device_is us place device m.attached d m.is_there)) ∙ m.track)

pub may_be_restored : (entries : List (Option (ℕ × SavedDrive))) (us : List AttachedState) (place device : ℕ) (saved : SavedDrive)
    → Some device ≡ option_map (λ (u : AttachedState). u.device) (slice_get us place) → Some saved ≡ entry device entries
    → MayBeBack place entries us → DriveIs place (MayRestore saved) us
may_be_restored entries us place device saved d some m = record {
  attached = m.attached;
  is_there = m.is_there;
  holds = (
    m.rests,
    ap (λ o. has_track_of o m.attached.drive.state.volume.geometry) (some
        ∙ ap (λ n. entry n entries) (device_is us place device m.attached d m.is_there)) ∙ m.track,
  );
}

pub is_back : (entries : List (Option (ℕ × SavedDrive))) (us new : List AttachedState) (place device : ℕ) (saved : SavedDrive)
    → Some device ≡ option_map (λ (u : AttachedState). u.device) (slice_get us place) → Some saved ≡ entry device entries
    → RestoresAt place saved us new → PutsBackAt place entries us new
is_back entries us new place device saved d some r = record {
  attached = r.attached;
  was = r.was;
  becomes = r.becomes ∙ ap (λ o. slice_set us place (drive_back o r.attached)) (some
      ∙ ap (λ n. entry n entries) (device_is us place device r.attached d r.was));
}

-- What is saved of each.

abbrev pub saved_at : List AttachedState → ℕ → Option (ℕ × SavedDrive)
saved_at us place = option_map (λ (u : AttachedState). (u.device, saved_drive (device_of u))) (slice_get us place)

pub all_saved : (us : List AttachedState) → length us ≤ 8 → saved_at us 0 ∷ saved_at us 1 ∷ saved_at us 2 ∷ saved_at us 3 ∷ saved_at us 4
    ∷ saved_at us 5 ∷ saved_at us 6 ∷ saved_at us 7 ∷ [] ≡ drives_saved (map device_of us)
all_saved [] l = refl
all_saved (a ∷ []) l = refl
all_saved (a ∷ b ∷ []) l = refl
all_saved (a ∷ b ∷ c ∷ []) l = refl
all_saved (a ∷ b ∷ c ∷ d ∷ []) l = refl
all_saved (a ∷ b ∷ c ∷ d ∷ e ∷ []) l = refl
all_saved (a ∷ b ∷ c ∷ d ∷ e ∷ f ∷ []) l = refl
all_saved (a ∷ b ∷ c ∷ d ∷ e ∷ f ∷ g ∷ []) l = refl
all_saved (a ∷ b ∷ c ∷ d ∷ e ∷ f ∷ g ∷ h ∷ []) l = refl
all_saved (a ∷ b ∷ c ∷ d ∷ e ∷ f ∷ g ∷ h ∷ i ∷ us) l = absurd (omega (arith, l))
