-- Drives at places, and the devices of a machine that they are.
use Rattle.std.proofs.Common.{◌≡◌, ℕ, zero, suc, ◌+◌, ◌<◌, refl, sym, ap, ◌∙◌, subst, arith, true, false, Bool, cond, ◌==◌, List, [], ◌∷◌}
use Rattle.std.proofs.Common.{◌++◌, map, length, Option, Some, None}
use Rattle.std.proofs.Math.Seq.{map-set_same}
use Rattle.std.proofs.lemmas.Bool.{eq-eqb, eqb-true, ltb-true, ltb-false, lt-ltb, le-ltb}
use Rattle.std.proofs.lemmas.List.{get_or-set_same, set-get_or, length-set}
use Rattle.std.proofs.lemmas.List.Sums.{sum_by-set}
use Rattle.std.proofs.lemmas.Option.{get_or_from_slice_get, slice_get-get_or, slice_get_within}
use Rattle.std.specs.Prelude.{find, not, unwrap_or, option_map, is_some, position, sum_by, slice_get, slice_set, nat_lt}
use Rattle.std.specs.List.{position_or_len}
use Rattle.s360_laws.proofs.FindDevices.{different, Keeps, found_map}
use Rattle.s360_laws.specs.Machine.{Device}
use Rattle.s360_laws.specs.Soundness.{AreDistinct}
use Rattle.s360_laws.specs.declared.arm.Arm.{Arm}
use Rattle.s360_program.specs.Advances.{Rests}
use Rattle.attached_drives.specs.Drives.{AttachedState, device_of, AllRest, OthersRest, is_at}

pub none_is_some : {A : Type 0} {a : A} {P : Type 0} → None ≡ Some a → P
none_is_some h = absurd (cc)

pub false_is_true : {P : Type 0} → false ≡ true → P
false_is_true h = absurd (cc)

pub inside : {A : Type 0} (a b : A) → Some a ≡ Some b → a ≡ b
inside a b h = ap (λ o. unwrap_or o a) h

plus_one : (n : ℕ) → 1 + n ≡ suc n
plus_one n = omega arith

-- Lists at places.

pub get_set : {A : Type 0} (us : List A) (place : ℕ) (u v : A) → slice_get us place ≡ Some u → slice_get (slice_set us place v) place
    ≡ Some v
get_set us place u v h =
    slice_get-get_or (slice_set us place v) place v (subst (λ n. place < n) (sym (length-set us place v)) (slice_get_within us place u h))
    ∙ ap Some (get_or-set_same us place v v (slice_get_within us place u h))

pub get_other : {A : Type 0} (us : List A) (place p : ℕ) (v : A) → (p ≡ place → ⊥) → slice_get (slice_set us place v) p ≡ slice_get us p
get_other [] place p v n = refl
get_other (u ∷ us) zero zero v n = absurd (n refl)
get_other (u ∷ us) zero (suc p) v n = refl
get_other (u ∷ us) (suc place) zero v n = refl
get_other (u ∷ us) (suc place) (suc p) v n = get_other us place p v (λ e. n (ap suc e))

pub set_same : {A : Type 0} (us : List A) (place : ℕ) (u : A) → slice_get us place ≡ Some u → slice_set us place u ≡ us
set_same us place u h = sym (ap (slice_set us place) (get_or_from_slice_get us place u u h)) ∙ set-get_or us place u

pub set_twice : {A : Type 0} (us : List A) (place : ℕ) (u v : A) → slice_set (slice_set us place u) place v ≡ slice_set us place v
set_twice [] place u v = refl
set_twice (w ∷ us) zero u v = refl
set_twice (w ∷ us) (suc place) u v = ap (λ r. w ∷ r) (set_twice us place u v)

-- what the drives at all places are like stays, where the new drive at a place is like the old one
pub map_same : {A B : Type 0} (g : A → B) (us : List A) (place : ℕ) (u v : A) → slice_get us place ≡ Some u → g v ≡ g u
    → map g (slice_set us place v) ≡ map g us
map_same g us place u v h e = map-set_same g us place v u (e ∙ ap g (sym (get_or_from_slice_get us place u u h)))

-- and a sum over them changes by what the two drives have
pub sum_set : {A : Type 0} (f : A → ℕ) (us : List A) (place : ℕ) (u v : A) → slice_get us place ≡ Some u → sum_by f (slice_set us place v)
    + f u ≡ sum_by f us + f v
sum_set f us place u v h = rw (get_or_from_slice_get us place u u h) at (sum_by-set f us place v u (slice_get_within us place u h))

-- what the arm at a place does, by the call that asks it
pub arm_there : (us : List AttachedState) (place : ℕ) (u : AttachedState) (arm : Arm) → slice_get us place ≡ Some u
    → Some arm ≡ option_map (λ (u : AttachedState). u.arm) (slice_get us place) → u.arm ≡ arm
arm_there us place u arm there h = sym (inside arm u.arm (h ∙ ap (option_map (λ (u : AttachedState). u.arm)) there))

-- Drives that rest.

pub rests_at : (us : List AttachedState) (place : ℕ) (u : AttachedState) → AllRest us → slice_get us place ≡ Some u → Rests u.drive
rests_at [] place u r h = none_is_some h
rests_at (w ∷ us) zero u r h = subst (λ x. Rests x.drive) (inside w u h) r.0
rests_at (w ∷ us) (suc place) u r h = rests_at us place u r.1 h

pub all_set : (us : List AttachedState) (place : ℕ) (v : AttachedState) → AllRest us → Rests v.drive → AllRest (slice_set us place v)
all_set [] place v r h = tt
all_set (w ∷ us) zero v r h = (h, r.1)
all_set (w ∷ us) (suc place) v r h = (r.0, all_set us place v r.1 h)

pub all_push : (us : List AttachedState) (v : AttachedState) → AllRest us → Rests v.drive → AllRest (us ++ v ∷ [])
all_push [] v r h = (h, tt)
all_push (w ∷ us) v r h = (r.0, all_push us v r.1 h)

-- all but the one at a place
pub others_of_all : (us : List AttachedState) (place : ℕ) → AllRest us → OthersRest place us
others_of_all [] place r = tt
others_of_all (w ∷ us) zero r = r.1
others_of_all (w ∷ us) (suc place) r = (r.0, others_of_all us place r.1)

pub all_of_others : (us : List AttachedState) (place : ℕ) (v : AttachedState) → OthersRest place us → Rests v.drive
    → AllRest (slice_set us place v)
all_of_others [] place v r h = tt
all_of_others (w ∷ us) zero v r h = (h, r)
all_of_others (w ∷ us) (suc place) v r h = (r.0, all_of_others us place v r.1 h)

-- also where another drive is put somewhere that rests if the one before did
pub others_put : (us : List AttachedState) (place p : ℕ) (u v : AttachedState) → slice_get us place ≡ Some u
    → ((place ≡ p → ⊥) → Rests u.drive → Rests v.drive)
    → OthersRest p us → OthersRest p (slice_set us place v)
others_put [] place p u v h k r = none_is_some h
others_put (w ∷ us) zero zero u v h k r = r
others_put (w ∷ us) zero (suc p) u v h k r = (k (λ e. cc) (subst (λ x. Rests x.drive) (inside w u h) r.0), r.1)
others_put (w ∷ us) (suc place) zero u v h k r = all_set us place v r (k (λ e. cc) (rests_at us place u r h))
others_put (w ∷ us) (suc place) (suc p) u v h k r = (r.0, others_put us place p u v h (λ n. k (λ e. n (cc))) r.1)

pub others_set : (us : List AttachedState) (place : ℕ) (u v : AttachedState) → slice_get us place ≡ Some u → OthersRest place us
    → OthersRest place (slice_set us place v)
others_set us place u v h = others_put us place place u v h (λ n. absurd (n refl))

pub others_push : (us : List AttachedState) (place : ℕ) (u v : AttachedState) → slice_get us place ≡ Some u → OthersRest place us
    → Rests v.drive → OthersRest place (us ++ v ∷ [])
others_push [] place u v l r h = none_is_some l
others_push (w ∷ us) zero u v l r h = all_push us v r h
others_push (w ∷ us) (suc place) u v l r h = (r.0, others_push us place u v l r.1 h)

-- Devices by their addresses.

abbrev pub devices : List AttachedState → List Device
devices us = map device_of us

abbrev pub changes : ℕ → (Device → Device) → Device → Device
changes device f d = cond (d.device == device) (f d) d

pub same_number : (a : ℕ) → (a == a) ≡ true
same_number a = eq-eqb a a refl

-- where there is no device with an address, a change there changes nothing
pub none_changes : (device : ℕ) (f : Device → Device) (ds : List Device) → find (λ d. d.device == device) ds ≡ None
    → map (changes device f) ds ≡ ds
none_changes device f [] h = refl
none_changes device f (d ∷ ds) h = go (d.device == device) h (none_changes device f ds)
  where
    go : (b : Bool) → cond b (Some d) (find (λ d. d.device == device) ds) ≡ None → (find (λ d. d.device == device) ds ≡ None
        → map (changes device f) ds ≡ ds)
        → cond b (f d) d ∷ map (changes device f) ds ≡ d ∷ ds
    go true h k = none_is_some (sym h)
    go false h k = ap (λ r. d ∷ r) (k h)

-- a drive at a place is found by its address
pub is_found : (us : List AttachedState) (place : ℕ) (u : AttachedState) → slice_get us place ≡ Some u
    → is_some (find (λ d. d.device == u.device) (devices us)) ≡ true
is_found [] place u h = none_is_some h
is_found (w ∷ us) zero u h = ap (λ b. is_some (cond b (Some (device_of w)) (find (λ d. d.device == u.device) (devices us))))
    (ap (λ x. w.device == x.device) (sym (inside w u h)) ∙ same_number w.device)
is_found (w ∷ us) (suc place) u h = go (w.device == u.device) (is_found us place u h)
  where
    go : (b : Bool) → is_some (find (λ d. d.device == u.device) (devices us)) ≡ true
        → is_some (cond b (Some (device_of w)) (find (λ d. d.device == u.device) (devices us))) ≡ true
    go true k = refl
    go false k = k

-- so a drive behind another has another address
pub is_other : (w : AttachedState) (us : List AttachedState) (place : ℕ) (u : AttachedState) → AreDistinct (devices (w ∷ us))
    → slice_get us place ≡ Some u → (w.device == u.device) ≡ false
is_other w us place u a h =
    different w.device u.device (λ e. false_is_true (sym (ap is_some (sym (ap (λ n. find (λ d. d.device == n) (devices us)) e) ∙ a.0))
    ∙ is_found us place u h))

-- Distinct addresses: the device with the address of a drive at a place is that drive,
pub found_at : (us : List AttachedState) (place : ℕ) (u : AttachedState) → AreDistinct (devices us) → slice_get us place ≡ Some u
    → find (λ d. d.device == u.device) (devices us) ≡ Some (device_of u)
found_at [] place u a h = none_is_some h
found_at (w ∷ us) zero u a h = ap (λ b. cond b (Some (device_of w)) (find (λ d. d.device == u.device) (devices us))) (ap (λ x. w.device ==
    x.device) (sym (inside w u h)) ∙ same_number w.device) ∙ ap (λ x. Some (device_of x)) (inside w u h)
found_at (w ∷ us) (suc place) u a h = ap (λ b. cond b (Some (device_of w)) (find (λ d. d.device == u.device) (devices us)))
    (is_other w us place u a h) ∙ found_at us place u a.1 h

-- and the place of the drive with that address is this place
pub place_at : (us : List AttachedState) (place : ℕ) (u : AttachedState) → AreDistinct (devices us) → slice_get us place ≡ Some u
    → position_or_len (is_at u.device) us ≡ place
place_at [] place u a h = none_is_some h
place_at (w ∷ us) zero u a h = ap (λ b. cond (not b) (1 + position_or_len (is_at u.device) us) 0) (ap (λ x. w.device ==
    x.device) (sym (inside w u h)) ∙ same_number w.device)
place_at (w ∷ us) (suc place) u a h = ap (λ b. cond (not b) (1 + position_or_len (is_at u.device) us) 0) (is_other w us place u a h)
    ∙ (plus_one (position_or_len (is_at u.device) us) ∙ ap suc (place_at us place u a.1 h))

-- A drive that is put at a place, is a change of the device with that drive's address.
pub devices_set : (us : List AttachedState) (place : ℕ) (u v : AttachedState) (f : Device → Device) → AreDistinct (devices us)
    → slice_get us place ≡ Some u → device_of v ≡ f (device_of u)
    → devices (slice_set us place v) ≡ map (changes u.device f) (devices us)
devices_set [] place u v f a h e = none_is_some h
devices_set (w ∷ us) zero u v f a h e = ap (λ x. x ∷ devices us) (e ∙ ap (λ x. f (device_of x)) (sym (inside w u h))
    ∙ sym (ap (λ b. cond b (f (device_of w)) (device_of w)) (ap (λ x. w.device == x.device) (sym (inside w u h)) ∙ same_number w.device)))
    ∙ ap (λ r. changes u.device f (device_of w) ∷ r)
    (sym (none_changes u.device f (devices us) (ap (λ x. find (λ d. d.device == x.device) (devices us)) (sym (inside w u h)) ∙ a.0)))
devices_set (w ∷ us) (suc place) u v f a h e =
    ap (λ x. x ∷ devices (slice_set us place v)) (sym (ap (λ b. cond b (f (device_of w)) (device_of w)) (is_other w us place u a h)))
    ∙ ap (λ r. changes u.device f (device_of w) ∷ r) (devices_set us place u v f a.1 h e)

-- Devices that a search by place finds.

pub record FoundAt (device : ℕ) (us : List AttachedState) (place : ℕ) : Type 0 where
  pub attached : AttachedState
  pub is_there : slice_get us place ≡ Some attached
  pub same_device : attached.device ≡ device
  pub found : find (λ d. d.device == device) (devices us) ≡ Some (device_of attached)

-- a search, by that of the list behind the first
position_cons : {A : Type 0} (p : A → Bool) (x : A) (xs : List A)
    → position p (x ∷ xs) ≡ cond (p x) (Some 0) (option_map suc (position p xs))
position_cons p x xs = go (p x) (nat_lt (position_or_len p xs) (length xs)) refl
  where
    go : (b l : Bool) → nat_lt (position_or_len p xs) (length xs) ≡ l
        → cond (nat_lt (cond (not b) (1 + position_or_len p xs) 0) (suc (length xs))) (Some (cond (not b) (1 + position_or_len p xs) 0))
        None
        ≡ cond b (Some 0) (option_map suc (cond l (Some (position_or_len p xs)) None))
    go true l e = ap (λ c. cond c (Some 0) None) (lt-ltb 0 (suc (length xs)) (omega arith))
    go false true e = ap (λ c. cond c (Some (1 + position_or_len p xs)) None) (lt-ltb (1 + position_or_len p xs) (suc (length xs))
        (omega (arith, ltb-true (position_or_len p xs) (length xs) e)))
        ∙ ap Some (plus_one (position_or_len p xs))
    go false false e = ap (λ c. cond c (Some (1 + position_or_len p xs)) None) (le-ltb (1 + position_or_len p xs) (suc (length xs))
        (omega (arith, ltb-false (position_or_len p xs) (length xs) e)))

-- what it comes to: a place whose drive has the address, or that no device has it
abbrev Sought : (device : ℕ) → List AttachedState → Option ℕ → Type 0
Sought device us None = find (λ d. d.device == device) (devices us) ≡ None
Sought device us (Some place) = FoundAt device us place

sought : (device : ℕ) (us : List AttachedState) → Sought device us (position (is_at device) us)
sought device [] = refl
sought device (w ∷ us) = subst (Sought device (w ∷ us)) (sym (position_cons (is_at device) w us)) (go (w.device ==
    device) (position (is_at device) us) refl (sought device us))
  where
    go : (b : Bool) (x : Option ℕ) → (w.device == device) ≡ b → Sought device us x
        → Sought device (w ∷ us) (cond b (Some 0) (option_map suc x))
    go true x e k = record {
      attached = w;
      is_there = refl;
      same_device = eqb-true w.device device e;
      found = ap (λ b. cond b (Some (device_of w)) (find (λ d. d.device == device) (devices us))) e;
    }
    go false None e k = ap (λ b. cond b (Some (device_of w)) (find (λ d. d.device == device) (devices us))) e ∙ k
    go false (Some place) e k = record {
      attached = k.attached;
      is_there = k.is_there;
      same_device = k.same_device;
      found = ap (λ b. cond b (Some (device_of w)) (find (λ d. d.device == device) (devices us))) e ∙ k.found;
    }

pub found_by : (device : ℕ) (us : List AttachedState) (place : ℕ) → position (is_at device) us ≡ Some place → FoundAt device us place
found_by device us place h = subst (Sought device us) h (sought device us)

pub none_found : (device : ℕ) (us : List AttachedState) → position (is_at device) us ≡ None → find (λ d. d.device == device) (devices us)
    ≡ None
none_found device us h = subst (Sought device us) h (sought device us)

pub both_found : (device : ℕ) (us : List AttachedState) → is_some (position (is_at device) us) ≡ is_some (find (λ d. d.device ==
    device) (devices us))
both_found device us = go (position (is_at device) us) (sought device us)
  where
    go : (x : Option ℕ) → Sought device us x → is_some x ≡ is_some (find (λ d. d.device == device) (devices us))
    go None h = sym (ap is_some h)
    go (Some place) h = sym (ap is_some h.found)

-- Distinct addresses.

-- a change of devices that keeps their addresses, also where they were not known as distinct before
pub distinct_before : (g : Device → Device) → Keeps g → (ds : List Device) → AreDistinct (map g ds) → AreDistinct ds
distinct_before g k [] h = tt
distinct_before g k (d ∷ ds) h = (
  none (find (λ o. o.device == d.device) ds) (sym (found_map (λ n. n == d.device) g k ds)
      ∙ (ap (λ n. find (λ o. o.device == n) (map g ds)) (sym (k d)) ∙ h.0)),
  distinct_before g k ds h.1,
)
  where
    none : (x : Option Device) → option_map g x ≡ None → x ≡ None
    none None h = refl
    none (Some d) h = none_is_some (sym h)

-- two changes of one device, one after the other, are one
pub changes_twice : (device : ℕ) (f g : Device → Device) → Keeps f → (ds : List Device) → map (changes device g) (map (changes device f) ds)
    ≡ map (changes device (λ d. g (f d))) ds
changes_twice device f g k [] = refl
changes_twice device f g k (d ∷ ds) = ap (λ x. x ∷ map (changes device g) (map (changes device f) ds)) (go (d.device == device) refl)
    ∙ ap (λ r. changes device (λ d. g (f d)) d ∷ r) (changes_twice device f g k ds)
  where
    go : (b : Bool) → (d.device == device) ≡ b → changes device g (cond b (f d) d) ≡ cond b (g (f d)) d
    go true e = ap (λ b. cond b (g (f d)) (f d)) (ap (λ n. n == device) (k d) ∙ e)
    go false e = ap (λ b. cond b (g d) d) e
