-- Numbers, tests and devices that are found by their addresses; and a machine in each state of its subchannel.
use Rattle.std.proofs.Common.{subst, ◌≡◌, ℕ, ◌+◌, ◌*◌, ◌/◌, ◌%◌, refl, sym, ap, ◌∙◌, arith, true, false, Bool, cond, ◌==◌, List, [], ◌∷◌}
use Rattle.std.proofs.Common.{map, Option, Some, None}
use Rattle.std.proofs.lemmas.Bool.{ne_eqb, eqb-true, cond_both}
use Rattle.std.specs.Prelude.{find, option_map}
use Rattle.s360_words.specs.declared.words.Csw.{Csw}
use Rattle.ckd_command.specs.Drive.{IdleDrive}
use Rattle.s360_laws.specs.Endings.{Outcome}
use Rattle.s360_laws.specs.Runs.{run}
use Rattle.s360_laws.specs.Scripts.{Script}
use Rattle.s360_laws.specs.Machine.{Device, Machine, address_of, device_at, run_of, start_of, Idle, Pending, Working}
use Rattle.s360_laws.specs.Soundness.{AreDistinct, device_for, IsRunning}
use Rattle.s360_laws.specs.declared.arm.Arm.{Arm}

-- Numbers and tests.

pub different : (a b : ℕ) → (a ≡ b → ⊥) → (a == b) ≡ false
different a b f = ne_eqb a b f

-- Finding devices.

abbrev pub Has : (Device → Bool) → Option Device → Type 0
Has p None = Unit {0}
Has p (Some v) = p v ≡ true

pub has_found : (p : Device → Bool) (vs : List Device) → Has p (find p vs)
has_found p [] = tt
has_found p (v ∷ vs) = cond_both (p v) (Some v) (find p vs) (Has p) (λ e. e) (λ e. has_found p vs)

-- what is found passes the test
pub found_is : {X : Type 0} (p : X → Bool) (xs : List X) (x : X) → find p xs ≡ Some x → p x ≡ true
found_is p [] x h = absurd (cc)
found_is p (y ∷ ys) x h = grind (arith, found_is p ys x)

pub found_same : (n d : ℕ) (vs : List Device) → find (λ v. 256 * n + v.device == 256 * n + d) vs ≡ find (λ v. v.device == d) vs
found_same n d [] = refl
found_same n d (v ∷ vs) = let same : (256 * n + v.device == 256 * n + d) ≡ (v.device == d) = grind arith in
    rw (same, found_same n d vs) refl

-- a change of devices that keeps their addresses
abbrev pub Keeps : (Device → Device) → Type 0
Keeps g = (v : Device) → (g v).device ≡ v.device

-- what is found of a list that was changed element by element
pub find_map : {X Y : Type 0} (p : Y → Bool) (q : X → Bool) (g : X → Y) → ((x : X) → p (g x) ≡ q x) → (xs : List X)
    → find p (map g xs) ≡ option_map g (find q xs)
find_map p q g k [] = refl
find_map p q g k (x ∷ xs) = let here = k x in let rest = find_map p q g k xs in grind arith

pub found_map : (p : ℕ → Bool) (g : Device → Device) → Keeps g → (vs : List Device) → find (λ w. p w.device) (map g vs)
    ≡ option_map g (find (λ w. p w.device) vs)
found_map p g k vs = find_map (λ w. p w.device) (λ w. p w.device) g (λ v. ap p (k v)) vs

pub distinct_map : (g : Device → Device) → Keeps g → (vs : List Device) → AreDistinct vs → AreDistinct (map g vs)
distinct_map g k [] h = tt
distinct_map g k (v ∷ vs) h = (
  ap (λ d. find (λ w. w.device == d) (map g vs)) (k v) ∙ found_map (λ d. d == v.device) g k vs ∙ ap (option_map g) h.0,
  distinct_map g k vs h.1,
)

-- the arm of a device is this one
abbrev pub HasArm : Arm → Option Device → Type 0
HasArm arm y = option_map (λ v. v.arm) y ≡ Some arm

abbrev pub set_arm : Arm → Device → Device
set_arm arm v = record v { arm = arm }

abbrev pub set_both : Arm → IdleDrive → Device → Device
set_both arm d v = record v { arm = arm; drive = d }

abbrev pub set_drive : IdleDrive → Device → Device
set_drive d v = record v { drive = d }

pub keeps_one : (d : ℕ) (f : Device → Device) → Keeps f → Keeps (λ v. cond (v.device == d) (f v) v)
keeps_one d f k v = cond_both (v.device == d) (f v) v (λ w. w.device ≡ v.device) (λ e. k v) (λ e. refl)

-- the device that is changed
pub changed_device : (d : ℕ) (f : Device → Device) → Keeps f → (vs : List Device) (v : Device) → find (λ w. w.device == d) vs ≡ Some v
    → find (λ w. w.device == d) (map (λ w. cond (w.device == d) (f w) w) vs) ≡ Some (f v)
changed_device d f k vs v at =
    found_map (λ n. n == d) _ (keeps_one d f k) vs ∙ ap (option_map (λ w. cond (w.device == d) (f w) w)) at
    ∙ ap (λ b. Some (cond b (f v) v)) (found_is (λ w. w.device == d) vs v at)

-- the device at an address, by the low byte of it
pub at_device : (m : Machine) (d u : ℕ) (y : Option Device) → address_of m d ≡ u → device_at m d ≡ y → device_for m u ≡ y
at_device m d u y e h = ap (device_for m) (sym e) ∙ found_same m.channel d m.devices ∙ h

pub device_of : (m : Machine) (d : ℕ) → device_at m d ≡ device_for m (address_of m d)
device_of m d = sym (found_same m.channel d m.devices)

abbrev pub idle : Machine → Machine
idle m = record m { subchannel = Idle }

abbrev pub pending : Machine → ℕ → Csw → Machine
pending m p csw = record m { subchannel = Pending p csw }

abbrev pub working : Machine → ℕ → Script → Machine
working m d s = record m { subchannel = Working d s }

-- the device that works, and its run so far
pub working_device : (m : Machine) (d : ℕ) (s : Script) (y : Option Device) → device_at m d ≡ y
    → IsRunning (option_map (λ v. run s (start_of m v.drive)) y) → (v : Device) × (device_at m d ≡ Some v)
    × IsRunning (Some (run s (start_of m v.drive)))
working_device m d s None at r = absurd r
working_device m d s (Some v) at r = (v, at, r)

pub run_at : (m : Machine) (d : ℕ) (v : Device) (s : Script) → device_at m d ≡ Some v → run_of m d s ≡ Some (run s (start_of m v.drive))
run_at m d v s at = ap (option_map (λ v. run s (start_of m v.drive))) at

-- what holds of its run holds of the run of the device
pub by_device : (m : Machine) (d : ℕ) (s : Script) (v : Device) (P : Option Outcome → Type 0) → device_at m d ≡ Some v
    → P (Some (run s (start_of m v.drive))) → P (run_of m d s)
by_device m d s v P at p = subst (λ y. P (option_map (λ v. run s (start_of m v.drive)) y)) (sym at) p

-- an address of this channel, by its low byte
pub whole : (n a : ℕ) → (a / 256 == n) ≡ true → 256 * n + a % 256 ≡ a
whole n a h = let e : a / 256 ≡ n = eqb-true _ _ h in omega arith
