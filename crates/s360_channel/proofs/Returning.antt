-- What was saved of a machine comes back.
use Rattle.std.proofs.Common.{◌≡◌, ℕ, ◌-◌, ◌∙◌, ap, refl, sym, ◌==◌, Bool, true, false, cond}
use Rattle.std.proofs.Common.{List, [], ◌∷◌, ◌++◌, map, length, Option, Some, None}
use Rattle.std.proofs.lemmas.Bool.{eq-eqb}
use Rattle.std.specs.Prelude.{find, option_map, replicate}
use Rattle.s360_words.specs.Storage.{Storage}
use Rattle.s360_words.specs.declared.words.Csw.{Csw}
use Rattle.s360_laws.specs.Machine as machine
use Rattle.s360_laws.specs.Machine.{Device, Machine}
use Rattle.s360_laws.specs.Soundness.{AreDistinct}
use Rattle.s360_laws.proofs.FindDevices.{different}
use Rattle.s360_channel.specs.Channel.{Shows, StandsFor}
use Rattle.s360_channel.specs.Returns.{AreMountedAs, IsMountedAs, machine_saved, pending_in}
use Rattle.s360_channel.specs.Saves.{device_back, machine_back, machine_subchannel, saved_of}
use Rattle.attached_drives.specs.Saved.{drives_saved, entry, saved_drive}
use Rattle.s360_channel.specs.Selector.{SelectorState, over}
use Rattle.attached_drives.specs.declared.drives_saved.SavedDrive.{SavedDrive}
use Rattle.s360_channel.specs.declared.saving.SavedChannel.{SavedChannel}
use Rattle.s360_channel.specs.declared.subchannel.Subchannel.{Subchannel}
use Rattle.s360_channel.specs.declared.subchannel.Subchannel.TheVariants.{Idle, Working, Pending}
use Rattle.attached_drives.proofs.Places.{false_is_true, inside, none_is_some}
use Rattle.s360_channel.proofs.Works.{subchannel_of}

abbrev with_drives : Machine → Option (ℕ × Csw) → SavedChannel
with_drives m pending = record { pending = pending; drives = drives_saved m.devices }

-- What is saved of a channel is what is saved of each machine that it stands for.
pub saved_there : (c : SelectorState) (s : Storage) (m : Machine) → StandsFor (over c s) m → saved_of c ≡ machine_saved m
saved_there c s m st = go c.subchannel st.shows
  where
    go : (x : Subchannel) → Shows (over c s) m x → saved_of (record c { subchannel = x }) ≡ machine_saved m
    go Idle h = ap machine_saved (sym h.0)
    go (Pending device csw) h = ap machine_saved (sym h.0)
    go (Working place r) w = sym (ap (λ x. option_map (with_drives m) (pending_in x)) (subchannel_of (over c s) place r m w))

-- Each device finds its entry.

abbrev one : Device → Option (ℕ × SavedDrive)
one d = Some (d.device, saved_drive d)

abbrev Finds : List (Option (ℕ × SavedDrive)) → List Device → Type 0
Finds entries [] = Unit {0}
Finds entries (d ∷ ds) = (entry d.device entries ≡ Some (saved_drive d)) × Finds entries ds

-- also behind one of another address
behind : (d : Device) (entries : List (Option (ℕ × SavedDrive))) (ds : List Device) → find (λ o. o.device == d.device) ds ≡ None
    → Finds entries ds → Finds (one d ∷ entries) ds
behind d entries [] none h = tt
behind d entries (w ∷ ds) none h =
    let k = go (w.device == d.device) refl none in
    (rw (different d.device w.device (λ e. k.0 (sym e))) h.0, behind d entries ds k.1 h.1)
  where
    go : (b : Bool) → (w.device == d.device) ≡ b → cond b (Some w) (find (λ o. o.device == d.device) ds) ≡ None
        → (w.device ≡ d.device → ⊥) × (find (λ o. o.device == d.device) ds ≡ None)
    go true e n = none_is_some (sym n)
    go false e n = ((λ same. false_is_true (sym e ∙ eq-eqb w.device d.device same)), n)

finds_all : (ds : List Device) (rest : List (Option (ℕ × SavedDrive))) → AreDistinct ds → Finds (map one ds ++ rest) ds
finds_all [] rest a = tt
finds_all (d ∷ ds) rest a =
    (rw (eq-eqb d.device d.device refl) refl, behind d (map one ds ++ rest) ds a.0 (finds_all ds rest a.1))

-- so each device that is mounted as it was becomes it
devices_return : (entries : List (Option (ℕ × SavedDrive))) (ds es : List Device) → Finds entries ds → AreMountedAs ds es
    → map (λ e. device_back (entry e.device entries) e) es ≡ ds
devices_return entries [] [] f m = refl
devices_return entries [] (e ∷ es) f m = absurd m
devices_return entries (d ∷ ds) [] f m = absurd m
devices_return entries (d ∷ ds) (e ∷ es) f m =
    ap (λ x. x ∷ map (λ e. device_back (entry e.device entries) e) es) (ap (λ n. device_back (entry n entries) e) m.0
    ∙ (ap (λ o. device_back o e) f.0 ∙ same m.0 m.1))
    ∙ ap (λ r. d ∷ r) (devices_return entries ds es f.1 m.2)
  where
    same : e.device ≡ d.device → e.drive.volume ≡ d.drive.volume → device_back (Some (saved_drive d)) e ≡ d
    same p q = λ i. record d { device = p i; drive = record d.drive { volume = q i } }

pub comes_back : (m other : Machine) (saved : SavedChannel) → machine_saved m ≡ Some saved → AreDistinct m.devices → IsMountedAs m other
    → machine_back saved other ≡ m
comes_back m other saved e a k = go m.subchannel refl e
  where
    entries : List (Option (ℕ × SavedDrive))
    entries = drives_saved m.devices

    devices : map (λ e. device_back (entry e.device entries) e) other.devices ≡ m.devices
    devices = devices_return entries m.devices other.devices (finds_all m.devices (replicate (8 - length m.devices) None) a) k.devices

    -- by what pends
    by : (p : Option (ℕ × Csw)) → machine_subchannel p ≡ m.subchannel
        → Some (record { pending = p; drives = entries }) ≡ Some saved → machine_back saved other ≡ m
    by p same is = rw (← inside _ _ is)
        (λ i. record { channel = k.channel i; storage = k.storage i; subchannel = same i; devices = devices i })

    go : (x : machine.Subchannel) → m.subchannel ≡ x
        → option_map (with_drives m) (pending_in x) ≡ Some saved → machine_back saved other ≡ m
    go machine.Idle s e = by None (sym s) e
    go (machine.Pending device csw) s e = by (Some (device, csw)) (sym s) e
    go (machine.Working device script) s e = none_is_some e
