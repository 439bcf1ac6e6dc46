-- Condition code 3 is answered only where no drive is attached under the address, or the channel has another number.
use Rattle.std.proofs.Common.{◌≡◌, ℕ, refl, sym, ap, ◌∙◌, true, false, Bool, cond, ◌==◌, ◌/◌, ◌%◌, Option, Some, None}
use Rattle.std.proofs.lemmas.Bool.{eq-eqb}
use Rattle.std.specs.Prelude.{find, is_some, option_map}
use Rattle.ckd_command.specs.Drive.{Fault}
use Rattle.s360_laws.specs.Starts.{First, BadStart, RejectedStart, ImmediateStart, AcceptedStart, first}
use Rattle.s360_laws.proofs.FindDevices.{found_map}
use Rattle.s360_laws.specs.Events.{Answer, FaultAfter, Sio, Tio, Hio, WithCode}
use Rattle.s360_laws.specs.Machine.{Machine, Device, Subchannel, Idle, Working, Pending, device_at, halt_io, on_channel, react}
use Rattle.s360_laws.specs.Machine.{start_device, start_io, start_of, started, test_device, test_io, fault_in}
use Rattle.s360_laws.specs.declared.arm.Arm.{Arm}
use Rattle.s360_laws.specs.declared.arm.Arm.TheVariants.{InMotion, Arrived, AtRest}
use Rattle.s360_laws.specs.declared.condition.ConditionCode.TheVariants.{Three}
use Rattle.s360_channel.proofs.Changing.{seen_by}
use Rattle.attached_drives.proofs.Places.{both_found, devices}
use Rattle.s360_channel.specs.Attaches.{is_taken}
use Rattle.s360_channel.specs.Channel.{ChannelState, StandsFor}

-- At a machine.

abbrev Missing : (device : ℕ) → Machine → Type 0
Missing device m = is_some (device_at m device) ≡ false

started_code : (device : ℕ) (m : Machine) (f : First) → (started device m f).0 ≡ WithCode Three → ⊥
started_code device m BadStart h = cc
started_code device m (RejectedStart drive) h = cc
started_code device m (ImmediateStart e) h = cc
started_code device m AcceptedStart h = cc

start_missing : (device : ℕ) (m : Machine) (x : Option Device) → (start_device device m x).0 ≡ WithCode Three → is_some x ≡ false
start_missing device m None h = refl
start_missing device m (Some d) h = absurd (go d.arm h)
  where
    go : (arm : Arm) → (start_device device m (Some (record d { arm = arm }))).0 ≡ WithCode Three → ⊥
    go InMotion h = cc
    go Arrived h = cc
    go AtRest h = started_code device m (first (start_of m d.drive)) h

start_io_missing : (device : ℕ) (m : Machine) (s : Subchannel) → (start_io device m s).0 ≡ WithCode Three → Missing device m
start_io_missing device m Idle h = start_missing device m (device_at m device) h
start_io_missing device m (Working p script) h = absurd (cc)
start_io_missing device m (Pending p csw) h = absurd (cc)

test_missing : (device : ℕ) (m : Machine) (x : Option Device) → (test_device device m x).0 ≡ WithCode Three → is_some x ≡ false
test_missing device m None h = refl
test_missing device m (Some d) h = absurd (go d.arm h)
  where
    go : (arm : Arm) → (test_device device m (Some (record d { arm = arm }))).0 ≡ WithCode Three → ⊥
    go InMotion h = cc
    go Arrived h = cc
    go AtRest h = cc

either_code : (b : Bool) (x y : Answer × Machine) → (x.0 ≡ WithCode Three → ⊥) → (y.0 ≡ WithCode Three → ⊥)
    → (cond b x y).0 ≡ WithCode Three → ⊥
either_code true x y f g h = f h
either_code false x y f g h = g h

test_io_missing : (device : ℕ) (m : Machine) (s : Subchannel) → (test_io device m s).0 ≡ WithCode Three → Missing device m
test_io_missing device m Idle h = test_missing device m (device_at m device) h
test_io_missing device m (Working p script) h = absurd (cc)
test_io_missing device m (Pending p csw) h = absurd (either_code (device == p) _ _ (λ e. cc) (λ e. cc) h)

otherwise : (b : Bool) (x y : Answer × Machine) → (x.0 ≡ WithCode Three → ⊥) → (cond b x y).0 ≡ WithCode Three → b ≡ false
otherwise true x y f h = absurd (f h)
otherwise false x y f h = refl

halt_io_missing : (fault : Option Fault) (device : ℕ) (m : Machine) (s : Subchannel) → (halt_io fault device m s).0 ≡ WithCode Three
    → Missing device m
halt_io_missing fault device m Idle h = otherwise (is_some (device_at m device)) _ _ (λ e. cc) h
halt_io_missing fault device m (Working p script) h = absurd (cc)
halt_io_missing fault device m (Pending p csw) h = absurd (cc)

-- At a channel.

some_map : (g : Device → Device) (x : Option Device) → is_some (option_map g x) ≡ is_some x
some_map g None = refl
some_map g (Some d) = refl

module _ (a : ℕ) (c : ChannelState) (m : Machine) (t : StandsFor c m) (own : c.number ≡ a / 256) (x : Option FaultAfter) (answer : Answer)
    (three : answer ≡ WithCode Three) where
  no_drive : Missing (a % 256) m → is_taken (a % 256) c ≡ false
  no_drive h =
      let k = seen_by c m c.subchannel t.shows in
      both_found (a % 256) c.drives
      ∙ (sym (some_map k.through (find (λ d. d.device == a % 256) (devices c.drives)))
      ∙ (ap is_some (sym (found_map (λ n. n == a % 256) k.through k.keeps (devices c.drives)))
      ∙ (ap (λ ds. is_some (find (λ d. d.device == a % 256) ds)) (sym k.devices) ∙ h)))

  here : (r : Answer × Machine) → on_channel a m r ≡ r
  here r = ap (λ b. cond b r (WithCode Three, m)) (eq-eqb (a / 256) m.channel (sym own ∙ sym (seen_by c m c.subchannel t.shows).channel))

  answered : (r : Answer × Machine) → answer ≡ (on_channel a m r).0 → r.0 ≡ WithCode Three
  answered r h = sym (ap (λ (r : Answer × Machine). r.0) (here r)) ∙ (sym h ∙ three)

  pub start_asks : answer ≡ (react (Sio a) x m).0 → is_taken (a % 256) c ≡ false
  start_asks h = no_drive (start_io_missing (a % 256) m m.subchannel (answered (start_io (a % 256) m m.subchannel) h))

  pub test_asks : answer ≡ (react (Tio a) x m).0 → is_taken (a % 256) c ≡ false
  test_asks h = no_drive (test_io_missing (a % 256) m m.subchannel (answered (test_io (a % 256) m m.subchannel) h))

  pub halt_asks : answer ≡ (react (Hio a) x m).0 → is_taken (a % 256) c ≡ false
  halt_asks h = no_drive (halt_io_missing (fault_in x) (a % 256) m m.subchannel
      (answered (halt_io (fault_in x) (a % 256) m m.subchannel) h))
