-- What a channel refuses, told as a refusal of the subsystem.
use Rattle.std.proofs.Common.{◌≡◌, ◌∙◌, refl, inl, inr, arith, ◌<◌, ℕ, length, sym, subst, List, true, Option, Some, None}
use Rattle.std.proofs.Common.{Result, Ok, Err, IfErr}
use Rattle.std.proofs.lemmas.Bool.{false≢true}
use Rattle.std.specs.Prelude.{OnOk, is_some, option_map}
use Rattle.s360_words.specs.Storage.{Storage}
use Rattle.s360_channel.specs.Selector.{SelectorState, over}
use Rattle.s360_channel.specs.Channel.{ChannelState}
use Rattle.s360_channel.specs.declared.faults.AttachFault.TheVariants as why
use Rattle.s360_channels.specs.Adding.{WhyNot}
use Rattle.s360_channels.specs.declared.faults.AttachFault.{AttachFault}
use Rattle.s360_channels.specs.declared.faults.AttachFault.TheVariants as fault
use Rattle.dasd_subsystem.specs.declared.refusal.Refusal.{Refusal}
use Rattle.dasd_subsystem.specs.declared.refusal.Refusal.TheVariants as refusal
use Rattle.dasd_subsystem.specs.Attaching.{AreImage, NotAttached, NotAttachedNew, NotMounted, NotTaken, RefusedBy, Refuses, refusal_of}

-- what follows from what a refusal says
pub err_then : {A E : Type 0} (r : Result A E) (P Q : E → Type 0) → ((e : E) → P e → Q e) → IfErr r P → IfErr r Q
err_then (Ok a) P Q f h = h
err_then (Err e) P Q f h = f e h

-- what is so of a result, of the same one
pub ok_at : {A E : Type 0} (P : Type 0) (r s : Result A E) → r ≡ s → OnOk s P → OnOk r P
ok_at {A} {E} P r s e h = subst (λ r. OnOk r P) (sym e) h

pub err_at : {A E : Type 0} (P : E → Type 0) (r s : Result A E) → r ≡ s → IfErr s P → IfErr r P
err_at {A} {E} P r s e h = subst (λ r. IfErr r P) (sym e) h

-- there is a channel with a number, over whatever storage
pub some_over : (s : Storage) (o : Option SelectorState) → is_some (option_map (λ c. over c s) o) ≡ is_some o
some_over s None = refl
some_over s (Some c) = refl

refused_by : (c : ChannelState) (device : ℕ) (x : AttachFault) → WhyNot (Some c) device x → RefusedBy c device (refusal_of x)
refused_by c device fault.NoChannel h = absurd h
refused_by c device (fault.Refused why.UnitTaken) h = h
refused_by c device (fault.Refused why.Full) h = h
refused_by c device (fault.Refused (why.OutOfMemory e)) h = h

by_channel : (c : ChannelState) (device : ℕ) (e : Refusal) → Refuses (Some c) device e → RefusedBy c device e
by_channel c device e r = subst (RefusedBy c device) (sym r.told) (refused_by c device r.fault r.is_why)

-- a drive with the image of files
pub not_taken : (o : Option ChannelState) (device : ℕ) (files : List (List ℕ)) (e : Refusal) → is_some o ≡ true → AreImage files
    → Refuses o device e → NotAttached o device files e
not_taken None device files e h image r = absurd (false≢true h)
not_taken (Some c) device files e h image r = inr (image, by_channel c device e r)

-- and one with a new volume
pub not_taken_new : (o : Option ChannelState) (device cylinders : ℕ) (e : Refusal) → is_some o ≡ true → 0 < cylinders → Refuses o device e
    → NotAttachedNew o device cylinders e
not_taken_new None device cylinders e h some r = absurd (false≢true h)
not_taken_new (Some c) device cylinders e h some r = inr (some, by_channel c device e r)

-- memory was not taken for files, and so they are not mounted
pub not_mounted : (files : List (List ℕ)) (n : ℕ) (e : Refusal) → n ≡ length files → NotTaken n e → NotMounted files e
not_mounted files n refusal.NoFiles count h = sym count ∙ h
not_mounted files n refusal.TooManyFiles count h = omega arith
not_mounted files n refusal.OutOfMemory count h = let some = h.0 in let few = h.1 in (omega arith, omega arith)
not_mounted files n refusal.BadChannels count h = absurd h
not_mounted files n refusal.BadSize count h = absurd h
not_mounted files n refusal.NoChannel count h = absurd h
not_mounted files n refusal.NoCylinders count h = absurd h
not_mounted files n (refusal.Mount broken) count h = absurd h
not_mounted files n refusal.AddressTaken count h = absurd h
not_mounted files n refusal.Full count h = absurd h

-- there is a channel, and no memory was taken for copies of the files
pub not_copied : (o : Option ChannelState) (device : ℕ) (files : List (List ℕ)) (n : ℕ) (e : Refusal) → is_some o ≡ true → n ≡ length files
    → NotTaken n e → NotAttached o device files e
not_copied None device files n e h count taken = absurd (false≢true h)
not_copied (Some c) device files n e h count taken = inl (not_mounted files n e count taken)
