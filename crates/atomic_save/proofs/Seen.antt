-- What is seen now is one of the outcomes of a crash.
use Rattle.std.proofs.Common.{◌≡◌, inr, ⊎_elim, ℕ, List, [], ◌∷◌, Option, refl, sym, ◌∙◌, ap}
use Rattle.std.proofs.lemmas.Bool.{cases_Bool}
use Rattle.atomic_save.specs.Changes.{Note, State, covers, byte_of}
use Rattle.atomic_save.specs.Calls.{Event, Opened, Drafted, Committed, Retired, NamesSynced, Wrote, Synced, LedTo, Due, MayLeave, seen}
use Rattle.atomic_save.proofs.Bytes.{covered, uncovered}

due_seen : (disk : State) (es : List Event) (f k b : ℕ) → Due es f k b → (seen disk es).held f k ≡ b
due_seen disk [] f k b due = absurd due
due_seen disk (Opened files journal ∷ es) f k b due = absurd due
due_seen disk (Drafted ns ∷ es) f k b due = due_seen disk es f k b due
due_seen disk (Committed ∷ es) f k b due = due_seen disk es f k b due
due_seen disk (Retired ∷ es) f k b due = due_seen disk es f k b due
due_seen disk (NamesSynced done ∷ es) f k b due = due_seen disk es f k b due
due_seen disk (Wrote n done ∷ es) f k b due =
    let a = due.1 in
    ⊎_elim (λ is. covered n f k ((seen disk es).held f k) a.0 is) (λ isnt. ap (byte_of n f k) (due_seen disk es f k a.0 (a.1 isnt)))
    (cases_Bool (covers n f k)) ∙ sym a.2
due_seen disk (Synced file done ∷ es) f k b due = due_seen disk es f k b due.1

led_seen : (disk : State) (es : List Event) (j : Option (List Note)) → LedTo es j → (seen disk es).journal ≡ j
led_seen disk [] j led = absurd led
led_seen disk (Opened files journal ∷ es) j led = absurd led
led_seen disk (Drafted ns ∷ es) j led = led_seen disk es j led
led_seen disk (Committed ∷ es) j led = sym led
led_seen disk (Retired ∷ es) j led = sym led
led_seen disk (NamesSynced done ∷ es) j led = led_seen disk es j led.1
led_seen disk (Wrote n done ∷ es) j led = led_seen disk es j led
led_seen disk (Synced file done ∷ es) j led = led_seen disk es j led

pub left_seen : (disk : State) (es : List Event) → MayLeave disk es (seen disk es)
left_seen disk [] = refl
left_seen disk (Opened files journal ∷ es) = left_seen disk es
left_seen disk (Drafted ns ∷ es) = left_seen disk es
left_seen disk (Committed ∷ es) = (seen disk es, left_seen disk es, record { held = refl; name = inr refl })
left_seen disk (Retired ∷ es) = (seen disk es, left_seen disk es, record { held = refl; name = inr refl })
left_seen disk (NamesSynced done ∷ es) = (left_seen disk es, λ is j led. led_seen disk es j led)
left_seen disk (Wrote n done ∷ es) =
    (seen disk es, left_seen disk es, record { journal = refl; elsewhere = λ f k off. uncovered n f k ((seen disk es).held f k) off })
left_seen disk (Synced file done ∷ es) = (left_seen disk es, λ is k b due. due_seen disk es file k b due)
