-- Moments one after the other.
use Rattle.std.proofs.Common.{◌≡◌, inl, inr, ⊎_elim, List, [], ◌∷◌, refl, sym, subst}
use Rattle.atomic_save.specs.Calls.{Event}
use Rattle.atomic_save.specs.Saves.{EachMoment}

pub same_moment : (holds : List Event → Type 0) (es : List Event) → holds es → EachMoment holds es es
same_moment holds [] h = (refl, h)
same_moment holds (e ∷ es) h = (h, inl refl)

-- what holds at each moment and after one call more
pub next_moment : (holds : List Event → Type 0) (before es new : List Event) (e : Event) → new ≡ e ∷ es → EachMoment holds before es
    → holds (e ∷ es) → EachMoment holds before new
next_moment holds before es new e is all now = subst (EachMoment holds before) (sym is) (now, inr all)

pub at_each : (holds other : List Event → Type 0) (before es : List Event) → ((m : List Event) → holds m → other m)
    → EachMoment holds before es → EachMoment other before es
at_each holds other before [] so all = (all.0, so [] all.1)
at_each holds other before (e ∷ es) so all =
    (so (e ∷ es) all.0, ⊎_elim (λ is. inl is) (λ was. inr (at_each holds other before es so was)) all.1)
