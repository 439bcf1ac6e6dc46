-- A journal that is dropped for good is gone.
use Rattle.std.proofs.Common.{◌≡◌, ◌∙◌, List, ◌∷◌, true, None, Result, Ok, Err, refl, ap, subst}
use Rattle.std.specs.Prelude.{⊤, OnOk, is_ok}
use Rattle.atomic_save.specs.Changes.{State}
use Rattle.atomic_save.specs.Calls.{Event, Retired, NamesSynced, shown, MayLeave}
use Rattle.atomic_save.specs.Saves.{NoJournal}

gone : (old new : List Event) → new ≡ NamesSynced true ∷ Retired ∷ old → NoJournal new
gone old new is = record {
  now = ap shown is;
  later = λ disk c left. (subst (λ es. MayLeave disk es c) is left).1 refl None refl;
}

-- it is where the host has unlinked it, and then synced its folder
pub gone_by : {E : Type 0} (result : Result ⊤ E) (old between new : List Event) → between ≡ Retired ∷ old
    → new ≡ NamesSynced (is_ok result) ∷ between → OnOk result (NoJournal new)
gone_by (Ok done) old between new unlinked synced = gone old new (synced ∙ ap (λ es. NamesSynced true ∷ es) unlinked)
gone_by (Err fault) old between new unlinked synced = tt
