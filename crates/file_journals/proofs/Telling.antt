-- What is told of a save is what `atomic_save` says of it.
use Rattle.std.proofs.Common.{◌≡◌, refl, sym, subst, ℕ, List, Result, Ok, Err, IfErr}
use Rattle.std.specs.Prelude.{⊤}
use Rattle.atomic_save.specs.declared.changes.Change.{Change}
use Rattle.atomic_save.specs.declared.changes.Journal.{Journal}
use Rattle.atomic_save.specs.declared.faults.SaveFault as atomic
use Rattle.atomic_save.specs.declared.faults.SaveFault.TheVariants as ended
use Rattle.atomic_save.specs.Calls.{Event}
use Rattle.atomic_save.specs.Saves.{Untouched, FinishTells}
use Rattle.atomic_save.specs.Saves as saves
use Rattle.file_journals.specs.declared.saves.SaveFault.{SaveFault}
use Rattle.file_journals.specs.declared.saves.SaveFault.TheVariants.{Kept, Begun, Saved}
use Rattle.file_journals.specs.Told.{TellsOf, Tells, IsKept, IsBegun, IsSaved, IsToldAs}

untouched : (old new : List Event) → new ≡ old → Untouched old new
untouched old new is = subst (Untouched old) (sym is) (record { shown = refl; left = λ disk c there. there })

tells_kept : (cs : List Change) (old new : List Event) (told : SaveFault) → IsKept told → Untouched old new → Tells cs old new told
tells_kept cs old new (Kept fault) is left = left
tells_kept cs old new (Begun fault) is left = absurd is
tells_kept cs old new (Saved fault) is left = absurd is

tells_one : (cs : List Change) (old new : List Event) (e : atomic.SaveFault) (told : SaveFault)
    → IsToldAs e told → saves.Tells cs old new e → Tells cs old new told
tells_one cs old new (ended.Other i) told is left = absurd left
tells_one cs old new (ended.Outside i) told is outside = tells_kept cs old new told is (untouched old new outside.0)
tells_one cs old new (ended.Kept fault) told is left = tells_kept cs old new told is left
tells_one cs old new (ended.Begun fault) (Kept it) is left = absurd is
tells_one cs old new (ended.Begun fault) (Begun it) is left = left
tells_one cs old new (ended.Begun fault) (Saved it) is left = absurd is
tells_one cs old new (ended.Saved fault) (Kept it) is left = absurd is
tells_one cs old new (ended.Saved fault) (Begun it) is left = absurd is
tells_one cs old new (ended.Saved fault) (Saved it) is left = left

pub tells : (cs : List Change) (old new : List Event) (saved : Result ⊤ atomic.SaveFault) (result : Result ⊤ (ℕ × SaveFault))
    → TellsOf saved result → IfErr saved (saves.Tells cs old new) → IfErr result (λ it. Tells cs old new it.1)
tells cs old new (Ok done) (Ok said) is told = tt
tells cs old new (Ok done) (Err it) is told = absurd is
tells cs old new (Err e) (Ok said) is told = tt
tells cs old new (Err e) (Err it) is told = tells_one cs old new e it.1 is told

finish_one : (j : Journal) (old new : List Event) (e : atomic.SaveFault) (told : SaveFault)
    → IsToldAs e told → FinishTells j old new e → Tells j.changes.items old new told
finish_one j old new (ended.Other i) told is unlike = tells_kept j.changes.items old new told is (untouched old new unlike.0)
finish_one j old new (ended.Outside i) told is left = tells_one j.changes.items old new (ended.Outside i) told is left
finish_one j old new (ended.Kept fault) told is left = tells_one j.changes.items old new (ended.Kept fault) told is left
finish_one j old new (ended.Begun fault) told is left = tells_one j.changes.items old new (ended.Begun fault) told is left
finish_one j old new (ended.Saved fault) told is left = tells_one j.changes.items old new (ended.Saved fault) told is left

-- the same of a journal that is finished
pub finish_tells : (j : Journal) (old new : List Event) (saved : Result ⊤ atomic.SaveFault) (result : Result ⊤ (ℕ × SaveFault))
    → TellsOf saved result → IfErr saved (FinishTells j old new) → IfErr result (λ it. Tells j.changes.items old new it.1)
finish_tells j old new (Ok done) (Ok said) is told = tt
finish_tells j old new (Ok done) (Err it) is told = absurd is
finish_tells j old new (Err e) (Ok said) is told = tt
finish_tells j old new (Err e) (Err it) is told = finish_one j old new e it.1 is told
