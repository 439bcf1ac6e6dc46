-- What is put into storage leaves its size and its keys.
use Rattle.std.proofs.Common.{◌≡◌, ℕ, List, Bool, true, false, refl, sym, subst, if◌then◌else◌}
use Rattle.s360_words.specs.Storage.{Storage, stored}
use Rattle.s360_words.proofs.Overwriting.{length-overwritten}
use Rattle.s360_storage.specs.Kept.{KeepsStorage}

pub keeps_put : (s s2 : Storage) (a : ℕ) (new : List ℕ) → s2 ≡ stored s a new → KeepsStorage s s2
keeps_put s s2 a new e = subst (KeepsStorage s) (sym e) (record { size = length-overwritten s.bytes a new; keys = refl })

-- and so does what is put there only where it fits
pub keeps_put_if : (fits : Bool) (s s2 : Storage) (a : ℕ) (new : List ℕ) → s2 ≡ (if fits then stored s a new else s)
    → KeepsStorage s s2
keeps_put_if true s s2 a new e = keeps_put s s2 a new e
keeps_put_if false s s2 a new e = subst (KeepsStorage s) (sym e) (record { size = refl; keys = refl })
