-- A walk over the entries of a directory.
use Rattle.std.proofs.Common.{ℕ, suc, ◌+◌, ◌-◌, ◌<◌, ◌≤◌, ◌≡◌, ◌∙◌, List, [], ◌∷◌, ◌++◌, length, Option, Some, None, ap, sym, refl}
use Rattle.std.proofs.Common.{append-nil, append_assoc, arith}
use Rattle.volume_labels.specs.declared.directories.DirectoryEntry.{DirectoryEntry}
use Rattle.volume_labels.specs.declared.directories.DirectoryFault.{DirectoryFault}
use Rattle.volume_labels.specs.declared.directories.DirectoryStep.{DirectoryStep}
use Rattle.volume_labels.specs.declared.directories.DirectoryStep.TheVariants.{Entry, Skip, End, Fault}
use Rattle.volume_labels.specs.Directories.{Found, ended, and_more, from_step, entries_from, entries_of, step_at}

module _ (bytes : List ℕ) where
  more_steps : (most at : ℕ) → entries_from (suc most) bytes at ≡ from_step (step_at bytes at) (entries_from most bytes)
  unfolding entries_from
  more_steps most at = refl

  no_steps : (at : ℕ) → entries_from 0 bytes at ≡ ended None
  unfolding entries_from
  no_steps at = refl

  module _ (k at : ℕ) where
    pub one_step : k < length bytes → entries_from (length bytes - k) bytes at ≡ from_step (step_at bytes at)
        (entries_from (length bytes - (k + 1)) bytes)
    one_step inside =
        let e : length bytes - k ≡ suc (length bytes - (k + 1)) = omega (arith, inside) in
        ap (λ m. entries_from m bytes at) e ∙ more_steps (length bytes - (k + 1)) at

    pub last_step : length bytes ≤ k → entries_from (length bytes - k) bytes at ≡ ended None
    last_step passed =
        let e : length bytes - k ≡ 0 = omega (arith, passed) in
        ap (λ m. entries_from m bytes at) e ∙ no_steps at

    module _ (s : DirectoryStep) (are : step_at bytes at ≡ s) (inside : k < length bytes) where
      pub this_step : entries_from (length bytes - k) bytes at ≡ from_step s (entries_from (length bytes - (k + 1)) bytes)
      this_step = one_step inside ∙ ap (λ s. from_step s (entries_from (length bytes - (k + 1)) bytes)) are

module _ (all f : Found) (items : List DirectoryEntry) (entries : all.entries ≡ items ++ f.entries) (faults : all.fault ≡ f.fault) where
  pub no_more : (fault : Option DirectoryFault) → f ≡ ended fault → items ≡ all.entries
  no_more fault is = sym (entries ∙ ap (λ (x : Found). items ++ x.entries) is ∙ append-nil items)

  pub that_fault : (fault : Option DirectoryFault) → f ≡ ended fault → fault ≡ all.fault
  that_fault fault is = sym (faults ∙ ap (λ (x : Found). x.fault) is)

  pub entries_more : (e : DirectoryEntry) (rest : Found) → f ≡ and_more e rest → all.entries ≡ (items ++ e ∷ []) ++ rest.entries
  entries_more e rest is = entries ∙ ap (λ (x : Found). items ++ x.entries) is ∙ sym (append_assoc items (e ∷ []) rest.entries)

  pub fault_more : (e : DirectoryEntry) (rest : Found) → f ≡ and_more e rest → all.fault ≡ rest.fault
  fault_more e rest is = faults ∙ ap (λ (x : Found). x.fault) is
