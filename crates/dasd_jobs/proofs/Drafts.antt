-- What is written into a new file.
use Rattle.std.proofs.Common.{◌≡◌, ◌∙◌, ◌+◌, ℕ, List, [], ◌++◌, length, sym, ap, append-nil, arith}
use Rattle.std.proofs.Math.Seq.{drop-nil}
use Rattle.std.proofs.lemmas.List.{take_all, drop_all}
use Rattle.ckd_image.specs.Store.{overwritten}

-- what is written into a file without bytes is all that it holds
pub first_written : (old bytes : List ℕ) → old ≡ [] → overwritten old 0 bytes ≡ bytes
first_written old bytes none = rw none (ap (λ (more : List ℕ). bytes ++ more) (drop-nil {A = ℕ} (0 + length bytes)) ∙ append-nil bytes)

-- what is written at the end of a file stands behind what it held
pub written_behind : (old bytes : List ℕ) (at : ℕ) → at ≡ length old → old ++ bytes ≡ overwritten old at bytes
written_behind old bytes at end =
    sym (cc (take_all at old (omega arith), drop_all (at + length bytes) old (omega arith), append-nil (old ++ bytes)))
