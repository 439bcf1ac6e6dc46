-- A part of storage has the length that it is asked for.
use Rattle.std.proofs.Common.{◌≡◌, ◌≤◌, ◌+◌, ◌-◌, ℕ, List, drop, Bool, true, false, Option, Some, None, length, slice_range, if◌then◌else◌}
use Rattle.std.proofs.Common.{sym, ap, subst, arith}
use Rattle.std.proofs.lemmas.List.{length-take}
use Rattle.s360_words.specs.Storage.{Storage, is_inside}
use Rattle.s360_laws.specs.Machine.{part_of}

abbrev some_length : Option (List ℕ) → ℕ
some_length None = 0
some_length (Some xs) = length xs

if_length : (b : Bool) (xs : List ℕ) (len : ℕ) → length xs ≤ len → some_length (if b then Some xs else None) ≤ len
if_length true xs len h = h
if_length false xs len h = omega arith

pub part_length : (s : Storage) (at len : ℕ) (bytes : List ℕ) → Some bytes ≡ part_of s at len → length bytes ≤ len
part_length s at len bytes h =
    subst (λ n. n ≤ len) (sym (ap some_length h)) (if_length (is_inside s at len) (slice_range s.bytes at (at + len)) len
    (omega (arith, length-take (at + len - at) (drop at s.bytes))))
