-- Names with plus signs between them, taken off one after another.
use Rattle.std.proofs.Common.{◌≡◌, ◌+◌, ◌-◌, ◌<◌, ℕ, List, [], ◌∷◌, Bool, true, false, Option, Some, None, take, drop, length, bit_or}
use Rattle.std.proofs.Common.{refl, ap, ◌∙◌, sym, arith}
use Rattle.std.specs.List.{position_or_len, position, slice_split}
use Rattle.std.proofs.lemmas.List.{take_rest}
use Rattle.std.proofs.lemmas.List.Splits.{slice_split_first, slice_split_none}
use Rattle.s360_assembler.specs.Numbers.{is_plus, flag_of, flags_behind}
use Rattle.s360_assembler.proofs.Positions.{at_some, inside_some, at_none}

-- the name before the first plus sign, and the others
split_first : (text : List ℕ) (at : ℕ) → Some at ≡ position is_plus text
    → slice_split is_plus text ≡ take at text ∷ slice_split is_plus (drop (at + 1) text)
split_first text at is =
    rw (at_some is_plus text at is) (slice_split_first is_plus text 0 (rw (← at_some is_plus text at is) (inside_some is_plus text at is)))

-- one flag more
pub next_flag : (flags flag at : ℕ) (rest : List ℕ) (all : Option ℕ) → Some at ≡ position is_plus rest → Some flag ≡ flag_of (take at rest)
    → flags_behind flags (slice_split is_plus rest) ≡ all
    → flags_behind (bit_or flags flag) (slice_split is_plus (take (length rest - (at + 1)) (drop (at + 1) rest))) ≡ all
next_flag flags flag at rest all place is_flag is =
    rw (take_rest rest (at + 1)) (rw (split_first rest at place, ← is_flag) at is)

-- a name that is none
pub no_flag : (flags at : ℕ) (rest : List ℕ) (all : Option ℕ) → Some at ≡ position is_plus rest → None ≡ flag_of (take at rest)
    → flags_behind flags (slice_split is_plus rest) ≡ all → None ≡ all
no_flag flags at rest all place is_none is = rw (split_first rest at place, ← is_none) at is

-- the last name
unsplit : (text : List ℕ) → length text ≡ position_or_len is_plus text → slice_split is_plus text ≡ text ∷ []
unsplit [] whole = refl
unsplit (byte ∷ text) whole = go (is_plus byte) refl (unsplit text)
  where
    go : (b : Bool) → is_plus byte ≡ b → (length text ≡ position_or_len is_plus text → slice_split is_plus text ≡ text ∷ [])
        → slice_split is_plus (byte ∷ text) ≡ (byte ∷ text) ∷ []
    go true is others = absurd (omega (arith, rw is at whole))
    go false is others = rw (is, others (omega (arith, rw is at whole))) refl

pub no_last_flag : (flags : ℕ) (rest : List ℕ) (all : Option ℕ) → None ≡ position is_plus rest → None ≡ flag_of rest
    → flags_behind flags (slice_split is_plus rest) ≡ all → None ≡ all
no_last_flag flags rest all place is_none is = rw (unsplit rest (at_none is_plus rest place), ← is_none) at is
