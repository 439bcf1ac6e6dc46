-- The names that a data set may be given: simple names that are joined by periods (IBM System/360 Operating System, Job Control Language
-- Reference, GC28-6704, 'Data Set Names').
use Rattle.std.specs.Prelude.{◌≡◌, ℕ, ◌+◌, ◌==◌, Bool, true, false, ◌&&◌, ◌||◌, nat_lt, nat_le, if◌then◌else◌, List, [], ◌∷◌, Option, Some, None}
use Rattle.dasd_extract.specs.Names.{Names, is_name}

-- a capital letter, or one of #, @ and $
abbrev pub is_letter : ℕ → Bool
is_letter c = (nat_le 65 c && nat_le c 90) || (c == 35) || (c == 64) || (c == 36)

-- one of these, a digit or a hyphen
abbrev pub is_further : ℕ → Bool
is_further c = is_letter c || (nat_le 48 c && nat_le c 57) || (c == 45)

-- Characters are simple names that are joined by periods, where so many characters of the first one stand before them: each begins with a
-- letter or one of #, @ and $, and has at most eight characters.
abbrev pub are_simple_names : (before : ℕ) → List ℕ → Bool
are_simple_names before [] = nat_lt 0 before
are_simple_names before (c ∷ more) =
    if c == 46 then nat_lt 0 before && are_simple_names 0 more
    else (if before == 0 then is_letter c && are_simple_names 1 more
    else (nat_lt before 8 && is_further c) && are_simple_names (before + 1) more)

-- a text may be the name of a data set
abbrev pub is_set_name : List ℕ → Bool
is_set_name text = are_simple_names 0 text && is_name 44 text

-- the name in EBCDIC of a text that may be one; none of another one
abbrev pub MakesName : (text : List ℕ) → Option (List ℕ) → Type 0
MakesName text (Some name) = (is_set_name text ≡ true) × Names text name
MakesName text None = is_set_name text ≡ false
