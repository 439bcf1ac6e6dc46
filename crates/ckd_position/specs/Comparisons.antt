-- What a search asks of an area (component descriptions of the 2841 and the 2314, 'Search Commands').
use Rattle.std.specs.Prelude.{◌≡◌, ℕ, ◌<◌, ◌⊎◌, Bool, List, length, take, slice_index}
use Rattle.std.specs.Ordering.{nat_cmp, is_eq, is_gt, is_ge}
use Rattle.std.specs.declared.cmp.Ordering.{Ordering}
use Rattle.std.specs.Cmp.Lexicographic.{slice_cmp}
use Rattle.ckd_position.specs.declared.comparisons.Compare.{Compare}
use Rattle.ckd_position.specs.declared.comparisons.Compare.TheVariants.{Equal, High, EqualOrHigh}

-- whether the order of the track's bytes to those given is as a search asks
abbrev pub accepts : Compare → Ordering → Bool
accepts Equal order = is_eq order
accepts High order = is_gt order
accepts EqualOrHigh order = is_ge order

-- whether a search is satisfied: the first bytes of the area are compared with those given, from the left
abbrev pub is_satisfied : Compare → List ℕ → List ℕ → Bool
is_satisfied compare area given = accepts compare (slice_cmp nat_cmp (take (length given) area) given)

-- up to some place the two are the same, and there the track's byte is greater
abbrev pub IsHigher : List ℕ → List ℕ → Type 0
IsHigher area given = (k : ℕ) × (k < length given) × (take k area ≡ take k given)
    × (slice_index given k < slice_index area k)

-- what each comparison means, where no more bytes are given than the area has
abbrev pub Satisfies : Compare → List ℕ → List ℕ → Type 0
Satisfies Equal area given = take (length given) area ≡ given
Satisfies High area given = IsHigher area given
Satisfies EqualOrHigh area given = (take (length given) area ≡ given) ⊎ IsHigher area given
