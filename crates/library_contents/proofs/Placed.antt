-- A walk over the entries of a directory.
use Rattle.std.proofs.Common.{ℕ, zero, suc, ◌+◌, ◌-◌, ◌<◌, ◌≤◌, ◌≡◌, ◌∙◌, List, [], ◌∷◌, ◌++◌, length, map, Option, Some, None, option_map}
use Rattle.std.proofs.Common.{ap, sym, refl, append-nil, append_assoc, arith}
use Rattle.volume_labels.specs.declared.directories.DirectoryEntry.{DirectoryEntry}
use Rattle.volume_labels.specs.declared.directories.DirectoryFault.{DirectoryFault}
use Rattle.volume_labels.specs.declared.directories.DirectoryStep.{DirectoryStep}
use Rattle.volume_labels.specs.declared.directories.DirectoryStep.TheVariants.{Entry, Skip, End, Fault}
use Rattle.volume_labels.specs.Directories.{Found, from_step, entries_from, step_at}
use Rattle.library_contents.specs.declared.directories.PlacedEntry.{PlacedEntry}
use Rattle.library_contents.specs.Directories.{and_more, on_step, placed_from, placed_entries, if_right, EntriesAreThoseOfTheDirectory}

-- elements before those of a list, if there is one
abbrev pub before_all : {X : Type 0} → List X → Option (List X) → Option (List X)
before_all xs more = option_map (λ l. xs ++ l) more

pub none_before : {X : Type 0} (more : Option (List X)) → more ≡ before_all [] more
none_before None = refl
none_before (Some l) = refl

pub one_before : {X : Type 0} (xs : List X) (x : X) (more : Option (List X))
    → before_all xs (option_map (λ l. x ∷ l) more) ≡ before_all (xs ++ x ∷ []) more
one_before xs x None = refl
one_before xs x (Some l) = ap Some (sym (append_assoc xs (x ∷ []) l))

pub last_before : {X : Type 0} (xs : List X) → before_all xs (Some []) ≡ Some xs
last_before xs = ap Some (append-nil xs)

module _ (bytes : List ℕ) where
  more_steps : (most at : ℕ) → placed_from (suc most) bytes at ≡ on_step (step_at bytes at) (placed_from most bytes)
  unfolding placed_from
  more_steps most at = refl

  no_steps : (at : ℕ) → placed_from 0 bytes at ≡ Some []
  unfolding placed_from
  no_steps at = refl

  pub none_yet : (items : List PlacedEntry) → items ≡ [] → placed_entries bytes ≡ before_all items (placed_from (length bytes - 0) bytes 0)
  none_yet items are = let e : length bytes ≡ length bytes - 0 = omega arith in cc (none_before (placed_from (length bytes - 0) bytes 0))

  module _ (k at : ℕ) where
    pub last_step : length bytes ≤ k → placed_from (length bytes - k) bytes at ≡ Some []
    last_step passed = let e : length bytes - k ≡ 0 = omega (arith, passed) in ap (λ m. placed_from m bytes at) e ∙ no_steps at

    pub this_step : (s : DirectoryStep) → step_at bytes at ≡ s → k < length bytes
        → placed_from (length bytes - k) bytes at ≡ on_step s (placed_from (length bytes - (k + 1)) bytes)
    this_step s are inside =
        let e : length bytes - k ≡ suc (length bytes - (k + 1)) = omega arith in cc (more_steps (length bytes - (k + 1)) at)

  -- The same entries as `volume_labels` reads.

  abbrev plain : Option (List PlacedEntry) → Option (List DirectoryEntry)
  plain placed = option_map (λ (l : List PlacedEntry). map (λ (p : PlacedEntry). p.entry) l) placed

  abbrev right : Found → Option (List DirectoryEntry)
  right f = if_right f.fault f.entries

  over_more : (e : DirectoryEntry) (end : ℕ) (placed : Option (List PlacedEntry))
      → plain (and_more e end placed) ≡ option_map (λ (es : List DirectoryEntry). e ∷ es) (plain placed)
  over_more e end None = refl
  over_more e end (Some l) = refl

  over_right : (e : DirectoryEntry) (fault : Option DirectoryFault) (entries : List DirectoryEntry)
      → option_map (λ (es : List DirectoryEntry). e ∷ es) (if_right fault entries) ≡ if_right fault (e ∷ entries)
  over_right e None entries = refl
  over_right e (Some f) entries = refl

  one_more : (e : DirectoryEntry) (end : ℕ) (placed : Option (List PlacedEntry)) (fault : Option DirectoryFault)
      (entries : List DirectoryEntry) → plain placed ≡ if_right fault entries → plain (and_more e end placed) ≡ if_right fault (e ∷ entries)
  one_more e end placed fault entries is = cc (over_more e end placed, over_right e fault entries)

  same_step : (s : DirectoryStep) (placed : ℕ → Option (List PlacedEntry)) (found : ℕ → Found)
      → ((at : ℕ) → plain (placed at) ≡ right (found at)) → plain (on_step s placed) ≡ right (from_step s found)
  same_step (Entry e next) placed found same = one_more e next (placed next) (found next).fault (found next).entries (same next)
  same_step (Skip next) placed found same = same next
  same_step End placed found same = refl
  same_step (Fault f) placed found same = refl

  same_from : (most at : ℕ) → plain (placed_from most bytes at) ≡ right (entries_from most bytes at)
  unfolding placed_from entries_from
  same_from zero at = refl
  same_from (suc most) at = same_step (step_at bytes at) (placed_from most bytes) (entries_from most bytes) (same_from most)

pub entries_are_those_of_the_directory : EntriesAreThoseOfTheDirectory
entries_are_those_of_the_directory bytes = same_from bytes (length bytes) 0
