-- Sections that were added one after another.
use Rattle.std.proofs.Common.{◌≡◌, ◌∙◌, ℕ, ◌+◌, ◌<◌, ◌≤◌, List, [], ◌∷◌, ◌++◌, length, take, get_or, ap, sym, subst, flat_map}
use Rattle.std.proofs.Common.{Bool, true, false, ◌||◌, append-nil, Result, Ok, Err, OnOk}
use Rattle.std.proofs.lemmas.List.{flat_map_more, take_more, take_all}
use Rattle.dasd_volumes.specs.Reading.{KnownVolume}
use Rattle.library_contents.specs.declared.report.Report.{Report}
use Rattle.library_contents.specs.Report.{Line, plain, printed, Adds, AddsOf}
use Rattle.library_contents.specs.ListedMembers.{library_lines}
use Rattle.library_contents.proofs.Added.{adds_none, adds_both}
use Rattle.volume_details.specs.Long.{Said, long_text}
use Rattle.volume_details.specs.Sections.{Views, name_lines, front_lines, library_shown, described_lines}

-- the lines of one element more
pub one_more_section : {X : Type 0} (a b c : Report) (lines : X → List Line) (xs : List X) (i : ℕ) (d : X) → i < length xs
    → Adds a b (flat_map lines (take i xs)) → Adds b c (lines (get_or xs i d)) → Adds a c (flat_map lines (take (i + 1) xs))
one_more_section a b c lines xs i d inside first next =
    subst (Adds a c) (flat_map_more lines [] (take i xs) (get_or xs i d) ∙ ap (flat_map lines) (sym (take_more xs i d inside)))
    (adds_both a b c _ _ first next)

-- the lines of all elements
pub all_sections : {X : Type 0} (a b : Report) (lines : X → List Line) (xs : List X) (i : ℕ) → length xs ≤ i
    → Adds a b (flat_map lines (take i xs)) → Adds a b (flat_map lines xs)
all_sections a b lines xs i passed are = rw (take_all i xs passed) at are

-- the first lines of a report
pub first_lines : (a b : Report) (lines : List Line) → a.text.items ≡ [] → Adds a b lines → b.text.items ≡ printed lines
first_lines a b lines none h = h.text ∙ ap (λ (l : List ℕ). l ++ printed lines) none

-- The section of a data set.
module _ (w : Views) (s : Said) (a b d : Report) where
  -- its name, and no more
  pub name_alone : w.is_long ≡ false → Adds a b (name_lines w.json s.name) → Adds a b (front_lines w s)
  name_alone short h = rw short (subst (Adds a b) (sym (append-nil (name_lines w.json s.name))) h)

  -- its name, and what the table leaves out
  pub name_and_long : {E : Type 0} (r : Result (Unit {0}) E) → w.is_long ≡ true → Adds a b (name_lines w.json s.name)
      → OnOk r (Adds b d (plain (long_text w.json s) ∷ [])) → OnOk r (Adds a d (front_lines w s))
  name_and_long (Ok _) long h more = rw long (adds_both a b d _ _ h more)
  name_and_long (Err _) long h more = more

  module _ (v : KnownVolume) (has : Bool) where
    -- there is nothing to show
    pub not_shown : (w.is_long || has) ≡ false → AddsOf v a a (described_lines has w s)
    not_shown is = λ slots known. rw is (adds_none a)

    -- it has no members that are listed
    pub without_members : (w.is_long || has) ≡ true → has ≡ false → Adds a b (front_lines w s) → AddsOf v a b (described_lines has w s)
    without_members is none front = λ slots known. rw (is, none) (subst (Adds a b) (sym (append-nil (front_lines w s))) front)

    -- it has
    pub with_members : {E : Type 0} (r : Result (Unit {0}) E) → (w.is_long || has) ≡ true → has ≡ true → Adds a b (front_lines w s)
        → OnOk r (AddsOf v b d (library_lines (library_shown w.json s.name) s.extents)) → OnOk r (AddsOf v a d (described_lines has w s))
    with_members (Ok _) is some front more = λ slots known. rw (is, some) (adds_both a b d _ _ front (more slots known))
    with_members (Err _) is some front more = more
