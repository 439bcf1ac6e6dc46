-- Which tracks of a volume are some extent's: a mark for each, which is 0 where it is none's.
use Rattle.std.specs.Prelude.{ℕ, zero, suc, ◌+◌, ◌-◌, ◌==◌, Bool, not, ◌&&◌, if◌then◌else◌, List, ◌++◌, take, drop, replicate, slice_range, Option, Some, None}
use Rattle.std.specs.List.{position}
use Rattle.ckd_track.specs.declared.geometries.Geometry.{Geometry}
use Rattle.ckd_track.specs.Model.{heads_of}
use Rattle.volume_labels.specs.declared.fields.Extent.{Extent}
use Rattle.volume_labels.specs.Addresses.{number_of_track, is_split, is_run, heads_in}
use Rattle.volume_contents.specs.declared.runs.Run.{Run}
use Rattle.volume_contents.specs.declared.findings.Problem.{Problem}
use Rattle.volume_contents.specs.declared.findings.Problem.TheVariants.{BadExtent, ExtentOutside, Overlap}
use Rattle.volume_contents.specs.Runs.{exists_on}

abbrev pub is_taken : ℕ → Bool
is_taken mark = not (mark == 0)

abbrev pub place_taken : (marks : List ℕ) → Run → Option ℕ
place_taken marks r = position is_taken (slice_range marks r.first (r.first + r.tracks))

-- the first track of a run that is some extent's
abbrev pub behind_first : Run → Option ℕ → Option ℕ
behind_first r None = None
behind_first r (Some i) = Some (r.first + i)

abbrev pub first_taken : (marks : List ℕ) → Run → Option ℕ
first_taken marks r = behind_first r (place_taken marks r)

-- a run's tracks are marked up to that one
abbrev pub end_of_claim : Run → Option ℕ → ℕ
end_of_claim r None = r.first + r.tracks
end_of_claim r (Some i) = r.first + i

abbrev pub marked_up_to : (marks : List ℕ) → (first behind : ℕ) → List ℕ
marked_up_to marks first behind = take first marks ++ (replicate (behind - first) 1 ++ drop behind marks)

abbrev pub claimed : (marks : List ℕ) → Run → List ℕ
claimed marks r = marked_up_to marks r.first (end_of_claim r (place_taken marks r))

-- what is claimed: the marks behind it, and the first track that was some extent's already
pub record Claimed : Type 0 where
  pub marks : List ℕ
  pub taken : Option ℕ

abbrev pub run_claimed : (marks : List ℕ) → Run → Claimed
run_claimed marks r = record { marks = claimed marks r; taken = first_taken marks r }

-- a claim ends at a track that is taken; where none was, it goes on
abbrev pub unless_taken : Option ℕ → (marks : List ℕ) → (List ℕ → Claimed) → Claimed
unless_taken None marks more = more marks
unless_taken (Some track) marks more = record { marks = marks; taken = Some track }

-- the tracks of a split extent on the cylinder that is so many behind its first
abbrev pub run_on : Geometry → Extent → (k : ℕ) → Run
run_on g e k = record {
  first = number_of_track (heads_of g.model) (record { cylinder = e.first.cylinder + k; head = e.first.head });
  tracks = heads_in e;
}

-- those of so many cylinders, one after another
unfoldable pub cylinders_claimed : (most : ℕ) → Geometry → Extent → (k : ℕ) → (marks : List ℕ) → Claimed
cylinders_claimed zero g e k marks = record { marks = marks; taken = None }
cylinders_claimed (suc most) g e k marks =
    unless_taken (first_taken marks (run_on g e k)) (claimed marks (run_on g e k)) (cylinders_claimed most g e (k + 1))

abbrev pub split_claimed : Geometry → Extent → (marks : List ℕ) → Claimed
split_claimed g e marks = cylinders_claimed (e.last.cylinder + 1 - e.first.cylinder) g e 0 marks

-- the tracks of an extent that is no split one
abbrev pub run_of : Geometry → Extent → Run
run_of g e = record {
  first = number_of_track (heads_of g.model) e.first;
  tracks = number_of_track (heads_of g.model) e.last + 1 - number_of_track (heads_of g.model) e.first;
}

abbrev pub overlap : Extent → Option ℕ → Option Problem
overlap e None = None
overlap e (Some track) = Some (Overlap e track)

-- all tracks of an extent are claimed
abbrev pub tracks_claimed : Geometry → Extent → (marks : List ℕ) → Claimed
tracks_claimed g e marks = if is_split e then split_claimed g e marks else run_claimed marks (run_of g e)

-- what is wrong with an extent
abbrev pub claim_of : Geometry → (marks : List ℕ) → Extent → Option Problem
claim_of g marks e =
    if not (is_run (heads_of g.model) e) then Some (BadExtent e)
    else (if not (exists_on g e.first && exists_on g e.last) then Some (ExtentOutside e)
    else overlap e (tracks_claimed g e marks).taken)

-- the marks behind it
abbrev pub claimed_by : Geometry → (marks : List ℕ) → Extent → List ℕ
claimed_by g marks e =
    if not (is_run (heads_of g.model) e) then marks
    else (if not (exists_on g e.first && exists_on g e.last) then marks
    else (tracks_claimed g e marks).marks)
