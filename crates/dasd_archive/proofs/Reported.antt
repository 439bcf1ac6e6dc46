-- What was reported in several steps.
use Rattle.std.proofs.Common.{ℕ, ◌+◌, ◌≡◌, ◌∙◌, List, [], ◌∷◌, ◌++◌, Option, Result, Ok, Err, OnOk, ap, sym, subst}
use Rattle.std.proofs.Common.{append_assoc, append-nil}
use Rattle.std.specs.List.{flat_map, FoldsTo}
use Rattle.std.proofs.lemmas.List.Concat.{flat_map-append, flat_map-cons}
use Rattle.std.proofs.KnownBytes.{Appends-trans, Appends-nil}
use Rattle.std.specs.Io.KnownBytes.{Appends}
use Rattle.dasd_volumes.specs.Volumes.{of_each, tracks_in, all_tracks, text_in}
use Rattle.dasd_volumes.proofs.Appended.{of_none, of_one_more}
use Rattle.dasd_archive.specs.declared.findings.StrictFinding.{StrictFinding}
use Rattle.dasd_archive.specs.declared.reports.FindingStyle.{FindingStyle}
use Rattle.dasd_archive.specs.declared.reports.Tally.{Tally}
use Rattle.counted_io.specs.Streams.{Stream, Takes}
use Rattle.dasd_volumes.proofs.Fronts.{no_lines, more_lines}
use Rattle.ckd_track.specs.declared.geometries.Geometry.{Geometry}
use Rattle.dasd_volumes.specs.declared.walks.Tracks.{Tracks}
use Rattle.dasd_archive.specs.Strict.{findings_in_track, strict_findings}
use Rattle.dasd_volumes.proofs.Walked.{lines_of_found}
use Rattle.dasd_archive.specs.Reports.{Reports, CountsUp, shown_line, finding_lines, tally_of}

-- what was found of one after another is counted
pub all_counted : {P X : Type 0} (tally : P → Tally) (found : X → List StrictFinding) (p q : P) (xs : List X)
    → FoldsTo (λ p x q. CountsUp (tally p) (tally q) (found x)) p xs q → CountsUp (tally p) (tally q) (flat_map found xs)
all_counted tally found p q [] same = λ earlier is. ap tally (sym same) ∙ is ∙ ap tally_of (sym (append-nil earlier))
all_counted tally found p q (x ∷ xs) steps = λ earlier is.
    all_counted tally found steps.0 q xs steps.2 (earlier ++ found x) (steps.1 earlier is)
    ∙ ap tally_of (append_assoc earlier (found x) (flat_map found xs) ∙ ap (λ l. earlier ++ l) (sym (flat_map-cons found x xs)))

-- what is found of all tracks of a volume
pub strict_counts : {P : Type 0} (tally : P → Tally) (p q : P) (tracks : Tracks) (g : Geometry) (slots : List (List ℕ))
    → tracks ≡ all_tracks g
    → FoldsTo (λ p t q. CountsUp (tally p) (tally q) (findings_in_track t)) p (tracks_in tracks g slots) q
    → CountsUp (tally p) (tally q) (strict_findings g slots)
strict_counts tally p q tracks g slots same steps =
    all_counted tally findings_in_track p q (tracks_in (all_tracks g) g slots)
    (subst (λ t. FoldsTo (λ p t q. CountsUp (tally p) (tally q) (findings_in_track t)) p (tracks_in t g slots) q) same steps)

pub strict_lines : (P : List ℕ → Type 0) (style : FindingStyle) (path : List ℕ) (tracks : Tracks) (g : Geometry) (slots : List (List ℕ))
    → tracks ≡ all_tracks g → P (text_in (λ t. finding_lines style path (findings_in_track t)) tracks g slots)
    → P (finding_lines style path (strict_findings g slots))
strict_lines P style path tracks g slots same holds =
    lines_of_found P (shown_line style path) findings_in_track tracks g slots same holds

module _ (style : FindingStyle) (path : List ℕ) where
  pub nothing : (a : Option (List ℕ)) (t : Tally) → Reports style path a a t t []
  nothing a t = record {
    lines = Appends-nil a;
    counts = λ earlier is. is ∙ ap tally_of (sym (append-nil earlier));
  }

  pub more : (a b c : Option (List ℕ)) (t u v : Tally) (xs ys : List StrictFinding)
      → Reports style path a b t u xs → Reports style path b c u v ys → Reports style path a c t v (xs ++ ys)
  more a b c t u v xs ys first next = record {
    lines = subst (Appends a c) (sym (flat_map-append (shown_line style path) xs ys)) (Appends-trans a b c _ _ first.lines next.lines);
    counts = λ earlier is. next.counts (earlier ++ xs) (first.counts earlier is) ∙ ap tally_of (append_assoc earlier xs ys);
  }

  -- the same where the last step may have failed
  pub then : {A E : Type 0} (r : Result A E) (a b c : Option (List ℕ)) (t u v : Tally) (xs ys : List StrictFinding)
      → Reports style path a b t u xs → OnOk r (Reports style path b c u v ys) → OnOk r (Reports style path a c t v (xs ++ ys))
  then (Ok x) a b c t u v xs ys first next = more a b c t u v xs ys first next
  then (Err e) a b c t u v xs ys first next = next

  pub none_of : (of : ℕ → List StrictFinding) (a : Option (List ℕ)) (t : Tally) → Reports style path a a t t (of_each of 0)
  none_of of a t = subst (Reports style path a a t t) (sym (of_none of)) (nothing a t)

  pub one_more_of : (of : ℕ → List StrictFinding) (n : ℕ) (a b c : Option (List ℕ)) (t u v : Tally)
      → Reports style path a b t u (of_each of n) → Reports style path b c u v (of n) → Reports style path a c t v (of_each of (n + 1))
  one_more_of of n a b c t u v first next =
      subst (Reports style path a c t v) (sym (of_one_more of n)) (more a b c t u v (of_each of n) (of n) first next)

  -- the same of findings that are printed
  pub none_found : (of : ℕ → List StrictFinding) (a : Stream) (t : Tally) → Takes a a (finding_lines style path (of_each of 0))
      × CountsUp t t (of_each of 0)
  none_found of a t = (
    no_lines (shown_line style path) of a,
    λ earlier is. is ∙ ap tally_of (sym (append-nil earlier)
        ∙ ap (λ l. earlier ++ l) (sym (of_none of))),
  )

  pub one_more_found : (of : ℕ → List StrictFinding) (n : ℕ) (a b c : Stream) (t u v : Tally)
      → Takes a b (finding_lines style path (of_each of n)) × CountsUp t u (of_each of n) → Takes b c (finding_lines style path (of n))
      × CountsUp u v (of n)
      → Takes a c (finding_lines style path (of_each of (n + 1))) × CountsUp t v (of_each of (n + 1))
  one_more_found of n a b c t u v first next = (
    more_lines (shown_line style path) of a b c n first.0 next.0,
    λ earlier is.
        next.1 (earlier ++ of_each of n) (first.1 earlier is)
        ∙ ap tally_of (append_assoc earlier (of_each of n) (of n) ∙ ap (λ l. earlier ++ l) (sym (of_one_more of n))),
  )
