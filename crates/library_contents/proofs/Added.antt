-- Lines that were added to a report, some after others.
use Rattle.std.proofs.Common.{◌≡◌, ◌∙◌, ℕ, suc, ◌+◌, ◌-◌, ◌<◌, ◌≤◌, ◌||◌, List, [], ◌∷◌, ◌++◌, length, Some, None, ap, sym, refl, subst}
use Rattle.std.proofs.Common.{append_assoc, append-nil, arith, Option, Result, Ok, Err, OnOk}
use Rattle.std.proofs.Math.Bool.{or-false, or_assoc}
use Rattle.std.specs.Io.KnownBytes.{Appends}
use Rattle.std.proofs.KnownBytes.{Appends-trans}
use Rattle.std.proofs.lemmas.List.Concat.{flat_map-append}
use Rattle.std.proofs.lemmas.List.Folds.{list_any-append}
use Rattle.volume_labels.specs.declared.directories.DirectoryEntry.{DirectoryEntry}
use Rattle.volume_labels.specs.declared.directories.DirectoryStep.{DirectoryStep}
use Rattle.volume_labels.specs.Directories.{step_at}
use Rattle.library_contents.specs.declared.report.Report.{Report}
use Rattle.volume_labels.specs.Names.{safe_name_of}
use Rattle.volume_labels.specs.declared.fields.Extent.{Extent}
use Rattle.dasd_volumes.specs.Reading.{KnownVolume}
use Rattle.dasd_extract.specs.declared.blocks.ExtractedForm.TheVariants.{Raw}
use Rattle.dasd_extract.specs.declared.stops.Stop.{Stop}
use Rattle.dasd_extract.specs.Members.{directory}
use Rattle.dasd_extract.specs.Walk.{wanted, source_written}
use Rattle.ckd_track.specs.declared.geometries.Geometry.{Geometry}
use Rattle.library_contents.specs.declared.listed_blocks.Blocks.{Blocks}
use Rattle.library_contents.specs.ListedBlocks.{BlocksOf}
use Rattle.library_contents.specs.Report.{Line, plain, printed, some_wrong, Adds, AddsOf}
use Rattle.library_contents.specs.Lines.{Shown, member_text, heading_lines, end_lines}
use Rattle.library_contents.specs.ListedMembers.{step_lines, lines_from, member_lines, entries_lines, library_lines}

-- behind a step of a text that was taken, one that may have failed
pub after : {A E : Type 0} (r : Result A E) (a b c : Option (List ℕ)) (first next : List ℕ) → Appends a b first → OnOk r (Appends b c next)
    → OnOk r (Appends a c (first ++ next))
after (Ok x) a b c first next is then = Appends-trans a b c first next is then
after (Err e) a b c first next is then = then

-- none
pub adds_none : (a : Report) → Adds a a []
adds_none a = record { text = sym (append-nil a.text.items); is_wrong = sym (or-false a.is_wrong) }

-- some, and then others
pub adds_both : (a b c : Report) (first next : List Line) → Adds a b first → Adds b c next → Adds a c (first ++ next)
adds_both a b c first next h k = record {
  text = cc (append_assoc a.text.items (printed first) (printed next), flat_map-append (λ (l : Line). l.text) first next);
  is_wrong = cc (or_assoc a.is_wrong (some_wrong first) (some_wrong next), list_any-append (λ (l : Line). l.is_wrong) first next);
}

-- one line
pub one_line : (a b : Report) (l : Line) → Appends (Some a.text.items) (Some b.text.items) l.text → b.is_wrong ≡ (a.is_wrong || l.is_wrong)
    → Adds a b (l ∷ [])
one_line a b l written is = record { text = cc (append-nil l.text); is_wrong = cc (or-false l.is_wrong) }

-- one more, and then the others
pub one_and : (a b c : Report) (l : Line) (next : List Line) → Adds a b (l ∷ []) → Adds b c next → Adds a c (l ∷ next)
one_and a b c l next h k = adds_both a b c (l ∷ []) next h k

-- of these lines some were added, and the rest are left
pub record AreLeft (before now : Report) (all rest : List Line) : Type 0 where
  pub done : List Line
  pub whole : all ≡ done ++ rest
  pub added : Adds before now done

pub all_left : (a : Report) (all : List Line) → AreLeft a a all all
all_left a all = record { done = []; whole = refl; added = adds_none a }

pub fewer_left : (a b c : Report) (all rest next behind : List Line) → AreLeft a b all rest → rest ≡ next ++ behind → Adds b c next
    → AreLeft a c all behind
fewer_left a b c all rest next behind h is more = record {
  done = h.done ++ next;
  whole = h.whole ∙ ap (λ (l : List Line). h.done ++ l) is ∙ sym (append_assoc h.done next behind);
  added = adds_both a b c h.done next h.added more;
}

pub same_left : (a b : Report) (all rest behind : List Line) → AreLeft a b all rest → rest ≡ behind → AreLeft a b all behind
same_left a b all rest behind h is = subst (AreLeft a b all) is h

pub none_left : (a b : Report) (all rest : List Line) → AreLeft a b all rest → rest ≡ [] → Adds a b all
none_left a b all rest h is = subst (Adds a b) (sym (h.whole ∙ ap (λ (l : List Line). h.done ++ l) is ∙ append-nil h.done)) h.added

pub last_left : (a b c : Report) (all rest next : List Line) → AreLeft a b all rest → rest ≡ next → Adds b c next → Adds a c all
last_left a b c all rest next h is more = subst (Adds a c) (sym (cc)) (adds_both a b c h.done next h.added more)

-- the last lines were added, if they were
module _ (v : KnownVolume) (all rest : Geometry → List (List ℕ) → List Line) where
  pub last_added : {T E : Type 0} (r : Result T E) (a b d : Report) (next : List Line)
      → ((slots : List (List ℕ)) → v.slots ≡ Some slots → AreLeft a b (all v.geometry slots) (rest v.geometry slots))
      → ((slots : List (List ℕ)) → rest v.geometry slots ≡ next) → OnOk r (Adds b d next) → OnOk r (AddsOf v a d all)
  last_added (Ok _) a b d next left is more = λ slots known. last_left a b d _ _ next (left slots known) (is slots) more
  last_added (Err _) a b d next left is more = more

-- a heading, members, and the end of their directory
module _ (v : KnownVolume) (s : Shown) (extents : List Extent) (x : Blocks) (blocks : BlocksOf (directory extents) v x) where
  pub listed : {T E : Type 0} (r : Result T E) (a b d e : Report) → Adds a b (heading_lines s)
      → AddsOf v b d (entries_lines s extents x.bytes.items)
      → OnOk r (Adds d e (end_lines s None (Some x.stop))) → OnOk r (AddsOf v a e (library_lines s extents))
  listed (Ok _) a b d e heading entries end = λ slots known. adds_both a b e _ _ heading (adds_both b d e _ _
      (subst (λ (l : List ℕ). Adds b d (entries_lines s extents l v.geometry slots)) (blocks slots known).bytes (entries slots known))
      (subst (λ (o : Option Stop). Adds d e (end_lines s None o)) (blocks slots known).stop end))
  listed (Err _) a b d e heading entries end = end

-- A walk over the entries of a directory.
module _ (s : Shown) (member : DirectoryEntry → ℕ → List Line) (bytes : List ℕ) where
  more_steps : (most at : ℕ) → lines_from s member (suc most) bytes at
      ≡ step_lines s member (step_at bytes at) (lines_from s member most bytes)
  unfolding lines_from
  more_steps most at = refl

  no_steps : (at : ℕ) → lines_from s member 0 bytes at ≡ []
  unfolding lines_from
  no_steps at = refl

  module _ (k at : ℕ) where
    pub last_step : length bytes ≤ k → lines_from s member (length bytes - k) bytes at ≡ []
    last_step passed = let e : length bytes - k ≡ 0 = omega (arith, passed) in ap (λ m. lines_from s member m bytes at) e ∙ no_steps at

    pub this_step : (x : DirectoryStep) → step_at bytes at ≡ x → k < length bytes
        → lines_from s member (length bytes - k) bytes at ≡ step_lines s member x (lines_from s member (length bytes - (k + 1)) bytes)
    this_step x are inside =
        let e : length bytes - k ≡ suc (length bytes - (k + 1)) = omega arith in cc (more_steps (length bytes - (k + 1)) at)

-- A member that was measured.
module _ (s : Shown) (e : DirectoryEntry) (user : List ℕ) where
  these : (name bytes : List ℕ) → Option Stop → List Line
  these name bytes stop =
      plain (member_text s (record { entry = e; name = name; user = user; bytes = length bytes })) ∷ end_lines s (Some name) stop

  module _ (v : KnownVolume) (extents : List Extent) (x : Blocks) (blocks : BlocksOf (wanted Raw extents e.address 65535) v x) where
    pub measured : {T E : Type 0} (r : Result T E) (a b c : Report) (name : List ℕ) → name ≡ safe_name_of e.name
        → Adds a b (plain (member_text s (record { entry = e; name = name; user = user; bytes = length x.bytes.items })) ∷ [])
        → OnOk r (Adds b c (end_lines s (Some name) (Some x.stop))) → OnOk r (AddsOf v a c (member_lines s extents e user))
    unfolding these
    measured (Ok _) a b c name is line end = λ slots known.
        let w = source_written (wanted Raw extents e.address 65535) v.geometry slots in
        let same : these name x.bytes.items (Some x.stop) ≡ these (safe_name_of e.name) w.bytes w.stop =
        cc ((blocks slots known).bytes, (blocks slots known).stop) in
        subst (Adds a c) same (one_and a b c _ _ line end)
    measured (Err _) a b c name is line end = end
