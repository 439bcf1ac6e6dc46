-- What users have of a change of a member.
use Rattle.std.proofs.Common.{◌≡◌, ◌∙◌, ap, sym, subst, refl, ℕ, Bool, true}
use Rattle.std.proofs.Common.{false, if◌then◌else◌, List, Option, Some, None, Result, Ok, Err}
use Rattle.ckd_track.specs.declared.geometries.Geometry.{Geometry}
use Rattle.volume_labels.specs.declared.fields.Extent.{Extent}
use Rattle.volume_contents.specs.Contents.{contents_of, slot_at}
use Rattle.record_tracks.specs.Entries.{EntryContents}
use Rattle.member_changes.specs.declared.entries.EntryChange.{EntryChange}
use Rattle.member_changes.specs.declared.refusal.MemberRefusal.{MemberRefusal}
use Rattle.member_changes.specs.declared.refusal.MemberRefusal.TheVariants as refusal
use Rattle.member_changes.specs.Entries.{entries_in, changed}
use Rattle.member_changes.specs.Plans.{Plan, and_then, blocks_with, plan_with, plan_for, plan_of}
use Rattle.member_changes.specs.Libraries.{ReadDirectory, directory_on, library_of}
use Rattle.member_changes.specs.Places.{places_up_to}
use Rattle.member_changes.specs.Volumes.{reads_back, planned_slots, with_plan, with_directory, library_changed}
use Rattle.member_changes.specs.Laws.{HasEntries, ChangesAreRead}
use Rattle.member_changes.proofs.Elsewhere.{kept_elsewhere}
use Rattle.member_changes.proofs.Same.{these_are}

-- a value that was not refused, and what was done with it
record Went {A B : Type 0} (r : Result A MemberRefusal) (f : A → Result B MemberRefusal) (b : B) : Type 0 where
  pub value : A
  pub first : r ≡ Ok value
  pub second : f value ≡ Ok b

went : {A B : Type 0} (r : Result A MemberRefusal) (f : A → Result B MemberRefusal) (b : B) → and_then r f ≡ Ok b → Went r f b
went (Ok a) f b is = record { value = a; first = refl; second = is }
went (Err r) f b is = cc

-- a plan has what the change makes of the entries that were there
record Planned (change : EntryChange) (bytes : List ℕ) (p : Plan) : Type 0 where
  pub old : List EntryContents
  pub had : entries_in bytes ≡ Some old
  pub changes : changed change old ≡ Ok p.entries

with_entries : (blocks : ℕ) (new : List EntryContents) (p : Plan) → plan_with blocks new ≡ Ok p → new ≡ p.entries
with_entries blocks new p is =
    let w = went (blocks_with blocks new) (λ made. Ok (record { entries = new; blocks = made })) p is in
    let same : record { entries = new; blocks = w.value } ≡ p = cc in
    ap (λ (q : Plan). q.entries) same

planned_for : (change : EntryChange) (bytes : List ℕ) (blocks : ℕ) (o : Option (List EntryContents)) (p : Plan) → entries_in bytes ≡ o
    → plan_for change blocks o ≡ Ok p → Planned change bytes p
planned_for change bytes blocks None p are is = cc
planned_for change bytes blocks (Some old) p are is =
    let w = went (changed change old) (plan_with blocks) p is in
    record { old = old; had = are; changes = w.first ∙ ap Ok (with_entries blocks w.value p w.second) }

-- what is confirmed is read again
kept : (b : Bool) (slots now : List (List ℕ))
    → (let r : Result (List (List ℕ)) MemberRefusal = if b then Ok slots else Err refusal.Unconfirmed in r) ≡ Ok now
    → (b ≡ true) × (slots ≡ now)
kept true slots now is = (refl, cc)
kept false slots now is = cc

has_read : (extents : List Extent) (g : Geometry) (slots : List (List ℕ)) (entries : List EntryContents)
    (r : Result ReadDirectory MemberRefusal)
    → directory_on extents g slots ≡ r → reads_back entries r ≡ true → HasEntries extents g slots entries
has_read extents g slots entries (Ok d) is back = record { read = d; whole = is; has = these_are entries (entries_in d.bytes) back }
has_read extents g slots entries (Err x) is back = cc

pub changes_are_read : ChangesAreRead
changes_are_read library change g before now is =
    let named = went (library_of (contents_of g before) library) (library_changed change g before) now is in
    let extents = named.value in
    let read = went (directory_on extents g before) (with_directory change extents g before) now named.second in
    let d = read.value in
    let made = went (plan_of change d.bytes) (with_plan extents d.last g before) now read.second in
    let plan = made.value in
    let slots = planned_slots extents d.last g before plan in
    let planned = planned_for change d.bytes _ (entries_in d.bytes) plan refl made.first in
    let done = kept (reads_back plan.entries (directory_on extents g slots)) slots now made.second in record {
      extents = extents;
      named = named.first;
      old = planned.old;
      new = plan.entries;
      had = record { read = d; whole = read.first; has = planned.had };
      changes = planned.changes;
      has = subst (λ (s : List (List ℕ)). HasEntries extents g s plan.entries) done.1
          (has_read extents g slots plan.entries (directory_on extents g slots) refl done.0);
      elsewhere = λ n off.
          ap (λ (s : List (List ℕ)). slot_at s n) (sym done.1)
          ∙ kept_elsewhere g (places_up_to extents g before d.last) plan.blocks before n off;
    }
