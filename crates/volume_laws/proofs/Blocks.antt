-- Where control blocks stand, and what changes of them leave.
use Rattle.std.proofs.Common.{◌≡◌, ◌∙◌, ap, sym, refl, subst, ℕ, zero, suc, ◌+◌, ◌-◌, ◌<◌, ◌==◌, min, Bool, true, false, not, ◌&&◌, nat_le}
use Rattle.std.proofs.Common.{if◌then◌else◌, List, [], ◌∷◌, ◌++◌, length}
use Rattle.std.proofs.Common.{Result, Ok, Err, is_ok, Option, Some, None, is_some, All, position, true≢false, arith, get_or-set_other}
use Rattle.std.specs.List.{list_any}
use Rattle.std.proofs.lemmas.Bool.{and_parts, or_right, both_ways, cond_both, le-leb, and_from}
use Rattle.std.proofs.lemmas.Nat.{div-add-mod'}
use Rattle.std.proofs.lemmas.List.Elements.{All-nil, All-cons, All-append, All-weaker, All-get_or, All-head, All-tail}
use Rattle.std.proofs.lemmas.List.Quantifiers.{position-Some}
use Rattle.ckd_track.specs.declared.fault.SlotFault.{SlotFault}
use Rattle.ckd_track.specs.declared.geometries.Geometry.{Geometry}
use Rattle.ckd_track.specs.Geometry.{tracks_of, track_at}
use Rattle.ckd_track.specs.Model.{heads_of}
use Rattle.ckd_track.specs.Track.{Track, track_of, record_in}
use Rattle.volume_labels.specs.declared.fields.TrackAddress.{TrackAddress}
use Rattle.volume_labels.specs.declared.fields.RecordAddress.{RecordAddress}
use Rattle.volume_labels.specs.declared.fields.Extent.{Extent}
use Rattle.volume_labels.specs.declared.labels.VolumeLabel.{VolumeLabel}
use Rattle.volume_labels.specs.declared.blocks.ContentsBlock.{ContentsBlock}
use Rattle.volume_labels.specs.declared.blocks.BlockKind.{BlockKind}
use Rattle.volume_labels.specs.declared.blocks.BlockKind.TheVariants as kind
use Rattle.volume_labels.specs.Labels.{block_kind_of}
use Rattle.volume_labels.specs.Addresses.{is_split, is_run, number_of_track}
use Rattle.dasd_volumes.specs.Volumes.{of_each}
use Rattle.new_labels.specs.Runs.{has_track, shares_track}
use Rattle.volume_contents.specs.declared.blocks.Block.{Block}
use Rattle.volume_contents.specs.Blocks.{of_kind, those, blocks_in, blocks_at, address_of_record}
use Rattle.volume_contents.specs.Contents.{Said, no_block, slot_at, label_on, table_on, blocks_of_track, blocks_of_run, bad_extent}
use Rattle.volume_contents.specs.Contents.{said_with, said_of_table, said_of_label, contents_of}
use Rattle.volume_contents.specs.Runs.{exists_on, address_of_number, walked_of, is_table_extent, is_on, number}
use Rattle.volume_contents.specs.Sets.{has_name}
use Rattle.dasd_extract.specs.Alternates.{is_other}
use Rattle.volume_changes.specs.declared.blocks.BlockChange.{BlockChange}
use Rattle.volume_changes.specs.declared.refusal.ChangeRefusal.{ChangeRefusal}
use Rattle.volume_changes.specs.Blocks.{changed, changed_slot}
use Rattle.volume_changes.specs.Deletions.{all_changed}
use Rattle.volume_changes.specs.Volumes.{rename_at, rename_in, rename_of, slots_behind}
use Rattle.loaded_sets.specs.Volumes.{Labelled, SaysOf}
use Rattle.volume_laws.specs.Changes.{is_kept_back, WritesItsOwn, SetsStay, IsOneOf, AreOfVolume, BlockChangesKeep, RenameKeeps}
use Rattle.volume_laws.proofs.Shared.{empty_parts}
use Rattle.volume_laws.proofs.Kept.{free_parts, not_kept_back, own_writes_keep}

-- Where the control blocks of a run of tracks stand.

abbrev pub all_each : {A : Type 0} (P : A → Type 0) (of : ℕ → List A) (n : ℕ) → ((i : ℕ) → i < n → All P (of i)) → All P (of_each of n)
unfolding of_each
all_each P of zero each = All-nil P
all_each P of (suc n) each =
    All-append P (of_each of n) (of n) (all_each P of n (λ i low. each i (omega (arith, low)))) (each n (omega arith))

abbrev IsAt : RecordAddress → Block → Type 0
IsAt a b = b.address ≡ a

module _ (a : RecordAddress) (key bytes : List ℕ) where
  one : (k : BlockKind) → All (IsAt a) (record { address = a; kind = k; key = key; bytes = bytes } ∷ [])
  one k = All-cons (IsAt a) (record { address = a; kind = k; key = key; bytes = bytes }) [] (refl {A = RecordAddress} {a = a})
      (All-nil (IsAt a))

  of_kind_at : (o : Option BlockKind) → All (IsAt a) (those (of_kind a key bytes o))
  of_kind_at None = All-nil (IsAt a)
  of_kind_at (Some kind.Free) = All-nil (IsAt a)
  of_kind_at (Some kind.DataSet) = one kind.DataSet
  of_kind_at (Some kind.IndexedSequential) = one kind.IndexedSequential
  of_kind_at (Some kind.MoreExtents) = one kind.MoreExtents
  of_kind_at (Some kind.Contents) = one kind.Contents
  of_kind_at (Some kind.FreeSpace) = one kind.FreeSpace
  of_kind_at (Some kind.SharedCylinders) = one kind.SharedCylinders
  of_kind_at (Some kind.Unknown) = one kind.Unknown

abbrev IsOn : TrackAddress → Block → Type 0
IsOn a b = b.address.track ≡ a

on_track : (a : TrackAddress) (r : Result Track SlotFault) → All (IsOn a) (blocks_at a r)
on_track a (Err fault) = All-nil (IsOn a)
on_track a (Ok t) = all_each (IsOn a) (blocks_in a t) (length t.records) (λ i low.
    cond_both (i == 0) [] _ (All (IsOn a)) (λ _. All-nil (IsOn a)) (λ _.
    All-weaker (IsAt (address_of_record a (record_in t i))) (IsOn a) (λ b is. ap (λ (x : RecordAddress). x.track) is) _
    (of_kind_at (address_of_record a (record_in t i)) (record_in t i).key_area (record_in t i).data_area
    (block_kind_of (record_in t i).key_area (record_in t i).data_area))))

-- a block stands on one of these tracks
pub record StandsIn (g : Geometry) (first tracks : ℕ) (b : Block) : Type 0 where
  pub k : ℕ
  pub below : k < tracks
  pub is : b.address.track ≡ address_of_number g (first + k)

in_run : (g : Geometry) (slots : List (List ℕ)) (first tracks : ℕ)
    → All (StandsIn g first tracks) (blocks_of_run g slots (record { first = first; tracks = tracks }))
in_run g slots first tracks = all_each (StandsIn g first tracks) (λ i. blocks_of_track g slots (first + i)) tracks (λ i low.
    All-weaker (IsOn (address_of_number g (first + i))) (StandsIn g first tracks) (λ b is. record { k = i; below = low; is = is }) _
    (on_track (address_of_number g (first + i)) (track_of (slot_at slots (first + i)))))

-- a block that changes is one of the volume's
abbrev pub IsIts : Labelled → BlockChange → Type 0
IsIts v c = IsOneOf v.blocks c.block

-- the number of a track is that of its address
number_back : (g : Geometry) (n : ℕ) → track_at g (address_of_number g n).cylinder (address_of_number g n).head ≡ n
number_back g n = div-add-mod' n (heads_of g.model)

-- what a volume says whose label and table these are
said_is : (g : Geometry) (slots : List (List ℕ)) (l : VolumeLabel) (t : ContentsBlock) → (contents_of g slots).label ≡ Some l
    → (contents_of g slots).table ≡ Some t → contents_of g slots ≡ said_with l t g slots
said_is g slots l t labelled tabled = by (label_on g slots) refl
  where
    or_label : Option VolumeLabel → VolumeLabel
    or_label (Some it) = it
    or_label None = l

    or_table : Option ContentsBlock → ContentsBlock
    or_table (Some it) = it
    or_table None = t

    with_table : (own : VolumeLabel) (o : Option ContentsBlock) → table_on own.contents g slots ≡ o
        → (said_of_table own g slots o).label ≡ Some l
        → (said_of_table own g slots o).table ≡ Some t → said_of_table own g slots o ≡ said_with l t g slots
    with_table own None e a b = absurd (true≢false (sym (ap (λ (o : Option ContentsBlock). is_some o) b)))
    with_table own (Some it) e a b = λ j. said_with (or_label (a j)) (or_table (b j)) g slots

    by : (o : Option VolumeLabel) → label_on g slots ≡ o → contents_of g slots ≡ said_with l t g slots
    by None e = absurd
        (true≢false (sym (ap (λ (o : Option VolumeLabel). is_some o) (ap (λ o. (said_of_label g slots o).label) (sym e) ∙ labelled))))
    by (Some own) e =
        ap (λ o. said_of_label g slots o) e
        ∙ with_table own (table_on own.contents g slots) refl (ap (λ o. (said_of_label g slots o).label) (sym e) ∙ labelled)
        (ap (λ o. (said_of_label g slots o).table) (sym e) ∙ tabled)

module _ (v : Labelled) (before : List (List ℕ)) (says : SaysOf v.geometry (contents_of v.geometry before) v)
    (none : (contents_of v.geometry before).findings ≡ []) (whole : is_split v.table.extent ≡ false) where
  abbrev g : Geometry
  g = v.geometry

  abbrev extent : Extent
  extent = v.table.extent

  said : contents_of g before ≡ said_with v.label v.table g before
  said = said_is g before v.label v.table says.label says.table

  table_extent : is_table_extent g v.label.contents.track extent ≡ true
  table_extent =
      let all : bad_extent g v.label.contents extent ++ _ ≡ [] = sym (ap (λ (s : Said). s.findings) said) ∙ none in
      by (is_table_extent g v.label.contents.track extent) refl (empty_parts (bad_extent g v.label.contents extent) _ all).0
    where
      by : (b : Bool) → is_table_extent g v.label.contents.track extent ≡ b → bad_extent g v.label.contents extent ≡ []
          → is_table_extent g v.label.contents.track extent ≡ true
      by true e nothing = e
      by false e nothing = let long = ap length (rw e at nothing) in absurd (omega (arith, long))

  on : is_on g extent ≡ true
  on = (and_parts (not (extent.kind == 0)) (is_on g extent) (and_parts _ _ (and_parts _ _ table_extent).0).0).1

  walked : (is_run (heads_of g.model) extent && exists_on g extent.first) ≡ true
  walked = (and_parts (is_run (heads_of g.model) extent && exists_on g extent.first) (exists_on g extent.last) on).0

  abbrev pub first : ℕ
  first = number g extent.first

  abbrev pub tracks : ℕ
  tracks = min (number g extent.last + 1) (tracks_of g) - number g extent.first

  stand : All (StandsIn g first tracks) v.blocks
  stand =
      let are : v.blocks ≡ blocks_of_run g before (walked_of g v.label.contents.track extent) = sym says.blocks
      ∙ ap (λ (s : Said). s.blocks) said in
      rw are (rw walked (in_run g before first tracks))

  -- the track of a control block is the table's
  kept : (b : Block) → StandsIn g first tracks b → is_kept_back v (track_at g b.address.track.cylinder b.address.track.head) ≡ true
  kept b stands =
      let heads = heads_of g.model in
      let n = first + stands.k in
      let below = stands.below in
      let is : track_at g b.address.track.cylinder b.address.track.head ≡ n =
      ap (λ (a : TrackAddress). track_at g a.cylinder a.head) stands.is ∙ number_back g n in
      let low : nat_le (number_of_track heads extent.first) n ≡ true = le-leb (number_of_track heads extent.first) n (omega arith) in
      let high : nat_le n (number_of_track heads extent.last)
      ≡ true = le-leb n (number_of_track heads extent.last) (omega (arith, below)) in
      let has : has_track heads n extent ≡ true =
      ap (λ b. if b then shares_track heads n extent else nat_le (number_of_track heads extent.first) n && nat_le n
      (number_of_track heads extent.last)) whole
      ∙ and_from _ _ low high in
      rw is (or_right (n == 0) _ has)

  pub of_volume : (b : Block) → IsOneOf v.blocks b → StandsIn g first tracks b
  of_volume b one = subst (StandsIn g first tracks) one.is
      (All-get_or (StandsIn g first tracks) v.blocks one.place no_block one.inside stand)

  -- a change of one leaves each other track
  pub one_stays : (c : BlockChange) → StandsIn g first tracks c.block → (slots : List (List ℕ)) (n : ℕ) → is_kept_back v n ≡ false
      → slot_at (changed g c slots) n ≡ slot_at slots n
  one_stays c stands slots n other = by (exists_on g c.block.address.track) refl
    where
      by : (b : Bool) → exists_on g c.block.address.track ≡ b → slot_at (changed g c slots) n ≡ slot_at slots n
      by true e =
          let m = track_at g c.block.address.track.cylinder c.block.address.track.head in
          rw e (get_or-set_other slots m n (changed_slot c (slot_at slots m)) [] (λ same.
          both_ways (is_kept_back v n) other (subst (λ m. is_kept_back v m ≡ true) (sym same) (kept c.block stands))))
      by false e = rw e refl

  all_stay : (changes : List BlockChange) → AreOfVolume v changes → (slots : List (List ℕ)) (n : ℕ) → is_kept_back v n ≡ false
      → slot_at (all_changed g changes slots) n ≡ slot_at slots n
  all_stay [] are slots n other = refl
  all_stay (c ∷ more) are slots n other =
      all_stay more (All-tail (IsIts v) c more are) (changed g c slots) n other
      ∙ one_stays c (of_volume c.block (All-head (IsIts v) c more are)) slots n other

  -- a change of the label's track and of control blocks
  pub own_writes : (now : List (List ℕ)) → ((n : ℕ) → is_kept_back v n ≡ false → slot_at now n ≡ slot_at before n)
      → WritesItsOwn v before now
  own_writes now stay = record {
    others = λ n kept_ free. stay n kept_;
    plain = λ n free. ap (λ slot. is_other (track_of slot)) (stay n (not_kept_back v before n free)) ∙ (free_parts v before n free).other;
  }

pub block_changes_keep : BlockChangesKeep
block_changes_keep v changes before says none are sound clear =
    let now = all_changed v.geometry changes before in
    own_writes_keep v before now sound clear
    (own_writes v before says none clear.whole now (all_stay v before says none clear.whole changes are before))

abbrev block_or : Result BlockChange ChangeRefusal → Block
block_or (Ok c) = c.block
block_or (Err f) = no_block

abbrev slots_or : Result (List (List ℕ)) ChangeRefusal → List (List ℕ)
slots_or (Ok slots) = slots
slots_or (Err f) = []

-- the block that a rename changes is the volume's
named : (v : Labelled) (old new : List ℕ) (c : BlockChange) (o : Option ℕ) → position (has_name old) v.blocks ≡ o
    → rename_at v.blocks new o ≡ Ok c → IsIts v c
named v old new c None is made = absurd (true≢false (sym (ap (λ (r : Result BlockChange ChangeRefusal). is_ok r) made)))
named v old new c (Some i) is made = by (list_any (has_name new) v.blocks) refl
  where
    by : (b : Bool) → list_any (has_name new) v.blocks ≡ b → IsIts v c
    by true e = absurd (true≢false (sym (ap (λ (r : Result BlockChange ChangeRefusal). is_ok r) (rw e at made))))
    by false e = record {
      place = i;
      inside = (position-Some (has_name old) v.blocks i no_block is).0;
      is = ap (λ (r : Result BlockChange ChangeRefusal). block_or r) (rw e at made);
    }

made_of : (v : Labelled) (old new : List ℕ) (before : List (List ℕ)) → SaysOf v.geometry (contents_of v.geometry before) v
    → rename_of (contents_of v.geometry before) old new ≡ rename_at v.blocks new (position (has_name old) v.blocks)
made_of v old new before says = λ j. rename_in (says.label j) (says.table j) (says.blocks j) old new

pub rename_keeps : RenameKeeps
rename_keeps v old new before now says none done sound clear =
    by (rename_of (contents_of v.geometry before) old new) refl done
  where
    by : (r : Result BlockChange ChangeRefusal) → rename_of (contents_of v.geometry before) old new ≡ r
        → slots_behind v.geometry before r ≡ Ok now
        → SetsStay v before now
    by (Err f) made is = absurd (true≢false (sym (ap (λ (r : Result (List (List ℕ)) ChangeRefusal). is_ok r) is)))
    by (Ok c) made is =
        let same : changed v.geometry c before ≡ now = ap (λ (r : Result (List (List ℕ)) ChangeRefusal). slots_or r) is in
        let its = named v old new c (position (has_name old) v.blocks) refl (sym (made_of v old new before says) ∙ made) in
        subst (SetsStay v before) same
        (block_changes_keep v (c ∷ []) before says none (All-cons (IsIts v) c [] its (All-nil (IsIts v))) sound clear)
