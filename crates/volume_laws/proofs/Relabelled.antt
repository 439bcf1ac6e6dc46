-- A change of the volume label leaves the tracks of data sets.
use Rattle.std.proofs.Common.{◌≡◌, ◌∙◌, ap, sym, refl, subst, ℕ, ◌==◌, Bool, true, false, List, [], ◌∷◌, fold, set}
use Rattle.std.proofs.Common.{Result, Ok, Err, Option, Some, None, All, get_or-set_other}
use Rattle.std.proofs.lemmas.Bool.{or_parts, both_ways, eq-eqb}
use Rattle.std.proofs.lemmas.List.Elements.{All-head, All-tail, All-from_get_or}
use Rattle.ckd_track.specs.Changes.{overwritten}
use Rattle.ckd_track.specs.Model.{heads_of}
use Rattle.new_labels.specs.Runs.{has_track}
use Rattle.volume_contents.specs.declared.blocks.Block.{Block}
use Rattle.volume_contents.specs.Contents.{no_block, slot_at, contents_of}
use Rattle.volume_changes.specs.declared.labels.LabelFields.{LabelFields}
use Rattle.volume_changes.specs.declared.refusal.ChangeRefusal.{ChangeRefusal}
use Rattle.volume_changes.specs.Labels.{has_serial, relabelled_slot}
use Rattle.volume_changes.specs.Volumes.{serial_in, relabelled_with}
use Rattle.loaded_sets.specs.Volumes.{Labelled, SaysOf}
use Rattle.volume_laws.specs.Changes.{is_kept_back, IsClear, SetsStay, IsOneOf, RelabelKeeps}
use Rattle.volume_laws.proofs.Kept.{own_writes_keep}
use Rattle.volume_laws.proofs.Blocks.{one_stays, of_volume, own_writes}

module _ (v : Labelled) (before : List (List ℕ)) (says : SaysOf v.geometry (contents_of v.geometry before) v)
    (none : (contents_of v.geometry before).findings ≡ []) (clear : IsClear v before) where
  serial_stays : (old : List ℕ) (new : Option (List ℕ)) (b : Block) → IsOneOf v.blocks b → (slots : List (List ℕ)) (n : ℕ)
      → is_kept_back v n ≡ false → slot_at (serial_in v.geometry old new slots b) n ≡ slot_at slots n
  serial_stays old None b one slots n other = refl
  serial_stays old (Some new) b one slots n other = by (has_serial old b) refl
    where
      by : (x : Bool) → has_serial old b ≡ x → slot_at (serial_in v.geometry old (Some new) slots b) n ≡ slot_at slots n
      by true e = rw e (one_stays v before says none clear.whole (record { block = b; key = b.key; bytes = overwritten b.bytes 1 new })
          (of_volume v before says none clear.whole b one) slots n other)
      by false e = rw e refl

  serials_stay : (old : List ℕ) (new : Option (List ℕ)) (some : List Block) → All (IsOneOf v.blocks) some → (slots : List (List ℕ)) (n : ℕ)
      → is_kept_back v n ≡ false → slot_at (fold (serial_in v.geometry old new) slots some) n ≡ slot_at slots n
  serials_stay old new [] are slots n other = refl
  serials_stay old new (b ∷ more) are slots n other =
      serials_stay old new more (All-tail (IsOneOf v.blocks) b more are) (serial_in v.geometry old new slots b) n other
      ∙ serial_stays old new b (All-head (IsOneOf v.blocks) b more are) slots n other

  all_are : All (IsOneOf v.blocks) v.blocks
  all_are = All-from_get_or (IsOneOf v.blocks) v.blocks no_block (λ i low. record { place = i; inside = low; is = refl })

  label_stays : (fields : LabelFields) (n : ℕ) → is_kept_back v n ≡ false
      → slot_at (fold (serial_in v.geometry v.label.serial fields.serial)
      (set before 0 (relabelled_slot fields (slot_at before 0))) v.blocks) n ≡ slot_at before n
  label_stays fields n other =
      let not_label = (or_parts (n == 0) (has_track (heads_of v.geometry.model) n v.table.extent) other).0 in
      serials_stay v.label.serial fields.serial v.blocks all_are (set before 0 (relabelled_slot fields (slot_at before 0))) n other
      ∙ get_or-set_other before 0 n (relabelled_slot fields (slot_at before 0)) [] (λ same. both_ways (n == 0) not_label (eq-eqb n 0 same))

abbrev slots_or : Result (List (List ℕ)) ChangeRefusal → List (List ℕ)
slots_or (Ok slots) = slots
slots_or (Err f) = []

pub relabel_keeps : RelabelKeeps
relabel_keeps v fields before now says none done sound clear =
    let made = fold (serial_in v.geometry v.label.serial fields.serial)
    (set before 0 (relabelled_slot fields (slot_at before 0))) v.blocks in
    let all : relabelled_with fields v.geometry before v.blocks (Some v.label) ≡ Ok now =
    (λ j. relabelled_with fields v.geometry before (sym says.blocks j) (sym says.label j)) ∙ done in
    let same : made ≡ now = ap (λ (r : Result (List (List ℕ)) ChangeRefusal). slots_or r) all in
    subst (SetsStay v before) same (own_writes_keep v before made sound clear (own_writes v before says none clear.whole made
    (label_stays v before says none clear fields)))
