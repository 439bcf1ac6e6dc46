-- Records that were put onto a volume are the blocks of a file.
use Rattle.std.proofs.Common.{◌≡◌, ◌∙◌, ap, sym, refl, subst, ℕ, ◌+◌, ◌-◌, List, [], ◌∷◌, length, arith, Result, Ok, Err, None, All, IfOk}
use Rattle.std.proofs.Common.{IfErr, inl, inr, length-append}
use Rattle.ckd_track.specs.declared.model.DriveModel.{DriveModel}
use Rattle.record_tracks.specs.Records.{Areas, all_areas, end_of_file, RecordGoesOn}
use Rattle.record_tracks.specs.Tracks.{Takes}
use Rattle.record_tracks.specs.ReadBack.{IsLoaded}
use Rattle.record_tracks.specs.declared.records.NewRecord.{NewRecord}
use Rattle.record_tracks.proofs.Listed.{length-all}
use Rattle.record_tracks.specs.declared.blocks.Cut.{Cut}
use Rattle.record_tracks.specs.Blocks.{areas_of, block_areas}
use Rattle.record_tracks.specs.Extracted.{IsReadBack}
use Rattle.record_tracks.specs.BlockFaults.{block_fault_of}
use Rattle.volume_contents.specs.Contents.{contents_of, block_in}
use Rattle.volume_contents.specs.Sets.{extents_behind, has_name}
use Rattle.std.specs.List.{position}
use Rattle.volume_labels.specs.declared.layouts.Layout.{Layout}
use Rattle.loaded_sets.specs.declared.place_fault.PlaceFault.{PlaceFault}
use Rattle.loaded_sets.specs.declared.place_fault.PlaceFault.TheVariants as place
use Rattle.loaded_sets.specs.declared.plans.PlacedSet.{PlacedSet}
use Rattle.loaded_sets.specs.Volumes.{Labelled}
use Rattle.loaded_sets.specs.Sets.{areas, CanBePlaced}
use Rattle.loaded_sets.specs.Placed.{GetsSet, IsNotPlaced}
use Rattle.loaded_sets.specs.declared.contents.LoadedSet.{LoadedSet}
use Rattle.loaded_sets.specs.Faults.{LoadFault, placing_fault}
use Rattle.changed_volumes.specs.declared.fault.ChangeFault.TheVariants as fault
use Rattle.loaded_sets.specs.declared.fault.LoadRefusal.TheVariants as refusal
use Rattle.loaded_sets.specs.declared.fault.ContentFault.{ContentFault}
use Rattle.loaded_sets.specs.declared.fault.Unmade.{Unmade}
use Rattle.loaded_sets.specs.declared.fault.Unmade.TheVariants as unmade
use Rattle.loaded_sets.specs.declared.contents.SourceForm.TheVariants as source
use Rattle.loaded_sets.specs.Contents.{FileBlocks, label_of, blocks_by, blocks_fitting}
use Rattle.loaded_sets.specs.Contents.{layout_of_set, unless_faulty, told_of_set, IsNoText}
use Rattle.loaded_sets.specs.Loaded.{IsSetOf}
use Rattle.loaded_sets.specs.Parts.{blocks_for, unmade_fault, IsPut, IsNotPut, IsSet, IsNotSet}
use Rattle.loaded_sets.proofs.PlacedRead.{first_loaded}
use Rattle.loaded_sets.proofs.TextLines.{lines_read}

-- records that are the blocks and an end of file are one more than the blocks
pub counted : (records : List NewRecord) (cut : Cut) (bytes : List ℕ) → all_areas records ≡ areas_of cut bytes
    → length records ≡ length (block_areas cut bytes) + 1
counted records cut bytes is = sym (length-all records) ∙ ap length is ∙ length-append (block_areas cut bytes) (end_of_file ∷ [])

-- they can be put onto a volume
pub can_be : (model : DriveModel) (p : PlacedSet) (b : FileBlocks) → areas p ≡ areas_of b.cut b.bytes
    → All (RecordGoesOn model) p.records.now → p.last ≡ length p.records.now - 1 → CanBePlaced model p
can_be model p b is each last = record { each = each; some = omega (arith, counted p.records.now b.cut b.bytes is); last = omega arith }

-- they are those of the data set
pub set_of : (set : LoadedSet) (b : FileBlocks) (p : PlacedSet) → p.name ≡ set.name → p.label ≡ label_of set.form set.kept b.layout
    → areas p ≡ areas_of b.cut b.bytes → p.last ≡ length p.records.now - 1 → IsSetOf set b p
set_of set b p name label is last = record {
  name = name;
  label = label;
  records = is;
  last = last ∙ omega (arith, counted p.records.now b.cut b.bytes is);
}

module _ (v : Labelled) (set : LoadedSet) (b : FileBlocks) (p : PlacedSet) (is : IsSetOf set b p) (slots : List (List ℕ)) where
  module _ (fits : block_fault_of v.geometry.model b.layout set.form.key_length b.cut b.bytes ≡ None) where
    fitting : blocks_fitting v.geometry.model set.form.key_length b ≡ Ok b
    fitting = ap (unless_faulty b) fits

    module _ (tracks : ℕ) (now : List (List ℕ)) (read : IsReadBack v.geometry.model b.cut b.bytes)
        (gets : GetsSet v p slots tracks now) where
      abbrev used : ℕ
      used = gets.gets.room.used

      takes : Takes v.geometry.model (areas_of b.cut b.bytes) used
      takes = subst (λ (a : List Areas). Takes v.geometry.model a used) is.records gets.gets.room.takes

      loaded : IsLoaded v.geometry
          (extents_behind (contents_of v.geometry now).blocks (block_in (contents_of v.geometry now).blocks gets.place))
          now (areas_of b.cut b.bytes) used
      loaded = subst (λ (a : List Areas). IsLoaded v.geometry
          (extents_behind (contents_of v.geometry now).blocks (block_in (contents_of v.geometry now).blocks gets.place)) now a used)
          is.records (first_loaded v p slots tracks now gets)

      pub set_is : IsSet v set b slots tracks now
      set_is = (
        fitting,
        record {
          placed = p;
          is = is;
          gets = gets;
          extracted = λ most enough. read used v.geometry _ now most takes refl enough loaded;
          text = λ size text has. lines_read v.geometry b set.form.key_length fits size text has used takes _ now loaded;
        },
      )

    pub not_set : (f : PlaceFault) → IsNotPlaced f v p slots → IsNotSet (placing_fault f) v set b slots
    not_set (place.Refused r) why = (p, fitting, is, why)
    not_set (place.Job f) why = why

-- the blocks of a file on a volume on which its name is free
module _ (v : Labelled) (set : LoadedSet) (free : position (has_name set.name) v.blocks ≡ None) (l : Layout) where
  module _ (is : layout_of_set set.form ≡ Ok l) (b : FileBlocks) (by : blocks_by set.source l set.bytes.now ≡ Ok b) where
    chosen : blocks_for v set ≡ told_of_set (blocks_fitting v.geometry.model set.form.key_length b)
    chosen = cc

    pub put : (slots : List (List ℕ)) (now : List (List ℕ)) (r : Result ℕ LoadFault) → IfOk r (λ tracks. IsSet v set b slots tracks now)
        → IfOk r (λ tracks. IsPut v set slots tracks now)
    put slots now (Ok tracks) it = (b, chosen ∙ ap told_of_set it.0, it.1)
    put slots now (Err f) it = tt

    pub not_put : (slots : List (List ℕ)) (f : LoadFault) → IsNotSet f v set b slots → IsNotPut f v set slots
    not_put slots (fault.Refused (refusal.Content f)) why = inl (chosen ∙ ap told_of_set why)
    not_put slots (fault.Refused (refusal.Placed r)) (p, fits, is_set, why) = inr (b, p, chosen ∙ ap told_of_set fits, is_set, why)
    not_put slots (fault.Refused refusal.NoName) why = elim why [ ]
    not_put slots (fault.Refused refusal.NameTaken) why = elim why [ ]
    not_put slots (fault.Refused (refusal.Member n f)) why = elim why [ ]
    not_put slots (fault.Refused (refusal.Library f)) why = elim why [ ]
    not_put slots (fault.Job f) why = why
    not_put slots (fault.Save f) why = why

    pub not_put_if : (slots : List (List ℕ)) (r : Result ℕ LoadFault) → IfErr r (λ f. IsNotSet f v set b slots)
        → IfErr r (λ f. IsNotPut f v set slots)
    not_put_if slots (Ok tracks) it = tt
    not_put_if slots (Err f) it = not_put slots f it

  -- its text is none
  pub no_text : layout_of_set set.form ≡ Ok l → set.source ≡ source.Text → (slots : List (List ℕ)) (f : Unmade)
      → IsNoText f l set.bytes.now → IsNotPut (unmade_fault f) v set slots
  no_text is text slots (unmade.Content f) why = inl (cc)
  no_text is text slots unmade.OutOfMemory why = tt

-- the blocks that are made of bytes that are told apart so
pub made_so : (l : Layout) (c : Cut) (bytes : List ℕ) (b : FileBlocks) → b.layout ≡ l → b.cut ≡ c → b.bytes ≡ bytes
    → ◌≡◌ {A = Result FileBlocks ContentFault} (Ok (record { layout = l; cut = c; bytes = bytes })) (Ok b)
made_so l c bytes b layout cut are = rw (sym layout, sym cut, sym are) refl
