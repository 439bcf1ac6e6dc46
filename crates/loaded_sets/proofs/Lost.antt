-- A volume that says something of itself by which a reader does not find a data set.
use Rattle.std.proofs.Common.{◌≡◌, ◌∙◌, ap, sym, subst, ℕ, List, length, Option, Some, None}
use Rattle.ckd_track.specs.declared.geometries.Geometry.{Geometry}
use Rattle.volume_labels.specs.declared.blocks.ContentsBlock.{ContentsBlock}
use Rattle.volume_contents.specs.declared.blocks.Block.{Block}
use Rattle.volume_contents.specs.declared.reading.Contents.{Contents}
use Rattle.volume_changes.specs.Volumes.{said_in}
use Rattle.volume_labels.specs.declared.fields.RecordAddress.{RecordAddress}
use Rattle.new_labels.specs.declared.set_blocks.NewDataSet.{NewDataSet}
use Rattle.volume_contents.specs.Contents.{Said, contents_of, SaysOf as IsSaid}
use Rattle.loaded_sets.specs.Volumes.{Labelled, SaysOf, unfit_of, unfit_on_label, unfit_on_table, unfit_by}
use Rattle.loaded_sets.specs.Placed.{HasSet}
use Rattle.loaded_sets.specs.PlacedParts.{IsFound, IsListed}
use Rattle.loaded_sets.proofs.Fits.{same_said}

-- a volume that has a data set is one that can get others
pub fit : (v : Labelled) (s : Said) (block : NewDataSet) (a : RecordAddress) (i : ℕ) → HasSet v s block a i → unfit_of v.geometry s ≡ None
fit v s block a i has = ap (unfit_on_label v.geometry s) has.says ∙ ap (unfit_on_table v.geometry s) has.counts ∙ ap unfit_by has.nothing

abbrev table_in : ContentsBlock → Option ContentsBlock → ContentsBlock
table_in other None = other
table_in other (Some t) = t

-- what a volume lists that has a data set
pub listed : (v now : Labelled) (g : Geometry) (s : Said) (block : NewDataSet) (a : RecordAddress) (i : ℕ) → SaysOf g s now
    → HasSet v s block a i → IsListed v now block a i
listed v now g s block a i says has = let table : now.table ≡ has.table = ap (table_in now.table) (sym says.table ∙ has.counts) in record {
  it = subst (λ (b : List Block). IsFound b block i) says.blocks (record { found = has.found; key = has.key; bytes = has.bytes });
  more = ap length (sym says.blocks) ∙ has.more;
  last = ap (λ (t : ContentsBlock). t.last_data_set) table ∙ has.last;
  free = ap (λ (t : ContentsBlock). t.free_blocks) table ∙ has.free;
}

-- a reader does not find a data set that such a volume does not list
pub unlisted : (v now : Labelled) (g : Geometry) (slots : List (List ℕ)) (c : Contents) (block : NewDataSet) (a : RecordAddress)
    → IsSaid (contents_of g slots) c → SaysOf g (said_in c) now → ((i : ℕ) → IsListed v now block a i → ⊥)
    → (i : ℕ) → HasSet v (contents_of g slots) block a i → ⊥
unlisted v now g slots c block a read says not i has =
    let said = subst (λ (s : Said). SaysOf g s now) (same_said (contents_of g slots) c read) says in
    not i (listed v now g (contents_of g slots) block a i said has)
