use Rattle.std.proofs.Common.{◌∙◌, subst, rules, ℕ, List, [], Some}
use Rattle.volume_changes.specs.declared.blocks.BlockChange.{BlockChange}
use Rattle.volume_changes.specs.Blocks.{changed}
use Rattle.loaded_sets.proofs.Changes.{more_changed}
use Rattle.ckd_track.specs.declared.geometries.Geometry.{Geometry}
use Rattle.volume_changes.specs.Deletions.{change_in}
use Rattle.loaded_sets.specs.PlacedParts.{IsLeftOut}
use Rattle.loaded_sets.proofs.RefusedPlaced.{one_left_out}
use Rattle.volume_contents.specs.Contents.{no_block}
use Rattle.loaded_sets.proofs.tables.write_blocks.Goals as goal

abbrev no_change : BlockChange
no_change = record { block = no_block; key = []; bytes = [] }

pub loop-change-preserved : goal.loop-change-preserved
loop-change-preserved c =
    let was = c.loop-change.invariant in
    let now = c.in_ok-write_on_table.ensures in
    let others = rw was.same.geometry at now.others in
    let slots = rw was.same.geometry at now.slots in
    let one : List (List ℕ) → BlockChange → List (List ℕ) = λ some x. changed c.args.image.now.geometry x some in record {
      same = record { geometry = now.same.geometry ∙ was.same.geometry; lasting = now.same.lasting ∙ was.same.lasting };
      slots = more_changed one c.loop-change.image.slots c.write_on_table.new.image.slots c.args.image.now.slots c.args.changes.now
          c.loop-change.change-index no_change c.loop-change-test.true slots was.slots;
      others = λ n out. others n out ∙ was.others n out;
      size = now.size ∙ was.size;
    }

pub returns-in_err-write_on_table : goal.returns-in_err-write_on_table
returns-in_err-write_on_table c =
    let was = c.loop-change.invariant in
    let changes = c.args.changes.now in
    let i = c.loop-change.change-index in
    let f = c.in_err-write_on_table.field-0.0 in
    let left = subst (λ (g : Geometry). IsLeftOut f g c.args.extent (Some (change_in changes i))) was.same.geometry
    c.in_err-write_on_table.ensures.fault in
    let why = one_left_out f c.args.image.now.geometry c.args.extent changes i c.loop-change-test.true left in
    let same = was.same in search rules
