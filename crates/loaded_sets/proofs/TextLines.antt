-- A text that was put onto a volume is read as its lines.
use Rattle.std.proofs.Common.{◌≡◌, ◌∙◌, ap, sym, refl, subst, ℕ, zero, suc, ◌-◌, ◌*◌, ◌/◌, ◌%◌, ◌≤◌, ◌==◌, Bool, true, false, cond, not}
use Rattle.std.proofs.Common.{nat_lt, List, length, arith, Option, Some, None}
use Rattle.std.proofs.lemmas.Bool.Decides.{nat_tests}
use Rattle.std.proofs.lemmas.Nat.{div-add-mod'}
use Rattle.ckd_track.specs.declared.model.DriveModel.{DriveModel}
use Rattle.ckd_track.specs.declared.geometries.Geometry.{Geometry}
use Rattle.ckd_track.specs.Model.{capacity_of}
use Rattle.volume_labels.specs.declared.records.RecordForm.TheVariants.{Fixed}
use Rattle.dasd_extract.specs.declared.blocks.ExtractedForm.TheVariants.{Text}
use Rattle.dasd_extract.specs.Walk.{wanted, source_written}
use Rattle.record_tracks.specs.declared.blocks.Cut.{Cut}
use Rattle.record_tracks.specs.declared.blocks.Cut.TheVariants.{Length}
use Rattle.record_tracks.specs.declared.block_faults.BlockFault.{BlockFault}
use Rattle.record_tracks.specs.declared.block_faults.BlockFault.TheVariants as fault
use Rattle.record_tracks.specs.Blocks.{areas_of}
use Rattle.record_tracks.specs.Extracted.{first_block}
use Rattle.record_tracks.specs.BlockFaults.{block_fault_of, cut_fault, fixed_fault, lacks_keys}
use Rattle.volume_labels.specs.declared.layouts.Layout.{Layout}
use Rattle.record_tracks.specs.Tracks.{Takes}
use Rattle.record_tracks.specs.ReadBack.{IsLoaded, ended_by_file}
use Rattle.record_tracks.specs.Printed.{layout_of, printed}
use Rattle.record_tracks.proofs.Printed.{is_printed}
use Rattle.volume_labels.specs.declared.fields.Extent.{Extent}
use Rattle.loaded_sets.specs.Contents.{FileBlocks}
use Rattle.loaded_sets.specs.Loaded.{HasLines}

-- where there is no fault, none of its causes is there
passed : (c : Bool) (it : BlockFault) (next : Option BlockFault) → cond c (Some it) next ≡ None → (c ≡ false) × (next ≡ None)
passed true it next is = absurd (cc)
passed false it next is = (refl, is)

behind : (c : Bool) (next : Option BlockFault) → c ≡ false → cond c None next ≡ None → next ≡ None
behind true next not_so is = absurd (cc)
behind false next not_so is = is

-- what blocks of one length without a fault are
pub record Fit (model : DriveModel) (longest size : ℕ) : Type 0 where
  pub some : 1 ≤ longest
  pub most : longest ≤ capacity_of model
  pub whole : longest % size ≡ 0

fixed_whole : (size longest bytes : ℕ) → 1 ≤ size → fixed_fault size longest bytes ≡ None → longest % size ≡ 0
fixed_whole size longest bytes some is =
    let short = cond (not (bytes % size == 0)) (Some fault.ShortRecord) None in
    let lengths = cond (not (longest % size == 0)) (Some fault.Lengths) short in
    let no_zero : (size == 0) ≡ false = grind (arith, nat_tests) in
    let it = passed (not (longest % size == 0)) fault.Lengths short (behind (size == 0) lengths no_zero is) in
    grind (arith, nat_tests, it.0)

pub fit : (model : DriveModel) (l : Layout) (key_length : ℕ) (n : ℕ) (bytes : List ℕ) (size : ℕ) → 1 ≤ size → l.form ≡ Fixed size
    → block_fault_of model l key_length (Length n) bytes ≡ None → Fit model l.longest size
fit model l key_length n bytes size some form is =
    let cut = cut_fault model l key_length (Length n) bytes in
    let long = cond (nat_lt (capacity_of model) l.longest) (Some fault.LongBlock) cut in
    let none = cond (l.longest == 0) (Some fault.NoBlockLength) long in
    let first = passed (lacks_keys key_length (Length n)) fault.Keys none is in
    let second = passed (l.longest == 0) fault.NoBlockLength long first.1 in
    let third = passed (nat_lt (capacity_of model) l.longest) fault.LongBlock cut second.1 in
    let fixed : fixed_fault size l.longest (length bytes) ≡ None = cc in record {
      some = grind (arith, nat_tests, second.0);
      most = grind (arith, nat_tests, third.0);
      whole = fixed_whole size l.longest (length bytes) some fixed;
    }

-- so many whole records
many : (size longest : ℕ) → 1 ≤ size → longest % size ≡ 0 → longest / size * size ≡ longest
many size longest some whole = omega (arith, div-add-mod' longest size, whole)

some_many : (count size : ℕ) → 1 ≤ count * size → 1 ≤ count
some_many zero size some = absurd (omega (arith, some))
some_many (suc n) size some = omega arith

module _ (g : Geometry) (b : FileBlocks) (key_length : ℕ) (fits : block_fault_of g.model b.layout key_length b.cut b.bytes ≡ None) where
  module _ (size : ℕ) (text : List ℕ) (has : HasLines b size text) (tracks : ℕ) where
    module _ (takes : Takes g.model (areas_of b.cut b.bytes) tracks) (extents : List Extent) (slots : List (List ℕ))
        (loaded : IsLoaded g extents slots (areas_of b.cut b.bytes) tracks) where
      it : Fit g.model b.layout.longest size
      it = fit g.model b.layout key_length b.layout.longest b.bytes size has.some has.fixed (cc)

      abbrev count : ℕ
      count = b.layout.longest / size

      size_is : count * size ≡ b.layout.longest
      size_is = many size b.layout.longest has.some it.whole

      cut_is : b.cut ≡ Length (count * size)
      cut_is = has.cut ∙ ap Length (sym size_is)

      layout_is : layout_of size count ≡ b.layout
      layout_is = rw (size_is, has.fixed) refl

      pub lines_read : (most : ℕ) → tracks ≤ most
          → source_written (wanted (Text b.layout) extents first_block most) g slots ≡ ended_by_file (printed text) (tracks - 1)
      lines_read most enough = subst
          (λ (l : Layout). source_written (wanted (Text l) extents first_block most) g slots ≡ ended_by_file (printed text) (tracks - 1))
          layout_is
          (is_printed g extents slots size count text tracks most
          (record {
            some = has.some;
            many = some_many count size (subst (λ (n : ℕ). 1 ≤ n) (sym size_is) it.some);
            most = subst (λ (n : ℕ). n ≤ capacity_of g.model) (sym size_is) it.most;
            records = b.bytes;
            are = has.records;
            takes = subst (λ (c : Cut). Takes g.model (areas_of c b.bytes) tracks) cut_is takes;
            loaded = subst (λ (c : Cut). IsLoaded g extents slots (areas_of c b.bytes) tracks) cut_is loaded;
          }) enough)
