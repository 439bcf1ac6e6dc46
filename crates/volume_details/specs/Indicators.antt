-- The indicators of a data set, in its format 1 block (System Control Blocks, 'Data Set Control Block', DS1DSIND), and the types of extents.
use Rattle.std.specs.Prelude.{ℕ, ◌==◌, Bool, not, if◌then◌else◌, List, slice_index, bit_and, codes}
use Rattle.volume_contents.specs.declared.blocks.Block.{Block}
use Rattle.volume_details.specs.declared.indicators.Protection.{Protection}
use Rattle.volume_details.specs.declared.indicators.Protection.TheVariants as protection

abbrev pub indicators_of : Block → ℕ
indicators_of b = slice_index b.bytes 49

-- bit 0: this is the last volume of the data set
abbrev pub is_last_volume : Block → Bool
is_last_volume b = not (bit_and (indicators_of b) 0x80 == 0)

-- bit 3: a password protects the data set; bit 5: it does so against writes alone
abbrev pub protection_of : Block → Protection
protection_of b =
    if bit_and (indicators_of b) 0x10 == 0 then protection.None
    else (if bit_and (indicators_of b) 0x04 == 0 then protection.All
    else protection.Writes)

-- the type of an extent (DS1EXT1)
abbrev pub type_text : ℕ → List ℕ
type_text kind =
    if kind == 0x01 then codes "data"
    else (if kind == 0x02 then codes "overflow"
    else (if kind == 0x04 then codes "index"
    else (if kind == 0x40 then codes "user labels"
    else (if kind == 0x80 then codes "shared cylinders"
    else (if kind == 0x81 then codes "whole cylinders"
    else codes "of an unknown type")))))
