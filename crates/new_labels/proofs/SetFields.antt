-- Control blocks, in the fields that were written.
use Rattle.std.proofs.Common.{◌≡◌, ◌∙◌, ap, refl, ℕ, zero, suc, ◌+◌, List, [], ◌∷◌, ◌++◌, length, drop, replicate, slice_index_or, arith}
use Rattle.std.proofs.lemmas.List.{drop_more, drop_all}
use Rattle.ckd_track.specs.Changes.{overwritten}
use Rattle.volume_labels.specs.Labels.{data_set_block_of}
use Rattle.new_labels.proofs.Fields.{two_bytes}
use Rattle.new_labels.specs.declared.set_blocks.NewDataSet.{NewDataSet}
use Rattle.new_labels.specs.SetBlocks.{extent_bytes, numbers_bytes, form_bytes, length_bytes, last_bytes, data_set_data, data_set_read}

-- how long the fields of a block of format 1 are
record HaveLengths (serial numbers system form lengths allocation last extent : List ℕ) : Type 0 where
  of_serial : length serial ≡ 6
  of_numbers : length numbers ≡ 9
  of_system : length system ≡ 20
  of_form : length form ≡ 4
  of_lengths : length lengths ≡ 5
  of_allocation : length allocation ≡ 7
  of_last : length last ≡ 5
  of_extent : length extent ≡ 10

-- the fields of a block of format 1, one written over the other from the last to the first
data_set_fields : (serial numbers system form lengths allocation last extent : List ℕ)
    → HaveLengths serial numbers system form lengths allocation last extent
    → overwritten (overwritten (overwritten (overwritten (overwritten (overwritten (overwritten (overwritten (overwritten (replicate 96 0)
    61 extent) 54 last) 47 allocation) 42 lengths) 38 form) 18 system) 7 numbers) 1 serial) 0 (0xF1 ∷ [])
    ≡ 0xF1 ∷ serial ++ (numbers ++ (0 ∷ 0 ∷ system ++ (form ++ (lengths ++ (allocation ++ (last ++ (0 ∷ 0 ∷ extent ++ replicate 25 0)))))))
data_set_fields serial numbers system form lengths allocation last extent are =
    rw (
      are.of_serial,
      are.of_numbers,
      are.of_system,
      are.of_form,
      are.of_lengths,
      are.of_allocation,
      are.of_last,
      are.of_extent,
    ) refl

-- a list of so many elements, from a place on
abbrev listed : (b : ℕ → ℕ) → (n at : ℕ) → List ℕ
listed b zero at = []
listed b (suc n) at = b at ∷ listed b n (at + 1)

listed_are : (s : List ℕ) (n at : ℕ) → length s ≡ at + n → drop at s ≡ listed (λ i. slice_index_or s i 0) n at
listed_are s zero at is = drop_all at s (omega (arith, is))
listed_are s (suc n) at is =
    drop_more s at 0 (omega (arith, is))
    ∙ ap (λ (rest : List ℕ). slice_index_or s at 0 ∷ rest) (listed_are s n (at + 1) (is ∙ omega arith))

-- the block is read whose serial number and kept fields have these bytes
spelled_out : (s : NewDataSet) (b y a : ℕ → ℕ) → s.serial ≡ listed b 6 0 → s.kept.system ≡ listed y 20 0 → s.kept.allocation ≡ listed a 7 0
    → data_set_block_of s.name (data_set_data s) ≡ data_set_read s
spelled_out s b y a is system allocation =
    rw (
      is,
      system,
      allocation,
      two_bytes s.created.day,
      two_bytes s.expires.day,
      two_bytes s.organisation,
      two_bytes s.block_length,
      two_bytes s.record_length,
      two_bytes s.last.track,
      two_bytes s.balance,
      two_bytes s.extent.first.cylinder,
      two_bytes s.extent.first.head,
      two_bytes s.extent.last.cylinder,
      two_bytes s.extent.last.head,
    ) refl

pub data_set_is_read : (s : NewDataSet) → length s.serial ≡ 6 → length s.kept.system ≡ 20 → length s.kept.allocation ≡ 7
    → data_set_block_of s.name (data_set_data s) ≡ data_set_read s
data_set_is_read s six twenty seven =
    spelled_out s (λ i. slice_index_or s.serial i 0) (λ i. slice_index_or s.kept.system i 0) (λ i. slice_index_or s.kept.allocation i 0)
    (listed_are s.serial 6 0 six) (listed_are s.kept.system 20 0 twenty) (listed_are s.kept.allocation 7 0 seven)

-- what the parts of its block are
pub record AreParts (s : NewDataSet) (numbers form lengths last extent : List ℕ) : Type 0 where
  pub numbers_are : numbers ≡ numbers_bytes s.created s.expires
  pub form_is : form ≡ form_bytes s.organisation s.format s.kept.options
  pub lengths_are : lengths ≡ length_bytes s.block_length s.record_length s.key_length
  pub last_is : last ≡ last_bytes s.last s.balance
  pub extent_is : extent ≡ extent_bytes s.extent

-- the same of what was written for a data set
pub data_set_written : (s : NewDataSet) (now numbers form lengths last extent : List ℕ) → length s.serial ≡ 6
    → length s.kept.system ≡ 20 → length s.kept.allocation ≡ 7
    → now ≡ overwritten (overwritten (overwritten (overwritten (overwritten (overwritten (overwritten (overwritten (overwritten
    (replicate 96 0)
    61 extent) 54 last) 47 s.kept.allocation) 42 lengths) 38 form) 18 s.kept.system) 7 numbers) 1 s.serial)
    0 (0xF1 ∷ [])
    → AreParts s numbers form lengths last extent → now ≡ data_set_data s
data_set_written s now numbers form lengths last extent six twenty seven written are =
    rw (written, are.numbers_are, are.form_is, are.lengths_are, are.last_is, are.extent_is)
    (data_set_fields s.serial (numbers_bytes s.created s.expires) s.kept.system (form_bytes s.organisation s.format s.kept.options)
    (length_bytes s.block_length s.record_length s.key_length) s.kept.allocation (last_bytes s.last s.balance) (extent_bytes s.extent)
    (record {
      of_serial = six;
      of_numbers = refl;
      of_system = twenty;
      of_form = refl;
      of_lengths = refl;
      of_allocation = seven;
      of_last = refl;
      of_extent = refl;
    }))
