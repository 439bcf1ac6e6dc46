use Rattle.std.proofs.Common.{Bool, ◌≡◌, ◌+◌, ◌∙◌, ap, sym, refl, ℕ, zero, suc, ◌≤◌, List, [], ◌∷◌, length, arith, All, length-drop}
use Rattle.std.proofs.Common.{true, false, cond, nat_lt, Option, Some, None}
use Rattle.std.specs.Option.{option_or, option_map}
use Rattle.std.proofs.lemmas.{Bool.Decides.nat_tests, List.Elements.All-drop}
use Rattle.record_tracks.specs.{declared.directory_faults.RefusedEntry.RefusedEntry, DirectoryFaults.AreEntries}
use Rattle.record_tracks.specs.Entries.{EntryContents, all_entries, all_contents}
use Rattle.record_tracks.specs.Directory.{left_behind, going_in, behind_block, Takes}
use Rattle.record_tracks.specs.LibraryFaults.{blocks_from, blocks_taken, room_fault, directory_fault}
use Rattle.record_tracks.proofs.Going.{IsShort, entries_short, all_left, one_behind, none_left, some_fit}
use Rattle.record_tracks.specs.declared.library_faults.LibraryFault.TheVariants as fault
use Rattle.record_tracks.proofs.library_directories.directory_fault.Goals as goal

none_taken : (most : ℕ) → blocks_from most [] ≡ 0
unfolding blocks_from
none_taken zero = refl
none_taken (suc most) = refl

-- they take as many as the fewest that have them all
taken_is : (n most : ℕ) (left : List (List ℕ)) → All IsShort left → Takes left n → length left ≤ most → blocks_from most left ≡ n
unfolding blocks_from
taken_is zero most left each takes few = cc (all_left left, none_taken most)
taken_is (suc n) most [] each takes few = absurd (takes.fewest n refl (none_left n))
taken_is (suc n) zero (e ∷ others) each takes few = absurd (omega arith)
taken_is (suc n) (suc most) (e ∷ others) each takes few =
    let left = e ∷ others in
    let behind = behind_block left in
    let some = some_fit left 0 each (omega arith) in
    let fewest = λ (m : ℕ) (is : suc m ≡ n) (none : left_behind behind m ≡ []). takes.fewest (suc m) (ap (λ (k : ℕ). suc k) is)
    (one_behind left m ∙ none) in
    ap (λ (k : ℕ). suc k) (taken_is n most behind (All-drop IsShort (going_in 2 left) left each)
    (record { all = sym (one_behind left n) ∙ takes.all; fewest = fewest }) (omega (arith, length-drop (going_in 2 left) left)))

-- Entries that a directory can have, and the number of blocks that they take.
module _ (blocks : ℕ) (entries : List EntryContents) (n : ℕ) (are : AreEntries entries) (takes : Takes (all_entries entries) n) where
  taken : blocks_taken (all_entries entries) ≡ n
  taken = taken_is n (length (all_entries entries)) (all_entries entries) (entries_short entries are.each) takes (omega arith)

  only_room : directory_fault blocks entries ≡ room_fault blocks entries
  only_room = ap
      (λ (r : Option RefusedEntry). option_or (option_map (λ r. fault.Entry (r.number + 1) r.fault) r) (room_fault blocks entries))
      are.not_refused

  fault_is : (few : Bool) → nat_lt blocks n ≡ few → cond few (Some (fault.FewBlocks n)) None ≡ directory_fault blocks entries
  fault_is few is = sym (only_room ∙ ap (λ (m : ℕ). cond (nat_lt blocks m) (Some (fault.FewBlocks m)) None) taken ∙ rw is refl)

pub returns-then-blocks-needed-clause-fault : goal.returns-then-blocks-needed-clause-fault
returns-then-blocks-needed-clause-fault c =
    fault_is c.args.blocks (all_contents c.args.entries.now) c.blocks_needed-needed.result c.in_default.ensures.fits
    c.blocks_needed-needed.ensures.blocks true (grind (arith, nat_tests, c.if-blocks-needed.true))

pub returns-clause-fault : goal.returns-clause-fault
returns-clause-fault c = fault_is c.args.blocks (all_contents c.args.entries.now) c.blocks_needed-needed.result c.in_default.ensures.fits
    c.blocks_needed-needed.ensures.blocks false (grind (arith, nat_tests, c.if-blocks-needed.false))
