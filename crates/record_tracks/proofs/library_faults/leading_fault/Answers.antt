use Rattle.std.proofs.Common.{inl, inr, ◌≡◌, ◌<◌, ◌≤◌, ℕ, List, Bool, false, get_or, length, nat_le, arith, All, None, ◌∙◌, sym}
use Rattle.std.proofs.lemmas.{Bool.cases_Bool, Bool.Decides.nat_tests, List.Sums.fails_before_first, List.Folds.list_any_at}
use Rattle.std.proofs.lemmas.Grind.{common_steps}
use Rattle.std.specs.List.{position, position_or_len, list_any}
use Rattle.record_tracks.specs.{declared.libraries.NewLibrary.NewLibrary, declared.libraries.MemberNote.MemberNote, Placed.Leads}
use Rattle.record_tracks.specs.{Library.blocks_of_member, LibraryFaults.lacks_member, LibraryFaults.lacks_block}
use Rattle.record_tracks.proofs.library_faults.leading_fault.Goals as goal

none_passes : {X : Type 0} (p : X → Bool) (xs : List X) → position p xs ≡ None → All (λ x. p x ≡ false) xs
none_passes p xs none k d there =
    let past : length xs ≤ position_or_len p xs = grind (arith, common_steps) in fails_before_first p xs k d (omega arith)

not_any : {X : Type 0} (p : X → Bool) (xs : List X) → list_any p xs ≡ false → All (λ x. p x ≡ false) xs
not_any p xs none k d there = elim (cases_Bool (p (get_or xs k d))) [
  | inl is ↦ let some = list_any_at p xs k d there is in absurd cc
  | inr is ↦ is
]

below : (n m : ℕ) → nat_le n m ≡ false → m < n
below n m is = grind (arith, nat_tests)

all_lead : (l : NewLibrary) → position (lacks_member l) l.entries.now ≡ None → position (lacks_block l) l.entries.now ≡ None
    → All (Leads l) l.entries.now
all_lead l members blocks k d there = let e = get_or l.entries.now k d in record {
  member = below (length l.members.now) e.member (none_passes (lacks_member l) l.entries.now members k d there);
  notes = λ j n here. below (length (blocks_of_member l.members.now e.member)) (get_or e.notes.now j n).block
      (not_any (λ (x : MemberNote). nat_le (length (blocks_of_member l.members.now e.member)) x.block) e.notes.now
      (none_passes (lacks_block l) l.entries.now blocks k d there) j n here);
}

pub returns-clause-lead : goal.returns-clause-lead
returns-clause-lead c = all_lead c.args.library.now (sym c.without_member.ensures ∙ c.in_default.is)
    (sym c.without_block.ensures ∙ c.in_default-without_block.is)
