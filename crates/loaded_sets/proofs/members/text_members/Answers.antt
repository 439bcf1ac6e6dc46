use Rattle.std.proofs.Common.{◌∙◌, ap, sym, subst, ◌≤◌, ◌+◌, List, ℕ, length, map, drop, arith, Bor}
use Rattle.std.proofs.lemmas.List.{length-map}
use Rattle.loaded_sets.specs.Faults.{LoadFault}
use Rattle.loaded_sets.specs.Contents.{text_bytes}
use Rattle.loaded_sets.specs.Members.{each_made}
use Rattle.loaded_sets.specs.LibraryParts.{IsUnmade}
use Rattle.loaded_sets.proofs.Made.{Made, behind, next_made, not_made, no_text, all_made}
use Rattle.loaded_sets.proofs.members.text_members.Goals as goal

pub returns-in-Err-clause-fault : goal.returns-in-Err-clause-fault
returns-in-Err-clause-fault c =
    let all : Made = each_made (text_bytes c.args.layout) 1 (map (λ (f : Bor (List ℕ)). f.now) c.args.files.now) in
    subst (λ (f : LoadFault). IsUnmade f all) (sym c.of_member.ensures)
    (not_made (text_bytes c.args.layout) c.args.files.now c.loop-number.number _ c.loop-number-test.true all _ c.in-Err.fault
    c.loop-number.invariant (no_text c.args.layout _ c.in-Err.fault c.in-Err.ensures.fault))

pub loop-number-preserved : goal.loop-number-preserved
loop-number-preserved c =
    let k = c.loop-number.number in
    let make = text_bytes c.args.layout in
    let files : List (List ℕ) = map (λ (f : Bor (List ℕ)). f.now) c.args.files.now in
    next_made make c.args.files.now k _ c.loop-number-test.true (each_made make 1 files) _ _ c.loop-number.invariant c.in-Ok.ensures.bytes
    ∙ ap (λ (made : List (List ℕ)). behind made (each_made make (k + 1 + 1) (drop (k + 1) files)))
    (sym c.in_ok-push_text-in-Ok.ensures.texts)

pub returns-clause-made : goal.returns-clause-made
returns-clause-made c =
    let files : List (List ℕ) = map (λ (f : Bor (List ℕ)). f.now) c.args.files.now in
    let past : length files ≤ c.loop-number.number = omega (arith, length-map c.args.files.now (λ (f : Bor (List ℕ)). f.now)) in
    c.loop-number.invariant ∙ all_made (text_bytes c.args.layout) files (c.loop-number.number + 1) _ c.loop-number.number past
