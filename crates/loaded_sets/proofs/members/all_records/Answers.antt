use Rattle.std.proofs.Common.{◌≡◌, ◌∙◌, ap, sym, subst, ◌≤◌, ◌+◌, Ok, drop, List, ℕ, [], length, map, arith, All, Bor}
use Rattle.std.proofs.lemmas.List.{length-map, take_all}
use Rattle.std.proofs.lemmas.List.Elements.{All-append, All-cons, All-nil}
use Rattle.record_tracks.specs.Blocks.{block_areas}
use Rattle.loaded_sets.specs.Faults.{LoadFault}
use Rattle.loaded_sets.specs.Members.{each_made, fitting}
use Rattle.loaded_sets.specs.LibraryParts.{HasBlocks, IsUnmade}
use Rattle.loaded_sets.proofs.Made.{Made, behind, next_made, not_made, next_found, one_longer, all_made}
use Rattle.loaded_sets.proofs.members.all_records.Goals as goal

pub returns-in-Err-clause-fault : goal.returns-in-Err-clause-fault
returns-in-Err-clause-fault c =
    let m = c.args.measure in
    let make = fitting m.model m.layout m.key_length c.args.cut in
    let all : Made = each_made make 1 (map (λ (f : Bor (List ℕ)). f.now) c.args.members.now) in
    subst (λ (f : LoadFault). IsUnmade f all) (sym c.of_member.ensures)
    (not_made make c.args.members.now c.loop-number.number _ c.loop-number-test.true all _ c.in-Err.fault c.loop-number.invariant.fit
    c.in-Err.ensures.fault)

pub loop-number-preserved : goal.loop-number-preserved
loop-number-preserved c =
    let m = c.args.measure in
    let cut = c.args.cut in
    let k = c.loop-number.number in
    let there = c.loop-number-test.true in
    let make = fitting m.model m.layout m.key_length cut in
    let files : List (List ℕ) = map (λ (f : Bor (List ℕ)). f.now) c.args.members.now in
    let longer = one_longer make c.args.members.now k _ there in record {
      fit = subst (λ (made : List (List ℕ)). each_made make 1 files ≡ behind made (each_made make (k + 1 + 1) (drop (k + 1) files)))
          (sym longer)
          (next_made make c.args.members.now k _ there (each_made make 1 files) _ _ c.loop-number.invariant.fit c.in-Ok.ensures.fits);
      areas = c.in_ok-push_records-in-Ok.ensures.all
          ∙ next_found make c.args.members.now k _ there (block_areas cut) _ _ c.loop-number.invariant.areas c.in-Ok.ensures.areas;
      each = subst (All (HasBlocks m.model cut)) (sym longer)
          (All-append (HasBlocks m.model cut) _ _ c.loop-number.invariant.each (All-cons (HasBlocks m.model cut) _ []
          (record { blocks = c.in-Ok.ensures.blocks; below = c.in-Ok.ensures.bytes }) (All-nil (HasBlocks m.model cut))));
    }

pub returns-clause-fit : goal.returns-clause-fit
returns-clause-fit c =
    let m = c.args.measure in
    let make = fitting m.model m.layout m.key_length c.args.cut in
    let files : List (List ℕ) = map (λ (f : Bor (List ℕ)). f.now) c.args.members.now in
    let past : length files ≤ c.loop-number.number = omega (arith, length-map c.args.members.now (λ (f : Bor (List ℕ)). f.now)) in
    c.loop-number.invariant.fit ∙ all_made make files (c.loop-number.number + 1) _ c.loop-number.number past
    ∙ ap Ok (take_all c.loop-number.number files past)

pub returns-clause-each : goal.returns-clause-each
returns-clause-each c =
    let files : List (List ℕ) = map (λ (f : Bor (List ℕ)). f.now) c.args.members.now in
    let past : length files ≤ c.loop-number.number = omega (arith, length-map c.args.members.now (λ (f : Bor (List ℕ)). f.now)) in
    subst (All (HasBlocks c.args.measure.model c.args.cut)) (take_all c.loop-number.number files past) c.loop-number.invariant.each
