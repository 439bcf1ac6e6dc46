use Rattle.std.proofs.Common.{◌∙◌, ap, sym, ◌+◌, ◌-◌, ◌≤◌, ◌++◌, ◌∷◌, [], length, map, List, ℕ}
use Rattle.std.proofs.lemmas.List.{map-append}
use Rattle.ckd_track.proofs.Offsets.{are_bytes}
use Rattle.record_tracks.specs.{Records.Areas, Records.areas_of, Records.all_areas, Blocks.first_areas, Blocks.rests_to}
use Rattle.record_tracks.proofs.Rests.{is_empty, has_some, none_left, next_areas, areas_end, at_first, at_last}
use Rattle.record_tracks.proofs.cut_records.push_blocks.Goals as goal

pub loop-k-init : goal.loop-k-init
loop-k-init c = record {
  all = ap (λ (rests : List (List ℕ)). all_areas c.args.records.now.items ++ map (first_areas c.args.cut) rests)
      (sym (at_first c.args.cut c.args.bytes.now));
  bytes = are_bytes c.args.bytes.now c.type_inv.bytes;
}

-- no block is left
pub returns-then-is_empty-clause-records : goal.returns-then-is_empty-clause-records
returns-then-is_empty-clause-records c =
    let left = length c.args.bytes.now - c.loop-k._k in
    let empty = is_empty _ c.is_empty.result c.is_empty.ensures c.if-is_empty.true in
    let none = none_left c.args.cut left c.loop-k.rest.now empty in
    sym (areas_end c.args.cut left c.loop-k.rest.now (all_areas c.loop-k.records.items) none) ∙ c.loop-k.invariant.all

pub loop-k-preserved : goal.loop-k-preserved
loop-k-preserved c =
    let cut = c.args.cut in
    let rest = c.loop-k.rest.now in
    let size = length c.args.bytes.now in
    let before = c.loop-k.records.items in
    let items = c.in_ok-push.ensures.items in
    let some : 1 ≤ length rest = has_some _ c.is_empty.result c.is_empty.ensures c.if-is_empty.false in
    let others : List ℕ → List Areas = λ (left : List ℕ). map (first_areas cut) (rests_to cut (size - (c.loop-k._k + 1)) left) in record {
      all = cc (
        map-append areas_of before (c.first_record.result ∷ []),
        next_areas cut size c.loop-k._k rest c.loop-k-test.true some (all_areas before),
      );
      bytes = c.loop-k.invariant.bytes;
    }

pub returns-clause-records : goal.returns-clause-records
returns-clause-records c =
    let none = at_last c.args.cut (length c.args.bytes.now) c.loop-k._k c.loop-k.rest.now c.loop-k-test.false in
    let left = length c.args.bytes.now - c.loop-k._k in
    sym (areas_end c.args.cut left c.loop-k.rest.now (all_areas c.loop-k.records.items) none) ∙ c.loop-k.invariant.all
