use Rattle.std.proofs.Common.{◌∙◌, ◌++◌, ◌+◌, ◌<◌, ◌≤◌, ap, sym, List, length, drop, arith}
use Rattle.member_changes.specs.declared.places.BlockPlace.{BlockPlace}
use Rattle.member_changes.specs.Places.{places_from}
use Rattle.member_changes.proofs.Placing.{passed, ended, none}
use Rattle.member_changes.proofs.places.push_each.Goals as goal

pub returns-then-not-is_block : goal.returns-then-not-is_block
returns-then-not-is_block c =
    let inside : c.loop-number.number < length c.args.view.now.records = omega arith in
    ended c.args.track c.loop-number.number c.args.view.now.records _ c.loop-number.places.items inside
    (sym c.is_block.ensures ∙ c.if-not-is_block.true) c.loop-number.invariant

pub loop-number-preserved : goal.loop-number-preserved
loop-number-preserved c =
    let track = c.args.track in
    let i = c.loop-number.number in
    let rs = c.args.view.now.records in
    let inside : i < length rs = omega arith in
    passed track i rs _ c.loop-number.places.items inside (sym c.is_block.ensures ∙ c.if-not-is_block.false) c.loop-number.invariant
    ∙ ap (λ (l : List BlockPlace). l ++ places_from track (i + 1) (drop (i + 1) rs)) (sym c.in_ok-push.ensures)

pub returns : goal.returns
returns c =
    let past : length c.args.view.now.records ≤ c.loop-number.number = omega arith in
    none c.args.track c.loop-number.number c.args.view.now.records _ c.loop-number.places.items past c.loop-number.invariant
