use Rattle.std.proofs.Common.{rules, tests, arith, ◌<◌, ◌≡◌, Ok, Result}
use Rattle.s360_assembler.specs.declared.fault.Cause.{Cause}
use Rattle.s360_assembler.specs.Parts.{DeckState, with_bytes, seen}
use Rattle.s360_assembler.proofs.Pieces.{next_piece}
use Rattle.s360_assembler.proofs.deck.add_pieces.Goals as goal

pub loop-left-preserved : goal.loop-left-preserved
loop-left-preserved c =
    let some : 0 < c.loop-left.left = c.loop-left-test.true in
    let made : ◌≡◌ {A = Result DeckState Cause} (Ok (with_bytes (seen c.loop-left.deck) c.loop-left.place c.split_piece.result.0.now))
    (Ok (seen c.add_bytes.new.deck)) = c.in_ok-add_bytes.ensures in
    record {
      made = rw c.split_piece.ensures.behind (next_piece c.loop-left.left (seen c.loop-left.deck) (seen c.add_bytes.new.deck)
          c.loop-left.place c.loop-left.rest.now _ some (rw c.split_piece.ensures.piece at made) c.loop-left.invariant.made);
      inside = omega (arith, some, c.loop-left.invariant.inside);
    }
