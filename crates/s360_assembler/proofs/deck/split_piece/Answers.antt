use Rattle.std.proofs.Common.{sym}
use Rattle.std.proofs.lemmas.List.{take_all, drop_all}
use Rattle.s360_assembler.proofs.deck.split_piece.Goals as goal

pub returns-then-bytes-le-STORE_LENGTH-clause-piece : goal.returns-then-bytes-le-STORE_LENGTH-clause-piece
returns-then-bytes-le-STORE_LENGTH-clause-piece c = sym (take_all 128 c.args.bytes.now c.if-bytes-le-STORE_LENGTH.true)

pub returns-then-bytes-le-STORE_LENGTH-clause-behind : goal.returns-then-bytes-le-STORE_LENGTH-clause-behind
returns-then-bytes-le-STORE_LENGTH-clause-behind c = sym (drop_all 128 c.args.bytes.now c.if-bytes-le-STORE_LENGTH.true)
