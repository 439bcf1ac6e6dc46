use Rattle.std.proofs.Common.{◌∙◌, sym, arith}
use Rattle.s360_program.specs.Place.{place_of}
use Rattle.s360_program.proofs.Fetches.{transfer_found, good_found}
use Rattle.s360_program.proofs.place.Place.fetch.Goals as goal

pub returns-then-self-clause-fetched : goal.returns-then-self-clause-fetched
returns-then-self-clause-fetched g c =
    let holds = g.M.MainStorage.holds in
    transfer_found (holds c.args.storage.now) (place_of c.args.self.now) c.args.begins c.in-Some.ccw (omega arith) c.in-Some.ensures.word
    (sym c.is_transfer.ensures ∙ c.if-is_transfer.true) c.if-self.true

pub returns-clause-fetched : goal.returns-clause-fetched
returns-clause-fetched g c =
    let holds = g.M.MainStorage.holds in
    good_found (holds c.args.storage.now) (place_of c.args.self.now) c.args.begins c.in-Some.ccw (omega arith) c.in-Some.ensures.word
    (sym c.is_transfer.ensures ∙ c.if-is_transfer.false) (sym c.is_invalid.ensures ∙ c.if-is_invalid.false)
