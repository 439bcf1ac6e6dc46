use Rattle.std.proofs.Common.{arith, ◌+◌, ◌-◌, take, drop, length}
use Rattle.std.proofs.lemmas.Grind.{common_steps}
use Rattle.s360_deck.proofs.TextLines.{first_of_two}
use Rattle.s360_deck.proofs.parsing.split_at_line_feed.Goals as goal

pub returns-in-Some-clause-lines : goal.returns-in-Some-clause-lines
returns-in-Some-clause-lines c some =
    let text = c.args.text.now in
    let at = c.in-Some.at in
    first_of_two text (take at text) (take (length text - (at + 1)) (drop (at + 1) text))
    (grind (arith, common_steps)) (grind (arith, common_steps)) some

pub returns-in-None-clause-lines : goal.returns-in-None-clause-lines
returns-in-None-clause-lines c some =
    let text = c.args.text.now in
    first_of_two text text (take (length text - length text) (drop (length text) text))
    (grind (arith, common_steps)) (grind (arith, common_steps)) some
