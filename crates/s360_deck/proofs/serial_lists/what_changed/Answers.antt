use Rattle.std.proofs.Common.{rules, tests}
use Rattle.s360_deck.proofs.SerialParts.{all_kept, all_answered}
use Rattle.s360_deck.proofs.serial_lists.what_changed.Goals.{in_default, in_default-2}
use Rattle.s360_deck.proofs.serial_lists.what_changed.Goals as goal

pub returns : goal.returns
returns c = elim c.if-events-lt1.branch [
  | in_default w ↦ search (rules, tests, all_kept, all_answered)
  | in_default-2 w ↦ search (rules, tests, all_kept, all_answered)
]
