use Rattle.s360_deck.proofs.Happened.{deck_has_run}
use Rattle.s360_deck.proofs.driving.drive_text.Goals as goal

pub returns-clause-runs : goal.returns-clause-runs
returns-clause-runs g c =
    deck_has_run c.args.text.now c.in_ok-capitals.field-0.capitals.items _ _ _ _ c.as_slice.ensures.value c.requires
    c.in_ok-capitals.ensures.deck c.react_to_all.ensures.answered c.react_to_all.ensures.follows
