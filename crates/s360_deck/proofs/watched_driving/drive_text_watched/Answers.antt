use Rattle.std.proofs.Common.{◌∙◌, Ok, ap, sym}
use Rattle.s360_deck.proofs.Happened.{deck_has_run, spelled_by}
use Rattle.s360_deck.proofs.watched_driving.drive_text_watched.Goals as goal

pub returns-clause-runs : goal.returns-clause-runs
returns-clause-runs g c =
    deck_has_run c.args.text.now c.in_ok-capitals.field-0.capitals.items _ _ _ _ c.as_slice.ensures.value c.requires
    c.in_ok-capitals.ensures.deck c.watch_all.ensures.answered c.watch_all.ensures.follows

pub returns-clause-watched : goal.returns-clause-watched
returns-clause-watched g c m stands = record {
  events = spelled_by c.as_slice.result.now;
  are_these = c.in_ok-capitals.ensures.deck ∙ ap (λ t. Ok (spelled_by t)) (sym c.as_slice.ensures.value);
  answers = c.watch_all.new.answers.items;
  watched = c.watch_all.ensures.watched m stands;
}
