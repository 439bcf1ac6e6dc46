use Rattle.std.proofs.Common.{rules, tests, not, arith, ap, length}
use Rattle.std.proofs.lemmas.Iterator.Consumers.{YieldsList-end, YieldsList-turn, YieldsList-from_filter, YieldsList-at}
use Rattle.std.proofs.lemmas.Iterator.Splits.{YieldsList-from_slice_split}
use Rattle.s360_deck.specs.Deck.{is_blank, is_empty}
use Rattle.s360_deck.proofs.WordCounts.{words_fit}
use Rattle.s360_deck.proofs.parsing.find_words.Goals as goal

pub returns : goal.returns
returns c =
    rw c.loop-word.invariant
    (YieldsList-end
    (YieldsList-at c.into_iter-word-iterator.ensures.into_iter_gives
    (YieldsList-from_filter _ (λ word. not (is_empty word))
    (YieldsList-at c.filter-found.ensures.source
    (YieldsList-from_slice_split _ is_blank c.args.line.now c.split.ensures.rest c.split.ensures.done c.split.ensures.closure
    (λ x b q k. search (rules, tests))))
    c.filter-found.ensures.closure (λ x b q k. search (rules, tests))))
    c.loop-word.yielded _ c.loop-word.yielded_by c.next.result c.next.new.self c.in-None.is c.next.ensures.steps).0

pub push-requires : goal.push-requires
push-requires c =
    let turn = YieldsList-turn
    (YieldsList-at c.into_iter-word-iterator.ensures.into_iter_gives
    (YieldsList-from_filter _ (λ word. not (is_empty word))
    (YieldsList-at c.filter-found.ensures.source
    (YieldsList-from_slice_split _ is_blank c.args.line.now c.split.ensures.rest c.split.ensures.done c.split.ensures.closure
    (λ x b q k. search (rules, tests))))
    c.filter-found.ensures.closure (λ x b q k. search (rules, tests))))
    c.loop-word.yielded _ c.loop-word.yielded_by c.next.result c.next.new.self c.in-Some.word c.in-Some.is c.next.ensures.steps in
    omega (arith, turn.0, ap length c.loop-word.invariant, words_fit c.args.line.now c.requires)
