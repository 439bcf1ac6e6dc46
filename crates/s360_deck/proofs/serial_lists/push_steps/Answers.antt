use Rattle.std.proofs.Common.{rules, tests, ◌≡◌, ◌/◌, ◌%◌, ◌==◌, ◌++◌, ◌∷◌, [], true, false}
use Rattle.s360_laws.specs.declared.events.Event.TheVariants.{Step}
use Rattle.s360_deck.proofs.SerialParts.{exact_steps, more_steps, seen_more}
use Rattle.s360_deck.proofs.serial_lists.push_steps.Goals as goal

pub returns-then-rest-eq0 : goal.returns-then-rest-eq0
returns-then-rest-eq0 c =
    let whole : c.loop.counter ≡ c.args.units / 65535 = search (rules, tests) in
    let none : (c.args.units % 65535 == 0) ≡ true = search (rules, tests) in
    exact_steps _ _ c.args.units c.loop.counter whole none c.loop.invariant

pub returns : goal.returns
returns c =
    let whole : c.loop.counter ≡ c.args.units / 65535 = search (rules, tests) in
    let some : (c.args.units % 65535 == 0) ≡ false = search (rules, tests) in
    let pushed : c.push-2.new.self.items ≡ c.loop.events.items ++ Step (c.args.units % 65535) ∷ [] = search rules in
    more_steps _ _ c.args.units c.loop.counter whole some (seen_more c.loop.events.items _ (Step (c.args.units % 65535)) _ pushed
    c.loop.invariant)
