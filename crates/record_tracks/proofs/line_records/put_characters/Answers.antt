use Rattle.std.proofs.Common.{◌∙◌, length, sym, arith}
use Rattle.std.proofs.lemmas.{List.length_push, Iterator.Consumers.YieldsList-turn, Iterator.Consumers.YieldsList-end}
use Rattle.std.proofs.lemmas.Iterator.{YieldsList-from_chars}
use Rattle.std.specs.Str.{chars}
use Rattle.record_tracks.proofs.TextSpelled.{none_spelled, one_spelled, not_spelled, all_spelled}
use Rattle.record_tracks.proofs.line_records.put_characters.Goals as goal

pub loop-character-init : goal.loop-character-init
loop-character-init c = none_spelled (chars c.args.text.now) c.args.records.now.items

pub returns-in_default : goal.returns-in_default
returns-in_default c =
    let t = YieldsList-turn
    (YieldsList-from_chars c.args.text.now c.utf8.text cc) c.loop-character.yielded _ c.loop-character.yielded_by _ _
    c.in-Some.character c.in-Some.is c.next.ensures.steps in
    not_spelled (chars c.args.text.now) c.args.records.now.items c.loop-character.records.items (length c.loop-character.yielded)
    c.in-Some.character t c.loop-character.invariant (sym c.in_default.is ∙ c.code.ensures)

pub loop-character-preserved : goal.loop-character-preserved
loop-character-preserved c =
    let t = YieldsList-turn
    (YieldsList-from_chars c.args.text.now c.utf8.text cc) c.loop-character.yielded _ c.loop-character.yielded_by _ _
    c.in-Some.character c.in-Some.is c.next.ensures.steps in
    rw (length_push c.loop-character.yielded c.in-Some.character) (one_spelled (chars c.args.text.now) c.args.records.now.items
    c.loop-character.records.items c.push.new.self.items (length c.loop-character.yielded) c.in-Some.character c.in-Some-code.byte t
    c.loop-character.invariant (sym c.in-Some-code.is ∙ c.code.ensures) c.in_ok-push.ensures.items)

pub returns : goal.returns
returns c =
    let t = YieldsList-end (YieldsList-from_chars c.args.text.now c.utf8.text cc) c.loop-character.yielded _ c.loop-character.yielded_by _ _
    c.in-None.is c.next.ensures.steps in
    all_spelled (chars c.args.text.now) c.args.records.now.items c.loop-character.records.items (length c.loop-character.yielded)
    (omega arith) c.loop-character.invariant
