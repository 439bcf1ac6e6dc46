use Rattle.std.proofs.Common.{arith}
use Rattle.new_labels.specs.Texts.{name_characters}
use Rattle.new_labels.proofs.Codes.{is_there, byte_there, passed, none}
use Rattle.new_labels.proofs.texts.encoded.Goals as goal

pub returns-then-i-character : goal.returns-then-i-character
unfolding name_characters
returns-then-i-character c =
    let character = c.args.character in
    let i = c.loop-i.i in
    let same = c.if-i-character.true in
    (is_there character i c.loop-i-test.true same, byte_there character i c.loop-i-test.true same)

pub loop-i-preserved : goal.loop-i-preserved
unfolding name_characters
loop-i-preserved c = passed c.args.character c.loop-i.i c.loop-i-test.true c.loop-i.invariant c.if-i-character.false

pub returns : goal.returns
unfolding name_characters
returns c =
    let done = c.loop-i-test.false in
    none c.args.character c.loop-i.i (omega arith) c.loop-i.invariant
