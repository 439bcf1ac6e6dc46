use Rattle.std.proofs.Common.{◌≡◌, length, sym, ap, arith}
use Rattle.s360_words.proofs.Overwriting.{overwritten-none}
use Rattle.s360_storage.specs.Lent.{lent}
use Rattle.s360_storage.proofs.lent.LentMainStorage.put.Goals as goal

pub returns-then-is_empty-clause-change : goal.returns-then-is_empty-clause-change
returns-then-is_empty-clause-change c =
    let s = c.args.self.now in
    let none : length c.args.bytes.now ≡ 0 = grind arith in
    sym (ap (λ b. lent b s.keys.now) (overwritten-none s.bytes.now c.args.at c.args.bytes.now none))
