use Rattle.std.proofs.Common.{◌≡◌, length, sym, ap, arith}
use Rattle.s360_words.proofs.Overwriting.{overwritten-none}
use Rattle.s360_words.proofs.main_storage.Storage.put.Goals as goal

pub returns-then-is_empty-clause-change : goal.returns-then-is_empty-clause-change
returns-then-is_empty-clause-change c =
    let none : length c.args.bytes.now ≡ 0 = grind arith in
    sym (ap (λ b. record c.args.self.now { bytes = b }) (overwritten-none c.args.self.now.bytes c.args.at c.args.bytes.now none))
