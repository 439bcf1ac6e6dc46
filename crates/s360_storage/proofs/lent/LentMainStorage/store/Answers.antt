use Rattle.std.proofs.Common.{◌≡◌, length, take, sym, ap, arith}
use Rattle.s360_words.proofs.Overwriting.{overwritten-none}
use Rattle.s360_storage.specs.Lent.{lent}
use Rattle.s360_storage.proofs.lent.LentMainStorage.store.Goals as goal

pub returns-else-n-gt0-clause-change : goal.returns-else-n-gt0-clause-change
returns-else-n-gt0-clause-change c =
    let s = c.args.self.now in
    let n : c.reach-n.result ≡ 0 = omega (arith, c.if-n-gt0.false) in
    let none : length (take c.reach-n.result c.args.bytes.now) ≡ 0 = ap (λ n. length (take n c.args.bytes.now)) n in
    sym (ap (λ b. lent b s.keys.now) (overwritten-none s.bytes.now c.args.at (take c.reach-n.result c.args.bytes.now) none))
