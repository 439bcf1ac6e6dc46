use Rattle.std.proofs.Common.{arith}
use Rattle.s360_channels.proofs.Copies.{before, none_behind}
use Rattle.s360_channels.proofs.copying.copy_list.Goals as goal

pub returns : goal.returns
returns g c =
    let seven = c.type_inv.list in
    before c.args.list.now 0 _ seven (omega arith) c.in_ok-copy_selector.ensures
    (before c.args.list.now 1 _ seven (omega arith) c.in_ok-copy_selector-2.ensures
    (before c.args.list.now 2 _ seven (omega arith) c.in_ok-copy_selector-3.ensures
    (before c.args.list.now 3 _ seven (omega arith) c.in_ok-copy_selector-4.ensures
    (before c.args.list.now 4 _ seven (omega arith) c.in_ok-copy_selector-5.ensures
    (before c.args.list.now 5 _ seven (omega arith) c.in_ok-copy_selector-6.ensures
    (before c.args.list.now 6 _ seven (omega arith) c.in_ok-copy_selector-7.ensures (none_behind c.args.list.now seven)))))))
