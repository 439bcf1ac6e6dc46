use Rattle.std.proofs.Common.{rules, ap, ℕ, None}
use Rattle.dasd_subsystem.specs.Shown.{arm_shown, unit_shown}
use Rattle.dasd_subsystem.proofs.Drives.{mapped}
use Rattle.dasd_subsystem.proofs.shown.ShownChannel.of.Goals as goal

pub returns : goal.returns
returns c = (
  (
    ap (λ (n : ℕ × ℕ × ℕ). n.0) c.seen-subchannel.ensures,
    ap (λ (n : ℕ × ℕ × ℕ). n.1) c.seen-subchannel.ensures,
    ap (λ (n : ℕ × ℕ × ℕ). n.2) c.seen-subchannel.ensures,
  ),
  c.count_of.ensures,
  mapped unit_shown c.args.view.drives c.map.result 8 (search rules) c.map.ensures.items.long (λ k h. let (p, q, called) =
      c.map.ensures.items.at k None 0 h in called.met),
  mapped arm_shown c.args.view.drives c.map-2.result 8 (search rules) c.map-2.ensures.items.long (λ k h. let (p, q, called) =
      c.map-2.ensures.items.at k None 0 h in called.met),
)
