use Rattle.std.proofs.Common.{ℕ, ◌<◌, false}
use Rattle.s360_channels.specs.Channels.{numbered}
use Rattle.s360_channels.specs.Inside.{PendsAt}
use Rattle.s360_channels.proofs.selectors.Selectors.none_pends.Given as goal

-- nothing pends at a lower number
abbrev pub invariant-loop-number : goal.invariant-loop-number
invariant-loop-number g l = (lower : ℕ) → lower < l.number → PendsAt false (numbered lower l.self.channels)
