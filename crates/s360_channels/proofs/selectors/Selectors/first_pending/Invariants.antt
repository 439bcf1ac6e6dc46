use Rattle.std.proofs.Common.{ℕ, ◌<◌, ◌≡◌, false, true}
use Rattle.s360_channels.specs.Channels.{numbered}
use Rattle.s360_channels.specs.Inside.{PendsAt}
use Rattle.s360_channels.specs.Interrupting.{is_open}
use Rattle.s360_channels.proofs.selectors.Selectors.first_pending.Given as goal

-- no lower number waits
abbrev pub invariant-loop-number : goal.invariant-loop-number
invariant-loop-number g l = (lower : ℕ) → lower < l.number → is_open l.mask lower ≡ true → PendsAt false (numbered lower l.self.channels)
