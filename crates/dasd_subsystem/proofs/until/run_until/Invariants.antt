use Rattle.std.proofs.Common.{◌≡◌}
use Rattle.s360_storage.specs.Kept.{KeepsStorage}
use Rattle.s360_channels.specs.Channels.{OnChannel}
use Rattle.s360_channels.specs.Selectors.{across}
use Rattle.dasd_subsystem.specs.Until.{AreFew}
use Rattle.dasd_subsystem.proofs.Goes.{Goes}
use Rattle.dasd_subsystem.proofs.until.run_until.Given as goal

-- so many units were done, and none before the last was one to stop behind
abbrev pub invariant-loop : goal.invariant-loop
invariant-loop g l =
    let holds = g.M.MainStorage.holds in record {
      goes : OnChannel l.wanted.channel (Goes l.wanted.until l.counter l.counts l.before l.stopped) ⊥
          (across l.initial.channels (holds l.initial.storage)) (across l.channels (holds l.storage));
      units : l.counts.units ≡ l.counter;
      few : AreFew l.counts;
      same : l.channels.size ≡ l.initial.channels.size;
      keeps : KeepsStorage (holds l.initial.storage) (holds l.storage);
      place : g.M.MainStorage.place l.storage ≡ g.M.MainStorage.place l.initial.storage;
    }
