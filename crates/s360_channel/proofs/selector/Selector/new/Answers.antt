use Rattle.std.proofs.Common.{rules, [], ◌/◌}
use Rattle.std.proofs.lemmas.List.{length-replicate}
use Rattle.s360_words.specs.Storage.{cleared}
use Rattle.s360_laws.specs.Machine as machine
use Rattle.s360_channel.specs.Channel.{machine_of}
use Rattle.s360_channel.specs.declared.subchannel.Subchannel.TheVariants.{Idle}
use Rattle.s360_channel.specs.Nexts.{of_parts}
use Rattle.s360_channel.proofs.selector.Selector.new.Goals as goal

pub invariant_of-result : goal.invariant_of-result
invariant_of-result g c = record {
  storage = cleared c.args.size;
  is_over = record {
    size = length-replicate c.args.size 0;
    keys = length-replicate (c.args.size / 2048) 0;
    channel = record {
      machine = machine_of (of_parts c.args.number (cleared c.args.size) Idle []) machine.Idle;
      stands = record { number = search rules; few = search rules; shows = search rules; sound = search rules };
    };
  };
}
