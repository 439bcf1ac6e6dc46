use Rattle.std.proofs.Common.{◌∙◌}
use Rattle.s360_words.specs.Storage.{Bytes}
use Rattle.s360_channels.proofs.Changes.{kept_size}
use Rattle.subsystem_calls.proofs.Owning.{own_size}
use Rattle.subsystem_calls.proofs.storing.poke.Goals as goal

pub invariant_of-subsystem-2 : goal.invariant_of-subsystem-2
invariant_of-subsystem-2 c =
    let own = c.args.subsystem.now in
    let s = c.in-Some.storage in
    record {
      fits = kept_size c.put.result (Bytes c.args.at c.args.bytes.now) s c.put.new.self c.put.ensures.change
          ∙ own_size own.storage s own.channels c.in-Some.is own.fits;
    }
