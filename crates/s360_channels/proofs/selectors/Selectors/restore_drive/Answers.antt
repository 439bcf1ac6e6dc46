use Rattle.std.proofs.Common.{◌%◌}
use Rattle.s360_channel.specs.Restores.{with_saved}
use Rattle.s360_channels.specs.Restores.{RefusedRestore}
use Rattle.s360_channels.specs.declared.faults.RestoreFault.TheVariants as fault
use Rattle.s360_channels.proofs.Fitting.{calls_behind, fit_behind, here, loud, same_storage, seen_here, some_channel, still_alone}
use Rattle.s360_channels.proofs.selectors.Selectors.restore_drive.Goals as goal

pub returns-in-Err-clause-refused : goal.returns-in-Err-clause-refused
returns-in-Err-clause-refused g c = λ s.
    let h = here _ c.in-Some.ensures.there c.self.invariant c.in-Some-list.is in
    seen_here h (λ o s. RefusedRestore o s (c.args.address % 256) c.args.saved (fault.Refused c.in-Err.fault)) c.self.view_is
    (c.in-Err.ensures.refused s)

pub invariant_of-self-2 : goal.invariant_of-self-2
invariant_of-self-2 g c =
    let h = here _ c.in-Some.ensures.there c.self.invariant c.in-Some-list.is in
    let k = some_channel h in
    let d = c.in-Ok.ensures in
    fit_behind h d.same
    (still_alone h d.same (record {
      machine = with_saved (c.args.address % 256) c.args.saved k.machine;
      stands = (d.restored _ k.machine k.stands).stands;
    })) loud loud

pub returns-clause-restored : goal.returns-clause-restored
returns-clause-restored g c = λ s.
    let d = c.in-Ok.ensures in
    let h = here _ c.in-Some.ensures.there c.self.invariant c.in-Some-list.is in
    calls_behind h _ _ c.self.view_is d.same (same_storage s) (d.restored s)
