use Rattle.std.proofs.Common.{◌%◌}
use Rattle.s360_channel.specs.Restores.{with_pending}
use Rattle.s360_channels.specs.Restores.{RefusedPending}
use Rattle.s360_channels.specs.declared.faults.PendingFault.TheVariants as fault
use Rattle.s360_channels.proofs.Fitting.{calls_behind, fit_behind, here, loud, same_storage, seen_here, some_channel, still_alone}
use Rattle.s360_channels.proofs.selectors.Selectors.restore_pending.Goals as goal

pub returns-in-Err-clause-refused : goal.returns-in-Err-clause-refused
returns-in-Err-clause-refused g c = λ s.
    let h = here _ c.in-Some.ensures.there c.self.invariant c.in-Some-list.is in
    seen_here h (λ o s. RefusedPending o s (c.args.address % 256) c.args.csw (fault.Refused c.in-Err.fault)) c.self.view_is
    (c.in-Err.ensures.refused s)

pub invariant_of-self-2 : goal.invariant_of-self-2
invariant_of-self-2 g c =
    let h = here _ c.in-Some.ensures.there c.self.invariant c.in-Some-list.is in
    let k = some_channel h in
    let d = c.in-Ok.ensures in
    fit_behind h d.same
    (still_alone h d.same (record {
      machine = with_pending (c.args.address % 256) c.args.csw k.machine;
      stands = d.stands _ k.machine k.stands;
    })) loud loud

pub returns-clause-pends : goal.returns-clause-pends
returns-clause-pends g c = λ s.
    let d = c.in-Ok.ensures in
    let h = here _ c.in-Some.ensures.there c.self.invariant c.in-Some-list.is in
    calls_behind h _ _ c.self.view_is d.same (same_storage s) (d.stands s)
