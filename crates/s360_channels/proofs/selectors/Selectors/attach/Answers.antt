use Rattle.std.proofs.Common.{◌%◌}
use Rattle.s360_channel.specs.Channel.{attached}
use Rattle.s360_channels.specs.Adding.{WhyNot}
use Rattle.s360_channels.specs.declared.faults.AttachFault.TheVariants as fault
use Rattle.s360_channels.proofs.Fitting.{attached_behind, fit_behind, here, keeps_selector, loud, seen_here, some_channel, still_alone}
use Rattle.s360_channels.proofs.selectors.Selectors.attach.Goals as goal

pub invariant_of-self-in_default-attach : goal.invariant_of-self-in_default-attach
invariant_of-self-in_default-attach g c =
    let h = here _ c.in-Some.ensures.there c.self.invariant c.in-Some-list.is in
    let k = some_channel h in
    let d = c.in_default-attach.ensures in
    let same = keeps_selector d.attached in
    fit_behind h same (still_alone h same (record {
      machine = attached (c.args.address % 256) c.args.image k.machine;
      stands =
          d.stands _ k.machine k.stands;
    })) loud loud

pub returns-in_default-attach-clause-attached : goal.returns-in_default-attach-clause-attached
returns-in_default-attach-clause-attached g c = λ s.
    let d = c.in_default-attach.ensures in
    let h = here _ c.in-Some.ensures.there c.self.invariant c.in-Some-list.is in
    attached_behind h _ _ s c.self.view_is d.attached (d.not_taken s)

pub returns-clause-refused : goal.returns-clause-refused
returns-clause-refused g c = λ s.
    let h = here _ c.in-Some.ensures.there c.self.invariant c.in-Some-list.is in
    seen_here h (λ o s. WhyNot o (c.args.address % 256) (fault.Refused c.in-Err.fault)) c.self.view_is (c.in-Err.ensures.refused s)
