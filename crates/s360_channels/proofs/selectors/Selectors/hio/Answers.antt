use Rattle.std.proofs.Common.{arith, ◌≡◌, ap, false, ◌%◌}
use Rattle.s360_laws.specs.Seen.{answer_seen}
use Rattle.s360_laws.specs.declared.answers.Answer.TheVariants as answer
use Rattle.s360_laws.specs.Events.{Hio}
use Rattle.s360_channels.specs.Asked.{has_drive}
use Rattle.s360_channels.proofs.Fitting.{calls_behind, fit_behind, here, lent, does_channel, loud, seen_here, still_lent}
use Rattle.s360_channels.proofs.Missing.{halt_asks}
use Rattle.s360_channels.proofs.selectors.Selectors.hio.Goals as goal

pub hio-requires : goal.hio-requires
hio-requires g c =
    let h = here _ c.in-Some.ensures.there c.self.invariant c.in-Some-list.is in
    (omega arith, (lent h c.self.view_is c.are_over.ensures).is_over.size)

pub invariant_of-self-2 : goal.invariant_of-self-2
invariant_of-self-2 g c =
    let h = here _ c.in-Some.ensures.there c.self.invariant c.in-Some-list.is in
    let found = lent h c.self.view_is c.are_over.ensures in
    let d = c.hio.ensures in
    fit_behind h d.same (still_lent found d.same d.keeps (does_channel (Hio c.args.address) found.is_over.channel d.does)) loud loud

pub returns-clause-does : goal.returns-clause-does
returns-clause-does g c =
    let d = c.hio.ensures in
    let h = here _ c.in-Some.ensures.there c.self.invariant c.in-Some-list.is in
    calls_behind h _ _ c.self.view_is d.same d.keeps (record { does = d.does; calls = d.calls })

pub returns-clause-missing : goal.returns-clause-missing
returns-clause-missing g c = λ three.
    let h = here _ c.in-Some.ensures.there c.self.invariant c.in-Some-list.is in
    let found = lent h c.self.view_is c.are_over.ensures in
    let k = found.is_over.channel in
    let told = c.hio.ensures.does k.machine k.stands in
    seen_here h (λ o s. has_drive (c.args.address % 256) o ≡ false) c.self.view_is
    (halt_asks c.args.address _ k.machine k.stands found.own_number told.fault _
    (ap (λ r. answer_seen (answer.Hio c.args.address r)) three)
    told.answers)
