use Rattle.std.proofs.Common.{refl, subst, sym, arith}
use Rattle.s360_laws.specs.Events.{Reset, WasReset}
use Rattle.attached_drives.specs.Drives.{AllRest}
use Rattle.s360_channel.proofs.Calling.{cut_allowed, rest_all, resets, resets_to}
use Rattle.s360_channel.proofs.Selecting.{does_selector, calls_over}
use Rattle.s360_channel.proofs.selector.Selector.reset.Goals as goal

pub lose_program-unsaved-requires : goal.lose_program-unsaved-requires
lose_program-unsaved-requires g c = let is = c.self.invariant.is_over.channel in (omega arith, cut_allowed _ is.machine is.stands)

pub reset-requires : goal.reset-requires
reset-requires g c =
    let is = c.self.invariant.is_over.channel in
    let l = c.lose_program-unsaved in
    (omega arith, (resets _ is.machine is.stands l.new.drives l.result l.ensures.lost).0)

pub invariant_of-self : goal.invariant_of-self
invariant_of-self g c =
    let l = c.lose_program-unsaved in
    does_selector Reset (WasReset l.result) 1 _ _ _ c.self.invariant.storage c.self.invariant.is_over refl
    (record { size = refl; keys = refl })
    (λ m s. resets_to _ m s l.new.drives l.result l.ensures.lost l.new.subchannel c.reset.new.self l.ensures.idle c.reset.ensures)

pub returns-clause-does : goal.returns-clause-does
returns-clause-does g c =
    let l = c.lose_program-unsaved in
    rw (← c.self.view_is) (λ t m s. (resets_to _ m s l.new.drives l.result l.ensures.lost l.new.subchannel c.reset.new.self l.ensures.idle
    c.reset.ensures).0)

pub returns-clause-rests : goal.returns-clause-rests
returns-clause-rests g c =
    let is = c.self.invariant.is_over.channel in
    let l = c.lose_program-unsaved in
    subst AllRest (sym c.reset.ensures) (rest_all _ (resets _ is.machine is.stands l.new.drives l.result l.ensures.lost).0)

pub returns-clause-calls : goal.returns-clause-calls
returns-clause-calls g c =
    let is = c.self.invariant.is_over.channel in
    let l = c.lose_program-unsaved in
    rw (← c.self.view_is) (λ t. calls_over 1 _ _ t t (resets_to _ is.machine is.stands l.new.drives l.result l.ensures.lost
    l.new.subchannel c.reset.new.self l.ensures.idle c.reset.ensures).1)
