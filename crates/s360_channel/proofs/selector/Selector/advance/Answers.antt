use Rattle.std.proofs.Common.{◌≡◌, ◌*◌, refl, Bool, Option, Some, None, arith}
use Rattle.s360_words.specs.declared.words.Csw.{Csw}
use Rattle.s360_laws.specs.Events.{StepBy, Stepped}
use Rattle.attached_drives.specs.DriveCalls.{AdvancesAt}
use Rattle.s360_channel.proofs.Calling.{there, still_there, no_step_does, step_goes_on, step_most, step_ends}
use Rattle.s360_channel.proofs.Quiet.{none_calls}
use Rattle.s360_channel.proofs.Selecting.{does_selector}
use Rattle.s360_channel.proofs.selector.Selector.advance.Goals as goal

none_left : (e : Option (Csw × Bool)) → ((x : Csw × Bool) → e ≡ Some x → ⊥) → e ≡ None
none_left None h = refl
none_left (Some x) h = absurd (h x refl)

pub returns-in_default-clause-does : goal.returns-in_default-clause-does
returns-in_default-clause-does g c = rw (← c.self.view_is) (λ m s. (no_step_does _ m c.args.units c.in_default.not-Working s).0)

pub returns-in_default-clause-calls : goal.returns-in_default-clause-calls
returns-in_default-clause-calls g c = rw (← c.self.view_is) (none_calls _ _ _ refl)

pub advance-advance-requires : goal.advance-advance-requires
advance-advance-requires g c =
    let is = (rw (← c.self.view_is) at c.is_over.ensures).channel in
    (omega arith, there _ is.machine c.in-Working.place c.in-Working.running c.in-Working.is is.stands)

pub end_program-requires : goal.end_program-requires
end_program-requires g c =
    let holds = g.M.MainStorage.holds in (
      omega arith,
      still_there c.in-Working.place
          (AdvancesAt c.in-Working.running (holds c.args.storage.now) c.args.units c.advance-advance.result c.advance-advance.new.running
          (holds c.advance-advance.new.storage)) _ _ c.advance-advance.ensures.advances,
    )

pub invariant_of-self-in-Some : goal.invariant_of-self-in-Some
invariant_of-self-in-Some g c =
    let a = c.advance-advance in
    does_selector (StepBy c.args.units) (Stepped a.result.done) (2 * a.result.done) _ _ _ _ (rw (← c.self.view_is) at c.is_over.ensures)
    refl a.ensures.advances.how.storage (λ m s. step_ends _ m c.in-Working.place c.in-Working.running c.in-Working.is s c.args.units
    a.result a.new.running _ a.new.self a.ensures.advances c.in-Some.csw c.in-Some.motion c.in-Some.is _ _ c.end_program.ensures)

pub invariant_of-self-in_default-ending : goal.invariant_of-self-in_default-ending
invariant_of-self-in_default-ending g c =
    let a = c.advance-advance in
    does_selector (StepBy c.args.units) (Stepped a.result.done) (2 * a.result.done) _ _ _ _ (rw (← c.self.view_is) at c.is_over.ensures)
    refl a.ensures.advances.how.storage (λ m s. step_goes_on _ m c.in-Working.place c.in-Working.running c.in-Working.is s c.args.units
    a.result a.new.running _ a.new.self a.ensures.advances (none_left a.result.ending c.in_default-ending.not-Some))

pub returns-in-Some-clause-does : goal.returns-in-Some-clause-does
returns-in-Some-clause-does g c = rw (← c.self.view_is) (λ m s. let a = c.advance-advance in
    (step_ends _ m c.in-Working.place c.in-Working.running c.in-Working.is s c.args.units a.result a.new.running _ a.new.self
    a.ensures.advances c.in-Some.csw c.in-Some.motion c.in-Some.is _ _ c.end_program.ensures).0)

pub returns-in-Some-clause-most : goal.returns-in-Some-clause-most
returns-in-Some-clause-most g c =
    let a = c.advance-advance in
    let is = (rw (← c.self.view_is) at c.is_over.ensures).channel in
    step_most _ is.machine c.in-Working.place c.in-Working.running c.in-Working.is is.stands c.args.units a.result a.new.running _
    a.new.self a.ensures.advances

pub returns-in-Some-clause-calls : goal.returns-in-Some-clause-calls
returns-in-Some-clause-calls g c =
    let a = c.advance-advance in
    let is = (rw (← c.self.view_is) at c.is_over.ensures).channel in
    rw (← c.self.view_is) (step_ends _ is.machine c.in-Working.place c.in-Working.running c.in-Working.is is.stands c.args.units a.result
    a.new.running _ a.new.self a.ensures.advances c.in-Some.csw c.in-Some.motion c.in-Some.is _ _ c.end_program.ensures).1

pub returns-in-Some-clause-keeps : goal.returns-in-Some-clause-keeps
returns-in-Some-clause-keeps g c = c.advance-advance.ensures.advances.how.storage

pub returns-in_default-ending-clause-does : goal.returns-in_default-ending-clause-does
returns-in_default-ending-clause-does g c = rw (← c.self.view_is) (λ m s. let a = c.advance-advance in
    (step_goes_on _ m c.in-Working.place c.in-Working.running c.in-Working.is s c.args.units a.result a.new.running _ a.new.self
    a.ensures.advances (none_left a.result.ending c.in_default-ending.not-Some)).0)

pub returns-in_default-ending-clause-most : goal.returns-in_default-ending-clause-most
returns-in_default-ending-clause-most g c =
    let a = c.advance-advance in
    let is = (rw (← c.self.view_is) at c.is_over.ensures).channel in
    step_most _ is.machine c.in-Working.place c.in-Working.running c.in-Working.is is.stands c.args.units a.result a.new.running _
    a.new.self a.ensures.advances

pub returns-in_default-ending-clause-calls : goal.returns-in_default-ending-clause-calls
returns-in_default-ending-clause-calls g c =
    let a = c.advance-advance in
    let is = (rw (← c.self.view_is) at c.is_over.ensures).channel in
    rw (← c.self.view_is) (step_goes_on _ is.machine c.in-Working.place c.in-Working.running c.in-Working.is is.stands c.args.units
    a.result a.new.running _ a.new.self a.ensures.advances (none_left a.result.ending c.in_default-ending.not-Some)).1

pub returns-in_default-ending-clause-keeps : goal.returns-in_default-ending-clause-keeps
returns-in_default-ending-clause-keeps g c = c.advance-advance.ensures.advances.how.storage
