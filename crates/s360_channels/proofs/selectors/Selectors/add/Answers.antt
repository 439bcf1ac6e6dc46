use Rattle.std.proofs.Common.{◌<◌, subst, sym, false}
use Rattle.attached_drives.proofs.Places.{inside}
use Rattle.s360_channels.specs.Inside.{Fits}
use Rattle.s360_channels.proofs.Fitting.{fit_set, loud, new_fits}
use Rattle.s360_channels.proofs.selectors.Selectors.add.Goals as goal

pub returns-in_default-clause-refused : goal.returns-in_default-clause-refused
returns-in_default-clause-refused g c = c.place.ensures.beyond c.in_default.is

pub invariant_of-self : goal.invariant_of-self
invariant_of-self g c =
    let p = c.in-Some.ensures.there in
    let i = c.self.inside in
    let fits = new_fits c.args.number i.size c.in-Ok.selector c.in-Ok.ensures.ok (subst (λ n. n < 7) p.same p.within) in
    fit_set i.size _ _ i.list c.in-Some.place _ c.self.invariant loud
    (λ d e. subst (Fits c.in-Some.place i.size false) (inside c.in-Ok.selector d e)
    (subst (λ n. Fits n i.size false c.in-Ok.selector) (sym p.same) fits))
