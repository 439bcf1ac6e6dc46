use Rattle.s360_channels.proofs.Fitting.{found_at}
use Rattle.s360_channels.proofs.selectors.Selectors.are_over.Goals as goal

pub returns : goal.returns
returns g c =
    let z = c.size-size.ensures in
    let holds = g.M.MainStorage.holds in
    rw (← c.self.view_is) (λ number d there. found_at number _ (holds c.args.storage.now) c.size-size.result _ d c.self.invariant z.size
    (z.allowed, z.keys)
    (rw (← c.self.view_is) at c.requires) there)
