use Rattle.std.proofs.Common.{arith}
use Rattle.loaded_sets.proofs.Within.{last_within}
use Rattle.loaded_sets.proofs.plans.new_set.Goals as goal

pub overflow_cast-result : goal.overflow_cast-result
overflow_cast-result c =
    let last = c.last_place-track.ensures in
    let place = last_within c.args.volume.now.geometry.model c.args.set.now c.args.run.tracks c.args.set.now.last
    c.last_place-track.result.track c.last_place-track.result.number c.requires.takes c.requires.few
    (record { none = λ e. (last.track e, last.number e); some = last.place }) in
    omega (arith, place)
