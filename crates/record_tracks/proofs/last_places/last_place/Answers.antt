use Rattle.std.proofs.Common.{◌≡◌, ◌-◌, arith}
use Rattle.record_tracks.proofs.Listed.{areas_between}
use Rattle.record_tracks.proofs.last_places.last_place.Goals as goal

pub returns-clause-balance : goal.returns-clause-balance
returns-clause-balance c =
    let blocks = c.args.records.now in
    let place = c.place_of-track.ensures in
    let n = c.place_of-track.result.number in
    let first = c.args.count - c.from.result in
    let count : c.args.count - first ≡ n = omega arith in
    let before : first ≡ place.before = omega arith in cc (areas_between blocks first (c.args.count - first))
