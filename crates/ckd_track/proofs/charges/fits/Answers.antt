-- What fits the capacity has room in its slot, and is no end mark.
use Rattle.std.proofs.Common.{◌≡◌, ◌∙◌, ◌+◌, sym, true, Some, length, length-take, take, arith}
use Rattle.ckd_track.specs.Changes.{kept_records}
use Rattle.ckd_track.specs.Charges.{has_room}
use Rattle.ckd_track.proofs.ChargeLaws.{leaves_room, no_end_mark}
use Rattle.ckd_track.proofs.charges.fits.Goals as goal

-- whether it fits behind the kept records
fits_on : (c : goal.After-fits_behind) → c.fits_behind.result ≡ true
    → has_room c.args.model (kept_records (Some c.in-Some.last) c.args.view.now) c.args.kl c.args.dl ≡ true
fits_on c e =
    let rs = c.args.view.now.records in
    let n : length (take (c.in-Some.last + 1) rs) ≡ c.in-Some.last + 1 = omega (
      arith,
      length-take (c.in-Some.last + 1) rs,
      c.requires c.in-Some.last c.in-Some.is,
    ) in
    sym (c.fits_behind.ensures (take (c.in-Some.last + 1) rs) n c.capacity_behind-left.ensures) ∙ e

pub returns-in-Some-clause-room : goal.returns-in-Some-clause-room
returns-in-Some-clause-room c = λ fits.
    rw c.in-Some.is (leaves_room c.args.model c.args.view.now (Some c.in-Some.last) c.args.kl c.args.dl c.ha.ensures.five
    c.len.ensures.records (fits_on c fits))

pub returns-in-Some-clause-no_end_mark : goal.returns-in-Some-clause-no_end_mark
returns-in-Some-clause-no_end_mark c = λ fits count key body.
    no_end_mark c.args.model (kept_records (Some c.in-Some.last) c.args.view.now) count (rw (key, body) (fits_on c fits))
