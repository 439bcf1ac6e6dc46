use Rattle.std.proofs.Common.{◌≡◌, ◌∙◌, ◌≤◌, ap, sym, List, take, arith}
use Rattle.std.proofs.lemmas.List.{take-take}
use Rattle.ckd_track.specs.Track.{Record}
use Rattle.ckd_track.specs.Charges.{capacity_left}
use Rattle.ckd_slot.proofs.charges.Charged.keep.Goals as goal

pub returns-else-self-records-clause-kept : goal.returns-else-self-records-clause-kept
returns-else-self-records-clause-kept c = λ old new same is.
    (let n = c.args.self.now.records in
    let le : n ≤ c.args.records = omega arith in
    let first : take n old ≡ take n new = sym (take-take n c.args.records old le) ∙ ap (λ (rs : List Record). take n rs) (sym same)
    ∙ take-take n c.args.records new le in
    is ∙ ap (λ (rs : List Record). capacity_left c.args.self.now.model rs) first)
