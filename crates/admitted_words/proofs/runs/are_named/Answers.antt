use Rattle.std.proofs.Common.{◌≡◌, ◌∙◌, ◌∷◌, drop, drop-cons, ap, sym, suc, map}
use Rattle.std.proofs.lemmas.List.{drop_all}
use Rattle.dasd_words.specs.declared.volumes.Volume.{Volume}
use Rattle.admitted_words.proofs.Volumes.{not_named, all_named}
use Rattle.admitted_words.proofs.runs.are_named.Goals as goal

pub returns-in-None : goal.returns-in-None
returns-in-None c =
    let i = c.loop-volume.volume-index in
    let volumes = c.args.volumes.now in
    let parts : drop i volumes ≡ c.volume-item.result ∷ drop (suc i) volumes =
    drop-cons volumes i c.volume-item.result c.loop-volume-test.true
    ∙ ap (λ (v : Volume). v ∷ drop (suc i) volumes) (sym c.volume-item.is) in
    not_named volumes (drop (suc i) volumes) c.volume-item.result (map (λ word. word.now) c.args.words.now)
    (map (λ word. word.now) (drop c.loop-volume.at c.args.words.now)) i parts c.loop-volume.invariant c.in-None.ensures

pub returns : goal.returns
returns c =
    all_named c.args.volumes.now c.args.words.now c.loop-volume.at c.loop-volume.volume-index
    (drop_all c.loop-volume.volume-index c.args.volumes.now c.loop-volume-test.false) c.loop-volume.invariant
