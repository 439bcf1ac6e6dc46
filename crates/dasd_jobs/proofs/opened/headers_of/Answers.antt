use Rattle.std.proofs.Common.{◌≡◌, ◌∙◌, ◌+◌, ◌++◌, ◌∷◌, ◌<◌, [], None, List, ℕ, length, map, take, slice_index_or, subst, sym, arith, rules}
use Rattle.std.proofs.Common.{tests}
use Rattle.std.specs.List.{AllZip}
use Rattle.std.proofs.lemmas.List.{length-map}
use Rattle.dasd_jobs.specs.Sources.{Content, IsHeader}
use Rattle.dasd_jobs.proofs.Volumes.{next_header}
use Rattle.dasd_jobs.proofs.opened.headers_of.Goals as goal

pub loop-i-preserved : goal.loop-i-preserved
loop-i-preserved g c =
    let content = g.O.OpenedFile.content in
    let contents = map content c.args.files.now.items in
    let i = c.loop-i.invariant in
    let pushed : c.push.new.self.items ≡ c.loop-i.headers.items ++ c.in-Ok.header ∷ [] = search (rules, tests) in
    let inside : c.loop-i.i < length contents =
    (let below = c.loop-i-test.true in let long = length-map c.args.files.now.items content in omega (arith, below, long)) in
    record {
      same = c.header_of.ensures.kept ∙ i.same;
      headers = subst (λ (l : List (List ℕ)). AllZip IsHeader (take (c.loop-i.i + 1) contents) l) (sym pushed)
          (next_header contents c.loop-i.i c.loop-i.headers.items c.in-Ok.header inside i.headers
          (subst (λ (cs : List Content). IsHeader (slice_index_or cs c.loop-i.i None) c.in-Ok.header) i.same c.in-Ok.ensures.header));
    }
