use Rattle.std.proofs.Common.{◌≡◌, ◌∙◌, [], map, arith, ap, sym, take}
use Rattle.std.proofs.lemmas.List.{take_all}
use Rattle.ckd_image.specs.Header.{head_of, headers_of}
use Rattle.ckd_image.specs.Files.{each}
use Rattle.ckd_image.proofs.ReadLemmas.{one_more_header, header_missed, length-heads}
use Rattle.ckd_image.proofs.files.read_headers.Goals as goal

pub returns-in-Err : goal.returns-in-Err
returns-in-Err g c =
    let e = c.read_header_at.ensures in
    let k = header_missed g.S.ImageStore.content g.S.ImageStore.origin g.S.ImageStore.failures c.args.files.now c.loop-place.files
    c.read_header_at.new.files c.loop-place.place c.loop-place.read.items c.in-Err.fault c.requires.there c.loop-place.invariant
    (let t = c.loop-place-test.true in omega arith) e.files e.there e.kept e.same c.in-Err.ensures.err in
    record { ok = tt; sizes = tt; count = tt; err = k.err; kept = k.kept; same = k.same; none = tt; there = k.there }

pub loop-place-preserved : goal.loop-place-preserved
loop-place-preserved g c =
    let e = c.read_header_at.ensures in
    let ok = c.in-Ok.ensures in
    rw c.push.ensures.items (one_more_header g.S.ImageStore.content g.S.ImageStore.origin g.S.ImageStore.failures c.args.files.now
    c.loop-place.files c.read_header_at.new.files c.loop-place.place c.loop-place.read.items c.in-Ok.header c.requires.there
    c.loop-place.invariant (let t = c.loop-place-test.true in omega arith) e.files e.there e.kept e.same ok.none ok.ok ok.size)

pub returns-clause-ok : goal.returns-clause-ok
returns-clause-ok g c =
    let heads = map head_of (each g.S.ImageStore.content c.args.files.now) in
    let all : take c.loop-place.place heads ≡ heads =
    take_all c.loop-place.place heads (omega (
      arith,
      length-heads g.S.ImageStore.content c.args.files.now c.requires.there,
      c.loop-place-test.false,
    )) in
    ap (headers_of []) (sym all) ∙ c.loop-place.invariant.front
