use Rattle.ckd_image.proofs.ReadLemmas.{HeadersRead}
use Rattle.ckd_image.proofs.files.read_headers.Given as goal

abbrev pub invariant-loop-place : goal.invariant-loop-place
invariant-loop-place g l = HeadersRead g.S.ImageStore.content g.S.ImageStore.origin g.S.ImageStore.failures l.fn.files l.files l.place
    l.read.items
