use Rattle.ckd_image.specs.Files.{each, listed}
use Rattle.ckd_image.proofs.ImageLemmas.{holds_image}
use Rattle.ckd_image.proofs.images.Image.into_stores.Goals as goal

pub returns-clause-holds : goal.returns-clause-holds
returns-clause-holds g c =
    let i = c.self.inside in
    rw (c.in_list.ensures.content, c.array_of.ensures, ← c.self.view_is)
    (holds_image i.geometry (each g.S.ImageStore.content (listed i.stores)) _ _ _ _ c.self.invariant.0)
