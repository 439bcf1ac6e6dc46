use Rattle.ckd_image.specs.Files.{each, listed}
use Rattle.ckd_image.proofs.ImageLemmas.{holds_image}
use Rattle.ckd_image.proofs.images.Image.store.Goals as goal

pub returns : goal.returns
returns g c =
    let files = each g.S.ImageStore.content (listed c.self.inside.stores) in
    rw (← c.self.view_is) (record {
      file = record {
        files = files;
        holds =
            holds_image c.self.inside.geometry files _ _ _ _ c.self.invariant.0;
        is_there = c.store_at.ensures;
      };
    })
