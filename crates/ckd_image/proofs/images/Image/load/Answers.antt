use Rattle.std.proofs.Common.{◌∙◌, [], get_or, ap, rules}
use Rattle.std.proofs.lemmas.Result.{on_ok_weaker}
use Rattle.ckd_image.specs.Image.{ImageState}
use Rattle.ckd_image.specs.Files.{each, listed}
use Rattle.ckd_image.proofs.ImageLemmas.{tracks_held, slot_is}
use Rattle.ckd_image.proofs.images.Image.load.Goals as goal

pub read_slot-requires-clause-exists : goal.read_slot-requires-clause-exists
read_slot-requires-clause-exists g c =
    let i = c.self.inside in
    rw (tracks_held g.S.ImageStore.content i.geometry (listed i.stores) i.tracks c.self.invariant.0 c.self.invariant.1 (search rules))
    (rw (← c.self.view_is) at c.requires.exists)

pub returns-clause-slot : goal.returns-clause-slot
returns-clause-slot g c =
    let i = c.self.inside in
    let is = slot_is i.geometry (each g.S.ImageStore.content (listed i.stores)) c.args.track (rw (← c.self.view_is) at c.requires.exists)
    ∙ ap (λ (v : ImageState). get_or v.slots c.args.track []) c.self.view_is in
    on_ok_weaker c.read_slot.result (λ read. read ∙ is) c.read_slot.ensures.read
