use Rattle.std.proofs.Common.{◌+◌, ◌∙◌, ap, subst, rules}
use Rattle.std.specs.List.{sum}
use Rattle.ckd_image.specs.Header.{accepted}
use Rattle.ckd_image.specs.Image.{ImageState}
use Rattle.ckd_image.specs.Files.{each, listed}
use Rattle.ckd_image.proofs.ImageLemmas.{seen, tracks_held, Saved, WritesSlot, saved}
use Rattle.ckd_image.proofs.images.Image.save.Goals as goal

pub write_slot-requires-clause-exists : goal.write_slot-requires-clause-exists
write_slot-requires-clause-exists g c =
    let i = c.self.inside in
    rw (tracks_held g.S.ImageStore.content i.geometry (listed i.stores) i.tracks c.self.invariant.0 c.self.invariant.1 (search rules))
    (rw (← c.self.view_is) at c.requires.exists)

pub returns : goal.returns
returns g c =
    let i = c.self.inside in
    let e = c.write_slot.ensures in
    let new = each g.S.ImageStore.content (listed c.write_slot.new.stores) in
    let origins = each g.S.ImageStore.origin (listed i.stores) in
    let failures = sum (each g.S.ImageStore.failures (listed c.write_slot.new.stores)) in
    let written : WritesSlot i.geometry (each g.S.ImageStore.content (listed i.stores)) new c.args.slot.now c.args.track
    (sum (each g.S.ImageStore.failures (listed i.stores))) failures c.write_slot.result = record {
      mounts = c.self.invariant.0;
      mounts_now = ap accepted e.heads ∙ c.self.invariant.0;
      exists = rw (← c.self.view_is) at c.requires.exists;
      size = rw (← c.self.view_is) at c.requires.size;
      headers = e.headers;
      written = e.written;
      torn = e.torn;
      counted = e.counted;
    } in
    let it = saved origins i.loads i.saves c.write_slot.result written in
    let k = subst (λ (was : ImageState). Saved was (seen i.geometry new origins failures i.loads (i.saves + 1)) c.args.slot.now c.args.track
    c.write_slot.result) c.self.view_is it in
    rw (e.same, c.next-self-inside.ensures) (record { geometry = k.geometry; ok = k.ok; err = k.err; size = k.size })
