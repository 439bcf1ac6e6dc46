use Rattle.std.proofs.Common.{[], arith, sym}
use Rattle.ckd_image.specs.Files.{listed}
use Rattle.ckd_image.proofs.FileLemmas.{located_at, Changed, each_same, stored_at, counted_all}
use Rattle.ckd_image.proofs.files.write_slot.Goals as goal

pub write_store-requires : goal.write_store-requires
write_store-requires g c =
    let l = located_at g.S.ImageStore.content c.args.size (listed c.args.stores.now) c.args.tracks.now c.args.track c.place_of-place.result
    c.requires.held (sym c.requires.count) c.requires.exists c.place_of-place.ensures.place in
    record { exists = l.exists; there = l.there; within = (let within = l.within in let at = c.slot_start.ensures in omega arith) }

pub returns : goal.returns
returns g c =
    let content = g.S.ImageStore.content in
    let files = listed c.args.stores.now in
    let new = listed c.write_store.new.stores in
    let p = c.place_of-place.result in
    let e = c.write_store.ensures in
    let l = located_at content c.args.size files c.args.tracks.now c.args.track p c.requires.held (sym c.requires.count) c.requires.exists
    c.place_of-place.ensures.place in
    let x : Changed files new p.file = record { exists = l.exists; there = l.there; stays = e.there; is = e.files } in
    let s = stored_at content c.args.size files new c.args.tracks.now c.args.track c.slot_start.result p c.args.slot.now
    c.write_store.result c.requires.held l x c.requires.whole c.slot_start.ensures e.written e.torn in
    record {
      written = s.written;
      torn = s.torn;
      one = rw (← c.place_of-place.ensures.place) e.files;
      heads = s.keeps.heads;
      headers = s.keeps.headers;
      held = s.keeps.tracks_held;
      same = each_same g.S.ImageStore.origin [] files new p.file x e.same;
      counted = counted_all g.S.ImageStore.failures files new p.file c.write_store.result x e.counted;
    }
