use Rattle.std.proofs.Common.{◌∙◌, ◌+◌, ℕ, length, ap, sym, [], slice_range}
use Rattle.std.proofs.lemmas.Result.{on_ok_weaker}
use Rattle.ckd_image.specs.Files.{file_at, held, listed}
use Rattle.ckd_image.proofs.FileLemmas.{located_at, range_located, Changed, each_same, tracks_same, counted_all}
use Rattle.ckd_image.proofs.files.read_slot.Goals as goal

pub read_store-requires : goal.read_store-requires
read_store-requires g c =
    let l = located_at g.S.ImageStore.content c.args.size (listed c.args.stores.now) c.args.tracks.now c.args.track c.place_of-place.result
    c.requires.held (sym c.requires.count) c.requires.exists c.place_of-place.ensures.place in
    record { exists = l.exists; there = l.there; within = rw (c.slot_start.ensures, c.requires.whole) l.within }

pub returns : goal.returns
returns g c =
    let content = g.S.ImageStore.content in
    let files = listed c.args.stores.now in
    let new = listed c.read_store.new.stores in
    let p = c.place_of-place.result in
    let e = c.read_store.ensures in
    let l = located_at content c.args.size files c.args.tracks.now c.args.track p c.requires.held (sym c.requires.count) c.requires.exists
    c.place_of-place.ensures.place in
    let x : Changed files new p.file = record { exists = l.exists; there = l.there; stays = e.there; is = e.files } in
    let range = ap (λ (n : ℕ). slice_range (held content [] (file_at files p.file)) c.slot_start.result (c.slot_start.result + n))
    c.requires.whole ∙ range_located content c.args.size files c.args.track c.slot_start.result p l c.slot_start.ensures in
    record {
      read = on_ok_weaker c.read_store.result (λ read. read ∙ range) e.read;
      one = rw (← c.place_of-place.ensures.place) e.files;
      kept = each_same content [] files new p.file x e.kept;
      held = tracks_same content c.args.size files new c.args.tracks.now p.file x c.requires.held (ap length e.kept);
      same = each_same g.S.ImageStore.origin [] files new p.file x e.same;
      counted = counted_all g.S.ImageStore.failures files new p.file c.read_store.result x e.counted;
    }
