use Rattle.std.proofs.Common.{◌∙◌, ◌+◌, ◌++◌, ◌∷◌, [], None, List, ℕ, length, map, take, slice_index_or, subst, sym, ap, arith}
use Rattle.std.specs.List.{AllZip}
use Rattle.std.proofs.lemmas.List.{take_all, length-map}
use Rattle.ckd_image.specs.Files.{each}
use Rattle.dasd_files.specs.Files.{FileState}
use Rattle.dasd_jobs.specs.Sources.{Content, IsWhole, StandsIn}
use Rattle.dasd_jobs.specs.Opening.{IsHeadOf}
use Rattle.dasd_jobs.proofs.Volumes.{both_long, whole_more}
use Rattle.dasd_jobs.proofs.mounting.read_files.Goals as goal

pub loop-i-preserved : goal.loop-i-preserved
loop-i-preserved g c =
    let content = g.O.OpenedFile.content in
    let contents = map content c.args.locked.now.items in
    let i = c.loop-i.invariant in
    let bytes = c.in_ok-bytes.bytes.items in
    let made = c.new.ensures in
    let held = ap (λ (f : FileState). f.content) made in record {
      there = c.append.ensures.there;
      as_made = c.append.ensures.as_made i.as_made (held ∙ sym (ap (λ (f : FileState). f.origin) made));
      count = (let count = c.append.ensures.count in let so_far = i.count in omega (arith, count, so_far));
      same = c.read_bytes.ensures.kept ∙ i.same;
      whole = subst (λ (l : List (List ℕ)). AllZip IsWhole (take (c.loop-i.i + 1) contents) l)
          (sym (c.append.ensures.content ∙ ap (λ (b : List ℕ). each (λ (f : FileState). f.content) c.loop-i.stores.items ++ b ∷ []) held))
          (whole_more contents c.args.heads.now c.loop-i.i _ (each (λ (f : FileState). f.content) c.loop-i.stores.items) bytes
          (let inside = c.loop-i-test.true in let same = both_long IsHeadOf contents c.args.heads.now c.requires.heads in
          omega (arith, inside, same)) c.requires.heads i.whole
          (subst (λ (cs : List Content). StandsIn (slice_index_or cs c.loop-i.i None) 0 bytes) i.same c.in_ok-bytes.ensures.read)
          c.in_ok-bytes.ensures.count);
    }

pub returns-clause-whole : goal.returns-clause-whole
returns-clause-whole g c =
    let content = g.O.OpenedFile.content in
    let contents = map content c.args.locked.now.items in
    subst (λ (cs : List Content). AllZip IsWhole cs (each (λ (f : FileState). f.content) c.loop-i.stores.items))
    (take_all c.loop-i.i contents (let past = c.loop-i-test.false in let same =
    both_long IsHeadOf contents c.args.heads.now c.requires.heads in omega (arith, past, same))) c.loop-i.invariant.whole

pub read_bytes-requires : goal.read_bytes-requires
read_bytes-requires g c =
    let content = g.O.OpenedFile.content in
    let before = length-map c.args.locked.now.items content in
    let now = length-map c.loop-i.locked.items content in
    let same = ap length c.loop-i.invariant.same in
    let heads = both_long IsHeadOf (map content c.args.locked.now.items) c.args.heads.now c.requires.heads in
    let inside = c.loop-i-test.true in omega (arith, before, now, same, heads, inside)

pub append-requires-clause-room : goal.append-requires-clause-room
append-requires-clause-room g c =
    let long = length-map c.args.locked.now.items g.O.OpenedFile.content in
    let heads = both_long IsHeadOf (map g.O.OpenedFile.content c.args.locked.now.items) c.args.heads.now c.requires.heads in
    let room = c.requires.room in
    let so_far = c.loop-i.invariant.count in
    let inside = c.loop-i-test.true in omega (arith, long, heads, room, so_far, inside)
