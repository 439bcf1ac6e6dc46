use Rattle.std.proofs.Common.{◌≡◌, ◌∙◌, ◌<◌, length, None, arith}
use Rattle.std.proofs.lemmas.List.{get_or-set_other}
use Rattle.ckd_image.specs.Files.{file_at}
use Rattle.ckd_image.proofs.ReadLemmas.{one_more_each}
use Rattle.ckd_image.proofs.files.in_list.Goals as goal

pub loop-place-preserved : goal.loop-place-preserved
loop-place-preserved g c =
    let i = c.loop-place.invariant in
    let place = c.loop-place.place in
    let old = c.loop-place.stores.items in
    let now = c.append.new.stores.items in
    let file = c.take_file-file.result in
    let here : file ≡ file_at c.args.files place = c.take_file-file.ensures.file ∙ i.rest place (omega arith) in
    let below : place < length c.args.files = let t = c.loop-place-test.true in let e = i.long in omega arith in
    record {
      content = one_more_each g.S.ImageStore.content c.args.files place old now file i.content below here c.append.ensures.content;
      origins = one_more_each g.S.ImageStore.origin c.args.files place old now file i.origins below here c.append.ensures.origins;
      failures = one_more_each g.S.ImageStore.failures c.args.files place old now file i.failures below here c.append.ensures.failures;
      there = c.append.ensures.there;
      long = i.long;
      room = let a = c.append.ensures.count in let b = i.room in omega arith;
      rest = λ k h. rw c.take_file-file.ensures.files (get_or-set_other c.loop-place.files place k None None (λ e. absurd (omega arith)))
          ∙ i.rest k (omega arith);
    }
