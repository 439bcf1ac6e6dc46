use Rattle.std.proofs.Common.{◌∙◌, ◌+◌, ◌++◌, ◌∷◌, [], ap, sym, map, take, List, ℕ, Bor}
use Rattle.std.proofs.lemmas.List.{map_more}
use Rattle.dasd_subsystem.proofs.files.Files.copy_of.Goals as goal

-- one copy more, of the next file
pub loop-bytes-preserved : goal.loop-bytes-preserved
loop-bytes-preserved c =
    let files = c.args.files.now in let i = c.loop-bytes.bytes-index in record {
      there = c.append.ensures.there;
      room = c.append.ensures.count ∙ ap (λ n. n + 1) c.loop-bytes.invariant.room;
      contents = c.append.ensures.contents
          ∙ ap (λ (ts : List (List ℕ)). ts ++ c.counting_all_writes.result.content ∷ []) c.loop-bytes.invariant.contents
          ∙ ap (λ (t : List ℕ). map (λ (file : Bor (List ℕ)). file.now) (take i files) ++ t ∷ [])
          (ap (λ f. f.content) (c.counting_all_writes.ensures ∙ c.in-Ok.ensures))
          ∙ sym (map_more (λ (file : Bor (List ℕ)). file.now) files i _ c.loop-bytes-test.true);
    }
