use Rattle.std.proofs.Common.{◌∙◌, ◌+◌, ◌++◌, ◌∷◌, [], ap, sym, map, take, replicate, List, ℕ}
use Rattle.std.proofs.lemmas.List.{map_more}
use Rattle.dasd_subsystem.proofs.files.Files.new.Goals as goal

-- one file more, of the next length
pub loop-len-preserved : goal.loop-len-preserved
loop-len-preserved c =
    let lengths = c.args.lengths.now in let i = c.loop-len.len-index in record {
      there = c.append.ensures.there;
      room = c.append.ensures.count ∙ ap (λ n. n + 1) c.loop-len.invariant.room;
      contents = c.append.ensures.contents
          ∙ ap (λ (ts : List (List ℕ)). ts ++ c.counting_all_writes.result.content ∷ []) c.loop-len.invariant.contents
          ∙ ap (λ (t : List ℕ). map (λ n. replicate n 0) (take i lengths) ++ t ∷ [])
          (ap (λ f. f.content) (c.counting_all_writes.ensures ∙ c.in-Ok.ensures))
          ∙ sym (map_more (λ (n : ℕ). replicate n 0) lengths i _ c.loop-len-test.true);
    }
