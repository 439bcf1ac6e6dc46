-- Lists that grow by what each element says.
use Rattle.std.proofs.Common.{◌≡◌, ◌∙◌, ap, sym, ℕ, ◌+◌, ◌<◌, ◌≤◌, List, [], ◌∷◌, ◌++◌, length, take, get_or, flat_map, append_assoc}
use Rattle.std.proofs.Common.{append-nil}
use Rattle.std.proofs.lemmas.List.{flat_map_more, take_more, take_all}
use Rattle.dasd_volumes.specs.Volumes.{of_each}
use Rattle.dasd_volumes.proofs.Appended.{of_none, of_one_more}
use Rattle.volume_contents.specs.declared.blocks.Block.{Block}
use Rattle.volume_contents.specs.declared.findings.Finding.{Finding}
use Rattle.volume_contents.specs.declared.reading.Found.{Found}
use Rattle.volume_contents.specs.Blocks.{Adds}

-- of one element more
pub each_more : {X A : Type 0} (before now after : List A) (of : X → List A) (xs : List X) (i : ℕ) (d : X) → i < length xs
    → now ≡ before ++ flat_map of (take i xs) → after ≡ now ++ of (get_or xs i d) → after ≡ before ++ flat_map of (take (i + 1) xs)
each_more before now after of xs i d inside is next =
    next ∙ ap (λ l. l ++ of (get_or xs i d)) is ∙ flat_map_more of before (take i xs) (get_or xs i d)
    ∙ ap (λ l. before ++ flat_map of l) (sym (take_more xs i d inside))

-- of all elements
pub each_all : {X A : Type 0} (before now : List A) (of : X → List A) (xs : List X) (i : ℕ) → length xs ≤ i
    → now ≡ before ++ flat_map of (take i xs) → now ≡ before ++ flat_map of xs
each_all before now of xs i passed is = rw (take_all i xs passed) at is

-- what is found of none, and of one more
pub adds_none : (f : Found) (of : ℕ → List Block) (wrong : ℕ → List Finding) → Adds f f (of_each of 0) (of_each wrong 0)
adds_none f of wrong = record {
  blocks = rw (of_none of) (sym (append-nil f.blocks.items));
  findings = rw (of_none wrong) (sym (append-nil f.findings.items));
}

pub adds_more : (a b c : Found) (of : ℕ → List Block) (wrong : ℕ → List Finding) (n : ℕ) → Adds a b (of_each of n) (of_each wrong n)
    → Adds b c (of n) (wrong n)
    → Adds a c (of_each of (n + 1)) (of_each wrong (n + 1))
adds_more a b c of wrong n first next = record {
  blocks =
      next.blocks ∙ ap (λ l. l ++ of n) first.blocks ∙ append_assoc a.blocks.items (of_each of n) (of n)
      ∙ ap (λ l. a.blocks.items ++ l) (sym (of_one_more of n));
  findings =
      next.findings ∙ ap (λ l. l ++ wrong n) first.findings ∙ append_assoc a.findings.items (of_each wrong n) (wrong n)
      ∙ ap (λ l. a.findings.items ++ l) (sym (of_one_more wrong n));
}
