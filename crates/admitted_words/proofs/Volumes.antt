-- What volumes leave of words.
use Rattle.std.proofs.Common.{◌≡◌, ◌<◌, ◌∙◌, ℕ, zero, suc, false, List, [], ◌∷◌, map, drop, length, Bor, refl, sym}
use Rattle.std.proofs.Common.{Option, Some, None, subst, leb, arith}
use Rattle.std.proofs.lemmas.Bool.Decides.{nat_tests}
use Rattle.dasd_words.specs.declared.volumes.Volume.{Volume}
use Rattle.admitted_words.specs.Volumes.{after_files, after_source, after_volumes, is_end, are_named}

-- where a volume is not named, none after it is looked at
none_stays : (volumes : List Volume) → after_volumes volumes None ≡ None
none_stays [] = refl
none_stays (v ∷ volumes) = none_stays volumes

-- and the words do not name all
pub not_named : (volumes rest : List Volume) (v : Volume) (words left : List (List ℕ)) (i : ℕ) → drop i volumes ≡ v ∷ rest →
    after_volumes (drop i volumes) (Some left) ≡ after_volumes volumes (Some words) → None ≡ after_source v.device v.source left →
    false ≡ are_named words volumes
not_named volumes rest v words left i parts so_far none =
    let at_it : after_volumes (v ∷ rest) (Some left) ≡ after_volumes volumes (Some words) =
    subst (λ (l : List Volume). after_volumes l (Some left) ≡ after_volumes volumes (Some words)) parts so_far in
    let behind_it : after_volumes rest None ≡ after_volumes volumes (Some words) =
    subst (λ (o : Option (List (List ℕ))). after_volumes rest o ≡ after_volumes volumes (Some words)) (sym none) at_it in
    subst (λ (o : Option (List (List ℕ))). false ≡ is_end o) (sym (none_stays rest) ∙ behind_it) refl

-- one more on both sides
leb-suc : (a b : ℕ) → leb (suc a) (suc b) ≡ leb a b
leb-suc a b = grind (arith, nat_tests)

-- no words are left where the place is behind the last one
at_end : (words : List (Bor (List ℕ))) (at : ℕ) → leb (length words) at ≡ is_end (Some (map (λ word. word.now) (drop at words)))
at_end [] zero = refl
at_end [] (suc at) = grind (arith, nat_tests)
at_end (w ∷ words) zero = grind (arith, nat_tests)
at_end (w ∷ words) (suc at) = leb-suc (length words) at ∙ at_end words at

-- all volumes were named
pub all_named : (volumes : List Volume) (words : List (Bor (List ℕ))) (at i : ℕ) → drop i volumes ≡ [] →
    after_volumes (drop i volumes) (Some (map (λ word. word.now) (drop at words)))
    ≡ after_volumes volumes (Some (map (λ word. word.now) words)) →
    leb (length words) at ≡ are_named (map (λ word. word.now) words) volumes
all_named volumes words at i parts so_far =
    let left : Some (map (λ word. word.now) (drop at words)) ≡ after_volumes volumes (Some (map (λ word. word.now) words)) =
    subst (λ (l : List Volume). after_volumes l (Some (map (λ word. word.now) (drop at words)))
    ≡ after_volumes volumes (Some (map (λ word. word.now) words)))
    parts so_far in
    subst (λ (o : Option (List (List ℕ))). leb (length words) at ≡ is_end o) left (at_end words at)

-- a file whose word is missing
pub no_word : (device : ℕ) (paths : List (Bor (List ℕ))) (i : ℕ) (left : Option (List (List ℕ))) → i < length paths →
    after_files device (map (λ path. path.now) (drop i paths)) [] ≡ left → None ≡ left
no_word device [] i left h e = absurd (omega arith)
no_word device (p ∷ paths) zero left h e = e
no_word device (p ∷ paths) (suc i) left h e = no_word device paths i left (omega arith) e
