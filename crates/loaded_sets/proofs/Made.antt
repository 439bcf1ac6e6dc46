-- What is made of the files of members, one after another.
use Rattle.std.proofs.Common.{◌≡◌, ◌∙◌, ap, sym, refl, ℕ, ◌+◌, ◌<◌, List, [], ◌∷◌, ◌++◌, length, drop, take, get_or, Result, Ok, Err, arith}
use Rattle.std.proofs.Common.{map, Bor, ◌≤◌}
use Rattle.std.proofs.lemmas.List.{drop_more, append_assoc, append-nil, drop_all, take_more, get_or-map, length-map, map-append}
use Rattle.volume_labels.specs.declared.layouts.Layout.{Layout}
use Rattle.loaded_sets.specs.Contents.{text_bytes, IsNoText}
use Rattle.loaded_sets.specs.declared.fault.ContentFault.{ContentFault}
use Rattle.loaded_sets.specs.declared.fault.LoadRefusal.{LoadRefusal}
use Rattle.loaded_sets.specs.declared.fault.LoadRefusal.TheVariants as refusal
use Rattle.loaded_sets.specs.declared.fault.Unmade.{Unmade}
use Rattle.loaded_sets.specs.declared.fault.Unmade.TheVariants as unmade
use Rattle.loaded_sets.specs.LibraryParts.{member_fault, IsNoneFor, IsUnmade}
use Rattle.loaded_sets.specs.Members.{put_first, and_others, each_made}

abbrev pub Made : Type 0
Made = Result (List (List ℕ)) LoadRefusal

-- those that are made already, and what is made of the others
abbrev pub behind : List (List ℕ) → Made → Made
behind made (Ok others) = Ok (made ++ others)
behind made (Err r) = Err r

pub none_before : (rest : Made) → behind [] rest ≡ rest
none_before (Ok others) = refl
none_before (Err r) = refl

one_more : (made : List (List ℕ)) (bytes : List ℕ) (rest : Made) → behind made (put_first bytes rest) ≡ behind (made ++ bytes ∷ []) rest
one_more made bytes (Ok others) = ap Ok (sym (append_assoc made (bytes ∷ []) others))
one_more made bytes (Err r) = refl

module _ (make : List ℕ → Result (List ℕ) ContentFault) (files : List (List ℕ)) (k : ℕ) (there : k < length files) where
  at_next : each_made make (k + 1) (drop k files)
      ≡ and_others (k + 1) (make (get_or files k [])) (each_made make (k + 1 + 1) (drop (k + 1) files))
  unfolding each_made
  at_next = ap (each_made make (k + 1)) (drop_more files k [] there)

  -- one more is made
  pub next : (made : List (List ℕ)) (bytes : List ℕ) → make (get_or files k []) ≡ Ok bytes
      → behind made (each_made make (k + 1) (drop k files)) ≡ behind (made ++ bytes ∷ []) (each_made make (k + 1 + 1) (drop (k + 1) files))
  next made bytes is = cc (at_next, one_more made bytes (each_made make (k + 1 + 1) (drop (k + 1) files)))

  -- nothing is made of one
  pub failed : (made : List (List ℕ)) (f : ContentFault) → make (get_or files k []) ≡ Err f
      → behind made (each_made make (k + 1) (drop k files)) ≡ Err (refusal.Member (k + 1) f)
  failed made f is = ap (behind made) (at_next ∙ ap (λ (r : Result (List ℕ) ContentFault). and_others (k + 1) r
      (each_made make (k + 1 + 1) (drop (k + 1) files))) is)

-- the same of files that stand in memory
module _ (make : List ℕ → Result (List ℕ) ContentFault) (files : List (Bor (List ℕ))) (k : ℕ) (d : Bor (List ℕ))
    (there : k < length files) where
  abbrev held : List (List ℕ)
  held = map (λ (f : Bor (List ℕ)). f.now) files

  abbrev rest : Made
  rest = each_made make (k + 1) (drop k held)

  abbrev others : Made
  others = each_made make (k + 1 + 1) (drop (k + 1) held)

  pub within : k < length held
  within = omega (arith, there, length-map files (λ (f : Bor (List ℕ)). f.now))

  pub at_file : get_or held k [] ≡ (get_or files k d).now
  at_file = get_or-map (λ (f : Bor (List ℕ)). f.now) files k d [] there

  pub next_made : (all : Made) (made : List (List ℕ)) (bytes : List ℕ) → all ≡ behind made rest → make (get_or files k d).now ≡ Ok bytes
      → all ≡ behind (made ++ bytes ∷ []) others
  next_made all made bytes so_far is = so_far ∙ next make held k within made bytes (ap make at_file ∙ is)

  pub not_made : (all : Made) (made : List (List ℕ)) (u : Unmade) → all ≡ behind made rest → IsNoneFor u (make (get_or files k d).now)
      → IsUnmade (member_fault (k + 1) u) all
  not_made all made (unmade.Content f) so_far is = so_far ∙ failed make held k within made f (ap make at_file ∙ is)
  not_made all made unmade.OutOfMemory so_far is = tt

  pub one_longer : take (k + 1) held ≡ take k held ++ (get_or files k d).now ∷ []
  one_longer = take_more held k [] within ∙ ap (λ (f : List ℕ). take k held ++ f ∷ []) at_file

  -- one more of those that are found of each
  pub next_found : {X : Type 0} (of : List ℕ → X) (found : List X) (x : X) → found ≡ map of (take k held) → x ≡ of (get_or files k d).now
      → found ++ x ∷ [] ≡ map of (take (k + 1) held)
  next_found of found x so_far is = cc (map-append of (take k held) ((get_or files k d).now ∷ []), one_longer)

-- all are made
pub all_made : (make : List ℕ → Result (List ℕ) ContentFault) (files : List (List ℕ)) (number : ℕ) (made : List (List ℕ))
    → (k : ℕ) → length files ≤ k → behind made (each_made make number (drop k files)) ≡ Ok made
unfolding each_made
all_made make files number made k past = cc (drop_all k files past, append-nil made)

-- why a text is none
pub no_text : (l : Layout) (text : List ℕ) (u : Unmade) → IsNoText u l text → IsNoneFor u (text_bytes l text)
no_text l text (unmade.Content f) is = is
no_text l text unmade.OutOfMemory is = tt
