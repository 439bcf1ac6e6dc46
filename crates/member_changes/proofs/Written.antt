-- Blocks that are written at places, one after another.
use Rattle.std.proofs.Common.{◌≡◌, ◌∙◌, ap, refl, ℕ, ◌+◌, ◌<◌, ◌≤◌, Bool, true}
use Rattle.std.proofs.Common.{false, if◌then◌else◌, nat_lt, List, [], ◌∷◌, length, take, drop, get_or, arith}
use Rattle.std.proofs.lemmas.Bool.Decides.{nat_tests}
use Rattle.std.proofs.lemmas.List.{at_drop_more, at_drop_all}
use Rattle.ckd_track.specs.declared.geometries.Geometry.{Geometry}
use Rattle.member_changes.specs.declared.places.BlockPlace.{BlockPlace}
use Rattle.member_changes.specs.Places.{block_written, all_written}

pub one_written : (g : Geometry) (p : BlockPlace) (ps : List BlockPlace) (blocks : List ℕ) (slots : List (List ℕ))
    → all_written g (p ∷ ps) blocks slots
    ≡ (if nat_lt (length blocks) 264 then slots else all_written g ps (drop 264 blocks) (block_written g p (take 264 blocks) slots))
unfolding all_written
one_written g p ps blocks slots = refl

pub none_written : (g : Geometry) (blocks : List ℕ) (slots : List (List ℕ)) → all_written g [] blocks slots ≡ slots
unfolding all_written
none_written g blocks slots = refl

module _ (g : Geometry) (ps : List BlockPlace) (i : ℕ) (blocks : List ℕ) (slots : List (List ℕ)) where
  module _ (d : BlockPlace) (inside : i < length ps) where
    here : all_written g (drop i ps) blocks slots
        ≡ (if nat_lt (length blocks) 264 then slots
        else all_written g (drop (i + 1) ps) (drop 264 blocks) (block_written g (get_or ps i d) (take 264 blocks) slots))
    here =
        at_drop_more (λ (l : List BlockPlace). all_written g l blocks slots) ps i d inside
        ∙ one_written g (get_or ps i d) (drop (i + 1) ps) blocks slots

    abbrev either : Bool → List (List ℕ)
    either few =
        if few then slots else all_written g (drop (i + 1) ps) (drop 264 blocks) (block_written g (get_or ps i d) (take 264 blocks) slots)

    -- there are no more blocks
    pub no_blocks : length blocks < 264 → all_written g (drop i ps) blocks slots ≡ slots
    no_blocks few = let is : nat_lt (length blocks) 264 ≡ true = grind (arith, nat_tests) in here ∙ ap either is

    -- one is written
    pub one_block : 264 ≤ length blocks → all_written g (drop i ps) blocks slots
        ≡ all_written g (drop (i + 1) ps) (drop 264 blocks) (block_written g (get_or ps i d) (take 264 blocks) slots)
    one_block more = let is : nat_lt (length blocks) 264 ≡ false = grind (arith, nat_tests) in here ∙ ap either is

  -- there are no more places
  pub no_places : length ps ≤ i → all_written g (drop i ps) blocks slots ≡ slots
  no_places past = at_drop_all (λ (l : List BlockPlace). all_written g l blocks slots) ps i past ∙ none_written g blocks slots
