-- The addresses of members, each once, and the members that were read from them.
use Rattle.std.proofs.Common.{ℕ, ◌+◌, ◌<◌, ◌≤◌, ◌≡◌, ◌∙◌, Bool, true, cond, nat_lt, ◌==◌, List, [], ◌∷◌, ◌++◌, length, map}
use Rattle.std.proofs.Common.{get_or, not, Option, Some, None, ap, sym, refl, arith, position, length-append}
use Rattle.std.specs.List.{position_or_len}
use Rattle.std.specs.Global.{Vec}
use Rattle.std.proofs.lemmas.Bool.{and_parts, and_from, eqb-true, eq-eqb}
use Rattle.std.proofs.lemmas.List.{get_or-map, get_or_append_left, map-append}
use Rattle.std.proofs.Math.Seq.{get_or-append_seam}
use Rattle.std.proofs.lemmas.List.Quantifiers.{position-Some}
use Rattle.std.proofs.lemmas.List.Folds.{position_or_len_push}
use Rattle.std.proofs.lemmas.List.Sums.{position_or_len_is, prefix_len-le-length}
use Rattle.dasd_volumes.specs.Reading.{KnownVolume}
use Rattle.volume_labels.specs.declared.fields.Extent.{Extent}
use Rattle.volume_labels.specs.declared.fields.RelativeAddress.{RelativeAddress}
use Rattle.library_contents.specs.declared.directories.PlacedEntry.{PlacedEntry}
use Rattle.library_contents.specs.declared.members.Members.{Members}
use Rattle.library_contents.specs.Members.{same_address, behind_others, with_start, starts_from, buffers, library_on, blocks_at, WholeFrom}
use Rattle.library_contents.specs.Members.{AddsMember, AreRead, HasNumber}

-- Where an element is that passes a test, in a list that goes on.
module _ {X : Type 0} (p : X → Bool) (xs : List X) (y : X) where
  is_place : (f n len : ℕ) → f ≡ n → n < len → cond (nat_lt f len) (Some f) None ≡ Some n
  is_place f n len is within = grind arith

  no_place : (f len : ℕ) → f ≤ len → cond (nat_lt f len) (Some f) None ≡ None → f ≡ len
  no_place f len few is = grind arith

  longer : length (xs ++ y ∷ []) ≡ length xs + 1
  longer = length-append xs (y ∷ [])

  pub stays_found : (n : ℕ) → position p xs ≡ Some n → position p (xs ++ y ∷ []) ≡ Some n
  stays_found n is =
      let s = position-Some p xs n y is in
      let same : position_or_len p (xs ++ y ∷ []) ≡ n = position_or_len_is p (xs ++ y ∷ []) n y (omega (arith, longer, s.0))
      (λ k before. ap p (get_or_append_left xs (y ∷ []) y k (omega (arith, before, s.0))) ∙ s.2 k before)
      (λ _. ap p (get_or_append_left xs (y ∷ []) y n s.0) ∙ s.1) in
      is_place (position_or_len p (xs ++ y ∷ [])) n (length (xs ++ y ∷ [])) same (omega (arith, longer, s.0))

  pushed : (f : ℕ) (passes : Bool) → f ≡ length xs → passes ≡ true → cond (f == length xs) (length xs + cond passes 0 1) f ≡ length xs
  pushed f passes is are = grind arith

  pub is_found_last : position p xs ≡ None → p y ≡ true → position p (xs ++ y ∷ []) ≡ Some (length xs)
  is_found_last none passes =
      let own : position_or_len p xs ≡ length xs =
      no_place (position_or_len p xs) (length xs) (prefix_len-le-length (λ x. not (p x)) xs) none in
      is_place (position_or_len p (xs ++ y ∷ [])) (length xs) (length (xs ++ y ∷ []))
      (position_or_len_push p xs y ∙ pushed (position_or_len p xs) (p y) own passes) (omega (arith, longer))

-- An address is that which is found as the same.
pub one_address : (a b : RelativeAddress) → same_address a b ≡ true → a ≡ b
one_address a b same =
    let parts = and_parts (a.track == b.track) (a.number == b.number) same in
    ap (λ (t : ℕ). record { track = t; number = a.number }) (eqb-true a.track b.track parts.0)
    ∙ ap (λ (n : ℕ). record { track = b.track; number = n }) (eqb-true a.number b.number parts.1)

pub itself : (a : RelativeAddress) → same_address a a ≡ true
itself a = and_from (a.track == a.track) (a.number == a.number) (eq-eqb a.track a.track refl) (eq-eqb a.number a.number refl)

-- What was read from an address that is found.
module _ (f : RelativeAddress → Option (List ℕ)) (blocks : List (Vec ℕ)) (starts : List RelativeAddress) where
  pub is_read : (start : RelativeAddress) (n : ℕ) (b : Vec ℕ) → buffers blocks ≡ map f starts → length blocks ≡ length starts
      → position (same_address start) starts ≡ Some n → b ≡ get_or blocks n b → f start ≡ Some b.items
  is_read start n b are count found is =
      let s = position-Some (same_address start) starts n start found in ap f (one_address start (get_or starts n start) s.1)
      ∙ sym (get_or-map f starts n start None s.0) ∙ ap (λ (l : List (Option (List ℕ))). get_or l n None) (sym are)
      ∙ get_or-map (λ (b : Vec ℕ). Some b.items) blocks n b None (omega (arith, s.0, count)) ∙ ap (λ (b : Vec ℕ). Some b.items) (sym is)

  pub one_more_read : (b : Vec ℕ) (start : RelativeAddress) → buffers blocks ≡ map f starts → f start ≡ Some b.items
      → buffers (blocks ++ b ∷ []) ≡ map f (starts ++ start ∷ [])
  one_more_read b start are is = cc (map-append (λ (b : Vec ℕ). Some b.items) blocks (b ∷ []), map-append f starts (start ∷ []))

-- With an address behind others, if it is none of them.
module _ (starts : List RelativeAddress) (start : RelativeAddress) where
  pub was_there : (n : ℕ) → position (same_address start) starts ≡ Some n → starts ≡ with_start starts start
  was_there n found = sym (ap (λ (o : Option ℕ). behind_others o starts start) found)

  pub is_new : position (same_address start) starts ≡ None → starts ++ start ∷ [] ≡ with_start starts start
  is_new none = sym (ap (λ (o : Option ℕ). behind_others o starts start) none)

  still_there : (other : RelativeAddress) (n : ℕ) (found : Option ℕ) → position (same_address other) starts ≡ Some n
      → position (same_address other) (behind_others found starts start) ≡ Some n
  still_there other n (Some m) is = is
  still_there other n None is = stays_found (same_address other) starts start n is

  pub stays_there : (other : RelativeAddress) (n : ℕ) → position (same_address other) starts ≡ Some n
      → position (same_address other) (with_start starts start) ≡ Some n
  stays_there other n is = still_there other n (position (same_address start) starts) is

pub more_starts : (starts : List RelativeAddress) (p : PlacedEntry) (placed : List PlacedEntry)
    → starts_from starts (p ∷ placed) ≡ starts_from (with_start starts p.entry.address) placed
unfolding starts_from
more_starts starts p placed = refl

pub no_starts : (starts : List RelativeAddress) → starts_from starts [] ≡ starts
unfolding starts_from
no_starts starts = refl

-- an address stays where it is found
pub stays_in : (placed : List PlacedEntry) (starts : List RelativeAddress) (start : RelativeAddress) (n : ℕ)
    → position (same_address start) starts ≡ Some n → position (same_address start) (starts_from starts placed) ≡ Some n
stays_in [] starts start n is = ap (position (same_address start)) (no_starts starts) ∙ is
stays_in (p ∷ placed) starts start n is = ap (position (same_address start)) (more_starts starts p placed)
    ∙ stays_in placed (with_start starts p.entry.address) start n (stays_there starts p.entry.address start n is)

-- A member that was not read before.
module _ (extents : List Extent) (v : KnownVolume) (start : RelativeAddress) (m now : Members) (x : Vec ℕ)
    (read : AreRead extents v m) (none : position (same_address start) m.starts.items ≡ None) (adds : AddsMember m now start x)
    (whole : WholeFrom extents start v (Some x)) where
  one_more_start : length now.starts.items ≡ length m.starts.items + 1
  one_more_start = ap (λ (l : List RelativeAddress). length l) adds.starts ∙ length-append m.starts.items (start ∷ [])

  one_more_buffer : length now.blocks.items ≡ length m.blocks.items + 1
  one_more_buffer = ap (λ (l : List (Vec ℕ)). length l) adds.blocks ∙ length-append m.blocks.items (x ∷ [])

  at_last : (n : ℕ) (b : Vec ℕ) → n ≡ length m.blocks.items → b ≡ get_or now.blocks.items n b → b ≡ x
  at_last n b last is = cc (get_or-append_seam m.blocks.items x [] b)

  pub is_numbered : (n : ℕ) → n ≡ length m.starts.items → HasNumber extents v start m now n
  is_numbered n last = record {
    starts = adds.starts ∙ is_new m.starts.items start none;
    number = cc (is_found_last (same_address start) m.starts.items start none (itself start));
    read = record {
      count = cc (one_more_buffer, one_more_start);
      blocks = λ slots known.
          let f = blocks_at (library_on extents v.geometry slots) in
          cc (one_more_read f m.blocks.items m.starts.items x start (read.blocks slots known) (sym (whole slots known)));
    };
    within = omega (arith, one_more_buffer);
    blocks = λ slots known b is. cc (whole slots known, at_last n b (last ∙ sym read.count) is);
  }
