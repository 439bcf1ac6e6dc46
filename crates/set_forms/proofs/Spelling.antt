-- Names that are written and read back.
use Rattle.std.proofs.Common.{ℕ, zero, suc, ◌+◌, ◌-◌, ◌*◌, ◌<◌, ◌≤◌, ◌≡◌, ◌==◌, ◌∙◌, List, [], ◌∷◌, ◌++◌, Bool, true, false, ◌&&◌, not}
use Rattle.std.proofs.Common.{nat_lt, nat_eq, ne_eqb, length, take, drop, replicate, get_or, lit<, lit≤, subst, append-nil, length-append}
use Rattle.std.proofs.Common.{length-drop, ap, refl, sym, arith, Some, None, option_and_then, if◌then◌else◌, length-take-le, reverse}
use Rattle.std.specs.List.{All, list_all, flat_map, suffix_len}
use Rattle.std.proofs.lemmas.Bool.{not-true, le-ltb, and_parts, eqb-true, agree_below, agree_below_at}
use Rattle.std.proofs.lemmas.List.{same_lists, get_or-reverse, take-append-drop, length-replicate, get_or-replicate, get_or-drop}
use Rattle.std.proofs.lemmas.List.Sums.{suffix_len-le-length, prefix_len_passes}
use Rattle.std.proofs.lemmas.List.Elements.{All-head, All-tail, All-take}
use Rattle.volume_labels.specs.Ebcdic.{code_page_037}
use Rattle.volume_labels.specs.Lines.{is_blank, without_blanks}
use Rattle.volume_labels.specs.Names.{byte_name, bytes_names, safe_name_of}
use Rattle.set_forms.specs.Numbers.{byte_of}
use Rattle.set_forms.specs.Names.{plain_byte, and_more, bytes_within, name_bytes, in_room, name_of}
use Rattle.set_forms.specs.Laws.{AreBytes}
use Rattle.set_forms.proofs.Split.{is_inner, IsWord}
use Rattle.set_forms.proofs.Digits.{same, is_same, inner_both}

-- A byte as it is spelled.

is_spelled : List ℕ → ℕ → Bool
is_spelled (c ∷ []) b = not (c == 37) && (same (plain_byte c) b && is_inner c)
is_spelled (c ∷ high ∷ low ∷ []) b = (c == 37) && (same (byte_of high low) b && (is_inner high && is_inner low))
is_spelled word b = false

-- and as it is read back
pub record IsSpelled (word : List ℕ) (b : ℕ) : Type 0 where
  pub some : 0 < length word
  pub few : length word ≤ 3
  pub inner : list_all is_inner word ≡ true
  pub read : (most : ℕ) (rest : List ℕ) → bytes_within (suc most) (word ++ rest) ≡ and_more (Some b) (bytes_within most rest)

of_spelled : (word : List ℕ) (b : ℕ) → is_spelled word b ≡ true → IsSpelled word b
unfolding is_spelled
of_spelled [] b is = absurd (cc)
of_spelled (c ∷ []) b is =
    let both = and_parts (not (c == 37)) (same (plain_byte c) b && is_inner c) is in
    let two = and_parts (same (plain_byte c) b) (is_inner c) both.1 in record {
      some = omega arith;
      few = omega arith;
      inner = rw two.1 refl;
      read = λ most rest. rw (not-true (c == 37) both.0, is_same (plain_byte c) b two.0) refl;
    }
of_spelled (c ∷ high ∷ []) b is = absurd (cc)
of_spelled (c ∷ high ∷ low ∷ []) b is =
    let both = and_parts (c == 37) (same (byte_of high low) b && (is_inner high && is_inner low)) is in
    let two = and_parts (same (byte_of high low) b) (is_inner high && is_inner low) both.1 in
    let inner = and_parts (is_inner high) (is_inner low) two.1 in record {
      some = omega arith;
      few = omega arith;
      inner = rw (eqb-true c 37 both.0, inner.0, inner.1) refl;
      read = λ most rest. rw (both.0, is_same (byte_of high low) b two.0) refl;
    }
of_spelled (c ∷ high ∷ low ∷ d ∷ word) b is = absurd (cc)

first_is_spelled : agree_below (λ b. is_spelled (byte_name true b) b) (λ b. true) 256 ≡ true
unfolding is_spelled same code_page_037
first_is_spelled = refl

others_are_spelled : agree_below (λ b. is_spelled (byte_name false b) b) (λ b. true) 256 ≡ true
unfolding is_spelled same code_page_037
others_are_spelled = refl

spelled : (is_first : Bool) (b : ℕ) → b < 256 → IsSpelled (byte_name is_first b) b
spelled true b small = of_spelled (byte_name true b) b (agree_below_at (λ b. is_spelled (byte_name true b) b)
    (λ b. true) 256 b first_is_spelled small)
spelled false b small =
    of_spelled (byte_name false b) b (agree_below_at (λ b. is_spelled (byte_name false b) b) (λ b. true) 256 b others_are_spelled small)

-- Bytes as they are spelled, one behind another.

more_back : (word : List ℕ) (b : ℕ) (bytes rest : List ℕ) (most : ℕ) → IsSpelled word b → length (word ++ rest) ≤ most
    → ((fewer : ℕ) → length rest ≤ fewer → bytes_within fewer rest ≡ Some bytes) → bytes_within most (word ++ rest) ≡ Some (b ∷ bytes)
more_back word b bytes rest zero s fits behind = absurd (omega (arith, length-append word rest))
more_back word b bytes rest (suc most) s fits behind = cc (s.read most rest, behind most (omega (arith, length-append word rest)))

rest_back : (bytes : List ℕ) → All (λ b. b < 256) bytes → (most : ℕ) → length (flat_map (byte_name false) bytes) ≤ most
    → bytes_within most (flat_map (byte_name false) bytes) ≡ Some bytes
rest_back [] small most fits = refl
rest_back (b ∷ bytes) small most fits =
    more_back (byte_name false b) b bytes (flat_map (byte_name false) bytes) most (spelled false b (All-head
    (λ b. b < 256) b bytes small)) fits
    (rest_back bytes (All-tail (λ b. b < 256) b bytes small))

-- a name is not longer than three characters for each byte
rest_fits : (bytes : List ℕ) → All (λ b. b < 256) bytes → length (flat_map (byte_name false) bytes) ≤ 3 * length bytes
rest_fits [] small = omega arith
rest_fits (b ∷ bytes) small =
    let s = spelled false b (All-head (λ b. b < 256) b bytes small) in
    simp length-append (omega (arith, rest_fits bytes (All-tail (λ b. b < 256) b bytes small)))

rest_inner : (bytes : List ℕ) → All (λ b. b < 256) bytes → list_all is_inner (flat_map (byte_name false) bytes) ≡ true
rest_inner [] small = refl
rest_inner (b ∷ bytes) small =
    let s = spelled false b (All-head (λ b. b < 256) b bytes small) in
    inner_both (byte_name false b) (flat_map (byte_name false) bytes) s.inner (rest_inner bytes (All-tail (λ b. b < 256) b bytes small))

-- a name of some bytes, or of a blank
pub record IsNameOf (word bytes : List ℕ) : Type 0 where
  pub some : 0 < length word
  pub few : length word ≤ 3 * length bytes
  pub inner : list_all is_inner word ≡ true
  pub read : name_bytes word ≡ Some bytes

first_and : (b : ℕ) (bytes : List ℕ) → b < 256 → All (λ b. b < 256) bytes
    → IsNameOf (byte_name true b ++ flat_map (byte_name false) bytes) (b ∷ bytes)
first_and b bytes small all = let s = spelled true b small in record {
  some = simp length-append (omega arith);
  few = simp length-append (omega (arith, rest_fits bytes all));
  inner = inner_both (byte_name true b) (flat_map (byte_name false) bytes) s.inner (rest_inner bytes all);
  read = more_back (byte_name true b) b bytes (flat_map (byte_name false) bytes) (length (byte_name true b ++ flat_map
      (byte_name false) bytes)) s
      (omega arith) (rest_back bytes all);
}

-- the bytes of a name without the blanks at its end, and one where all are blanks
kept_bytes : List ℕ → List ℕ
kept_bytes [] = 0x40 ∷ []
kept_bytes (b ∷ bytes) = b ∷ bytes

of_kept : (bytes : List ℕ) → All (λ b. b < 256) bytes → IsNameOf (bytes_names bytes) (kept_bytes bytes)
unfolding kept_bytes
of_kept [] all = rw append-nil at (first_and 0x40 [] (lit< tt) (λ k d h. absurd (omega arith)))
of_kept (b ∷ bytes) all =
    subst (λ t. IsNameOf (if t then byte_name true 0x40 else byte_name true b ++ flat_map (byte_name false) bytes) (b ∷ bytes))
    (sym (ne_eqb (length (b ∷ bytes)) 0 (λ e. omega arith)))
    (first_and b bytes (All-head (λ b. b < 256) b bytes all) (All-tail (λ b. b < 256) b bytes all))

-- behind these a name has blanks
blanks_behind : (name : List ℕ) → drop (length name - suffix_len is_blank name) name ≡ replicate (suffix_len is_blank name) 64
blanks_behind name =
    let n = suffix_len is_blank name in
    let few : n ≤ length name = suffix_len-le-length is_blank name in
    same_lists (drop (length name - n) name) (replicate n 64) (simp (length-drop, length-replicate) (omega arith))
    (λ i d inside. at i d (omega (arith, length-drop (length name - n) name, few)) few)
  where
    at : (i d : ℕ) → i < suffix_len is_blank name → suffix_len is_blank name ≤ length name
        → get_or (drop (length name - suffix_len is_blank name) name) i d ≡ get_or (replicate (suffix_len is_blank name) 64) i d
    at i d inside few =
        let n = suffix_len is_blank name in
        let j = n - 1 - i in
        let mirrored : get_or (reverse name) j d ≡ get_or name (length name - 1 - j) d = get_or-reverse name j d (omega arith) in
        let place : length name - 1 - j ≡ length name - n + i = omega arith in
        let blank : is_blank (get_or (reverse name) j d) ≡ true = prefix_len_passes is_blank (reverse name) j d (omega arith) in
        let is : get_or (reverse name) j d ≡ 64 = eqb-true (get_or (reverse name) j d) 64 blank in
        cc (get_or-drop (length name - n) name i d, get_or-replicate n i 64 d inside)

-- so it is filled up with them again
filled : (room : ℕ) (name kept : List ℕ) (n : ℕ) → length name ≡ room → 0 < room → name ≡ kept ++ replicate n 64
    → in_room room (kept_bytes kept) ≡ Some name
unfolding kept_bytes
filled room name [] zero size some is = absurd (omega (arith, ap length is, some))
filled room name [] (suc n) size some is =
    let inside : nat_lt room 1 ≡ false = le-ltb room 1 (omega arith) in
    let left : room - 1 ≡ n = omega (arith, ap length is, length-replicate {A = ℕ} (suc n) 64) in rw (inside, left) (ap Some (sym is))
filled room name (b ∷ kept) n size some is =
    let long : length name ≡ length (b ∷ kept) + n = cc (length-append (b ∷ kept) (replicate n 64), length-replicate {A = ℕ} n 64) in
    let is_some : nat_eq (length (b ∷ kept)) 0 ≡ false = ne_eqb (length (b ∷ kept)) 0 (λ e. omega arith) in
    let inside : nat_lt room (length (b ∷ kept)) ≡ false = le-ltb room (length (b ∷ kept)) (omega arith) in
    let left : room - length (b ∷ kept) ≡ n = omega arith in rw (is_some, inside, left) (ap Some (sym is))

kept_few : (kept : List ℕ) → length kept ≤ 44 → length (kept_bytes kept) ≤ 44
unfolding kept_bytes
kept_few [] few = lit≤ tt
kept_few (b ∷ kept) few = few

read_back : (room : ℕ) (word bytes name : List ℕ) → length word ≤ 132 → name_bytes word ≡ Some bytes → in_room room bytes ≡ Some name
    → name_of room word ≡ Some name
unfolding name_of
read_back room word bytes name short read fits = cc (le-ltb 132 (length word) short, read)

pub name_back : (room : ℕ) (name : List ℕ) → AreBytes room name → 0 < room → room ≤ 44 → name_of room (safe_name_of name) ≡ Some name
name_back room name is some few =
    let n = suffix_len is_blank name in
    let kept = take (length name - n) name in
    let spelled = of_kept kept (All-take (λ b. b < 256) (length name - n) name is.small) in
    let whole : name ≡ kept ++ replicate n 64 = cc (take-append-drop (length name - n) name, blanks_behind name) in
    let short : length kept ≤ 44 = omega (arith, length-take-le (length name - n) name (omega arith), few) in
    read_back room (safe_name_of name) (kept_bytes kept) name (omega (arith, spelled.few, kept_few kept short)) spelled.read
    (filled room name kept n is.many some whole)

pub name_word : (room : ℕ) (name : List ℕ) → AreBytes room name → IsWord (safe_name_of name)
name_word room name is =
    let n = of_kept (without_blanks name) (All-take (λ b. b < 256) (length name - suffix_len is_blank name) name is.small) in
    record { some = n.some; inner = n.inner }
