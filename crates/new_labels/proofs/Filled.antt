-- Slots that are written from their beginning on, with zeros behind what was written.
use Rattle.std.proofs.Common.{◌≡◌, ◌∙◌, ap, refl, sym, ℕ, ◌+◌, ◌-◌, ◌/◌, ◌%◌, List, [], ◌∷◌, ◌++◌, length, replicate, flat_map, map}
use Rattle.std.proofs.Common.{arith}
use Rattle.std.proofs.Common.{length-append, append_assoc, append-nil}
use Rattle.std.proofs.lemmas.Grind.{flat_map-append}
use Rattle.std.proofs.lemmas.List.{length-replicate}
use Rattle.std.proofs.lemmas.List.FromFn.{map-range_with_len_more}
use Rattle.std.specs.List.{range_with_len}
use Rattle.ckd_track.specs.declared.geometries.Geometry.{Geometry}
use Rattle.ckd_track.specs.Track.{Record, record_bytes}
use Rattle.new_labels.specs.declared.labels.NewLabel.{NewLabel}
use Rattle.new_labels.specs.Records.{track_bytes}
use Rattle.new_labels.specs.Tracks.{filled, PutBehind, block_record, table_front, with_id, track_front}

-- bytes behind a front of which it is known that the slot has it, and its size by another slot's
pub put_behind : (n : ℕ) (before now front bytes : List ℕ) (at : ℕ) → PutBehind at bytes before now → length before ≡ n
    → length front ≡ at → before ≡ filled n front → now ≡ filled n (front ++ bytes)
put_behind n before now front bytes at puts size is whole = rw size at (puts front is (rw size whole))

-- what was put into a slot: where, which bytes, and that the slot keeps its size
pub record Put (before now : List ℕ) : Type 0 where
  pub at : ℕ
  pub bytes : List ℕ
  pub put : PutBehind at bytes before now
  pub same : length now ≡ length before

abbrev pub put_of : (before now bytes : List ℕ) (at : ℕ) → PutBehind at bytes before now → length now ≡ length before → Put before now
put_of before now bytes at put same = record { at = at; bytes = bytes; put = put; same = same }

-- bytes behind others that were put
abbrev pub then_put : (s0 s1 s2 : List ℕ) → (one : Put s0 s1) (other : Put s1 s2) → other.at ≡ one.at + length one.bytes → Put s0 s2
then_put s0 s1 s2 one other next = record {
  at = one.at;
  bytes = one.bytes ++ other.bytes;
  put = λ front long whole.
      let far : length (front ++ one.bytes) ≡ other.at = omega (arith, length-append front one.bytes, long, next) in
      put_behind (length s0) s1 s2 (front ++ one.bytes) other.bytes other.at other.put one.same far (one.put front long whole)
      ∙ ap (filled (length s0)) (append_assoc front one.bytes other.bytes);
  same = other.same ∙ one.same;
}

-- the same of three and of four
abbrev pub three_put : (s0 s1 s2 s3 : List ℕ) → (a : Put s0 s1) (b : Put s1 s2) (c : Put s2 s3)
    → b.at ≡ a.at + length a.bytes → c.at ≡ b.at + length b.bytes → Put s0 s3
three_put s0 s1 s2 s3 a b c n1 n2 =
    let long = length-append a.bytes b.bytes in
    then_put s0 s2 s3 (then_put s0 s1 s2 a b n1) c (omega (arith, long, n1, n2))

abbrev pub four_put : (s0 s1 s2 s3 s4 : List ℕ) → (a : Put s0 s1) (b : Put s1 s2) (c : Put s2 s3) (d : Put s3 s4)
    → b.at ≡ a.at + length a.bytes → c.at ≡ b.at + length b.bytes → d.at ≡ c.at + length c.bytes → Put s0 s4
four_put s0 s1 s2 s3 s4 a b c d n1 n2 n3 =
    let two = length-append a.bytes b.bytes in
    let three = length-append (a.bytes ++ b.bytes) c.bytes in
    then_put s0 s3 s4 (three_put s0 s1 s2 s3 a b c n1 n2) d (omega (arith, two, three, n1, n2, n3))

pub length-record : (id key bytes : List ℕ) → length id ≡ 5
    → length (record_bytes (with_id id key bytes)) ≡ 8 + (length key + length bytes)
length-record id key bytes five =
    let count : List ℕ = length key ∷ length bytes / 256 ∷ length bytes % 256 ∷ [] in
    let three : length count ≡ 3 = refl in
    omega (arith, five, three, length-append ((id ++ count) ++ key) bytes, length-append (id ++ count) key, length-append id count)

pub same_record : (id id2 key key2 bytes bytes2 : List ℕ) → id ≡ id2 → key ≡ key2 → bytes ≡ bytes2
    → with_id id key bytes ≡ with_id id2 key2 bytes2
same_record id id2 key key2 bytes bytes2 i k b = rw (i, k, b) refl

-- bytes in a slot of zeros
pub begun : (s0 s1 s2 bytes : List ℕ) → s1 ≡ replicate (length s0) 0 → PutBehind 0 bytes s1 s2 → s2 ≡ filled (length s0) bytes
begun s0 s1 s2 bytes zeros puts =
    let none : length s0 ≡ length s0 - 0 = omega arith in
    put_behind (length s0) s1 s2 [] bytes 0 puts (ap length zeros ∙ length-replicate (length s0) 0) refl
    (zeros ∙ ap (λ (n : ℕ). replicate n 0) none)

-- How such bytes spell a track: its home address, its records and the end mark.

pub label_spelled : (home r0 a b c end : List ℕ)
    → (home ++ r0) ++ (((a ++ b) ++ c) ++ end) ≡ home ++ ((r0 ++ (a ++ (b ++ (c ++ [])))) ++ end)
label_spelled home r0 a b c end = simp (append_assoc, append-nil)

pub table_spelled : (home r0 blocks end : List ℕ) → ((home ++ r0) ++ blocks) ++ end ≡ home ++ ((r0 ++ blocks) ++ end)
table_spelled home r0 blocks end = simp append_assoc

pub bare_spelled : (home r0 end : List ℕ) → (home ++ r0) ++ end ≡ home ++ ((r0 ++ []) ++ end)
bare_spelled home r0 end = simp (append_assoc, append-nil)

-- the bytes of one more block of the table
pub one_block : (g : Geometry) (l : NewLabel) (track count : ℕ)
    → table_front g l track (count + 1) ≡ table_front g l track count ++ record_bytes (block_record g l track (count + 1))
one_block g l track count =
    let front = track_front (track_bytes g track) in
    let blocks = map (block_record g l track) (range_with_len 1 count) in
    let last = block_record g l track (count + 1) in
    ap (λ (rs : List Record). front ++ flat_map record_bytes rs)
    (map-range_with_len_more (block_record g l track) 1 count (count + 1) (omega arith))
    ∙ ap (λ (bytes : List ℕ). front ++ bytes) (flat_map-append record_bytes blocks (last ∷ [])
    ∙ ap (λ (bytes : List ℕ). flat_map record_bytes blocks ++ bytes) (append-nil (record_bytes last)))
    ∙ sym (append_assoc front (flat_map record_bytes blocks) (record_bytes last))
