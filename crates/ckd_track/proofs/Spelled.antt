-- A record's bytes are read back as that record.
use Rattle.std.proofs.Common.{◌≡◌, sym, refl, ℕ, ◌+◌, ◌-◌, ◌*◌, ◌/◌, ◌%◌, false, List, [], ◌∷◌, ◌++◌, length, length-append, drop, take}
use Rattle.std.proofs.Common.{drop-drop, bytes_eq, arith}
use Rattle.std.proofs.lemmas.Grind.{common_steps}
use Rattle.ckd_track.specs.Track.{Record, record_bytes, count_area, record_at, record_size, body_length, key_length, IsRecord}
use Rattle.ckd_track.specs.Track.{begins_with_end_mark, end_mark}

-- what bytes that begin with a record's are read as
pub record ReadsBack (r : Record) (rest : List ℕ) : Type 0 where
  pub key_size : key_length (record_bytes r ++ rest) ≡ length r.key_area
  pub size : body_length (record_bytes r ++ rest) ≡ length r.key_area + length r.data_area
  pub same : record_at (record_bytes r ++ rest) ≡ r
  pub behind : drop (record_size r) (record_bytes r ++ rest) ≡ rest
  pub count : take 8 (record_bytes r ++ rest) ≡ count_area r
  pub the_key : take (length r.key_area) (drop 8 (record_bytes r ++ rest)) ≡ r.key_area
  pub the_body : take (length r.data_area) (drop (8 + length r.key_area) (record_bytes r ++ rest)) ≡ r.data_area
  pub long : length (record_bytes r ++ rest) ≡ record_size r + length rest
  pub own : length (record_bytes r) ≡ record_size r
  pub no_end_mark : begins_with_end_mark (record_bytes r ++ rest) ≡ false

-- key, data and what lies behind them
parts : (key body rest : List ℕ) → (take (length key) (key ++ body ++ rest) ≡ key)
    × (take (length body) (drop (length key) (key ++ body ++ rest)) ≡ body)
    × (drop (length key + length body) (key ++ body ++ rest) ≡ rest)
parts key body rest = (grind (arith, common_steps), grind (arith, common_steps), grind (arith, common_steps))

pub reads_back : (r : Record) (rest : List ℕ) → IsRecord r → ReadsBack r rest
reads_back r rest is = go r.id is.id is.no_end_mark
  where
    go : (id : List ℕ) → length id ≡ 5 → bytes_eq (count_area (record r { id = id })) end_mark ≡ false
        → ReadsBack (record r { id = id }) rest
    go (a ∷ b ∷ c ∷ d ∷ e ∷ []) five no_mark =
        let key = r.key_area in
        let body = r.data_area in
        let n = length body in
        let xs = a ∷ b ∷ c ∷ d ∷ e ∷ length key ∷ n / 256 ∷ n % 256 ∷ (key ++ body ++ rest) in
        let p = parts key body rest in
        let size : length key + (n / 256 * 256 + n % 256) ≡ length key + n = omega arith in
        let the_body : take n (drop (8 + length key) xs) ≡ body = rw (sym (drop-drop (length key) 8 xs)) p.1 in
        let k : 8 + length key - 8 ≡ length key = omega arith in
        let d : 8 + (length key + n) - (8 + length key) ≡ n = omega arith in
        record {
          key_size = refl;
          size = size;
          same = rw (size, k, d, p.0, the_body) refl;
          behind = rw (sym (drop-drop (length key + n) 8 xs)) p.2;
          count = refl;
          the_key = p.0;
          the_body = the_body;
          long = grind (arith, length-append {A = ℕ});
          own = grind (arith, length-append {A = ℕ});
          no_end_mark = no_mark;
        }
    go id five no_mark = absurd (omega (arith, five))
