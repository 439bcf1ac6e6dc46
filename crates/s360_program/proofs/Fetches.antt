-- How a CCW is fetched.
use Rattle.std.proofs.Common.{◌≡◌, ℕ, ◌+◌, ◌%◌, refl, ap, arith, true, false, Bool, Some, None, List, length}
use Rattle.std.specs.Prelude.{is_some, slice_get, nat_le, if◌then◌else◌}
use Rattle.std.proofs.lemmas.Option.{slice_get-get_or}
use Rattle.std.proofs.lemmas.Bool.Decides.{nat_tests}
use Rattle.s360_words.specs.Storage.{Storage, is_inside, ccw_at}
use Rattle.s360_words.specs.Words.{is_transfer}
use Rattle.s360_words.specs.declared.words.Ccw.{Ccw}
use Rattle.s360_laws.specs.Places.{Place, TransferTo, GoodCcw, fetch, fetched_at, read_ccw, unless_transfer, is_invalid}

some_at : (xs : List ℕ) (i : ℕ) → nat_le (i + 8) (length xs) ≡ true → is_some (slice_get xs (i + 7)) ≡ true
some_at xs i h = ap is_some (slice_get-get_or xs (i + 7) 0 (grind (arith, nat_tests)))

-- what is read where a word stands
found_at : (s : Storage) (at : ℕ) (begins : Bool) (ccw : Ccw) → at % 8 ≡ 0
    → Some ccw ≡ (if is_inside s at 8 then Some (ccw_at s at) else None)
    → fetched_at s at begins ≡ read_ccw begins ccw
found_at s at begins ccw h w = go (nat_le (at + 8) (length s.bytes)) refl w
  where
    go : (t : Bool) → nat_le (at + 8) (length s.bytes) ≡ t → Some ccw ≡ (if t then Some (ccw_at s at) else None)
        → fetched_at s at begins ≡ read_ccw begins ccw
    go false e k = cc
    go true e k = rw (h, some_at s.bytes at e) (ap (read_ccw begins) (same ccw (ccw_at s at) k))
      where
        same : (a b : Ccw) → Some a ≡ Some b → b ≡ a
        same a b e = cc

pub transfer_found : (s : Storage) (p : Place) (begins : Bool) (ccw : Ccw) → p.next % 8 ≡ 0
    → Some ccw ≡ (if is_inside s p.next 8 then Some (ccw_at s p.next) else None)
    → is_transfer ccw ≡ true → p.may_transfer ≡ true → TransferTo ccw.address ≡ fetch s p begins
transfer_found s p begins ccw h w t m = rw (found_at s p.next begins ccw h w, t, m)

good : (may : Bool) (ccw : Ccw) → GoodCcw ccw ≡ unless_transfer may (GoodCcw ccw)
good true ccw = refl
good false ccw = refl

pub good_found : (s : Storage) (p : Place) (begins : Bool) (ccw : Ccw) → p.next % 8 ≡ 0
    → Some ccw ≡ (if is_inside s p.next 8 then Some (ccw_at s p.next) else None)
    → is_transfer ccw ≡ false → is_invalid begins ccw ≡ false → GoodCcw ccw ≡ fetch s p begins
good_found s p begins ccw h w t v = rw (found_at s p.next begins ccw h w, t, v) (good p.may_transfer ccw)
