-- A write of a store that fails at the calls asked for, in the words of every store.
use Rattle.std.proofs.Common.{◌≡◌, ℕ, ◌+◌, ◌-◌, ◌≤◌, min, Bool, true, false, not, ◌&&◌, if◌then◌else◌, is_ok, Result, Ok, Err, OnOk, OnErr}
use Rattle.std.proofs.Common.{List, length, take, refl, ap, arith, length-take}
use Rattle.ckd_image.specs.declared.store.StoreFault.{StoreFault}
use Rattle.ckd_image.specs.Store.{Stored, overwritten, Torn, Counts}
use Rattle.ckd_image.specs.Failing.{Failing, after_torn_write}
use Rattle.ckd_image.proofs.Writes.{torn_within}

-- the first 60 bytes, within the content
torn_sixty : (s new : Stored) (at : ℕ) (bytes : List ℕ) → at ≤ length s.content → new ≡ after_torn_write s at bytes
    → Torn s.content new.content at (length bytes)
torn_sixty s new at bytes begins is =
    let count = min 60 (length s.content - at) in
    rw (ap (λ (v : Stored). v.content) is) (torn_within s.content (take count bytes) at (length bytes) (simp length-take (omega arith))
    (simp length-take (omega arith)))

-- what a write that may fail tells, by the cases of whether it fails, whether there is room and what is answered
pub told : (old new : Failing) (at : ℕ) (bytes : List ℕ) (fails room : Bool) (r : Result (Unit {0}) StoreFault)
    → at ≤ length old.store.content → is_ok r ≡ (not fails && room)
    → new.store ≡ (if fails then after_torn_write old.store at bytes else (if room then record old.store {
      content =
          overwritten old.store.content at bytes;
    } else record old.store { failures = old.store.failures + 1 })) → new.made_to_fail ≡ old.made_to_fail + (if fails then 1 else 0)
    → record {
      written : OnOk r (new.store.content ≡ overwritten old.store.content at bytes);
      torn : OnErr r (Torn old.store.content new.store.content at (length bytes));
      same : new.store.origin ≡ old.store.origin;
      counted : Counts (old.store.failures + old.made_to_fail) (new.store.failures + new.made_to_fail) r;
    }
told old new at bytes true room (Err e) begins ok is counted =
    record { written = tt; torn = torn_sixty old.store new.store at bytes begins is; same = rw is refl; counted = rw is (omega arith) }
told old new at bytes false true (Ok v) begins ok is counted = rw is (record {
  written = refl;
  torn = tt;
  same = refl;
  counted =
      omega arith;
})
told old new at bytes false false (Err e) begins ok is counted =
    rw is (record { written = tt; torn = record { before = refl; behind = refl; same_length = refl }; same = refl; counted = omega arith })
told old new at bytes _ _ _ begins ok is counted = cc
