-- A field that is read is the field that was written, and what was written is read again.
use Rattle.std.proofs.Common.{◌≡◌, ℕ, zero, suc, ◌+◌, ◌^◌, ◌<◌, ◌≤◌, Bool, true, false, cond, ltb, List, [], ◌∷◌, ◌++◌, length, get_or}
use Rattle.std.proofs.Common.{take, drop, Result, Ok, Err, refl, sym, ap, subst, ◌∙◌, append_assoc, arith, inl, inr}
use Rattle.std.specs.List.{flat_map, AllByRecursion}
use Rattle.std.specs.Int.{Width, w64, byte_len, from_be_bytes, to_be_bytes}
use Rattle.std.proofs.lemmas.Bool.{cases_lt, ltb-false, le-ltb}
use Rattle.std.proofs.lemmas.List.{take_at, drop_at, take-append-drop, length-append, length-take, get_or-drop, get_or-take, get_or_past}
use Rattle.std.proofs.lemmas.List.Concat.{flat_map-cons}
use Rattle.std.proofs.lemmas.Nat.{be_bytes_8, from_be_bytes-to_be_bytes_8}
use Rattle.atomic_save.specs.Changes.{Note}
use Rattle.journal_text.specs.declared.faults.JournalFault.{JournalFault}
use Rattle.journal_text.specs.declared.faults.JournalFault.TheVariants.{Damaged}
use Rattle.journal_text.specs.Spelling.{Named, number, string, list_text, file_text, change_text, FileFits, NoteFits}
use Rattle.journal_text.specs.Reading.{◌>>=◌, number_at, string_at, file_at, change_at, items_at, list_at}

abbrev pub IsBytes : List ℕ → Type 0
IsBytes bytes = (i : ℕ) → get_or bytes i 0 < 256

pub IsBytes-drop : (n : ℕ) (bytes : List ℕ) → IsBytes bytes → IsBytes (drop n bytes)
IsBytes-drop n bytes h i = rw get_or-drop (h (n + i))

pub IsBytes-take : (n : ℕ) (bytes : List ℕ) → IsBytes bytes → IsBytes (take n bytes)
IsBytes-take n bytes h i =
    elim (cases_lt i n) [
      | inl lt ↦ rw (get_or-take n bytes i 0 lt) (h i)
      | inr le ↦ rw (get_or_past (take n bytes) i 0 (omega (arith, length-take n bytes))) (omega arith)
    ]

-- the value of a step that did not fail
pub bind_ok : {A B : Type 0} (r : Result A JournalFault) (f : A → Result B JournalFault) (y : B) → (r >>= f) ≡ Ok y
    → (x : A) × (r ≡ Ok x) × (f x ≡ Ok y)
bind_ok (Ok x) f y e = (x, refl, e)
bind_ok (Err d) f y e = absurd cc

-- a test that did not fail
pub passed : {A : Type 0} (b : Bool) (d : JournalFault) (r : Result A JournalFault) (y : A) → cond b (Err d) r ≡ Ok y
    → (b ≡ false) × (r ≡ Ok y)
passed true d r y e = absurd cc
passed false d r y e = (refl, e)

abbrev done : {A : Type 0} → A → Result A JournalFault
done x = Ok x

pub ok_is : {A : Type 0} (x y : A) → done x ≡ done y → x ≡ y
ok_is x y e = cc

-- what a reader took from the front
pub record Takes (bytes text rest : List ℕ) : Type 0 where
  pub parts : bytes ≡ text ++ rest
  pub rest_fits : IsBytes rest

pub Takes-then : (a x b y c : List ℕ) → Takes a x b → Takes b y c → Takes a (x ++ y) c
Takes-then a x b y c p q =
    record { parts = p.parts ∙ ap (λ (t : List ℕ). x ++ t) q.parts ∙ sym (append_assoc x y c); rest_fits = q.rest_fits }

-- ---- numbers, of a width that does not compute

unfoldable width_at : Width → List ℕ → Result (ℕ × List ℕ) JournalFault
width_at w bytes =
    cond (ltb (length bytes) (byte_len w)) (Err Damaged) (Ok (from_be_bytes w (take (byte_len w) bytes), drop (byte_len w) bytes))

record IsWide (w : Width) (limit : ℕ) : Type 0 where
  pub len : (n : ℕ) → length (to_be_bytes w n) ≡ byte_len w
  pub back : (bytes : List ℕ) → length bytes ≡ byte_len w → IsBytes bytes → to_be_bytes w (from_be_bytes w bytes) ≡ bytes
  pub again : (n : ℕ) → n < limit → from_be_bytes w (to_be_bytes w n) ≡ n
  pub below : (bytes : List ℕ) → IsBytes bytes → from_be_bytes w bytes < limit

wide : IsWide w64 (2 ^ 64)
wide = record {
  len = λ n. refl;
  back = λ bytes len fits. be_bytes_8 bytes _ len fits refl;
  again = λ n lt. from_be_bytes-to_be_bytes_8 n lt;
  below = λ bytes fits. omega (arith, fits 0, fits 1, fits 2, fits 3, fits 4, fits 5, fits 6, fits 7);
}

width_takes : (w : Width) (limit : ℕ) (wide : IsWide w limit) (bytes : List ℕ) (n : ℕ) (rest : List ℕ) → IsBytes bytes
    → width_at w bytes ≡ Ok (n, rest) → Takes bytes (to_be_bytes w n) rest × (n < limit)
unfolding width_at
width_takes w limit wide bytes n rest fits e =
    let g = passed (ltb (length bytes) (byte_len w)) Damaged (Ok (from_be_bytes w (take (byte_len w) bytes), drop (byte_len w) bytes))
    (n, rest) e in
    let p = ok_is (from_be_bytes w (take (byte_len w) bytes), drop (byte_len w) bytes) (n, rest) g.1 in
    let long : byte_len w ≤ length bytes = ltb-false _ _ g.0 in
    let n-is : from_be_bytes w (take (byte_len w) bytes) ≡ n = ap (λ (p : ℕ × List ℕ). p.0) p in
    let rest-is : drop (byte_len w) bytes ≡ rest = ap (λ (p : ℕ × List ℕ). p.1) p in
    let front : to_be_bytes w n ≡ take (byte_len w) bytes =
    rw (← n-is) (wide.back (take (byte_len w) bytes) (omega (arith, length-take (byte_len w) bytes))
    (IsBytes-take (byte_len w) bytes fits)) in (
      record {
        parts = rw (front, ← rest-is) (sym (take-append-drop (byte_len w) bytes));
        rest_fits = rw (← rest-is) (IsBytes-drop (byte_len w) bytes fits);
      },
      rw (← n-is) (wide.below (take (byte_len w) bytes) (IsBytes-take (byte_len w) bytes fits)),
    )

width_again : (w : Width) (limit : ℕ) (wide : IsWide w limit) (n : ℕ) (rest : List ℕ) → n < limit
    → width_at w (to_be_bytes w n ++ rest) ≡ Ok (n, rest)
unfolding width_at
width_again w limit wide n rest lt =
    let len = wide.len n in
    let long : ltb (length (to_be_bytes w n ++ rest)) (byte_len w) ≡ false =
    le-ltb _ _ (omega (arith, length-append (to_be_bytes w n) rest)) in
    rw (long, take_at (to_be_bytes w n) rest (byte_len w) len, drop_at (to_be_bytes w n) rest (byte_len w) len, wide.again n lt) refl

pub number_takes : (bytes : List ℕ) (n : ℕ) (rest : List ℕ) → IsBytes bytes → number_at bytes ≡ Ok (n, rest)
    → Takes bytes (number n) rest × (n < 2 ^ 64)
unfolding width_at
number_takes bytes n rest fits e = width_takes w64 (2 ^ 64) wide bytes n rest fits e

pub number_again : (n : ℕ) (rest : List ℕ) → n < 2 ^ 64 → number_at (number n ++ rest) ≡ Ok (n, rest)
unfolding width_at
number_again n rest lt = width_again w64 (2 ^ 64) wide n rest lt

-- ---- strings

pub string_takes : (bytes text rest : List ℕ) → IsBytes bytes → string_at bytes ≡ Ok (text, rest)
    → Takes bytes (string text) rest × (length text < 2 ^ 64)
unfolding string_at
string_takes bytes text rest fits e =
    let b = bind_ok (number_at bytes) (λ n. cond (ltb (length n.1) n.0) (Err Damaged) (Ok (take n.0 n.1, drop n.0 n.1))) (text, rest) e in
    let n = b.0 in
    let t = number_takes bytes n.0 n.1 fits b.1 in
    let g = passed (ltb (length n.1) n.0) Damaged (Ok (take n.0 n.1, drop n.0 n.1)) (text, rest) b.2 in
    let long : n.0 ≤ length n.1 = ltb-false _ _ g.0 in
    let len : length (take n.0 n.1) ≡ n.0 = omega (arith, length-take n.0 n.1) in
    let second : Takes n.1 (take n.0 n.1) (drop n.0 n.1) =
    record { parts = sym (take-append-drop n.0 n.1); rest_fits = IsBytes-drop n.0 n.1 t.0.rest_fits } in
    let both = Takes-then bytes (number n.0) n.1 (take n.0 n.1) (drop n.0 n.1) t.0 second in
    let whole : Takes bytes (string (take n.0 n.1)) (drop n.0 n.1) =
    subst (λ (k : ℕ). Takes bytes (number k ++ take n.0 n.1) (drop n.0 n.1)) (sym len) both in
    subst (λ (p : List ℕ × List ℕ). Takes bytes (string p.0) p.1 × (length p.0 < 2 ^ 64))
    (ok_is (take n.0 n.1, drop n.0 n.1) (text, rest) g.1) (whole, omega (arith, t.1))

pub string_again : (text rest : List ℕ) → length text < 2 ^ 64 → string_at (string text ++ rest) ≡ Ok (text, rest)
unfolding string_at
string_again text rest lt =
    let long : ltb (length (text ++ rest)) (length text) ≡ false = le-ltb _ _ (omega (arith, length-append text rest)) in
    rw (number_again (length text) (text ++ rest) lt, long, take_at text rest (length text) refl, drop_at text rest (length text) refl) refl

-- ---- a file

pub file_takes : (bytes : List ℕ) (x : Named × List ℕ) → IsBytes bytes → file_at bytes ≡ Ok x
    → Takes bytes (file_text x.0) x.1 × FileFits x.0
unfolding file_at
file_takes bytes x fits e =
    let made = λ (name : List ℕ) (device inode birth : ℕ) (size : ℕ × List ℕ). done {A = Named × List ℕ}
    (record { name = name; id = record { device = device; inode = inode; birth = birth; size = size.0 } }, size.1) in
    let a = bind_ok (string_at bytes) (λ name. number_at name.1 >>= λ device. number_at device.1 >>= λ inode. number_at inode.1 >>= λ birth.
    number_at birth.1 >>= λ size. made name.0 device.0 inode.0 birth.0 size) x e in
    let b = bind_ok (number_at a.0.1) (λ device. number_at device.1 >>= λ inode. number_at inode.1 >>= λ birth.
    number_at birth.1 >>= λ size. made a.0.0 device.0 inode.0 birth.0 size) x a.2 in
    let c = bind_ok (number_at b.0.1) (λ inode. number_at inode.1 >>= λ birth. number_at birth.1 >>= λ size.
    made a.0.0 b.0.0 inode.0 birth.0 size) x b.2 in
    let d = bind_ok (number_at c.0.1) (λ birth. number_at birth.1 >>= λ size. made a.0.0 b.0.0 c.0.0 birth.0 size) x c.2 in
    let f = bind_ok (number_at d.0.1) (λ size. made a.0.0 b.0.0 c.0.0 d.0.0 size) x d.2 in
    let t0 = string_takes bytes a.0.0 a.0.1 fits a.1 in
    let t1 = number_takes a.0.1 b.0.0 b.0.1 t0.0.rest_fits b.1 in
    let t2 = number_takes b.0.1 c.0.0 c.0.1 t1.0.rest_fits c.1 in
    let t3 = number_takes c.0.1 d.0.0 d.0.1 t2.0.rest_fits d.1 in
    let t4 = number_takes d.0.1 f.0.0 f.0.1 t3.0.rest_fits f.1 in
    let e3 = Takes-then c.0.1 (number d.0.0) d.0.1 (number f.0.0) f.0.1 t3.0 t4.0 in
    let e2 = Takes-then b.0.1 (number c.0.0) c.0.1 (number d.0.0 ++ number f.0.0) f.0.1 t2.0 e3 in
    let e1 = Takes-then a.0.1 (number b.0.0) b.0.1 (number c.0.0 ++ number d.0.0 ++ number f.0.0) f.0.1 t1.0 e2 in
    let e0 = Takes-then bytes (string a.0.0) a.0.1 (number b.0.0 ++ number c.0.0 ++ number d.0.0 ++ number f.0.0) f.0.1 t0.0 e1 in
    let whole : Named × List ℕ =
    (record { name = a.0.0; id = record { device = b.0.0; inode = c.0.0; birth = d.0.0; size = f.0.0 } }, f.0.1) in
    subst (λ (y : Named × List ℕ). Takes bytes (file_text y.0) y.1 × FileFits y.0) (ok_is whole x f.2)
    (e0, record { name = t0.1; device = t1.1; inode = t2.1; birth = t3.1; size = t4.1 })

pub file_again : (n : Named) (rest : List ℕ) → FileFits n → file_at (file_text n ++ rest) ≡ Ok (n, rest)
unfolding file_at
file_again n rest fits =
    let d = number n.id.device in
    let i = number n.id.inode in
    let b = number n.id.birth in
    let s = number n.id.size in
    let regrouped : file_text n ++ rest ≡ string n.name ++ (d ++ (i ++ (b ++ (s ++ rest)))) =
    append_assoc (string n.name) (d ++ (i ++ (b ++ s))) rest in
    ap file_at regrouped ∙ rw (
      string_again n.name (d ++ (i ++ (b ++ (s ++ rest)))) fits.name,
      number_again n.id.device (i ++ (b ++ (s ++ rest))) fits.device,
      number_again n.id.inode (b ++ (s ++ rest)) fits.inode,
      number_again n.id.birth (s ++ rest) fits.birth,
      number_again n.id.size rest fits.size,
    ) refl

-- ---- a change

pub change_takes : (bytes : List ℕ) (x : Note × List ℕ) → IsBytes bytes → change_at bytes ≡ Ok x
    → Takes bytes (change_text x.0) x.1 × NoteFits x.0
unfolding change_at
change_takes bytes x fits e =
    let made = λ (file at : ℕ) (text : List ℕ × List ℕ). done {A = Note × List ℕ}
    (record { file = file; at = at; bytes = text.0 }, text.1) in
    let a = bind_ok (number_at bytes) (λ file. number_at file.1 >>= λ at. string_at at.1 >>= λ text. made file.0 at.0 text) x e in
    let b = bind_ok (number_at a.0.1) (λ at. string_at at.1 >>= λ text. made a.0.0 at.0 text) x a.2 in
    let c = bind_ok (string_at b.0.1) (λ text. made a.0.0 b.0.0 text) x b.2 in
    let t0 = number_takes bytes a.0.0 a.0.1 fits a.1 in
    let t1 = number_takes a.0.1 b.0.0 b.0.1 t0.0.rest_fits b.1 in
    let t2 = string_takes b.0.1 c.0.0 c.0.1 t1.0.rest_fits c.1 in
    let e1 = Takes-then a.0.1 (number b.0.0) b.0.1 (string c.0.0) c.0.1 t1.0 t2.0 in
    let e0 = Takes-then bytes (number a.0.0) a.0.1 (number b.0.0 ++ string c.0.0) c.0.1 t0.0 e1 in
    let whole : Note × List ℕ = (record { file = a.0.0; at = b.0.0; bytes = c.0.0 }, c.0.1) in
    subst (λ (y : Note × List ℕ). Takes bytes (change_text y.0) y.1 × NoteFits y.0) (ok_is whole x c.2)
    (e0, record { file = t0.1; at = t1.1; bytes = t2.1 })

pub change_again : (n : Note) (rest : List ℕ) → NoteFits n → change_at (change_text n ++ rest) ≡ Ok (n, rest)
unfolding change_at
change_again n rest fits =
    let f = number n.file in
    let a = number n.at in
    let regrouped : change_text n ++ rest ≡ f ++ (a ++ (string n.bytes ++ rest)) =
    append_assoc f (a ++ string n.bytes) rest ∙ ap (λ (x : List ℕ). f ++ x) (append_assoc a (string n.bytes) rest) in
    ap change_at regrouped ∙ rw (
      number_again n.file (a ++ (string n.bytes ++ rest)) fits.file,
      number_again n.at (string n.bytes ++ rest) fits.at,
      string_again n.bytes rest fits.bytes,
    ) refl

-- ---- one after the other

module _ {X : Type 0} (item_at : List ℕ → Result (X × List ℕ) JournalFault) (text : X → List ℕ) (Fits : X → Type 0) where
  items_take : ((bytes : List ℕ) (x : X × List ℕ) → IsBytes bytes → item_at bytes ≡ Ok x → Takes bytes (text x.0) x.1 × Fits x.0)
      → (n : ℕ) (bytes : List ℕ) (x : List X × List ℕ) → IsBytes bytes → items_at item_at n bytes ≡ Ok x
      → Takes bytes (flat_map text x.0) x.1 × (length x.0 ≡ n) × AllByRecursion Fits x.0
  unfolding items_at
  items_take one zero bytes x fits e =
      subst (λ (y : List X × List ℕ). Takes bytes (flat_map text y.0) y.1 × (length y.0 ≡ 0) × AllByRecursion Fits y.0)
      (ok_is ([], bytes) x e) (record { parts = refl; rest_fits = fits }, refl, tt)
  items_take one (suc n) bytes x fits e =
      let a = bind_ok (item_at bytes) (λ first. items_at item_at n first.1 >>= λ others. Ok (first.0 ∷ others.0, others.1)) x e in
      let b = bind_ok (items_at item_at n a.0.1) (λ others. Ok (a.0.0 ∷ others.0, others.1)) x a.2 in
      let first = one bytes a.0 fits a.1 in
      let second = items_take one n a.0.1 b.0 first.0.rest_fits b.1 in
      let both = Takes-then bytes (text a.0.0) a.0.1 (flat_map text b.0.0) b.0.1 first.0 second.0 in
      let made : List X × List ℕ = (a.0.0 ∷ b.0.0, b.0.1) in
      subst (λ (y : List X × List ℕ). Takes bytes (flat_map text y.0) y.1 × (length y.0 ≡ suc n) × AllByRecursion Fits y.0)
      (ok_is made x b.2) (rw flat_map-cons both, ap suc second.1, (first.1, second.2))

  items_again : ((x : X) (rest : List ℕ) → Fits x → item_at (text x ++ rest) ≡ Ok (x, rest))
      → (xs : List X) (rest : List ℕ) → AllByRecursion Fits xs → items_at item_at (length xs) (flat_map text xs ++ rest) ≡ Ok (xs, rest)
  unfolding items_at
  items_again one [] rest fits = refl
  items_again one (x ∷ xs) rest fits =
      let regrouped : flat_map text (x ∷ xs) ++ rest ≡ text x ++ (flat_map text xs ++ rest) =
      ap (λ (y : List ℕ). y ++ rest) (flat_map-cons text x xs) ∙ append_assoc (text x) (flat_map text xs) rest in
      ap (items_at item_at (suc (length xs))) regrouped ∙ rw (one x (flat_map text xs ++ rest) fits.0, items_again one xs rest fits.1) refl

  pub list_takes : ((bytes : List ℕ) (x : X × List ℕ) → IsBytes bytes → item_at bytes ≡ Ok x → Takes bytes (text x.0) x.1 × Fits x.0)
      → (bytes : List ℕ) (xs : List X) (rest : List ℕ) → IsBytes bytes → list_at item_at bytes ≡ Ok (xs, rest)
      → Takes bytes (list_text text xs) rest × (length xs < 2 ^ 64) × AllByRecursion Fits xs
  unfolding list_at
  list_takes one bytes xs rest fits e =
      let a = bind_ok (number_at bytes) (λ n. items_at item_at n.0 n.1) (xs, rest) e in
      let first = number_takes bytes a.0.0 a.0.1 fits a.1 in
      let second = items_take one a.0.0 a.0.1 (xs, rest) first.0.rest_fits a.2 in
      let both = Takes-then bytes (number a.0.0) a.0.1 (flat_map text xs) rest first.0 second.0 in
      (subst (λ (k : ℕ). Takes bytes (number k ++ flat_map text xs) rest) (sym second.1) both, omega (arith, second.1, first.1), second.2)

  pub list_again : ((x : X) (rest : List ℕ) → Fits x → item_at (text x ++ rest) ≡ Ok (x, rest))
      → (xs : List X) (rest : List ℕ) → length xs < 2 ^ 64 → AllByRecursion Fits xs
      → list_at item_at (list_text text xs ++ rest) ≡ Ok (xs, rest)
  unfolding list_at
  list_again one xs rest few fits =
      ap (list_at item_at) (append_assoc (number (length xs)) (flat_map text xs) rest)
      ∙ rw (number_again (length xs) (flat_map text xs ++ rest) few) (items_again one xs rest fits)
