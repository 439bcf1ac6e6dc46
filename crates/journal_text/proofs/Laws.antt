-- The two laws: what is read is spelled so, and what is spelled so is read.
use Rattle.std.proofs.Common.{◌≡◌, ℕ, suc, ◌+◌, ◌^◌, ◌<◌, ◌≤◌, Bool, true, false, cond, eqb, ltb, not, ◌==◌, List, [], ◌∷◌, ◌++◌, length}
use Rattle.std.proofs.Common.{get_or, take, drop, Result, Ok, Err, bytes_eq, refl, sym, ap, ap₂, subst, ◌∙◌, append_assoc, drop-cons}
use Rattle.std.proofs.Common.{drop-drop, true≢false, arith}
use Rattle.std.specs.Prelude.{IfOk, nat_eq}
use Rattle.std.specs.Int.{w64, from_be_bytes, to_be_bytes}
use Rattle.std.proofs.lemmas.Bool.{and_parts, eqb-true, eq-eqb, ltb-false, le-ltb}
use Rattle.std.proofs.lemmas.List.{append-nil, nil_from_length, take-append-drop, take_at, drop_at, length-append, length-take, length-drop}
use Rattle.std.proofs.lemmas.Nat.{be_bytes_8, from_be_bytes-to_be_bytes_8}
use Rattle.sha2.specs.Sha256.{sha256}
use Rattle.sha2.proofs.Facts256.{length-sha256}
use Rattle.atomic_save.specs.Changes.{Note}
use Rattle.atomic_save.specs.declared.changes.Journal.{Journal}
use Rattle.journal_text.specs.declared.faults.JournalFault.{JournalFault}
use Rattle.journal_text.specs.declared.faults.JournalFault.TheVariants.{Foreign, Later, Truncated, Damaged}
use Rattle.journal_text.specs.Spelling.{Named, Said, number, string, list_text, file_text, change_text, body, tag, version, sealed}
use Rattle.journal_text.specs.Spelling.{spelling, said_by, FileFits, NoteFits, SaidFits}
use Rattle.journal_text.specs.Reading.{◌>>=◌, Gives, number_at, string_at, file_at, change_at, items_at, list_at, body_at, content_of}
use Rattle.journal_text.specs.Reading.{rest_of, body_in, journal_at}
use Rattle.journal_text.proofs.Fields.{IsBytes, IsBytes-take, IsBytes-drop, bind_ok, passed, ok_is, Takes, Takes-then, number_takes}
use Rattle.journal_text.proofs.Fields.{number_again, string_takes, string_again, file_takes, file_again, change_takes, change_again}
use Rattle.journal_text.proofs.Fields.{list_takes, list_again}

-- ---- the body

body_takes : (bytes : List ℕ) (s : Said) → IsBytes bytes → length bytes < 2 ^ 64 → body_at bytes ≡ Ok s → SaidFits s × (bytes ≡ body s)
unfolding body_at
body_takes bytes s fits short e =
    let made = λ (files : List Named) (changes : List Note) (more : List ℕ × List ℕ). cond (eqb (length more.1) 0)
    (Ok (record { files = files; changes = changes; more = more.0 })) (Err Damaged) in
    let a = bind_ok (list_at file_at bytes) (λ files. list_at change_at files.1 >>= λ changes. string_at changes.1 >>= λ more.
    made files.0 changes.0 more) s e in
    let b = bind_ok (list_at change_at a.0.1) (λ changes. string_at changes.1 >>= λ more. made a.0.0 changes.0 more) s a.2 in
    let c = bind_ok (string_at b.0.1) (λ more. made a.0.0 b.0.0 more) s b.2 in
    let g = ended (eqb (length c.0.1) 0) (record { files = a.0.0; changes = b.0.0; more = c.0.0 }) s c.2 in
    let t0 = list_takes file_at file_text FileFits file_takes bytes a.0.0 a.0.1 fits a.1 in
    let t1 = list_takes change_at change_text NoteFits change_takes a.0.1 b.0.0 b.0.1 t0.0.rest_fits b.1 in
    let t2 = string_takes b.0.1 c.0.0 c.0.1 t1.0.rest_fits c.1 in
    let e1 = Takes-then a.0.1 (list_text change_text b.0.0) b.0.1 (string c.0.0) c.0.1 t1.0 t2.0 in
    let e0 = Takes-then bytes (list_text file_text a.0.0) a.0.1 (list_text change_text b.0.0 ++ string c.0.0) c.0.1 t0.0 e1 in
    let whole : Said = record { files = a.0.0; changes = b.0.0; more = c.0.0 } in
    let all : bytes ≡ body whole =
    e0.parts ∙ ap (λ (r : List ℕ). body whole ++ r) (nil_from_length c.0.1 (eqb-true _ _ g.0)) ∙ append-nil (body whole) in
    subst (λ (v : Said). SaidFits v × (bytes ≡ body v)) g.1 (
      record {
        file_count = t0.1;
        files = t0.2;
        change_count = t1.1;
        changes = t1.2;
        more = t2.1;
        whole = subst (λ (l : List ℕ). length l < 2 ^ 64) all short;
      },
      all,
    )
  where
    ended : (b : Bool) (x y : Said) → cond b (Ok x) (Err Damaged) ≡ Ok y → (b ≡ true) × (x ≡ y)
    ended true x y e = (refl, cc)
    ended false x y e = absurd cc

body_again : (s : Said) → SaidFits s → body_at (body s) ≡ Ok s
unfolding body_at
body_again s fits =
    let rest = list_text change_text s.changes ++ string s.more in
    let more : string_at (string s.more) ≡ Ok (s.more, []) =
    ap string_at (sym (append-nil (string s.more))) ∙ string_again s.more [] fits.more in
    rw (
      list_again file_at file_text FileFits file_again s.files rest fits.file_count fits.files,
      list_again change_at change_text NoteFits change_again s.changes (string s.more) fits.change_count fits.changes,
      more,
    ) refl

-- ---- the head

same_bytes : (xs ys : List ℕ) → bytes_eq xs ys ≡ true → xs ≡ ys
same_bytes [] [] e = refl
same_bytes [] (y ∷ ys) e = absurd (true≢false (sym e))
same_bytes (x ∷ xs) [] e = absurd (true≢false (sym e))
same_bytes (x ∷ xs) (y ∷ ys) e =
    let p = and_parts (nat_eq x y) (bytes_eq xs ys) e in
    λ i. eqb-true x y p.0 i ∷ same_bytes xs ys p.1 i

bytes_same : (xs : List ℕ) → bytes_eq xs xs ≡ true
bytes_same [] = refl
bytes_same (x ∷ xs) = rw (eq-eqb x x refl) (bytes_same xs)

yes : (b : Bool) → not b ≡ false → b ≡ true
yes true e = refl
yes false e = absurd (true≢false e)

content_takes : (len : ℕ) (digest bytes b : List ℕ) → content_of len digest bytes ≡ Ok b
    → (length b ≡ len) × (digest ≡ sha256 b) × (bytes ≡ b)
unfolding content_of
content_takes len digest bytes b e =
    let r2 = cond (not (bytes_eq digest (sha256 bytes))) (Err Damaged) (Ok bytes) in
    let r1 = cond (not (length bytes == len)) (Err Damaged) r2 in
    let p0 = passed (ltb (length bytes) len) Truncated r1 b e in
    let p1 = passed (not (length bytes == len)) Damaged r2 b p0.1 in
    let p2 = passed (not (bytes_eq digest (sha256 bytes))) Damaged (Ok bytes) b p1.1 in
    let is = ok_is bytes b p2.1 in
    (ap length (sym is) ∙ eqb-true _ _ (yes (length bytes == len) p1.0), same_bytes digest (sha256 bytes) (yes _ p2.0) ∙ ap sha256 is, is)

content_again : (bytes : List ℕ) → content_of (length bytes) (sha256 bytes) bytes ≡ Ok bytes
unfolding content_of
content_again bytes =
    rw (le-ltb (length bytes) (length bytes) (omega arith), eq-eqb (length bytes) (length bytes) refl, bytes_same (sha256 bytes)) refl

rest_takes : (bytes b : List ℕ) → IsBytes bytes → rest_of bytes ≡ Ok b
    → (bytes ≡ number (length b) ++ (sha256 b ++ b)) × IsBytes b × (length b < 2 ^ 64)
unfolding rest_of
rest_takes bytes b fits e =
    let a = bind_ok (number_at bytes) (λ len. content_of len.0 (take 32 len.1) (drop 32 len.1)) b e in
    let t = number_takes bytes a.0.0 a.0.1 fits a.1 in
    let p = content_takes a.0.0 (take 32 a.0.1) (drop 32 a.0.1) b a.2 in
    let tail : a.0.1 ≡ sha256 b ++ b = sym (take-append-drop 32 a.0.1) ∙ (λ i. p.1 i ++ p.2 i) in (
      t.0.parts ∙ (λ i. number (sym p.0 i) ++ tail i),
      subst IsBytes p.2 (IsBytes-drop 32 a.0.1 t.0.rest_fits),
      subst (λ (k : ℕ). k < 2 ^ 64) (sym p.0) t.1,
    )

rest_again : (bytes : List ℕ) → length bytes < 2 ^ 64 → rest_of (number (length bytes) ++ (sha256 bytes ++ bytes)) ≡ Ok bytes
unfolding rest_of
rest_again bytes short =
    rw (
      number_again (length bytes) (sha256 bytes ++ bytes) short,
      take_at (sha256 bytes) bytes 32 (length-sha256 bytes),
      drop_at (sha256 bytes) bytes 32 (length-sha256 bytes),
    ) (content_again bytes)

body_in_takes : (text b : List ℕ) → IsBytes text → body_in text ≡ Ok b → (text ≡ sealed b) × IsBytes b × (length b < 2 ^ 64)
unfolding body_in
body_in_takes text b fits e =
    let r3 = cond (ltb (length text) 48) (Err Truncated) (rest_of (drop 8 text)) in
    let r2 = cond (not (get_or text 7 0 == version)) (Err Later) r3 in
    let r1 = cond (ltb (length text) 8) (Err Truncated) r2 in
    let p0 = passed (not (bytes_eq (take 7 text) tag)) Foreign r1 b e in
    let p1 = passed (ltb (length text) 8) Truncated r2 b p0.1 in
    let p2 = passed (not (get_or text 7 0 == version)) Later r3 b p1.1 in
    let p3 = passed (ltb (length text) 48) Truncated (rest_of (drop 8 text)) b p2.1 in
    let t = rest_takes (drop 8 text) b (IsBytes-drop 8 text fits) p3.1 in
    let long : 48 ≤ length text = ltb-false _ _ p3.0 in
    let split : drop 7 text ≡ get_or text 7 0 ∷ drop 8 text = drop-cons text 7 0 (omega (arith, long)) in
    let front : take 7 text ≡ tag = same_bytes (take 7 text) tag (yes _ p0.0) in
    let one : get_or text 7 0 ≡ version = eqb-true _ _ (yes (get_or text 7 0 == version) p2.0) in
    (sym (take-append-drop 7 text) ∙ ap (λ (l : List ℕ). take 7 text ++ l) split ∙ (λ i. front i ++ (one i ∷ t.0 i)), t.1, t.2)

body_in_again : (bytes : List ℕ) → length bytes < 2 ^ 64 → body_in (sealed bytes) ≡ Ok bytes
unfolding body_in
body_in_again bytes short =
    let rest = sha256 bytes ++ bytes in
    let n = length bytes in
    let size : length rest ≡ 32 + n = length-append (sha256 bytes) bytes ∙ ap (λ (k : ℕ). k + n) (length-sha256 bytes) in
    let long : length (sealed bytes) ≡ 48 + n = omega (arith, size) in
    let t1 : ltb (length (sealed bytes)) 8 ≡ false = le-ltb _ _ (omega (arith, long)) in
    let t3 : ltb (length (sealed bytes)) 48 ≡ false = le-ltb _ _ (omega (arith, long)) in
    rw (t1, t3) (rest_again bytes short)

-- ---- the whole

journal_takes : (text : List ℕ) (s : Said) → IsBytes text → journal_at text ≡ Ok s → SaidFits s × (text ≡ spelling s)
unfolding journal_at
journal_takes text s fits e =
    let a = bind_ok (body_in text) body_at s e in
    let head = body_in_takes text a.0 fits a.1 in
    let said = body_takes a.0 s head.1 head.2 a.2 in
    (said.0, head.0 ∙ ap sealed said.1)

pub journal_again : (s : Said) → SaidFits s → journal_at (spelling s) ≡ Ok s
unfolding journal_at
journal_again s fits = rw (body_in_again (body s) fits.whole) (body_again s fits)

pub is_found : (text : List ℕ) (r : Result Journal JournalFault) → IsBytes text → Gives said_by r (journal_at text)
    → IfOk r (λ j. SaidFits (said_by j) × (text ≡ spelling (said_by j)))
is_found text (Ok j) fits given = journal_takes text (said_by j) fits given
is_found text (Err e) fits given = tt
