-- What is not told of is what it was.
use Rattle.std.proofs.Common.{◌≡◌, ℕ, ◌+◌, ◌-◌, ◌*◌, ◌/◌, ◌%◌, ◌<◌, ◌≤◌, ◌==◌, ◌&&◌, nat_lt, length, get_or, Bool, true, false, Option}
use Rattle.std.proofs.Common.{Some, None, if◌then◌else◌, ◌∙◌, sym, ap, subst, refl, arith}
use Rattle.std.proofs.Common.{div-add-mod', true≢false}
use Rattle.std.proofs.lemmas.Nat.{div-mul-add}
use Rattle.std.proofs.lemmas.Bool.{and_parts, eqb-true, ltb-false, ltb-true, not-false, or_parts}
use Rattle.dasd_files.specs.Parts.{PartsState, IsUnwritten, is_part, may_differ, part_of}
use Rattle.dasd_files.specs.Files.{AreAsThen, FileState, IsFile, IsUnwrittenIn, byte_now, byte_then, may_differ_in, may_have_changed}

-- the bytes of a part lie in it
within_part : (p : PartsState) (at byte : ℕ) → (at + p.lead) % p.size ≡ 0 → at ≤ byte → byte < at + p.size → part_of p byte ≡ part_of p at
within_part p at byte whole low high =
    let q = part_of p at in
    let start : q * p.size ≡ at + p.lead = omega (arith, div-add-mod' (at + p.lead) p.size, whole) in
    ap (λ n. n / p.size) (omega (arith, start, low)) ∙ div-mul-add q p.size (byte - at) (omega (arith, low, high))

unwritten_part : (p : PartsState) (number at len byte : ℕ) → may_differ p number at len ≡ false → at ≤ byte → byte < at + len
    → IsUnwritten p number byte
unwritten_part p number at len byte e low high = by_part (is_part p at len) refl e
  where
    of_part : is_part p at len ≡ true → nat_lt number (get_or p.numbers (part_of p at) 0) ≡ false → IsUnwritten p number byte
    of_part part before =
        let both = and_parts (((at + p.lead) % p.size == 0) && (len == p.size)) (nat_lt (part_of p at) (length p.numbers)) part in
        let first = and_parts ((at + p.lead) % p.size == 0) (len == p.size) both.0 in
        let size = eqb-true len p.size first.1 in
        let same = within_part p at byte (eqb-true ((at + p.lead) % p.size) 0 first.0) low (omega (arith, high, size)) in
        record {
          there = subst (λ q. q < length p.numbers) (sym same) (ltb-true (part_of p at) (length p.numbers) both.1);
          before = subst (λ q. get_or p.numbers q 0 ≤ number) (sym same) (ltb-false number (get_or p.numbers (part_of p at) 0) before);
        }

    by_part : (b : Bool) → is_part p at len ≡ b → (if b then nat_lt number (get_or p.numbers (part_of p at) 0) else true) ≡ false
        → IsUnwritten p number byte
    by_part true part before = of_part part before
    by_part false part before = absurd (true≢false before)

as_then_inside : (f : FileState) (number at len : ℕ) → IsFile f → at + len ≤ length f.content → may_have_changed f number at len ≡ false
    → AreAsThen f number at len
as_then_inside f number at len is within e = λ byte low high. by_parts f.parts refl e byte low high
  where
    by_parts : (o : Option PartsState) → f.parts ≡ o → may_differ_in o f.changes number at len ≡ false → (byte : ℕ) → at ≤ byte
        → byte < at + len
        → byte_now f byte ≡ byte_then f number byte
    by_parts None parts e byte low high =
        let same = eqb-true number f.changes (not-false (number == f.changes) e) in
        sym (ap (λ n. byte_then f n byte) same ∙ is.last byte (omega (arith, high, within)))
    by_parts (Some p) parts e byte low high =
        let both = or_parts (nat_lt f.changes number) (may_differ p number at len) e in
        is.unwritten number byte (ltb-false f.changes number both.0) (omega (arith, high, within))
        (subst (λ o. IsUnwrittenIn o number byte) (sym parts) (unwritten_part p number at len byte both.1 low high))

-- of a file as it is seen
pub as_then : (inside f : FileState) (number at len : ℕ) → inside ≡ f → IsFile inside → at + len ≤ length f.content
    → may_have_changed inside number at len ≡ false → AreAsThen f number at len
as_then inside f number at len is_f is within e =
    subst (λ (g : FileState). AreAsThen g number at len) is_f
    (as_then_inside inside number at len is (subst (λ (g : FileState). at + len ≤ length g.content) (sym is_f) within) e)
