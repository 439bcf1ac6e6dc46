-- The order of the numbers of an extent's tracks.
use Rattle.std.proofs.Common.{ℕ, ◌≤◌, ◌≡◌, Bool, true, false, arith, rules, tests, refl}
use Rattle.std.proofs.Math.Nat.{mul-le-mul_right}
use Rattle.volume_labels.specs.declared.fields.Extent.{Extent}
use Rattle.volume_labels.specs.Addresses.{is_split, is_run, number_of_track}

by_type : (heads : ℕ) (e : Extent) (shares : Bool) → is_split e ≡ shares → is_run heads e ≡ true
    → number_of_track heads e.first ≤ number_of_track heads e.last
by_type heads e true is run =
    let cylinders : e.first.cylinder ≤ e.last.cylinder = search (rules, tests) in
    let in_heads : e.first.head ≤ e.last.head = search (rules, tests) in
    omega (arith, mul-le-mul_right heads cylinders, in_heads)
by_type heads e false is run = search (rules, tests)

-- the number of an extent's last track is not below that of its first
pub numbers_in_order : (heads : ℕ) (e : Extent) → is_run heads e ≡ true → number_of_track heads e.first ≤ number_of_track heads e.last
numbers_in_order heads e run = by_type heads e (is_split e) refl run
