-- The memory that a part of a struct takes.
use Rattle.std.proofs.Common.{ℕ, ◌+◌, ◌<◌, arith}

-- the last field of a struct but one fits where the struct fits
pub last_but_one_fits : (before part padding last more n : ℕ) → before + part + padding + last + more < n → part < n
last_but_one_fits before part padding last more n h = omega arith
