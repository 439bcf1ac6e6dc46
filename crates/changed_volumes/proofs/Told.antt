-- A volume in files that was changed, and is told of.
use Rattle.std.proofs.Common.{refl, List, ℕ, Result, Ok, Err, OnOk, inr}
use Rattle.counted_io.specs.Streams.{WritesWhole}
use Rattle.counted_io.specs.declared.writing.WriteFault.{WriteFault}
use Rattle.changed_volumes.specs.Changes.{Changing, written_line}
use Rattle.changed_volumes.specs.Files.{Around, ChangesFiles, TellsChange}

module _ {A R : Type 0} (change : Changing A R) (paths : List (List ℕ)) (line : A → List ℕ) (answer : A) (before now : Around) where
  -- its line, or its lines, are printed
  pub told : (r : Result (Unit {0}) WriteFault)
      → ChangesFiles {R = R} (Ok answer) change paths before.opened now.opened before.written now.written
      → WritesWhole r before.printed now.printed (line answer) → TellsChange (written_line r) change paths line before now
  told (Ok done) is wrote = (answer, is, wrote.0, wrote.1)
  told (Err f) is wrote = inr (refl, answer, is, wrote.0, wrote.1)

-- what was written is flushed where it was written whole
pub flushed : (R : Type 0) (r : Result (Unit {0}) WriteFault) (P : Type 0) → OnOk r P → OnOk (written_line {R = R} r) P
flushed R (Ok done) P is = is
flushed R (Err f) P is = tt
