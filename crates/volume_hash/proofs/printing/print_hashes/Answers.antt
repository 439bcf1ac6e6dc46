use Rattle.std.proofs.Common.{refl, sym, [], append-nil}
use Rattle.std.proofs.KnownBytes.{Appends-nil}
use Rattle.volume_hash.proofs.printing.print_hashes.Goals as goal

-- nothing is printed
pub returns-in-Err-clause-lines : goal.returns-in-Err-clause-lines
returns-in-Err-clause-lines g c = λ slots known. record {
  front = [];
  rest = _;
  whole = refl;
  taken = record { known = Appends-nil _; passed = sym (append-nil _) };
}
