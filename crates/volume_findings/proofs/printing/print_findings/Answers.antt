use Rattle.std.proofs.Common.{refl, []}
use Rattle.counted_io.proofs.Written.{takes_nothing}
use Rattle.volume_findings.proofs.printing.print_findings.Goals as goal

-- nothing is printed
pub returns-in-Err-clause-lines : goal.returns-in-Err-clause-lines
returns-in-Err-clause-lines g c = λ slots known. record { front = []; rest = _; whole = refl; taken = takes_nothing _ }
