use Rattle.std.proofs.Common.{arith}
use Rattle.std.proofs.lemmas.List.{length-map}
use Rattle.atomic_save.specs.Saves.{ids_of}
use Rattle.atomic_save.proofs.Files.{same_lists}
use Rattle.atomic_save.proofs.saving.first_other.Goals as goal

pub returns-clause-same : goal.returns-clause-same
returns-clause-same c =
    same_lists (ids_of c.args.named.now) c.args.files.now c.loop-place.place
    (omega (arith, length-map c.args.named.now (λ f. f.id), c.max-place-end.ensures, c.loop-place-test.false))
    (omega (arith, c.max-place-end.ensures, c.loop-place-test.false)) c.loop-place.invariant
