use Rattle.std.proofs.Common.{inl, refl}
use Rattle.dasd_run.proofs.words.disassemble_deck.Goals as goal

pub returns : goal.returns
returns g c = rw (← c.host.view_is) (
  inl (
    c.in_ok-deck.deck.items,
    g.F.ImageFiles.opened c.read_deck.new.files,
    c.in_ok-deck.ensures.read,
    (rw c.as_slice.ensures.value at c.print_words.ensures, refl),
  ),
  c.read_deck.ensures.kept,
)
