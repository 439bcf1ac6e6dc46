use Rattle.std.proofs.Common.{◌∙◌, inl}
use Rattle.dasd_run.proofs.words.assemble_text.Goals as goal

pub returns : goal.returns
returns g c = rw (← c.host.view_is) (
  inl (
    c.in_ok-text.text.items,
    g.F.ImageFiles.opened c.read_deck.new.files,
    c.in_ok-text.ensures.read,
    rw c.as_slice.ensures.value at c.print_deck.ensures.assembles,
  ),
  c.print_deck.ensures.kept ∙ c.read_deck.ensures.kept,
)
