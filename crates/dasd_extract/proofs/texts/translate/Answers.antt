use Rattle.std.proofs.Common.{◌∙◌, sym}
use Rattle.dasd_extract.proofs.Spelled.{front_text}
use Rattle.dasd_extract.proofs.texts.translate.Goals as goal

-- printing characters are the text
pub returns : goal.returns
returns c = λ all. front_text _ c.args.bytes.now c.look_up.ensures (sym c.are_printing.ensures ∙ all)
