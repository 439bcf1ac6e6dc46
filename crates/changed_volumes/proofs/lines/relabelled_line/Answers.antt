use Rattle.std.proofs.Common.{◌∙◌, ◌++◌, ◌∷◌, [], ap, codes, append_assoc, List, ℕ}
use Rattle.std.specs.Fmt.{decimal}
use Rattle.ckd_track.specs.Model.{model_number_of}
use Rattle.changed_volumes.proofs.lines.relabelled_line.Goals as goal

pub returns : goal.returns
returns c =
    let model = decimal (model_number_of c.args.geometry.model) in
    let cylinders = decimal c.args.geometry.cylinders in
    let words = codes " cylinders\n" in
    rw (
      c.push_str-3.ensures.bytes,
      c.put_decimal-2.ensures.text,
      c.push_str-2.ensures.bytes,
      c.put_decimal.ensures.text,
      c.push_str.ensures.bytes,
      c.new-line.ensures,
      c.from.ensures,
      c.from-2.ensures,
      c.number.ensures,
    )
    (ap (λ (l : List ℕ). codes "relabelled " ++ l) (append_assoc (model ++ 32 ∷ []) cylinders words
    ∙ append_assoc model (32 ∷ []) (cylinders ++ words)))
