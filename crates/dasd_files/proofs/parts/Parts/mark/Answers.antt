use Rattle.std.proofs.Common.{rules, ◌≡◌, ◌+◌, ◌∙◌, ap, List, ℕ, length, drop}
use Rattle.std.proofs.lemmas.List.{take_at}
use Rattle.dasd_files.specs.Parts.{PartsState, numbered, part_of}
use Rattle.dasd_files.proofs.Past.{one_part}
use Rattle.dasd_files.proofs.parts.Parts.mark.Goals as goal

-- bytes that lie in one part mark that part alone
pub returns-then-part-len : goal.returns-then-part-len
returns-then-part-len c =
    let p = c.args.self.now in
    let held = c.self.inside.numbers in
    let new = c.set_number.new.numbers in
    let size : length new ≡ held.len = search rules in
    let seen = take_at new (drop (length new) held.items) held.len size in
    let of : List ℕ → PartsState = λ numbers. record { lead = c.self.inside.lead; size = c.self.inside.size; numbers = numbers } in
    let is : of new ≡ record p { numbers = numbered p.numbers (part_of p c.args.at) (part_of p c.args.at + 1) c.args.number } =
    search rules in
    ap of seen ∙ is ∙ one_part p c.args.at c.args.len c.args.number (search rules) (search rules) (search rules) (search rules)
