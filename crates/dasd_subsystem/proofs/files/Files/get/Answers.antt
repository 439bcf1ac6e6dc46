use Rattle.std.proofs.Common.{rules, ◌≡◌, ◌∙◌, ap, sym, arith, Bor, Option, Some, None}
use Rattle.std.specs.Prelude.{option_copied, option_map, slice_get, slice_index_or}
use Rattle.std.proofs.lemmas.List.{get_or_default}
use Rattle.dasd_files.specs.Files.{FileState}
use Rattle.dasd_subsystem.proofs.There.{get_each, get_past}
use Rattle.dasd_subsystem.proofs.files.Files.get.Goals as goal

-- what is seen of a file that is lent
seen : (r : Option (Bor FileState)) (o : Option FileState) → option_copied r ≡ o → option_map (λ f. f.now.content) r
    ≡ option_map (λ f. f.content) o
seen None o is = ap (option_map (λ f. f.content)) is
seen (Some f) o is = ap (option_map (λ f. f.content)) is

pub returns-then-place-len : goal.returns-then-place-len
returns-then-place-len c =
    sym (get_past (λ f. f.content) c.self.inside.held.items c.args.place c.self.invariant (omega arith))
    ∙ ap (λ fs. slice_get fs c.args.place) c.self.view_is

pub returns : goal.returns
returns c =
    let items = c.self.inside.held.items in
    let file = c.index-as_slice-place.result in
    let is : file ≡ slice_index_or items c.args.place file = search rules in
    let there : slice_index_or items c.args.place file ≡ slice_index_or items c.args.place None =
    get_or_default items c.args.place file None (omega arith) in
    seen c.as_ref.result (slice_index_or items c.args.place None) (c.as_ref.ensures.value ∙ is ∙ there)
    ∙ sym (get_each (λ f. f.content) items c.args.place c.self.invariant) ∙ ap (λ fs. slice_get fs c.args.place) c.self.view_is
