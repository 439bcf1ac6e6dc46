use Rattle.std.proofs.Common.{◌++◌, ap, ◌∙◌}
use Rattle.std.proofs.lemmas.Result.{on_ok_weaker}
use Rattle.journal_text.specs.Spelling.{number, string}
use Rattle.journal_text.proofs.Loop.{added}
use Rattle.journal_text.proofs.writing.put_file.Goals as goal

pub returns : goal.returns
returns c =
    let out = c.args.out.now.items in
    let id = c.args.file.now.id in
    let name = c.in_ok-put_string.ensures ∙ ap (λ l. out ++ string l) c.deref.ensures.value in
    on_ok_weaker c.put_number-4.result (λ last.
    added out (string c.args.file.now.name.items) _ _ _ name
    (added _ (number id.device) _ _ _ c.in_ok-put_number.ensures
    (added _ (number id.inode) _ _ _ c.in_ok-put_number-2.ensures
    (added _ (number id.birth) (number id.size) _ _ c.in_ok-put_number-3.ensures last)))) c.put_number-4.ensures
