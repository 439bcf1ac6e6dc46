use Rattle.std.proofs.Common.{◌++◌, length, take, List, ℕ, ap, sym, append_assoc, ◌∙◌}
use Rattle.std.specs.List.{flat_map}
use Rattle.journal_text.specs.Spelling.{number, file_text, named_of, all_named}
use Rattle.journal_text.proofs.Loop.{one_more}
use Rattle.journal_text.proofs.writing.put_files.Goals as goal

pub loop-file-preserved : goal.loop-file-preserved
loop-file-preserved c =
    let cs = c.args.files.now in
    let i = c.loop-file.file-index in
    let head = number (length cs) in
    let before = flat_map file_text (all_named (take i cs)) in
    let text = file_text (named_of c.file-item.result) in
    let more = one_more named_of file_text cs i c.file-item.result c.loop-file-test.true c.file-item.is in
    let front = c.args.out.now.items ++ head in
    c.in_ok-put_file.ensures ∙ ap (λ (l : List ℕ). l ++ text) c.loop-file.invariant ∙ append_assoc front before text
    ∙ ap (λ (l : List ℕ). front ++ l) (sym more)
