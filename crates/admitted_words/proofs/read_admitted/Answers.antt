use Rattle.std.proofs.Common.{◌≡◌, ◌∙◌, ℕ, true, List, map, drop, subst, sym}
use Rattle.command_words.specs.Lines.{Line, line_of, seen}
use Rattle.admitted_words.specs.declared.TheConstants.{VALUED}
use Rattle.admitted_words.specs.Admitted.{is_asked}
use Rattle.admitted_words.proofs.Reading.{writes_nothing}
use Rattle.admitted_words.proofs.read_admitted.Goals as goal

-- the line that was looked at is that of the words after the program's name
pub returns-then-branch-clause-asked : goal.returns-then-branch-clause-asked
returns-then-branch-clause-asked c =
    let valued = map (λ name. name.now) VALUED in
    let line : seen c.in_ok-line.line ≡ line_of valued (drop 1 (map (λ word. word.now) c.args.words.now)) =
    subst (λ (words : List (List ℕ)). seen c.in_ok-line.line ≡ line_of valued words) c.after_first.ensures c.in_ok-line.ensures in
    subst (λ (l : Line). is_asked l c.in_ok-asked.asked.request ≡ true) line (sym c.in_ok-is_asked.ensures ∙ c.if-branch.true)

pub returns-then-branch-clause-reads : goal.returns-then-branch-clause-reads
returns-then-branch-clause-reads c =
    λ only. writes_nothing (line_of (map (λ name. name.now) VALUED) (drop 1 (map (λ word. word.now) c.args.words.now)))
    c.in_ok-asked.asked.request (returns-then-branch-clause-asked c) only
