use Rattle.std.proofs.Common.{rules, tests, ◌≡◌, ◌∙◌, ◌/◌, ◌%◌, true, subst, sym, map, length, List, ℕ, Bor}
use Rattle.std.proofs.lemmas.List.{length-map}
use Rattle.std.specs.Prelude.{is_some}
use Rattle.s360_channels.specs.Channels.{channel_at, numbered}
use Rattle.s360_channels.specs.Selectors.{across}
use Rattle.dasd_subsystem.specs.Attaching.{Attaches, NotAttached, NotTaken}
use Rattle.dasd_subsystem.proofs.Refusing.{err_at, err_then, not_copied, ok_at, some_over}
use Rattle.dasd_subsystem.proofs.subsystem.Subsystem.attach.Goals as goal
use Rattle.dasd_subsystem.proofs.subsystem.Subsystem.attach.Goals.{in-Ok, in-Err}

-- the copies hold what the files do
pub returns-clause-attached : goal.returns-clause-attached
returns-clause-attached c = λ s. elim c.match-attach_files.branch [
  | in-Ok w ↦ ok_at _ _ _ w.result-is (subst (λ (fs : List (List ℕ)). Attaches c.args.address fs (across c.args.self.now.channels s)
      (across c.attach_files.new.self.channels s)) c.in_ok-copies.ensures.copies (w.in-Ok.ensures.attached s))
  | in-Err w ↦ ok_at _ _ _ w.result-is tt
]

pub returns-clause-refused : goal.returns-clause-refused
returns-clause-refused c = λ s.
    let o = channel_at (c.args.address / 256) (across c.args.self.now.channels s) in
    elim c.match-attach_files.branch [
      | in-Ok w ↦ err_at _ _ _ w.result-is tt
      | in-Err w ↦ err_at _ _ _ w.result-is (subst (λ (fs : List (List ℕ)). NotAttached o (c.args.address % 256) fs w.in-Err.refusal)
          c.in_ok-copies.ensures.copies (w.in-Err.ensures.refused s))
    ]

-- there are no copies
pub returns-in_err-copies-clause-refused : goal.returns-in_err-copies-clause-refused
returns-in_err-copies-clause-refused c = λ s.
    let o = channel_at (c.args.address / 256) (across c.args.self.now.channels s) in
    let device = c.args.address % 256 in
    let files = map (λ (file : Bor (List ℕ)). file.now) c.args.files.now in
    let has : is_some (numbered (c.args.address / 256) c.args.self.now.channels.channels) ≡ true = search (rules, tests) in
    let some : is_some o ≡ true = some_over s (numbered (c.args.address / 256) c.args.self.now.channels.channels) ∙ has in
    let count = sym (length-map c.args.files.now (λ (file : Bor (List ℕ)). file.now)) in
    err_then c.from_residual.result (NotTaken (length c.args.files.now)) (NotAttached o device files)
    (λ e h. not_copied o device files (length c.args.files.now) e some count h) (search rules)
