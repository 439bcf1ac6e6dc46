use Rattle.std.proofs.Common.{◌≡◌, ◌∙◌, ap, ℕ, List, ◌++◌, length, replicate, append-nil, arith}
use Rattle.ckd_track.specs.Changes.{overwritten}
use Rattle.new_labels.proofs.tables.body_of.Goals as goal

body_written : (key bytes : List ℕ) → length key ≡ 44 → length bytes ≡ 96
    → overwritten (overwritten (replicate 140 0) 44 bytes) 0 key ≡ key ++ bytes
body_written key bytes forty ninety = rw (forty, ninety) (ap (λ (l : List ℕ). key ++ l) (append-nil bytes))

pub returns : goal.returns
returns c =
    let key = c.args.key.now in
    let bytes = c.args.bytes.now in
    c.overwrite-2.ensures ∙ ap (λ (b : List ℕ). overwritten b 0 key) c.overwrite.ensures
    ∙ body_written key bytes (omega arith) (omega arith)
