-- The paths of an image, as they are printed.
use Rattle.std.specs.Prelude.{ℕ, List, codes}
use Rattle.std.specs.List.{join_by}
use Rattle.serde_json.specs.Data.{string}
use Rattle.serde_json.specs.Written.{compact_text}

-- the paths of an image, joined by plus signs
abbrev pub joined_paths : (paths : List (List ℕ)) → List ℕ
joined_paths paths = join_by (λ path. path) (codes "+") paths

-- the same as one string of JSON, with quotes
abbrev pub quoted_paths : (paths : List (List ℕ)) → List ℕ
quoted_paths paths = compact_text (string (joined_paths paths))
