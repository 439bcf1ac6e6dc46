-- What is shown of a long job.
use Rattle.std.specs.Prelude.{ℕ, List, [], ◌∷◌, codes}
use Rattle.std.specs.List.{concat}
use Rattle.std.specs.Fmt.{decimal}
use Rattle.dasd_volumes.specs.declared.progress.Stage.{Stage}
use Rattle.dasd_volumes.specs.declared.progress.Stage.TheVariants.{Formatting, Writing, Checking}

-- what a job is about: of a check which cylinder, the first being 1, and of how many
abbrev pub stage_text : Stage → List ℕ
stage_text (Formatting cylinders) = concat (codes "formatting " ∷ decimal cylinders ∷ codes " cylinders" ∷ [])
stage_text (Writing cylinders) = concat (codes "writing " ∷ decimal cylinders ∷ codes " cylinders" ∷ [])
stage_text (Checking cylinder cylinders) = concat (codes "checking cylinder " ∷ decimal cylinder ∷ codes " of " ∷ decimal cylinders ∷ [])
