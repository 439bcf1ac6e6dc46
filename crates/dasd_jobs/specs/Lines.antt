-- What jobs print.
use Rattle.std.specs.Prelude.{ℕ, List, [], ◌∷◌, codes}
use Rattle.std.specs.List.{concat}
use Rattle.std.specs.Fmt.{decimal}
use Rattle.ckd_track.specs.declared.model.DriveModel.{DriveModel}
use Rattle.ckd_track.specs.Model.{model_number_of}

-- what a format prints
abbrev pub formatted_line : DriveModel → (cylinders : ℕ) → List ℕ
formatted_line model cylinders =
    concat (codes "formatted " ∷ decimal (model_number_of model) ∷ codes " " ∷ decimal cylinders ∷ codes " cylinders" ∷ (10 ∷ []) ∷ [])
