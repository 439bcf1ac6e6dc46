-- Lines for people, and for programs.
use Rattle.std.specs.Prelude.{List, ℕ}
use Rattle.dasd_volumes.specs.declared.forms.Style.{Style}
use Rattle.dasd_volumes.specs.declared.forms.Style.TheVariants.{Text, Json}

-- of two texts the one for people, or the one for programs
abbrev pub in_style : Style → (text json : List ℕ) → List ℕ
in_style Text text json = text
in_style Json text json = json
