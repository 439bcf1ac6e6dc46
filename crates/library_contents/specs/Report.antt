-- Lines about a volume, and whether one of them says that something is wrong.
use Rattle.std.specs.Prelude.{◌≡◌, ℕ, Bool, true, false, ◌||◌, List, ◌++◌, Some}
use Rattle.std.specs.List.{flat_map, list_any}
use Rattle.ckd_track.specs.declared.geometries.Geometry.{Geometry}
use Rattle.dasd_volumes.specs.Reading.{KnownVolume}
use Rattle.library_contents.specs.declared.report.Report.{Report}

-- a line, and whether it says that something is wrong
pub record Line : Type 0 where
  pub text : List ℕ
  pub is_wrong : Bool

abbrev pub plain : List ℕ → Line
plain text = record { text = text; is_wrong = false }

abbrev pub wrong : List ℕ → Line
wrong text = record { text = text; is_wrong = true }

-- lines, one behind another
abbrev pub printed : List Line → List ℕ
printed lines = flat_map (λ (l : Line). l.text) lines

-- one of them says that something is wrong
abbrev pub some_wrong : List Line → Bool
some_wrong lines = list_any (λ (l : Line). l.is_wrong) lines

-- these lines were added
pub record Adds (before now : Report) (lines : List Line) : Type 0 where
  pub text : now.text.items ≡ before.text.items ++ printed lines
  pub is_wrong : now.is_wrong ≡ (before.is_wrong || some_wrong lines)

-- these lines of a volume were added, if its slots are known
abbrev pub AddsOf : KnownVolume → (before now : Report) → (lines : Geometry → List (List ℕ) → List Line) → Type 0
AddsOf v before now lines = (slots : List (List ℕ)) → v.slots ≡ Some slots → Adds before now (lines v.geometry slots)
