-- What findings print together, and how many there are of each severity.
use Rattle.std.specs.Prelude.{◌≡◌, ℕ, ◌+◌, ◌-◌, ◌^◌, min, Bool, true, false, not, ◌&&◌, if◌then◌else◌, List, [], ◌∷◌, ◌++◌, flat_map}
use Rattle.std.specs.Prelude.{count_by, codes, Option, Result, Ok, Err}
use Rattle.std.specs.List.{concat}
use Rattle.std.specs.Fmt.{decimal}
use Rattle.std.specs.Io.KnownBytes.{Appends}
use Rattle.counted_io.specs.Quantities.{quantity_text}
use Rattle.counted_io.specs.Streams.{Stream, Takes, TakesFront}
use Rattle.dasd_volumes.specs.declared.fault.VolumeFault.{VolumeFault}
use Rattle.dasd_archive.specs.declared.findings.Severity.{Severity}
use Rattle.dasd_archive.specs.declared.findings.Severity.TheVariants.{Error, Warning, Note}
use Rattle.dasd_archive.specs.declared.findings.StrictFinding.{StrictFinding}
use Rattle.dasd_volumes.specs.declared.forms.Style.{Style}
use Rattle.dasd_volumes.specs.declared.forms.Style.TheVariants.{Text, Json}
use Rattle.dasd_archive.specs.declared.reports.FindingStyle.{FindingStyle}
use Rattle.dasd_archive.specs.declared.reports.Tally.{Tally}
use Rattle.dasd_volumes.specs.Lines.{line_feed}
use Rattle.dasd_archive.specs.Findings.{severity_of, finding_line}

abbrev pub is_error : Severity → Bool
is_error Error = true
is_error Warning = false
is_error Note = false

abbrev pub is_warning : Severity → Bool
is_warning Error = false
is_warning Warning = true
is_warning Note = false

abbrev pub is_note : Severity → Bool
is_note Error = false
is_note Warning = false
is_note Note = true

-- a count goes up to 2 ^ 64 - 1
abbrev pub counted : ℕ → ℕ
counted n = min n (2 ^ 64 - 1)

-- how many findings there are of each severity
abbrev pub tally_of : List StrictFinding → Tally
tally_of findings = record {
  errors = counted (count_by (λ f. is_error (severity_of f.problem)) findings);
  warnings = counted (count_by (λ f. is_warning (severity_of f.problem)) findings);
  notes = counted (count_by (λ f. is_note (severity_of f.problem)) findings);
}

abbrev pub one_more : Severity → Tally → Tally
one_more Error t = record t { errors = counted (t.errors + 1) }
one_more Warning t = record t { warnings = counted (t.warnings + 1) }
one_more Note t = record t { notes = counted (t.notes + 1) }

-- a note has no line where notes are left out; each other finding has one
abbrev pub shown_line : FindingStyle → (path : List ℕ) → StrictFinding → List ℕ
shown_line s path f = if is_note (severity_of f.problem) && not s.with_notes then [] else finding_line s.style path f

abbrev pub finding_lines : FindingStyle → (path : List ℕ) → List StrictFinding → List ℕ
finding_lines style path findings = flat_map (shown_line style path) findings

abbrev pub tally_line : Style → (path : List ℕ) → Tally → List ℕ
tally_line Text path t = concat (
    quantity_text t.errors (codes "error") (codes "errors") ∷ codes ", " ∷ quantity_text t.warnings (codes "warning") (codes "warnings") ∷ codes ", "
    ∷ quantity_text t.notes (codes "note") (codes "notes") ∷ line_feed ∷ [])
tally_line Json path t = concat (
    codes "{\"path\":" ∷ path ∷ codes ",\"errors\":" ∷ decimal t.errors ∷ codes ",\"warnings\":" ∷ decimal t.warnings
    ∷ codes ",\"notes\":" ∷ decimal t.notes ∷ codes "}" ∷ line_feed ∷ [])

-- these findings were counted, with those before them
abbrev pub CountsUp : (tally tally_now : Tally) → List StrictFinding → Type 0
CountsUp tally tally_now findings = (earlier : List StrictFinding) → tally ≡ tally_of earlier → tally_now ≡ tally_of (earlier ++ findings)

-- from before to now the lines of these findings were appended, and they were counted
pub record Reports (style : FindingStyle) (path : List ℕ) (before now : Option (List ℕ)) (tally tally_now : Tally) (findings : List StrictFinding) : Type 0 where
  pub lines : Appends before now (finding_lines style path findings)
  pub counts : CountsUp tally tally_now findings

-- these findings were printed and counted; with a fault only the first bytes of their lines were printed
abbrev pub PrintsFindings : {A : Type 0} → Result A VolumeFault → FindingStyle → (path : List ℕ) → List StrictFinding → (before after : Stream)
    → (tally tally_now : Tally) → Type 0
PrintsFindings (Ok _) style path findings before after tally tally_now = Takes before after (finding_lines style path findings)
    × CountsUp tally tally_now findings
PrintsFindings (Err _) style path findings before after tally tally_now = TakesFront before after (finding_lines style path findings)
