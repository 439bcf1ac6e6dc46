-- What is told of data sets that are unloaded: a line for each file, and one for each thing that is wrong.
use Rattle.std.specs.Prelude.{◌≡◌, ◌⊎◌, ℕ, ◌+◌, ◌-◌, ◌^◌, ◌==◌, min, if◌then◌else◌, List, [], ◌∷◌, map, codes, Option, Some, None, Result}
use Rattle.std.specs.Prelude.{Ok, Err}
use Rattle.std.specs.List.{concat}
use Rattle.std.specs.Fmt.{decimal}
use Rattle.counted_io.specs.Streams.{Stream, Takes, TakesFront, NoneFailed, OneFailed}
use Rattle.counted_io.specs.Quantities.{quantity_text}
use Rattle.volume_labels.specs.declared.directories.DirectoryFault.{DirectoryFault}
use Rattle.volume_labels.specs.declared.directories.DirectoryFault.TheVariants.{UsedBytes, EntryPastUsed}
use Rattle.dasd_volumes.specs.Lines.{line_feed}
use Rattle.volume_contents.specs.declared.chains.ChainFault.{ChainFault}
use Rattle.dasd_contents.specs.Words.{chain_text}
use Rattle.dasd_extract.specs.declared.stops.Stop.{Stop}
use Rattle.dasd_extract.specs.Stops.{stop_text}
use Rattle.dasd_jobs.specs.declared.faults.JobFault.TheVariants as job
use Rattle.dasd_unload.specs.declared.fault.UnloadFault.{UnloadFault}
use Rattle.dasd_unload.specs.declared.fault.UnloadFault.TheVariants.{Job}
use Rattle.dasd_unload.specs.declared.report.Tally.{Tally}
use Rattle.dasd_unload.specs.declared.report.Wrong.{Wrong}
use Rattle.dasd_unload.specs.declared.report.Wrong.TheVariants as wrong
use Rattle.dasd_unload.specs.Parts.{is_end, end_text}

-- a line: a file of this name has so many bytes, or something is wrong with what has this name
pub data Line : Type 0 where
  FileLine : (name : List ℕ) → (bytes : ℕ) → Line
  FindingLine : (name : List ℕ) → (text : List ℕ) → Line

-- in words, or as an object of JSON with the paths of the volume
abbrev pub line_text : (json : Option (List ℕ)) → Line → List ℕ
line_text None (FileLine name bytes) = concat (name ∷ codes " " ∷ quantity_text bytes (codes "byte") (codes "bytes") ∷ line_feed ∷ [])
line_text None (FindingLine name text) = concat (name ∷ codes ": " ∷ text ∷ line_feed ∷ [])
line_text (Some path) (FileLine name bytes) =
    concat (codes "{\"path\":" ∷ path ∷ codes ",\"name\":\"" ∷ name ∷ codes "\",\"bytes\":" ∷ decimal bytes ∷ codes "}" ∷ line_feed ∷ [])
line_text (Some path) (FindingLine name text) =
    concat (codes "{\"path\":" ∷ path ∷ codes ",\"name\":\"" ∷ name ∷ codes "\",\"text\":\"" ∷ text ∷ codes "\"}" ∷ line_feed ∷ [])

-- these texts are told of what has a name
abbrev pub finding_lines : (name : List ℕ) → (texts : List (List ℕ)) → List Line
finding_lines name texts = map (FindingLine name) texts

-- how many files and findings were told, each counted up to 2 ^ 64 - 1
abbrev pub one_more : ℕ → ℕ
one_more n = min (n + 1) (2 ^ 64 - 1)

abbrev pub count_line : Tally → Line → Tally
count_line t (FileLine name bytes) = record { files = one_more t.files; findings = t.findings }
count_line t (FindingLine name text) = record { files = t.files; findings = one_more t.findings }

abbrev pub no_line : Tally
no_line = record { files = 0; findings = 0 }

-- the last line
abbrev pub total_text : (json : Option (List ℕ)) → Tally → List ℕ
total_text None t = concat (
    quantity_text t.files (codes "file") (codes "files") ∷ codes ", " ∷ quantity_text t.findings (codes "finding") (codes "findings") ∷ line_feed ∷ [])
total_text (Some path) t =
    concat (codes "{\"path\":" ∷ path ∷ codes ",\"files\":" ∷ decimal t.files ∷ codes ",\"findings\":" ∷ decimal t.findings ∷ codes "}" ∷ line_feed ∷ [])

-- What is wrong, in words.

-- with a table of contents of so many findings
abbrev pub contents_texts : (findings : ℕ) → List (List ℕ)
contents_texts n = if n == 0 then [] else codes "has findings, which dasd vtoc prints" ∷ []

-- with a chain of control blocks
abbrev pub chain_texts : Option ChainFault → List (List ℕ)
chain_texts None = []
chain_texts (Some fault) = chain_text fault ∷ []

-- with a directory
abbrev pub directory_text : DirectoryFault → List ℕ
directory_text UsedBytes = codes "a directory block has a count of bytes that can't be"
directory_text EntryPastUsed = codes "an entry of the directory ends after its block"

abbrev pub directory_texts : Option DirectoryFault → List (List ℕ)
directory_texts None = []
directory_texts (Some fault) = directory_text fault ∷ []

-- with the blocks of a directory that end before their end of file
abbrev pub end_texts : Option Stop → List (List ℕ)
end_texts None = []
end_texts (Some stop) = if is_end stop.cause then [] else stop_text stop ∷ []

-- with one thing
abbrev pub wrong_text : Wrong → List ℕ
wrong_text wrong.Contents = codes "has findings, which dasd vtoc prints"
wrong_text (wrong.Chain fault) = chain_text fault
wrong_text wrong.NoRecords = codes "its format is of no records"
wrong_text (wrong.Directory fault) = directory_text fault
wrong_text (wrong.Ends stop) = stop_text stop
wrong_text (wrong.NotWhole end) = end_text end
wrong_text wrong.Exists = codes "file exists"

-- What is printed.

-- there was no memory for a line, or a write failed, or a flush
abbrev pub WhyNotTold : UnloadFault → (before after : Stream) → Type 0
WhyNotTold f before after = ((f ≡ Job job.OutOfMemory) × NoneFailed before after) ⊎ ((f ≡ Job job.Write) × OneFailed before after)

-- this text was printed, or its first bytes, and why no more
abbrev pub TellsText : {A : Type 0} → Result A UnloadFault → (text : List ℕ) → (before after : Stream) → Type 0
TellsText (Ok _) text before after = Takes before after text × NoneFailed before after
TellsText (Err f) text before after = TakesFront before after text × WhyNotTold f before after
