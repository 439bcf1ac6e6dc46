-- Which requests write files, and which words ask for none of these.
use Rattle.std.specs.Prelude.{◌≡◌, ℕ, Bool, true, false, not, ◌&&◌, ◌||◌, List, [], ◌∷◌, codes, map, drop, is_some}
use Rattle.std.specs.List.{list_any}
use Rattle.command_words.specs.Lines.{Line, line_of, has, begins}
use Rattle.admitted_words.specs.declared.TheConstants.{VALUED}
use Rattle.dasd_words.specs.declared.requests.Request.{Request}
use Rattle.dasd_words.specs.declared.requests.Request.TheVariants as request

-- a request may write files; what is printed alone makes none, a run saves none where that is asked, and a dropped journal leaves them as they are
abbrev pub may_write : Request → Bool
may_write (request.Format image) = true
may_write (request.FormatLabelled image label) = true
may_write (request.Extract asked) = is_some asked.target
may_write (request.ExtractTracks asked) = is_some asked.target
may_write (request.ExtractAll asked) = true
may_write (request.Rename asked) = true
may_write (request.RenameMember asked) = true
may_write (request.Delete asked) = true
may_write (request.DeleteMember asked) = true
may_write (request.Relabel asked) = true
may_write (request.Recover asked) = not asked.drops
may_write (request.Load asked) = true
may_write (request.LoadMember asked) = true
may_write (request.LoadAll asked) = true
may_write (request.Run asked) = asked.saves
may_write other = false

-- the commands that only read
abbrev pub reading_commands : List (List ℕ)
reading_commands =
    codes "list" ∷ codes "check" ∷ codes "dump" ∷ codes "compare" ∷ codes "hash" ∷ codes "vtoc" ∷ codes "ls" ∷ codes "cat" ∷ codes "explain"
    ∷ codes "assemble" ∷ codes "disassemble" ∷ []

-- the command of a line only reads: it is one of these, or a run with --no-save
abbrev pub only_reads : Line → Bool
only_reads line =
    list_any (λ command. begins line command []) reading_commands || (begins line (codes "run") [] && has line (codes "--no-save"))

-- The words, of which the first is the program's name, ask for a command that only reads.
abbrev pub OnlyRead : (words : List (List ℕ)) → Type 0
OnlyRead words = only_reads (line_of (map (λ name. name.now) VALUED) (drop 1 words)) ≡ true
