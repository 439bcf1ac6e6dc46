-- The deck of a run: which text it is, and why there is none.
use Rattle.std.specs.Prelude.{◌≡◌, ◌⊎◌, ℕ, List, Option, Some, None, IsSome, option_map}
use Rattle.counted_io.specs.Streams.{Stream}
use Rattle.dasd_jobs.specs.Sources.{SourceFile, ReadsFront}
use Rattle.s360_deck.specs.declared.fault.DeckFault.TheVariants.{OutOfMemory}
use Rattle.s360_deck.specs.declared.runs.RunFault.{RunFault}
use Rattle.s360_deck.specs.declared.runs.RunFault.TheVariants as run
use Rattle.s360_deck.specs.CountedRuns.{ReadsWhole, PassesDeck, FailsToRead, FindsNoRoom}
use Rattle.dasd_words.specs.declared.requests.DeckRun.{DeckRun}
use Rattle.program_faults.specs.declared.fault.ProgramFault.{ProgramFault}
use Rattle.program_faults.specs.declared.fault.ProgramFault.TheVariants as fault

-- the path of the file that has the deck, where the words name one
abbrev pub deck_path : DeckRun → Option (List ℕ)
deck_path asked = option_map (λ path. path.now) asked.deck

-- The text of a deck is all that the reader had, and no file was opened. Or it is that of the file at this path, which was opened, and no
-- other: of one that is too long the first bytes, one more than a deck may have; and the reader keeps all.
abbrev pub ReadsDeck : (path : Option (List ℕ)) → (before after : Stream) → (text : List ℕ) → (opened_before opened : List SourceFile) → Type 0
ReadsDeck None before after text opened_before opened = ReadsWhole before after text × (opened ≡ opened_before)
ReadsDeck (Some path) before after text opened_before opened = (after ≡ before) × ReadsFront path 1048577 text opened_before opened

-- Why there is no text: a read failed, or the reader gave more than a deck may have, or there is no memory; or the file can't be read.
abbrev pub NotRead : RunFault → (path : Option (List ℕ)) → (before after : Stream) → Type 0
NotRead run.Read None before after = FailsToRead before after ⊎ PassesDeck before after
NotRead (run.Deck OutOfMemory) None before after = FindsNoRoom before after
NotRead run.Read (Some path) before after = after ≡ before
NotRead (run.Deck OutOfMemory) (Some path) before after = after ≡ before
NotRead f path before after = ⊥

-- the program's fault is that of such a deck
abbrev pub IsUnread : ProgramFault → (path : Option (List ℕ)) → (before after : Stream) → Type 0
IsUnread (fault.Run f) path before after = NotRead f path before after
IsUnread f path before after = ⊥

-- why there is no trace, where one is asked for
abbrev pub NoTrace : ProgramFault → DeckRun → Type 0
NoTrace fault.TraceNotOpened asked = IsSome asked.trace
NoTrace fault.TraceInUse asked = IsSome asked.trace
NoTrace fault.OutOfMemory asked = IsSome asked.trace
NoTrace f asked = ⊥
