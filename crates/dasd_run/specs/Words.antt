-- Channel programs in words: what is printed of a text that is assembled, and of a deck that is put into words.
use Rattle.std.specs.Prelude.{◌≡◌, ◌⊎◌, ◌<◌, ℕ, List, [], length, take, codes, Option, Some, None, Result, Ok, Err}
use Rattle.counted_io.specs.Streams.{Stream}
use Rattle.s360_deck.specs.declared.runs.RunFault.TheVariants as run
use Rattle.std.specs.Global.{Vec}
use Rattle.s360_assembler.specs.Assembled.{assembled, IsAssembled}
use Rattle.s360_assembler.specs.declared.fault.AssemblyFault.{AssemblyFault}
use Rattle.s360_disassembler.specs.Words.{AreWordsOf, NotDisassembled}
use Rattle.dasd_run.specs.declared.commands.Ending.{Ending}
use Rattle.program_faults.specs.declared.fault.ProgramFault.{ProgramFault}
use Rattle.program_faults.specs.declared.fault.ProgramFault.TheVariants as fault
use Rattle.dasd_jobs.specs.Sources.{SourceFile}
use Rattle.s360_assembler.specs.Files.{files_named}
use Rattle.s360_assembler.specs.declared.files.LoadableFile.{LoadableFile}
use Rattle.dasd_run.specs.Decks.{ReadsDeck, IsUnread}
use Rattle.dasd_run.specs.Loads.{LoadsFiles, NotLoaded}
use Rattle.dasd_run.specs.Outside.{Outside}
use Rattle.dasd_run.specs.Runs.{Tells}

-- what a text is called whose lines are told of: the path of its file, or the standard input
abbrev pub source_name : (path : Option (List ℕ)) → List ℕ
source_name (Some path) = path
source_name None = codes "standard input"

-- what is printed of a text, and which files are opened for it
abbrev pub Printing : Type 1
Printing = Result Ending ProgramFault → (path : Option (List ℕ)) → (text : List ℕ) → (opened_before opened : List SourceFile)
    → (before printed : Stream) → Type 0

-- Why a text with these files is not assembled: its own name is told, and the fault that the definitions find; or there is no memory.
abbrev pub NotAssembled : ProgramFault → (path : Option (List ℕ)) → (loaded : List LoadableFile) → (text : List ℕ) → Type 0
NotAssembled (fault.Assembly source f) path loaded text = (source.bytes.items ≡ source_name path) × (assembled loaded text ≡ Err f)
NotAssembled fault.OutOfMemory path loaded text = Unit {0}
NotAssembled f path loaded text = ⊥

-- The deck of a text with these files is printed; or it is not assembled, and nothing is printed.
abbrev pub PrintsDeck : Result Ending ProgramFault → (path : Option (List ℕ)) → (loaded : List LoadableFile) → (text : List ℕ)
    → (before printed : Stream) → Type 0
PrintsDeck result path loaded text before printed =
    ((deck : List ℕ) × (assembled loaded text ≡ Ok deck) × Tells result deck before printed)
    ⊎ ((f : ProgramFault) × (result ≡ Err f) × NotAssembled f path loaded text × (printed ≡ before))

-- Why the files of a text are not loaded: the text is longer than a deck may be, and none was opened; or so it is told under its own name; or
-- there is no memory.
abbrev pub TellsNotLoaded : ProgramFault → (path : Option (List ℕ)) → (loaded : List LoadableFile) → (text : List ℕ) → Type 0
TellsNotLoaded (fault.Run run.Read) path loaded text = (1048576 < length text) × (loaded ≡ [])
TellsNotLoaded (fault.Assembly source f) path loaded text = (source.bytes.items ≡ source_name path) × NotLoaded f loaded
TellsNotLoaded fault.OutOfMemory path loaded text = Unit {0}
TellsNotLoaded f path loaded text = ⊥

-- The files that a text names were loaded, and its deck is made with them, or it is not assembled; or only the first of them were loaded. No
-- other file was opened.
abbrev pub MakesDeck : Result (Vec ℕ) AssemblyFault → (text : List ℕ) → (opened_before opened : List SourceFile) → Type 0
MakesDeck result text opened_before opened =
    ((loaded : List LoadableFile) × LoadsFiles (files_named text) loaded opened_before opened × IsAssembled (assembled loaded text) result)
    ⊎ ((f : AssemblyFault) × (number : ℕ) × (loaded : List LoadableFile) × (result ≡ Err f)
    × LoadsFiles (take number (files_named text)) loaded opened_before opened × NotLoaded f loaded)

-- The files that a text names were loaded, and its deck is printed, or not; or only the first of them were, and nothing is printed. No other
-- file was opened.
abbrev pub AssemblesText : Printing
AssemblesText result path text opened_before opened before printed =
    ((loaded : List LoadableFile) × LoadsFiles (files_named text) loaded opened_before opened × PrintsDeck result path loaded text before printed)
    ⊎ ((f : ProgramFault) × (number : ℕ) × (loaded : List LoadableFile) × (result ≡ Err f)
    × LoadsFiles (take number (files_named text)) loaded opened_before opened × TellsNotLoaded f path loaded text × (printed ≡ before))

-- why a deck is not put into words
abbrev pub NotInWords : ProgramFault → (path : Option (List ℕ)) → (deck : List ℕ) → Type 0
NotInWords (fault.Run run.Read) path deck = 1048576 < length deck
NotInWords (fault.Disassembly source f) path deck = (source.bytes.items ≡ source_name path) × NotDisassembled f deck
NotInWords fault.OutOfMemory path deck = Unit {0}
NotInWords f path deck = ⊥

-- the words of a deck are printed; or it is not put into words, and nothing is printed
abbrev pub PrintsOwnWords : Result Ending ProgramFault → (path : Option (List ℕ)) → (deck : List ℕ) → (before printed : Stream) → Type 0
PrintsOwnWords result path deck before printed =
    ((words : List ℕ) × AreWordsOf deck words × Tells result words before printed)
    ⊎ ((f : ProgramFault) × (result ≡ Err f) × NotInWords f path deck × (printed ≡ before))

-- The same, and no file is opened.
abbrev pub PrintsWords : Printing
PrintsWords result path deck opened_before opened before printed =
    PrintsOwnWords result path deck before printed × (opened ≡ opened_before)

-- A text is read, of the file at a path or of the reader, and this is printed of it; or it is not read, and nothing is printed. No file is
-- written.
abbrev pub WithText : Printing → Result Ending ProgramFault → (path : Option (List ℕ)) → (before now : Outside) → Type 0
WithText prints result path before now =
    (((text : List ℕ) × (between : List SourceFile) × ReadsDeck path before.read now.read text before.opened between
    × prints result path text between now.opened before.printed now.printed)
    ⊎ ((f : ProgramFault) × (result ≡ Err f) × IsUnread f path before.read now.read
    × (now.opened ≡ before.opened) × (now.printed ≡ before.printed)))
    × (now.written ≡ before.written)
