-- Which words ask for a request: its command, its paths and names, and the options that decide what is opened and written.
use Rattle.std.specs.Prelude.{◌≡◌, ℕ, ◌-◌, ◌==◌, Bool, true, false, ◌&&◌, ◌||◌, not, List, [], ◌∷◌, length, map, drop, codes}
use Rattle.std.specs.Prelude.{Option, Some, None, is_some, if◌then◌else◌}
use Rattle.std.specs.List.{join_by}
use Rattle.std.specs.Option.{option_copied}
use Rattle.command_words.specs.Lines.{Line, line_of, has, is_valued, gives, is_set, asks, begins}
use Rattle.admitted_words.specs.declared.TheConstants.{VALUED}
use Rattle.dasd_words.specs.declared.requests.AskedTrace.{AskedTrace}
use Rattle.dasd_words.specs.declared.requests.ComparedVolumes.{ComparedVolumes}
use Rattle.dasd_words.specs.declared.requests.DeckRun.{DeckRun}
use Rattle.dasd_words.specs.declared.requests.FileForm.{FileForm}
use Rattle.dasd_words.specs.declared.requests.NewImage.{NewImage}
use Rattle.dasd_words.specs.declared.requests.PrintedVolume.{PrintedVolume}
use Rattle.dasd_words.specs.declared.requests.Request.{Request}
use Rattle.dasd_words.specs.declared.requests.Request.TheVariants as request
use Rattle.dasd_words.specs.declared.requests.TraceTarget.{TraceTarget}
use Rattle.dasd_words.specs.declared.requests.TraceTarget.TheVariants.{StandardError, File}
use Rattle.admitted_words.specs.Forms.{reads, is_form, word_of}
use Rattle.admitted_words.specs.InPacks.{in_packs}
use Rattle.admitted_words.specs.Volumes.{are_named}

-- a new image at a path, with a label or without one
abbrev pub formats : Line → NewImage → (labelled : Bool) → Bool
formats line image labelled =
    asks line (codes "format") (image.path.now ∷ []) [] && is_set line (codes "--no-replace") (not image.replaces)
    && is_valued line (codes "--label") labelled

-- a volume of which something is printed: its files, and these words after them
abbrev pub prints : Line → (command : List ℕ) → PrintedVolume → (others : List (List ℕ)) → Bool
prints line command volume others = asks line command (map (λ path. path.now) volume.paths.items) others && reads line volume

-- beside the command and the files are two or three words
abbrev pub has_part : Line → PrintedVolume → Bool
has_part line volume =
    (length line.operands - length volume.paths.items) == 3 || (length line.operands - length volume.paths.items) == 4

-- A dump: after the files are the numbers of cylinders, heads and maybe records.
abbrev pub dumps : Line → PrintedVolume → Bool
dumps line volume =
    begins line (codes "dump") (map (λ path. path.now) volume.paths.items) && has_part line volume && reads line volume

-- with --whole each of two images is one file
abbrev pub are_files : Line → ComparedVolumes → Bool
are_files line volumes =
    if has line (codes "--whole") then length volumes.one.items == 1 && length volumes.other.items == 1 else true

-- how two volumes are read, and what is printed
abbrev pub compares_so : Line → ComparedVolumes → Bool
compares_so line volumes = is_set line (codes "--json") volumes.json && is_set line (codes "--as-far-as-it-goes") volumes.as_far

-- A comparison: each image is a word, which joins its files by plus signs.
abbrev pub compares : Line → ComparedVolumes → Bool
compares line volumes =
    asks line (codes "compare")
    (join_by (λ path. path.now) (codes "+") volumes.one.items ∷ join_by (λ path. path.now) (codes "+") volumes.other.items ∷ []) []
    && are_files line volumes && compares_so line volumes

-- what is taken out of a volume: by a name after its files, or all into a folder; its tracks with --raw, and its members are listed with --list
abbrev pub takes : Line → (raw list : Bool) → (folder : Option (List ℕ)) → Bool
takes line raw list folder = is_set line (codes "--raw") raw && is_set line (codes "--list") list && gives line (codes "--all") folder

-- the file of what is taken out, and how the volume is read
abbrev pub goes_to : Line → (target : Option (List ℕ)) → (as_far : Bool) → Bool
goes_to line target as_far = gives line (codes "--to") target && is_set line (codes "--as-far-as-it-goes") as_far

-- a volume that is changed: its files, these words after them, and whether new files take their places
abbrev pub changes : Line → (command : List ℕ) → (paths : List (List ℕ)) → (replaces : Bool) → (others : List (List ℕ)) → Bool
changes line command paths replaces others = asks line command paths others && is_set line (codes "--replace") replaces

-- what is put onto a volume: a file, as a data set or a member, or a folder; and what it has
abbrev pub loads : Line → FileForm → (file folder member : Option (List ℕ)) → Bool
loads line of file folder member =
    is_form line of && gives line (codes "--from") file && gives line (codes "--all") folder && gives line (codes "--member") member

-- the file of a trace, where it goes to one
abbrev pub target_path : TraceTarget → Option (List ℕ)
target_path StandardError = None
target_path (File path) = Some path.now

abbrev pub trace_path : Option AskedTrace → Option (List ℕ)
trace_path None = None
trace_path (Some trace) = target_path trace.target

-- a text at a path, or on standard input
abbrev pub asks_text : Line → (command : List ℕ) → (path : Option (List ℕ)) → Bool
asks_text line command None = asks line command [] []
asks_text line command (Some path) = asks line command (path ∷ []) []

-- whether and how the files of a run are saved
abbrev pub saves : Line → DeckRun → Bool
saves line asked = is_set line (codes "--no-save") (not asked.saves) && is_set line (codes "--replace") (not asked.in_place)

-- the file of its deck, and that of its trace
abbrev pub has_files : Line → DeckRun → Bool
has_files line asked = gives line (codes "--deck") (option_copied asked.deck) && gives line (codes "--trace-to") (trace_path asked.trace)

-- A deck that is run: its volumes, whether and how they are saved, and its files.
abbrev pub runs : Line → DeckRun → Bool
runs line asked =
    begins line (codes "run") [] && are_named (drop 1 line.operands) asked.volumes.items && saves line asked && has_files line asked

-- Words ask for a request by the command that is its own.
abbrev pub admits : Line → Request → Bool
admits line (request.Format image) = formats line image false
admits line (request.FormatLabelled image label) = formats line image true
admits line (request.List paths) = asks line (codes "list") (map (λ path. path.now) paths.items) []
admits line (request.ListPart volume part) = prints line (codes "list") volume []
admits line (request.Check paths) = asks line (codes "check") (map (λ path. path.now) paths.items) []
admits line (request.CheckStrictly asked) = prints line (codes "check") asked.volume []
admits line (request.CheckContents volume) = prints line (codes "check") volume []
admits line (request.Dump volume part) = dumps line volume
admits line (request.Compare volumes) = compares line volumes
admits line (request.Hash asked) = prints line (codes "hash") asked.volume []
admits line (request.ListContents volume) = prints line (codes "vtoc") volume []
admits line (request.ListDetails asked) = prints line (codes "vtoc") asked.volume []
admits line (request.ListMembers asked) =
    prints line (codes "extract") asked.volume (asked.name.now ∷ []) && takes line false true None
admits line (request.Extract asked) =
    asks line (codes "extract") (map (λ path. path.now) asked.paths.items) (word_of asked.name.data_set.now (option_copied asked.name.member) ∷ [])
    && takes line false false None && goes_to line (option_copied asked.target) asked.as_far && is_form line asked.form
admits line (request.ExtractTracks asked) =
    asks line (codes "extract") (map (λ path. path.now) asked.paths.items) (asked.name.now ∷ [])
    && takes line true false None && goes_to line (option_copied asked.target) asked.as_far
admits line (request.ExtractAll asked) =
    asks line (codes "extract") (map (λ path. path.now) asked.paths.items) []
    && takes line false false (Some asked.folder.now) && goes_to line None asked.as_far && is_form line asked.form
admits line (request.Rename asked) =
    changes line (codes "rename") (map (λ path. path.now) asked.paths.items) asked.replaces (asked.old.now ∷ asked.new.now ∷ [])
admits line (request.RenameMember asked) =
    changes line (codes "rename") (map (λ path. path.now) asked.paths.items) asked.replaces
    (word_of asked.library.now (Some asked.old.now) ∷ word_of asked.library.now (Some asked.new.now) ∷ [])
admits line (request.DeleteMember asked) =
    changes line (codes "delete") (map (λ path. path.now) asked.paths.items) asked.replaces
    (word_of asked.library.now (Some asked.member.now) ∷ [])
admits line (request.Delete asked) = changes line (codes "delete") (map (λ path. path.now) asked.paths.items) asked.replaces (asked.name.now ∷ [])
admits line (request.Relabel asked) =
    changes line (codes "relabel") (map (λ path. path.now) asked.paths.items) asked.replaces []
    && is_valued line (codes "--label") (is_some asked.serial) && is_valued line (codes "--owner") (is_some asked.owner)
admits line (request.Recover asked) =
    asks line (codes "recover") (map (λ path. path.now) asked.paths.items) [] && is_set line (codes "--drop") asked.drops
admits line (request.Load asked) =
    changes line (codes "load") (map (λ path. path.now) asked.paths.items) asked.replaces (asked.name.now ∷ [])
    && loads line asked.form (Some asked.source.now) None None
admits line (request.LoadMember asked) =
    changes line (codes "load") (map (λ path. path.now) asked.paths.items) asked.replaces (asked.library.now ∷ [])
    && loads line asked.form (Some asked.source.now) None (Some asked.member.now)
admits line (request.LoadAll asked) =
    changes line (codes "load") (map (λ path. path.now) asked.paths.items) asked.replaces []
    && loads line asked.form None (Some asked.folder.now) None
admits line (request.Explain noted) = begins line (codes "explain") []
admits line (request.Assemble path) = asks_text line (codes "assemble") (option_copied path)
admits line (request.Disassemble path) = asks_text line (codes "disassemble") (option_copied path)
admits line (request.Run asked) = runs line asked

-- Words ask for a request: by its own command, or by ls, cat, cp, mv or rm.
abbrev pub is_asked : Line → Request → Bool
is_asked line asked = admits line asked || in_packs line asked

-- The words, of which the first is the program's name, ask for this request.
abbrev pub AskFor : (words : List (List ℕ)) → Request → Type 0
AskFor words asked = is_asked (line_of (map (λ name. name.now) VALUED) (drop 1 words)) asked ≡ true
