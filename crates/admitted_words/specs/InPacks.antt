-- Which words of ls, cat, cp, mv and rm ask for a request: its paths are a front of a word up to the last colon, and its names are the rest.
use Rattle.std.specs.Prelude.{ℕ, ◌==◌, nat_lt, Bool, true, false, ◌&&◌, ◌||◌, not, List, [], ◌∷◌, ◌++◌, length, codes, Option, Some, None}
use Rattle.std.specs.List.{join_by, list_any}
use Rattle.std.specs.Option.{option_copied}
use Rattle.command_words.specs.Lines.{Line, is_set, asks}
use Rattle.dasd_words.specs.InPacks.{has_colon, is_host_file}
use Rattle.dasd_words.specs.declared.requests.FileForm.{FileForm}
use Rattle.dasd_words.specs.declared.requests.FileForm.TheVariants as form
use Rattle.dasd_words.specs.declared.requests.Request.{Request}
use Rattle.dasd_words.specs.declared.requests.Request.TheVariants as request
use Rattle.admitted_words.specs.Forms.{reads, is_form, word_of}

-- the word for a place in a pack, whose files are joined by plus signs: a data set or a member after a colon
abbrev pub place : (pack set : List ℕ) → (member : Option (List ℕ)) → List ℕ
place pack set member = pack ++ codes ":" ++ word_of set member

-- no colon is in these names, so the pack of a word ends at its last one; and no parenthesis in that of the data set, so a member's begins at the first
abbrev pub are_names : (set : List ℕ) → (member : Option (List ℕ)) → Bool
are_names set member = not (has_colon (word_of set member)) && not (list_any (λ c. c == 40) set) && nat_lt 0 (length set)

-- the only operand of a command is this place
abbrev pub asks_place : Line → (command pack set : List ℕ) → (member : Option (List ℕ)) → Bool
asks_place line command pack set member = are_names set member && asks line command (place pack set member ∷ []) []

-- ls of a pack: its word may end with a colon, and does where it has another one
abbrev pub lists_pack : Line → (pack : List ℕ) → Bool
lists_pack line pack =
    asks line (codes "ls") ((pack ++ codes ":") ∷ []) [] || (not (has_colon pack) && asks line (codes "ls") (pack ∷ []) [])

-- cp: one of two words is a place in a pack, and the other is a file of the host
abbrev pub copies : Line → (place file : List ℕ) → (words : List (List ℕ)) → Bool
copies line place file words = not (is_host_file place) && is_host_file file && asks line (codes "cp") words []

-- lines of text
abbrev pub is_text : FileForm → Bool
is_text form.Text = true
is_text form.WithLengths = false
is_text form.Blocks = false

-- cat prints a place in a pack as text; cp copies it to a file, in the form that is asked for
abbrev pub takes_place : Line → (place : List ℕ) → FileForm → (target : Option (List ℕ)) → Bool
takes_place line place of None = is_text of && asks line (codes "cat") (place ∷ []) []
takes_place line place of (Some file) = is_form line of && copies line place file (place ∷ file ∷ [])

-- whether tracks are taken as they are, and how the volume is read
abbrev pub reads_so : Line → (raw as_far : Bool) → Bool
reads_so line raw as_far = is_set line (codes "--raw") raw && is_set line (codes "--as-far-as-it-goes") as_far

-- a file is copied to a place in a pack
abbrev pub puts_place : Line → (file place : List ℕ) → FileForm → (replaces : Bool) → Bool
puts_place line file place of replaces =
    is_form line of && copies line place file (file ∷ place ∷ []) && is_set line (codes "--replace") replaces

-- two places in one pack are the operands of mv
abbrev pub moves : Line → (pack set : List ℕ) → (old : Option (List ℕ)) → (other : List ℕ) → (new : Option (List ℕ)) → Bool
moves line pack set old other new =
    are_names set old && are_names other new && asks line (codes "mv") (place pack set old ∷ place pack other new ∷ []) []

-- Words of ls, cat, cp, mv or rm ask for a request.
abbrev pub in_packs : Line → Request → Bool
in_packs line (request.ListContents volume) = lists_pack line (join_by (λ path. path.now) (codes "+") volume.paths.items) && reads line volume
in_packs line (request.ListDetails asked) =
    lists_pack line (join_by (λ path. path.now) (codes "+") asked.volume.paths.items) && reads line asked.volume
in_packs line (request.ListMembers asked) =
    asks_place line (codes "ls") (join_by (λ path. path.now) (codes "+") asked.volume.paths.items) asked.name.now None && reads line asked.volume
in_packs line (request.Extract asked) =
    are_names asked.name.data_set.now (option_copied asked.name.member)
    && takes_place line (place (join_by (λ path. path.now) (codes "+") asked.paths.items) asked.name.data_set.now (option_copied asked.name.member))
    asked.form (option_copied asked.target)
    && reads_so line false asked.as_far
in_packs line (request.ExtractTracks asked) =
    are_names asked.name.now None
    && takes_place line (place (join_by (λ path. path.now) (codes "+") asked.paths.items) asked.name.now None) form.Blocks (option_copied asked.target)
    && reads_so line true asked.as_far
in_packs line (request.Load asked) =
    are_names asked.name.now None
    && puts_place line asked.source.now (place (join_by (λ path. path.now) (codes "+") asked.paths.items) asked.name.now None) asked.form asked.replaces
in_packs line (request.LoadMember asked) =
    are_names asked.library.now (Some asked.member.now)
    && puts_place line asked.source.now
    (place (join_by (λ path. path.now) (codes "+") asked.paths.items) asked.library.now (Some asked.member.now)) asked.form asked.replaces
in_packs line (request.Rename asked) =
    moves line (join_by (λ path. path.now) (codes "+") asked.paths.items) asked.old.now None asked.new.now None
    && is_set line (codes "--replace") asked.replaces
in_packs line (request.RenameMember asked) =
    moves line (join_by (λ path. path.now) (codes "+") asked.paths.items) asked.library.now (Some asked.old.now) asked.library.now (Some asked.new.now)
    && is_set line (codes "--replace") asked.replaces
in_packs line (request.Delete asked) =
    asks_place line (codes "rm") (join_by (λ path. path.now) (codes "+") asked.paths.items) asked.name.now None
    && is_set line (codes "--replace") asked.replaces
in_packs line (request.DeleteMember asked) =
    asks_place line (codes "rm") (join_by (λ path. path.now) (codes "+") asked.paths.items) asked.library.now (Some asked.member.now)
    && is_set line (codes "--replace") asked.replaces
in_packs line other = false
