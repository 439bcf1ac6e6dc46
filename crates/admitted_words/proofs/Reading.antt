-- Words that ask for a command that only reads ask for no request that writes.
use Rattle.std.proofs.Common.{◌≡◌, ℕ, Bool, true, false, ◌&&◌, ◌||◌, not, List, [], ◌∷◌, codes, refl, sym, ◌∙◌, subst}
use Rattle.std.proofs.Common.{Bor, Option, Some, None, is_some}
use Rattle.std.proofs.lemmas.Bool.{true≢false}
use Rattle.std.specs.Cmp.Lexicographic.{pointwise}
use Rattle.std.specs.List.{join_by, list_any}
use Rattle.std.specs.Option.{option_copied}
use Rattle.std.specs.Str.{bytes_eq}
use Rattle.std.proofs.lemmas.Slice.Eq.{bytes_eq-Decides}
use Rattle.command_words.specs.Lines.{Line, has, is_set, asks, are_front}
use Rattle.dasd_words.specs.InPacks.{is_host_file}
use Rattle.dasd_words.specs.declared.requests.FileForm.{FileForm}
use Rattle.dasd_words.specs.declared.requests.FileForm.TheVariants as form
use Rattle.dasd_words.specs.declared.requests.Request.{Request}
use Rattle.dasd_words.specs.declared.requests.Request.TheVariants as request
use Rattle.admitted_words.specs.Admitted.{admits, is_asked}
use Rattle.admitted_words.specs.Forms.{is_form}
use Rattle.admitted_words.specs.InPacks.{place, are_names, copies, takes_place, reads_so, puts_place, in_packs}
use Rattle.admitted_words.specs.Writing.{may_write, reading_commands, only_reads}

-- what `only_reads` is of operands
abbrev reads_by : (operands : List (List ℕ)) → (no_save : Bool) → Bool
reads_by operands no_save =
    list_any (λ command. are_front operands command []) reading_commands || (are_front operands (codes "run") [] && no_save)

left : (a b : Bool) → (a && b) ≡ true → a ≡ true
left true b h = refl
left false b h = h

right : (a b : Bool) → (a && b) ≡ true → b ≡ true
right true b h = h
right false b h = cc

-- only the first operand counts, which is the command
first_counts : (word command : List ℕ) (words : List (List ℕ)) (no_save : Bool) → bytes_eq word command ≡ true →
    reads_by (word ∷ words) no_save ≡ reads_by (command ∷ []) no_save
first_counts word command words no_save h =
    let same : word ≡ command = (bytes_eq-Decides word command).0 h in
    subst (λ (w : List ℕ). reads_by (word ∷ words) no_save ≡ reads_by (w ∷ []) no_save) same refl

by_words : (operands : List (List ℕ)) (command : List ℕ) (others : List (List ℕ)) (no_save : Bool) →
    pointwise bytes_eq operands (command ∷ others) ≡ true → reads_by operands no_save ≡ reads_by (command ∷ []) no_save
by_words [] command others no_save h = cc
by_words (word ∷ words) command others no_save h = first_counts word command words no_save (left _ _ h)

by_front : (operands : List (List ℕ)) (command : List ℕ) (no_save : Bool) → are_front operands command [] ≡ true →
    reads_by operands no_save ≡ reads_by (command ∷ []) no_save
by_front [] command no_save h = cc
by_front (word ∷ words) command no_save h = first_counts word command words no_save (left _ _ h)

-- a command that writes is none that only reads
writing : (line : Line) (command : List ℕ) (others : List (List ℕ)) →
    reads_by (command ∷ []) (has line (codes "--no-save")) ≡ false →
    pointwise bytes_eq line.operands (command ∷ others) ≡ true → only_reads line ≡ true → true ≡ false
writing line command others none h e =
    sym (sym none ∙ sym (by_words line.operands command others (has line (codes "--no-save")) h) ∙ e)

-- a run that saves has no --no-save
saving : (line : Line) (saves : Bool) → are_front line.operands (codes "run") [] ≡ true →
    is_set line (codes "--no-save") (not saves) ≡ true → only_reads line ≡ true → saves ≡ false
saving line false h s e = refl
saving line true h s e =
    let no_save : has line (codes "--no-save") ≡ true =
    sym (by_front line.operands (codes "run") (has line (codes "--no-save")) h) ∙ e in
    subst (λ (v : Bool). not v ≡ true → true ≡ false) (sym no_save) (λ q. sym q) s

by_command : (line : Line) (r : Request) → admits line r ≡ true → only_reads line ≡ true → may_write r ≡ false
by_command line (request.Format image) h e = writing line (codes "format") _ refl (left _ _ (left _ _ h)) e
by_command line (request.FormatLabelled image label) h e = writing line (codes "format") _ refl (left _ _ (left _ _ h)) e
by_command line (request.Extract asked) h e =
    absurd (true≢false (writing line (codes "extract") _ refl (left _ _ (left _ _ (left _ _ h))) e))
by_command line (request.ExtractTracks asked) h e = absurd (true≢false (writing line (codes "extract") _ refl (left _ _ (left _ _ h)) e))
by_command line (request.ExtractAll asked) h e = writing line (codes "extract") _ refl (left _ _ (left _ _ (left _ _ h))) e
by_command line (request.Rename asked) h e = writing line (codes "rename") _ refl (left _ _ h) e
by_command line (request.RenameMember asked) h e = writing line (codes "rename") _ refl (left _ _ h) e
by_command line (request.Delete asked) h e = writing line (codes "delete") _ refl (left _ _ h) e
by_command line (request.DeleteMember asked) h e = writing line (codes "delete") _ refl (left _ _ h) e
by_command line (request.Relabel asked) h e = writing line (codes "relabel") _ refl (left _ _ (left _ _ (left _ _ h))) e
by_command line (request.Recover asked) h e = absurd (true≢false (writing line (codes "recover") _ refl (left _ _ h) e))
by_command line (request.Load asked) h e = writing line (codes "load") _ refl (left _ _ (left _ _ h)) e
by_command line (request.LoadMember asked) h e = writing line (codes "load") _ refl (left _ _ (left _ _ h)) e
by_command line (request.LoadAll asked) h e = writing line (codes "load") _ refl (left _ _ (left _ _ h)) e
by_command line (request.Run asked) h e =
    saving line asked.saves (left _ _ (left _ _ (left _ _ h))) (left _ _ (right _ _ (left _ _ h))) e
by_command line reads h e = refl

-- what cat prints goes to no file
no_file : (line : Line) (place : List ℕ) (of : FileForm) (target : Option (List ℕ)) → takes_place line place of target ≡ true →
    only_reads line ≡ true → is_some target ≡ false
no_file line place of None h e = refl
no_file line place of (Some file) h e = writing line (codes "cp") _ refl (right _ _ (right _ _ h)) e

-- what cp puts is a file that is written
no_put : (line : Line) (file place : List ℕ) (of : FileForm) (replaces : Bool) → puts_place line file place of replaces ≡ true →
    only_reads line ≡ true → true ≡ false
no_put line file place of replaces h e =
    let formed : (is_form line of && copies line place file (file ∷ place ∷ [])) ≡ true =
    left (is_form line of && copies line place file (file ∷ place ∷ [])) (is_set line (codes "--replace") replaces) h in
    let copied : copies line place file (file ∷ place ∷ []) ≡ true =
    right (is_form line of) (copies line place file (file ∷ place ∷ [])) formed in
    writing line (codes "cp") (file ∷ place ∷ []) refl
    (right (not (is_host_file place) && is_host_file file) (asks line (codes "cp") (file ∷ place ∷ []) []) copied) e

none_copied : (target : Option (Bor (List ℕ))) → is_some (option_copied target) ≡ false → is_some target ≡ false
none_copied None h = refl
none_copied (Some file) h = h

never : {X : Type 0} → false ≡ true → X
never h = absurd (true≢false (sym h))

by_place : (line : Line) (r : Request) → in_packs line r ≡ true → only_reads line ≡ true → may_write r ≡ false
by_place line (request.Extract asked) h e = none_copied asked.target (no_file line _ asked.form _ (right _ _ (left _ _ h)) e)
by_place line (request.ExtractTracks asked) h e =
    let at : List ℕ = place (join_by (λ path. path.now) (codes "+") asked.paths.items) asked.name.now None in
    let taken : takes_place line at form.Blocks (option_copied asked.target) ≡ true =
    right (are_names asked.name.now None) (takes_place line at form.Blocks (option_copied asked.target))
    (left (are_names asked.name.now None && takes_place line at form.Blocks (option_copied asked.target))
    (reads_so line true asked.as_far) h) in
    none_copied asked.target (no_file line at form.Blocks (option_copied asked.target) taken e)
by_place line (request.Load asked) h e =
    let at : List ℕ = place (join_by (λ path. path.now) (codes "+") asked.paths.items) asked.name.now None in
    no_put line asked.source.now at asked.form asked.replaces
    (right (are_names asked.name.now None) (puts_place line asked.source.now at asked.form asked.replaces) h) e
by_place line (request.LoadMember asked) h e =
    let at : List ℕ = place (join_by (λ path. path.now) (codes "+") asked.paths.items) asked.library.now (Some asked.member.now) in
    no_put line asked.source.now at asked.form asked.replaces
    (right (are_names asked.library.now (Some asked.member.now)) (puts_place line asked.source.now at asked.form asked.replaces) h) e
by_place line (request.Rename asked) h e = writing line (codes "mv") _ refl (right _ _ (left _ _ h)) e
by_place line (request.RenameMember asked) h e = writing line (codes "mv") _ refl (right _ _ (left _ _ h)) e
by_place line (request.Delete asked) h e = writing line (codes "rm") _ refl (right _ _ (left _ _ h)) e
by_place line (request.DeleteMember asked) h e = writing line (codes "rm") _ refl (right _ _ (left _ _ h)) e
by_place line (request.Format image) h e = never h
by_place line (request.FormatLabelled image label) h e = never h
by_place line (request.ExtractAll asked) h e = never h
by_place line (request.Relabel asked) h e = never h
by_place line (request.Recover asked) h e = never h
by_place line (request.LoadAll asked) h e = never h
by_place line (request.Run asked) h e = never h
by_place line reads h e = refl

either : {X : Type 0} (a b : Bool) → (a ≡ true → X) → (b ≡ true → X) → (a || b) ≡ true → X
either true b f g h = f refl
either false b f g h = g h

pub writes_nothing : (line : Line) (r : Request) → is_asked line r ≡ true → only_reads line ≡ true → may_write r ≡ false
writes_nothing line r h e = either (admits line r) (in_packs line r) (λ a. by_command line r a e) (λ p. by_place line r p e) h
