-- What a file has, how a volume is read, and the word for a data set.
use Rattle.std.specs.Prelude.{ℕ, Bool, ◌&&◌, not, List, ◌++◌, codes, Option, Some, None}
use Rattle.command_words.specs.Lines.{Line, has, is_set}
use Rattle.dasd_words.specs.declared.requests.FileForm.{FileForm}
use Rattle.dasd_words.specs.declared.requests.FileForm.TheVariants as form
use Rattle.dasd_words.specs.declared.requests.PrintedVolume.{PrintedVolume}

-- how a volume is read, and what is printed of it
abbrev pub reads : Line → PrintedVolume → Bool
reads line volume = is_set line (codes "--json") volume.json && is_set line (codes "--as-far-as-it-goes") volume.as_far

-- what a file has: lines of text, blocks with their lengths, or blocks alone
abbrev pub is_form : Line → FileForm → Bool
is_form line form.Text = has line (codes "--text")
is_form line form.WithLengths = not (has line (codes "--text")) && has line (codes "--with-lengths")
is_form line form.Blocks = not (has line (codes "--text")) && not (has line (codes "--with-lengths"))

-- the word for a data set, or for a member of one
abbrev pub word_of : (set : List ℕ) → (member : Option (List ℕ)) → List ℕ
word_of set None = set
word_of set (Some member) = set ++ codes "(" ++ member ++ codes ")"
