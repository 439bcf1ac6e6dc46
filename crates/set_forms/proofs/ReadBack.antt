-- Forms that are written and read back.
use Rattle.std.proofs.Common.{ℕ, ◌+◌, ◌≡◌, ◌∙◌, List, [], ◌∷◌, ◌++◌, Some, Ok, append-nil, append_assoc, ap, sym}
use Rattle.set_forms.specs.declared.forms.FormLine.{FormLine}
use Rattle.set_forms.specs.declared.forms.FormLine.TheVariants.{Set, Entry}
use Rattle.set_forms.specs.Forms.{spaced, form_line, text_of}
use Rattle.set_forms.specs.Parsing.{words_read, line_read, lines_of, forms_behind}
use Rattle.set_forms.specs.Laws.{IsForm, AreForms, AreReadBack}
use Rattle.set_forms.proofs.Split.{words_back, line_back}
use Rattle.set_forms.proofs.SetsBack.{IsLine, set_is_line}
use Rattle.set_forms.proofs.EntriesBack.{entry_is_line}

is_line : (form : FormLine) → IsForm form → IsLine form
is_line (Set s) is = set_is_line s is
is_line (Entry e) is = entry_is_line e is

module _ (form : FormLine) (l : IsLine form) where
  line : List ℕ
  line = l.first ++ spaced l.words

  lines_are : (text : List ℕ) → lines_of (form_line form ++ text) ≡ line ∷ lines_of text
  unfolding line
  lines_are text = cc (append_assoc (l.first ++ spaced l.words) (10 ∷ []) text, line_back l.first l.words text l.is_word l.are_words)

  read : line_read line ≡ Ok (Some form)
  unfolding line
  read = cc (words_back l.first l.words l.is_word l.are_words)

behind : (before : List FormLine) (number : ℕ) (forms : List FormLine) → AreForms before forms
    → forms_behind before number (lines_of (text_of forms)) ≡ Ok (before ++ forms)
behind before number [] are = ap Ok (sym (append-nil before))
behind before number (form ∷ forms) are =
    let l = is_line form are.0 in
    let more = behind (before ++ form ∷ []) (number + 1) forms are.2 in ap (forms_behind before number) (lines_are form l (text_of forms))
    ∙ rw (read form l, are.1) (more ∙ ap Ok (append_assoc before (form ∷ []) forms))

pub are_read_back : AreReadBack
are_read_back forms are = behind [] 1 forms are
