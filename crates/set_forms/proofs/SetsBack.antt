-- The line of a data set, written and read back.
use Rattle.std.proofs.Common.{ℕ, ◌≡◌, List, [], ◌∷◌, ◌++◌, Bool, true, false, Option, Some, None, IfSome, Ok, codes, append_assoc}
use Rattle.std.proofs.Common.{append-nil, ap, refl, lit<, arith}
use Rattle.std.specs.Fmt.{decimal}
use Rattle.std.proofs.lemmas.List.Concat.{flat_map-append}
use Rattle.volume_labels.specs.Names.{safe_name_of}
use Rattle.set_forms.specs.declared.forms.SetForm.{SetForm}
use Rattle.set_forms.specs.declared.forms.SetDetails.{SetDetails}
use Rattle.set_forms.specs.declared.forms.FormLine.{FormLine}
use Rattle.set_forms.specs.declared.forms.FormLine.TheVariants.{Set}
use Rattle.set_forms.specs.Numbers.{day_text}
use Rattle.set_forms.specs.Words.{organisation_text, format_text}
use Rattle.set_forms.specs.Forms.{is_partitioned, spaced, closed, directory_words, details_words, form_line}
use Rattle.set_forms.specs.Parsing.{details_read, end_read, set_read, words_read, a_set}
use Rattle.set_forms.specs.Laws.{HasDirectory, AreDetails, IsSetForm}
use Rattle.set_forms.proofs.Split.{IsWord, AreWords, both_words}
use Rattle.set_forms.proofs.Digits.{number_back, number_word, day_back, day_word}
use Rattle.set_forms.proofs.Spelling.{name_back, name_word}
use Rattle.set_forms.proofs.Letters.{format_back, format_word, organisation_back, organisation_word, byte_back, byte_word}

-- a line that is read back: its words, and that they are the form's
pub record IsLine (form : FormLine) : Type 0 where
  pub first : List ℕ
  pub words : List (List ℕ)
  pub are : form_line form ≡ (first ++ spaced words) ++ 10 ∷ []
  pub is_word : IsWord first
  pub are_words : AreWords words
  pub read : words_read (first ∷ words) ≡ Ok (Some form)

pub closed_is : (words : List (List ℕ)) → closed words ≡ spaced words ++ 10 ∷ []
closed_is [] = refl
closed_is (word ∷ words) = rw (closed_is words, append_assoc word (spaced words) (10 ∷ [])) refl

line_is : (first second third fourth last : List (List ℕ))
    → (codes "data set" ++ (spaced first ++ [])) ++ (spaced second ++ (spaced third ++ (spaced fourth ++ closed last)))
    ≡ (codes "data" ++ spaced (codes "set" ∷ (first ++ (second ++ (third ++ (fourth ++ last)))))) ++ 10 ∷ []
line_is first second third fourth last = rw (closed_is last, append-nil (spaced first)) (simp (append_assoc, flat_map-append))

-- its volume and its extents
details_back : (details : Option SetDetails) → IfSome details AreDetails → details_read (details_words details) ≡ Ok details
details_back None is = refl
details_back (Some d) is = rw (number_back 65535 d.volume (omega arith) (omega arith), byte_back d.extents is.extents) refl

details_are : (details : Option SetDetails) → IfSome details AreDetails → AreWords (details_words details)
details_are None is = tt
details_are (Some d) is = (
  record { some = lit< tt; inner = refl },
  (number_word d.volume (omega arith), (record { some = lit< tt; inner = refl }, (byte_word d.extents is.extents, tt))),
)

end_back : (p : Bool) (d : Option ℕ) → HasDirectory p d → (details : Option SetDetails) → IfSome details AreDetails
    → end_read p (directory_words d ++ details_words details) ≡ Ok (record { directory = d; details = details })
end_back true (Some n) h details is = rw (number_back 65535 n (omega arith) (omega arith), details_back details is) refl
end_back true None h details is = absurd h
end_back false (Some n) h details is = absurd h
end_back false None h None is = refl
end_back false None h (Some d) is = rw (details_back (Some d) is) refl

directory_are : (p : Bool) (d : Option ℕ) → HasDirectory p d → AreWords (directory_words d)
directory_are true (Some n) h = (record { some = lit< tt; inner = refl }, (number_word n (omega arith), tt))
directory_are true None h = absurd h
directory_are false (Some n) h = absurd h
directory_are false None h = tt

module _ (s : SetForm) (is : IsSetForm s) where
  rest : List (List ℕ)
  rest = codes "set" ∷ safe_name_of s.name ∷ organisation_text s.organisation ∷ format_text s.format ∷ decimal s.record_length
      ∷ decimal s.block_length
      ∷ decimal s.key_length ∷ day_text s.created ∷ day_text s.expires ∷ (directory_words s.directory ++ details_words s.details)

  read : set_read rest ≡ Ok s
  unfolding rest
  read = rw (
    name_back 44 s.name is.name (lit< tt) (omega arith),
    organisation_back s.organisation is.organisation,
    format_back s.format is.format,
    number_back 65535 s.record_length (omega arith) (omega arith),
    number_back 65535 s.block_length (omega arith) (omega arith),
    number_back 255 s.key_length (omega arith) (omega arith),
    day_back s.created is.created,
    day_back s.expires is.expires,
    end_back (is_partitioned s.organisation) s.directory is.directory s.details is.details,
  ) refl

  pub set_is_line : IsLine (Set s)
  unfolding rest form_line
  set_is_line = record {
    first = codes "data";
    words = rest;
    are = line_is (safe_name_of s.name ∷ organisation_text s.organisation ∷ format_text s.format ∷ [])
        (decimal s.record_length ∷ decimal s.block_length ∷ decimal s.key_length ∷ []) (day_text s.created ∷ day_text s.expires ∷ [])
        (directory_words s.directory) (details_words s.details);
    is_word = record { some = lit< tt; inner = refl };
    are_words = (
      record { some = lit< tt; inner = refl },
      (
        name_word 44 s.name is.name,
        (
          organisation_word s.organisation is.organisation,
          (
            format_word s.format is.format,
            (
              number_word s.record_length (omega arith),
              (
                number_word s.block_length (omega arith),
                (
                  number_word s.key_length (omega arith),
                  (
                    day_word s.created is.created,
                    (
                      day_word s.expires is.expires,
                      both_words (directory_words s.directory) (details_words s.details)
                          (directory_are (is_partitioned s.organisation) s.directory is.directory)
                          (details_are s.details is.details),
                    ),
                  ),
                ),
              ),
            ),
          ),
        ),
      ),
    );
    read = ap a_set read;
  }
