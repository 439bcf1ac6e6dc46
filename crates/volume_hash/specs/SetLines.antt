-- What is printed of the hashes of data sets and of members.
use Rattle.std.specs.Prelude.{ℕ, Bool, if◌then◌else◌, List, [], ◌∷◌, ◌++◌, codes}
use Rattle.std.specs.List.{concat}
use Rattle.dasd_volumes.specs.Lines.{line_feed}
use Rattle.volume_hash.specs.Lines.{path_text}

-- for whom lines are printed, and of what beside the volume: of data sets, or of these and of members
pub record Shown : Type 0 where
  pub path : List ℕ
  pub json : Bool
  pub sets : Bool
  pub members : Bool

abbrev pub shown : (path : List ℕ) → (json sets members : Bool) → Shown
shown path json sets members = record { path = path; json = json; sets = sets; members = members }

abbrev pub kind_text : (kind : List ℕ) → (whole : Bool) → List ℕ
kind_text kind whole = if whole then kind else kind ++ codes " that is not whole"

abbrev pub bool_text : Bool → List ℕ
bool_text b = if b then codes "true" else codes "false"

-- the hash in hexadecimal digits, two blanks, what was hashed, its name, and the path of the volume
abbrev pub item_line : (path kind name digits : List ℕ) → (whole : Bool) → List ℕ
item_line path kind name digits whole =
    concat (digits ∷ codes "  " ∷ kind_text kind whole ∷ codes " " ∷ name ∷ codes " " ∷ path_text path ∷ line_feed ∷ [])

-- the line of a data set, or its object
abbrev pub set_object : (path name digits : List ℕ) → (whole : Bool) → List ℕ
set_object path name digits whole = concat (
    codes "{\"path\":" ∷ path ∷ codes ",\"name\":\"" ∷ name ∷ codes "\",\"hash\":\"" ∷ digits
    ∷ codes "\",\"whole\":" ∷ bool_text whole ∷ codes "}" ∷ line_feed ∷ [])

abbrev pub set_text : Shown → (name digits : List ℕ) → (whole : Bool) → List ℕ
set_text f name digits whole =
    if f.json then set_object f.path name digits whole else item_line f.path (codes "data set") name digits whole

-- the line of a member, or its object
abbrev pub member_object : (path name member digits : List ℕ) → (whole : Bool) → List ℕ
member_object path name member digits whole = concat (
    codes "{\"path\":" ∷ path ∷ codes ",\"name\":\"" ∷ name ∷ codes "\",\"member\":\"" ∷ member ∷ codes "\",\"hash\":\"" ∷ digits
    ∷ codes "\",\"whole\":" ∷ bool_text whole ∷ codes "}" ∷ line_feed ∷ [])

abbrev pub member_text : Shown → (name member digits : List ℕ) → (whole : Bool) → List ℕ
member_text f name member digits whole =
    if f.json then member_object f.path name member digits whole
    else item_line f.path (codes "member") (concat (name ∷ codes "(" ∷ member ∷ codes ")" ∷ [])) digits whole

-- what is said where something is wrong with the label or the table of contents, so that data sets may be missing
abbrev pub findings_line : (path : List ℕ) → List ℕ
findings_line path =
    concat (codes "volume table of contents of " ∷ path_text path ∷ codes " has findings, which dasd vtoc prints" ∷ line_feed ∷ [])

abbrev pub findings_object : (path : List ℕ) → List ℕ
findings_object path = concat (
    codes "{\"path\":" ∷ path ∷ codes ",\"name\":\"volume table of contents\",\"text\":\"has findings, which dasd vtoc prints\"}"
    ∷ line_feed ∷ [])

abbrev pub findings_text : Shown → List ℕ
findings_text f = if f.json then findings_object f.path else findings_line f.path
