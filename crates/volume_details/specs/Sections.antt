-- Sections behind the table of a volume, one of a data set.
use Rattle.std.specs.Prelude.{◌≡◌, ℕ, Bool, ◌&&◌, ◌||◌, if◌then◌else◌, List, [], ◌∷◌, ◌++◌, codes, Option, Some, None}
use Rattle.std.specs.Option.{option_copied}
use Rattle.std.specs.List.{concat, flat_map}
use Rattle.ckd_track.specs.declared.geometries.Geometry.{Geometry}
use Rattle.volume_labels.specs.Labels.{data_set_block_of}
use Rattle.volume_labels.specs.Names.{safe_name_of}
use Rattle.dasd_volumes.specs.Lines.{line_feed}
use Rattle.dasd_volumes.specs.Reading.{KnownVolume}
use Rattle.volume_contents.specs.declared.blocks.Block.{Block}
use Rattle.volume_contents.specs.Sets.{is_data_set, extents_behind}
use Rattle.dasd_unload.specs.Parts.{is_partitioned}
use Rattle.library_contents.specs.Report.{Line, plain, some_wrong}
use Rattle.library_contents.specs.Lines.{Shown}
use Rattle.library_contents.specs.ListedMembers.{library_lines}
use Rattle.volume_details.specs.declared.sections.DetailForm.{DetailForm}
use Rattle.volume_details.specs.Long.{Said, long_text}
use Rattle.volume_details.specs.Indicators.{is_last_volume, protection_of}

-- what is shown of data sets: as objects of JSON with the paths of the volume, or as lines; members; what the table leaves out
pub record Views : Type 0 where
  pub json : Option (List ℕ)
  pub members : Bool
  pub is_long : Bool

abbrev pub shown_by : DetailForm → Views
shown_by v = record { json = option_copied v.json; members = v.members; is_long = v.is_long }

-- the name of a data set as a line, which objects have not
abbrev pub name_line : List ℕ → List ℕ
name_line name = concat (name ∷ line_feed ∷ [])

abbrev pub name_lines : (json : Option (List ℕ)) → (name : List ℕ) → List Line
name_lines (Some path) name = []
name_lines None name = plain (name_line name) ∷ []

-- what the table leaves out, where it is asked for
abbrev pub long_lines : Views → Said → List Line
long_lines v s = if v.is_long then plain (long_text v.json s) ∷ [] else []

-- the members of a library are listed behind two blanks
abbrev pub library_shown : (json : Option (List ℕ)) → (name : List ℕ) → Shown
library_shown json name = record { json = json; margin = codes "  "; name = name }

abbrev pub member_lines : (has_members : Bool) → Views → Said → Geometry → (slots : List (List ℕ)) → List Line
member_lines has_members v s g slots = if has_members then library_lines (library_shown v.json s.name) s.extents g slots else []

-- what stands above the members of a data set
abbrev pub front_lines : Views → Said → List Line
front_lines v s = name_lines v.json s.name ++ long_lines v s

-- a data set of which there is something to show
abbrev pub described_lines : (has_members : Bool) → Views → Said → Geometry → (slots : List (List ℕ)) → List Line
described_lines has_members v s g slots =
    if v.is_long || has_members then front_lines v s ++ member_lines has_members v s g slots else []

-- what a format 1 block and those behind it say
abbrev pub said_of : List Block → Block → Said
said_of blocks b = record {
  name = safe_name_of (data_set_block_of b.key b.bytes).name;
  extents = extents_behind blocks b;
  volume = (data_set_block_of b.key b.bytes).volume;
  is_last = is_last_volume b;
  key_length = (data_set_block_of b.key b.bytes).key_length;
  protection = protection_of b;
}

-- a control block among those of its volume: the section of its data set, if it is one's
abbrev pub block_lines : Views → List Block → Block → Geometry → (slots : List (List ℕ)) → List Line
block_lines v blocks b g slots =
    if is_data_set b.kind
    then described_lines (v.members && is_partitioned (data_set_block_of b.key b.bytes)) v (said_of blocks b) g slots
    else []

-- All sections, in the order of the control blocks.
abbrev pub sections : Views → List Block → Geometry → (slots : List (List ℕ)) → List Line
sections v blocks g slots = flat_map (λ b. block_lines v blocks b g slots) blocks

-- something is wrong with members or their directories, if the slots of the volume are known
abbrev pub TellsWrong : (lines : Geometry → List (List ℕ) → List Line) → KnownVolume → Bool → Type 0
TellsWrong lines v is_wrong = (slots : List (List ℕ)) → v.slots ≡ Some slots → is_wrong ≡ some_wrong (lines v.geometry slots)
