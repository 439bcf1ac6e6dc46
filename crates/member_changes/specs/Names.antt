-- The names that a member may be given: simple names without a hyphen (IBM System/360 Operating System, Job Control Language Reference,
-- GC28-6704, 'DSNAME').
use Rattle.std.specs.Prelude.{◌≡◌, ℕ, ◌==◌, Bool, true, false, not, ◌&&◌, ◌||◌, List, Option, Some, None}
use Rattle.std.specs.List.{list_any}
use Rattle.dasd_extract.specs.Names.{Names, is_name}
use Rattle.volume_changes.specs.Names.{is_set_name}

-- a period or a hyphen, which names of data sets have, and those of members have not
abbrev pub joins_names : ℕ → Bool
joins_names c = (c == 46) || (c == 45)

-- a text has one
abbrev pub has_joint : List ℕ → Bool
has_joint text = list_any joins_names text

-- A text may be the name of a member: it may be that of a data set, has neither a period nor a hyphen, and no more than eight characters.
abbrev pub is_member_name : List ℕ → Bool
is_member_name text = (is_set_name text && not (has_joint text)) && is_name 8 text

-- the name in EBCDIC of a text that may be one; none of another one
abbrev pub MakesMember : (text : List ℕ) → Option (List ℕ) → Type 0
MakesMember text (Some name) = (is_member_name text ≡ true) × Names text name
MakesMember text None = is_member_name text ≡ false
