-- The words of a run that name its volumes.
use Rattle.std.specs.Prelude.{ℕ, ◌+◌, ◌*◌, ◌==◌, nat_lt, nat_le, Bool, true, false, ◌&&◌, ◌||◌, List, [], ◌∷◌, length, map, drop, slice_index, slice_range, codes}
use Rattle.std.specs.Prelude.{Option, Some, None, option_and_then, if◌then◌else◌}
use Rattle.std.specs.Char.{digit_value}
use Rattle.std.specs.Str.{bytes_eq}
use Rattle.dasd_words.specs.declared.volumes.Volume.{Volume}
use Rattle.dasd_words.specs.declared.volumes.VolumeSource.{VolumeSource}
use Rattle.dasd_words.specs.declared.volumes.VolumeSource.TheVariants.{Files, New}

-- two hexadecimal digits are the address of a device
abbrev pub is_device : (device high low : ℕ) → Bool
is_device device high low =
    nat_lt (digit_value high) 16 && nat_lt (digit_value low) 16 && 16 * digit_value high + digit_value low == device

-- a word names a device, and a new volume: UU=new:
abbrev pub names_new : (device : ℕ) → (word : List ℕ) → Bool
names_new device word =
    nat_lt 6 (length word) && is_device device (slice_index word 0) (slice_index word 1) && bytes_eq (slice_range word 2 7) (codes "=new:")

-- a word names a device, and the file at a path, but no new volume: UU=PATH
abbrev pub names_file : (device : ℕ) → (path word : List ℕ) → Bool
names_file device path word =
    if nat_le (length word) 2 || names_new device word then false
    else (is_device device (slice_index word 0) (slice_index word 1) && slice_index word 2 == 61 && bytes_eq (drop 3 word) path)

-- what is left of words whose first ones name these files of a device, in their order
abbrev pub after_files : (device : ℕ) → (paths words : List (List ℕ)) → Option (List (List ℕ))
after_files device [] words = Some words
after_files device (path ∷ paths) [] = None
after_files device (path ∷ paths) (word ∷ words) = if names_file device path word then after_files device paths words else None

-- or a new volume
abbrev pub after_new : (device : ℕ) → (words : List (List ℕ)) → Option (List (List ℕ))
after_new device [] = None
after_new device (word ∷ words) = if names_new device word then Some words else None

-- what is left of words whose first ones name a volume
abbrev pub after_source : (device : ℕ) → VolumeSource → (words : List (List ℕ)) → Option (List (List ℕ))
after_source device (Files paths) words = after_files device (map (λ path. path.now) paths.items) words
after_source device (New model cylinders) words = after_new device words

abbrev pub after_volumes : List Volume → Option (List (List ℕ)) → Option (List (List ℕ))
after_volumes [] words = words
after_volumes (v ∷ volumes) words = after_volumes volumes (option_and_then (after_source v.device v.source) words)

-- no words are left
abbrev pub is_end : Option (List (List ℕ)) → Bool
is_end None = false
is_end (Some []) = true
is_end (Some (word ∷ words)) = false

-- Words name these volumes, one after another, and no others.
abbrev pub are_named : (words : List (List ℕ)) → List Volume → Bool
are_named words volumes = is_end (after_volumes volumes (Some words))
