-- Images whose last file is too short or too long, and how far they go.
use Rattle.std.specs.Prelude.{ℕ, ◌+◌, ◌-◌, ◌*◌, ◌/◌, ◌^◌, ◌||◌, min, Bool, nat_lt, nat_le, if◌then◌else◌, List, [], ◌∷◌, length, take, map}
use Rattle.std.specs.Prelude.{Result}
use Rattle.std.specs.Int.{div_ceil}
use Rattle.std.specs.List.{sum}
use Rattle.ckd_track.specs.declared.geometries.Geometry.{Geometry}
use Rattle.ckd_track.specs.Geometry.{tracks_of}
use Rattle.ckd_image.specs.Header.{Head, head_of, heads_field, track_size_field, accepted, mount_of}
use Rattle.ckd_image.specs.declared.fault.MountFault.{MountFault}

-- How a file is judged whose length is odd.

-- how many cylinders a file of this length has a whole slot of
abbrev pub cylinders_begun : (header : List ℕ) → (len : ℕ) → ℕ
cylinders_begun header len = div_ceil ((len - 512) / track_size_field header) (heads_field header)

-- the length that it would have with all of their slots
abbrev pub whole_length : (header : List ℕ) → (len : ℕ) → ℕ
whole_length header len = 512 + cylinders_begun header len * (heads_field header * track_size_field header)

-- whether a file keeps its length: it has no whole header, or no file has that length
abbrev pub keeps_length : (header : List ℕ) → (len : ℕ) → Bool
keeps_length header len = nat_lt len 512 || nat_le (2 ^ 64) (whole_length header len)

abbrev pub judged_length : (header : List ℕ) → (len : ℕ) → ℕ
judged_length header len = if keeps_length header len then len else whole_length header len

-- a file as if it had all of these cylinders
abbrev pub as_whole : Head → Head
as_whole f = record f { len = judged_length f.header f.len }

-- the last of several, made so
abbrev pub last_made : {A : Type 0} → (A → A) → List A → List A
last_made f [] = []
last_made f (last ∷ []) = f last ∷ []
last_made f (first ∷ second ∷ rest) = first ∷ last_made f (second ∷ rest)

-- The geometry of files that are read as far as they go, or the first rule of a mount that is broken: the last of them, or the only one,
-- may have any length that has a whole slot; each other has its cylinders, as ever.
abbrev pub mount_as_far : List (List ℕ) → Result Geometry MountFault
mount_as_far files = accepted (last_made as_whole (map head_of files))

-- the same of files that are read in this way, as far as they go or not
abbrev pub mounted_by : (as_far : Bool) → List (List ℕ) → Result Geometry MountFault
mounted_by as_far files = if as_far then mount_as_far files else mount_of files

-- How far files go.

-- how many slots of a volume a file of this length holds whole
abbrev pub slots_held : Geometry → (len : ℕ) → ℕ
slots_held g len = min ((len - 512) / g.track_size) (tracks_of g)

-- a file without what is behind them
abbrev pub held_part : Geometry → (file : List ℕ) → List ℕ
held_part g file = take (512 + slots_held g (length file) * g.track_size) file

-- how many tracks of a volume are in none of its files: they are its last ones
abbrev pub tracks_lacking : Geometry → List (List ℕ) → ℕ
tracks_lacking g files = tracks_of g - sum (map (λ file. slots_held g (length file)) files)

-- how many bytes the last file has behind its slots
abbrev pub bytes_left_out : Geometry → List (List ℕ) → ℕ
bytes_left_out g [] = 0
bytes_left_out g (last ∷ []) = length last - (512 + slots_held g (length last) * g.track_size)
bytes_left_out g (first ∷ second ∷ rest) = bytes_left_out g (second ∷ rest)
