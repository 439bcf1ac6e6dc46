-- What a file is by its first bytes, where it holds no image of these drives.
use Rattle.std.specs.Prelude.{ℕ, List, [], ◌∷◌, ◌==◌, Option, Some, None, Bool, if◌then◌else◌, codes, bytes_eq, take, length, slice_index_or}

-- whether a file begins with these bytes
abbrev pub begins : (header bytes : List ℕ) → Bool
begins header bytes = bytes_eq (take (length bytes) header) bytes

-- a packed file, by the first bytes that its format asks for
abbrev pub packed_text : List ℕ → Option (List ℕ)
packed_text header =
    if begins header (31 ∷ 139 ∷ []) then Some (codes "it is packed: gzip -d unpacks it")
    else (if begins header (253 ∷ 55 ∷ 122 ∷ 88 ∷ 90 ∷ 0 ∷ []) then Some (codes "it is packed: xz -d unpacks it")
    else (if begins header (codes "BZh") then Some (codes "it is packed: bzip2 -d unpacks it")
    else (if begins header (80 ∷ 75 ∷ 3 ∷ 4 ∷ []) then Some (codes "it is packed: unzip unpacks it")
    else (if begins header (40 ∷ 181 ∷ 47 ∷ 253 ∷ []) then Some (codes "it is packed: zstd -d unpacks it")
    else None))))

-- an image of another drive, by its device type: the last two digits of the drive's number
abbrev pub drive_text : ℕ → Option (List ℕ)
drive_text device =
    if device == 5 then Some (codes "it is an image of a 2305")
    else (if device == 48 then Some (codes "it is an image of a 3330")
    else (if device == 64 then Some (codes "it is an image of a 3340")
    else (if device == 80 then Some (codes "it is an image of a 3350")
    else (if device == 117 then Some (codes "it is an image of a 3375")
    else (if device == 128 then Some (codes "it is an image of a 3380")
    else (if device == 144 then Some (codes "it is an image of a 3390")
    else (if device == 69 then Some (codes "it is an image of a 9345")
    else None)))))))

-- an image of Hercules says so itself
abbrev pub found_text : List ℕ → Option (List ℕ)
found_text header =
    if begins header (codes "CKD_P370") then drive_text (slice_index_or header 16 0)
    else (if begins header (codes "CKD_C") then Some (codes "it is a compressed image (CCKD)")
    else (if begins header (codes "CKD_S") then Some (codes
    "it is a shadow file: it has what was written since the image was made that it belongs to")
    else packed_text header))
