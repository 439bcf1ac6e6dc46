-- Files that a text loads, one after another.
use Rattle.std.proofs.Common.{◌≡◌, ◌∙◌, ◌+◌, ◌<◌, ◌≤◌, ◌⊎◌, ℕ, List, [], ◌∷◌, ◌++◌, take, length, get_or, map}
use Rattle.std.proofs.Common.{inl, inr, Option, Some, None, Ok}
use Rattle.std.proofs.Common.{ap, sym, refl, arith}
use Rattle.std.proofs.lemmas.List.{take_all, map_more, take-map}
use Rattle.std.specs.Global.{Vec}
use Rattle.dasd_jobs.specs.Sources.{SourceFile, ReadsFront}
use Rattle.s360_assembler.specs.declared.files.LoadableFile.{LoadableFile}
use Rattle.s360_assembler.specs.declared.fault.AssemblyFault.{AssemblyFault}
use Rattle.s360_assembler.specs.declared.fault.AssemblyFault.TheVariants as assembly
use Rattle.dasd_run.specs.Loads.{LoadsFiles, ReadsNamed, NotLoaded, bytes_of, with_loaded, size_loaded}

-- the names
abbrev pub names_in : List (Vec ℕ) → List (List ℕ)
names_in names = map (λ n. n.items) names

-- one file more is read
read_more : (names : List (List ℕ)) (loaded : List LoadableFile) (name : List ℕ) (file : LoadableFile)
    (before between now : List SourceFile)
    → LoadsFiles names loaded before between → file.name.items ≡ name → ReadsFront name 524289 file.bytes.items between now
    → LoadsFiles (names ++ name ∷ []) (loaded ++ file ∷ []) before now
read_more [] loaded name file before between now so_far named read =
    inr (file, [], now, rw so_far.0 refl, named, rw so_far.1 at read, (refl, refl))
read_more (n ∷ names) loaded name file before between now (inl rest) named read =
    inl (read_more names loaded name file before between now rest named read)
read_more (n ∷ names) loaded name file before between now (inr r) named read =
    inr (r.0, r.1 ++ file ∷ [], r.2, rw r.3 refl, r.4, r.5, read_more names r.1 name file r.2 between now r.6 named read)

-- one file more is left out
leave_more : (names : List (List ℕ)) (loaded : List LoadableFile) (name : List ℕ) (before now : List SourceFile)
    → LoadsFiles names loaded before now → LoadsFiles (names ++ name ∷ []) loaded before now
leave_more [] loaded name before now so_far = inl so_far
leave_more (n ∷ names) loaded name before now (inl rest) = inl (leave_more names loaded name before now rest)
leave_more (n ∷ names) loaded name before now (inr r) =
    inr (r.0, r.1, r.2, r.3, r.4, r.5, leave_more names r.1 name r.2 now r.6)

-- one name more, of which a file is read or not
next_one : (names : List (List ℕ)) (loaded : List LoadableFile) (name : List ℕ) (file : Option LoadableFile)
    (before between now : List SourceFile) → LoadsFiles names loaded before between → ReadsNamed (Ok file) name between now
    → LoadsFiles (names ++ name ∷ []) (with_loaded loaded file) before now
next_one names loaded name None before between now so_far same = rw same (leave_more names loaded name before between so_far)
next_one names loaded name (Some file) before between now so_far read =
    read_more names loaded name file before between now so_far read.0 read.1

-- the names up to a place, and the one there
up_to : (names : List (Vec ℕ)) (i : ℕ) (name : Vec ℕ) → i < length names → name ≡ get_or names i name
    → names_in (take i names) ++ name.items ∷ [] ≡ names_in (take (i + 1) names)
up_to names i name inside is =
    ap (λ (n : Vec ℕ). names_in (take i names) ++ n.items ∷ []) is ∙ sym (map_more (λ (n : Vec ℕ). n.items) names i name inside)

module _ (names : List (Vec ℕ)) (before : List SourceFile) where
  -- the name at a place
  pub next_file : (i : ℕ) (name : Vec ℕ) (loaded : List LoadableFile) (file : Option LoadableFile) (between now : List SourceFile)
      → i < length names → name ≡ get_or names i name → LoadsFiles (names_in (take i names)) loaded before between
      → ReadsNamed (Ok file) name.items between now
      → LoadsFiles (names_in (take (i + 1) names)) (with_loaded loaded file) before now
  next_file i name loaded file between now inside is so_far read =
      rw (up_to names i name inside is) at (next_one (names_in (take i names)) loaded name.items file before between now so_far read)

  -- behind the last one
  pub all_of : (i : ℕ) (loaded : List LoadableFile) (now : List SourceFile) → length names ≤ i
      → LoadsFiles (names_in (take i names)) loaded before now → LoadsFiles (names_in names) loaded before now
  all_of i loaded now past so_far = rw (take_all i names past) at so_far

  -- the first of the names
  pub first_of : (i : ℕ) (loaded : List LoadableFile) (now : List SourceFile)
      → LoadsFiles (names_in (take i names)) loaded before now → LoadsFiles (take i (names_in names)) loaded before now
  first_of i loaded now so_far = rw (take-map (λ (n : Vec ℕ). n.items) i names) so_far

-- the bytes of one more
more_bytes : (loaded : List LoadableFile) (file : LoadableFile) → bytes_of (loaded ++ file ∷ []) ≡ bytes_of loaded + length file.bytes.items
more_bytes [] file = omega arith
more_bytes (f ∷ loaded) file = omega (arith, more_bytes loaded file)

pub more_loaded : (loaded : List LoadableFile) (file : Option LoadableFile)
    → bytes_of (with_loaded loaded file) ≡ bytes_of loaded + size_loaded file
more_loaded loaded None = omega arith
more_loaded loaded (Some file) = more_bytes loaded file

-- why a file is not added
pub not_loaded : (f : AssemblyFault) (loaded : List LoadableFile) (file : Option LoadableFile) (left : ℕ) → bytes_of loaded + left ≡ 524288
    → (f ≡ assembly.OutOfMemory) ⊎ ((f ≡ assembly.TooLong) × (left < size_loaded file)) → NotLoaded f (with_loaded loaded file)
not_loaded f loaded file left total (inl memory) = rw memory tt
not_loaded f loaded file left total (inr over) = rw over.0 (omega (arith, over.1, total, more_loaded loaded file))
