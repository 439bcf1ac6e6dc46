-- Files whose last one may have an odd length.
use Rattle.std.proofs.Common.{◌≡◌, ◌∙◌, ℕ, zero, suc, ◌+◌, ◌-◌, ◌*◌, ◌/◌, ◌<◌, ◌≤◌, Bool, true, false, nat_lt, min, if◌then◌else◌, List, []}
use Rattle.std.proofs.Common.{◌∷◌, ◌++◌, length, take, drop, map, get_or, slice_range, Option, Some, None, IsSome, Ok, Err, ◌⊎◌, inl, inr}
use Rattle.std.proofs.Common.{refl, sym, ap, subst, arith, length-append, length-drop}
use Rattle.std.specs.List.{AllZip, AllByRecursion, sum}
use Rattle.std.proofs.lemmas.Bool.{cases_lt, lt-ltb}
use Rattle.std.proofs.lemmas.List.{take_all, drop_all, get_or_default, length-take-le, take-append-drop, take-append-le, drop-append-le}
use Rattle.std.proofs.Math.Seq.{take-nil}
use Rattle.std.proofs.Math.Nat.{zero-mul, add-mul, min-le_left, div-mul-le_self, mul-le-mul_right}
use Rattle.ckd_track.specs.declared.geometries.Geometry.{Geometry}
use Rattle.ckd_track.specs.Geometry.{tracks_of}
use Rattle.ckd_image.specs.Header.{head_of, header_of, headers_of, then_with, volume_of, mount_of}
use Rattle.ckd_image.specs.declared.fault.MountFault.{MountFault}
use Rattle.ckd_image.specs.declared.fault.MountFault.TheVariants.{StoreFault}
use Rattle.ckd_image.specs.Image.{FilesRefused}
use Rattle.ckd_image.specs.Files.{each, held, file_at, place_in, slot_bytes, HoldTracks, HoldsWhole}
use Rattle.ckd_image.proofs.MountLemmas.{mount_fits}
use Rattle.ckd_image.proofs.FileLemmas.{located_at, range_located, slot_bytes-cons, tracks_behind, sum_cons}
use Rattle.ckd_image.proofs.Writes.{range_is}
use Rattle.ckd_image.proofs.ImageLemmas.{slot_is, slots_of}
use Rattle.dasd_volumes.specs.Reading.{IsSlotOf}
use Rattle.dasd_jobs.specs.declared.reasons.Head.{Head}
use Rattle.dasd_jobs.specs.Lengths.{whole_length, keeps_length, judged_length, as_whole, last_made, mounted_by, slots_held, held_part}
use Rattle.dasd_jobs.specs.Lengths.{bytes_left_out}
use Rattle.dasd_jobs.specs.Sources.{Content, StandsIn, Mounts, NotMounted, IsReach, known, volume_in}
use Rattle.dasd_jobs.specs.Opening.{IsHeadOf, AreTracks, IsBroken, Lies, alone, whole_head, judged, left_behind}
use Rattle.dasd_jobs.proofs.Volumes.{made, all_known, some_held, length_alone, alone_head, same_seen, same_header, then_same}
use Rattle.dasd_jobs.proofs.Volumes.{mount_same}

-- The last of several.

pub length-last_made : {A : Type 0} (f : A → A) (xs : List A) → length (last_made f xs) ≡ length xs
length-last_made f [] = refl
length-last_made f (x ∷ []) = refl
length-last_made f (x ∷ y ∷ xs) = let more = length-last_made f (y ∷ xs) in omega (arith, more)

-- it is made so where it stands, and the others are as they were
pub made_last : {A : Type 0} (f : A → A) (xs : List A) (i : ℕ) (d : A) → i + 1 ≡ length xs → f (get_or xs i d) ≡ get_or (last_made f xs) i d
made_last f [] i d last = absurd (omega (arith, last))
made_last f (x ∷ []) zero d last = refl
made_last f (x ∷ []) (suc i) d last = absurd (omega (arith, last))
made_last f (x ∷ y ∷ xs) zero d last = absurd (omega (arith, last))
made_last f (x ∷ y ∷ xs) (suc i) d last = made_last f (y ∷ xs) i d (omega (arith, last))

pub made_other : {A : Type 0} (f : A → A) (xs : List A) (i : ℕ) (d : A) → i + 1 < length xs → get_or xs i d ≡ get_or (last_made f xs) i d
made_other f [] i d before = absurd (omega (arith, before))
made_other f (x ∷ []) i d before = absurd (omega (arith, before))
made_other f (x ∷ y ∷ xs) zero d before = refl
made_other f (x ∷ y ∷ xs) (suc i) d before = made_other f (y ∷ xs) i d (omega (arith, before))

pub judged_last : (heads : List Head) (i : ℕ) (d : Head) → i + 1 ≡ length heads
    → whole_head (get_or heads i d) ≡ get_or (judged true heads) i d
judged_last heads i d last = made_last whole_head heads i d last

pub judged_other : (as_far : Bool) (heads : List Head) (i : ℕ) (d : Head) → i < length heads → (as_far ≡ true → i + 1 ≡ length heads → ⊥)
    → get_or heads i d ≡ get_or (judged as_far heads) i d
judged_other false heads i d inside other = refl
judged_other true heads i d inside other = made_other whole_head heads i d (by (cases_lt (i + 1) (length heads)))
  where
    by : (i + 1 < length heads) ⊎ (length heads ≤ i + 1) → i + 1 < length heads
    by (inl before) = before
    by (inr last) = absurd (other refl (omega (arith, inside, last)))

pub judged_count : (as_far : Bool) (heads : List Head) → length (judged as_far heads) ≡ length heads
judged_count false heads = refl
judged_count true heads = length-last_made whole_head heads

pub judged_default : (as_far : Bool) (heads : List Head) (i : ℕ) (d e : Head) → i < length heads
    → get_or (judged as_far heads) i d ≡ get_or (judged as_far heads) i e
judged_default as_far heads i d e inside = get_or_default (judged as_far heads) i d e (let long = judged_count as_far heads in omega arith)

-- Lengths by which files are judged.

judged_short : (header : List ℕ) (len : ℕ) → len < 512 → judged_length header len ≡ len
judged_short header len short = let is : nat_lt len 512 ≡ true = lt-ltb len 512 short in rw is refl

chosen_long : (b : Bool) (len whole : ℕ) → 512 ≤ len → 512 ≤ whole → 512 ≤ (if b then len else whole)
chosen_long true len whole one other = one
chosen_long false len whole one other = other

judged_enough : (header : List ℕ) (len : ℕ) → 512 ≤ len → 512 ≤ judged_length header len
judged_enough header len enough = chosen_long (keeps_length header len) len (whole_length header len) enough (omega arith)

-- a file is judged as its header with zeros behind it
same_whole : (file : List ℕ) (head : Head) → IsHeadOf (Some file) head
    → header_of (as_whole (head_of file)) ≡ header_of (head_of (alone (whole_head head)))
same_whole file head is = by (cases_lt (length file) 512)
  where
    by : (length file < 512) ⊎ (512 ≤ length file) → header_of (as_whole (head_of file)) ≡ header_of (head_of (alone (whole_head head)))
    by (inl short) =
        let long = (is file refl).0 in
        let all = length_alone (whole_head head) in
        let other_is = judged_short head.header head.len (omega arith) in
        let one : nat_lt (judged_length (take 512 file) (length file)) 512 ≡ true = lt-ltb (judged_length (take 512 file) (length file)) 512
        (let is_len = judged_short (take 512 file) (length file) short in omega arith) in
        let other : nat_lt (length (alone (whole_head head))) 512 ≡ true = lt-ltb (length (alone (whole_head head))) 512 (omega arith) in
        rw (one, other) refl
    by (inr enough) =
        let its = is file refl in
        let first : head.header ≡ take 512 file = its.1 enough in
        let long : length head.header ≡ 512 = ap length first ∙ length-take-le 512 file enough in
        let same : judged_length (take 512 file) (length file) ≡ judged_length head.header head.len = cc in
        let whole = judged_enough head.header head.len (omega arith) in
        ap header_of (same_seen (take 512 file) head.header (judged_length (take 512 file) (length file))
        (judged_length head.header head.len) (sym first) same ∙ sym (alone_head (whole_head head) long whole))

wholes_same : (read : List _) (files : List (List ℕ)) (heads : List Head) → AllZip IsHeadOf (map Some files) heads
    → headers_of read (last_made as_whole (map head_of files)) ≡ headers_of read (map head_of (map alone (last_made whole_head heads)))
wholes_same read [] [] are = refl
wholes_same read [] (head ∷ heads) are = absurd are
wholes_same read (file ∷ files) [] are = absurd are
wholes_same read (file ∷ []) (head ∷ []) are = ap (λ r. then_with r (λ h. headers_of (read ++ h ∷ []) [])) (same_whole file head are.0)
wholes_same read (file ∷ []) (head ∷ next ∷ heads) are = absurd are.1
wholes_same read (file ∷ second ∷ files) (head ∷ []) are = absurd are.1
wholes_same read (file ∷ second ∷ files) (head ∷ next ∷ heads) are =
    ap (λ r. then_with r (λ h. headers_of (read ++ h ∷ []) (last_made as_whole (map head_of (second ∷ files)))))
    (same_header file head are.0)
    ∙ then_same (header_of (head_of (alone head))) (λ h. headers_of (read ++ h ∷ []) (last_made as_whole (map head_of (second ∷ files))))
    (λ h. headers_of (read ++ h ∷ []) (map head_of (map alone (last_made whole_head (next ∷ heads)))))
    (λ h. wholes_same (read ++ h ∷ []) (second ∷ files) (next ∷ heads) are.1)

-- files are mounted as their headers are, as they are judged
judged_same : (as_far : Bool) (files : List (List ℕ)) (heads : List Head) → AllZip IsHeadOf (map Some files) heads
    → mounted_by as_far files ≡ mount_of (map alone (judged as_far heads))
judged_same false files heads are = mount_same files heads are
judged_same true files heads are = ap (λ r. then_with r volume_of) (wholes_same [] files heads are)

those : (contents : List Content) (heads : List Head) (files : List (List ℕ)) → known contents ≡ Some files → AllZip IsHeadOf contents heads
    → AllZip IsHeadOf (map Some files) heads
those contents heads files is are = subst (λ (l : List Content). AllZip IsHeadOf l heads) (all_known contents files is) are

-- files whose headers are mounted hold the volume
pub mounted_files : (as_far : Bool) (g : Geometry) (contents : List Content) (heads : List Head) → AllZip IsHeadOf contents heads
    → mount_of (map alone (judged as_far heads)) ≡ Ok g → Mounts as_far contents g
mounted_files as_far g contents heads are mounts files is = judged_same as_far files heads (those contents heads files is are) ∙ mounts

-- and those whose headers are not are no image
pub broken_files : (as_far : Bool) (broken : MountFault) (contents : List Content) (heads : List Head) → AllZip IsHeadOf contents heads
    → mount_of (map alone (judged as_far heads)) ≡ Err broken → NotMounted as_far contents broken
broken_files as_far broken contents heads are breaks files is = judged_same as_far files heads (those contents heads files is are) ∙ breaks

-- a mount that was refused breaks this rule
pub is_broken : (fault : MountFault) (seen files : List (List ℕ)) (before now : List ℕ) → FilesRefused fault seen before now → seen ≡ files
    → IsBroken fault files
is_broken StoreFault seen files before now refused same = tt
is_broken fault seen files before now refused same = ap mount_of (sym same) ∙ refused.0

-- Files that are mounted have whole headers.

long_one : (size : ℕ) (head : Head) → HoldsWhole size (alone head) → 512 ≤ head.len
long_one size head w = let long = length_alone head in let is = w.is_length in omega (arith, long, is)

long_each : (size : ℕ) (heads : List Head) → AllByRecursion (HoldsWhole size) (map alone heads)
    → AllByRecursion (λ (h : Head). 512 ≤ h.len) heads
long_each size [] all = tt
long_each size (head ∷ heads) all = (long_one size head all.0, long_each size heads all.1)

long_whole : (size : ℕ) (head : Head) → HoldsWhole size (alone (whole_head head)) → 512 ≤ head.len
long_whole size head w = by (cases_lt head.len 512)
  where
    by : (head.len < 512) ⊎ (512 ≤ head.len) → 512 ≤ head.len
    by (inr enough) = enough
    by (inl short) =
        let whole = long_one size (whole_head head) w in
        let is = judged_short head.header head.len short in absurd (omega (arith, whole, is, short))

long_last : (size : ℕ) (heads : List Head) → AllByRecursion (HoldsWhole size) (map alone (last_made whole_head heads))
    → AllByRecursion (λ (h : Head). 512 ≤ h.len) heads
long_last size [] all = tt
long_last size (head ∷ []) all = (long_whole size head all.0, tt)
long_last size (head ∷ next ∷ heads) all = (long_one size head all.0, long_last size (next ∷ heads) all.1)

pub judged_long : (as_far : Bool) (g : Geometry) (heads : List Head) → mount_of (map alone (judged as_far heads)) ≡ Ok g
    → AllByRecursion (λ (h : Head). 512 ≤ h.len) heads
judged_long false g heads mounts = long_each g.track_size heads (mount_fits (map alone heads) g mounts).whole
judged_long true g heads mounts = long_last g.track_size heads (mount_fits (map alone (last_made whole_head heads)) g mounts).whole

-- Slots that are held.

held_enough : (size x most : ℕ) → min (x / size) most * size ≤ x
held_enough size x most =
    let few = mul-le-mul_right size (min-le_left (x / size) most) in
    let all = div-mul-le_self x size in omega (arith, few, all)

length-held_part : (g : Geometry) (file : List ℕ) → 512 ≤ length file
    → length (held_part g file) ≡ 512 + slots_held g (length file) * g.track_size
length-held_part g file enough =
    let few = held_enough g.track_size (length file - 512) (tracks_of g) in
    length-take-le (512 + slots_held g (length file) * g.track_size) file (omega (arith, few, enough))

hold : (g : Geometry) (files : List (List ℕ)) (heads : List Head) (tracks : List ℕ) → AllZip IsHeadOf (map Some files) heads
    → AllZip (AreTracks g) heads tracks → AllByRecursion (λ (h : Head). 512 ≤ h.len) heads
    → HoldTracks (held_part g) g.track_size (map Some files) tracks
hold g [] heads tracks are counts long = tt
hold g (file ∷ files) [] tracks are counts long = absurd are
hold g (file ∷ files) (head ∷ heads) [] are counts long = absurd counts
hold g (file ∷ files) (head ∷ heads) (n ∷ tracks) are counts long =
    let is = (are.0 file refl).0 in
    let n_is : n ≡ slots_held g (length file) = counts.0 ∙ ap (slots_held g) is in (
      length-held_part g file (let enough = long.0 in omega (arith, enough, is)) ∙ ap (λ (k : ℕ). 512 + k * g.track_size) (sym n_is),
      hold g files heads tracks are.1 counts.1 long.1,
    )

-- a volume has as many slots as were counted
pub lies : (g : Geometry) (contents : List Content) (heads : List Head) (tracks : List ℕ) → AllZip IsHeadOf contents heads
    → AllZip (AreTracks g) heads tracks → AllByRecursion (λ (h : Head). 512 ≤ h.len) heads → Lies g contents tracks
lies g contents heads tracks are counts long files is = hold g files heads tracks (those contents heads files is are) counts long

-- How far files go.

counted_are : (g : Geometry) (files : List (List ℕ)) (heads : List Head) (tracks : List ℕ) → AllZip IsHeadOf (map Some files) heads
    → AllZip (AreTracks g) heads tracks → tracks ≡ map (λ (file : List ℕ). slots_held g (length file)) files
counted_are g [] [] [] are counts = refl
counted_are g [] [] (n ∷ tracks) are counts = absurd counts
counted_are g [] (head ∷ heads) tracks are counts = absurd are
counted_are g (file ∷ files) [] tracks are counts = absurd are
counted_are g (file ∷ files) (head ∷ heads) [] are counts = absurd counts
counted_are g (file ∷ files) (head ∷ heads) (n ∷ tracks) are counts =
    let rest = counted_are g files heads tracks are.1 counts.1 in cc ((are.0 file refl).0)

left_same : (g : Geometry) (files : List (List ℕ)) (heads : List Head) → AllZip IsHeadOf (map Some files) heads
    → left_behind g heads ≡ bytes_left_out g files
left_same g [] [] are = refl
left_same g [] (head ∷ heads) are = absurd are
left_same g (file ∷ files) [] are = absurd are
left_same g (file ∷ []) (head ∷ []) are = ap (λ (len : ℕ). len - (512 + slots_held g len * g.track_size)) (are.0 file refl).0
left_same g (file ∷ []) (head ∷ next ∷ heads) are = absurd are.1
left_same g (file ∷ second ∷ files) (head ∷ []) are = absurd are.1
left_same g (file ∷ second ∷ files) (head ∷ next ∷ heads) are = left_same g (second ∷ files) (next ∷ heads) are.1

pub reaches : (g : Geometry) (contents : List Content) (heads : List Head) (tracks : List ℕ) (lacking left_out : ℕ)
    → AllZip IsHeadOf contents heads
    → AllZip (AreTracks g) heads tracks → lacking ≡ tracks_of g - sum tracks → left_out ≡ left_behind g heads
    → IsReach g contents (record { lacking = lacking; left_out = left_out })
reaches g contents heads tracks lacking left_out are counts lacking_is left_is files is = let them = those contents heads files is are in (
  lacking_is ∙ ap (λ (l : List ℕ). tracks_of g - sum l) (counted_are g files heads tracks them counts),
  left_is ∙ left_same g files heads them,
)

-- what the last of several has behind its slots, by its place
pub left_at : (g : Geometry) (heads : List Head) (n : ℕ) (d : Head) → length heads ≡ n + 1
    → left_behind g heads ≡ (get_or heads n d).len - (512 + slots_held g (get_or heads n d).len * g.track_size)
left_at g [] n d long = absurd (omega (arith, long))
left_at g (head ∷ []) zero d long = refl
left_at g (head ∷ []) (suc n) d long = absurd (omega (arith, long))
left_at g (head ∷ next ∷ heads) zero d long = absurd (omega (arith, long))
left_at g (head ∷ next ∷ heads) (suc n) d long = left_at g (next ∷ heads) n d (omega (arith, long))

-- Slots.

-- what is read in the front of bytes
front_range : (front back : List ℕ) (at n : ℕ) → at + n ≤ length front
    → slice_range (front ++ back) at (at + n) ≡ slice_range front at (at + n)
front_range front back at n within =
    let room : n ≤ length (drop at front) = simp length-drop (omega arith) in
    range_is (front ++ back) at n ∙ ap (take n) (drop-append-le at front back (omega arith)) ∙ take-append-le n (drop at front) back room
    ∙ sym (range_is front at n)

part_range : (g : Geometry) (file : List ℕ) (at n : ℕ) → at + n ≤ length (held_part g file)
    → slice_range file at (at + n) ≡ slice_range (held_part g file) at (at + n)
part_range g file at n within =
    let k = 512 + slots_held g (length file) * g.track_size in
    cc (take-append-drop k file, front_range (take k file) (drop k file) at n within)

each_made : (f : List ℕ → List ℕ) (files : List (List ℕ)) → each f (map Some files) ≡ map f files
each_made f [] = refl
each_made f (file ∷ files) = ap (λ (l : List (List ℕ)). f file ∷ l) (each_made f files)

made_held : (f : List ℕ → List ℕ) (o : Option (List ℕ)) → IsSome o → held f [] o ≡ f (held (λ (file : List ℕ). file) [] o)
made_held f None some = cc
made_held f (Some file) some = refl

-- the bytes of all slots
bytes_held : (content : List ℕ → List ℕ) (size : ℕ) (files : List (Option (List ℕ))) (tracks : List ℕ)
    → HoldTracks content size files tracks → length files ≡ length tracks → length (slot_bytes (each content files)) ≡ sum tracks * size
bytes_held content size [] [] holds count = sym (zero-mul size)
bytes_held content size [] (n ∷ tracks) holds count = absurd (omega arith)
bytes_held content size (f ∷ files) [] holds count = absurd (omega arith)
bytes_held content size (f ∷ files) (n ∷ tracks) holds count =
    let first = tracks_behind content size f files n tracks holds in
    let ih = bytes_held content size files tracks first.1 (omega arith) in
    let all : sum (n ∷ tracks) * size ≡ n * size + sum tracks * size = cc (sum_cons n tracks, add-mul n (sum tracks) size) in
    rw slot_bytes-cons (length-append (drop 512 (held content [] f)) (slot_bytes (each content files)) ∙ omega arith)

module _ (g : Geometry) (contents : List Content) (tracks : List ℕ) (track : ℕ) (lie : Lies g contents tracks)
    (count : length contents ≡ length tracks) (exists : track < tracks_of g) where
  -- what stands in the place of a track is its slot
  slot_read : (slot : List ℕ) → track < sum tracks → length slot ≡ g.track_size
      → StandsIn (get_or contents (place_in tracks track).file None) (512 + (place_in tracks track).track * g.track_size) slot
      → IsSlotOf (volume_in g contents) track slot
  slot_read slot inside size stands slots e =
      let part = held_part g in
      let m = made (λ (files : List (List ℕ)). slots_of g (map part files)) (known contents) slots e in
      let files = m.x in
      let all : contents ≡ map Some files = all_known contents files m.there in
      let stores : List (Option (List ℕ)) = map Some files in
      let l = lie files m.there in
      let counted : length stores ≡ length tracks = cc in
      let p = place_in tracks track in
      let at = 512 + p.track * g.track_size in
      let there = located_at part g.track_size stores tracks track p l counted inside refl in
      let file = held (λ (f : List ℕ). f) [] (file_at stores p.file) in
      let here : get_or contents p.file None ≡ Some file = cc (some_held (file_at stores p.file) there.there) in
      let part_is : held part [] (file_at stores p.file) ≡ part file = made_held part (file_at stores p.file) there.there in
      let within : at + g.track_size ≤ length (part file) =
      subst (λ (bytes : List ℕ). at + g.track_size ≤ length bytes) part_is there.within in
      let one = range_located part g.track_size stores track at p there refl in
      cc (stands file here, part_range g file at g.track_size within, each_made part files, slot_is g (map part files) track exists)

  -- a track that the files lack has a slot without bytes
  slot_lacking : sum tracks ≤ track → IsSlotOf (volume_in g contents) track []
  slot_lacking past slots e =
      let part = held_part g in
      let m = made (λ (files : List (List ℕ)). slots_of g (map part files)) (known contents) slots e in
      let files = m.x in
      let all : contents ≡ map Some files = all_known contents files m.there in
      let stores : List (Option (List ℕ)) = map Some files in
      let l = lie files m.there in
      let counted : length stores ≡ length tracks = cc in
      let bytes = slot_bytes (map part files) in
      let two = bytes_held part g.track_size stores tracks l counted in
      let long : length bytes ≡ sum tracks * g.track_size = cc (each_made part files) in
      let most = mul-le-mul_right g.track_size past in
      let none : drop (track * g.track_size) bytes ≡ [] = drop_all (track * g.track_size) bytes (omega arith) in
      cc (take-nil g.track_size, range_is bytes (track * g.track_size) g.track_size, slot_is g (map part files) track exists)

  -- so many bytes of a slot were read
  pub slot_loaded : (slot : List ℕ) (bytes : ℕ) → length slot ≡ g.track_size → (track < sum tracks → (bytes ≡ length slot)
      × StandsIn (get_or contents (place_in tracks track).file None) (512 + (place_in tracks track).track * g.track_size) slot)
      → (sum tracks ≤ track → bytes ≡ 0) → IsSlotOf (volume_in g contents) track (take bytes slot)
  slot_loaded slot bytes size read lacking = by (cases_lt track (sum tracks))
    where
      by : (track < sum tracks) ⊎ (sum tracks ≤ track) → IsSlotOf (volume_in g contents) track (take bytes slot)
      by (inl inside) =
          let it = read inside in
          let all : take bytes slot ≡ slot = take_all bytes slot (let is = it.0 in omega (arith, is)) in
          subst (λ (s : List ℕ). IsSlotOf (volume_in g contents) track s) (sym all) (slot_read slot inside size it.1)
      by (inr past) =
          let none : take bytes slot ≡ [] = ap (λ (n : ℕ). take n slot) (lacking past) in
          subst (λ (s : List ℕ). IsSlotOf (volume_in g contents) track s) (sym none) (slot_lacking past)
