-- Volumes in files that were opened.
use Rattle.std.proofs.Common.{◌≡◌, ◌∙◌, ℕ, zero, suc, ◌+◌, ◌-◌, ◌<◌, ◌≤◌, List, [], ◌∷◌, ◌++◌, length, take, drop, map, replicate, get_or}
use Rattle.std.proofs.Common.{set, nat_lt, true, Option, Some, None, IsSome, Result, Ok, Err, option_map, ◌⊎◌, inl, inr, refl}
use Rattle.std.proofs.Common.{sym, ap, subst, arith, length-append, append_assoc, append-nil}
use Rattle.std.specs.List.{AllZip}
use Rattle.std.proofs.lemmas.Bool.{cases_lt, lt-ltb}
use Rattle.std.proofs.lemmas.List.{take_at, take_all, take_more, length-take-le, length-replicate, length-set, map-append, map-set}
use Rattle.std.proofs.lemmas.List.{set-get_or, get_or-map}
use Rattle.std.proofs.Math.Seq.{take-append-add}
use Rattle.ckd_track.specs.declared.geometries.Geometry.{Geometry}
use Rattle.ckd_image.specs.Header as mounting
use Rattle.ckd_image.specs.Header.{head_of, header_of, headers_of, then_with, volume_of, mount_of}
use Rattle.ckd_image.specs.declared.fault.MountFault.{MountFault}
use Rattle.ckd_image.specs.Files.{each, held}
use Rattle.ckd_image.proofs.Writes.{range_is}
use Rattle.dasd_jobs.specs.declared.reasons.Head.{Head}
use Rattle.dasd_jobs.specs.Sources.{Content, SourceFile, IsLength, StandsIn, IsHeader, IsWhole, OpensPaths, sources, known}
use Rattle.dasd_jobs.specs.Opening.{IsHeadOf, AreTracks, AddsFile, alone}

-- Lists.

-- one more item of two lists that go together
pub and_both : {A B : Type 0} (R : A → B → Type 0) (xs : List A) (ys : List B) (x : A) (y : B) → AllZip R xs ys → R x y
    → AllZip R (xs ++ x ∷ []) (ys ++ y ∷ [])
and_both R [] [] x y all one = (one, tt)
and_both R [] (b ∷ ys) x y all one = absurd all
and_both R (a ∷ xs) [] x y all one = absurd all
and_both R (a ∷ xs) (b ∷ ys) x y all one = (all.0, and_both R xs ys x y all.1 one)

-- What is known of each file.

-- what is made of a value, if there is one
pub record Made {A B : Type 0} (f : A → B) (o : Option A) (y : B) : Type 0 where
  pub x : A
  pub there : o ≡ Some x
  pub is : y ≡ f x

pub made : {A B : Type 0} (f : A → B) (o : Option A) (y : B) → option_map f o ≡ Some y → Made f o y
made f None y e = cc
made f (Some x) y e = record { x = x; there = refl; is = cc }

-- each of the files is known
pub all_known : (contents : List Content) (files : List (List ℕ)) → known contents ≡ Some files → contents ≡ map Some files
all_known [] [] e = refl
all_known [] (file ∷ files) e = cc
all_known (None ∷ contents) files e = cc
all_known (Some bytes ∷ contents) files e =
    let m = made (λ (more : List (List ℕ)). bytes ∷ more) (known contents) files e in
    rw m.is (ap (λ (l : List Content). Some bytes ∷ l) (all_known contents m.x m.there))

each_some : (files : List (List ℕ)) → each (λ (file : List ℕ). file) (map Some files) ≡ files
each_some [] = refl
each_some (file ∷ files) = ap (λ (l : List (List ℕ)). file ∷ l) (each_some files)

pub some_held : (o : Option (List ℕ)) → IsSome o → o ≡ Some (held (λ (file : List ℕ). file) [] o)
some_held None some = cc
some_held (Some file) some = refl

-- Headers.

pub length_alone : (head : Head) → length (alone head) ≡ head.len
length_alone head = length-take-le head.len (head.header ++ replicate head.len 0)
    (let all = length-append head.header (replicate head.len 0) in let zeros = length-replicate {A = ℕ} head.len 0 in
    omega (arith, all, zeros))

pub same_seen : (a b : List ℕ) (n m : ℕ) → a ≡ b → n ≡ m → ◌≡◌ {A = mounting.Head} (record { header = a; len = n }) (record {
  header = b;
  len = m;
})
same_seen a b n m same_bytes same_number = rw (same_bytes, same_number) refl

-- a header with zeros behind it is looked at as the header and its length
pub alone_head : (head : Head) → length head.header ≡ 512 → 512 ≤ head.len
    → ◌≡◌ {A = mounting.Head} (head_of (alone head)) (record { header = head.header; len = head.len })
alone_head head long enough =
    let zeros = replicate head.len 0 in
    let split : head.len ≡ length head.header + (head.len - 512) = omega arith in
    let whole : alone head ≡ head.header ++ take (head.len - 512) zeros = cc (take-append-add head.header zeros (head.len - 512)) in
    let front : take 512 (alone head) ≡ head.header = cc (take_at head.header (take (head.len - 512) zeros) 512 long) in
    same_seen (take 512 (alone head)) head.header (length (alone head)) head.len front (length_alone head)

-- a file with this header and length is looked at as its header with zeros behind it
same_head : (file : List ℕ) (head : Head) → IsHeadOf (Some file) head → 512 ≤ head.len → head_of file ≡ head_of (alone head)
same_head file head is enough =
    let its = is file refl in
    let first : head.header ≡ take 512 file = its.1 (omega (arith, its.0)) in
    let long : length head.header ≡ 512 = ap length first ∙ length-take-le 512 file (omega (arith, its.0)) in
    same_seen (take 512 file) head.header (length file) head.len (sym first) (sym its.0) ∙ sym (alone_head head long enough)

-- so it breaks the same rule on one file, or none; of one that is too short the header is not looked at
pub same_header : (file : List ℕ) (head : Head) → IsHeadOf (Some file) head → header_of (head_of file) ≡ header_of (head_of (alone head))
same_header file head is = by (cases_lt (length file) 512)
  where
    by : (length file < 512) ⊎ (512 ≤ length file) → header_of (head_of file) ≡ header_of (head_of (alone head))
    by (inl short) =
        let long = (is file refl).0 in
        let all = length_alone head in
        let one : nat_lt (length file) 512 ≡ true = lt-ltb (length file) 512 short in
        let other : nat_lt (length (alone head)) 512 ≡ true = lt-ltb (length (alone head)) 512 (omega arith) in rw (one, other) refl
    by (inr enough) = let long = (is file refl).0 in ap header_of (same_head file head is (omega arith))

pub then_same : {A B : Type 0} (r : Result A MountFault) (f g : A → Result B MountFault) → ((a : A) → f a ≡ g a)
    → then_with r f ≡ then_with r g
then_same (Ok a) f g same = same a
then_same (Err fault) f g same = refl

headers_same : (read : List _) (files : List (List ℕ)) (heads : List Head) → AllZip IsHeadOf (map Some files) heads
    → headers_of read (map head_of files) ≡ headers_of read (map head_of (map alone heads))
headers_same read [] [] are = refl
headers_same read [] (head ∷ heads) are = absurd are
headers_same read (file ∷ files) [] are = absurd are
headers_same read (file ∷ files) (head ∷ heads) are =
    ap (λ r. then_with r (λ h. headers_of (read ++ h ∷ []) (map head_of files))) (same_header file head are.0)
    ∙ then_same (header_of (head_of (alone head))) (λ h. headers_of (read ++ h ∷ []) (map head_of files))
    (λ h. headers_of (read ++ h ∷ []) (map head_of (map alone heads)))
    (λ h. headers_same (read ++ h ∷ []) files heads are.1)

-- files are mounted as their headers are
pub mount_same : (files : List (List ℕ)) (heads : List Head) → AllZip IsHeadOf (map Some files) heads
    → mount_of files ≡ mount_of (map alone heads)
mount_same files heads are = ap (λ r. then_with r volume_of) (headers_same [] files heads are)

-- one more file is counted
pub next_counted : (g : Geometry) (heads : List Head) (tracks now : List ℕ) (i : ℕ) (d : Head) (n : ℕ) → i < length heads
    → now ≡ tracks ++ n ∷ [] → AllZip (AreTracks g) (take i heads) tracks → AreTracks g (get_or heads i d) n
    → AllZip (AreTracks g) (take (i + 1) heads) now
next_counted g heads tracks now i d n inside is so_far one =
    rw is (subst (λ (l : List Head). AllZip (AreTracks g) l (tracks ++ n ∷ [])) (sym (take_more heads i d inside))
    (and_both (AreTracks g) (take i heads) tracks (get_or heads i d) n so_far one))

-- what was read of a header, and of one that is too short
pub head_read : (content : Content) (header : List ℕ) (len : ℕ) → IsLength content len → StandsIn content 0 header → length header ≡ 512
    → IsHeadOf content (record { header = header; len = len })
head_read content header len is stands long bytes e = (is bytes e, λ enough. cc (stands bytes e, range_is bytes 0 512))

pub short_head : (content : Content) (header : List ℕ) (len : ℕ) → IsLength content len → len < 512
    → IsHeadOf content (record { header = header; len = len })
short_head content header len is short bytes e = (is bytes e, λ enough. absurd (let same = is bytes e in omega arith))

-- one more header of several files was read
pub next_header : (contents : List Content) (i : ℕ) (headers : List (List ℕ)) (header : List ℕ) → i < length contents
    → AllZip IsHeader (take i contents) headers → IsHeader (get_or contents i None) header
    → AllZip IsHeader (take (i + 1) contents) (headers ++ header ∷ [])
next_header contents i headers header inside so_far one =
    subst (λ (l : List Content). AllZip IsHeader l (headers ++ header ∷ [])) (sym (take_more contents i None inside))
    (and_both IsHeader (take i contents) headers (get_or contents i None) header so_far one)

-- one more header with zeros behind it
pub next_alone : (heads : List Head) (i : ℕ) (d : Head) (before now : List (List ℕ)) (one : List ℕ) → i < length heads
    → before ≡ map alone (take i heads) → now ≡ before ++ one ∷ [] → one ≡ alone (get_or heads i d) → now ≡ map alone (take (i + 1) heads)
next_alone heads i d before now one inside so_far is one_is =
    cc (is, take_more heads i d inside, map-append alone (take i heads) (get_or heads i d ∷ []))

-- One of several files.

module _ {O : Type 0} (content : O → Content) where
  pub read_there : (files : List O) (place : ℕ) (file : O) → place < length files → file ≡ get_or files place file
      → get_or (map content files) place None ≡ content file
  read_there files place file inside is = get_or-map content files place file None inside ∙ ap content (sym is)

  pub kept_there : (files : List O) (place : ℕ) (file new : O) → place < length files → file ≡ get_or files place file
      → content new ≡ content file → map content (set files place new) ≡ map content files
  kept_there files place file new inside is same =
      cc (map-set content files place new, read_there files place file inside is, set-get_or (map content files) place None)

  -- files that were lent stand again in their place
  pub lent_kept : (files new : List O) (len : ℕ) → length new ≡ length files → len ≡ length files → map content new ≡ map content files
      → map content (take len (new ++ drop (length new) files)) ≡ map content files
  lent_kept files new len long is kept = ap (map content) (take_at new (drop (length new) files) len (long ∙ sym is)) ∙ kept

  -- one of several files that were lent was read
  pub one_read : (files lent : List O) (len place : ℕ) (file new : O) → lent ≡ files → len ≡ length files → place < length lent
      → file ≡ get_or lent place file → content new ≡ content file
      → map content (take len (set lent place new ++ drop (length (set lent place new)) files)) ≡ map content files
  one_read files lent len place file new is count inside there same =
      lent_kept files (set lent place new) len (length-set lent place new ∙ ap length is) count
      (kept_there lent place file new inside there same ∙ ap (map content) is)

-- Files that are opened one after another.

sources_more : (paths : List (List ℕ)) (contents : List Content) (path : List ℕ) (content : Content) → length contents ≡ length paths
    → sources (paths ++ path ∷ []) (contents ++ content ∷ []) ≡ sources paths contents ++ record { path = path; content = content } ∷ []
sources_more [] [] path content count = refl
sources_more [] (c ∷ contents) path content count = absurd (omega arith)
sources_more (p ∷ paths) [] path content count = absurd (omega arith)
sources_more (p ∷ paths) (c ∷ contents) path content count =
    ap (λ (l : List SourceFile). record { path = p; content = c } ∷ l) (sources_more paths contents path content (omega arith))

-- none yet
pub none_opened : (before : List SourceFile) → OpensPaths [] [] before before
none_opened before = record { opened = sym (append-nil before); count = refl }

-- one more
pub one_more_opened : (paths : List (List ℕ)) (contents : List Content) (path : List ℕ) (content : Content)
    (before between now : List SourceFile) → OpensPaths paths contents before between → now ≡ between ++ record {
      path = path;
      content = content;
    } ∷ [] → OpensPaths (paths ++ path ∷ []) (contents ++ content ∷ []) before now
one_more_opened paths contents path content before between now so_far one = record {
  opened = one ∙ ap (λ (l : List SourceFile). l ++ record { path = path; content = content } ∷ []) so_far.opened
      ∙ append_assoc before (sources paths contents) (record { path = path; content = content } ∷ [])
      ∙ ap (λ (l : List SourceFile). before ++ l) (sym (sources_more paths contents path content so_far.count));
  count = let c = so_far.count in let a = length-append contents (content ∷ []) in let b = length-append paths (path ∷ []) in
      omega (arith, a, b, c);
}

-- Files that were opened one after another: what they hold, what their headers say, and all files that were opened until then.
pub record Opening : Type 0 where
  pub contents : List Content
  pub heads : List Head
  pub opened : List SourceFile

-- the files at these paths, and no others, were opened behind those before, and these are their headers
pub record HasOpened (paths : List (List ℕ)) (before : List SourceFile) (o : Opening) : Type 0 where
  pub opens : OpensPaths paths o.contents before o.opened
  pub are : AllZip IsHeadOf o.contents o.heads

-- one more file was opened
pub next_opened : {P : Type 0} (path : P → List ℕ) (paths : List P) (i : ℕ) (d : P) (before : List SourceFile) (o more : Opening)
    → i < length paths → HasOpened (map path (take i paths)) before o
    → AddsFile (path (get_or paths i d)) o.contents more.contents o.heads more.heads o.opened more.opened
    → HasOpened (map path (take (i + 1) paths)) before more
next_opened path paths i d before o more inside so_far a =
    let p = path (get_or paths i d) in
    let paths_are : map path (take (i + 1) paths) ≡ map path (take i paths) ++ p ∷ [] = ap (map path) (take_more paths i d inside)
    ∙ map-append path (take i paths) (get_or paths i d ∷ []) in
    record {
      opens = subst (λ (ps : List (List ℕ)). OpensPaths ps more.contents before more.opened) (sym paths_are)
          (subst (λ (cs : List Content). OpensPaths (map path (take i paths) ++ p ∷ []) cs before more.opened) (sym a.adds.file)
          (one_more_opened (map path (take i paths)) o.contents p a.content before o.opened more.opened so_far.opens a.opened));
      are = subst (λ (cs : List Content). AllZip IsHeadOf cs more.heads) (sym a.adds.file)
          (subst (λ (hs : List Head). AllZip IsHeadOf (o.contents ++ a.content ∷ []) hs) (sym a.adds.headed)
          (and_both IsHeadOf o.contents o.heads a.content a.adds.head so_far.are a.adds.is_head));
    }

at_both : {A B : Type 0} (R : A → B → Type 0) (xs : List A) (ys : List B) (i : ℕ) (x : A) (y : B) → AllZip R xs ys → i < length xs
    → R (get_or xs i x) (get_or ys i y)
at_both R [] ys i x y all inside = absurd (omega arith)
at_both R (a ∷ xs) [] i x y all inside = absurd all
at_both R (a ∷ xs) (b ∷ ys) zero x y all inside = all.0
at_both R (a ∷ xs) (b ∷ ys) (suc i) x y all inside = at_both R xs ys i x y all.1 (omega arith)

pub both_long : {A B : Type 0} (R : A → B → Type 0) (xs : List A) (ys : List B) → AllZip R xs ys → length xs ≡ length ys
both_long R [] [] all = refl
both_long R [] (b ∷ ys) all = absurd all
both_long R (a ∷ xs) [] all = absurd all
both_long R (a ∷ xs) (b ∷ ys) all = let more = both_long R xs ys all.1 in omega (arith, more)

-- Files that are read whole.

-- the first bytes of a file, as many as its header's length says, are all
whole_of : (content : Content) (head : Head) (bytes : List ℕ) → IsHeadOf content head → StandsIn content 0 bytes → length bytes ≡ head.len
    → IsWhole content bytes
whole_of content head bytes is stands count file e =
    stands file e ∙ range_is file 0 (length bytes) ∙ take_all (length bytes) file (let same = (is file e).0 in omega (arith, same, count))

-- one more file
pub whole_more : (contents : List Content) (heads : List Head) (i : ℕ) (h : Head) (read : List (List ℕ)) (bytes : List ℕ)
    → i < length contents → AllZip IsHeadOf contents heads → AllZip IsWhole (take i contents) read
    → StandsIn (get_or contents i None) 0 bytes → length bytes ≡ (get_or heads i h).len
    → AllZip IsWhole (take (i + 1) contents) (read ++ bytes ∷ [])
whole_more contents heads i h read bytes inside are so_far stands count =
    subst (λ (l : List Content). AllZip IsWhole l (read ++ bytes ∷ [])) (sym (take_more contents i None inside))
    (and_both IsWhole (take i contents) read (get_or contents i None) bytes so_far (whole_of (get_or contents i None)
    (get_or heads i h) bytes (at_both IsHeadOf contents heads i None h are inside) stands count))
