-- Files that are gone through in order.
use Rattle.std.proofs.Common.{◌≡◌, ℕ, zero, suc, ◌+◌, ◌-◌, ◌*◌, ◌/◌, ◌<◌, List, [], ◌∷◌, ◌++◌, length, take, drop, map, set, replicate}
use Rattle.std.proofs.Common.{slice_index_or, Option, Some, None, IsSome, Result, Ok, Err, All, refl, sym, ap, ◌∙◌, add-one, arith}
use Rattle.std.proofs.Common.{length-append, length-take, drop-cons}
use Rattle.std.proofs.lemmas.List.{append-nil, length-set, length-map, map-set, take_at, drop_at}
use Rattle.std.proofs.Math.ListN.{get_or-map}
use Rattle.std.proofs.Math.Seq.{take-suc}
use Rattle.std.proofs.Math.Nat.{mul-div_cancel}
use Rattle.std.proofs.lemmas.List.Elements.{All-push, All-set, All-head, All-tail}
use Rattle.ckd_image.specs.declared.header.FileHeader.{FileHeader}
use Rattle.ckd_image.specs.declared.fault.MountFault.{MountFault}
use Rattle.ckd_image.specs.declared.fault.MountFault.TheVariants.{StoreFault}
use Rattle.ckd_image.specs.Header.{Head, no_head, head_of, header_of, then_with, headers_of}
use Rattle.ckd_image.specs.Files.{file_at, held, each, HoldsWhole, HeaderRefused, HeadersRefused}
use Rattle.ckd_image.proofs.FileLemmas.{Changed, each_same}
-- this lemma is passed on
pub use Rattle.ckd_image.proofs.FileLemmas.{each-append}

-- One more header.

-- what the headers behind a place add to those before it
goes_on : (read : List FileHeader) (o : Result FileHeader MountFault) (rest more : List Head) (r : List FileHeader)
    (answer : Result (List FileHeader) MountFault) → then_with o (λ h. headers_of (read ++ h ∷ []) rest) ≡ Ok r
    → ((next : List FileHeader) → headers_of next rest ≡ Ok r → headers_of next more ≡ answer)
    → then_with o (λ h. headers_of (read ++ h ∷ []) more) ≡ answer
goes_on read (Ok h) rest more r answer e next = next (read ++ h ∷ []) e
goes_on read (Err fault) rest more r answer e next = cc

read_behind : (heads : List Head) (place : ℕ) (read r : List FileHeader) → headers_of read (take place heads) ≡ Ok r
    → headers_of read heads ≡ headers_of r (drop place heads)
read_behind heads zero read r e = (let same : read ≡ r = cc in ap (λ (hs : List FileHeader). headers_of hs heads) same)
read_behind [] (suc place) read r e = e
read_behind (f ∷ heads) (suc place) read r e = goes_on read (header_of f) (take place heads) heads r (headers_of r (drop place heads)) e
    (λ next e'. read_behind heads place next r e')

pub headers_next : (heads : List Head) (place : ℕ) (read r : List FileHeader) (h : FileHeader) → place < length heads
    → headers_of read (take place heads) ≡ Ok r → header_of (slice_index_or heads place no_head) ≡ Ok h
    → headers_of read (take (suc place) heads) ≡ Ok (r ++ h ∷ [])
headers_next heads place read r h there e is =
    let more = take-suc heads place no_head there in
    let long : length (take place heads) ≡ place = simp length-take (omega arith) in
    rw more (read_behind (take place heads ++ slice_index_or heads place no_head ∷ []) place read r
    (rw (take_at (take place heads) _ place long) e)
    ∙ ap (headers_of r) (drop_at (take place heads) _ place long) ∙ ap (λ o. then_with o (λ x. Ok (r ++ x ∷ []))) is)

pub headers_fault : (heads : List Head) (place : ℕ) (read r : List FileHeader) (fault : MountFault) → place < length heads
    → headers_of read (take place heads) ≡ Ok r → header_of (slice_index_or heads place no_head) ≡ Err fault
    → headers_of read heads ≡ Err fault
headers_fault heads place read r fault there e is =
    read_behind heads place read r e ∙ ap (headers_of r) (drop-cons heads place no_head there)
    ∙ ap (λ o. then_with o (λ x. headers_of (r ++ x ∷ []) (drop (suc place) heads))) is

-- how many tracks a whole file has
pub counted_one : (size len : ℕ) (file : List ℕ) → len ≡ length file → 0 < size → HoldsWhole size file
    → length file ≡ 512 + (len - 512) / size * size
counted_one size len file is some w =
    let long = w.is_length in
    let behind : len - 512 ≡ w.tracks * size = omega arith in
    rw (behind, mul-div_cancel w.tracks some) long

-- One store of several that are all there.
module _ {S : Type 0} where
  -- what is made of each file is what is made of the one at each place
  each_all : {T : Type 0} (f : S → T) (d : T) (files : List (Option S)) → All IsSome files → each f files ≡ map (held f d) files
  each_all f d [] all = refl
  each_all f d (None ∷ files) all = let none = All-head IsSome None files all in cc
  each_all f d (Some s ∷ files) all = ap (λ ts. f s ∷ ts) (each_all f d files (All-tail IsSome (Some s) files all))

  get-each : {T : Type 0} (f : S → T) (d : T) (files : List (Option S)) (place : ℕ) → All IsSome files
      → slice_index_or (each f files) place d ≡ held f d (file_at files place)
  get-each f d files place all = ap (λ ts. slice_index_or ts place d) (each_all f d files all) ∙ get_or-map (held f d) files place None

  put-each : {T : Type 0} (f : S → T) (d : T) (files : List (Option S)) (place : ℕ) (x : Option S) → All IsSome files → IsSome x
      → each f (set files place x) ≡ set (each f files) place (held f d x)
  put-each f d files place x all some =
      each_all f d (set files place x) (All-set IsSome files place x some all) ∙ map-set (held f d) files place x
      ∙ ap (λ ts. set ts place (held f d x)) (sym (each_all f d files all))

  head-each : (content : S → List ℕ) (files : List (Option S)) (place : ℕ) → All IsSome files
      → slice_index_or (map head_of (each content files)) place no_head ≡ head_of (held content [] (file_at files place))
  head-each content files place all =
      ap (λ cs. slice_index_or (map head_of cs) place no_head) (each_all content [] files all)
      ∙ get_or-map head_of (map (held content []) files) place [] ∙ ap head_of (get_or-map (held content []) files place None)

  pub length-heads : (content : S → List ℕ) (files : List (Option S)) → All IsSome files → length (map head_of (each content files))
      ≡ length files
  length-heads content files all = ap (λ cs. length (map head_of cs)) (each_all content [] files all)
      ∙ length-map (map (held content []) files) head_of ∙ length-map files (held content [])

  -- The reading of headers.

  -- after the headers of the first files
  pub record HeadersRead (content origin : S → List ℕ) (failures : S → ℕ) (old now : List (Option S)) (place : ℕ)
      (read : List FileHeader) : Type 0 where
    pub kept : each content now ≡ each content old
    pub same : each origin now ≡ each origin old
    pub none : each failures now ≡ each failures old
    pub front : headers_of [] (take place (map head_of (each content old))) ≡ Ok read
    pub sizes : All (λ h. 0 < h.track_size) read
    pub count : length read ≡ place
    pub there : All IsSome now
    pub same_length : length now ≡ length old

  -- what is known when the file at a place was read behind those before it
  record ReadNow (content : S → List ℕ) (old now next : List (Option S)) (place : ℕ) : Type 0 where
    pub here : slice_index_or (map head_of (each content old)) place no_head ≡ head_of (held content [] (file_at now place))
    pub long : place < length (map head_of (each content old))
    pub changed : Changed now next place
    pub there : All IsSome next

  read_now : (content origin : S → List ℕ) (failures : S → ℕ) (old now next : List (Option S)) (place : ℕ) (read : List FileHeader)
      → All IsSome old → HeadersRead content origin failures old now place read → place < length old
      → next ≡ set now place (file_at next place) → IsSome (file_at next place) → ReadNow content old now next place
  read_now content origin failures old now next place read all r exists is some =
      let below : place < length now = rw r.same_length exists in
      record {
        here = ap (λ (cs : List (List ℕ)). slice_index_or (map head_of cs) place no_head) (sym r.kept)
            ∙ head-each content now place r.there;
        long = rw (length-heads content old all) exists;
        changed = record { exists = below; there = r.there place None below; stays = some; is = is };
        there = rw is (All-set IsSome now place (file_at next place) some r.there);
      }

  pub one_more_header : (content origin : S → List ℕ) (failures : S → ℕ) (old now next : List (Option S)) (place : ℕ)
      (read : List FileHeader) (h : FileHeader) → All IsSome old → HeadersRead content origin failures old now place read
      → place < length old → next ≡ set now place (file_at next place) → IsSome (file_at next place) → held content [] (file_at next place)
      ≡ held content [] (file_at now place) → held origin [] (file_at next place) ≡ held origin [] (file_at now place)
      → held failures 0 (file_at next place) ≡ held failures 0 (file_at now place)
      → header_of (head_of (held content [] (file_at now place))) ≡ Ok h → 0 < h.track_size → HeadersRead content origin failures old next
      (place + 1) (read ++ h ∷ [])
  one_more_header content origin failures old now next place read h all r exists is some same_content same_origin same_failures header
      size =
      let n = read_now content origin failures old now next place read all r exists is some in
      let count = r.count in
      record {
        kept = each_same content [] now next place n.changed same_content ∙ r.kept;
        same = each_same origin [] now next place n.changed same_origin ∙ r.same;
        none = each_same failures 0 now next place n.changed same_failures ∙ r.none;
        front = rw add-one (headers_next (map head_of (each content old)) place [] read h n.long r.front (rw n.here header));
        sizes = All-push (λ h. 0 < h.track_size) read h r.sizes size;
        count = simp length-append (omega arith);
        there = n.there;
        same_length = ap length is ∙ length-set now place (file_at next place) ∙ r.same_length;
      }

  -- after a header that was not read
  pub record HeaderMissed (content origin : S → List ℕ) (failures : S → ℕ) (old next : List (Option S)) (fault : MountFault) : Type 0 where
    pub err : HeadersRefused fault (map head_of (each content old)) (each failures old) (each failures next)
    pub kept : each content next ≡ each content old
    pub same : each origin next ≡ each origin old
    pub there : All IsSome next

  pub header_missed : (content origin : S → List ℕ) (failures : S → ℕ) (old now next : List (Option S)) (place : ℕ) (read : List FileHeader)
      (fault : MountFault) → All IsSome old → HeadersRead content origin failures old now place read → place < length old
      → next ≡ set now place (file_at next place) → IsSome (file_at next place) → held content [] (file_at next place) ≡ held content []
      (file_at now place) → held origin [] (file_at next place) ≡ held origin [] (file_at now place)
      → HeaderRefused fault (held content [] (file_at now place)) (held failures 0 (file_at now place))
      (held failures 0 (file_at next place)) → HeaderMissed content origin failures old next fault
  header_missed content origin failures old now next place read fault all r exists is some same_content same_origin refused = record {
    err = by fault refused;
    kept = each_same content [] now next place n.changed same_content ∙ r.kept;
    same = each_same origin [] now next place n.changed same_origin ∙ r.same;
    there = n.there;
  }
    where
      n : ReadNow content old now next place
      n = read_now content origin failures old now next place read all r exists is some

      by : (fault : MountFault) → HeaderRefused fault (held content [] (file_at now place)) (held failures 0 (file_at now place))
          (held failures 0 (file_at next place)) → HeadersRefused fault (map head_of (each content old)) (each failures old)
          (each failures next)
      by StoreFault e = record {
        place = place;
        there = n.long;
        front = rw r.front refl;
        long = rw n.here e.0;
        counted = ap (each failures) is ∙ put-each failures 0 now place (file_at next place) r.there some
            ∙ ap (set (each failures now) place) (e.1 ∙ ap (λ (k : ℕ). k + 1) (sym (get-each failures 0 now place r.there)))
            ∙ ap (λ (ns : List ℕ). set ns place (slice_index_or ns place 0 + 1)) r.none;
      }
      by fault e = (
        headers_fault (map head_of (each content old)) place [] read fault n.long r.front (rw n.here e.0),
        each_same failures 0 now next place n.changed e.1 ∙ r.none,
      )

  -- Lists.

  pub each_pushed : {T : Type 0} (f : S → T) (old now : List (Option S)) (file : Option S) → now ≡ old ++ file ∷ []
      → each f now ≡ each f old ++ each f (file ∷ [])
  each_pushed f old now file is = ap (each f) is ∙ each-append f old (file ∷ [])

  -- the files of a list and none behind them
  pub each-filled : {T : Type 0} (f : S → T) (xs : List (Option S)) (n : ℕ) → each f (xs ++ replicate n None) ≡ each f xs
  each-filled f xs n = each-append f xs (replicate n None) ∙ ap (λ ts. each f xs ++ ts) (none_each n) ∙ append-nil (each f xs)
    where
      none_each : (n : ℕ) → each f (replicate n None) ≡ []
      none_each zero = refl
      none_each (suc n) = none_each n

  pub one_more_each : {T : Type 0} (f : S → T) (files : List (Option S)) (place : ℕ) (old now : List (Option S)) (file : Option S)
      → each f old ≡ each f (take place files) → place < length files → file ≡ file_at files place
      → each f now ≡ each f old ++ each f (file ∷ []) → each f now ≡ each f (take (place + 1) files)
  one_more_each f files place old now file so_far below is now_is =
      rw (add-one place, take-suc files place None below, ← is) (now_is ∙ ap (λ ts. ts ++ each f (file ∷ [])) so_far
      ∙ sym (each-append f (take place files) (file ∷ [])))

  -- the files of a list whose slice was lent and may have changed; and with none behind them
  pub each-lent : {T : Type 0} (f : S → T) (items lent new : List (Option S)) → lent ≡ items → length new ≡ length lent
      → each f new ≡ each f lent → each f (take (length items) (new ++ drop (length new) items)) ≡ each f items
  each-lent f items lent new is long kept = ap (each f) (take_at new (drop (length new) items) (length items) (long ∙ ap length is)) ∙ kept
      ∙ ap (each f) is

  pub each-array : {T : Type 0} (f : S → T) (items lent new files : List (Option S)) (n : ℕ) → lent ≡ items → length new ≡ length lent
      → each f new ≡ each f lent → files ≡ take (length items) (new ++ drop (length new) items) ++ replicate n None
      → each f files ≡ each f items
  each-array f items lent new files n is long kept files_are =
      rw files_are (each-filled f (take (length items) (new ++ drop (length new) items)) n) ∙ each-lent f items lent new is long kept
