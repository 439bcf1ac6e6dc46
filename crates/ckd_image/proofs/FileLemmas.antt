-- Files one behind the other, of which one changes.
use Rattle.std.proofs.Common.{◌≡◌, ℕ, zero, suc, ◌+◌, ◌-◌, ◌*◌, ◌<◌, ◌≤◌, nat_lt, Bool, true, false, if◌then◌else◌, List, [], ◌∷◌, ◌++◌}
use Rattle.std.proofs.Common.{length, take, drop, map, set, slice_range, Option, Some, None, IsSome, Result, Ok, Err, OnOk, OnErr, refl}
use Rattle.std.proofs.Common.{sym, ap, ◌∙◌, add-one, arith, length-append, length-drop}
use Rattle.std.proofs.lemmas.List.{take-append-le, drop-append-le, append_assoc, drop-drop, map-append, set_split, set-get_or}
use Rattle.std.proofs.lemmas.List.Edits.{length-between}
use Rattle.std.proofs.lemmas.Bool.{ltb-true, ltb-false}
use Rattle.std.proofs.lemmas.List.Sums.{sum_by-cons, sum_by-append}
use Rattle.std.proofs.lemmas.List.Folds.{concat-append}
use Rattle.std.proofs.Math.Seq.{take-append-add, drop-append-add}
use Rattle.std.proofs.Math.Nat.{zero-add, zero-mul, add-mul}
use Rattle.std.specs.List.{concat, sum}
use Rattle.ckd_image.specs.declared.store.StoreFault.{StoreFault}
use Rattle.ckd_image.specs.declared.files.SlotPlace.{SlotPlace}
use Rattle.ckd_image.specs.Store.{overwritten, Torn, Counts}
use Rattle.ckd_image.specs.Header.{head_of}
use Rattle.ckd_image.specs.Files.{slot_bytes, behind, place_in, file_at, held, each, HoldTracks}
use Rattle.ckd_image.proofs.SlotLemmas.{slot_within}
use Rattle.ckd_image.proofs.Writes.{range_is, length-overwritten, take-overwritten_before, drop-overwritten_before, torn_within, torn_is}

-- Parts of a list.

-- bytes in the middle are written over
overwritten_middle : (front mid back bytes : List ℕ) (at : ℕ) → at + length bytes ≤ length mid
    → overwritten (front ++ (mid ++ back)) (length front + at) bytes ≡ front ++ (overwritten mid at bytes ++ back)
overwritten_middle front mid back bytes at h =
    let place : length front + at + length bytes ≡ length front + (at + length bytes) = omega arith in
    let before : take (length front + at) (front ++ (mid ++ back)) ≡ front ++ take at mid =
    take-append-add front (mid ++ back) at ∙ ap (λ (s : List ℕ). front ++ s) (take-append-le at mid back (omega arith)) in
    let after : drop (length front + at + length bytes) (front ++ (mid ++ back)) ≡ drop (at + length bytes) mid ++ back =
    ap (λ (n : ℕ). drop n (front ++ (mid ++ back))) place
    ∙ drop-append-add front (mid ++ back) (at + length bytes)
    ∙ drop-append-le (at + length bytes) mid back h in
    rw (before, after) (simp append_assoc)

range_middle : (front mid back : List ℕ) (at n : ℕ) → at + n ≤ length mid → slice_range (front ++ (mid ++ back)) (length front + at)
    (length front + at + n) ≡ take n (drop at mid)
range_middle front mid back at n h =
    let room : n ≤ length (drop at mid) = simp length-drop (omega arith) in
    range_is (front ++ (mid ++ back)) (length front + at) n
    ∙ ap (take n) (drop-append-add front (mid ++ back) at ∙ drop-append-le at mid back (omega arith))
    ∙ take-append-le n (drop at mid) back room

pub sum_cons : (n : ℕ) (ns : List ℕ) → sum (n ∷ ns) ≡ n + sum ns
sum_cons n ns = sum_by-cons (λ (k : ℕ). k) n ns

slot_bytes-middle : (xs : List (List ℕ)) (file : List ℕ) (ys : List (List ℕ)) → slot_bytes (xs ++ file ∷ ys) ≡ slot_bytes xs
    ++ (drop 512 file ++ slot_bytes ys)
slot_bytes-middle xs file ys = ap concat (map-append (drop 512) xs (file ∷ ys))
    ∙ concat-append (map (drop 512) xs) (drop 512 file ∷ map (drop 512) ys)

-- One of several stores.
module _ {S : Type 0} where
  pub each-append : {T : Type 0} (f : S → T) (xs ys : List (Option S)) → each f (xs ++ ys) ≡ each f xs ++ each f ys
  each-append f [] ys = refl
  each-append f (None ∷ xs) ys = each-append f xs ys
  each-append f (Some s ∷ xs) ys = ap (λ ts. f s ∷ ts) (each-append f xs ys)

  pub map-each : {T U : Type 0} (h : T → U) (f : S → T) (files : List (Option S)) → map h (each f files) ≡ each (λ s. h (f s)) files
  map-each h f [] = refl
  map-each h f (None ∷ files) = map-each h f files
  map-each h f (Some s ∷ files) = ap (λ ts. h (f s) ∷ ts) (map-each h f files)

  -- what is made of the content of a file that need not be there
  pub held_by : {T U : Type 0} (h : T → U) (f : S → T) (d : T) (file : Option S) → held (λ s. h (f s)) (h d) file ≡ h (held f d file)
  held_by h f d None = refl
  held_by h f d (Some s) = refl

  -- a store that is there stands between those before it and those behind it
  each_put : {T : Type 0} (f : S → T) (d : T) (files : List (Option S)) (place : ℕ) (x : Option S) → place < length files → IsSome x
      → each f (set files place x) ≡ each f (take place files) ++ held f d x ∷ each f (drop (suc place) files)
  each_put f d files place x exists some =
      ap (each f) (set_split files place x exists) ∙ each-append f (take place files) (x ∷ drop (suc place) files)
      ∙ ap (λ ts. each f (take place files) ++ ts) (first x some)
    where
      first : (x : Option S) → IsSome x → each f (x ∷ drop (suc place) files) ≡ held f d x ∷ each f (drop (suc place) files)
      first None some = cc
      first (Some s) some = refl

  each_at : {T : Type 0} (f : S → T) (d : T) (files : List (Option S)) (place : ℕ) → place < length files → IsSome (file_at files place)
      → each f files ≡ each f (take place files) ++ held f d (file_at files place) ∷ each f (drop (suc place) files)
  each_at f d files place exists some = ap (each f) (sym (set-get_or files place None))
      ∙ each_put f d files place (file_at files place) exists some

  -- one of these files was read or written, and no other
  pub record Changed (files new : List (Option S)) (place : ℕ) : Type 0 where
    pub exists : place < length files
    pub there : IsSome (file_at files place)
    pub stays : IsSome (file_at new place)
    pub is : new ≡ set files place (file_at new place)

  each_now : {T : Type 0} (f : S → T) (d : T) (files new : List (Option S)) (place : ℕ) → Changed files new place
      → each f new ≡ each f (take place files) ++ held f d (file_at new place) ∷ each f (drop (suc place) files)
  each_now f d files new place x = ap (each f) x.is ∙ each_put f d files place (file_at new place) x.exists x.stays

  pub each_same : {T : Type 0} (f : S → T) (d : T) (files new : List (Option S)) (place : ℕ) → Changed files new place
      → held f d (file_at new place) ≡ held f d (file_at files place) → each f new ≡ each f files
  each_same f d files new place x e =
      each_now f d files new place x ∙ ap (λ t. each f (take place files) ++ t ∷ each f (drop (suc place) files)) e
      ∙ sym (each_at f d files place x.exists x.there)

  -- the failures of all stores count as those of the one that was called
  pub counted_all : (f : S → ℕ) (files new : List (Option S)) (place : ℕ) (r : Result (Unit {0}) StoreFault) → Changed files new place
      → Counts (held f 0 (file_at files place)) (held f 0 (file_at new place)) r → Counts (sum (each f files)) (sum (each f new)) r
  counted_all f files new place r x counted =
      let ts = each f (take place files) in
      let us = each f (drop (suc place) files) in
      let a = held f 0 (file_at files place) in
      let b = held f 0 (file_at new place) in
      by a b (sum (each f files)) (sum (each f new)) (sum ts) (sum us) r (ap sum (each_at f 0 files place x.exists x.there) ∙ total ts us a)
      (ap sum (each_now f 0 files new place x) ∙ total ts us b) counted
    where
      total : (ts us : List ℕ) (n : ℕ) → sum (ts ++ n ∷ us) ≡ sum ts + n + sum us
      total ts us n = sum_by-append (λ (k : ℕ). k) ts (n ∷ us) ∙ omega (arith, sum_cons n us)

      by : (a b c d t u : ℕ) (r : Result (Unit {0}) StoreFault) → c ≡ t + a + u → d ≡ t + b + u → Counts a b r → Counts c d r
      by a b c d t u (Ok v) was now counted = omega arith
      by a b c d t u (Err e) was now counted = omega arith

  pub tracks_same : (content : S → List ℕ) (size : ℕ) (files new : List (Option S)) (tracks : List ℕ) (place : ℕ) → Changed files new place
      → HoldTracks content size files tracks → length (held content [] (file_at new place)) ≡ length (held content [] (file_at files place))
      → HoldTracks content size new tracks
  tracks_same content size files new tracks place x holds e =
      rw x.is (put files tracks place (file_at new place) holds x.exists x.there x.stays e)
    where
      put : (files : List (Option S)) (tracks : List ℕ) (place : ℕ) (x : Option S) → HoldTracks content size files tracks
          → place < length files → IsSome (file_at files place) → IsSome x
          → length (held content [] x) ≡ length (held content [] (file_at files place)) → HoldTracks content size (set files place x) tracks
      put [] tracks place x holds h a b e = absurd (omega arith)
      put (f ∷ files) [] place x holds h a b e = absurd holds
      put (Some s ∷ files) (n ∷ tracks) zero (Some y) holds h a b e = (e ∙ holds.0, holds.1)
      put _ (n ∷ tracks) zero _ holds h a b e = cc
      put (None ∷ files) (n ∷ tracks) (suc place) x holds h a b e = (holds.0, put files tracks place x holds.1 (omega arith) a b e)
      put (Some s ∷ files) (n ∷ tracks) (suc place) x holds h a b e = (holds.0, put files tracks place x holds.1 (omega arith) a b e)

  -- the first of several files, which need not be there
  pub slot_bytes-cons : (content : S → List ℕ) (f : Option S) (files : List (Option S)) → slot_bytes (each content (f ∷ files))
      ≡ drop 512 (held content [] f) ++ slot_bytes (each content files)
  slot_bytes-cons content None files = refl
  slot_bytes-cons content (Some s) files = refl

  pub tracks_behind : (content : S → List ℕ) (size : ℕ) (f : Option S) (files : List (Option S)) (n : ℕ) (tracks : List ℕ)
      → HoldTracks content size (f ∷ files) (n ∷ tracks) → (length (drop 512 (held content [] f)) ≡ n * size)
      × HoldTracks content size files tracks
  tracks_behind content size None files n tracks holds = (rw holds.0 (sym (zero-mul size)), holds.1)
  tracks_behind content size (Some s) files n tracks holds = ((let long = holds.0 in simp length-drop (omega arith)), holds.1)

  -- the bytes of the slots before those of a file, and of those behind them
  abbrev before_file : (S → List ℕ) → List (Option S) → ℕ → List ℕ
  before_file content files place = slot_bytes (each content (take place files))

  abbrev behind_file : (S → List ℕ) → List (Option S) → ℕ → List ℕ
  behind_file content files place = slot_bytes (each content (drop (suc place) files))

  -- the slot of a track is in this file
  pub record Located (content : S → List ℕ) (size : ℕ) (files : List (Option S)) (track : ℕ) (p : SlotPlace) : Type 0 where
    pub exists : p.file < length files
    pub there : IsSome (file_at files p.file)
    pub within : 512 + p.track * size + size ≤ length (held content [] (file_at files p.file))
    pub before : track * size ≡ length (before_file content files p.file) + p.track * size

  whole : (content : S → List ℕ) (size : ℕ) (files : List (Option S)) (track : ℕ) (p : SlotPlace) → Located content size files track p
      → slot_bytes (each content files) ≡ before_file content files p.file ++ (drop 512 (held content [] (file_at files p.file))
      ++ behind_file content files p.file)
  whole content size files track p l = ap slot_bytes (each_at content [] files p.file l.exists l.there)
      ∙ slot_bytes-middle (each content (take p.file files)) (held content [] (file_at files p.file))
      (each content (drop (suc p.file) files))

  first_located : (content : S → List ℕ) (size : ℕ) (f : Option S) (files : List (Option S)) (n : ℕ) (tracks : List ℕ) (track : ℕ)
      → HoldTracks content size (f ∷ files) (n ∷ tracks) → track < n → Located content size (f ∷ files) track (record {
        file = 0;
        track =
            track;
      })
  first_located content size None files n tracks track holds h = let none = holds.0 in absurd (omega arith)
  first_located content size (Some s) files n tracks track holds h = record {
    exists = omega arith;
    there = refl;
    within = let long = holds.0 in let ends = slot_within size n track h in omega arith;
    before = sym (zero-add (track * size));
  }

  next_located : (content : S → List ℕ) (size : ℕ) (f : Option S) (files : List (Option S)) (n : ℕ) (tracks : List ℕ) (track : ℕ)
      (p : SlotPlace) → HoldTracks content size (f ∷ files) (n ∷ tracks) → n ≤ track → Located content size files (track - n) p
      → Located content size (f ∷ files) track (behind p)
  next_located content size f files n tracks track p holds h l = record {
    exists = let e = l.exists in omega arith;
    there = rw (add-one p.file) l.there;
    within = rw (add-one p.file) l.within;
    before = rw (
      add-one p.file,
      slot_bytes-cons content f (take p.file files),
      length-append (drop 512 (held content [] f))
          (before_file content files p.file),
    )
        (moved track n (length (drop 512 (held content [] f))) (length (before_file content files p.file)) (p.track * size) h
        (tracks_behind content size f files n tracks holds).0 l.before);
  }
    where
      moved : (track n a b c : ℕ) → n ≤ track → a ≡ n * size → (track - n) * size ≡ b + c → track * size ≡ a + b + c
      moved track n a b c above long before =
          let less : track ≡ n + (track - n) = omega arith in
          let all : track * size ≡ n * size + (track - n) * size = ap (λ (k : ℕ). k * size) less ∙ add-mul n (track - n) size in
          omega (arith, all, long, before)

  located : (content : S → List ℕ) (size : ℕ) (files : List (Option S)) (tracks : List ℕ) (track : ℕ) → HoldTracks content size files tracks
      → length files ≡ length tracks → track < sum tracks → Located content size files track (place_in tracks track)
  located content size [] [] track holds count h = absurd (omega arith)
  located content size (f ∷ files) (n ∷ tracks) track holds count h =
      by (nat_lt track n) refl (λ above. located content size files tracks (track - n) (tracks_behind content size f files n tracks holds).1
      (omega arith) (omega (arith, sum_cons n tracks)))
    where
      by : (b : Bool) → nat_lt track n ≡ b → (n ≤ track → Located content size files (track - n) (place_in tracks (track - n)))
          → Located content size (f ∷ files) track (if b then record { file = 0; track = track } else behind (place_in tracks (track - n)))
      by true e next = first_located content size f files n tracks track holds (ltb-true track n e)
      by false e next = let above = ltb-false track n e in next_located content size f files n tracks track
          (place_in tracks (track - n)) holds above (next above)
  located content size _ _ track holds count h = absurd (omega arith)

  pub located_at : (content : S → List ℕ) (size : ℕ) (files : List (Option S)) (tracks : List ℕ) (track : ℕ) (p : SlotPlace)
      → HoldTracks content size files tracks → length files ≡ length tracks → track < sum tracks → p ≡ place_in tracks track
      → Located content size files track p
  located_at content size files tracks track p holds count h is = rw is (located content size files tracks track holds count h)

  -- A read.

  -- what is read of the file is the slot
  pub range_located : (content : S → List ℕ) (size : ℕ) (files : List (Option S)) (track at : ℕ) (p : SlotPlace)
      → Located content size files track p → at ≡ 512 + p.track * size → slice_range (held content [] (file_at files p.file)) at (at + size)
      ≡ slice_range (slot_bytes (each content files)) (track * size) (track * size + size)
  range_located content size files track at p l is =
      let file = held content [] (file_at files p.file) in
      let within = l.within in
      rw (whole content size files track p l, l.before, range_is file at size, is)
      (ap (take size) (sym (drop-drop (p.track * size) 512 file))
      ∙ sym (range_middle (before_file content files p.file) (drop 512 file) (behind_file content files p.file) (p.track * size) size
      (simp length-drop (omega arith))))

  -- A write.

  -- what a write into a slot leaves of the headers and of the files' lengths
  pub record KeepsHeads (content : S → List ℕ) (size : ℕ) (files : List (Option S)) (tracks : List ℕ) (new : List (Option S)) : Type 0 where
    pub heads : map head_of (each content new) ≡ map head_of (each content files)
    pub headers : map (take 512) (each content new) ≡ map (take 512) (each content files)
    pub tracks_held : HoldTracks content size new tracks

  -- what a write of these bytes into the slot of a track leaves
  record Written (content : S → List ℕ) (size : ℕ) (files : List (Option S)) (tracks : List ℕ) (track : ℕ) (new : List (Option S))
      (bytes : List ℕ) : Type 0 where
    pub slots : slot_bytes (each content new) ≡ overwritten (slot_bytes (each content files)) (track * size) bytes
    pub room : track * size + length bytes ≤ length (slot_bytes (each content files))
    pub keeps : KeepsHeads content size files tracks new

  written_at : (content : S → List ℕ) (size : ℕ) (files new : List (Option S)) (tracks : List ℕ) (track : ℕ) (p : SlotPlace)
      (bytes : List ℕ) → HoldTracks content size files tracks → Located content size files track p → Changed files new p.file
      → length bytes ≡ size → held content [] (file_at new p.file) ≡ overwritten (held content [] (file_at files p.file))
      (512 + p.track * size) bytes → Written content size files tracks track new bytes
  written_at content size files new tracks track p bytes holds l x long is =
      let file = held content [] (file_at files p.file) in
      let now = held content [] (file_at new p.file) in
      let at = p.track * size in
      let within = l.within in
      let header : take 512 now ≡ take 512 file = ap (take 512) is ∙ take-overwritten_before file bytes (512 + at) 512 (omega arith)
      (omega arith) in
      let same : length now ≡ length file = ap length is ∙ length-overwritten file bytes (512 + at) (omega arith) in
      let rest : drop 512 now ≡ overwritten (drop 512 file) at bytes = ap (drop 512) is
      ∙ drop-overwritten_before file bytes 512 at (omega arith) in
      let inside : at + length bytes ≤ length (drop 512 file) = simp length-drop (omega arith) in
      let front = before_file content files p.file in
      let back = behind_file content files p.file in
      let all = whole content size files track p l in
      let changed = ap slot_bytes (each_now content [] files new p.file x) ∙ slot_bytes-middle (each content (take p.file files)) now
      (each content (drop (suc p.file) files)) in
      record {
        slots = rw (l.before, all) (changed ∙ ap (λ (r : List ℕ). front ++ (r ++ back)) rest
            ∙ sym (overwritten_middle front (drop 512 file) back bytes at inside));
        room = rw (all, l.before) (simp length-append (omega arith));
        keeps = record {
          heads = map_same head_of (rw (header, same) refl);
          headers = map_same (take 512) header;
          tracks_held =
              tracks_same content size files new tracks p.file x holds same;
        };
      }
    where
      map_same : {T : Type 0} (h : List ℕ → T) → h (held content [] (file_at new p.file)) ≡ h (held content [] (file_at files p.file))
          → map h (each content new) ≡ map h (each content files)
      map_same h e =
          map-each h content new
          ∙ each_same (λ s. h (content s)) (h []) files new p.file x (held_by h content [] (file_at new p.file) ∙ e
          ∙ sym (held_by h content [] (file_at files p.file)))
          ∙ sym (map-each h content files)

  -- what a write leaves that may have failed
  pub record Stored (content : S → List ℕ) (size : ℕ) (files : List (Option S)) (tracks : List ℕ) (track : ℕ) (new : List (Option S))
      (bytes : List ℕ) (r : Result (Unit {0}) StoreFault) : Type 0 where
    pub written : OnOk r (slot_bytes (each content new) ≡ overwritten (slot_bytes (each content files)) (track * size) bytes)
    pub torn : OnErr r (Torn (slot_bytes (each content files)) (slot_bytes (each content new)) (track * size) size)
    pub keeps : KeepsHeads content size files tracks new

  -- with all that says where the slot is, and what the call of the one store answered
  pub stored_at : (content : S → List ℕ) (size : ℕ) (files new : List (Option S)) (tracks : List ℕ) (track at : ℕ) (p : SlotPlace)
      (bytes : List ℕ) (r : Result (Unit {0}) StoreFault) → HoldTracks content size files tracks → Located content size files track p
      → Changed files new p.file → length bytes ≡ size → at ≡ 512 + p.track * size
      → OnOk r (held content [] (file_at new p.file) ≡ overwritten (held content [] (file_at files p.file)) at bytes)
      → OnErr r (Torn (held content [] (file_at files p.file)) (held content [] (file_at new p.file)) at (length bytes))
      → Stored content size files tracks track new bytes r
  stored_at content size files new tracks track at p bytes (Ok v) holds l x long is written torn =
      let w = written_at content size files new tracks track p bytes holds l x long (written
      ∙ ap (λ (n : ℕ). overwritten (held content [] (file_at files p.file)) n bytes) is) in
      record { written = w.slots; torn = tt; keeps = w.keeps }
  stored_at content size files new tracks track at p bytes (Err e) holds l x long is written torn =
      let file = held content [] (file_at files p.file) in
      let now = held content [] (file_at new p.file) in
      let within = l.within in
      let ends : at + length bytes ≤ length file = omega arith in
      let part = slice_range now at (at + length bytes) in
      let size_is : length part ≡ size = length-between now at (at + length bytes) (rw torn.same_length ends) ∙ omega arith in
      let w = written_at content size files new tracks track p part holds l x size_is (torn_is file now at (length bytes) torn ends
      ∙ ap (λ (n : ℕ). overwritten file n part) is) in
      let room = w.room in
      record {
        written = tt;
        torn = rw w.slots (torn_within (slot_bytes (each content files)) part (track * size) size room (omega arith));
        keeps = w.keeps;
      }
