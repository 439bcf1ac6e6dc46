-- A record that gets other bytes.
use Rattle.std.proofs.Common.{◌≡◌, ◌∙◌, ap, sym, refl, inl, inr, ℕ, ◌+◌, ◌-◌, ◌<◌, ◌≤◌, List, [], ◌++◌, false, ◌==◌, Option, Some, None, Ok}
use Rattle.std.proofs.Common.{length, length-append, append-nil, arith, Bool}
use Rattle.std.proofs.lemmas.List.{get_or_past}
use Rattle.std.proofs.lemmas.Bool.{cases_lt}
use Rattle.std.proofs.lemmas.Bool.Decides.{nat_tests}
use Rattle.ckd_track.specs.Track.{Track, Record, track_of, track_in, record_in, no_record, slot_of}
use Rattle.ckd_sense.specs.declared.commands.Command.{Command}
use Rattle.ckd_sense.specs.declared.commands.Command.TheVariants as command
use Rattle.ckd_position.specs.declared.areas.Area.{Area}
use Rattle.ckd_position.specs.declared.areas.Area.TheVariants.{HomeAddress, Of}
use Rattle.ckd_position.specs.declared.areas.RecordPart.{RecordPart}
use Rattle.ckd_command.specs.declared.tables.Action.TheVariants as action
use Rattle.ckd_position.specs.declared.extents.AreaBytes.{AreaBytes}
use Rattle.ckd_position.specs.declared.extents.AreaBytes.TheVariants as extent
use Rattle.ckd_command.specs.Answers.{CommandEnd, Found}
use Rattle.ckd_slot.specs.declared.windows.Window.{Window}
use Rattle.ckd_drive.specs.declared.transfer.Transfer.TheVariants.{Fill, Filled}
use Rattle.ckd_command.specs.Tables.{action_of, extent_of}
use Rattle.ckd_position.specs.Contents.{bytes_of, padded, replaced, with_record_changed}
use Rattle.ckd_command.specs.Commands.{Closing, bytes_at, area_bytes, sight, end_of_area, command_end, area_ends}
use Rattle.ckd_slot.specs.Buffer.{FitsSlot, IsUpdate, IsUpdateAt, IsRecordOf, lengths_on}
use Rattle.ckd_slot.specs.Cache.{with_held, slot_held}
use Rattle.ckd_drive.specs.declared.transfer.WrittenArea.TheVariants as written
use Rattle.ckd_drive.specs.Invariant.{HalfDone, own_track, own_slot, action_now, IsFilled, AtHand, slot_at, track_under, AtWork}
use Rattle.ckd_drive.specs.Invariant.{geometry_in, action_in}
use Rattle.ckd_drive.specs.Passing.{MayTake, Absorbs}
use Rattle.ckd_slot.proofs.Writes.{update_length, update_place, length-padded, padded_changes}
use Rattle.ckd_slot.proofs.Updates.{form_of}
use Rattle.ckd_drive.proofs.Fills.{there, new_slot_at, reads_new, Filling, ClosesFilled, form_filled, old_read}
use Rattle.ckd_command.proofs.Closings.{area_by, closing_by, update_closes}
use Rattle.ckd_command.proofs.Lengths.{length_by}
use Rattle.ckd_drive.proofs.News.{new_work, newly_absorbs}
use Rattle.ckd_drive.proofs.Standing.{slot_is}

-- Which bytes are replaced.

update_extent : (c : Command) → action_of c ≡ action.Update → IsUpdate (extent_of c)
update_extent command.WriteData e = tt
update_extent command.WriteKeyAndData e = tt
update_extent _ e = absurd cc

-- only a record's areas have bytes to replace
in_range : (t : Track) (i : ℕ) (size : Record → ℕ) → size no_record ≡ 0 → 0 < size (record_in t i) → i < length t.records
in_range t i size none some = elim (cases_lt i (length t.records)) [
  | inl lt ↦ lt
  | inr le ↦ absurd (let z = ap size (get_or_past t.records i no_record le) in omega (arith, z, none, some))
]

bytes_there : (e : AreaBytes) (t : Track) (a : Area) → IsUpdate e → 0 < length (bytes_of e (Ok t) a) → IsRecordOf t a
bytes_there extent.Data t (Of part i) u some = in_range t i (λ r. length r.data_area) refl some
bytes_there extent.Data t HomeAddress u some = absurd (omega (arith, some))
bytes_there extent.KeyAndData t (Of part i) u some = in_range t i (λ r. length (r.key_area ++ r.data_area)) refl some
bytes_there extent.KeyAndData t HomeAddress u some = absurd (omega (arith, some))
bytes_there _ t a u some = absurd u

-- the record that an update fills
abbrev fill_filling : AtWork → RecordPart → ℕ → CommandEnd → Filling
fill_filling job part i u =
    record { closes = u; track = track_in job.before; extent = extent_of job.opened.command; part = part; number = i; lead = 0 }

-- what a look found of an update: an area of a record of the track, with as many bytes as it gets
record FindsArea (job : AtWork) (part : RecordPart) (i : ℕ) : Type 0 where
  pub is : action_in job ≡ action.Update
  pub update : IsUpdate (extent_of job.opened.command)
  pub reads : track_of job.before ≡ Ok (track_in job.before)
  pub area : job.opened.area ≡ Some (Of part i)
  pub size : length (area_bytes (track_of job.before) job.opened job.registers) ≡ update_length (extent_of job.opened.command)
      (record_in (track_in job.before) i)

-- how an update of that record closes
fill_filled : (job : AtWork) (part : RecordPart) (i : ℕ) (b : List ℕ) (u : CommandEnd) → FindsArea job part i
    → 0 < length b → length b ≤ update_length (extent_of job.opened.command) (record_in (track_in job.before) i)
    → command_end (end_of_area (track_of job.before) job.opened job.registers) ≡ u
    → ClosesFilled job b (fill_filling job part i u)
fill_filled job part i b u found some le so =
    let o = job.opened in
    let k = update_closes (geometry_in job) job.before o job.registers (Of part i) b found.is found.reads found.area some in
    record {
      so = ap command_end k ∙ so;
      written = ap (λ (y : Closing). y.written) k
          ∙ ap (λ (y : Track). Some y) (sym (padded_changes (extent_of o.command) part i (track_in job.before) b found.update le));
      wants = omega (arith, length_by action.Update (geometry_in job) (track_of job.before) o job.registers b found.is, found.size);
    }

-- A command's first bytes that replace others.

pub record FillGoes (half : HalfDone) (more : List ℕ) (a : Area) (w : Window) (no_data : Bool) : Type 0 where
  pub is : action_now half ≡ action.Update
  pub hand : AtHand half.cache (own_track half)
  pub none : half.passed ≡ []
  pub le : length more ≤ w.len
  pub left : half.progress.left ≤ w.len
  pub at : IsUpdateAt (track_in (own_slot half)) (extent_of half.opened.command) a w
  pub within : w.start + w.len ≤ half.cache.image.geometry.track_size
  pub again : sight half.cache.image.geometry (track_of (own_slot half)) half.opened half.registers ≡ Found half.opened
  pub size : length (area_bytes (track_of (own_slot half)) half.opened half.registers) ≡ w.len
  pub so : command_end (end_of_area (track_of (own_slot half)) half.opened half.registers)
      ≡ command_end (area_ends half.opened half.registers no_data)

-- bytes that come belong to an area
no_area : (half : HalfDone) (more : List ℕ) (w : Window) (no_data : Bool) → MayTake half more → half.progress.place ≡ Fill w no_data
    → half.opened.area ≡ None → (length more == 0) ≡ false → ⊥
no_area half more w no_data may at none came =
    let some : 0 < length more = grind (arith, nat_tests) in
    let t = track_of (slot_at half.cache.slots (track_under half.cache.image.geometry half.registers)) in
    let left : half.progress.left ≤ w.len = rw at at may.works.goes.left in
    let h = (rw at at may.works.goes.placed).0 in
    let bytes : area_bytes t half.opened half.registers ≡ [] = area_by action.Update t half.opened half.registers h.is_update
    ∙ rw none refl in
    let zero : 0 ≡ w.len = sym (ap length bytes) ∙ h.lies.size in
    omega (arith, zero, left, may.room, some)

fill_goes : (half : HalfDone) (more : List ℕ) (a : Area) (w : Window) (no_data : Bool) → MayTake half more
    → half.progress.place ≡ Fill w no_data → half.opened.area ≡ Some a → 0 < length more
    → FillGoes half more a w no_data
fill_goes half more a w no_data may at area some =
    let r = half.registers in
    let g = half.cache.image.geometry in
    let n : ℕ = track_under g r in
    let old = slot_at half.cache.slots n in
    let t = track_of old in
    let left : half.progress.left ≤ w.len = rw at at may.works.goes.left in
    let placed = rw at at may.works.goes.placed in
    let h = placed.0 in
    let e = extent_of half.opened.command in
    let upd = update_extent half.opened.command h.is_update in
    let reads = old_read old h.at_hand.readable in
    let bytes : area_bytes t half.opened r ≡ bytes_of e t a = area_by action.Update t half.opened r h.is_update
    ∙ ap (λ (y : Option Area). bytes_at e t y) area in
    let count : length (bytes_of e t a) ≡ w.len = ap length (sym bytes) ∙ h.lies.size in
    let full : 0 < length (bytes_of e t a) = omega (arith, count, left, may.room, some) in
    record {
      is = h.is_update;
      hand = h.at_hand;
      none = h.none;
      le = omega (arith, left, may.room);
      left = left;
      at = record { update = upd; there = bytes_there e (track_in old) a upd (rw reads at full); place = rw area at h.place };
      within = omega (arith, h.lies.within, may.works.volume.sizes n [] (there half may.works));
      again = placed.1.again;
      size = h.lies.size;
      so = ap command_end (sym (closing_by action.Update g t half.opened r [] h.is_update)) ∙ rw h.none at placed.2.so;
    }

-- the slot once its record has these bytes, and zeros behind them
abbrev pub replaced_slot : HalfDone → (slot more : List ℕ) → Area → List ℕ
replaced_slot half slot more a =
    slot_of half.cache.image.geometry.track_size (with_record_changed (replaced (extent_of half.opened.command) more) a (track_in slot))

-- the drive then holds a track that is being written; what is known of a command that comes to write is a premise each, since they
-- come from the look, the bytes and the slot
fill_absorbs : (half : HalfDone) (more : List ℕ) (a : Area) (w : Window) (no_data : Bool) → MayTake half more
    → half.progress.place ≡ Fill w no_data → half.opened.area ≡ Some a → 0 < length more
    → FillGoes half more a w no_data → FitsSlot half.cache.image.geometry.track_size (track_in (own_slot half))
    → Absorbs half more (with_held half.cache (replaced_slot half (own_slot half) more a)) (slot_held half.cache)
    (Filled (record { start = w.start + length more; len = w.len - length more }) (written.Area no_data))
fill_absorbs half more HomeAddress w no_data may at area some k f = absurd k.at.there
fill_absorbs half more (Of part i) w no_data may at area some k f =
    let u = command_end (area_ends half.opened half.registers no_data) in
    let n : ℕ = track_under half.cache.image.geometry half.registers in
    let old = slot_at half.cache.slots n in
    let size = half.cache.image.geometry.track_size in
    let e = extent_of half.opened.command in
    let t = track_in old in
    let upd = k.at.update in
    let lt = k.at.there in
    let pl = update_place e t part i w upd lt k.at.place in
    let room = update_length e (record_in t i) in
    let short : length more ≤ room = omega (arith, k.le, pl.1) in
    let form = form_of size t e part i (padded more room) upd f lt (length-padded more room short) in
    let new = replaced_slot half old more (Of part i) in
    let new_is : new ≡ slot_of size (with_record_changed (replaced e (padded more room)) (Of part i) t) =
    ap (slot_of size) (sym (padded_changes e part i t more upd short)) in
    let read = reads_new size (with_record_changed (replaced e (padded more room)) (Of part i) t) new form.fits new_is in
    let at_new = new_slot_at half.cache n new k.hand.held (there half may.works) in
    let now : List ℕ = slot_at (with_held half.cache new).slots n in
    let lengths : lengths_on (track_in now) ≡ lengths_on t = ap (λ (y : List ℕ). lengths_on (track_in y)) at_new ∙ ap lengths_on read.1
    ∙ form.lengths in
    let b = half.passed ++ more in
    let b_is : b ≡ more = ap (λ (y : List ℕ). y ++ more) k.none in
    let b_long : length b ≡ length more = ap length b_is in
    let none_long : length half.passed ≡ 0 = ap length k.none in
    let w' : Window = record { start = w.start + length more; len = w.len - length more } in
    let job = new_work half more new w' (written.Area no_data) in
    let found : FindsArea job part i =
    record { is = k.is; update = upd; reads = old_read old k.hand.readable; area = area; size = k.size ∙ pl.1 } in
    let filled : IsFilled job now w' u =
    form_filled job now w' (fill_filling job part i u) (record { update = upd; fits = f; there = lt }) lengths (record {
      begins = omega arith;
      lead_small = omega arith;
      start = omega (arith, pl.0, b_long);
      rest = omega (arith, pl.1, b_long, k.le);
    }) (λ m le. fill_filled job part i (b ++ m) u found (omega (arith, length-append b m, b_long, some))
    (omega (arith, length-append b m, b_long, le, k.le, pl.1)) k.so) in
    let whole : b ++ [] ≡ more = append-nil b ∙ b_is in
    newly_absorbs half more new w' (written.Area no_data) (omega arith) may.works
    (record { held = k.hand.held; plain = rw at refl; again = k.again; takes = may.taking; some = omega (arith, some) }) (record {
      left = (let l = k.left in omega (arith, l));
      small = omega (arith, none_long, k.le, k.within, may.works.volume.geometry.limit);
    }) filled
    (new_is ∙ ap (λ (y : List ℕ). slot_of size (with_record_changed (replaced e (padded y room)) (Of part i) t)) (sym whole))

-- what such bytes replace, and what they make of the track, by the slot at hand
pub record Fills (half : HalfDone) (more : List ℕ) (w : Window) (no_data : Bool) : Type 0 where
  pub area : Area
  pub at : IsUpdateAt (track_in (slot_held half.cache)) (extent_of half.opened.command) area w
  pub le : length more ≤ w.len
  pub absorbs : FitsSlot half.cache.image.geometry.track_size (track_in (slot_held half.cache))
      → Absorbs half more (with_held half.cache (replaced_slot half (slot_held half.cache) more area)) (slot_held half.cache)
      (Filled (record { start = w.start + length more; len = w.len - length more }) (written.Area no_data))

pub fills : (half : HalfDone) (more : List ℕ) (w : Window) (no_data : Bool) → MayTake half more → half.progress.place ≡ Fill w no_data
    → (length more == 0) ≡ false → Fills half more w no_data
fills half more w no_data may at came = by half.opened.area refl
  where
    by : (x : Option Area) → half.opened.area ≡ x → Fills half more w no_data
    by None none = absurd (no_area half more w no_data may at none came)
    by (Some a) area =
        let some : 0 < length more = grind (arith, nat_tests) in
        let k = fill_goes half more a w no_data may at area some in
        let old : slot_held half.cache ≡ own_slot half = slot_is half.cache (own_track half) (slot_held half.cache) k.hand.held refl in
        record {
          area = a;
          at = rw old k.at;
          le = k.le;
          absorbs = λ f. (let x = fill_absorbs half more a w no_data may at area some k (rw old at f) in rw old (rw old at x));
        }
