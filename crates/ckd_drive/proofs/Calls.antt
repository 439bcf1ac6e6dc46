-- How often a call uses the store, and what a call leaves that fails.
use Rattle.std.proofs.Common.{rules, ◌≡◌, ◌∙◌, inl, inr, ap, sym, refl, ℕ, ◌+◌, List, Bool, true, false, arith, [], ◌==◌, Option}
use Rattle.std.proofs.Common.{Some, None, slice_index_or, ◌∷◌, length, unwrap_or}
use Rattle.std.proofs.Math.Bool.{or-false}
use Rattle.ckd_slot.specs.Cache.{CacheState, saved, after_save, after_failed_save, after_failed_hold}
use Rattle.ckd_command.specs.Drive.{is_written_by, LoadFails, SaveFails, number_under, Fault}
use Rattle.ckd_drive.specs.Work.{DriveState, CallsStore, fault_met, with_image}
use Rattle.ckd_drive.specs.Invariant.{Stands, is_filled, Parts, BeginsWell, IsCleared, HalfDone, state_of, own_slot, own_track, parts_of}
use Rattle.ckd_drive.specs.Invariant.{StageIs}
use Rattle.std.proofs.lemmas.Bool.{eq-eqb, ne_eqb}
use Rattle.ckd_sense.specs.declared.sense_bytes.TheConstants.Sense.{STORE_FAULT}
use Rattle.ckd_command.specs.declared.registers.Registers.{Registers}
use Rattle.ckd_command.specs.declared.registers.Mark.{Mark}
use Rattle.ckd_command.specs.declared.registers.Mark.TheVariants.{Written, Saved}
use Rattle.ckd_command.specs.declared.begin.Opened.{Opened}
use Rattle.ckd_command.specs.Answers.{ToCylinderZero}
use Rattle.ckd_command.specs.Commands.{with_cause, IsAtTrack}
use Rattle.std.proofs.lemmas.List.Elements.{All-get_or}
use Rattle.s360_words.specs.Storage.{overwritten}
use Rattle.ckd_image.specs.Image.{ImageState}
use Rattle.ckd_drive.specs.Calls.{Loses, Comes}
use Rattle.ckd_drive.proofs.Standing.{number_there, failures_saved, saved_stands}
use Rattle.ckd_drive.specs.declared.answers.DriveStage.{DriveStage}

pub no_more : (n : ℕ) → n ≡ n + 1 → ⊥
no_more n e = omega (arith, e)

-- where no command half done has changed the slot at hand, it is changed just where its track is written
pub changed_is : (d : Parts) → Stands d → is_filled d.stage d.job ≡ false → d.job.cache.changed ≡ is_written_by d.mark
changed_is d x f = rw f at x.marked ∙ or-false (is_written_by d.mark)

pub loads_saved : (c : CacheState) → (after_save c).image.loads ≡ c.image.loads
loads_saved c = elim c.changed as (λ b. (saved c.image c.slots b).loads ≡ c.image.loads) [ true ↦ refl | false ↦ refl ]

-- the store is not called
pub calls_none : (loads saves : Bool) (old new : DriveState) → new.image ≡ old.image → saves ≡ false → CallsStore loads saves old new
calls_none loads saves old new e s = rw (e, s) (search (rules, arith))

save_by : (loads b : Bool) (old new : DriveState) (c : CacheState) (slots : List (List ℕ)) → old.image ≡ c.image
    → new.image ≡ saved c.image slots b → CallsStore loads b old new
save_by loads true old new c slots e f = rw (e, f) (search (rules, arith))
save_by loads false old new c slots e f = calls_none loads false old new (f ∙ sym e) refl

-- the track is saved, if it was written
pub calls_of_save : (loads saves : Bool) (c : CacheState) (old new : DriveState) → old.image ≡ c.image → new.image ≡ (after_save c).image
    → c.changed ≡ saves → CallsStore loads saves old new
calls_of_save loads saves c old new e f s = rw (← s) (save_by loads c.changed old new c c.slots e f)

-- its saving fails: by each thing that the calls tell of it
pub calls_of_failed_save : (loads saves : Bool) (c : CacheState) (left : List ℕ) (old new : DriveState) → old.image ≡ c.image
    → new.image ≡ (after_failed_save c left).image → c.changed ≡ saves → c.changed ≡ true → CallsStore loads saves old new
calls_of_failed_save loads saves c left old new e f s changed = rw (e, f, sym s ∙ changed) (search (rules, arith))

-- a load fails
pub calls_of_failed_hold : (loads saves : Bool) (c : CacheState) (old new : DriveState) → old.image ≡ c.image
    → new.image ≡ (after_failed_hold c).image → loads ≡ true → saves ≡ false → CallsStore loads saves old new
calls_of_failed_hold loads saves c old new e f l s = rw (e, f, l, s) (search (rules, arith, no_more))

-- the track was loaded first: by what the calls tell before and behind the load
pub calls_behind_load : (loads saves : Bool) (old held new : DriveState) → held.image ≡ record old.image { loads = old.image.loads + 1 }
    → loads ≡ true → saves ≡ false → new.image.loads ≡ held.image.loads
    → CallsStore loads saves held new → CallsStore loads saves old new
calls_behind_load loads saves old held new e l s same k =
    let more : new.image.loads ≡ old.image.loads + 1 = same ∙ ap (λ i. i.loads) e in
    record {
      loads = inr (l, s, more);
      saves = k.saves ∙ rw e refl;
      failures = elim k.failures [ inl x ↦ inl (x ∙ ap (λ i. i.failures) e) | inr x ↦ inr (x.0 ∙ rw e refl, inr more) ];
      slots = λ s. k.slots s ∙ ap (λ i. i.slots) e;
      untouched = λ _ x. absurd (no_more old.image.loads (sym x ∙ more));
      lasting = k.lasting ∙ ap (λ i. i.lasting) e;
      geometry = k.geometry ∙ ap (λ i. i.geometry) e;
    }

-- Calls in which a load or a saving fails.

rises : (new old : ℕ) → new ≡ old + 1 → (new == old) ≡ false
rises new old more = ne_eqb new old (λ same. omega (arith, more, same))

pub fault_none : (old new : DriveState) → new.image.failures ≡ old.image.failures → fault_met old new ≡ None
fault_none old new e = rw (eq-eqb new.image.failures old.image.failures e) refl

pub fault_loading : (old new : DriveState) → new.image.failures ≡ old.image.failures + 1 → new.image.saves ≡ old.image.saves
    → fault_met old new ≡ Some LoadFails
fault_loading old new e s = rw (rises new.image.failures old.image.failures e, eq-eqb new.image.saves old.image.saves s) refl

pub fault_saving : (old new : DriveState) → new.image.failures ≡ old.image.failures + 1 → new.image.saves ≡ old.image.saves + 1
    → fault_met old new ≡ Some (SaveFails (slice_index_or new.image.slots (number_under old.state) []))
fault_saving old new e s = rw (rises new.image.failures old.image.failures e, rises new.image.saves old.image.saves s) refl

abbrev pub lost_registers : Registers → Registers
lost_registers r = with_cause (record r { credit = None }) STORE_FAULT

pub to_zero : (c : CacheState) (n : ℕ) (r q : Registers) (o : Option Opened) → BeginsWell c n r (ToCylinderZero q o) → IsCleared r q
to_zero c n r q None w = w
to_zero c n r q (Some o) w = w.0

pub mark_written : (m : Mark) → is_written_by m ≡ true → m ≡ Written
mark_written Written t = refl
mark_written _ t = absurd cc

-- bytes as long as those that stand there take their place
overwritten_whole : (old new : List ℕ) → length new ≡ length old → overwritten old 0 new ≡ new
overwritten_whole [] [] e = refl
overwritten_whole (x ∷ xs) (y ∷ ys) e = ap (λ (r : List ℕ). y ∷ r) (overwritten_whole xs ys (omega (arith, e)))
overwritten_whole _ _ e = absurd (omega (arith, e))

pub record SaveLost (d : Parts) (left : List ℕ) (new : DriveState) : Type 0 where
  pub held : d.job.cache.held ≡ Some (own_track d.job)
  pub written : d.mark ≡ Written
  pub whole : overwritten (own_slot d.job) 0 left ≡ left
  pub fault : fault_met (state_of d) new ≡ Some (SaveFails left)

-- Whatever the registers were as it was left. Its premises are many, since four calls come here.
pub save_lost : (d : Parts) (h h' : HalfDone) (m : Mark) (new : DriveState) → Stands d → is_filled d.stage d.job ≡ false
    → h.cache ≡ d.job.cache → (l : Loses h h' m) → new.image ≡ (after_failed_save d.job.cache l.left).image → SaveLost d l.left new
save_lost d h h' m new x f same l image =
    let c = d.job.cache in
    let left = l.left in
    let changed : c.changed ≡ true = rw same at l.changed in
    let held : c.held ≡ Some (own_track d.job) = x.anchored changed in
    let there : left ≡ slice_index_or (after_failed_save c left).image.slots (unwrap_or c.held 0) [] =
    rw same at (l.there ∙ ap (λ (k : HalfDone). slice_index_or k.cache.image.slots (unwrap_or h.cache.held 0) []) l.job) in
    let old : length (own_slot d.job) ≡ c.image.geometry.track_size =
    All-get_or (λ slot. length slot ≡ c.image.geometry.track_size) c.slots (own_track d.job) [] (number_there d x) x.volume.sizes in
    record {
      held = held;
      written = mark_written d.mark (sym (changed_is d x f) ∙ changed);
      whole = overwritten_whole (own_slot d.job) left (rw same at l.size ∙ sym old);
      fault = fault_saving (state_of d) new (ap (λ (i : ImageState). i.failures) image) (ap (λ (i : ImageState). i.saves) image)
          ∙ rw (image, held, sym (rw held at there)) refl;
    }

-- where a part of a call stands that has saved the track, if it was written
pub record BehindSave (d : Parts) (h : HalfDone) (s : DriveStage) : Type 0 where
  pub saved : h.cache ≡ after_save d.job.cache
  pub unfilled : is_filled s h ≡ false
  pub at : IsAtTrack d.job.cache.image.geometry h.registers
  pub stage : StageIs s h

-- What such a part comes to that meets no fault.
pub comes_saved : (loads saves : Bool) (d : Parts) (h : HalfDone) (s : DriveStage) (after : Option Fault → DriveState)
    → Stands d → is_filled d.stage d.job ≡ false → saves ≡ is_written_by d.mark → BehindSave d h s
    → state_of (parts_of h Saved s) ≡ with_image (after None) h.cache.image → Comes loads saves (state_of d) after (parts_of h Saved s)
comes_saved loads saves d h s after x f must behind state =
    let now = state_of (parts_of h Saved s) in
    let image : h.cache.image ≡ (after_save d.job.cache).image = ap (λ (c : CacheState). c.image) behind.saved in
    let none : fault_met (state_of d) now ≡ None = fault_none (state_of d) now (ap (λ (i : ImageState). i.failures) image
    ∙ failures_saved d.job.cache) in
    record {
      stands = saved_stands d h s x behind.saved behind.unfilled behind.at behind.stage;
      state = rw none state;
      calls = calls_of_save loads saves d.job.cache (state_of d) now refl image (changed_is d x f ∙ sym must);
      at_hand = λ more. absurd (no_more d.job.cache.image.loads (sym (ap (λ (i : ImageState). i.loads) image ∙ loads_saved d.job.cache)
          ∙ more));
    }
