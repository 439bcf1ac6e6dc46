-- A slot that no program of a list may write keeps its bytes.
use Rattle.std.proofs.Common.{arith, ◌≡◌, ℕ, refl, ap, subst, sym, ◌∙◌, true, false, cond, ◌&&◌, ◌==◌, List, [], ◌∷◌, map, Option, Some}
use Rattle.std.proofs.Common.{None}
use Rattle.std.proofs.Math.Bool.{and-false}
use Rattle.std.proofs.lemmas.Bool.{cond_both, eqb-true, or_parts, eq-eqb}
use Rattle.std.specs.Prelude.{find, option_map}
use Rattle.s360_words.specs.Words.{caw_of}
use Rattle.s360_words.specs.declared.words.Caw.{Caw}
use Rattle.ckd_command.specs.Drive.{IdleDrive, no_sense}
use Rattle.s360_laws.specs.Endings.{Outcome, Ended, NotEnded, Ending}
use Rattle.s360_laws.specs.Laws.{IsFirstUnit}
use Rattle.s360_laws.specs.Runs.{Start, run, start_point, run_from}
use Rattle.s360_laws.specs.Scripts.{Script, units}
use Rattle.s360_laws.specs.Starts.{First, RejectedStart, first}
use Rattle.s360_laws.specs.Units.{Next, Between, unit, walk, outcome_of, on_next}
use Rattle.s360_laws.specs.RunWrites.{OutcomeKeeps, slot_in, NextKeeps}
use Rattle.s360_laws.proofs.FirstUnits.{first_is_unit}
use Rattle.s360_laws.proofs.Walks.{run_walk}
use Rattle.s360_laws.proofs.Writes.{run_keeps, writes_under_arm}
use Rattle.s360_laws.specs.History.{Act, Program, RejectedCommand, Changes, ClearsSense, Fate, ByItself, IsCut, World, after_first}
use Rattle.s360_laws.specs.History.{after_program, after_rejection, after_run, does, drive_in, history, start_in, with_drive, world_of}
use Rattle.s360_laws.specs.History.{all_acts}
use Rattle.s360_laws.specs.Machine.{exchanges}
use Rattle.s360_laws.specs.Writes.{KeepsUnwritten, act_writes, acts_write, program_writes, slot_at}
use Rattle.s360_laws.proofs.FindDevices.{find_map, found_is}
use Rattle.s360_laws.proofs.Serial.{serial}

abbrev Drives : Type 0
Drives = List (ℕ × IdleDrive)

abbrev at : ℕ → Drives → Option (ℕ × IdleDrive)
at device ds = find (λ d. d.0 == device) ds

abbrev slot : ℕ → Option (ℕ × IdleDrive) → Option (Option (List ℕ))
slot track d = option_map (λ d. slot_in d.1.volume track) d

-- One drive is another, with the same slot if it is that of the device.

with_slot : (track device p : ℕ) (drive : IdleDrive) (ds : Drives) (d : ℕ × IdleDrive) → at p ds ≡ Some d
    → ((p == device) ≡ true → slot_in drive.volume track ≡ slot_in d.1.volume track)
    → slot track (at device (with_drive p drive ds)) ≡ slot track (at device ds)
with_slot track device p drive ds d is k =
    ap (slot track) (find_map (λ d. d.0 == device) (λ d. d.0 == device) (λ d. cond (d.0 == p) (d.0, drive) d) (λ d. grind arith) ds)
    ∙ go (at device ds) refl
  where
    go : (y : Option (ℕ × IdleDrive)) → at device ds ≡ y → slot track (option_map (λ d. cond (d.0 == p) (d.0, drive) d) y) ≡ slot track y
    go None e = refl
    go (Some c) e = cond_both (c.0 == p) (c.0, drive) c (λ b. Some (slot_in b.1.volume track) ≡ Some (slot_in c.1.volume track)) here
        (λ q. refl)
      where
        here : (c.0 == p) ≡ true → Some (slot_in drive.volume track) ≡ Some (slot_in c.1.volume track)
        here q =
            let one = eqb-true _ _ q in
            let two = eqb-true _ _ (found_is (λ d. d.0 == device) ds c e) in
            let it : p ≡ device = cc in
            ap Some (k (eq-eqb _ _ it)) ∙ ap (slot track) (sym is ∙ ap (λ n. at n ds) it ∙ e)

-- a change of sense bytes
cleared : (track device : ℕ) (ds : Drives) → slot track (at device (map (λ d. (d.0, record d.1 { sense = no_sense })) ds))
    ≡ slot track (at device ds)
cleared track device ds =
    let same = find_map (λ (d : ℕ × IdleDrive). d.0 == device) (λ d. d.0 ==
    device) (λ (d : ℕ × IdleDrive). (d.0, record d.1 { sense = no_sense })) (λ d. refl) ds in
    grind arith

-- A command that is rejected is over in the first unit, before which nothing is written.

first_keeps : (s : Start) (drive : IdleDrive) (track : ℕ) → first s ≡ RejectedStart drive
    → slot_in drive.volume track ≡ slot_in s.drive.volume track
first_keeps s drive track h = from (caw_of s.caw) (subst (λ f. IsFirstUnit s f (run (units 1) s)) h (first_is_unit s).unit_is)
  where
    by_unit : (caw : Caw) (n : Next) (e : Ending) → NextKeeps track s.drive.volume n
        → outcome_of (units 1) caw.key (on_next [] n (walk [] caw.key)) ≡ Ended 1 s.storage e
        → slot_in e.drive.volume track ≡ slot_in s.drive.volume track
    by_unit caw n e k q = grind arith

    from : (c : Option Caw) → IsFirstUnit s (RejectedStart drive) (run_from (units 1) s c)
        → slot_in drive.volume track ≡ slot_in s.drive.volume track
    from None r = let q = r.1 in absurd (cc)
    from (Some caw) r =
        let begun = Between (start_point caw s) in
        ap (λ d. slot_in d.volume track) (sym r.3)
        ∙ by_unit caw (unit None caw.key begun) r.0 (writes_under_arm s caw [] begun None track refl (and-false _)).by_unit
        (sym (run_walk s caw (units 1)) ∙ r.1)

program_keeps : (w : World) (p device track : ℕ) (script : Script) (fate : Fate) (y : Option (ℕ × IdleDrive)) → drive_in w p ≡ y
    → ((p == device) && program_writes w track script y) ≡ false
    → slot track (at device (after_program w p script fate y).drives) ≡ slot track (at device w.drives)
program_keeps w p device track script fate None e h = refl
program_keeps w p device track script fate (Some d) e h =
    go fate (run script (start_in w d.1)) (λ k. run_keeps (start_in w d.1) script track
    (subst (λ b. (b && program_writes w track script (Some d)) ≡ false) k h))
  where
    go : (fate : Fate) (o : Outcome) → ((p == device) ≡ true → OutcomeKeeps track d.1.volume o)
        → slot track (at device (after_run w p fate o).drives) ≡ slot track (at device w.drives)
    go fate (Ended used s z) k = with_slot track device p z.drive w.drives d e k
    go (IsCut fault) (NotEnded seen) k = with_slot track device p (seen.cut fault).drive w.drives d e (λ l. k l fault)
    go ByItself (NotEnded seen) k = refl

rejection_keeps : (w : World) (p device track : ℕ) (y : Option (ℕ × IdleDrive)) → drive_in w p ≡ y
    → slot track (at device (after_rejection w p y).drives) ≡ slot track (at device w.drives)
rejection_keeps w p device track None e = refl
rejection_keeps w p device track (Some d) e = go (first (start_in w d.1)) refl
  where
    go : (f : First) → first (start_in w d.1) ≡ f → slot track (at device (after_first w p f).drives) ≡ slot track (at device w.drives)
    go (RejectedStart drive) k = with_slot track device p drive w.drives d e (λ l. first_keeps (start_in w d.1) drive track k)
    go f k = refl

act_keeps : (w : World) (device track : ℕ) (act : Act) → act_writes w device track act ≡ false → slot_at (does w act) device track
    ≡ slot_at w device track
act_keeps w device track (Program p script fate) h = program_keeps w p device track script fate (drive_in w p) refl h
act_keeps w device track (RejectedCommand p) h = rejection_keeps w p device track (drive_in w p) refl
act_keeps w device track (Changes c) h = refl
act_keeps w device track ClearsSense h = cleared track device w.drives

history_keeps : (w : World) (device track : ℕ) (list : List Act) → acts_write w device track list ≡ false
    → slot_at (history w list) device track ≡ slot_at w device track
history_keeps w device track [] h = refl
history_keeps w device track (act ∷ rest) h =
    let k = or_parts (act_writes w device track act) (acts_write (does w act) device track rest) h in
    history_keeps (does w act) device track rest k.1 ∙ act_keeps w device track act k.0

pub keeps_unwritten : KeepsUnwritten
keeps_unwritten m es device track r w h =
    ap (λ w. slot_at w device track) (serial m es r w) ∙ history_keeps (world_of m) device track (all_acts m (exchanges es m)) h
