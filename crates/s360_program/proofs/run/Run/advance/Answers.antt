use Rattle.std.proofs.Common.{◌≡◌, ◌∙◌, ◌+◌, ◌-◌, ◌≤◌, ℕ, inl, subst, arith}
use Rattle.s360_laws.specs.Scripts.{units}
use Rattle.s360_laws.specs.Units.{walk, StandsIn}
use Rattle.s360_program.specs.Advances.{CameToEnd}
use Rattle.s360_program.specs.Stands.{phase_in}
use Rattle.s360_program.specs.Steps.{run_of, told_of}
use Rattle.s360_program.proofs.Advancing.{more_units, last_unit}
use Rattle.s360_program.proofs.Moments.{moment_of}
use Rattle.s360_program.proofs.Quiet.{still_quiet}
use Rattle.s360_program.proofs.run.Run.advance.Goals as goal

-- so many are done where so many less are left
fewer_left : (all left n : ℕ) → left ≤ all → n ≤ left → (all - left) + n ≡ all - (left - n)
fewer_left all left n h k = omega arith

in_all : (d earlier n all left : ℕ) → n ≡ earlier + 1 → left ≤ all → n ≤ left → d + earlier + 1 ≡ d + n
in_all d earlier n all left h k few = omega arith

pub loop-left-preserved : goal.loop-left-preserved
loop-left-preserved g c =
    let holds = g.M.MainStorage.holds in
    let i = c.loop-left.invariant in
    let l = c.loop-left in
    let a = c.args in
    let n = c.in-Units.n in
    let e = c.in-Units.ensures.step in
    let k = c.in-Units.ensures.calls in
    let w = e.steps in
    let d = a.units - l.left in
    let fewer = fewer_left a.units l.left n i.within w.few in
    record {
      within = omega (arith, w.few, i.within);
      failures = w.failures ∙ i.failures;
      key = w.same_key ∙ i.key;
      fits = w.fits;
      no_check = λ q. w.no_check (i.no_check q);
      storage = record { size = e.storage.size ∙ i.storage.size; keys = e.storage.keys ∙ i.storage.keys };
      place = c.in-Units.ensures.place ∙ i.place;
      calls = record {
        calls = omega (arith, w.some, w.few, i.within, k.calls, i.calls.calls);
        lasting = k.lasting ∙ i.calls.lasting;
        geometry = k.geometry ∙ i.calls.geometry;
      };
      walked = subst (λ done. walk (units done) a.self.now.key (phase_in (run_of a.self.now) (holds a.storage.now) a.drive.now)
          ≡ StandsIn (phase_in (run_of c.step.new.self) (holds c.step.new.storage) c.step.new.drive)) fewer
          (more_units a.self.now.key l.self.key (phase_in (run_of a.self.now) (holds a.storage.now) a.drive.now)
          (phase_in (run_of l.self) (holds l.storage) l.drive) (phase_in (run_of c.step.new.self)
          (holds c.step.new.storage) c.step.new.drive) d n i.key i.walked w.goes);
      quiet = still_quiet (moment_of (record { run = a.self.now; storage = holds a.storage.now; drive = a.drive.now }))
          (moment_of (record { run = l.self; storage = holds l.storage; drive = l.drive })) d n (a.units - (l.left - n)) c.step.new.drive
          (record { same_key = i.key; goes = i.walked }) (omega (arith, w.few, i.within)) i.quiet e.quiet;
    }

pub returns-in-Over-clause-advances : goal.returns-in-Over-clause-advances
returns-in-Over-clause-advances g c =
    let holds = g.M.MainStorage.holds in
    let i = c.loop-left.invariant in
    let l = c.loop-left in
    let a = c.args in
    let n = c.in-Over.n in
    let w = c.in-Over.ensures.step.steps in
    let d = a.units - l.left in
    rw c.told.ensures
    (subst (λ n. CameToEnd a.self.now.key (phase_in (run_of a.self.now) (holds a.storage.now) a.drive.now) a.units n
    (told_of c.step.new.self) (holds c.step.new.storage) a.drive.now c.step.new.drive)
    (in_all d w.earlier n a.units l.left w.last i.within w.few)
    (last_unit (moment_of (record { run = a.self.now; storage = holds a.storage.now; drive = a.drive.now }))
    (record { key = l.self.key; phase = w.at; drive = l.drive }) (d + w.earlier) a.units (told_of c.step.new.self)
    (holds c.step.new.storage) c.step.new.drive
    (record {
      same_key = i.key;
      goes = more_units a.self.now.key l.self.key (phase_in (run_of a.self.now) (holds a.storage.now) a.drive.now)
          (phase_in (run_of l.self) (holds l.storage) l.drive) w.at d w.earlier i.key i.walked w.goes;
    }) i.failures (omega (arith, i.within, w.last, w.few)) w.ends))

pub returns-in-Over-clause-quiet : goal.returns-in-Over-clause-quiet
returns-in-Over-clause-quiet g c =
    let holds = g.M.MainStorage.holds in
    let i = c.loop-left.invariant in
    let l = c.loop-left in
    let a = c.args in
    still_quiet (moment_of (record { run = a.self.now; storage = holds a.storage.now; drive = a.drive.now }))
    (moment_of (record { run = l.self; storage = holds l.storage; drive = l.drive })) (a.units - l.left) c.in-Over.n
    ((a.units - l.left) + c.in-Over.n) c.step.new.drive (record { same_key = i.key; goes = i.walked }) (omega arith) i.quiet
    c.in-Over.ensures.step.quiet

pub returns-clause-tells : goal.returns-clause-tells
returns-clause-tells g c =
    let i = c.loop-left.invariant in
    record { failed = inl i.failures; good = λ _. record { saved = i.fits.stands.saved; no_check = i.no_check } }
