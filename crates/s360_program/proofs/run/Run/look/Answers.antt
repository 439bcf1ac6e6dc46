use Rattle.std.proofs.Common.{◌≡◌, arith, refl, rules, subst, sym}
use Rattle.s360_words.specs.Storage.{Storage}
use Rattle.ckd_drive.specs.Work.{DriveState, Over, CallsStore, Reports, after_look, failed_ending, fault_met, look_loads, look_saves}
use Rattle.ckd_drive.specs.Work.{with_image}
use Rattle.s360_program.specs.Stands.{phase_in}
use Rattle.s360_program.specs.Steps.{run_of, in_bytes, Fits, IsStep, Looked}
use Rattle.s360_program.specs.declared.run.Comes.TheVariants as comes
use Rattle.s360_program.specs.declared.run.Run.{Run}
use Rattle.s360_program.specs.declared.run.Step.TheVariants as step
use Rattle.s360_program.proofs.Looking.{look_fails, look_passes, look_fits, ready_left, ready_first, looking_within}
use Rattle.s360_program.proofs.Quiet.{fails_quiet, looks_quiet}
use Rattle.s360_program.proofs.Stepping.{kept, quietly, finds}
use Rattle.s360_program.proofs.Transferring.{over_once}
use Rattle.s360_program.proofs.run.Run.look.Goals as goal

-- a look of a drive that stands as it stood
looked_from : (r : Run) (d d1 d2 : DriveState) → d1 ≡ d → Fits r d → r.comes ≡ comes.Look
    → d2 ≡ with_image (after_look (fault_met d1 d2) d1) d2.image → CallsStore (look_loads d1) (look_saves d1) d1 d2
    → Reports (d2.work ≡ Over failed_ending) d1 d2 → Looked r d d2
looked_from r d d1 d2 same fits at state calls reports = subst (λ (x : DriveState). Looked r x d2) same (record {
  fits = subst (λ (x : DriveState). Fits r x) (sym same) fits;
  at = at;
  state = state;
  calls = calls;
  reports = reports;
})

-- what is said of a run and of a storage is said of those that are the same
said_of : (P : Run → Storage → Type 0) {r1 r : Run} {s1 s : Storage} → r1 ≡ r → s1 ≡ s → P r1 s1 → P r s
said_of P {r1} {r} {s1} {s} same_run same_storage is = subst (λ (x : Run). P x s) same_run (subst (λ (x : Storage). P r1 x) same_storage is)

pub returns-in-Failed : goal.returns-in-Failed
returns-in-Failed g c =
    let holds = g.M.MainStorage.holds in
    let r = c.args.self.now in
    let s = holds c.args.storage.now in
    let d = c.args.drive.now in
    let same = c.in_default.ensures.none in
    let l = c.in-Failed.ensures in
    let p = c.end_program in
    let k = looked_from r d c.pass_whole.new.drive c.look.new.self same.2 c.requires.fits c.requires.stage l.state l.calls
    l.reported in
    record {
      step = rw same.1 (quietly r p.new.run s s d p.new.drive c.args.most (step.Over 1) k.fits (kept s)
          (fails_quiet r d c.look.new.self p.new.drive k p.ensures.calls)
          (over_once r.key (phase_in (run_of r) s d) c.args.most _ s d p.new.drive c.requires.some
          (look_fails r s d c.look.new.self k _ p.new.drive l.answer (rw same.0 at p.ensures))));
      found = tt;
      place = search rules;
      calls = rw (← same.2) (search rules);
    }

pub returns-in-Passed : goal.returns-in-Passed
returns-in-Passed g c =
    let holds = g.M.MainStorage.holds in
    let r = c.args.self.now in
    let s = holds c.args.storage.now in
    let d = c.args.drive.now in
    let same = c.in_default.ensures.none in
    let l = c.in-Passed.ensures in
    let k = looked_from r d c.pass_whole.new.drive c.look.new.self same.2 c.requires.fits c.requires.stage l.state l.calls
    l.reported in
    record {
      step = rw (same.0, same.1) (quietly r r s s d c.look.new.self c.args.most (step.Units 1) k.fits (kept s)
          (looks_quiet r d c.look.new.self k) (look_passes r s d c.look.new.self k c.args.most c.requires.some l.answer));
      found = tt;
      place = search rules;
      calls = rw (← same.2) (search rules);
    }

pub complete-requires : goal.complete-requires
complete-requires g c =
    let holds = g.M.MainStorage.holds in
    let r = c.args.self.now in
    let s = holds c.args.storage.now in
    let d = c.args.drive.now in
    let same = c.in_default.ensures.none in
    let l = c.in-Ready.ensures in
    let k = looked_from r d c.pass_whole.new.drive c.look.new.self same.2 c.requires.fits c.requires.stage l.state l.calls
    l.reported in
    record {
      fits = rw same.0 (look_fits r s d c.look.new.self k c.in-Ready.left l.answer);
      some = rw same.0 (looking_within r d k.fits k.at).2;
      left = omega (arith, ready_left r s d c.look.new.self k c.in-Ready.left l.answer, c.if-left-from.true);
      first = ready_first r s d c.look.new.self k c.in-Ready.left l.answer;
      unchained = search rules;
    }

pub returns-then-not-chains_data : goal.returns-then-not-chains_data
returns-then-not-chains_data g c =
    let holds = g.M.MainStorage.holds in
    let r = c.args.self.now in
    let same = c.in_default.ensures.none in
    let l = c.in-Ready.ensures in
    let t = c.complete in
    record {
      step = finds (record { run = r; storage = holds c.args.storage.now; drive = c.args.drive.now })
          (record { run = t.new.self; storage = holds t.new.storage; drive = t.new.drive }) c.in-Ready.left c.args.most c.look.new.self
          (looked_from r c.args.drive.now c.pass_whole.new.drive c.look.new.self same.2 c.requires.fits c.requires.stage l.state l.calls
          l.reported) l.answer
          t.ensures.loads
          (said_of (λ (x : Run) (y : Storage). IsStep (in_bytes x) y c.look.new.self c.args.most t.result t.new.self (holds t.new.storage)
          t.new.drive) same.0 same.1
          (record { steps = t.ensures.steps c.args.most (omega arith); storage = t.ensures.storage; quiet = t.ensures.quiet }));
      found = tt;
      place = search rules;
      calls = rw (← same.2) (search rules);
    }

pub returns-else-left-from-clause-found : goal.returns-else-left-from-clause-found
returns-else-left-from-clause-found g c =
    let same = c.in_default.ensures.none in
    let l = c.in-Ready.ensures in
    record {
      looked = looked_from c.args.self.now c.args.drive.now c.pass_whole.new.drive c.look.new.self same.2 c.requires.fits
          c.requires.stage l.state l.calls l.reported;
      left = c.in-Ready.left;
      answer = l.answer;
      run = rw same.0 refl;
      storage = same.1;
    }
