use Rattle.std.proofs.Common.{◌≡◌, ◌∙◌, ◌+◌, ap, refl, rules, sym, Option, None}
use Rattle.s360_channels.specs.Selectors.{across}
use Rattle.dasd_subsystem.specs.declared.until.RunProgress.{RunProgress}
use Rattle.dasd_subsystem.proofs.Seeing.{first_seen, none_seen, unit_more}
use Rattle.dasd_subsystem.proofs.until.run_until.Goals as goal

-- there is no such channel
pub returns-in_default-clause-does : goal.returns-in_default-clause-does
returns-in_default-clause-does g c =
    let s = g.M.MainStorage.holds c.args.storage.now in
    none_seen c.args.wanted.channel c.args.wanted (◌≡◌ {A = Option RunProgress} None None) (across c.args.channels.now s)
    (c.in_default.ensures s) refl

-- it is seen as it is
pub loop-init : goal.loop-init
loop-init g c = record {
  goes = rw (c.none-counts.ensures, c.nothing-stopped.ensures)
      (first_seen c.args.wanted.channel c.args.wanted.until (across c.args.channels.now (g.M.MainStorage.holds c.args.storage.now))
      c.in-Some.before (c.in-Some.ensures (g.M.MainStorage.holds c.args.storage.now)));
  units = rw c.none-counts.ensures refl;
  few = rw c.none-counts.ensures (search rules);
  same = refl;
  keeps = record { size = refl; keys = refl };
  place = refl;
}

-- a unit more
pub loop-preserved : goal.loop-preserved
loop-preserved g c =
    let holds = g.M.MainStorage.holds in
    let i = c.loop.invariant in record {
      goes = rw (c.add.ensures.adds, c.happened-stopped.ensures)
          (unit_more c.args.wanted.until c.loop.before c.in-Some-behind.behind c.args.wanted.channel
          (across c.args.channels.now (holds c.args.storage.now)) (across c.loop.channels (holds c.loop.storage))
          (across c.behind.new.channels (holds c.behind.new.storage)) c.loop.counter c.loop.counts c.loop.stopped _
          (sym c.runs.ensures ∙ c.if-not-runs.false) (sym c.is_any.ensures ∙ c.if-is_any.false) i.goes c.in-Some-behind.ensures.does);
      units = c.add.ensures.units ∙ ap (λ n. n + 1) i.units;
      few = c.add.ensures.few;
      same = c.behind.ensures.same ∙ i.same;
      keeps = record { size = c.behind.ensures.keeps.size ∙ i.keeps.size; keys = c.behind.ensures.keeps.keys ∙ i.keeps.keys };
      place = c.behind.ensures.place ∙ i.place;
    }
