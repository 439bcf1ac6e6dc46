use Rattle.std.proofs.Common.{rules, ◌∙◌, ap, refl, subst, ℕ, None, Some, Option, w32}
use Rattle.std.proofs.lemmas.Int.{to_z-of_z}
use Rattle.s360_channels.specs.Interrupting.{FirstPending, TakesOf}
use Rattle.s360_channels.specs.Selectors.{across}
use Rattle.subsystem_calls.proofs.turns.InterruptCall.over.Goals as goal

-- none is taken, and C is told so
pub returns-in_default-clause-does : goal.returns-in_default-clause-does
returns-in_default-clause-does g c =
    let s = g.M.MainStorage.holds c.args.storage.now in record {
      taken = None;
      told = refl;
      from = refl;
      takes = record {
        first = None;
        is_first = subst (λ (first : Option ℕ). FirstPending c.args.self.now.channels (across c.args.channels.now s) first) c.in_default.is
            (c.poll.ensures.first s);
        takes = (refl, ap (λ v. across v s) c.poll.ensures.stays);
      };
    }

-- it is that of the first channel
pub returns-clause-does : goal.returns-clause-does
returns-clause-does g c =
    let holds = g.M.MainStorage.holds in
    let s = holds c.args.storage.now in
    let t = c.taken_at.ensures.does in record {
      taken = t.taken;
      told = to_z-of_z w32 c.taken_at.result (search rules) ∙ t.told;
      from = t.from;
      takes = record {
        first = Some c.in-Some.number;
        is_first = subst (λ (first : Option ℕ). FirstPending c.args.self.now.channels (across c.args.channels.now s) first) c.in-Some.is
            (c.poll.ensures.first s);
        takes = subst (λ v. TakesOf (Some c.in-Some.number) t.taken (across v s)
            (across c.taken_at.new.held (holds c.taken_at.new.storage))) c.poll.ensures.stays t.takes;
      };
    }
