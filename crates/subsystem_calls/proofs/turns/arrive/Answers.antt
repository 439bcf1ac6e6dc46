use Rattle.std.proofs.Common.{rules, ◌≡◌, ◌∙◌, ◌/◌, ap, w32, false}
use Rattle.std.proofs.lemmas.Int.{to_z-of_z}
use Rattle.s360_laws.specs.Events.{Arrive, HasArrived}
use Rattle.s360_channels.specs.Channels.{Quietly}
use Rattle.s360_channels.specs.Selectors.{across}
use Rattle.subsystem_calls.proofs.OtherWords.{told}
use Rattle.subsystem_calls.proofs.turns.arrive.Goals as goal

-- C is told the number of the channel's answer
pub returns-clause-does : goal.returns-clause-does
returns-clause-does c = λ s.
    let a = HasArrived c.arrive.result in let how = Quietly (Arrive c.args.address) a in record {
      answer = a;
      told = to_z-of_z w32 c.of_arrival.result (search rules) ∙ c.of_arrival.ensures;
      does = told how how (c.arrive.result ≡ false) (a ≡ HasArrived false) (c.args.address / 256) (across c.args.channels.now s)
          (across c.arrive.new.self s)
          (λ b d h. h) (λ e. ap HasArrived e) (c.arrive.ensures.does s);
    }
