use Rattle.std.proofs.Common.{rules, ◌≡◌, ◌∙◌, ◌/◌, ap, refl, sym, w32}
use Rattle.std.proofs.lemmas.Int.{to_z-of_z}
use Rattle.s360_laws.specs.Seen.{condition_seen, status_seen}
use Rattle.s360_laws.specs.declared.status.Condition.TheVariants as condition
use Rattle.s360_laws.specs.Events.{Sio, WithCode}
use Rattle.s360_laws.specs.declared.condition.ConditionCode.TheVariants.{Three}
use Rattle.s360_channels.specs.Channels.{Quietly}
use Rattle.s360_channels.specs.Selectors.{across}
use Rattle.subsystem_calls.proofs.OtherWords.{is_three, told}
use Rattle.subsystem_calls.proofs.instructions.SioCall.over.Goals as goal

-- C is told the number of the channel's answer
pub returns-clause-does : goal.returns-clause-does
returns-clause-does g c =
    let holds = g.M.MainStorage.holds in
    let a = condition_seen status_seen c.sio.result in
    let how = Quietly (Sio c.args.self.now.address) a in
    let code = to_z-of_z w32 c.of_status.result (search rules) ∙ c.of_status.ensures in (
      record {
        answer = a;
        told = code;
        does = told how how (c.sio.result ≡ condition.Three) (a ≡ WithCode Three) (c.args.self.now.address / 256)
            (across c.args.channels.now (holds c.args.storage.now))
            (across c.sio.new.self (holds c.sio.new.storage))
            (λ b d h. h) (λ e. ap (condition_seen status_seen) e) c.sio.ensures.does;
      },
      λ three. c.sio.ensures.missing (is_three status_seen (λ s. refl) c.sio.result (sym code ∙ three)),
    )
