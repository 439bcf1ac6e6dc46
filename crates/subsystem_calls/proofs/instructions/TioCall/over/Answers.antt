use Rattle.std.proofs.Common.{rules, ◌≡◌, ◌∙◌, ◌/◌, ap, refl, sym, w32}
use Rattle.std.proofs.lemmas.Int.{to_z-of_z}
use Rattle.s360_laws.specs.Seen.{condition_seen, csw_seen}
use Rattle.s360_laws.specs.declared.status.Condition.TheVariants as condition
use Rattle.s360_laws.specs.Events.{Tio, WithCode}
use Rattle.s360_laws.specs.declared.condition.ConditionCode.TheVariants.{Three}
use Rattle.s360_channels.specs.Channels.{Quietly}
use Rattle.s360_channels.specs.Selectors.{across}
use Rattle.subsystem_calls.proofs.OtherWords.{is_three, told}
use Rattle.subsystem_calls.proofs.instructions.TioCall.over.Goals as goal

-- C is told the number of the channel's answer
pub returns-clause-does : goal.returns-clause-does
returns-clause-does g c =
    let holds = g.M.MainStorage.holds in
    let a = condition_seen csw_seen c.tio.result in
    let how = Quietly (Tio c.args.self.now.address) a in
    let code = to_z-of_z w32 c.of_csw.result (search rules) ∙ c.of_csw.ensures in (
      record {
        answer = a;
        told = code;
        does = told how how (c.tio.result ≡ condition.Three) (a ≡ WithCode Three) (c.args.self.now.address / 256)
            (across c.args.channels.now (holds c.args.storage.now))
            (across c.tio.new.self (holds c.tio.new.storage))
            (λ b d h. h) (λ e. ap (condition_seen csw_seen) e) c.tio.ensures.does;
      },
      λ three. c.tio.ensures.missing (is_three csw_seen (λ s. refl) c.tio.result (sym code ∙ three)),
    )
