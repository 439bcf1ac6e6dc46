use Rattle.std.proofs.Common.{rules, ◌≡◌, ◌∙◌, ◌/◌, ap, refl, sym, w32}
use Rattle.std.proofs.lemmas.Int.{to_z-of_z}
use Rattle.s360_laws.specs.Seen.{condition_seen, status_seen}
use Rattle.s360_laws.specs.declared.status.Condition.TheVariants as condition
use Rattle.s360_laws.specs.Events.{Hio, WithCode}
use Rattle.s360_laws.specs.declared.condition.ConditionCode.TheVariants.{Three}
use Rattle.s360_channels.specs.Channels.{AtMost}
use Rattle.s360_channels.specs.Selectors.{across}
use Rattle.subsystem_calls.proofs.OtherWords.{is_three, told}
use Rattle.subsystem_calls.proofs.instructions.HioCall.over.Goals as goal

-- C is told the number of the channel's answer
pub returns-clause-does : goal.returns-clause-does
returns-clause-does g c =
    let holds = g.M.MainStorage.holds in
    let a = condition_seen status_seen c.hio.result in
    let how = AtMost 1 (Hio c.args.self.now.address) a in
    let code = to_z-of_z w32 c.of_status.result (search rules) ∙ c.of_status.ensures in (
      record {
        answer = a;
        told = code;
        does = told how how (c.hio.result ≡ condition.Three) (a ≡ WithCode Three) (c.args.self.now.address / 256)
            (across c.args.channels.now (holds c.args.storage.now))
            (across c.hio.new.self (holds c.hio.new.storage))
            (λ b d h. h) (λ e. ap (condition_seen status_seen) e) c.hio.ensures.does;
      },
      λ three. c.hio.ensures.missing (is_three status_seen (λ s. refl) c.hio.result (sym code ∙ three)),
    )
