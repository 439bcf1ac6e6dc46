use Rattle.std.proofs.Common.{◌≡◌, refl, sym, ap, ◌∙◌, is_ok}
use Rattle.s360_words.specs.Storage.{KeyOf}
use Rattle.s360_laws.specs.Events.{SetKey}
use Rattle.s360_channel.specs.Selector.{over}
use Rattle.s360_channel.proofs.Kept.{does_kept, kept_size}
use Rattle.s360_channel.proofs.channel.Channel.set_key.Goals as goal
use Rattle.s360_channel.proofs.channel.Channel.set_key.Goals.{then-set_key, else-set_key}

pub invariant_of-self : goal.invariant_of-self
invariant_of-self g c = kept_size (KeyOf c.args.at c.args.key) c.self.inside.storage c.set_key.new.self c.set_key.result
    c.set_key.ensures.change ∙ c.self.invariant

pub returns-clause-does : goal.returns-clause-does
returns-clause-does g c m h =
    does_kept (SetKey c.args.at c.args.key) (KeyOf c.args.at c.args.key) (λ m. refl) (over c.self.inside.selector c.self.inside.storage)
    c.set_key.new.self c.set_key.result (is_ok c.if-set_key.result) c.set_key.ensures.answer c.set_key.ensures.change told m
    (rw (← c.self.view_is) at h)
  where
    told : is_ok c.if-set_key.result ≡ c.set_key.result
    told = elim c.if-set_key.branch [
      | then-set_key w ↦ ap is_ok w.result-is ∙ sym w.if-set_key.true
      | else-set_key w ↦ ap is_ok w.result-is ∙ sym w.if-set_key.false
    ]
