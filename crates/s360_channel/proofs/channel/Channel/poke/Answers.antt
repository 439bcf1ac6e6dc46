use Rattle.std.proofs.Common.{◌≡◌, refl, sym, ap, ◌∙◌, is_ok}
use Rattle.s360_words.specs.Storage.{Bytes}
use Rattle.s360_laws.specs.Events.{Store}
use Rattle.s360_channel.specs.Selector.{over}
use Rattle.s360_channel.proofs.Kept.{does_kept, kept_size}
use Rattle.s360_channel.proofs.channel.Channel.poke.Goals as goal
use Rattle.s360_channel.proofs.channel.Channel.poke.Goals.{then-put, else-put}

pub invariant_of-self : goal.invariant_of-self
invariant_of-self g c = kept_size (Bytes c.args.at c.args.bytes.now) c.self.inside.storage c.put.new.self c.put.result c.put.ensures.change
    ∙ c.self.invariant

pub returns-clause-does : goal.returns-clause-does
returns-clause-does g c m h =
    does_kept (Store c.args.at c.args.bytes.now) (Bytes c.args.at c.args.bytes.now) (λ m. refl)
    (over c.self.inside.selector c.self.inside.storage) c.put.new.self c.put.result (is_ok c.if-put.result) c.put.ensures.answer
    c.put.ensures.change told m (rw (← c.self.view_is) at h)
  where
    told : is_ok c.if-put.result ≡ c.put.result
    told = elim c.if-put.branch [
      | then-put w ↦ ap is_ok w.result-is ∙ sym w.if-put.true
      | else-put w ↦ ap is_ok w.result-is ∙ sym w.if-put.false
    ]
