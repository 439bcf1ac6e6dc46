-- The block `TracerWatcher` meets its trait.
-- It is the proof that Rattle makes where a method is lent no array of a type parameter. A channel's drives stand in one: so the trait's
-- method asks that a channel's size fits memory, and hands that on to this one, which asks the same (`fits`).
use Prim.Native.Nat
use Rattle.s360_channel.specs.contracts.channel.Channel
use Rattle.trace_lines.proofs.tracer.Tracer.TheLaws
use Rattle.trace_lines.proofs.tracer.TracerWatcher.TheImpl.Statement
use Rattle.trace_lines.proofs.tracer.TracerWatcher.look.Met
use Rattle.trace_lines.proofs.tracer.TracerWatcher.look.Symbol
use Rattle.trace_lines.specs.contracts.tracer.Tracer
use Rattle.trace_lines.specs.contracts.tracer.TracerWatcher.TheImpl
use Rattle.trace_lines.specs.contracts.tracer.TracerWatcher.look
use Rattle.s360_trace.specs.contracts.watching.Watcher.look as look'
use base.Logic
use contract.BorrowLft
use contract.Monad
use contract.Running
use denote.Param
use denote.Triple.End
use denote.Triple.Impl
use denote.Triple.Spec
use denote.Triple.Table
use mathlib.Core.Bool
use mathlib.Core.List
use mathlib.Core.Path as Path'
use mir.Syntax
use prog.Memory

pub bound : Statement.statement
bound = λ γ'' x x' x'' W-Write W-Write-dict W-Destruct-dict M 𝓤 𝓛 𝓜 𝓡 x'3 x'4. record {
  look = λ x'5 x'6 S-ImageStore S-ImageStore-dict S-Destruct-dict x'7 x'8.
      let fits = Logic.sep 𝓤 (Monad.fact 𝓤 (Nat.◌<◌ (Memory.size (Param.layout (Channel.the_row (Param.param 1 x'5) S-ImageStore)))
      (Nat.◌^◌ 2 63))) (Logic.emp 𝓤) in
      Impl.implements
      𝓛
      (look.signature
      x'
      x'5
      W-Write
      W-Write-dict
      W-Destruct-dict
      S-ImageStore
      S-ImageStore-dict
      S-Destruct-dict)
      5
      (look'.ended
      (Tracer.the_row (Param.param 0 x'))
      x'5
      (TheImpl.ghosts x' W-Write W-Write-dict W-Destruct-dict)
      (TheImpl.dict x' W-Write W-Write-dict W-Destruct-dict)
      S-ImageStore
      S-ImageStore-dict
      S-Destruct-dict).signature.outlives
      (λ τs. (τs.0, (τs.1.0, (τs.1.1.0, (τs.1.1.1.0, (τs.1.1.1.1.0, tt))))))
      (𝓡.run
      (γ''
      (Syntax.method
      (TheImpl.dict x' W-Write W-Write-dict W-Destruct-dict)
      0
      (Param.bounded
      (List.◌∷◌ Syntax.a_type List.[])
      (x'5, tt)
      (Syntax.dcons S-ImageStore-dict (Syntax.dcons S-Destruct-dict Syntax.dnil))))))
      (Table.run_framed
      𝓤
      𝓛.H
      𝓜
      𝓡
      (γ''
      (Syntax.method
      (TheImpl.dict x' W-Write W-Write-dict W-Destruct-dict)
      0
      (Param.bounded
      (List.◌∷◌ Syntax.a_type List.[])
      (x'5, tt)
      (Syntax.dcons S-ImageStore-dict (Syntax.dcons S-Destruct-dict Syntax.dnil))))))
      (look.spec
      x'
      x'5
      W-Write
      W-Write-dict
      W-Destruct-dict
      S-ImageStore
      S-ImageStore-dict
      S-Destruct-dict
      𝓛
      𝓜.mem
      𝓡.returns)
      (λ τs a. record {
        ghost = (look'.spec
            (Tracer.the_row (Param.param 0 x'))
            x'5
            (TheImpl.ghosts x' W-Write W-Write-dict W-Destruct-dict)
            (TheImpl.dict x' W-Write W-Write-dict W-Destruct-dict)
            S-ImageStore
            S-ImageStore-dict
            S-Destruct-dict
            𝓛
            𝓜.mem
            𝓡.returns
            τs
            a).ghost;
        requires = λ y. (look'.spec
            (Tracer.the_row (Param.param 0 x'))
            x'5
            (TheImpl.ghosts x' W-Write W-Write-dict W-Destruct-dict)
            (TheImpl.dict x' W-Write W-Write-dict W-Destruct-dict)
            S-ImageStore
            S-ImageStore-dict
            S-Destruct-dict
            𝓛
            𝓜.mem
            𝓡.returns
            τs
            a).requires
            y;
        ensures = (look'.spec
            (Tracer.the_row (Param.param 0 x'))
            x'5
            (TheImpl.ghosts x' W-Write W-Write-dict W-Destruct-dict)
            (TheImpl.dict x' W-Write W-Write-dict W-Destruct-dict)
            S-ImageStore
            S-ImageStore-dict
            S-Destruct-dict
            𝓛
            𝓜.mem
            𝓡.returns
            τs
            a).ensures;
      })
      2
      (λ τs. (τs.1.1.1.0, (τs.1.1.1.1.0, tt)))
      (λ τs. ((Tracer.the_row (Param.param 0 x')).lives, (x'5.lives, tt)))
      ((0, tt), ((1, tt), ((2, tt), ((3, tt), ((4, tt), tt)))))
      (λ τs a y. fits)
      (λ τs a y. Logic.id⊢
      𝓤
      ((look'.spec
      (Tracer.the_row (Param.param 0 x'))
      x'5
      (TheImpl.ghosts x' W-Write W-Write-dict W-Destruct-dict)
      (TheImpl.dict x' W-Write W-Write-dict W-Destruct-dict)
      S-ImageStore
      S-ImageStore-dict
      S-Destruct-dict
      𝓛
      𝓜.mem
      𝓡.returns
      τs
      a).requires
      y))
      (λ τs h. (
        (
          BorrowLft.⊑_refl τs.0,
          (
            BorrowLft.⊑_refl τs.1.0,
            (
              BorrowLft.⊑_refl τs.1.1.0,
              (BorrowLft.⊑_refl τs.1.1.1.0, (BorrowLft.⊑_refl τs.1.1.1.1.0, tt)),
            ),
          ),
        ),
        (
          BorrowLft.⊑_trans τs.0 τs.0 τs.1.1.1.0 (BorrowLft.⊑_refl τs.0) h.0.0,
          (
            BorrowLft.⊑_trans τs.1.1.0 τs.1.1.0 τs.1.1.1.1.0 (BorrowLft.⊑_refl τs.1.1.0) h.0.1.0,
            tt,
          ),
        ),
      ))
      (λ τs a y. y)
      (λ τs h a y. Impl.insides_in 𝓤 2 (τs.1.1.1.0, (τs.1.1.1.1.0, tt)) (
        x'.lives,
        (x'5.lives, tt),
      ) fits (
        BorrowLft.⊑_trans
            τs.1.1.1.0
            (Tracer.the_row (Param.param 0 x')).lives
            x'.lives
            h.1.0
            let κ = (Tracer.the_row (Param.param 0 x')).lives in
            (TheLaws.the_holds (Param.param 0 x') κ (BorrowLft.⊑_refl κ)).0,
        (
          BorrowLft.⊑_trans τs.1.1.1.1.0 x'5.lives x'5.lives h.1.1.0 (BorrowLft.⊑_refl x'5.lives),
          tt,
        ),
      ))
      (λ τs a y r. Impl.hidden 5 (
        τs.0,
        (τs.1.0, (τs.1.1.0, (τs.1.1.1.0, (τs.1.1.1.1.0, tt)))),
      )
      𝓛
      (look.signature
      x'
      x'5
      W-Write
      W-Write-dict
      W-Destruct-dict
      S-ImageStore
      S-ImageStore-dict
      S-Destruct-dict).params
      (look.ended
      x'
      x'5
      W-Write
      W-Write-dict
      W-Destruct-dict
      S-ImageStore
      S-ImageStore-dict
      S-Destruct-dict).kept
      (Bool.true, (Bool.true, (Bool.true, tt)))
      a
      (λ ws. (look.clauses
      x'
      x'5
      W-Write
      W-Write-dict
      W-Destruct-dict
      S-ImageStore
      S-ImageStore-dict
      S-Destruct-dict
      𝓛
      𝓜.mem
      𝓡.returns
      (τs.0, (τs.1.0, (τs.1.1.0, (τs.1.1.1.0, (τs.1.1.1.1.0, tt)))))
      a).ensures
      y
      r
      (End.outs {n = 5}
      (τs.0, (τs.1.0, (τs.1.1.0, (τs.1.1.1.0, (τs.1.1.1.1.0, tt)))))
      (look.ended
      x'
      x'5
      W-Write
      W-Write-dict
      W-Destruct-dict
      S-ImageStore
      S-ImageStore-dict
      S-Destruct-dict).signature.params
      (look.ended
      x'
      x'5
      W-Write
      W-Write-dict
      W-Destruct-dict
      S-ImageStore
      S-ImageStore-dict
      S-Destruct-dict).kept
      a
      ws))
      (λ ws. (look'.clauses
      (Tracer.the_row (Param.param 0 x'))
      x'5
      (TheImpl.ghosts x' W-Write W-Write-dict W-Destruct-dict)
      (TheImpl.dict x' W-Write W-Write-dict W-Destruct-dict)
      S-ImageStore
      S-ImageStore-dict
      S-Destruct-dict
      𝓛
      𝓜.mem
      𝓡.returns
      τs
      a).ensures
      y
      r
      (End.outs {n = 5}
      τs
      (look'.ended
      (Tracer.the_row (Param.param 0 x'))
      x'5
      (TheImpl.ghosts x' W-Write W-Write-dict W-Destruct-dict)
      (TheImpl.dict x' W-Write W-Write-dict W-Destruct-dict)
      S-ImageStore
      S-ImageStore-dict
      S-Destruct-dict).signature.params
      (look'.ended
      (Tracer.the_row (Param.param 0 x'))
      x'5
      (TheImpl.ghosts x' W-Write W-Write-dict W-Destruct-dict)
      (TheImpl.dict x' W-Write W-Write-dict W-Destruct-dict)
      S-ImageStore
      S-ImageStore-dict
      S-Destruct-dict).kept
      a
      ws))
      λ x. Logic.id⊢
      𝓤
      _)
      (Table.widened
      𝓤
      𝓛.H
      (Spec.triple_of
      𝓛
      (look.signature
      x'
      x'5
      W-Write
      W-Write-dict
      W-Destruct-dict
      S-ImageStore
      S-ImageStore-dict
      S-Destruct-dict)
      (look.spec
      x'
      x'5
      W-Write
      W-Write-dict
      W-Destruct-dict
      S-ImageStore
      S-ImageStore-dict
      S-Destruct-dict
      𝓛
      𝓜.mem
      𝓡.returns))
      𝓜
      𝓡
      γ''
      (γ'' (Symbol.name (Param.bounded (List.◌∷◌ Syntax.a_type (List.◌∷◌ Syntax.a_type List.[])) (
        x',
        (x'5, tt),
      )
      (Syntax.dcons
      W-Write-dict
      (Syntax.dcons
      W-Destruct-dict
      (Syntax.dcons S-ImageStore-dict (Syntax.dcons S-Destruct-dict Syntax.dnil)))))))
      (γ''
      (Syntax.method
      (TheImpl.dict x' W-Write W-Write-dict W-Destruct-dict)
      0
      (Param.bounded
      (List.◌∷◌ Syntax.a_type List.[])
      (x'5, tt)
      (Syntax.dcons S-ImageStore-dict (Syntax.dcons S-Destruct-dict Syntax.dnil)))))
      (Symbol.as_method
      γ''
      x
      (Syntax.method
      (TheImpl.dict x' W-Write W-Write-dict W-Destruct-dict)
      0
      (Param.bounded
      (List.◌∷◌ Syntax.a_type List.[])
      (x'5, tt)
      (Syntax.dcons S-ImageStore-dict (Syntax.dcons S-Destruct-dict Syntax.dnil))))
      Path'.refl)
      (Met.met
      𝓤
      𝓛
      𝓜
      (Running.within 𝓤 𝓛.H 𝓜 𝓡 γ'')
      x
      x'
      x'5
      x''
      x'6
      W-Write
      W-Write-dict
      W-Destruct-dict
      S-ImageStore
      S-ImageStore-dict
      S-Destruct-dict
      x'3
      x'4
      x'7
      x'8));
}
