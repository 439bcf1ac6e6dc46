-- A slot is a pointer with the handle of C's heap, and owns nothing, or what a box of its value owns. A struct that crosses to C has
-- no type parameter, so each slot is a type of its own; what its functions want proved by hand is proved here, of all slots.
--     Slot                       a type that is a slot, with what makes it one: each is a `refl` at a slot that is written out
--     emptied, filled, opened    a function that makes an empty slot, that makes a slot of a box's parts, and that takes a slot apart
--     slot_send                  a slot may go to another thread where its value may
use mathlib.Core.Bool.{true≢false}
use mathlib.Core.Path.{◌≡◌, refl, sym, subst, ap, ◌∙◌}
use mathlib.Core.List.{List, [], ◌∷◌, ◌++◌}
use lib.Dec.{lit<}
use seplogic.Ra.Ura.{Ura}
use mir.Syntax.{Sym, Ty, Fn, Callee, w64, ty_struct, ty_ptr, tnil, tcons, local, value_local, impl, dnil}
use mir.Syntax.{field, place, copy, int, assign, aggregate, rv_opd, seq, return}
use mir.Raw.{raw as bare}
use mir.Val.{Val, vstruct, vcons, vnil, has_ty}
use base.Logic.{SProp, ent, emp, id⊢, sep, via, fst∗, snd∗}
use base.Fml.{Fml, ftrue, fsep}
use base.Shift.{Keyless}
use prog.Model.{Model}
use prog.Wp.{WpFn, Closed}
use types.Logic.{Logic, sem}
use contract.Monad.{fact, fact_use}
use contract.Running.{Running, MachineTables, tables}
use types.Kit.{Item, ‵, raw, ◌⊛◌, ◌$◌, ◌∵◌, !, qed, by, move, drop, use1, join, split, fsplit, fjoin, suffices, done, feq_i, fpack}
use types.Part.{whole, sub, agg}
use types.Run.{stop, fld, lit, no_more, and_then, of_opd, returns, enter}
use types.ByLocal.{alloc_all, pass_all, free_all, look_at, get, get_in, sets}
use denote.Builtin.{RawPtr}
use denote.Exit.{Last, left, yes}
use denote.Memory.{lone}
use denote.Param.Laws.{Laws}
use denote.Param.Send.{IsSend, AllSend, owning_send, struct_send}
use denote.RattleType.{RattleType, Valss}
use denote.RawPtr.{Ptr, null_ptr, ptr_val}
use denote.Signature.{plain}
use denote.Steps.{nothing}
use denote.Struct.Field.{rows}
use denote.Struct.Owning.{Codes, owning as owns, row as owner, shape, fields, to}
use denote.Struct.Record.{Record}
use denote.Struct.Struct.{Struct, within, exits_of}
use denote.Triple.Clauses.{Ended, Clauses, closing}
use denote.Triple.Spec.{Meets}
use denote.Triple.Walked.{says, Stays, stay_dropped, walk_of, ends_at, Goes-dropped}
use Rattle.std.specs.Prelude.{Option, Some, None, IsSome}
use Rattle.std.specs.Global.{Global}
use Rattle.std.proofs.Crossing.{frees}
use Rattle.std.proofs.raw_atomic.Walks.{proved_at}
use Rattle.core.proofs.alloc.Calls.{handle_tells, α}
use Rattle.std_alloc.proofs.BoxSteps.Form.{Bx, D, P, B, owning, word, box_typed}
use Rattle.std_alloc.proofs.BoxSteps.Steps.{box_out, box_in}
use Rattle.std_alloc.proofs.ResultValues.{and_tt}
use Rattle.std_alloc.proofs.SendSync.{lies, quiet}
use Rattle.std_heap.specs.contracts.Global as Heap
use Rattle.std_heap.specs.contracts.GlobalAllocator.TheImpl.{ghosts, dict}
use Rattle.std_heap.proofs.Global.TheLaws as heap
use Rattle.box_parts.specs.Slot.{slot_owns}
use Rattle.box_parts.specs.contracts.parts.Parts as Parts

-- ---- boxes of C's heap, and their parts
abbrev pub on_heap : (T : RattleType) → Laws T → Bx
on_heap T laws = record {
  row = T;
  laws = laws;
  al = record { row = Heap.the_row; laws = heap.the_row_laws; g = ghosts; d = dict; drops = impl [] tnil dnil };
}

abbrev pub parts : RattleType → RattleType
parts T = Parts.the_row T Heap.the_row ghosts

abbrev pub parts_name : RattleType → Sym
parts_name T = (Parts.the_type T Heap.the_row ghosts).name

-- of a value that is used up, a contract says nothing at exit
pub record Mute (T : RattleType) : Type 1 where
  pub last : (x : T.Denot) → Last (T.exit yes) x
  pub silent : (x : T.Denot) (f : Last (T.exit yes) x) → left (T.exit yes) x f ≡ ftrue

-- ---- a function of one parameter, which it uses up
module _ (From To : RattleType) where
  abbrev pub using : Ended
  using = record {
    signature = record { lifetimes = 0; outlives = []; params = plain (λ κs. From) ∷ []; result = plain (λ κs. To) };
    kept = (yes, tt);
  }

  abbrev stayed : Stays (using.signature).params using.kept
  stayed = (stay_dropped (plain (λ κs. From)) yes, tt)

  module _ {M : Type 1} {𝓤 : Ura M} (𝓛 : Logic 𝓤) (asks : From.Denot → SProp 𝓤) (Tells : From.Denot → To.Denot → Type 0) where
    open 𝓛 use {H}

    abbrev pub asked : Clauses 𝓤 using
    asked = λ κs a. record { ghost = Unit {0}; requires = λ g. asks a.0; ensures = λ g r end. fact 𝓤 (Tells a.0 r) }

    module _ (𝓜 : Model 𝓤 H) (𝓡 : Running 𝓤 H 𝓜) where
      abbrev 𝓢 : MachineTables 𝓤 H 𝓜
      𝓢 = tables 𝓤 H 𝓜 𝓡 𝓡.env

      pub used_up : Mute From → (k : Callee) (e : Fn) → Closed 𝓤 H 𝓢.C 𝓢.Λ k e
          → ((x : From.Denot) (vs : List Val) (Post : Val → SProp 𝓤)
          → ((w : Val) (r : To.Denot) → Tells x r → ent 𝓤 (sem 𝓛 (To.own_val r (w ∷ []))) (Post w))
          → ent 𝓤 (sep 𝓤 (sem 𝓛 (From.own_val x vs)) (asks x)) (WpFn 𝓤 H 𝓢.C 𝓢.Λ e (vs ++ []) Post))
          → Meets 𝓛 using.signature (𝓢.C k) (closing 𝓛 using asked)
      used_up mute k e closed walk =
          proved_at 𝓛 using stayed asked 𝓜 𝓡 (Goes-dropped 𝓛 0 (plain (λ κs. From)) yes (λ κs. mute.silent), tt) k e closed (λ z are.
          qed 𝓛 ((‵ ftrue ⊛ ‵ (fsep (From.own_val z.0.3.0 z.0.4.0) ftrue)) ∷ raw (asks z.0.3.0) ∷ []) ∵ split ! $ drop ! $ fsplit ! $
          move ! (1 ∷ []) $ drop ! $ by ! (walk z.0.3.0 z.0.4.0 ((walk_of 𝓛 using stayed asked).post z) (λ w r told.
          qed 𝓛 (‵ (To.own_val r (w ∷ [])) ∷ []) ∵ suffices ! _ (ends_at 𝓛 using stayed asked z w r (mute.last z.0.3.0, tt) (tt, tt)) $
          says ! told $ nothing ! $ nothing ! $ fjoin ! $ join ! $ nothing ! $ join ! $ done !)))

module _ (E : Bx) where
  -- ---- the two bodies: a pointer and a handle, with no pointer and from the fields of another struct
  abbrev pair : Sym → Ty
  pair name = ty_struct name (tcons ty_ptr (tcons (α E.al) tnil))

  abbrev pub making : Sym → Fn
  making name = record {
    lifetimes = 0;
    outlives = [];
    ty_params = [];
    givens = 0;
    params = 1;
    locals = local (pair name) value_local ∷ local (α E.al) value_local ∷ [];
    body = seq (assign (place 0 []) (aggregate (int w64 0 ∷ copy (place 1 []) ∷ []))) return;
  }

  abbrev pub moving : Sym → Sym → Fn
  moving name other = record {
    lifetimes = 0;
    outlives = [];
    ty_params = [];
    givens = 0;
    params = 1;
    locals = local (pair name) value_local ∷ local (pair other) value_local ∷ local ty_ptr value_local ∷ local (α E.al) value_local
        ∷ local ty_ptr value_local ∷ [];
    body = seq (assign (place 2 []) (rv_opd (copy (place 1 (field 0 ∷ [])))))
        (seq (assign (place 3 []) (rv_opd (copy (place 1 (field 1 ∷ [])))))
        (seq (assign (place 4 []) (rv_opd (copy (place 2 []))))
        (seq (assign (place 0 []) (aggregate (copy (place 4 []) ∷ copy (place 3 []) ∷ []))) return)));
  }

  -- what the fields of an empty slot own
  abbrev pub bare_slot : E.al.row.Denot → List Val → Fml
  bare_slot a vs = fsep ((Struct (shape (owning E))).own_val (null_ptr, (a, tt)) vs) ftrue

  module _ {M : Type 1} {𝓤 : Ura M} (𝓛 : Logic 𝓤) (𝓜 : Model 𝓤 𝓛.H) (𝓡 : Running 𝓤 𝓛.H 𝓜) where
    open 𝓛 use {H}

    abbrev 𝓣 : MachineTables 𝓤 H 𝓜
    𝓣 = tables 𝓤 H 𝓜 𝓡 𝓡.env

    made : (name : Sym) (a : E.al.row.Denot) (vs : List Val) (Post : Val → SProp 𝓤)
        → ((w : Val) → ent 𝓤 (sem 𝓛 (bare_slot a (w ∷ []))) (Post w))
        → ent 𝓤 (sem 𝓛 (E.al.row.own_val a vs)) (WpFn 𝓤 H 𝓣.C 𝓣.Λ (making name) (vs ++ []) Post)
    made name a vs Post k =
        qed 𝓛 (‵ (E.al.row.own_val a vs) ∷ []) ∵ handle_tells E.al ! a vs (λ hv ws fa.
        let p : Val = ptr_val null_ptr in let w : Val = vstruct (vcons p (vcons hv vnil)) in
        nothing ! $ nothing ! $ move ! (2 ∷ 0 ∷ []) $ fjoin ! $ feq_i ! (List Val) (p ∷ []) (p ∷ []) refl $ fjoin ! $ feq_i ! (List Val)
        (w ∷ []) (w ∷ []) refl $ fjoin ! $
        fpack ! (Valss (RawPtr ∷ P E ∷ [])) (within (shape (owning E)) (null_ptr, (a, tt)) (w ∷ [])) (p ∷ [], (hv ∷ [], tt)) $ fjoin ! $
        use1 𝓛 (‵ (bare_slot a (w ∷ []))) (id⊢ 𝓤 _) $
        let Γ : List (Item 𝓤) = ‵ (bare_slot a (w ∷ [])) ∷ [] in
        by ! (subst (λ (us : List Val). ent 𝓤 (types.Kit.⋆ 𝓛 Γ) (WpFn 𝓤 H 𝓣.C 𝓣.Λ (making name) (us ++ []) Post)) (sym ws)
        (qed 𝓛 Γ ∵ enter ! 𝓣.C 𝓣.Λ (making name) (hv ∷ []) _ $ alloc_all ! (λ ls. pass_all ! refl (fa, tt) $
        sets ! (agg ! (and_then ! (lit ! tt) (and_then ! (get ! refl) (no_more !)))) refl (
          and_tt (has_ty (α E.al) hv) fa.0,
          (record { fits = lit< tt }, (fa.1, tt)),
        ) $ returns ! (look_at ! 0 refl) $ free_all ! refl $ by ! (k w)))))

    moved : (name other : Sym) (v : D E) (vs : List Val) (Post : Val → SProp 𝓤)
        → ((w : Val) → ent 𝓤 (sem 𝓛 ((B E).own_val v (w ∷ []))) (Post w))
        → ent 𝓤 (sem 𝓛 ((B E).own_val v vs)) (WpFn 𝓤 H 𝓣.C 𝓣.Λ (moving name other) (vs ++ []) Post)
    moved name other v vs Post k =
        qed 𝓛 (‵ ((B E).own_val v vs) ∷ []) ∵
        box_out E ! v vs (λ b o hv e ws fa. box_in E ! v b o v.value e refl $
        let w = word E hv b o in
        let Γ : List (Item 𝓤) = ‵ ((B E).own_val v (w ∷ [])) ∷ [] in
        by ! (subst (λ (us : List Val). ent 𝓤 (types.Kit.⋆ 𝓛 Γ) (WpFn 𝓤 H 𝓣.C 𝓣.Λ (moving name other) (us ++ []) Post)) (sym ws)
        (qed 𝓛 Γ ∵ enter ! 𝓣.C 𝓣.Λ (moving name other) (w ∷ []) _ $ alloc_all ! (λ ls. pass_all ! refl (box_typed E hv b o fa, tt) $
        sets ! (of_opd ! (get_in ! (fld ! refl (stop !)) (sub ! 0 refl (whole !)))) refl (tt, tt) $ sets !
        (of_opd ! (get_in ! (fld ! refl (stop !)) (sub ! 1 refl (whole !)))) refl fa $
        sets ! (of_opd ! (get ! refl)) refl (tt, tt) $ sets ! (agg ! (and_then ! (get ! refl) (and_then ! (get ! refl) (no_more !)))) refl
        (box_typed E hv b o fa) $ returns ! (look_at ! 0 refl) $ free_all ! refl $ by ! (k w)))))

-- ---- a type that is a slot
--     value, laws            the type of what it holds
--     row, name              the slot's type, and the name of the struct in the code
--     make; ptr, alloc, held     a slot of its fields, which are those of the slot that was made; `again`: it has no others
--     bare, full             what it owns where it holds nothing, and where it holds a value: what a box does
--     apart                  what the parts of a box own
pub record Slot : Type 2 where
  pub value : RattleType
  pub laws : Laws value
  pub row : RattleType
  pub name : Sym
  pub make : Ptr → Global → Option value.Denot → row.Denot
  pub ptr : row.Denot → Ptr
  pub alloc : row.Denot → Global
  pub held : row.Denot → Option value.Denot
  pub holds : (p : Ptr) (a : Global) (h : Option value.Denot) → held (make p a h) ≡ h
  pub again : (d : row.Denot) → make (ptr d) (alloc d) (held d) ≡ d
  pub bare : (a : Global) (vs : List Val) → bare_slot (on_heap value laws) a vs ≡ row.own_val (make null_ptr a None) vs
  pub full : (v : D (on_heap value laws)) (vs : List Val)
      → (B (on_heap value laws)).own_val v vs ≡ row.own_val (make v.ptr v.alloc (Some v.value)) vs
  pub apart : (v : D (on_heap value laws)) (vs : List Val)
      → (B (on_heap value laws)).own_val v vs ≡ (parts value).own_val (record { ptr = v.ptr; alloc = v.alloc; value = v.value }) vs
  pub mute : Mute row

mute_handle : Mute Heap.the_row
mute_handle = record { last = λ x. tt; silent = λ x f. refl }

mute_parts : (T : RattleType) → Mute (parts T)
mute_parts T = record { last = λ x. tt; silent = λ x f. refl }

module _ (S : Slot) {M : Type 1} {𝓤 : Ura M} (𝓛 : Logic 𝓤) (𝓜 : Model 𝓤 𝓛.H) (𝓡 : Running 𝓤 𝓛.H 𝓜) where
  open 𝓛 use {H}

  abbrev 𝓥 : MachineTables 𝓤 H 𝓜
  𝓥 = tables 𝓤 H 𝓜 𝓡 𝓡.env

  abbrev E : Bx
  E = on_heap S.value S.laws

  abbrev From : RattleType
  From = parts S.value

  -- what is owned is the same, by an equality of formulas
  as_is : {F G : Fml} → F ≡ G → ent 𝓤 (sem 𝓛 F) (sem 𝓛 G)
  as_is {F} e = subst (λ (G : Fml). ent 𝓤 (sem 𝓛 F) (sem 𝓛 G)) e (id⊢ 𝓤 (sem 𝓛 F))

  -- ---- an empty slot is made
  abbrev Empties : Global → S.row.Denot → Type 0
  Empties a r = S.held r ≡ None

  pub emptied : (k : Callee) → Closed 𝓤 H 𝓥.C 𝓥.Λ k (making E S.name)
      → Meets 𝓛 (using Heap.the_row S.row).signature (𝓥.C k)
      (closing 𝓛 (using Heap.the_row S.row) (asked Heap.the_row S.row 𝓛 (λ a. emp 𝓤) Empties))
  emptied k closed =
      used_up Heap.the_row S.row 𝓛 (λ a. emp 𝓤) Empties 𝓜 𝓡 mute_handle k (making E S.name) closed (λ a vs Post on.
      let Owned = sem 𝓛 ((Heap.the_row).own_val a vs) in let r = S.make null_ptr a None in
      via 𝓤 Owned (fst∗ 𝓤 Owned (emp 𝓤)) (made E 𝓛 𝓜 𝓡 S.name a vs Post (λ w.
      via 𝓤 (sem 𝓛 (S.row.own_val r (w ∷ []))) (as_is (S.bare a (w ∷ []))) (on w r (S.holds null_ptr a None)))))

  -- ---- a slot is made of a box's parts
  abbrev Fills : From.Denot → S.row.Denot → Type 0
  Fills p r = S.held r ≡ Some p.value

  pub filled : (k : Callee) → Closed 𝓤 H 𝓥.C 𝓥.Λ k (moving E S.name (parts_name S.value))
      → Meets 𝓛 (using From S.row).signature (𝓥.C k) (closing 𝓛 (using From S.row) (asked From S.row 𝓛 (λ p. emp 𝓤) Fills))
  filled k closed =
      used_up From S.row 𝓛 (λ p. emp 𝓤) Fills 𝓜 𝓡 (mute_parts S.value) k (moving E S.name (parts_name S.value)) closed (λ p vs Post on.
      let v : D E = record { ptr = p.ptr; alloc = p.alloc; value = p.value } in let r = S.make v.ptr v.alloc (Some v.value) in
      let Owned = sem 𝓛 (From.own_val p vs) in
      via 𝓤 Owned (fst∗ 𝓤 Owned (emp 𝓤)) (via 𝓤 (sem 𝓛 ((B E).own_val v vs)) (as_is (sym (S.apart v vs)))
      (moved E 𝓛 𝓜 𝓡 S.name (parts_name S.value) v vs Post (λ w.
      via 𝓤 (sem 𝓛 (S.row.own_val r (w ∷ []))) (as_is (S.full v (w ∷ []))) (on w r (S.holds v.ptr v.alloc (Some v.value)))))))

  -- ---- a slot that holds a value is taken apart
  abbrev Opens : S.row.Denot → From.Denot → Type 0
  Opens d r = Some r.value ≡ S.held d

  each : (d : S.row.Denot) (vs : List Val) (Post : Val → SProp 𝓤)
      → ((w : Val) (r : From.Denot) → Opens d r → ent 𝓤 (sem 𝓛 (From.own_val r (w ∷ []))) (Post w))
      → (x : Option S.value.Denot) → IsSome x → S.held d ≡ x
      → ent 𝓤 (sem 𝓛 (S.row.own_val d vs)) (WpFn 𝓤 H 𝓥.C 𝓥.Λ (moving E (parts_name S.value) S.name) (vs ++ []) Post)
  each d vs Post on None is e = absurd (true≢false (sym is))
  each d vs Post on (Some m) is e =
      let v : D E = record { ptr = S.ptr d; alloc = S.alloc d; value = m } in
      let r : From.Denot = record { ptr = v.ptr; alloc = v.alloc; value = m } in
      via 𝓤 (sem 𝓛 ((B E).own_val v vs)) (as_is (ap (λ (x : S.row.Denot). S.row.own_val x vs) (sym (S.again d))
      ∙ ap (λ (h : Option S.value.Denot). S.row.own_val (S.make v.ptr v.alloc h) vs) e ∙ sym (S.full v vs)))
      (moved E 𝓛 𝓜 𝓡 (parts_name S.value) S.name v vs Post (λ w.
      via 𝓤 (sem 𝓛 (From.own_val r (w ∷ []))) (as_is (S.apart v (w ∷ []))) (on w r (sym e))))

  pub opened : (k : Callee) → Closed 𝓤 H 𝓥.C 𝓥.Λ k (moving E (parts_name S.value) S.name)
      → Meets 𝓛 (using S.row From).signature (𝓥.C k)
      (closing 𝓛 (using S.row From) (asked S.row From 𝓛 (λ d. fact 𝓤 (IsSome (S.held d))) Opens))
  opened k closed =
      let Is : S.row.Denot → SProp 𝓤 = λ d. fact 𝓤 (IsSome (S.held d)) in
      used_up S.row From 𝓛 Is Opens 𝓜 𝓡 S.mute k (moving E (parts_name S.value) S.name) closed (λ d vs Post on.
      let Owned = sem 𝓛 (S.row.own_val d vs) in
      fact_use 𝓤 (IsSome (S.held d)) (snd∗ 𝓤 Owned (Is d)) (λ is. via 𝓤 Owned (fst∗ 𝓤 Owned (Is d)) (each d vs Post on (S.held d) is refl)))

-- ---- a slot may go to another thread
keyless : (T : RattleType) → IsSend T → (a : Global) (p : Ptr) (x : Option T.Denot) → Keyless (slot_owns T a p x)
keyless T s a p None = tt
keyless T s a p (Some x) = (lies T s p x, frees.frees a (bare (lone T.mir)) p)

pub slot_send : (N : Record) (codes : Codes N) (T : RattleType) → IsSend T
    → AllSend (rows N.parts) → (alloc : N.D → Global) (ptr : N.D → Ptr) (held : N.D → Option T.Denot)
    → IsSend (owner (owns N codes (λ d. slot_owns T (alloc d) (ptr d) (held d))))
slot_send N codes T s all alloc ptr held =
    let O = owns N codes (λ d. slot_owns T (alloc d) (ptr d) (held d)) in
    owning_send O all (λ d. keyless T s (alloc d) (ptr d) (held d))
    (λ k. quiet (to O) (exits_of k (fields O)) ((struct_send (shape O) all).leaving k))
