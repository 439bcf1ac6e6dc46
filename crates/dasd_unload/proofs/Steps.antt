-- Steps that were done one after another.
use Rattle.std.proofs.Common.{arith, ◌≡◌, ◌∙◌, inl, inr, refl, sym, ap, subst, ℕ, ◌+◌, ◌<◌, ◌≤◌, List, [], ◌∷◌, ◌++◌, map, length, drop}
use Rattle.std.proofs.Common.{get_or, Some, Result, Ok, Err, OnOk, append_assoc, append-nil}
use Rattle.std.specs.List.{flat_map, fold}
use Rattle.std.proofs.lemmas.List.{map-append, drop_more, drop_all}
use Rattle.std.proofs.lemmas.List.Concat.{flat_map-append}
use Rattle.std.proofs.lemmas.List.Sums.{fold-append}
use Rattle.counted_io.specs.Streams.{Stream, Takes, TakesFront, NoneFailed, OneFailed}
use Rattle.counted_io.proofs.Written.{takes_nothing, takes_more}
use Rattle.dasd_volumes.specs.Reading.{KnownVolume}
use Rattle.dasd_volumes.proofs.Fronts.{begins_with_all, front_of, front_behind}
use Rattle.dasd_jobs.specs.declared.faults.JobFault.TheVariants as job
use Rattle.dasd_jobs.specs.Written.{Replaced}
use Rattle.dasd_unload.specs.declared.fault.UnloadFault.{UnloadFault}
use Rattle.dasd_unload.specs.declared.fault.UnloadFault.TheVariants.{Job}
use Rattle.dasd_unload.specs.declared.report.Tally.{Tally}
use Rattle.dasd_unload.specs.Unloads.{Outcome, outcome}
use Rattle.dasd_unload.specs.Told.{TellsText, WhyNotTold}
use Rattle.dasd_unload.specs.Volumes.{Plan, Unloading, unloading, Step, Done, files_of, text_of, counted_of, DoesUpTo, DoesSome}
use Rattle.dasd_unload.specs.Volumes.{DoesOrStops, CountsReport, DoesOfVolume}

module _ (u : Unloading) (steps : List Step) where
  -- none was done
  none : (a : Outcome) (t : Tally) → DoesUpTo steps u steps a a t t
  none a t = record { done = []; in_order = refl; written = sym (append-nil a.written); printed = takes_nothing a.printed; counted = refl }

  -- some were done, and then others
  both : (left more rest : List Step) (a b c : Outcome) (s t w : Tally)
      → DoesUpTo (more ++ rest) u steps a b s t → DoesUpTo left u more b c t w → DoesUpTo (left ++ rest) u steps a c s w
  both left more rest a b c s t w first next = let step = λ (d : Done). d.step in record {
    done = first.done ++ next.done;
    in_order = ap (λ (l : List Step). l ++ (left ++ rest)) (map-append step first.done next.done)
        ∙ append_assoc (map step first.done) (map step next.done) (left ++ rest)
        ∙ ap (λ (l : List Step). map step first.done ++ l) (sym (append_assoc (map step next.done) left rest)
        ∙ ap (λ (l : List Step). l ++ rest) next.in_order) ∙ first.in_order;
    written = next.written ∙ ap (λ (l : List Replaced). l ++ flat_map (files_of u) next.done) first.written
        ∙ append_assoc a.written (flat_map (files_of u) first.done) (flat_map (files_of u) next.done)
        ∙ ap (λ (l : List Replaced). a.written ++ l) (sym (flat_map-append (files_of u) first.done next.done));
    printed = subst (Takes a.printed c.printed) (sym (flat_map-append (text_of u) first.done next.done))
        (takes_more a.printed b.printed c.printed _ _ first.printed next.printed);
    counted = next.counted ∙ ap (λ (n : Tally). fold (counted_of u) n next.done) first.counted
        ∙ sym (fold-append (counted_of u) s first.done next.done);
  }

module _ (f : UnloadFault) (u : Unloading) (steps : List Step) where
  -- a fault, behind some of them
  stops : (rest : List Step) (a b : Outcome) (s t : Tally) → DoesUpTo rest u steps a b s t → DoesSome f u steps a b
  stops rest a b s t d = record {
    done = d.done;
    rest = rest;
    in_order = d.in_order;
    written = d.written;
    printed = record { front = front_of a.printed b.printed _ _ (begins_with_all _) d.printed; whole = λ e n. d.printed };
  }

  -- a fault behind some of the steps that were left
  stops_behind : (more rest : List Step) (a b c : Outcome) (s t : Tally) → NoneFailed a.printed b.printed
      → DoesUpTo (more ++ rest) u steps a b s t → DoesSome f u more b c → DoesSome f u steps a c
  stops_behind more rest a b c s t failed first next =
      let step = λ (d : Done). d.step in
      let text = sym (flat_map-append (text_of u) first.done next.done) in record {
        done = first.done ++ next.done;
        rest = next.rest ++ rest;
        in_order = ap (λ (l : List Step). l ++ (next.rest ++ rest)) (map-append step first.done next.done)
            ∙ append_assoc (map step first.done) (map step next.done) (next.rest ++ rest)
            ∙ ap (λ (l : List Step). map step first.done ++ l) (sym (append_assoc (map step next.done) next.rest rest)
            ∙ ap (λ (l : List Step). l ++ rest) next.in_order) ∙ first.in_order;
        written = next.written ∙ ap (λ (l : List Replaced). l ++ flat_map (files_of u) next.done) first.written
            ∙ append_assoc a.written (flat_map (files_of u) first.done) (flat_map (files_of u) next.done)
            ∙ ap (λ (l : List Replaced). a.written ++ l) (sym (flat_map-append (files_of u) first.done next.done));
        printed = record {
          front = subst (TakesFront a.printed c.printed) text (front_behind a.printed b.printed c.printed _ _ first.printed
              next.printed.front);
          whole = λ e n. subst (Takes a.printed c.printed) text (takes_more a.printed b.printed c.printed _ _ first.printed
              (next.printed.whole e (n ∙ sym failed)));
        };
      }

-- a line was not printed since there was no memory for it, or since a write failed: then one did
not_none : (a b : Stream) → NoneFailed a b → OneFailed a b → ⊥
not_none a b none one = omega (arith, none, one)

whole_or_failed : (f : UnloadFault) (a b : Stream) (text : List ℕ) → WhyNotTold f a b → f ≡ Job job.Write → NoneFailed a b → Takes a b text
whole_or_failed f a b text (inl no_memory) e n = (let x : Job job.OutOfMemory ≡ Job job.Write = sym no_memory.0 ∙ e in absurd cc)
whole_or_failed f a b text (inr failed) e n = absurd (not_none a b n failed.1)

-- one step was done: its files came, and what is told of it was told, or its first bytes
pub one : (r : Result (Unit {0}) UnloadFault) (u : Unloading) (d : Done) (a b : Outcome) (s t : Tally)
    → b.written ≡ a.written ++ (files_of u d ++ [])
    → TellsText r (text_of u d) a.printed b.printed → OnOk r (t ≡ counted_of u s d) → DoesOrStops r u (d.step ∷ []) a b s t
one (Ok _) u d a b s t files told counted = record {
  done = d ∷ [];
  in_order = refl;
  written = files;
  printed = subst (Takes a.printed b.printed) (sym (append-nil (text_of u d))) told.0;
  counted = counted;
}
one (Err f) u d a b s t files told counted = record {
  done = d ∷ [];
  rest = [];
  in_order = refl;
  written = files;
  printed = record {
    front = subst (TakesFront a.printed b.printed) (sym (append-nil (text_of u d))) told.0;
    whole = whole_or_failed f a.printed b.printed _ told.1;
  };
}

-- what is told counts failures of writes, and no others
pub counts_told : {A : Type 0} (r : Result A UnloadFault) (text : List ℕ) (a b : Stream) → TellsText r text a b → CountsReport r a b
counts_told (Ok _) text a b told = told.1
counts_told (Err f) text a b (front, inl no_memory) = inl no_memory.1
counts_told (Err f) text a b (front, inr failed) = inr failed

-- the same behind calls none of which failed
pub counts_behind : {A : Type 0} (r : Result A UnloadFault) (a b c : Stream) → NoneFailed a b → CountsReport r b c → CountsReport r a c
counts_behind (Ok _) a b c before this = this ∙ before
counts_behind (Err f) a b c before (inl none) = inl (none ∙ before)
counts_behind (Err f) a b c before (inr failed) = inr (failed.0, failed.1 ∙ ap (λ n. n + 1) before)

-- The steps of a volume: some were done, and no write failed.
pub record SoFar (v : KnownVolume) (p : Plan) (rest steps : Unloading → List Step) (a b : Outcome) (s t : Tally) : Type 0 where
  pub counts : NoneFailed a.printed b.printed
  pub does : (slots : List (List ℕ)) → v.slots ≡ Some slots → DoesUpTo (rest (unloading v slots p)) (unloading v slots p)
      (steps (unloading v slots p)) a b s t

module _ (v : KnownVolume) (p : Plan) (steps : Unloading → List Step) where
  -- none yet
  pub nothing : (a : Outcome) (t : Tally) → SoFar v p steps steps a a t t
  nothing a t = record { counts = refl; does = λ slots known. none (unloading v slots p) (steps (unloading v slots p)) a t }

  -- a fault, before any or behind some
  pub stop_here : {A : Type 0} (f : UnloadFault) (rest : Unloading → List Step) (a b : Outcome) (s t w : Tally)
      → SoFar v p rest steps a b s t → DoesOfVolume {A = A} (Err f) v p steps a b s w
  stop_here f rest a b s t w d = record {
    counts = inl d.counts;
    does = λ slots known. stops f (unloading v slots p) (steps (unloading v slots p)) (rest (unloading v slots p)) a b s t
        (d.does slots known);
  }

  -- all
  pub finished : (a b : Outcome) (s t : Tally) → SoFar v p (λ u. []) steps a b s t → DoesOfVolume {A = Unit {0}} (Ok tt) v p steps a b s t
  finished a b s t d = record { counts = d.counts; does = d.does }

  -- more of them
  pub with_more : (more rest : Unloading → List Step) (a b c : Outcome) (s t w : Tally) → SoFar v p (λ u. more u ++ rest u) steps a b s t
      → DoesOfVolume {A = Unit {0}} (Ok tt) v p more b c t w → SoFar v p rest steps a c s w
  with_more more rest a b c s t w d this = record {
    counts = this.counts ∙ d.counts;
    does = λ slots known.
        let u = unloading v slots p in both u (steps u) [] (more u) (rest u) a b c s t w (d.does slots known) (this.does slots known);
  }

  -- a fault stopped these
  pub stop_in : {A B : Type 0} (f : UnloadFault) (more rest : Unloading → List Step) (a b c : Outcome) (s t w z : Tally)
      → SoFar v p (λ u. more u ++ rest u) steps a b s t → DoesOfVolume {A = A} (Err f) v p more b c t w
      → DoesOfVolume {A = B} (Err f) v p steps a c s z
  stop_in {A = A} {B = B} f more rest a b c s t w z d this = record {
    counts = counts_behind {A = A} (Err f) a.printed b.printed c.printed d.counts this.counts;
    does = λ slots known.
        let u = unloading v slots p in
        stops_behind f u (steps u) (more u) (rest u) a b c s t d.counts (d.does slots known) (this.does slots known);
  }

  -- the last of them
  pub with_last : (r : Result (Unit {0}) UnloadFault) (more : Unloading → List Step) (a b c : Outcome) (s t w : Tally)
      → SoFar v p more steps a b s t → DoesOfVolume r v p more b c t w → DoesOfVolume r v p steps a c s w
  with_last r more a b c s t w d this = last_of r (record {
    counts = d.counts;
    does = λ slots known.
        let u = unloading v slots p in
        subst (λ (l : List Step). DoesUpTo l u (steps u) a b s t) (sym (append-nil (more u))) (d.does slots known);
  }) this where
    last_of : (r : Result (Unit {0}) UnloadFault) → SoFar v p (λ u. more u ++ []) steps a b s t → DoesOfVolume r v p more b c t w
        → DoesOfVolume r v p steps a c s w
    last_of (Ok tt) d this = finished a c s w (with_more more (λ u. []) a b c s t w d this)
    last_of (Err f) d this = stop_in f more (λ u. []) a b c s t w w d this

-- a fault came before anything did
pub gave_up : {A : Type 0} (f : UnloadFault) (v : KnownVolume) (p : Plan) (steps : Unloading → List Step) (files now : List Replaced)
    (a : Stream) (t w : Tally) → now ≡ files → DoesOfVolume {A = A} (Err f) v p steps (outcome files a) (outcome now a) t w
gave_up {A = A} f v p steps files now a t w e =
    subst (λ (l : List Replaced). DoesOfVolume {A = A} (Err f) v p steps (outcome files a) (outcome l a) t w) (sym e)
    (stop_here v p steps {A = A} f steps (outcome files a) (outcome files a) t t w (nothing v p steps (outcome files a) t))

-- the same steps, said otherwise
pub same : {A : Type 0} (r : Result A UnloadFault) (v : KnownVolume) (p : Plan) (steps others : Unloading → List Step) (a b : Outcome)
    (t w : Tally) → ((slots : List (List ℕ)) → v.slots ≡ Some slots → steps (unloading v slots p) ≡ others (unloading v slots p))
    → DoesOfVolume {A = A} r v p steps a b t w → DoesOfVolume {A = A} r v p others a b t w
same {A = A} r v p steps others a b t w e d = record {
  counts = d.counts;
  does = λ slots known. subst (λ (l : List Step). DoesOrStops {A = A} r (unloading v slots p) l a b t w) (e slots known)
      (d.does slots known);
}

pub same_rest : (v : KnownVolume) (p : Plan) (rest others steps : Unloading → List Step) (a b : Outcome) (t w : Tally)
    → ((slots : List (List ℕ)) → v.slots ≡ Some slots → rest (unloading v slots p) ≡ others (unloading v slots p))
    → SoFar v p rest steps a b t w → SoFar v p others steps a b t w
same_rest v p rest others steps a b t w e d = record {
  counts = d.counts;
  does = λ slots known.
      let u = unloading v slots p in subst (λ (l : List Step). DoesUpTo l u (steps u) a b t w) (e slots known) (d.does slots known);
}

pub of_steps : (v : KnownVolume) (p : Plan) (rest steps others : Unloading → List Step) (a b : Outcome) (t w : Tally)
    → ((slots : List (List ℕ)) → v.slots ≡ Some slots → steps (unloading v slots p) ≡ others (unloading v slots p))
    → SoFar v p rest steps a b t w → SoFar v p rest others a b t w
of_steps v p rest steps others a b t w e d = record {
  counts = d.counts;
  does = λ slots known.
      let u = unloading v slots p in subst (λ (l : List Step). DoesUpTo (rest u) u l a b t w) (e slots known) (d.does slots known);
}

-- The steps of the elements of a list, in order, which are left of all steps.
module _ {X : Type 0} (v : KnownVolume) (p : Plan) (steps : Unloading → List Step) (f : Unloading → X → List Step) (xs : List X) (i : ℕ)
    (a b : Outcome) (s t : Tally)
    (so_far : SoFar v p (λ u. flat_map (f u) (drop i xs)) steps a b s t) where
  begins : (x : X) → i < length xs → SoFar v p (λ u. f u (get_or xs i x) ++ flat_map (f u) (drop (i + 1) xs)) steps a b s t
  begins x inside =
      same_rest v p (λ u. flat_map (f u) (drop i xs)) (λ u. f u (get_or xs i x) ++ flat_map (f u) (drop (i + 1) xs)) steps a b s t
      (λ slots known. ap (flat_map (f (unloading v slots p))) (drop_more xs i x inside)) so_far

  -- those of one more were done
  pub next : (x : X) (c : Outcome) (w : Tally) → i < length xs → DoesOfVolume {A = Unit {0}} (Ok tt) v p (λ u. f u (get_or xs i x)) b c t w
      → SoFar v p (λ u. flat_map (f u) (drop (i + 1) xs)) steps a c s w
  next x c w inside this =
      with_more v p steps (λ u. f u (get_or xs i x)) (λ u. flat_map (f u) (drop (i + 1) xs)) a b c s t w (begins x inside) this

  -- a fault stopped them
  pub stop_next : {A B : Type 0} (fault : UnloadFault) (x : X) (c : Outcome) (w z : Tally) → i < length xs
      → DoesOfVolume {A = A} (Err fault) v p (λ u. f u (get_or xs i x)) b c t w → DoesOfVolume {A = B} (Err fault) v p steps a c s z
  stop_next {A = A} {B = B} fault x c w z inside this =
      stop_in v p steps {A = A} {B = B} fault (λ u. f u (get_or xs i x)) (λ u. flat_map (f u) (drop (i + 1) xs)) a b c s t w z
      (begins x inside) this

  -- no element is left
  pub all : length xs ≤ i → DoesOfVolume {A = Unit {0}} (Ok tt) v p steps a b s t
  all passed = finished v p steps a b s t (same_rest v p (λ u. flat_map (f u) (drop i xs)) (λ u. []) steps a b s t
      (λ slots known. ap (flat_map (f (unloading v slots p))) (drop_all i xs passed)) so_far)
