-- In a sound model each call finds its function, and none is nested deeper than there are functions.
use Rattle.std.proofs.Common.{◌≡◌, ℕ, zero, suc, ◌<◌, List, [], ◌∷◌, ◌++◌, length, Option, Some, None, refl, sym, subst, arith}
use Rattle.std.specs.Prelude.{slice_get, All, Contains, IsSomeAnd}
use Rattle.std.proofs.lemmas.Option.{get_or_from_slice_get, slice_get_within}
use Rattle.std.proofs.lemmas.List.Elements.{Contains-append_right}
use Rattle.ooo_bound.specs.declared.model.Bound.{Bound}
use Rattle.ooo_bound.specs.declared.model.BoundFunction.{BoundFunction}
use Rattle.ooo_bound.specs.declared.model.BoundProcess.{BoundProcess}
use Rattle.ooo_bound.specs.declared.stat.BoundRight.TheVariants as right
use Rattle.ooo_bound.specs.declared.stat.BoundSimple.{BoundSimple}
use Rattle.ooo_bound.specs.declared.stat.BoundSimple.TheVariants as simple
use Rattle.ooo_bound.specs.declared.stat.LinedSimple.{LinedSimple}
use Rattle.ooo_activation.specs.Kinds.{simples_in, simple_calls, calls_of}
use Rattle.ooo_activation.specs.Sound.{FitsSimple, FitsFunction, FitsProcess, AreRanked}
use Rattle.ooo_shapes.proofs.Places.{SimpleFound, SimplesFound, FunctionFound, CallFound}

-- what stands at a place of a list each of which has it
pub all_at : {X : Type 0} (P : X → Type 0) (xs : List X) (k : ℕ) (x : X) → All P xs → slice_get xs k ≡ Some x → P x
all_at P xs k x all e = subst P (get_or_from_slice_get xs k x x e) (all k x (slice_get_within xs k x e))

some_of : {X : Type 0} (P : X → Type 0) (o : Option X) → IsSomeAnd o P → (x : X) × (o ≡ Some x)
some_of P None h = absurd h
some_of P (Some x) h = (x, refl)

module _ (b : Bound) where
  -- each of these calls is found where there is its function
  abbrev Each : ℕ → List ℕ → Type 0
  Each k calls = (g : ℕ) → Contains calls g → (f : BoundFunction) → slice_get b.functions g ≡ Some f → CallFound b.functions k g

  found_simple : (k : ℕ) (x : BoundSimple) (rest : List ℕ) → FitsSimple b x → Each k (simple_calls x ++ rest) → SimpleFound (CallFound b.functions k) x
  found_simple k (simple.Assign into (right.Call g args)) rest h each =
      let f = some_of _ (slice_get b.functions g) h.1 in each g (0, omega arith, refl) f.0 f.1
  found_simple k (simple.Assign into (right.Value e)) rest h each = tt
  found_simple k (simple.Assign into (right.Read c)) rest h each = tt
  found_simple k (simple.Assign into (right.NbRead c x)) rest h each = tt
  found_simple k (simple.Assign into (right.NbWrite c e)) rest h each = tt
  found_simple k (simple.Update into o e) rest h each = tt
  found_simple k (simple.Write c e) rest h each = tt
  found_simple k (simple.Notify e t) rest h each = tt
  found_simple k (simple.Cancel e) rest h each = tt
  found_simple k (simple.Wait w) rest h each = tt
  found_simple k (simple.NextTrigger w) rest h each = tt
  found_simple k simple.Stop rest h each = tt
  found_simple k (simple.Print items) rest h each = tt

  found_simples : (k : ℕ) (xs : List LinedSimple) → All (λ x. FitsSimple b x.simple) xs → Each k (calls_of xs) → SimplesFound (CallFound b.functions k) xs
  found_simples k [] all each = tt
  found_simples k (x ∷ xs) all each = (
    found_simple k x.simple (calls_of xs) (all 0 x (omega arith)) each,
    found_simples k xs (λ i d lt. all (suc i) d (omega (arith, lt))) (λ g c f e. each g (Contains-append_right (simple_calls x.simple) (calls_of xs) g c) f e),
  )

  module _ (ranked : AreRanked b.functions) (functions : All (FitsFunction b) b.functions) where
    call_is_found : (k g : ℕ) (f : BoundFunction) → slice_get b.functions g ≡ Some f → ranked.rank g < k → CallFound b.functions k g
    call_is_found zero g f e lt = absurd (omega (arith, lt))
    call_is_found (suc k) g f e lt =
        let fits = all_at (FitsFunction b) b.functions g f functions e in
        subst (λ o. FunctionFound (CallFound b.functions k) o) (sym e)
        (found_simples k (simples_in f.body) fits.body.simples (λ g' c f' e'. call_is_found k g' f' e' (omega (arith, lt, ranked.falls g g' f e c))))

    pub process_found : (process : BoundProcess) → FitsProcess b process → SimplesFound (CallFound b.functions (length b.functions)) (simples_in process.body)
    process_found process fits =
        found_simples (length b.functions) (simples_in process.body) fits.body.simples (λ g c f e. call_is_found (length b.functions) g f e (ranked.bounded g (slice_get_within b.functions g f e)))
