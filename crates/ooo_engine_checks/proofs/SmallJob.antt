-- The small job fits.
use Rattle.std.proofs.Common.{◌≡◌, ℕ, zero, suc, ◌<◌, List, [], ◌∷◌, true, false, Some, pos, refl, sym, subst, ◌∙◌, arith, rules}
use Rattle.std.specs.Prelude.{slice_get, All, AllPairs, Contains, IsSome, IsSomeAnd, IsTrue}
use Rattle.std.proofs.lemmas.List.Elements.{All-nil}
use Rattle.ooo_lemmas.proofs.Each.{all_one}
use Rattle.ooo_value.specs.Values.{IsOfKind, is_in_range}
use Rattle.ooo_value.specs.declared.kinds.Kind.TheVariants as value_kind
use Rattle.ooo_value.specs.declared.values.Value.TheVariants as value
use Rattle.ooo_code.specs.declared.design.Design.{Design}
use Rattle.ooo_code.specs.declared.node.Node.{Node}
use Rattle.ooo_code.specs.declared.node.NodeKind.TheVariants as kind
use Rattle.ooo_code.specs.Segments.{IsNodeOf, successors}
use Rattle.ooo_code.specs.Sound.{FitsChannel, FitsEvent, FitsProcess as FitsProc, FitsProcessNode, FitsVariable, IsOfOne, IsSound, MayLeadTo}
use Rattle.ooo_code.specs.Touches.{Touch, Reads, Writes, ReadsSignal, WritesSignal, HoldsReading, HoldsWriting, touched_by}
use Rattle.ooo_interp.specs.declared.job.Job.{Job}
use Rattle.ooo_interp.specs.Carrying.{IsAscending, listed}
use Rattle.ooo_interp.specs.Jobs.{CarriesTouched, Fits, IsCarriedOf, IsFew, Touched, number_seen}
use Rattle.ooo_engine_checks.specs.SmallJob.{IsSmall, small_design, small_nodes, small_process, small_variable}

first_alone : {A : Type 0} (x y : A) (n : ℕ) → slice_get (x ∷ []) n ≡ Some y → n ≡ 0
first_alone x y zero h = refl
first_alone x y (suc n) h = absurd cc

none_contained : {A : Type 0} (x : A) → ¬ Contains [] x
none_contained x h = let below = h.1 in omega arith

-- ---- its nodes

abbrev printing : List ℕ → Node
printing text = record { kind = kind.PrintText text; line = 1; counts = true; next = 1 }

abbrev ending : Node
ending = record { kind = kind.End; line = 2; counts = false; next = 0 }

-- ---- the job has what it touches: nothing

touches_nothing : (text : List ℕ) (n : ℕ) (node : Node) (touch : Touch) → slice_get (small_nodes text) n ≡ Some node → Contains (touched_by [] node.kind) touch → ⊥
touches_nothing text zero node touch is c = let e : printing text ≡ node = cc in none_contained touch (subst (λ (x : Node). Contains (touched_by [] x.kind) touch) (sym e) c)
touches_nothing text (suc zero) node touch is c = let e : ending ≡ node = cc in none_contained touch (subst (λ (x : Node). Contains (touched_by [] x.kind) touch) (sym e) c)
touches_nothing text (suc (suc n)) node touch is c = absurd cc

module _ (text : List ℕ) (job : Job) (h : IsSmall text job) where
  untouched : (touch : Touch) → Touched job small_process touch → ⊥
  untouched touch t = touches_nothing text t.number t.node touch (subst (λ (d : Design). slice_get d.nodes t.number ≡ Some t.node) h.design t.is) (subst (λ (d : Design). Contains (touched_by d.events t.node.kind) touch) h.design t.touches)

  carries : CarriesTouched (Touched job small_process) job.owned.items job.copied.items
  carries = record { written = λ x t. absurd (untouched (Writes x) t); read = λ x t. absurd (untouched (Reads x) t) }

  owned_fits : All (IsCarriedOf (small_design text)) ((0, value.Uint 3 ∷ []) ∷ [])
  owned_fits = all_one (IsCarriedOf (small_design text)) (0, value.Uint 3 ∷ []) (omega arith)

  pub small_fits : Fits job
  small_fits = record {
    variables =
        subst (λ (d : Design). IsSomeAnd (slice_get d.processes job.process) (λ process. CarriesTouched (Touched job process) job.owned.items job.copied.items)) (sym h.design)
        (subst (λ p. IsSomeAnd (slice_get (small_process ∷ []) p) (λ process. CarriesTouched (Touched job process) job.owned.items job.copied.items)) (sym h.process) carries);
    owned = subst (λ d. All (IsCarriedOf d) job.owned.items) (sym h.design) (subst (All (IsCarriedOf (small_design text))) (sym h.owned) owned_fits);
    copied = subst (All (IsCarriedOf job.design.value)) (sym h.copied) (All-nil (IsCarriedOf job.design.value));
    few = subst (All IsFew) (sym h.seen) (All-nil IsFew);
    owned_ascends = subst IsAscending (sym h.owned) (λ i j d lt below. absurd (omega arith));
    copied_ascends = subst IsAscending (sym h.copied) (λ i j d lt below. absurd (omega arith));
    seen_ascends = subst (AllPairs (λ a b. number_seen a < number_seen b)) (sym h.seen) (λ i j d lt below. absurd (omega arith));
  }
