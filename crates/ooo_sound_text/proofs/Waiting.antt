-- The calls and waits of functions, where nothing is wrong with their module.
use Rattle.std.proofs.Common.{◌≡◌, ◌∙◌, refl, sym, ap, subst, ℕ, List, [], ◌∷◌, map, Bool, true, false, inl, inr}
use Rattle.std.specs.Prelude.{◌==◌, Contains, not, ◌&&◌}
use Rattle.std.proofs.lemmas.Bool.{and_right, both_ways, eq-eqb, not_from_true}
use Rattle.std.proofs.lemmas.List.Elements.{Contains-append_left, Contains-append_right, Contains-append_cases}
use Rattle.std.proofs.lemmas.List.Folds.{list_any_at}
use Rattle.ooo_lemmas.proofs.Contained.{not_in_none, in_first, in_later, first_or_later}
use Rattle.ooo_lexer.specs.declared.position.Position.{Position}
use Rattle.ooo_syntax.specs.declared.module.Function.{Function}
use Rattle.ooo_syntax.specs.declared.module.Member.{Member}
use Rattle.ooo_syntax.specs.declared.module.Member.TheVariants as written
use Rattle.ooo_calls.specs.declared.call.Call.{Call as Edge}
use Rattle.ooo_calls.specs.Cycles.{is_called, is_on_cycle}
use Rattle.ooo_checked.specs.declared.breach.TypeBreach.TheVariants as what
use Rattle.ooo_checked.specs.Notes.{breach_when}
use Rattle.ooo_checked.specs.Scopes.{Scope}
use Rattle.ooo_bodies.specs.declared.notes.Call.{Call}
use Rattle.ooo_members.specs.declared.known.FunctionFacts.{FunctionFacts}
use Rattle.ooo_members.specs.Bodies.{facts_of}
use Rattle.ooo_members.specs.Known.{Registered, is_process, registration_at}
use Rattle.ooo_members.specs.Members.{functions_in, functions_of}
use Rattle.ooo_types.specs.Processes.{all_edges, call_notes, edges_of, function_notes, functions_notes, other_notes, trigger_notes, wait_notes, wait_notes_at}
use Rattle.ooo_sound_text.specs.Right.{AreRight}
use Rattle.ooo_sound_text.proofs.Notes.{first_right, then_right, not_so, so}

-- ---- the functions of a module

-- what is known of a function among members is known among theirs
pub has_function : (ms : List Member) (s : Scope) (f : Function) → Contains ms (written.Function f) →
    Contains (functions_of ms s) (facts_of f s)
has_function [] s f h = absurd (not_in_none (written.Function f) h)
has_function (m ∷ ms) s f h = elim (first_or_later m (written.Function f) ms h) [
  | inl is ↦ Contains-append_left (functions_in m s) (functions_of ms s) (facts_of f s)
      (subst (λ x. Contains (functions_in x s) (facts_of f s)) (sym is) (in_first (facts_of f s) []))
  | inr later ↦ Contains-append_right (functions_in m s) (functions_of ms s) (facts_of f s) (has_function ms s f later)
]

-- ---- calls

-- a call of the function of this number, in one of that number
abbrev pub edge : (from to : ℕ) → Edge
edge from to = record { from = from; to = to }

-- each call of a function is one of its edges
pub has_edge : (number : ℕ) (cs : List Call) (y : ℕ) → Contains (map (λ (c : Call). c.function) cs) y →
    Contains (map (λ (c : Call). edge number c.function) cs) (edge number y)
has_edge number [] y h = absurd (not_in_none y h)
has_edge number (c ∷ cs) y h = elim (first_or_later c.function y (map (λ (c : Call). c.function) cs) h) [
  | inl is ↦ subst (λ z. Contains (map (λ (c : Call). edge number c.function) (c ∷ cs)) (edge number z)) is
      (in_first (edge number c.function) (map (λ (c : Call). edge number c.function) cs))
  | inr later ↦ in_later (edge number c.function) (edge number y) (map (λ (c : Call). edge number c.function) cs)
      (has_edge number cs y later)
]

-- each edge of a function is one of all
pub has_edges : (fs : List FunctionFacts) (f : FunctionFacts) (c : Edge) → Contains fs f → Contains (edges_of f) c →
    Contains (all_edges fs) c
has_edges [] f c h at = absurd (not_in_none f h)
has_edges (g ∷ fs) f c h at = elim (first_or_later g f fs h) [
  | inl is ↦ Contains-append_left (edges_of g) (all_edges fs) c
      (subst (λ (k : FunctionFacts). Contains (edges_of k) c) (sym is) at)
  | inr later ↦ Contains-append_right (edges_of g) (all_edges fs) c (has_edges fs f c later at)
]

-- a function that is called among these calls
pub called_there : (es : List Edge) (from y : ℕ) → Contains es (edge from y) → is_called es y ≡ true
called_there es from y (k, within, is) =
    list_any_at (λ (c : Edge). c.to == y) es k (edge from y) within
    (ap (λ (c : Edge). c.to == y) is ∙ eq-eqb y y refl)

module _ (es : List Edge) (rs : Registered) where
  -- nothing is wrong with any function
  pub each_right : (fs : List FunctionFacts) (f : FunctionFacts) → AreRight (functions_notes es rs fs) → Contains fs f →
      AreRight (function_notes es rs f)
  each_right [] f right h = absurd (not_in_none f h)
  each_right (g ∷ fs) f right h = elim (first_or_later g f fs h) [
    | inl is ↦ subst (λ k. AreRight (function_notes es rs k)) is
        (first_right (function_notes es rs g) (functions_notes es rs fs) right)
    | inr later ↦ each_right fs f (then_right (function_notes es rs g) (functions_notes es rs fs) right) later
  ]

  -- no call of a function lies on a cycle
  calls_acyclic : (number : ℕ) (cs : List Call) (c : Edge) → AreRight (call_notes es number cs) →
      Contains (map (λ (c : Call). edge number c.function) cs) c → is_on_cycle es c ≡ false
  calls_acyclic number [] c right h = absurd (not_in_none c h)
  calls_acyclic number (k ∷ ks) c right h =
      let first = edge number k.function in
      let here = breach_when (is_on_cycle es first) what.RecursiveCall k.at in
      elim (first_or_later first c (map (λ (c : Call). edge number c.function) ks) h) [
        | inl is ↦ subst (λ e. is_on_cycle es e ≡ false) is
            (not_so (is_on_cycle es first) what.RecursiveCall k.at (first_right here (call_notes es number ks) right))
        | inr later ↦ calls_acyclic number ks c (then_right here (call_notes es number ks) right) later
      ]

  pub edges_acyclic : (fs : List FunctionFacts) (c : Edge) → AreRight (functions_notes es rs fs) →
      Contains (all_edges fs) c → is_on_cycle es c ≡ false
  edges_acyclic [] c right h = absurd (not_in_none c h)
  edges_acyclic (f ∷ fs) c right h = elim (Contains-append_cases (edges_of f) (all_edges fs) c h) [
    | inl here ↦ calls_acyclic f.number f.calls c
        (first_right (call_notes es f.number f.calls) (other_notes es rs f)
        (first_right (function_notes es rs f) (functions_notes es rs fs) right)) here
    | inr later ↦ edges_acyclic fs c (then_right (function_notes es rs f) (functions_notes es rs fs) right) later
  ]

-- ---- waits

-- what is noted of one wait more
first_wait : (is_method may_wait : Bool) (at : Position) (ats : List Position) →
    AreRight (wait_notes is_method may_wait (at ∷ ats)) → AreRight (wait_notes_at is_method may_wait at)
first_wait is_method may_wait at ats h =
    first_right (wait_notes_at is_method may_wait at) (wait_notes is_method may_wait ats) h

-- what may not wait doesn't
unallowed : (is_method may_wait : Bool) (ats : List Position) → may_wait ≡ false →
    AreRight (wait_notes is_method may_wait ats) → ats ≡ []
unallowed is_method may_wait [] barred h = refl
unallowed is_method may_wait (at ∷ ats) barred h = absurd (both_ways may_wait barred (so may_wait what.WaitInFunction at
    (then_right (breach_when is_method what.WaitInMethod at) (breach_when (not may_wait) what.WaitInFunction at)
    (first_wait is_method may_wait at ats h))))

-- nor does a method
in_method : (is_method may_wait : Bool) (ats : List Position) → is_method ≡ true →
    AreRight (wait_notes is_method may_wait ats) → ats ≡ []
in_method is_method may_wait [] is h = refl
in_method is_method may_wait (at ∷ ats) is h = absurd (both_ways is_method (not_so is_method what.WaitInMethod at
    (first_right (breach_when is_method what.WaitInMethod at) (breach_when (not may_wait) what.WaitInFunction at)
    (first_wait is_method may_wait at ats h))) is)

module _ (es : List Edge) (rs : Registered) (f : FunctionFacts) (right : AreRight (function_notes es rs f)) where
  -- it may wait
  abbrev may_wait : Bool
  may_wait = is_process (registration_at rs f.number) && not (is_called es f.number)

  waits_right : AreRight (wait_notes (registration_at rs f.number).as_method may_wait f.waits)
  waits_right =
      first_right (wait_notes (registration_at rs f.number).as_method may_wait f.waits)
      (trigger_notes (registration_at rs f.number).as_method f.triggers)
      (then_right (call_notes es f.number f.calls) (other_notes es rs f) right)

  -- a function that is called doesn't wait
  pub called_waits : is_called es f.number ≡ true → f.waits ≡ []
  called_waits called =
      unallowed (registration_at rs f.number).as_method may_wait f.waits
      (and_right (is_process (registration_at rs f.number)) (not (is_called es f.number))
      (not_from_true (is_called es f.number) called))
      waits_right

  -- nor does one that is registered as a method
  pub method_waits : (registration_at rs f.number).as_method ≡ true → f.waits ≡ []
  method_waits is = in_method (registration_at rs f.number).as_method may_wait f.waits is waits_right
