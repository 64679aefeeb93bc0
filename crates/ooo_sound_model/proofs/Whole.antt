-- A bound model is sound.
use Rattle.std.proofs.Common.{◌≡◌, ◌∙◌, refl, sym, ap, subst, ℕ, zero, suc, ◌+◌, ◌<◌, List, [], ◌∷◌, drop, length, false, Option, Some, None}
use Rattle.std.specs.Prelude.{All, Ok, slice_get}
use Rattle.std.proofs.lemmas.List.Elements.{All-nil}
use Rattle.ooo_lemmas.proofs.Placed.{all_from}
use Rattle.ooo_value.specs.declared.bound.ProcessKind.{ProcessKind}
use Rattle.ooo_value.specs.declared.bound.ProcessKind.TheVariants as process
use Rattle.ooo_bound.specs.declared.model.Bound.{Bound}
use Rattle.ooo_bound.specs.declared.model.BoundFunction.{BoundFunction}
use Rattle.ooo_bound.specs.declared.model.BoundProcess.{BoundProcess}
use Rattle.ooo_bound.specs.declared.stat.LinedSimple.{LinedSimple}
use Rattle.ooo_checked.specs.declared.module.CheckedFunction.{CheckedFunction}
use Rattle.ooo_checked.specs.declared.unit.CheckedUnit.{CheckedUnit}
use Rattle.ooo_numbers.specs.Stats.{stats_of}
use Rattle.ooo_walk.specs.declared.state.ProcessForm.{ProcessForm}
use Rattle.ooo_walk.specs.declared.state.ProcessForm.TheVariants.{Clock, Registered}
use Rattle.ooo_walk.specs.declared.state.WalkedInstance.{WalkedInstance}
use Rattle.ooo_walk.specs.declared.state.WalkedProcess.{WalkedProcess}
use Rattle.ooo_walk.specs.Plans.{Filed, Viewed, function_at, view_at}
use Rattle.ooo_walk.specs.Texts.{file_of, walk_of}
use Rattle.ooo_elaborate.specs.declared.processes.Model.{Model}
use Rattle.ooo_elaborate.specs.Bindings.{links_of}
use Rattle.ooo_elaborate.specs.Elaborated.{bound_of, model_of}
use Rattle.ooo_elaborate.specs.Functions.{numbered, setups_calls}
use Rattle.ooo_elaborate.specs.Processes.{body_in, functions_of, process_of, processes_of, registered_of, sensitive_by}
use Rattle.ooo_activation.specs.Kinds.{may_wait}
use Rattle.ooo_activation.specs.Sound.{FitsBody, FitsExpr, FitsFunction, FitsProcess, FitsSimple, NeverWaits}
use Rattle.ooo_sound_walk.specs.Reached.{ReachedAreClosed, ReachedAreLeast}
use Rattle.ooo_sound_walk.specs.Clocks.{ClocksAreRight}
use Rattle.ooo_sound_walk.specs.Names.{NamesAreMeant}
use Rattle.ooo_sound_walk.specs.Parts.{WalksAreRight}
use Rattle.ooo_sound_model.specs.Ends.{EndsOfOne}
use Rattle.ooo_sound_model.specs.Parts.{IsPassed}
use Rattle.ooo_sound_model.specs.Bodies.{FitInstances, IsRegistration, is_thread, numbering_at}
use Rattle.ooo_sound_model.specs.Whole.{SoundByParts}
use Rattle.ooo_sound_model.proofs.Bodies.{instances_fit, sensitive_fits}
use Rattle.ooo_sound_model.proofs.Calls.{calls_are_closed, calls_fall}
use Rattle.ooo_sound_model.proofs.Clocks.{clocks_fit}
use Rattle.ooo_sound_model.proofs.Ended.{ports_end}
use Rattle.ooo_sound_model.proofs.Functions.{body_is, function_found, listed, view_is}
use Rattle.ooo_sound_model.proofs.Numbering.{functions_are_numbered}
use Rattle.ooo_sound_model.proofs.Parts.{one_holder, right_parts}
use Rattle.ooo_sound_model.proofs.Passed.{passed}
use Rattle.ooo_sound_model.proofs.Ranks.{measured_are_ranked}
use Rattle.ooo_sound_model.proofs.Registered.{processes_are_registered}
use Rattle.ooo_sound_model.proofs.Touched.{ends_are_there}

process_made : (f : Filed) (m : Model) (is : List WalkedInstance) (ps : List WalkedProcess) (p : ℕ) (b : BoundProcess) →
    slice_get (processes_of f m is ps) p ≡ Some b → (x : WalkedProcess) × (slice_get ps p ≡ Some x) × (process_of f m is x.form ≡ b)
process_made f m is [] p b h = absurd cc
process_made f m is (x ∷ ps) zero b h = (x, refl, cc)
process_made f m is (x ∷ ps) (suc p) b h = process_made f m is ps p b h

empty_fits : (b : Bound) → FitsBody b []
empty_fits b = record {
  simples = All-nil (λ (x : LinedSimple). FitsSimple b x.simple);
  values = All-nil (FitsExpr b);
  jumps = refl;
}

module _ (leasts : ReachedAreLeast) (u : CheckedUnit) (b : Bound) (made : IsPassed u b) (fit : FitInstances u b) where
  -- ---- functions

  function_fits : (g : ℕ) (f : BoundFunction) → slice_get b.functions g ≡ Some f → FitsFunction b f
  function_fits g f found =
      let file = file_of u in
      let w = walk_of u in
      let n = numbered file w.instances in
      let m = model_of w (links_of w) in
      let there : slice_get (functions_of file m n.instances n.functions) g ≡ Some f =
      ap (λ (y : Bound). slice_get y.functions g) made.is ∙ found in
      let x = function_found file m n.instances n.functions g f there in
      let l = listed file w.instances g x.0 x.1 in
      let v = view_at file l.instance.module_number in
      let c = (leasts v (setups_calls v v.setups)).functions x.0.function l.among in
      let good = (fit x.0.instance l.instance l.there).bodies.functions x.0.function c.0 l.among c.1 in
      let body : stats_of (numbering_at u x.0.instance) c.0.body ≡ f.body =
      sym (body_is file m w.instances x.0.instance l.instance l.there x.0.function c.0 c.1) ∙ ap (λ (y : BoundFunction). y.body) x.2 in
      record { body = subst (FitsBody b) body good.fits.fits; waits = subst NeverWaits body (good.fits.waits refl) }

  -- ---- processes

  module _ (events : (place : ℕ) (i : WalkedInstance) → slice_get (walk_of u).instances place ≡ Some i → (n : ℕ) →
      All (λ e. e < length b.events) (sensitive_by (numbering_at u place) (drop n (view_at (file_of u) i.module_number).setups))) where
    registered_body : (place : ℕ) (i : WalkedInstance) → slice_get (walk_of u).instances place ≡ Some i → (k : ProcessKind) (at function : ℕ) →
        let v = view_at (file_of u) i.module_number in IsRegistration k function (slice_get v.setups at) →
        (o : Option CheckedFunction) → function_at v function ≡ o →
        FitsBody b (stats_of (numbering_at u place) (body_in o)) × (k ≡ process.Method → NeverWaits (stats_of (numbering_at u place) (body_in o)))
    registered_body place i there k at function by None of = (empty_fits b, λ e. All-nil (λ (x : LinedSimple). may_wait x.simple ≡ false))
    registered_body place i there k at function by (Some g) of =
        let good = (fit place i there).bodies.processes k at function g by of in
        (good.fits.fits, λ e. good.fits.waits (ap is_thread e))

    registered_fits : (place : ℕ) (i : WalkedInstance) → slice_get (walk_of u).instances place ≡ Some i → (k : ProcessKind) (at function : ℕ) →
        let v = view_at (file_of u) i.module_number in let w = walk_of u in IsRegistration k function (slice_get v.setups at) →
        FitsProcess b (process_of (file_of u) (model_of w (links_of w)) (numbered (file_of u) w.instances).instances (Registered k place at function))
    registered_fits place i there k at function by =
        let w = walk_of u in
        let f = file_of u in
        let v = view_at f i.module_number in
        let body = registered_body place i there k at function by (function_at v function) refl in
        subst (λ (v : Viewed). FitsProcess b (registered_of (model_of w (links_of w)) v (numbering_at u place).members k at function))
        (sym (view_is f w.instances place i (functions_are_numbered f w.instances place i there)))
        (record { body = body.0; waits = body.1; events = events place i there (at + 1) })

    form_fits : ClocksAreRight → bound_of u ≡ Ok b → (p : ℕ) (q : BoundProcess) →
        slice_get b.processes p ≡ Some q → (x : WalkedProcess) → slice_get (walk_of u).processes p ≡ Some x →
        (let w = walk_of u in process_of (file_of u) (model_of w (links_of w)) (numbered (file_of u) w.instances).instances x.form) ≡ q →
        (form : ProcessForm) → x.form ≡ form → FitsProcess b q
    form_fits clocks is p q found x at same (Clock c half line) of = clocks_fit clocks u b is p x c half line q at of found
    form_fits clocks is p q found x at same (Registered k i place function) of =
        let w = walk_of u in
        let r = processes_are_registered u p x k i place function at of in
        subst (FitsProcess b)
        (ap (λ y. process_of (file_of u) (model_of w (links_of w)) (numbered (file_of u) w.instances).instances y) (sym of) ∙ same)
        (registered_fits i r.instance r.there k place function r.by)

    process_fits : ClocksAreRight → bound_of u ≡ Ok b → (p : ℕ) (q : BoundProcess) → slice_get b.processes p ≡ Some q → FitsProcess b q
    process_fits clocks is p q found =
        let w = walk_of u in
        let f = file_of u in
        let m = model_of w (links_of w) in
        let n = numbered f w.instances in
        let there : slice_get (processes_of f m n.instances w.processes) p ≡ Some q =
        ap (λ (y : Bound). slice_get y.processes p) made.is ∙ found in
        let x = process_made f m n.instances w.processes p q there in
        form_fits clocks is p q found x.0 x.1 x.2 x.0.form refl

-- ---- the whole

-- the laws of the walk
pub record Laws : Type 0 where
  pub walks : WalksAreRight
  pub names : NamesAreMeant
  pub clocks : ClocksAreRight
  pub closes : ReachedAreClosed
  pub leasts : ReachedAreLeast

pub sound : Laws → SoundByParts
sound laws u b is unit =
    let ends_at = ports_end u b is in
    let made = passed u b is in
    let parts = right_parts laws.walks u b is in
    let fit = instances_fit laws.closes laws.leasts laws.names laws.walks u b is unit ends_at in
    let closed = calls_are_closed laws.closes laws.leasts u b is (processes_are_registered u) fit in
    let falls = calls_fall laws.closes laws.leasts u b is fit (λ n. (unit.modules n).order) in
    let functions : All (FitsFunction b) b.functions =
    all_from (FitsFunction b) b.functions (function_fits laws.leasts u b made fit) in
    let processes : All (FitsProcess b) b.processes =
    all_from (FitsProcess b) b.processes (process_fits laws.leasts u b made fit (λ place i there n.
    sensitive_fits laws.closes laws.leasts laws.names u b made parts unit ends_at place i there n) laws.clocks is) in
    let ends : (c : ℕ) → EndsOfOne b c = ends_are_there b functions processes (one_holder u b is closed) in
    record {
      variables = parts.variables;
      channels = parts.channels;
      events = parts.events;
      functions = functions;
      processes = processes;
      ranked = measured_are_ranked b.functions falls.measure falls.falls;
      writers = λ c. (ends c).writer;
      reading_ends = λ c. (ends c).reading;
      writing_ends = λ c. (ends c).writing;
    }
