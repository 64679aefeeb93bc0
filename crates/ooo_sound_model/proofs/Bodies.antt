-- The bodies of an instance fit the model, where those of its module are right.
use Rattle.std.proofs.Common.{◌≡◌, ◌∙◌, refl, sym, ap, subst, arith, ℕ, suc, ◌+◌, ◌<◌, List, [], ◌∷◌, length, Bool, true, false, Option, Some, None}
use Rattle.std.specs.Prelude.{All, Contains, IsSome, IsSomeAnd, drop, slice_get}
use Rattle.std.specs.List.{AllByRecursion}
use Rattle.ooo_lexer.specs.declared.position.Position.{Position}
use Rattle.ooo_checked.specs.declared.module.CheckedSetup.{CheckedSetup}
use Rattle.ooo_checked.specs.declared.module.CheckedSetup.TheVariants as setup
use Rattle.ooo_checked.specs.declared.stat.CheckedEvent.{CheckedEvent}
use Rattle.std.proofs.lemmas.List.Elements.{All-contains, All-contains_itself, All-from_recursion, recursion_from_All}
use Rattle.std.proofs.lemmas.Option.{slice_get_within}
use Rattle.ooo_lemmas.proofs.Contained.{in_mapped}
use Rattle.ooo_lemmas.proofs.Each.{of_both}
use Rattle.ooo_value.specs.declared.kinds.Kind.{Kind}
use Rattle.ooo_bound.specs.declared.model.Bound.{Bound}
use Rattle.ooo_bound.specs.declared.model.BoundFunction.{BoundFunction}
use Rattle.ooo_checked.specs.declared.denotation.Denotation.{Denotation}
use Rattle.ooo_checked.specs.declared.denotation.Thing.{Thing}
use Rattle.ooo_checked.specs.declared.denotation.Thing.TheVariants as thing
use Rattle.ooo_checked.specs.declared.module.CheckedFunction.{CheckedFunction}
use Rattle.ooo_checked.specs.declared.stat.CheckedStat.{CheckedStat}
use Rattle.ooo_checked.specs.declared.unit.CheckedUnit.{CheckedUnit}
use Rattle.ooo_checked.specs.Notes.{Note, Breaks, Calls, Waits, Triggers}
use Rattle.ooo_checked.specs.Scopes.{Scope}
use Rattle.ooo_checked.specs.Stats.{stats_of}
use Rattle.ooo_constants.specs.Bodies.{body_calls}
use Rattle.ooo_constants.specs.declared.meaning.Meaning.{Meaning}
use Rattle.ooo_numbers.specs.Names.{events_of, function_meant}
use Rattle.ooo_numbers.specs.Stats.{stats_of as numbered_of}
use Rattle.ooo_walk.specs.declared.state.WalkedInstance.{WalkedInstance}
use Rattle.ooo_walk.specs.Plans.{Viewed, function_at, view_at}
use Rattle.ooo_walk.specs.Reach.{calls_in, has}
use Rattle.ooo_walk.specs.Texts.{file_of, walk_of}
use Rattle.ooo_elaborate.specs.Bindings.{links_of}
use Rattle.ooo_elaborate.specs.Elaborated.{model_of}
use Rattle.ooo_elaborate.specs.Functions.{functions_in, numbered, setups_calls}
use Rattle.ooo_elaborate.specs.Processes.{members_in, sensitive_by, walked_function_of}
use Rattle.ooo_sound_walk.specs.Reached.{ReachedAreClosed, ReachedAreLeast}
use Rattle.ooo_sound_model.specs.Fitting.{FitsWith}
use Rattle.ooo_sound_model.specs.Naming.{Agrees, Leave, MayAllBeNoted, MeansFunction}
use Rattle.ooo_sound_model.specs.Written.{MayAllBeWritten, MayBeWritten}
use Rattle.ooo_sound_walk.specs.Names.{IsFilled, IsOf, NamesAreMeant, things_of}
use Rattle.ooo_sound_walk.specs.Parts.{WalksAreRight}
use Rattle.ooo_sound_model.specs.Parts.{FitsParts, IsPassed}
use Rattle.ooo_sound_model.specs.Bodies.{FitsInstance, FitsNumbered, is_thread, leave_of, numbering_at}
use Rattle.ooo_sound_model.specs.Texts.{AllStand, AreEvents, FitsUnit, IsDeclared, IsText, no_calls}
use Rattle.ooo_sound_model.specs.Whole.{BodiesOfTextsFit, PortsEnd}
use Rattle.ooo_sound_model.proofs.Lists.{dropped}
use Rattle.ooo_sound_model.proofs.Calls.{registered_calls, some_is}
use Rattle.ooo_sound_model.proofs.Functions.{function_made, named, params_are}
use Rattle.ooo_sound_model.proofs.Modules.{function_declared}
use Rattle.ooo_sound_model.proofs.Naming.{IsMeantAs, agrees, params_length, zip_at, zip_length}
use Rattle.ooo_sound_model.proofs.Numbering.{functions_are_numbered}
use Rattle.ooo_sound_model.proofs.Parts.{right_parts}
use Rattle.ooo_sound_model.proofs.Passed.{passed}
use Rattle.ooo_sound_model.proofs.Simples.{events_fit}
use Rattle.ooo_sound_model.proofs.Stats.{bodies_fit}
use Rattle.ooo_sound_model.proofs.Written.{calls_are_written}

-- ---- notes

one_written : (l k : Leave) → (l.waits ≡ true → k.waits ≡ true) → (x : Note) → MayBeWritten l x → MayBeWritten k x
one_written l k more (Breaks what at) h = absurd h
one_written l k more (Calls at f) h = tt
one_written l k more (Waits at) h = more h
one_written l k more (Triggers at) h = tt

all_written : (l k : Leave) → (l.waits ≡ true → k.waits ≡ true) → (xs : List Note) → MayAllBeWritten l xs → MayAllBeWritten k xs
all_written l k more [] h = tt
all_written l k more (x ∷ xs) h = (one_written l k more x h.0, all_written l k more xs h.1)

-- ---- an instance

module _ (closes : ReachedAreClosed) (leasts : ReachedAreLeast) (names : NamesAreMeant) (u : CheckedUnit) (b : Bound) (made : IsPassed u b)
    (parts : FitsParts u b) (unit : FitsUnit u) (ends : PortsEnd (walk_of u)) (place : ℕ) (i : WalkedInstance)
    (there : slice_get (walk_of u).instances place ≡ Some i) where
  abbrev here : Viewed
  here = view_at (file_of u) i.module_number

  abbrev members : List Meaning
  members = (numbering_at u place).members

  filled : IsFilled (file_of u) (walk_of u) i
  filled = names u unit.before made.walked place i there

  has_name : (x : ℕ) (g : CheckedFunction) → function_at here x ≡ Some g → x < length i.members
  has_name x g of =
      let all = zip_length (IsOf (walk_of u)) (things_of here.members) i.members filled in
      let within = slice_get_within (things_of here.members) x _ (function_declared u i.module_number x g of) in omega (arith, all, within)

  -- what isn't a function is no name that is reached
  not_reached : (x : ℕ) (t : Thing) → ((gives : Option Kind) (params : ℕ) → t ≡ thing.Function gives params → ⊥) →
      slice_get (things_of here.members) x ≡ Some t → (r : Bool) → has (functions_in here) x ≡ r → r ≡ false
  not_reached x t other declared false of = refl
  not_reached x t other declared true of =
      let g = (leasts here (setups_calls here here.setups)).functions x of in
      let d = function_declared u i.module_number x g.0 g.1 in
      absurd (other None (length g.0.params) (let e = sym declared ∙ d in cc))

  meant_as : (d : Denotation) (t : Thing) → ((gives : Option Kind) (params : ℕ) → t ≡ thing.Function gives params → ⊥) → IsDeclared here d t →
      IsMeantAs (walk_of u) (numbering_at u place) d t
  meant_as d t other declared =
      let m = zip_at (IsOf (walk_of u)) (things_of here.members) i.members filled d.number t declared in
      let h = functions_are_numbered (file_of u) (walk_of u).instances place i there in
      record {
        meaning = m.0;
        at = ap (λ o. slice_get (members_in o) d.number) h.there
            ∙ h.others d.number (not_reached d.number t other declared (has (functions_in here) d.number) refl) ∙ m.1;
        is = m.2;
      }

  -- a body calls functions that are reached
  abbrev CallsReached : List CheckedStat → Type 0
  CallsReached body = (x : ℕ) (g : CheckedFunction) → Contains (body_calls body) x → function_at here x ≡ Some g → has (functions_in here) x ≡ true

  called_is : (waits : Bool) (body : List CheckedStat) → IsText here waits body → CallsReached body → (d : Denotation) (params : ℕ) →
      IsDeclared here d (thing.Function None params) → Contains (body_calls body) d.number →
      MeansFunction b (leave_of members waits body) (function_meant (slice_get members d.number)) params
  called_is waits body t reached d params declared at =
      let f = file_of u in
      let w = walk_of u in
      let n = numbered f w.instances in
      let m = model_of w (links_of w) in
      let g = some_is (function_at here d.number) (All-contains (λ y. IsSome (function_at here y)) (body_calls body) d.number t.calls at) in
      let r = named f w.instances place i there d.number (reached d.number g.0 at g.1) (has_name d.number g.0 g.1) in
      let number : r.number ≡ function_meant (slice_get members d.number) = sym (ap function_meant r.means) in
      let bf : BoundFunction = walked_function_of f m n.instances (record { instance = place; function = d.number }) in
      let found : slice_get b.functions r.number ≡ Some bf =
      ap (λ (y : Bound). slice_get y.functions r.number) (sym made.is) ∙ function_made f m n.instances n.functions r.number _ r.at in
      let many : thing.Function None (length g.0.params) ≡ thing.Function None params =
      (let e = sym (function_declared u i.module_number d.number g.0 g.1) ∙ declared in cc) in
      let same : length g.0.params ≡ params = cc in
      let all : length bf.params ≡ params = ap length (params_are f m w.instances place i there d.number g.0 g.1) ∙ params_length g.0.params ∙ same in
      record {
        takes = subst (λ k. IsSomeAnd (slice_get b.functions k) (λ function. length function.params ≡ params)) number
            (subst (λ o. IsSomeAnd o (λ function. length function.params ≡ params)) (sym found) all);
        within = in_mapped (λ x. function_meant (slice_get members x)) (body_calls body) d.number at;
      }

  body_agrees : (waits : Bool) (body : List CheckedStat) → IsText here waits body → CallsReached body → (s : Scope) → AllStand here s →
      Agrees b (numbering_at u place) (leave_of members waits body) s
  body_agrees waits body t reached s stand =
      agrees (walk_of u) b (numbering_at u place) ends (ap (λ (y : Bound). y.variables) made.is) (ap (λ (y : Bound). y.channels) made.is)
      (ap (λ (y : Bound). y.events) made.is) refl here (leave_of members waits body) meant_as (called_is waits body t reached) s stand

  text_fits : (waits : Bool) (body : List CheckedStat) → IsText here waits body → CallsReached body →
      FitsNumbered b (numbering_at u place) here waits body
  text_fits waits body t reached =
      let l = leave_of members waits body in
      let own : All (Contains (body_calls body)) (body_calls (stats_of t.text t.context t.scope).tree) =
      subst (λ ts. All (Contains (body_calls body)) (body_calls ts)) (sym t.is) (All-contains_itself (body_calls body)) in
      let noted : MayAllBeNoted l (stats_of t.text t.context t.scope).notes =
      calls_are_written l t.scope t.context t.text (all_written (no_calls waits) l (λ e. e) _ t.notes) own in
      record {
        fits = subst (λ ts. FitsWith b l (numbered_of (numbering_at u place) ts)) t.is
            (bodies_fit b (numbering_at u place) l t.scope t.context t.text (parts.found members) (body_agrees waits body t reached t.scope t.stand) t.outside noted);
        calls = t.calls;
      }

  -- events of a constructor
  no_element : (x : ℕ) → Contains [] x → ⊥
  no_element x h = let within = h.1 in absurd (omega (arith, within))

  quiet_agrees : (s : Scope) → AllStand here s → Agrees b (numbering_at u place) (no_calls false) s
  quiet_agrees s stand =
      agrees (walk_of u) b (numbering_at u place) ends (ap (λ (y : Bound). y.variables) made.is) (ap (λ (y : Bound). y.channels) made.is)
      (ap (λ (y : Bound). y.events) made.is) refl here (no_calls false) meant_as
      (λ d params declared at. absurd (no_element d.number at)) s stand

  events_there : (es : List CheckedEvent) → AreEvents here es → All (λ e. e < length b.events) (events_of (numbering_at u place) es)
  events_there es h =
      subst (λ ts. All (λ e. e < length b.events) (events_of (numbering_at u place) ts)) h.is
      (events_fit b (numbering_at u place) (no_calls false) h.scope true h.text (parts.found members) (quiet_agrees h.scope h.stand) h.notes)

  -- each event of a process is there
  all_sensitive : (xs : List CheckedSetup) →
      ((j : ℕ) (at : Position) (es : List CheckedEvent) → slice_get xs j ≡ Some (setup.Sensitive at es) → AreEvents here es) →
      AllByRecursion (λ e. e < length b.events) (sensitive_by (numbering_at u place) xs)
  all_sensitive [] each = tt
  all_sensitive (setup.Thread at r ∷ xs) each = tt
  all_sensitive (setup.Method at r ∷ xs) each = tt
  all_sensitive (setup.Sensitive at es ∷ xs) each =
      of_both (λ e. e < length b.events) (events_of (numbering_at u place) es) (sensitive_by (numbering_at u place) xs)
      (recursion_from_All (λ e. e < length b.events) _ (events_there es (each 0 at es refl)))
      (all_sensitive xs (λ j p fs h. each (suc j) p fs h))
  all_sensitive (setup.DontInitialize at ∷ xs) each = all_sensitive xs (λ j p fs h. each (suc j) p fs h)
  all_sensitive (setup.Bind d ∷ xs) each = all_sensitive xs (λ j p fs h. each (suc j) p fs h)
  all_sensitive (setup.Set r e ∷ xs) each = all_sensitive xs (λ j p fs h. each (suc j) p fs h)

  pub sensitive_fits : (n : ℕ) → All (λ e. e < length b.events) (sensitive_by (numbering_at u place) (drop n here.setups))
  sensitive_fits n =
      All-from_recursion (λ e. e < length b.events) _ (all_sensitive (drop n here.setups) (λ j at es h.
      (unit.modules i.module_number).sensitive (n + j) at es (sym (dropped here.setups n j) ∙ h)))

  instance_fits : FitsInstance u b place i
  instance_fits =
      let v = unit.modules i.module_number in
      let all = closes here (setups_calls here here.setups) in record {
        named = has_name;
        bodies = record {
          functions = λ x g among of. text_fits false g.body (v.functions x g among of) (λ y h at is. all.others x g among of y h at is);
          processes = λ k at x g by of. text_fits (is_thread k) g.body (v.processes k at x g by of) (λ y h c is.
              all.first y h (registered_calls here here.setups at k x by y (subst (λ o. Contains (calls_in o) y) (sym of) c)) is);
        };
      }

pub instances_fit : ReachedAreClosed → ReachedAreLeast → NamesAreMeant → WalksAreRight → BodiesOfTextsFit
instances_fit closes leasts names walks u b is unit ends place i there =
    instance_fits closes leasts names u b (passed u b is) (right_parts walks u b is) unit ends place i there
