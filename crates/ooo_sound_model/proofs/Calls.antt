-- The calls of a bound model lie among the functions that its processes reach, and lead to functions of less.
use Rattle.std.proofs.Common.{◌≡◌, ◌∙◌, refl, sym, ap, subst, arith, ℕ, zero, suc, ◌<◌, List, [], ◌∷◌, length, Bool, true, false, Option, Some, None}
use Rattle.std.specs.Prelude.{All, Contains, IsSome, slice_get}
use Rattle.std.proofs.lemmas.List.Elements.{All-nil, All-contains, All-contains_itself, All-weaker, Contains-append_left, Contains-append_right}
use Rattle.std.proofs.lemmas.Option.{slice_get_within}
use Rattle.ooo_lemmas.proofs.Contained.{mapped_from}
use Rattle.ooo_time.specs.declared.time.Time.{Time}
use Rattle.ooo_value.specs.declared.bound.ProcessKind.{ProcessKind}
use Rattle.ooo_bound.specs.declared.model.Bound.{Bound}
use Rattle.ooo_bound.specs.declared.model.BoundFunction.{BoundFunction}
use Rattle.ooo_bound.specs.declared.model.BoundProcess.{BoundProcess}
use Rattle.ooo_checked.specs.declared.module.CheckedFunction.{CheckedFunction}
use Rattle.ooo_checked.specs.declared.module.CheckedSetup.{CheckedSetup}
use Rattle.ooo_checked.specs.declared.module.CheckedSetup.TheVariants as setup
use Rattle.ooo_checked.specs.declared.stat.CheckedStat.{CheckedStat}
use Rattle.ooo_checked.specs.declared.unit.CheckedUnit.{CheckedUnit}
use Rattle.ooo_constants.specs.Bodies.{body_calls}
use Rattle.ooo_constants.specs.declared.meaning.Meaning.{Meaning}
use Rattle.ooo_constants.specs.declared.meaning.Meaning.TheVariants as meaning
use Rattle.ooo_numbers.specs.Names.{Numbering, function_meant}
use Rattle.ooo_numbers.specs.Stats.{stats_of}
use Rattle.ooo_walk.specs.declared.state.ProcessForm.{ProcessForm}
use Rattle.ooo_walk.specs.declared.state.ProcessForm.TheVariants.{Clock, Registered}
use Rattle.ooo_walk.specs.declared.state.WalkedInstance.{WalkedInstance}
use Rattle.ooo_walk.specs.declared.state.WalkedProcess.{WalkedProcess}
use Rattle.ooo_walk.specs.Plans.{Filed, Viewed, function_at, view_at}
use Rattle.ooo_walk.specs.Reach.{calls_in, has, reached_by}
use Rattle.ooo_walk.specs.Texts.{file_of, walk_of}
use Rattle.ooo_elaborate.specs.declared.functions.WalkedFunction.{WalkedFunction}
use Rattle.ooo_elaborate.specs.declared.processes.Model.{Model}
use Rattle.ooo_elaborate.specs.Bindings.{links_of}
use Rattle.ooo_elaborate.specs.Elaborated.{assembled, model_of, process_functions, process_members}
use Rattle.ooo_elaborate.specs.Functions.{functions_in, numbered, setup_calls, setups_calls}
use Rattle.ooo_elaborate.specs.Processes.{body_in, members_in, numbering_in, functions_of, process_of, processes_of, registered_of, walked_function_of}
use Rattle.ooo_activation.specs.Kinds.{simples_in, calls_of}
use Rattle.ooo_sound_model.specs.Ranks.{FallsIn}
use Rattle.ooo_sound_walk.specs.Reached.{ReachedAreClosed, ReachedAreLeast}
use Rattle.ooo_sound_model.specs.Ends.{IsMeant, CallsMeant, IsClosed, AreClosed}
use Rattle.ooo_sound_model.specs.Bodies.{IsRegistration, IsRegistered, AreRegistered, FitsNumbered, FitsModule, FitInstances, HasOrder, is_thread, leave_of}
use Rattle.ooo_sound_model.specs.Calls.{CallsAreClosed, CallsFall, Falls}
use Rattle.ooo_sound_model.proofs.Lists.{has_at, has_place}
use Rattle.ooo_sound_model.proofs.Functions.{listed, function_found, function_made, functions_length, view_is, IsNamed, named, body_is}
use Rattle.ooo_sound_model.proofs.Clocks.{clock_calls}
use Rattle.ooo_sound_model.proofs.Numbering.{functions_are_numbered}
use Rattle.ooo_sound_model.proofs.Passed.{passed}
use Rattle.ooo_sound_model.proofs.Ways.{acyclic_falls}

-- ---- constructors

-- what a registered function calls is among the calls of the constructor's processes
pub registered_calls : (v : Viewed) (xs : List CheckedSetup) (place : ℕ) (k : ProcessKind) (x : ℕ) → IsRegistration k x (slice_get xs place) →
    (y : ℕ) → Contains (calls_in (function_at v x)) y → Contains (setups_calls v xs) y
registered_calls v [] place k x is y h = absurd is
registered_calls v (s ∷ xs) zero k x is y h = Contains-append_left (setup_calls v s) (setups_calls v xs) y (at s is)
  where
    at : (s : CheckedSetup) → IsRegistration k x (Some s) → Contains (setup_calls v s) y
    at (setup.Thread p r) is = subst (λ n. Contains (calls_in (function_at v n)) y) (sym is.1) h
    at (setup.Method p r) is = subst (λ n. Contains (calls_in (function_at v n)) y) (sym is.1) h
    at (setup.Sensitive p es) is = absurd is
    at (setup.DontInitialize p) is = absurd is
    at (setup.Bind b) is = absurd is
    at (setup.Set r e) is = absurd is
registered_calls v (s ∷ xs) (suc place) k x is y h =
    Contains-append_right (setup_calls v s) (setups_calls v xs) y (registered_calls v xs place k x is y h)

-- ---- calls of a body

pub some_is : (o : Option CheckedFunction) → IsSome o → (f : CheckedFunction) × (o ≡ Some f)
some_is (Some f) h = (f, refl)
some_is None h = absurd cc

-- a call of a numbered body is one by name
by_name : (b : Bound) (n : Numbering) (v : Viewed) (waits : Bool) (body : List CheckedStat) → FitsNumbered b n v waits body →
    (g : ℕ) → Contains (calls_of (simples_in (stats_of n body))) g →
    (x : ℕ) × Contains (body_calls body) x × (function_meant (slice_get n.members x) ≡ g)
by_name b n v waits body h g at =
    mapped_from (λ x. function_meant (slice_get n.members x)) (body_calls body) g
    (All-contains (Contains (leave_of n.members waits body).functions) (calls_of (simples_in (stats_of n body))) g h.fits.calls at)

called_function : (b : Bound) (n : Numbering) (v : Viewed) (waits : Bool) (body : List CheckedStat) → FitsNumbered b n v waits body →
    (x : ℕ) → Contains (body_calls body) x → (f : CheckedFunction) × (function_at v x ≡ Some f)
called_function b n v waits body h x at =
    some_is (function_at v x) (All-contains (λ y. IsSome (function_at v y)) (body_calls body) x h.calls at)

-- ---- processes

pub process_found : (f : Filed) (m : Model) (is : List WalkedInstance) (ps : List WalkedProcess) (p : ℕ) (x : WalkedProcess) (b : BoundProcess) →
    slice_get ps p ≡ Some x → slice_get (processes_of f m is ps) p ≡ Some b → process_of f m is x.form ≡ b
process_found f m is [] p x b at of = absurd cc
process_found f m is (y ∷ ps) zero x b at of =
    let same : y ≡ x = cc in let made : process_of f m is y.form ≡ b = cc in
    ap (λ (z : WalkedProcess). process_of f m is z.form) (sym same) ∙ made
process_found f m is (y ∷ ps) (suc p) x b at of = process_found f m is ps p x b at of

-- ---- a text

module _ (closes : ReachedAreClosed) (leasts : ReachedAreLeast) (f : Filed) (m : Model) (is : List WalkedInstance) (b : Bound) where
  abbrev members : ℕ → List Meaning
  members place = members_in (slice_get (numbered f is).instances place)

  -- what is asked of each instance
  abbrev FitHere : Type 0
  FitHere = (place : ℕ) (i : WalkedInstance) → slice_get is place ≡ Some i →
      ((x : ℕ) (g : CheckedFunction) → function_at (view_at f i.module_number) x ≡ Some g → x < length i.members)
      × FitsModule b (numbering_in m (members place)) (view_at f i.module_number)

  module _ (fit : FitHere) (place : ℕ) (i : WalkedInstance) (there : slice_get is place ≡ Some i) where
    abbrev here : Viewed
    here = view_at f i.module_number

    -- a name of what is reached means a function
    name_of : (x : ℕ) → has (functions_in here) x ≡ true → IsNamed f is place x
    name_of x among =
        let r = leasts here (setups_calls here here.setups) in
        let g = r.functions x among in
        named f is place i there x among ((fit place i there).0 x g.0 g.1)

    -- a call by name is of the function that the name means
    number_is : (x g : ℕ) → has (functions_in here) x ≡ true → function_meant (slice_get (members place) x) ≡ g →
        slice_get (members place) x ≡ Some (meaning.Function g)
    number_is x g among is =
        let r = name_of x among in
        r.means ∙ ap (λ n. Some (meaning.Function n)) (sym (ap function_meant r.means) ∙ is)

    -- the calls of a body are among names that are closed
    body_meant : (names : List ℕ) (waits : Bool) (body : List CheckedStat) → FitsNumbered b (numbering_in m (members place)) here waits body →
        ((x : ℕ) (g : CheckedFunction) → Contains (body_calls body) x → function_at here x ≡ Some g → has names x ≡ true) →
        ((x : ℕ) (g : CheckedFunction) → Contains (body_calls body) x → function_at here x ≡ Some g → has (functions_in here) x ≡ true) →
        CallsMeant (members place) names (stats_of (numbering_in m (members place)) body)
    body_meant names waits body h among reached =
        let n = numbering_in m (members place) in
        let calls = calls_of (simples_in (stats_of n body)) in
        All-weaker (Contains calls) (IsMeant (members place) names) (λ g at.
        let r = by_name b n here waits body h g at in
        let t = called_function b n here waits body h r.0 r.1 in
        let p = has_place names r.0 (among r.0 t.0 r.1 t.1) in record {
          place = p.0;
          name = r.0;
          listed = p.1;
          means = number_is r.0 g (reached r.0 t.0 r.1 t.1) r.2;
        }) calls (All-contains_itself calls)

    -- a function that is reached
    function_meant_is : (names : List ℕ) (x : ℕ) (g : CheckedFunction) → has (functions_in here) x ≡ true → function_at here x ≡ Some g →
        ((y : ℕ) (h : CheckedFunction) → Contains (body_calls g.body) y → function_at here y ≡ Some h → has names y ≡ true) →
        CallsMeant (members place) names (stats_of (numbering_in m (members place)) g.body)
    function_meant_is names x g among of more =
        body_meant names false g.body ((fit place i there).1.functions x g among of) more
        (λ y h at is. (closes here (setups_calls here here.setups)).others x g among of y h at is)

    -- what a process reaches is reached from its constructor
    reached_more : (k : ProcessKind) (at function : ℕ) → IsRegistration k function (slice_get here.setups at) →
        (y : ℕ) → has (reached_by here (calls_in (function_at here function))) y ≡ true → has (functions_in here) y ≡ true
    reached_more k at function by =
        let all = closes here (setups_calls here here.setups) in
        (leasts here (calls_in (function_at here function))).least (functions_in here)
        (λ y g c is. all.first y g (registered_calls here here.setups at k function by y c) is) all.others

    own_meant : (k : ProcessKind) (at function : ℕ) → IsRegistration k function (slice_get here.setups at) → (o : Option CheckedFunction) →
        function_at here function ≡ o →
        CallsMeant (members place) (reached_by here (calls_in o)) (stats_of (numbering_in m (members place)) (body_in o))
    own_meant k at function by None of = All-nil (IsMeant (members place) (reached_by here []))
    own_meant k at function by (Some g) of =
        let first = (closes here (calls_in (Some g))).first in
        body_meant (reached_by here (calls_in (Some g))) (is_thread k) g.body ((fit place i there).1.processes k at function g by of)
        (λ y h c is. first y h c is)
        (λ y h c is. reached_more k at function by y (subst (λ o. has (reached_by here (calls_in o)) y ≡ true) (sym of) (first y h c is)))

    other_meant : (k : ProcessKind) (at function : ℕ) → IsRegistration k function (slice_get here.setups at) →
        functions_of f m (numbered f is).instances (numbered f is).functions ≡ b.functions →
        let names = reached_by here (calls_in (function_at here function)) in
        (g : ℕ) (bf : BoundFunction) → IsMeant (members place) names g → slice_get b.functions g ≡ Some bf →
        CallsMeant (members place) names bf.body
    other_meant k at function by made g bf meant found =
        let n = numbered f is in
        let names = reached_by here (calls_in (function_at here function)) in
        let among = has_at names meant.place meant.name meant.listed in
        let reached = reached_more k at function by meant.name among in
        let h = (leasts here (calls_in (function_at here function))).functions meant.name among in
        let r = name_of meant.name reached in
        let same : r.number ≡ g = let e = sym r.means ∙ meant.means in cc in
        let placed : slice_get n.functions g ≡ Some (record { instance = place; function = meant.name }) =
        subst (λ j. slice_get n.functions j ≡ Some (record { instance = place; function = meant.name })) same r.at in
        let is_it : Some (walked_function_of f m n.instances (record { instance = place; function = meant.name })) ≡ Some bf =
        sym (function_made f m n.instances n.functions g _ placed) ∙ ap (λ xs. slice_get xs g) made ∙ found in
        let whole : walked_function_of f m n.instances (record { instance = place; function = meant.name }) ≡ bf = cc in
        let body : stats_of (numbering_in m (members place)) h.0.body ≡ bf.body =
        sym (body_is f m is place i there meant.name h.0 h.1) ∙ ap (λ (x : BoundFunction). x.body) whole in
        subst (CallsMeant (members place) names) body
        (function_meant_is names meant.name h.0 reached h.1
        (λ y q c is. (closes here (calls_in (function_at here function))).others meant.name h.0 among h.1 y q c is))

    registered_closed : (k : ProcessKind) (at function : ℕ) → IsRegistration k function (slice_get here.setups at) →
        functions_of f m (numbered f is).instances (numbered f is).functions ≡ b.functions →
        let form = Registered k place at function in
        IsClosed b (members place) (process_functions f (numbered f is).instances form) (process_of f m (numbered f is).instances form)
    registered_closed k at function by made =
        subst (λ (v : Viewed). IsClosed b (members place) (reached_by v (calls_in (function_at v function)))
        (registered_of m v (members place) k at function)) (sym (view_is f is place i (functions_are_numbered f is place i there))) (record {
          own = own_meant k at function by (function_at here function) refl;
          others = other_meant k at function by made;
        })

  clock_closed : (c : ℕ) (half : Time) (line : ℕ) →
      IsClosed b [] [] (process_of f m (numbered f is).instances (Clock c half line))
  clock_closed c half line = record {
    own = subst (All (IsMeant [] [])) (sym (clock_calls c half line)) (All-nil (IsMeant [] []));
    others = λ g bf meant found. absurd (let e = meant.listed in cc);
  }

  form_closed : FitHere → functions_of f m (numbered f is).instances (numbered f is).functions ≡ b.functions → (form : ProcessForm) →
      ((k : ProcessKind) (i place function : ℕ) → form ≡ Registered k i place function → IsRegistered f is k i place function) →
      IsClosed b (process_members (numbered f is).instances form) (process_functions f (numbered f is).instances form)
      (process_of f m (numbered f is).instances form)
  form_closed fit made (Clock c half line) registered = clock_closed c half line
  form_closed fit made (Registered k i at function) registered =
      let r = registered k i at function refl in registered_closed fit i r.instance r.there k at function r.by made

made_closed : ReachedAreClosed → ReachedAreLeast → (u : CheckedUnit) (b : Bound) →
    let w = walk_of u in assembled (file_of u) w (links_of w) (numbered (file_of u) w.instances) ≡ b →
    AreRegistered (file_of u) w → FitInstances u b →
    AreClosed (file_of u) (numbered (file_of u) w.instances).instances w.processes b
made_closed closes leasts u b is registered fit p x process at found =
    let w = walk_of u in
    let f = file_of u in
    let m = model_of w (links_of w) in
    let n = numbered f w.instances in
    let there : slice_get (processes_of f m n.instances w.processes) p ≡ Some process =
    ap (λ (y : Bound). slice_get y.processes p) is ∙ found in
    subst (λ (y : BoundProcess). IsClosed b (process_members n.instances x.form) (process_functions f n.instances x.form) y)
    (process_found f m n.instances w.processes p x process at there)
    (form_closed closes leasts f m w.instances b (λ place i here. ((fit place i here).named, (fit place i here).bodies))
    (ap (λ (y : Bound). y.functions) is) x.form (λ k i place function of. registered p x k i place function at of))

pub calls_are_closed : ReachedAreClosed → ReachedAreLeast → CallsAreClosed
calls_are_closed closes leasts u b is = made_closed closes leasts u b (passed u b is).is

-- ---- a measure of functions

module _ (f : Filed) (orders : (n : ℕ) → HasOrder (view_at f n)) (is : List WalkedInstance) where
  -- that of the function's name in its module
  rank_at : Option WalkedInstance → ℕ → ℕ
  rank_at None x = 0
  rank_at (Some i) x = (acyclic_falls (orders i.module_number).calls (orders i.module_number).no_cycle).measure x

  rank_in : Option WalkedFunction → ℕ
  rank_in None = 0
  rank_in (Some x) = rank_at (slice_get is x.instance) x.function

  -- a function that has a name, in an instance that is there
  rank_is : (g place name : ℕ) (i : WalkedInstance) → slice_get (numbered f is).functions g ≡ Some (record { instance = place; function = name }) →
      slice_get is place ≡ Some i →
      rank_in (slice_get (numbered f is).functions g) ≡ (acyclic_falls (orders i.module_number).calls (orders i.module_number).no_cycle).measure name
  unfolding rank_in rank_at
  rank_is g place name i at there = ap rank_in at ∙ ap (λ o. rank_at o name) there

  module _ (closes : ReachedAreClosed) (leasts : ReachedAreLeast) (m : Model) (b : Bound) (fit : FitHere closes leasts f m is b) where
    function_falls : (place : ℕ) (i : WalkedInstance) → slice_get is place ≡ Some i → (g name : ℕ) (c : CheckedFunction) →
        slice_get (numbered f is).functions g ≡ Some (record { instance = place; function = name }) →
        has (functions_in (view_at f i.module_number)) name ≡ true → function_at (view_at f i.module_number) name ≡ Some c →
        (h : ℕ) → Contains (calls_of (simples_in (stats_of (numbering_in m (members_in (slice_get (numbered f is).instances place))) c.body))) h →
        (h < length (numbered f is).functions) × (rank_in (slice_get (numbered f is).functions h) < rank_in (slice_get (numbered f is).functions g))
    function_falls place i there g name c at among of h calls =
        let n = numbering_in m (members_in (slice_get (numbered f is).instances place)) in
        let v = view_at f i.module_number in
        let good : FitsNumbered b n v false c.body = (fit place i there).1.functions name c among of in
        let r = by_name b n v false c.body good h calls in
        let t = called_function b n v false c.body good r.0 r.1 in
        let reached = (closes v (setups_calls v v.setups)).others name c among of r.0 t.0 r.1 t.1 in
        let d = name_of closes leasts f m is b fit place i there r.0 reached in
        let same : d.number ≡ h = sym (ap function_meant d.means) ∙ r.2 in
        let placed : slice_get (numbered f is).functions h ≡ Some (record { instance = place; function = r.0 }) =
        subst (λ j. slice_get (numbered f is).functions j ≡ Some (record { instance = place; function = r.0 })) same d.at in
        let order = orders i.module_number in
        let falls = (acyclic_falls order.calls order.no_cycle).falls (record { from = name; to = r.0 }) (order.all name r.0 c of r.1) in
        let low = rank_is h place r.0 i placed there in
        let high = rank_is g place name i at there in
        (slice_get_within (numbered f is).functions h _ placed, omega (arith, falls, low, high))

    all_fall : functions_of f m (numbered f is).instances (numbered f is).functions ≡ b.functions →
        FallsIn b.functions (λ g. rank_in (slice_get (numbered f is).functions g))
    all_fall made g h bf found calls =
        let n = numbered f is in
        let there : slice_get (functions_of f m n.instances n.functions) g ≡ Some bf = ap (λ xs. slice_get xs g) made ∙ found in
        let x = function_found f m n.instances n.functions g bf there in
        let l = listed f is g x.0 x.1 in
        let v = view_at f l.instance.module_number in
        let c = (leasts v (setups_calls v v.setups)).functions x.0.function l.among in
        let body : bf.body ≡ stats_of (numbering_in m (members_in (slice_get n.instances x.0.instance))) c.0.body =
        ap (λ (y : BoundFunction). y.body) (sym x.2) ∙ body_is f m is x.0.instance l.instance l.there x.0.function c.0 c.1 in
        let falls = function_falls x.0.instance l.instance l.there g x.0.function c.0 x.1 l.among c.1 h
        (subst (λ ss. Contains (calls_of (simples_in ss)) h) body calls) in
        let all : length b.functions ≡ length n.functions = ap length (sym made) ∙ functions_length f m n.instances n.functions in
        let within = falls.0 in
        (omega (arith, all, within), falls.1)

made_falls : ReachedAreClosed → ReachedAreLeast → (u : CheckedUnit) (b : Bound) →
    let w = walk_of u in assembled (file_of u) w (links_of w) (numbered (file_of u) w.instances) ≡ b → FitInstances u b →
    ((n : ℕ) → HasOrder (view_at (file_of u) n)) → Falls b.functions
made_falls closes leasts u b is fit orders =
    let w = walk_of u in
    let f = file_of u in
    record {
      measure = λ g. rank_in f orders w.instances (slice_get (numbered f w.instances).functions g);
      falls = all_fall f orders w.instances closes leasts (model_of w (links_of w)) b
          (λ place i here. ((fit place i here).named, (fit place i here).bodies)) (ap (λ (y : Bound). y.functions) is);
    }

pub calls_fall : ReachedAreClosed → ReachedAreLeast → CallsFall
calls_fall closes leasts u b is = made_falls closes leasts u b (passed u b is).is
