-- The names of each instance mean what its module declares.
use Rattle.std.proofs.Common.{◌≡◌, ◌∙◌, refl, sym, ap, subst, arith, ℕ, zero, suc, ◌+◌, ◌-◌, ◌<◌, List, [], ◌∷◌, ◌++◌, map, length, append_assoc, Bool, true, false, Option, Some, None, slice_set, ◌⊎◌, inl, inr}
use Rattle.std.specs.Prelude.{IsSome, Contains, slice_get, nat_le, if◌then◌else◌, is_some, ⊤}
use Rattle.std.specs.List.{AllZip, AllByRecursion}
use Rattle.std.proofs.lemmas.List.{append-nil}
use Rattle.ooo_lexer.specs.declared.position.Position.{Position}
use Rattle.ooo_value.specs.declared.bound.BoundVariable.{BoundVariable}
use Rattle.ooo_value.specs.declared.bound.BoundEvent.TheVariants as event
use Rattle.ooo_value.specs.declared.kinds.Kind.{Kind}
use Rattle.ooo_value.specs.declared.kinds.Kind.TheVariants as kind
use Rattle.ooo_syntax.specs.declared.leaves.Word.{Word}
use Rattle.ooo_syntax.specs.declared.module.ChannelWord.{ChannelWord}
use Rattle.ooo_syntax.specs.declared.module.ChannelWord.TheVariants as channel_word
use Rattle.ooo_syntax.specs.declared.module.PortWord.{PortWord}
use Rattle.ooo_syntax.specs.declared.module.PortWord.TheVariants as port_word
use Rattle.ooo_checked.specs.declared.denotation.Direction.TheVariants as direction
use Rattle.ooo_checked.specs.declared.denotation.Resolved.{Resolved}
use Rattle.ooo_checked.specs.declared.denotation.Thing.{Thing}
use Rattle.ooo_checked.specs.declared.denotation.Thing.TheVariants as thing
use Rattle.ooo_checked.specs.declared.module.CheckedField.{CheckedField}
use Rattle.ooo_checked.specs.declared.module.CheckedFieldForm.{CheckedFieldForm}
use Rattle.ooo_checked.specs.declared.module.CheckedFieldForm.TheVariants as form
use Rattle.ooo_checked.specs.declared.module.CheckedMember.{CheckedMember}
use Rattle.ooo_checked.specs.declared.module.CheckedMember.TheVariants as member
use Rattle.ooo_checked.specs.declared.module.CheckedPart.{CheckedPart}
use Rattle.ooo_checked.specs.Exprs.{kind_written}
use Rattle.ooo_constants.specs.declared.meaning.Meaning.{Meaning}
use Rattle.ooo_constants.specs.declared.meaning.Meaning.TheVariants as meaning
use Rattle.ooo_constants.specs.Meanings.{zero_of}
use Rattle.ooo_walk.specs.declared.refusal.ElabBreach.{ElabBreach}
use Rattle.ooo_walk.specs.declared.refusal.ElabBreach.TheVariants as what
use Rattle.ooo_walk.specs.declared.refusal.Refusal.{Refusal}
use Rattle.ooo_walk.specs.declared.state.Evaluated.{Evaluated}
use Rattle.ooo_walk.specs.declared.state.Here.{Here}
use Rattle.ooo_walk.specs.declared.state.Walk.{Walk}
use Rattle.ooo_walk.specs.declared.state.WalkedChannel.{WalkedChannel}
use Rattle.ooo_walk.specs.declared.state.WalkedInstance.{WalkedInstance}
use Rattle.ooo_walk.specs.declared.state.WalkedPort.{WalkedPort}
use Rattle.ooo_walk.specs.States.{refused, unless_refused, after_start, evaluated, option_evaluated, full_name, in_order, meant, most_cells, known_here, start_value, with_cells, with_object, with_variable}
use Rattle.ooo_walk.specs.Members.{scalar_of, array_with, elements_of, length_of, field_with, field_of, fifo_with, size_of, part_of, port_of, event_of, initial_here, value_among, args_given, constant_of, constants_to, initialised, statics_by, statics_of, with_static, no_static}
use Rattle.ooo_walk.specs.Instances.{Inside, port_form, after_args, entered, values_from, counting, instance_with, child_of, member_of, inside_of, args_evaluated}
use Rattle.ooo_checked.specs.declared.module.CheckedConstant.{CheckedConstant}
use Rattle.ooo_checked.specs.declared.module.CheckedChildren.{CheckedChildren}
use Rattle.ooo_walk.specs.Plans.{Filed, Viewed, view_at, init_args}
use Rattle.ooo_walk.specs.Setups.{setups_from}
use Rattle.ooo_walk.specs.Texts.{at_first, item_of, main_item_of, start_of, file_of}
use Rattle.std.proofs.lemmas.List.Elements.{Contains-append_right}
use Rattle.ooo_lemmas.proofs.Placed.{kept_at, at_end}
use Rattle.ooo_checked.specs.declared.module.CheckedArg.{CheckedArg}
use Rattle.ooo_checked.specs.declared.unit.CheckedMainItem.{CheckedMainItem}
use Rattle.ooo_checked.specs.declared.unit.CheckedMainItem.TheVariants as main_item
use Rattle.ooo_sound_walk.specs.Names.{IsVariable, IsPort, IsOf, field_thing, channel_thing, things_in, things_of, IsFilled, NamesAreMeant}
use Rattle.ooo_sound_walk.proofs.Walked.{IsKept, IsKeptBehind, IsQuiet, start_keeps, object_keeps, cells_keep, in_order_keeps, field_keeps, part_keeps, port_keeps, event_keeps, constant_keeps, meant_keeps, args_keep, statics_keep, setups_keep, fixed_keeps, word_keeps, clock_item_keeps, bind_keeps, item_keeps, start_form_keeps}

-- ---- walks that grow

-- what is declared stays, and what is refused stays refused
pub record GrowsTo (w v : Walk) : Type 0 where
  pub variables : (x : ℕ) → IsSome (slice_get w.variables x) → IsSome (slice_get v.variables x)
  pub channels : (c : ℕ) (d : WalkedChannel) → slice_get w.channels c ≡ Some d → slice_get v.channels c ≡ Some d
  pub ports : (p : ℕ) (q : WalkedPort) → slice_get w.ports p ≡ Some q → slice_get v.ports p ≡ Some q
  pub events : (e : ℕ) → slice_get w.events e ≡ Some event.Own → slice_get v.events e ≡ Some event.Own
  pub instances : (i : ℕ) (j : WalkedInstance) → slice_get w.instances i ≡ Some j → slice_get v.instances i ≡ Some j
  pub refusal : v.refusal ≡ None → w.refusal ≡ None

pub stays : (w : Walk) → GrowsTo w w
stays w = record {
  variables = λ x h. h;
  channels = λ c d h. h;
  ports = λ p q h. h;
  events = λ e h. h;
  instances = λ i j h. h;
  refusal = λ h. h;
}

pub grows_on : (u v w : Walk) → GrowsTo u v → GrowsTo v w → GrowsTo u w
grows_on u v w a b = record {
  variables = λ x h. b.variables x (a.variables x h);
  channels = λ c d h. b.channels c d (a.channels c d h);
  ports = λ p q h. b.ports p q (a.ports p q h);
  events = λ e h. b.events e (a.events e h);
  instances = λ i j h. b.instances i j (a.instances i j h);
  refusal = λ h. a.refusal (b.refusal h);
}

-- a walk whose parts are those of another
same_walk : (w v v' : Walk) → v'.variables ≡ v.variables → v'.channels ≡ v.channels → v'.ports ≡ v.ports → v'.events ≡ v.events →
    v'.instances ≡ v.instances → v'.refusal ≡ v.refusal → GrowsTo w v → GrowsTo w v'
same_walk w v v' vs cs ps es is r h = record {
  variables = λ x g. subst (λ xs. IsSome (slice_get xs x)) (sym vs) (h.variables x g);
  channels = λ c d g. ap (λ xs. slice_get xs c) cs ∙ h.channels c d g;
  ports = λ p q g. ap (λ xs. slice_get xs p) ps ∙ h.ports p q g;
  events = λ e g. ap (λ xs. slice_get xs e) es ∙ h.events e g;
  instances = λ i j g. ap (λ xs. slice_get xs i) is ∙ h.instances i j g;
  refusal = λ g. h.refusal (sym r ∙ g);
}

some_kept : {A : Type 0} (xs ys : List A) (i : ℕ) → IsSome (slice_get xs i) → IsSome (slice_get (xs ++ ys) i)
some_kept [] ys i h = absurd cc
some_kept (x ∷ xs) ys zero h = refl
some_kept (x ∷ xs) ys (suc i) h = some_kept xs ys i h

some_set : {A : Type 0} (xs : List A) (j : ℕ) (a : A) (i : ℕ) → IsSome (slice_get xs i) → IsSome (slice_get (slice_set xs j a) i)
some_set [] j a i h = h
some_set (x ∷ xs) zero a zero h = refl
some_set (x ∷ xs) zero a (suc i) h = h
some_set (x ∷ xs) (suc j) a zero h = refl
some_set (x ∷ xs) (suc j) a (suc i) h = some_set xs j a i h

module _ (w : Walk) where
  quiet_grows : IsQuiet (GrowsTo w)
  quiet_grows = record {
    refusal = λ v r h. record {
      variables = h.variables;
      channels = h.channels;
      ports = h.ports;
      events = h.events;
      instances = h.instances;
      refusal = λ g. absurd cc;
    };
    objects = λ v n h. same_walk w v _ refl refl refl refl refl refl h;
    cells = λ v n h. same_walk w v _ refl refl refl refl refl refl h;
    file = λ v ms h. same_walk w v _ refl refl refl refl refl refl h;
    stop = λ v t h. same_walk w v _ refl refl refl refl refl refl h;
    opens_process = λ v k place function name h. same_walk w v _ refl refl refl refl refl refl h;
    resets = λ v x b a is of h. record {
      variables = λ y g. some_set v.variables x _ y (h.variables y g);
      channels = h.channels;
      ports = h.ports;
      events = h.events;
      instances = h.instances;
      refusal = h.refusal;
    };
    binding = λ v b h. same_walk w v _ refl refl refl refl refl refl h;
  }

  pub kept_grows : IsKept (GrowsTo w)
  kept_grows = record {
    quiet = quiet_grows;
    here = λ v i h. same_walk w v _ refl refl refl refl refl refl h;
    variable = λ v x fits h. record {
      variables = λ y g. some_kept v.variables _ y (h.variables y g);
      channels = h.channels;
      ports = h.ports;
      events = h.events;
      instances = h.instances;
      refusal = h.refusal;
    };
    opens_channel = λ v b is_clock at name fits h. record {
      variables = h.variables;
      channels = λ c d g. kept_at v.channels _ c d (h.channels c d g);
      ports = h.ports;
      events = λ e g. kept_at v.events _ e event.Own (h.events e g);
      instances = h.instances;
      refusal = h.refusal;
    };
    clock = λ v half line at name within h. record {
      variables = h.variables;
      channels = λ c d g. kept_at v.channels _ c d (h.channels c d g);
      ports = h.ports;
      events = λ e g. kept_at v.events _ e event.Own (h.events e g);
      instances = h.instances;
      refusal = h.refusal;
    };
    port = λ v t at name h. record {
      variables = h.variables;
      channels = h.channels;
      ports = λ p q g. kept_at v.ports _ p q (h.ports p q g);
      events = h.events;
      instances = h.instances;
      refusal = h.refusal;
    };
    opens_event = λ v h. record {
      variables = h.variables;
      channels = h.channels;
      ports = h.ports;
      events = λ e g. kept_at v.events _ e event.Own (h.events e g);
      instances = h.instances;
      refusal = h.refusal;
    };
  }

  pub behind_grows : IsKeptBehind (GrowsTo w)
  behind_grows v i h = record {
    variables = h.variables;
    channels = h.channels;
    ports = h.ports;
    events = h.events;
    instances = λ j k g. kept_at v.instances _ j k (h.instances j k g);
    refusal = h.refusal;
  }

-- steps that begin no instance leave the instances, and steps that declare nothing leave what the names mean
pub same_instances : (is : List WalkedInstance) → IsKept (λ w. w.instances ≡ is)
same_instances is = record {
  quiet = record {
    refusal = λ w r h. h;
    objects = λ w n h. h;
    cells = λ w n h. h;
    file = λ w ms h. h;
    stop = λ w t h. h;
    opens_process = λ w k place function name h. h;
    resets = λ w x b v at of h. h;
    binding = λ w b h. h;
  };
  here = λ w i h. h;
  variable = λ w x fits h. h;
  opens_channel = λ w b is_clock at name fits h. h;
  clock = λ w half line at name within h. h;
  port = λ w t at name h. h;
  opens_event = λ w h. h;
}

pub same_here : (here : Here) → IsQuiet (λ w. w.here ≡ here)
same_here here = record {
  refusal = λ w r h. h;
  objects = λ w n h. h;
  cells = λ w n h. h;
  file = λ w ms h. h;
  stop = λ w t h. h;
  opens_process = λ w k place function name h. h;
  resets = λ w x b v at of h. h;
  binding = λ w b h. h;
}

-- ---- what names mean goes on

pub is_of_grows : (w v : Walk) → GrowsTo w v → (t : Thing) (m : Meaning) → IsOf w t m → IsOf v t m
is_of_grows w v g (thing.Variable k) m h = record { number = h.number; means = h.means; there = g.variables h.number h.there }
is_of_grows w v g (thing.Array k) m h = record { number = h.number; means = h.means; there = g.variables h.number h.there }
is_of_grows w v g (thing.FixedArray k) m h = record { number = h.number; means = h.means; there = g.variables h.number h.there }
is_of_grows w v g (thing.Signal k) m h = record {
  number = h.number;
  means = h.means;
  channel = h.channel;
  there = g.channels h.number h.channel h.there;
  kind = h.kind;
  value = h.value;
}
is_of_grows w v g (thing.Fifo k) m h = record {
  number = h.number;
  means = h.means;
  channel = h.channel;
  there = g.channels h.number h.channel h.there;
  kind = h.kind;
  value = h.value;
}
is_of_grows w v g (thing.SignalPort d k) m h =
    record { number = h.number; means = h.means; port = h.port; there = g.ports h.number h.port h.there; form = h.form }
is_of_grows w v g (thing.FifoIn k) m h =
    record { number = h.number; means = h.means; port = h.port; there = g.ports h.number h.port h.there; form = h.form }
is_of_grows w v g (thing.FifoOut k) m h =
    record { number = h.number; means = h.means; port = h.port; there = g.ports h.number h.port h.there; form = h.form }
is_of_grows w v g thing.Event m h = record { number = h.number; means = h.means; there = g.events h.number h.there }
is_of_grows w v g (thing.Instance n) m h = record {
  number = h.number;
  means = h.means;
  instance = h.instance;
  there = g.instances h.number h.instance h.there;
  module_number = h.module_number;
}
is_of_grows w v g _ m h = tt

pub zip_grows : (w v : Walk) → GrowsTo w v → (ts : List Thing) (ms : List Meaning) → AllZip (IsOf w) ts ms → AllZip (IsOf v) ts ms
zip_grows w v g [] [] h = tt
zip_grows w v g [] (m ∷ ms) h = absurd h
zip_grows w v g (t ∷ ts) [] h = absurd h
zip_grows w v g (t ∷ ts) (m ∷ ms) h = (is_of_grows w v g t m h.0, zip_grows w v g ts ms h.1)

zip_append : (w : Walk) (ts us : List Thing) (ms ns : List Meaning) → AllZip (IsOf w) ts ms → AllZip (IsOf w) us ns →
    AllZip (IsOf w) (ts ++ us) (ms ++ ns)
zip_append w [] us [] ns h g = g
zip_append w [] us (m ∷ ms) ns h g = absurd h
zip_append w (t ∷ ts) us [] ns h g = absurd h
zip_append w (t ∷ ts) us (m ∷ ms) ns h g = (h.0, zip_append w ts us ms ns h.1 g)

-- ---- steps

-- the names that a step adds to what is walked
pub record Added (w v : Walk) (ts : List Thing) : Type 0 where
  pub means : List Meaning
  pub is : v.here.members ≡ w.here.members ++ means
  pub fits : AllZip (IsOf v) ts means

abbrev pub AddsNames : (Walk → Walk) → List Thing → Type 0
AddsNames f ts = (w : Walk) → (f w).refusal ≡ None → Added w (f w) ts

one_added : (w v : Walk) (t : Thing) (m : Meaning) → v.here.members ≡ w.here.members ++ m ∷ [] → IsOf v t m → Added w v (t ∷ [])
one_added w v t m is fits = record { means = m ∷ []; is = is; fits = (fits, tt) }

-- what is refused adds nothing
pub not_refused : (breach : ElabBreach) (at : Position) (name : List ℕ) (w : Walk) → (refused breach at name w).refusal ≡ None → ⊥
not_refused breach at name w = by w.refusal refl
  where
    by : (o : Option Refusal) → w.refusal ≡ o → (let v : Walk = elim o [
      | None ↦ record w { refusal = Some (record { what = breach; at = at; names = name ∷ [] }) }
      | Some r ↦ w
    ] in v.refusal ≡ None) → ⊥
    by None is h = absurd cc
    by (Some r) is h = let e : None ≡ Some r = sym h ∙ is in cc

-- what stays behind steps that declare nothing
object_here : (at : Position) (name : List ℕ) (w : Walk) → (with_object at name w).here ≡ w.here
object_here at name w = object_keeps (λ v. v.here ≡ w.here) (same_here w.here) at name w refl

start_here : (name : List ℕ) (declared initial : Option Evaluated) (v : Walk) (here : Here) → v.here ≡ here →
    (after_start name declared initial v).here ≡ here
start_here name declared initial v here is = start_keeps (λ u. u.here ≡ here) (same_here here) name declared initial v is

cells_here : (n : ℕ) (at : Position) (name : List ℕ) (v : Walk) (here : Here) → v.here ≡ here → (with_cells n at name v).here ≡ here
cells_here n at name v here is = cells_keep (λ u. u.here ≡ here) (same_here here) n at name v is

-- what is declared behind a walk that knows the same
behind : (w v : Walk) (m : Meaning) → v.here ≡ w.here → v.here.members ++ m ∷ [] ≡ w.here.members ++ m ∷ []
behind w v m is = ap (λ (h : Here). h.members ++ m ∷ []) is

variable_there : (w v : Walk) (x : BoundVariable) → v.here ≡ w.here → (t : Thing) →
    (IsVariable (with_variable x v) (meaning.Variable (length v.variables)) → IsOf (with_variable x v) t (meaning.Variable (length v.variables))) →
    Added w (with_variable x v) (t ∷ [])
variable_there w v x is t of =
    one_added w (with_variable x v) t (meaning.Variable (length v.variables)) (behind w v _ is)
    (of (record { number = length v.variables; means = refl; there = subst IsSome (sym (at_end v.variables x)) refl }))

scalar_adds : (j : Kind) (word : Word) (declared initial : Option Evaluated) (w : Walk) →
    Added w (scalar_of j word declared initial w) (thing.Variable j ∷ [])
scalar_adds j word declared initial w =
    let name = full_name w word.name in
    let w1 = with_object word.position name w in
    let w2 = after_start name declared initial w1 in
    let w3 = with_cells 1 word.position name w2 in
    variable_there w w3 _ (cells_here 1 word.position name w2 w.here (start_here name declared initial w1 w.here (object_here word.position name w)))
    (thing.Variable j) (λ h. h)

fixed_adds : (t : Thing) (m : Meaning) (w v : Walk) → v.here ≡ w.here → IsOf (meant m v) t m → Added w (meant m v) (t ∷ [])
fixed_adds t m w v is of = one_added w (meant m v) t m (behind w v m is) of

-- an array's elements, where there is room for them
abbrev elements_if : Bool → Kind → ℕ → Position → List ℕ → Walk → Walk
elements_if b j n at name v =
    if b then with_variable (record { kind = j; length = n; start = zero_of j }) (record v { cells = v.cells + n })
    else refused what.TooManyCells at name v

elements_by : (b : Bool) (t : Thing) (j : Kind) (n : ℕ) (at : Position) (name : List ℕ) (w v : Walk) → v.here ≡ w.here →
    ((u : Walk) (m : Meaning) → IsVariable u m → IsOf u t m) → (elements_if b j n at name v).refusal ≡ None →
    Added w (elements_if b j n at name v) (t ∷ [])
elements_by true t j n at name w v is of h = variable_there w (record v { cells = v.cells + n }) _ is t (of _ _)
elements_by false t j n at name w v is of h = absurd (not_refused what.TooManyCells at name v h)

elements_add : (t : Thing) (j : Kind) (n : ℕ) (at : Position) (name : List ℕ) (w v : Walk) → v.here ≡ w.here →
    ((u : Walk) (m : Meaning) → IsVariable u m → IsOf u t m) → (elements_of j n at name v).refusal ≡ None →
    Added w (elements_of j n at name v) (t ∷ [])
elements_add t j n at name w v is of h = elements_by (nat_le n (most_cells - v.cells)) t j n at name w v is of h

array_adds : (t : Thing) (j : Kind) (o : Option ℕ) (at expression : Position) (name : List ℕ) (w v : Walk) → v.here ≡ w.here →
    ((u : Walk) (m : Meaning) → IsVariable u m → IsOf u t m) → (array_with j o at expression name v).refusal ≡ None →
    Added w (array_with j o at expression name v) (t ∷ [])
array_adds t j None at expression name w v is of h = absurd (not_refused what.BadConstant expression name v h)
array_adds t j (Some n) at expression name w v is of h = elements_add t j n at name w v is of h

form_adds : (v : Viewed) (is_const : Bool) (j : Kind) (word : Word) (f : CheckedFieldForm) (w : Walk) →
    (field_with v is_const j word f w).refusal ≡ None → Added w (field_with v is_const j word f w) (field_thing is_const j f ∷ [])
form_adds v true j word form.Plain w h =
    let name = full_name w word.name in
    let initial = initial_here v w in
    fixed_adds (thing.Fixed j false) (meaning.Constant (start_value j None initial)) w (after_start name None initial w)
    (start_here name None initial w w.here refl) tt
form_adds v true j word (form.Value e) w h =
    let name = full_name w word.name in
    let initial = initial_here v w in
    let declared = Some (evaluated (known_here w) e) in
    fixed_adds (thing.Fixed j false) (meaning.Constant (start_value j declared initial)) w (after_start name declared initial w)
    (start_here name declared initial w w.here refl) tt
form_adds v false j word form.Plain w h = scalar_adds j word None (initial_here v w) w
form_adds v false j word (form.Value e) w h = scalar_adds j word (Some (evaluated (known_here w) e)) (initial_here v w) w
form_adds v true j word (form.Length e) w h =
    let name = full_name w word.name in
    let e' = evaluated (known_here w) e in
    array_adds (thing.FixedArray j) j (length_of e'.answer) word.position e'.at name w (with_object word.position name w)
    (object_here word.position name w) (λ u m g. g) h
form_adds v false j word (form.Length e) w h =
    let name = full_name w word.name in
    let e' = evaluated (known_here w) e in
    array_adds (thing.Array j) j (length_of e'.answer) word.position e'.at name w (with_object word.position name w)
    (object_here word.position name w) (λ u m g. g) h

field_adds : (v : Viewed) (is_const : Bool) (j : Kind) (x : CheckedField) → AddsNames (field_of v is_const j x) (field_thing is_const j x.form ∷ [])
field_adds v is_const j x w h = form_adds v is_const j x.name.word x.form w h

port_there : (p : Thing) (r : Resolved) (w : Walk) → IsPort (port_of p r w) p (meaning.Port (length w.ports))
port_there p r w =
    record { number = length w.ports; means = refl; port = _; there = at_end w.ports _; form = refl }

port_adds : (p : PortWord) (j : Kind) (r : Resolved) → AddsNames (port_of (port_form p j) r) (port_form p j ∷ [])
port_adds port_word.In j r w h = one_added w _ _ _ refl (port_there (port_form port_word.In j) r w)
port_adds port_word.Out j r w h = one_added w _ _ _ refl (port_there (port_form port_word.Out j) r w)
port_adds port_word.Inout j r w h = one_added w _ _ _ refl (port_there (port_form port_word.Inout j) r w)
port_adds port_word.FifoIn j r w h = one_added w _ _ _ refl (port_there (port_form port_word.FifoIn j) r w)
port_adds port_word.FifoOut j r w h = one_added w _ _ _ refl (port_there (port_form port_word.FifoOut j) r w)

clock_port_adds : (r : Resolved) → AddsNames (port_of (thing.SignalPort direction.In kind.Bool) r) (thing.SignalPort direction.In kind.Bool ∷ [])
clock_port_adds r w h = one_added w _ _ _ refl (port_there (thing.SignalPort direction.In kind.Bool) r w)

fifo_adds : (j : Kind) (o : Option ℕ) (at : Position) (name : List ℕ) (w v : Walk) → v.here ≡ w.here →
    (fifo_with j o at name v).refusal ≡ None → Added w (fifo_with j o at name v) (thing.Fifo j ∷ [])
fifo_adds j None at name w v is h = absurd (not_refused what.FifoSize at name v h)
fifo_adds j (Some n) at name w v is h =
    one_added w _ (thing.Fifo j) (meaning.Channel (length v.channels)) (behind w v _ is) (record {
      number = length v.channels;
      means = refl;
      channel = _;
      there = at_end v.channels _;
      kind = refl;
      value = refl;
    })

part_adds : (v : Viewed) (c : ChannelWord) (j : Kind) (p : CheckedPart) → AddsNames (part_of v c j p) (channel_thing c j ∷ [])
part_adds v channel_word.Signal j p w h =
    let w1 = with_object p.name.word.position (full_name w p.name.word.name) w in
    one_added w _ (thing.Signal j) (meaning.Channel (length w1.channels)) (behind w w1 _ (object_here p.name.word.position _ w)) (record {
      number = length w1.channels;
      means = refl;
      channel = _;
      there = at_end w1.channels _;
      kind = refl;
      value = refl;
    })
part_adds v channel_word.Fifo j p w h =
    let name = full_name w p.name.word.name in
    let declared = option_evaluated (known_here w) (value_among (args_given p.args)) in
    let initial = initial_here v w in
    let w1 = with_object p.name.word.position name w in
    fifo_adds j (size_of declared initial) p.name.word.position name w (after_start name declared initial w1)
    (start_here name declared initial w1 w.here (object_here p.name.word.position name w)) h

event_adds : (r : Resolved) → AddsNames (event_of r) (thing.Event ∷ [])
event_adds r w h =
    let w1 = with_object r.word.position (full_name w r.word.name) w in
    one_added w _ thing.Event (meaning.Event (length w1.events)) (behind w w1 _ (object_here r.word.position _ w))
    (record { number = length w1.events; means = refl; there = at_end w1.events event.Own })

constant_adds : (v : Viewed) (c : CheckedConstant) → AddsNames (constant_of v c) (thing.Fixed (kind_written c.form.form) c.is_static ∷ [])
constant_adds v c w h =
    let name = full_name w c.name.word.name in
    let j = kind_written c.form.form in
    let known = constants_to c.is_static w in
    let declared = Some (evaluated known c.value) in
    let initial = option_evaluated known (initialised v w) in
    fixed_adds (thing.Fixed j c.is_static) (meaning.Constant (start_value j declared initial)) w (after_start name declared initial w)
    (start_here name declared initial w w.here refl) tt

-- ---- instances

at_split : {A : Type 0} (xs : List A) (x : A) (k : ℕ) (y : A) → slice_get (xs ++ x ∷ []) k ≡ Some y → (slice_get xs k ≡ Some y) ⊎ (x ≡ y)
at_split [] x zero y h = inr cc
at_split [] x (suc k) y h = absurd cc
at_split (z ∷ xs) x zero y h = inl h
at_split (z ∷ xs) x (suc k) y h = at_split xs x k y h

abbrev joined : {A : Type 0} → (A → List Thing) → List A → List Thing
joined t [] = []
joined t (x ∷ xs) = t x ++ joined t xs

joined_ones : {A : Type 0} (g : A → Thing) (xs : List A) → joined (λ x. g x ∷ []) xs ≡ map g xs
joined_ones g [] = refl
joined_ones g (x ∷ xs) = ap (λ ts. g x ∷ ts) (joined_ones g xs)

joined_things : (ms : List CheckedMember) → joined things_in ms ≡ things_of ms
joined_things [] = refl
joined_things (m ∷ ms) = ap (λ ts. things_in m ++ ts) (joined_things ms)

each_of : {A : Type 0} (P : A → Type 0) → ((x : A) → P x) → (xs : List A) → AllByRecursion P xs
each_of P h [] = tt
each_of P h (x ∷ xs) = (h x, each_of P h xs)

refused_some : (w : Walk) → is_some w.refusal ≡ true → w.refusal ≡ None → ⊥
refused_some w is h = let e : false ≡ true = sym (ap (λ o. is_some o) h) ∙ is in cc

module _ (file : Filed) where
  abbrev AllFilled : Walk → Type 0
  AllFilled w = (k : ℕ) (i : WalkedInstance) → slice_get w.instances k ≡ Some i → IsFilled file w i

  filled_on : (w v : Walk) → GrowsTo w v → v.instances ≡ w.instances → AllFilled w → AllFilled v
  filled_on w v g same h k i at = zip_grows w v g _ i.members (h k i (ap (λ is. slice_get is k) (sym same) ∙ at))

  -- a step fills each instance that it ends
  record Fills (f : Walk → Walk) : Type 0 where
    pub grows : (w : Walk) → GrowsTo w (f w)
    pub fills : (w : Walk) → AllFilled w → (f w).refusal ≡ None → AllFilled (f w)

  record Step (f : Walk → Walk) (ts : List Thing) : Type 0 where
    pub all : Fills f
    pub adds : AddsNames f ts

  quiet_fills : (f : Walk → Walk) → ((w : Walk) → GrowsTo w (f w)) → ((w : Walk) → (f w).instances ≡ w.instances) → Fills f
  quiet_fills f g same = record { grows = g; fills = λ w h none. filled_on w (f w) (g w) (same w) h }

  nothing_fills : Fills (λ w. w)
  nothing_fills = record { grows = stays; fills = λ w h none. h }

  unless_grows : (f : Walk → Walk) → ((w : Walk) → GrowsTo w (f w)) → (w : Walk) → GrowsTo w (unless_refused f w)
  unless_grows f g w = elim (is_some w.refusal) as (λ t. GrowsTo w (if t then w else f w)) [ true ↦ stays w | false ↦ g w ]

  unless_filled : (f : Walk → Walk) → Fills f → (w : Walk) (t : Bool) → AllFilled w →
      (let v : Walk = if t then w else f w in v.refusal ≡ None) → AllFilled (if t then w else f w)
  unless_filled f s w true h none = h
  unless_filled f s w false h none = s.fills w h none

  unless_fills : (f : Walk → Walk) → Fills f → Fills (unless_refused f)
  unless_fills f s = record {
    grows = unless_grows f s.grows;
    fills = λ w h none. unless_filled f s w (is_some w.refusal) h none;
  }

  unless_added : (f : Walk → Walk) (ts : List Thing) → AddsNames f ts → (w : Walk) (t : Bool) → is_some w.refusal ≡ t →
      (let v : Walk = if t then w else f w in v.refusal ≡ None) → Added w (if t then w else f w) ts
  unless_added f ts a w true is none = absurd (refused_some w is none)
  unless_added f ts a w false is none = a w none

  unless_step : (f : Walk → Walk) (ts : List Thing) → Step f ts → Step (unless_refused f) ts
  unless_step f ts s =
      record { all = unless_fills f s.all; adds = λ w none. unless_added f ts s.adds w (is_some w.refusal) refl none }

  then_fills : (f g : Walk → Walk) → Fills f → Fills g → Fills (λ w. g (f w))
  then_fills f g a b = record {
    grows = λ w. grows_on w (f w) (g (f w)) (a.grows w) (b.grows (f w));
    fills = λ w h none. b.fills (f w) (a.fills w h ((b.grows (f w)).refusal none)) none;
  }

  then_step : (f g : Walk → Walk) (ts us : List Thing) → Step f ts → Step g us → Step (λ w. g (f w)) (ts ++ us)
  then_step f g ts us a b = record {
    all = then_fills f g a.all b.all;
    adds = λ w none.
        let one = a.adds w ((b.all.grows (f w)).refusal none) in
        let two = b.adds (f w) none in record {
          means = one.means ++ two.means;
          is = two.is ∙ ap (λ ms. ms ++ two.means) one.is ∙ append_assoc w.here.members one.means two.means;
          fits = zip_append (g (f w)) ts us one.means two.means (zip_grows (f w) (g (f w)) (b.all.grows (f w)) ts one.means one.fits) two.fits;
        };
  }

  nothing_step : Step (λ w. w) []
  nothing_step = record {
    all = nothing_fills;
    adds = λ w none. record { means = []; is = sym (append-nil w.here.members); fits = tt };
  }

  in_order_step : {A : Type 0} (f : A → Walk → Walk) (t : A → List Thing) (xs : List A) → AllByRecursion (λ x. Step (f x) (t x)) xs →
      Step (in_order f xs) (joined t xs)
  in_order_step f t [] h = nothing_step
  in_order_step f t (x ∷ xs) h =
      then_step (unless_refused (f x)) (in_order f xs) (t x) (joined t xs) (unless_step (f x) (t x) h.0) (in_order_step f t xs h.1)

  in_order_fills : {A : Type 0} (f : A → Walk → Walk) (xs : List A) → AllByRecursion (λ x. Fills (f x)) xs → Fills (in_order f xs)
  in_order_fills f [] h = nothing_fills
  in_order_fills f (x ∷ xs) h = then_fills (unless_refused (f x)) (in_order f xs) (unless_fills (f x) h.0) (in_order_fills f xs h.1)

  -- names of one thing each
  ones_step : {A : Type 0} (f : A → Walk → Walk) (g : A → Thing) → ((x : A) → Step (f x) (g x ∷ [])) → (xs : List A) →
      Step (in_order f xs) (map g xs)
  ones_step f g each xs =
      subst (Step (in_order f xs)) (joined_ones g xs)
      (in_order_step f (λ x. g x ∷ []) xs (each_of (λ x. Step (f x) (g x ∷ [])) each xs))

  -- a walk inside an instance of the module of a number
  record FillsInside (inside : Inside) (n : ℕ) : Type 0 where
    pub grows : (w : Walk) → GrowsTo w (inside n w)
    pub fills : (w : Walk) → w.here.members ≡ [] → AllFilled w → (inside n w).refusal ≡ None → AllFilled (inside n w)
    pub names : (w : Walk) → w.here.members ≡ [] → AllFilled w → (inside n w).refusal ≡ None →
        AllZip (IsOf (inside n w)) (things_of (view_at file n).members) (inside n w).here.members

  -- the end of an instance
  left_grows : (inner : Walk) (outer : Here) (i : WalkedInstance) →
      GrowsTo inner (meant (meaning.Instance (length inner.instances)) (record inner { here = outer; instances = inner.instances ++ i ∷ [] }))
  left_grows inner outer i =
      same_walk inner (record inner { instances = inner.instances ++ i ∷ [] }) _ refl refl refl refl refl refl
      (behind_grows inner inner i (stays inner))

  left_fills : (inner : Walk) (outer : Here) (i : WalkedInstance) → AllFilled inner → IsFilled file inner i →
      AllFilled (meant (meaning.Instance (length inner.instances)) (record inner { here = outer; instances = inner.instances ++ i ∷ [] }))
  left_fills inner outer i h own k j at =
      let v = meant (meaning.Instance (length inner.instances)) (record inner { here = outer; instances = inner.instances ++ i ∷ [] }) in
      let g = left_grows inner outer i in
      elim (at_split inner.instances i k j at) [
        | inl old ↦ zip_grows inner v g _ j.members (h k j old)
        | inr same ↦ subst (IsFilled file v) same (zip_grows inner v g _ i.members own)
      ]

  instance_step : (inside : Inside) (n : ℕ) → FillsInside inside n → (child : Viewed) (word : Word) (declared initial : List Evaluated) →
      Step (instance_with inside child n word declared initial) (thing.Instance n ∷ [])
  instance_step inside n good child word declared initial =
      let name : Walk → List ℕ = λ w. full_name w word.name in
      let begun : Walk → Walk = λ w. after_args (name w) initial (after_args (name w) declared (with_object word.position (name w) w)) in
      let known : Walk → Here = λ w. entered (name w) (values_from child.params 0 (counting declared initial)) in
      let start : Walk → Walk = λ w. record (begun w) { here = known w } in
      let inner : Walk → Walk = λ w. inside n (start w) in
      let made : Walk → WalkedInstance = λ w. record { module_number = n; members = (inner w).here.members } in
      let begun_grows : (w : Walk) → GrowsTo w (begun w) = λ w.
      let k = (kept_grows w).quiet in
      args_keep (GrowsTo w) k (name w) initial _ (args_keep (GrowsTo w) k (name w) declared _ (object_keeps (GrowsTo w) k word.position (name w) w (stays w))) in
      let begun_same : (w : Walk) → (begun w).instances ≡ w.instances = λ w.
      let P : Walk → Type 0 = λ v. v.instances ≡ w.instances in
      let k = (same_instances w.instances).quiet in
      args_keep P k (name w) initial _ (args_keep P k (name w) declared _ (object_keeps P k word.position (name w) w refl)) in
      let begun_here : (w : Walk) → (begun w).here ≡ w.here = λ w.
      let P : Walk → Type 0 = λ v. v.here ≡ w.here in
      let k = same_here w.here in
      args_keep P k (name w) initial _ (args_keep P k (name w) declared _ (object_keeps P k word.position (name w) w refl)) in
      let starts : (w : Walk) → GrowsTo w (start w) = λ w.
      same_walk w (begun w) (start w) refl refl refl refl refl refl (begun_grows w) in record {
        all = record {
          grows = λ w. grows_on w (inner w) _ (grows_on w (start w) (inner w) (starts w) (good.grows (start w))) (left_grows (inner w) (begun w).here (made w));
          fills = λ w h none.
              let before = filled_on w (start w) (starts w) (begun_same w) h in
              left_fills (inner w) (begun w).here (made w) (good.fills (start w) refl before none) (good.names (start w) refl before none);
        };
        adds = λ w none. one_added w _ (thing.Instance n) (meaning.Instance (length (inner w).instances)) (behind w (begun w) _ (begun_here w)) (record {
          number = length (inner w).instances;
          means = refl;
          instance = made w;
          there = at_end (inner w).instances (made w);
          module_number = refl;
        });
      }

  -- ---- members

  child_step : (inside : Inside) (v : Viewed) (n : ℕ) → FillsInside inside n → (p : CheckedPart) →
      Step (child_of inside file v n p) (thing.Instance n ∷ [])
  child_step inside v n good p = record {
    all = record {
      grows = λ w. (at w).all.grows w;
      fills = λ w h none. (at w).all.fills w h none;
    };
    adds = λ w none. (at w).adds w none;
  }
    where
      at : (w : Walk) → Step (instance_with inside (view_at file n) n p.name.word (args_evaluated (known_here w) (args_given p.args))
          (args_evaluated (known_here w) (init_args v (length w.here.members)))) (thing.Instance n ∷ [])
      at w = instance_step inside n good (view_at file n) p.name.word (args_evaluated (known_here w) (args_given p.args))
          (args_evaluated (known_here w) (init_args v (length w.here.members)))

  field_step : (v : Viewed) (is_const : Bool) (j : Kind) (x : CheckedField) → Step (field_of v is_const j x) (field_thing is_const j x.form ∷ [])
  field_step v is_const j x = record {
    all = quiet_fills (field_of v is_const j x) (λ w. field_keeps (GrowsTo w) (kept_grows w) v is_const j x w (stays w))
        (λ w. field_keeps (λ u. u.instances ≡ w.instances) (same_instances w.instances) v is_const j x w refl);
    adds = field_adds v is_const j x;
  }

  port_fills : (t : Thing) (r : Resolved) → Fills (port_of t r)
  port_fills t r =
      quiet_fills (port_of t r) (λ w. port_keeps (GrowsTo w) (kept_grows w) t r w (stays w))
      (λ w. port_keeps (λ u. u.instances ≡ w.instances) (same_instances w.instances) t r w refl)

  part_step : (v : Viewed) (c : ChannelWord) (j : Kind) (p : CheckedPart) → Step (part_of v c j p) (channel_thing c j ∷ [])
  part_step v c j p = record {
    all = quiet_fills (part_of v c j p) (λ w. part_keeps (GrowsTo w) (kept_grows w) v c j p w (stays w))
        (λ w. part_keeps (λ u. u.instances ≡ w.instances) (same_instances w.instances) v c j p w refl);
    adds = part_adds v c j p;
  }

  event_step : (r : Resolved) → Step (event_of r) (thing.Event ∷ [])
  event_step r = record {
    all = quiet_fills (event_of r) (λ w. event_keeps (GrowsTo w) (kept_grows w) r w (stays w))
        (λ w. event_keeps (λ u. u.instances ≡ w.instances) (same_instances w.instances) r w refl);
    adds = event_adds r;
  }

  constant_step : (v : Viewed) (c : CheckedConstant) → Step (constant_of v c) (thing.Fixed (kind_written c.form.form) c.is_static ∷ [])
  constant_step v c = record {
    all = quiet_fills (constant_of v c) (λ w. constant_keeps (GrowsTo w) (kept_grows w) v c w (stays w))
        (λ w. constant_keeps (λ u. u.instances ≡ w.instances) (same_instances w.instances) v c w refl);
    adds = constant_adds v c;
  }

  -- the modules of children are walked so
  abbrev ChildrenFill : Inside → CheckedMember → Type 0
  ChildrenFill inside (member.Children c) = FillsInside inside c.module_name.denotes.number
  ChildrenFill inside _ = ⊤

  member_step : (inside : Inside) (v : Viewed) (m : CheckedMember) → ChildrenFill inside m → Step (member_of inside file v m) (things_in m)
  member_step inside v member.Public h = nothing_step
  member_step inside v (member.Constant c) h = constant_step v c
  member_step inside v (member.HasProcess name) h = nothing_step
  member_step inside v (member.Fields x) h =
      let j = kind_written x.form.form in
      ones_step (field_of v x.is_const j) (λ (f : CheckedField). field_thing x.is_const j f.form) (field_step v x.is_const j) x.fields
  member_step inside v (member.Ports p) h =
      let j = kind_written p.form.form in
      ones_step (port_of (port_form p.port j)) (λ (r : Resolved). port_form p.port j)
      (λ r. record { all = port_fills (port_form p.port j) r; adds = port_adds p.port j r }) p.names
  member_step inside v (member.Clocks names) h =
      ones_step (port_of (thing.SignalPort direction.In kind.Bool)) (λ (r : Resolved). thing.SignalPort direction.In kind.Bool)
      (λ r. record { all = port_fills (thing.SignalPort direction.In kind.Bool) r; adds = clock_port_adds r }) names
  member_step inside v (member.Channels c) h =
      let j = kind_written c.form.form in
      ones_step (part_of v c.channel j) (λ (p : CheckedPart). channel_thing c.channel j) (part_step v c.channel j) c.parts
  member_step inside v (member.Events names) h = ones_step event_of (λ (r : Resolved). thing.Event) event_step names
  member_step inside v (member.Children c) h =
      let n = c.module_name.denotes.number in
      ones_step (child_of inside file v n) (λ (p : CheckedPart). thing.Instance n) (child_step inside v n h) c.parts
  member_step inside v (member.Function x) h = record {
    all = quiet_fills (meant meaning.Nothing) (λ w. meant_keeps (GrowsTo w) (kept_grows w) meaning.Nothing w (stays w)) (λ w. refl);
    adds = λ w none. one_added w _ (thing.Function None (length x.params)) meaning.Nothing refl tt;
  }
  member_step inside v (member.Constructor c) h = nothing_step

  member_steps : (inside : Inside) (v : Viewed) (ms : List CheckedMember) → AllByRecursion (ChildrenFill inside) ms →
      AllByRecursion (λ m. Step (member_of inside file v m) (things_in m)) ms
  member_steps inside v [] h = tt
  member_steps inside v (m ∷ ms) h = (member_step inside v m h.0, member_steps inside v ms h.1)

  -- ---- modules

  static_members : (v : Viewed) (m : CheckedMember) (w : Walk) → (statics_by v m w).here.members ≡ w.here.members
  static_members v (member.Constant c) w = by c.is_static
    where
      by : (b : Bool) → (let u : Walk = if b then with_static v (kind_written c.form.form) c.value w else no_static w in u.here.members ≡ w.here.members)
      by true = refl
      by false = refl
  static_members v member.Public w = refl
  static_members v (member.HasProcess name) w = refl
  static_members v (member.Fields x) w = refl
  static_members v (member.Ports p) w = refl
  static_members v (member.Clocks names) w = refl
  static_members v (member.Channels c) w = refl
  static_members v (member.Events names) w = refl
  static_members v (member.Children c) w = refl
  static_members v (member.Function x) w = refl
  static_members v (member.Constructor c) w = refl

  statics_members : (v : Viewed) (ms : List CheckedMember) (w : Walk) → (statics_of v ms w).here.members ≡ w.here.members
  statics_members v [] w = refl
  statics_members v (m ∷ ms) w = statics_members v ms (statics_by v m w) ∙ static_members v m w

  -- each child's module stands before
  abbrev Before : ℕ → List CheckedMember → Type 0
  Before n ms = (c : CheckedChildren) → Contains ms (member.Children c) → c.module_name.denotes.number < n

  before_tail : (n : ℕ) (m : CheckedMember) (ms : List CheckedMember) → Before n (m ∷ ms) → Before n ms
  before_tail n m ms h c at = h c (Contains-append_right (m ∷ []) ms (member.Children c) at)

  children_fill : (inside : Inside) (n : ℕ) → ((k : ℕ) → k < n → FillsInside inside k) → (ms : List CheckedMember) → Before n ms →
      AllByRecursion (ChildrenFill inside) ms
  children_fill inside n good [] h = tt
  children_fill inside n good (m ∷ ms) h = (by m h, children_fill inside n good ms (before_tail n m ms h))
    where
      by : (m : CheckedMember) → Before n (m ∷ ms) → ChildrenFill inside m
      by (member.Children c) h = good c.module_name.denotes.number (h c (0, omega arith, refl))
      by _ h = tt

  module _ (before : (n : ℕ) → Before n (view_at file n).members) where
    module_fills : (levels n : ℕ) → ((k : ℕ) → k < n → FillsInside (inside_of levels file) k) → FillsInside (inside_of (suc levels) file) n
    module_fills levels n good =
        let v = view_at file n in
        let inside = inside_of levels file in
        let s0 : Walk → Walk = λ w. statics_of v v.members w in
        let s1 : Walk → Walk = λ w. in_order (member_of inside file v) v.members (s0 w) in
        let members = in_order_step (member_of inside file v) things_in v.members
        (member_steps inside v v.members (children_fill inside n good v.members (before n))) in
        let statics : Fills s0 = quiet_fills s0 (λ w. statics_keep (GrowsTo w) (kept_grows w) v v.members w (stays w))
        (λ w. statics_keep (λ u. u.instances ≡ w.instances) (same_instances w.instances) v v.members w refl) in
        let setups : Fills (λ w. setups_from v 0 v.setups w) =
        quiet_fills (λ w. setups_from v 0 v.setups w) (λ w. setups_keep (GrowsTo w) (kept_grows w).quiet v 0 v.setups w (stays w))
        (λ w. setups_keep (λ u. u.instances ≡ w.instances) (same_instances w.instances).quiet v 0 v.setups w refl) in
        let two = then_fills s0 (λ w. in_order (member_of inside file v) v.members w) statics members.all in
        let three = then_fills s1 (λ w. setups_from v 0 v.setups w) two setups in record {
          grows = three.grows;
          fills = λ w empty h none. three.fills w h none;
          names = λ w empty h none.
              let end = setups_from v 0 v.setups (s1 w) in
              let g = setups.grows (s1 w) in
              let added = members.adds (s0 w) (g.refusal none) in
              let all : (s1 w).here.members ≡ added.means = added.is ∙ ap (λ ms. ms ++ added.means) (statics_members v v.members w ∙ empty) in
              let here : end.here ≡ (s1 w).here = setups_keep (λ u. u.here ≡ (s1 w).here) (same_here (s1 w).here) v 0 v.setups (s1 w) refl in
              let last : added.means ≡ end.here.members = sym all ∙ ap (λ (h : Here). h.members) (sym here) in
              subst (λ ms. AllZip (IsOf end) (things_of v.members) ms) last
              (subst (λ ts. AllZip (IsOf end) ts added.means) (joined_things v.members) (zip_grows (s1 w) end g _ added.means added.fits));
        }

    inside_fills : (levels n : ℕ) → n < levels → FillsInside (inside_of levels file) n
    inside_fills zero n h = absurd (omega (arith, h))
    inside_fills (suc levels) n h = module_fills levels n (λ k less. inside_fills levels k (omega (arith, h, less)))

    -- ---- sc_main

    abbrev MainBefore : CheckedMainItem → Type 0
    MainBefore (main_item.Instance m r args) = m.denotes.number < length file.plans
    MainBefore _ = ⊤

    main_fills : (x : CheckedMainItem) → MainBefore x → Fills (main_item_of file x)
    main_fills (main_item.Constant c) h =
        let f : Walk → Walk = main_item_of file (main_item.Constant c) in
        quiet_fills f
        (λ w. fixed_keeps (GrowsTo w) (kept_grows w) (kind_written c.form.form) c.name.word (Some (evaluated (known_here w) c.value)) None w (stays w))
        (λ w. fixed_keeps (λ u. u.instances ≡ w.instances) (same_instances w.instances) (kind_written c.form.form) c.name.word
        (Some (evaluated (known_here w) c.value)) None w refl)
    main_fills (main_item.Channel c) h =
        quiet_fills (main_item_of file (main_item.Channel c))
        (λ w. word_keeps (GrowsTo w) (kept_grows w) c.channel (kind_written c.form.form) c.name.word
        (option_evaluated (known_here w) (value_among (args_given c.args))) None w (stays w))
        (λ w. word_keeps (λ u. u.instances ≡ w.instances) (same_instances w.instances) c.channel (kind_written c.form.form) c.name.word
        (option_evaluated (known_here w) (value_among (args_given c.args))) None w refl)
    main_fills (main_item.Clock at r text period) h =
        quiet_fills (main_item_of file (main_item.Clock at r text period))
        (λ w. clock_item_keeps (GrowsTo w) (kept_grows w) at r period w (stays w))
        (λ w. clock_item_keeps (λ u. u.instances ≡ w.instances) (same_instances w.instances) at r period w refl)
    main_fills (main_item.Instance m r args) h =
        let n = m.denotes.number in
        let inside = inside_of (length file.plans) file in
        let s : (w : Walk) → Step (instance_with inside (view_at file n) n r.word (args_evaluated (known_here w) args) []) (thing.Instance n ∷ []) = λ w.
        instance_step inside n (inside_fills (length file.plans) n h) (view_at file n) r.word (args_evaluated (known_here w) args) [] in
        record { grows = λ w. (s w).all.grows w; fills = λ w h none. (s w).all.fills w h none }
    main_fills (main_item.Bind b) h =
        quiet_fills (main_item_of file (main_item.Bind b))
        (λ w. bind_keeps (GrowsTo w) (kept_grows w).quiet (slice_get w.here.members b.instance.denotes.number) b w (stays w))
        (λ w. bind_keeps (λ u. u.instances ≡ w.instances) (same_instances w.instances).quiet (slice_get w.here.members b.instance.denotes.number) b w refl)

    all_main_fill : (xs : List CheckedMainItem) → ((m r : Resolved) (args : List CheckedArg) → Contains xs (main_item.Instance m r args) →
        m.denotes.number < length file.plans) → AllByRecursion (λ x. Fills (main_item_of file x)) xs
    all_main_fill [] h = tt
    all_main_fill (x ∷ xs) h =
        (main_fills x (by x h), all_main_fill xs (λ m r args at. h m r args (Contains-append_right (x ∷ []) xs (main_item.Instance m r args) at)))
      where
        by : (x : CheckedMainItem) → ((m r : Resolved) (args : List CheckedArg) → Contains (x ∷ xs) (main_item.Instance m r args) →
            m.denotes.number < length file.plans) → MainBefore x
        by (main_item.Instance m r args) h = h m r args (0, omega arith, refl)
        by _ h = tt

pub names_are_meant : NamesAreMeant
names_are_meant u stand none k i at =
    let f = file_of u in
    let begun = in_order item_of u.items at_first in
    let empty : begun.instances ≡ [] =
    in_order_keeps (λ w. w.instances ≡ []) (same_instances []).quiet item_of (item_keeps (λ w. w.instances ≡ []) (same_instances [])) u.items at_first refl in
    let start : Fills f (start_of u.main.start) =
    quiet_fills f (start_of u.main.start) (λ w. start_form_keeps (GrowsTo w) (kept_grows w).quiet u.main.start w (stays w))
    (λ w. start_form_keeps (λ v. v.instances ≡ w.instances) (same_instances w.instances).quiet u.main.start w refl) in
    let main = in_order_fills f (main_item_of f) u.main.items (all_main_fill f stand.children u.main.items stand.main) in
    let all = then_fills f (in_order (main_item_of f) u.main.items) (unless_refused (start_of u.main.start)) main
    (unless_fills f (start_of u.main.start) start) in
    all.fills begun (λ k i at. absurd (let e : None ≡ Some i = sym (ap (λ is. slice_get is k) empty) ∙ at in cc)) none k i at
