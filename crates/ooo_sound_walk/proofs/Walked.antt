-- What holds of a walk at first and is kept by each of its steps holds of it at the end.
use Rattle.std.proofs.Common.{◌≡◌, refl, arith, ℕ, zero, suc, ◌+◌, ◌-◌, ◌/◌, ◌%◌, ◌≤◌, List, [], ◌∷◌, ◌++◌, length, Bool, true, false, Option, Some, None, slice_set, inl, inr}
use Rattle.std.specs.Prelude.{codes, ◌==◌, ◌||◌, ◌&&◌, nat_lt, nat_le, if◌then◌else◌, is_some, slice_get, Result, Ok, Err, IfSome, IfOk, ℤ, pos, negsuc, int_le, unsigned_abs}
use Rattle.std.proofs.lemmas.Bool.Decides.{leb_tells}
use Rattle.std.proofs.Math.Nat.{div-le_self}
use Rattle.std.proofs.Math.Dec.{leb-suc-zero}
use Rattle.ooo_time.specs.declared.time.Time.{Time}
use Rattle.ooo_time.specs.Scales.{greatest_time}
use Rattle.ooo_time.specs.declared.time.Scale.{Scale}
use Rattle.ooo_lexer.specs.declared.position.Position.{Position}
use Rattle.ooo_value.specs.declared.bound.BoundChannel.{BoundChannel}
use Rattle.ooo_value.specs.declared.bound.BoundVariable.{BoundVariable}
use Rattle.ooo_value.specs.declared.bound.ChannelKind.TheVariants as channel
use Rattle.ooo_value.specs.declared.bound.BoundEvent.TheVariants as event
use Rattle.ooo_value.specs.declared.bound.ProcessKind.{ProcessKind}
use Rattle.ooo_value.specs.declared.bound.ProcessKind.TheVariants as process
use Rattle.ooo_value.specs.declared.kinds.Kind.{Kind}
use Rattle.ooo_value.specs.declared.kinds.Kind.TheVariants as kind
use Rattle.ooo_value.specs.declared.values.Value.{Value}
use Rattle.ooo_value.specs.Operators.{Answer}
use Rattle.ooo_value.specs.Values.{IsOfKind, number_of}
use Rattle.ooo_syntax.specs.declared.leaves.Word.{Word}
use Rattle.ooo_syntax.specs.declared.module.ChannelWord.{ChannelWord}
use Rattle.ooo_syntax.specs.declared.module.ChannelWord.TheVariants as channel_word
use Rattle.ooo_code.specs.Sound.{FitsChannel, FitsVariable}
use Rattle.ooo_checked.specs.declared.denotation.Resolved.{Resolved}
use Rattle.ooo_checked.specs.declared.denotation.Thing.{Thing}
use Rattle.ooo_checked.specs.declared.denotation.Thing.TheVariants as thing
use Rattle.ooo_checked.specs.declared.denotation.Direction.TheVariants as direction
use Rattle.ooo_checked.specs.declared.stat.CheckedTime.{CheckedTime}
use Rattle.ooo_checked.specs.declared.module.CheckedBinding.{CheckedBinding}
use Rattle.ooo_checked.specs.declared.module.CheckedConstant.{CheckedConstant}
use Rattle.ooo_checked.specs.declared.module.CheckedField.{CheckedField}
use Rattle.ooo_checked.specs.declared.module.CheckedFieldForm.{CheckedFieldForm}
use Rattle.ooo_checked.specs.declared.module.CheckedFieldForm.TheVariants as form
use Rattle.ooo_checked.specs.declared.module.CheckedMember.{CheckedMember}
use Rattle.ooo_checked.specs.declared.module.CheckedMember.TheVariants as member
use Rattle.ooo_checked.specs.declared.module.CheckedPart.{CheckedPart}
use Rattle.ooo_checked.specs.declared.module.CheckedSetup.{CheckedSetup}
use Rattle.ooo_checked.specs.declared.module.CheckedSetup.TheVariants as setup
use Rattle.ooo_checked.specs.declared.unit.CheckedMainItem.{CheckedMainItem}
use Rattle.ooo_checked.specs.declared.unit.CheckedMainItem.TheVariants as main_item
use Rattle.ooo_checked.specs.declared.unit.CheckedStartForm.{CheckedStartForm}
use Rattle.ooo_checked.specs.declared.unit.CheckedStartForm.TheVariants as start
use Rattle.ooo_checked.specs.declared.unit.CheckedUnit.{CheckedUnit}
use Rattle.ooo_checked.specs.declared.unit.CheckedUnitItem.{CheckedUnitItem}
use Rattle.ooo_checked.specs.declared.unit.CheckedUnitItem.TheVariants as item
use Rattle.ooo_checked.specs.Exprs.{kind_written}
use Rattle.ooo_constants.specs.declared.bodies.TimeRefusal.{TimeRefusal}
use Rattle.ooo_constants.specs.declared.meaning.Meaning.{Meaning}
use Rattle.ooo_constants.specs.declared.meaning.Meaning.TheVariants as meaning
use Rattle.ooo_constants.specs.declared.times.TimeBreach.{TimeBreach}
use Rattle.ooo_constants.specs.Meanings.{Constants, zero_of}
use Rattle.ooo_value.specs.Times.{ticks_in}
use Rattle.ooo_checked.specs.declared.stat.CheckedTime.TheVariants as time
use Rattle.ooo_constants.specs.Values.{value_of}
use Rattle.ooo_constants.specs.Times.{time_of, time_by, time_of_ticks, place_of}
use Rattle.ooo_walk.specs.declared.refusal.ElabBreach.{ElabBreach}
use Rattle.ooo_walk.specs.declared.refusal.ElabBreach.TheVariants as what
use Rattle.ooo_walk.specs.declared.refusal.Refusal.{Refusal}
use Rattle.ooo_walk.specs.declared.state.Evaluated.{Evaluated}
use Rattle.ooo_walk.specs.declared.state.Here.{Here}
use Rattle.ooo_walk.specs.declared.state.ProcessForm.TheVariants.{Clock, Registered}
use Rattle.ooo_walk.specs.declared.state.Walk.{Walk}
use Rattle.ooo_walk.specs.declared.state.WalkedBinding.{WalkedBinding}
use Rattle.ooo_walk.specs.declared.state.WalkedInstance.{WalkedInstance}
use Rattle.ooo_walk.specs.States.{refused, unless_refused, after_answer, as_breach, full_name, meant, known_here, evaluated, option_evaluated, in_kind, later_value, start_value, after_option, after_start, most_objects, most_cells, most_processes, with_object, with_cells, with_process, with_variable, channel_events, with_channel, in_order}
use Rattle.ooo_walk.specs.Members.{scalar_of, initialised, fixed_of, length_of, elements_of, array_with, plain_of, field_with, field_of, with_static, statics_by, statics_of, no_static, constants_to, constant_of, size_in, later_size, size_of, fifo_with, channel_of, part_of, port_of, event_of, value_among, args_given}
use Rattle.ooo_walk.specs.Setups.{with_start, set_meant, bound_to, bind_meant, after_times, process_told, process_of, setup_of, setups_from}
use Rattle.ooo_walk.specs.Instances.{Inside, after_args, entered, instance_with, child_of, port_form, member_of, inside_of, args_evaluated, values_from, counting}
use Rattle.ooo_walk.specs.Plans.{Filed, Viewed, view_at, init_args}
use Rattle.ooo_walk.specs.Texts.{at_first, item_of, clock_with, clock_timed, after_room, clock_of, main_item_of, stop_timed, start_of, file_of, walk_of}
use Rattle.ooo_sound_walk.proofs.Values.{of_kind}

-- each step of a walk keeps it that declares no name
pub record IsQuiet (P : Walk → Type 0) : Type 0 where
  pub refusal : (w : Walk) (r : Refusal) → P w → P (record w { refusal = Some r })
  pub objects : (w : Walk) (n : ℕ) → P w → P (record w { objects = n })
  pub cells : (w : Walk) (n : ℕ) → P w → P (record w { cells = n })
  pub file : (w : Walk) (ms : List Meaning) → P w → P (record w { file = ms })
  pub stop : (w : Walk) (t : Option Time) → P w → P (record w { stop = t })
  pub opens_process : (w : Walk) (k : ProcessKind) (place function : ℕ) (name : List ℕ) → P w →
      P (record w { processes = w.processes ++ record { form = Registered k (length w.instances) place function; name = name } ∷ [] })
  pub resets : (w : Walk) (x : ℕ) (b : BoundVariable) (v : Value) → slice_get w.variables x ≡ Some b → IsOfKind v b.kind → P w →
      P (record w { variables = slice_set w.variables x (record b { start = v }) })
  pub binding : (w : Walk) (b : WalkedBinding) → P w → P (record w { bindings = w.bindings ++ b ∷ [] })

-- and each other step, but for the end of an instance
pub record IsKept (P : Walk → Type 0) : Type 0 where
  pub quiet : IsQuiet P
  pub here : (w : Walk) (h : Here) → P w → P (record w { here = h })
  pub variable : (w : Walk) (x : BoundVariable) → FitsVariable x → P w → P (record w { variables = w.variables ++ x ∷ [] })
  pub opens_channel : (w : Walk) (b : BoundChannel) (is_clock : Bool) (at : Position) (name : List ℕ) → FitsChannel b → P w →
      P (record w {
        channels = w.channels ++ record { bound = b; is_clock = is_clock; first_event = length w.events; name = name; at = at } ∷ [];
        events = w.events ++ channel_events b.kind b.value (length w.channels);
      })
  pub clock : (w : Walk) (half : Time) (line : ℕ) (at : Position) (name : List ℕ) → half.0 ≤ greatest_time → P w →
      P (record w {
        processes = w.processes ++ record { form = Clock (length w.channels) half line; name = name } ∷ [];
        channels = w.channels ++ record {
          bound = record { kind = channel.Signal; value = kind.Bool; size = 0 };
          is_clock = true;
          first_event = length w.events;
          name = name;
          at = at;
        } ∷ [];
        events = w.events ++ channel_events channel.Signal kind.Bool (length w.channels);
      })
  pub port : (w : Walk) (t : Thing) (at : Position) (name : List ℕ) → P w →
      P (record w { ports = w.ports ++ record { form = t; name = name; at = at } ∷ [] })
  pub opens_event : (w : Walk) → P w → P (record w { events = w.events ++ event.Own ∷ [] })

-- the end of an instance keeps it
abbrev pub IsKeptBehind : (Walk → Type 0) → Type 0
IsKeptBehind P = (w : Walk) (i : WalkedInstance) → P w → P (record w { instances = w.instances ++ i ∷ [] })

-- a step keeps it
abbrev pub Keeps : (Walk → Type 0) → (Walk → Walk) → Type 0
Keeps P f = (w : Walk) → P w → P (f w)

-- ---- what steps are given

-- a start value is of the kind of its variable
answer_of_kind : (k : Kind) (a : Answer) → IsOfKind (in_kind k a) k
answer_of_kind k (Ok v) = of_kind k (number_of v)
answer_of_kind k (Err f) = of_kind k (pos 0)

later_of_kind : (k : Kind) (before : Value) (o : Option Evaluated) → IsOfKind before k → IsOfKind (later_value k before o) k
later_of_kind k before None h = h
later_of_kind k before (Some e) h = answer_of_kind k e.answer

start_of_kind : (k : Kind) (declared initial : Option Evaluated) → IsOfKind (start_value k declared initial) k
start_of_kind k declared initial =
    later_of_kind k (later_value k (zero_of k) declared) initial (later_of_kind k (zero_of k) declared (of_kind k (pos 0)))

-- an array has an element
some_elements : (z : ℤ) → IfSome (if int_le (pos 1) z then Some (unsigned_abs z) else None) (λ n. 1 ≤ n)
some_elements (pos n) = elim (leb_tells 1 n) [ inl h ↦ rw h.0 h.1 | inr h ↦ rw h.0 tt ]
some_elements (negsuc n) = tt

some_length : (a : Answer) → IfSome (length_of a) (λ n. 1 ≤ n)
some_length (Ok v) = some_elements (number_of v)
some_length (Err f) = tt

-- a fifo's size is within its limits
abbrev IsSize : ℕ → Type 0
IsSize n = (1 ≤ n) × (n ≤ 65536)

size_within : (z : ℤ) → IfSome (if int_le (pos 1) z && int_le z (pos 65536) then Some (unsigned_abs z) else None) IsSize
size_within (pos n) = elim (leb_tells 1 n) [
  | inl h ↦ elim (leb_tells n 65536) [ inl g ↦ rw (h.0, g.0) (h.1, g.1) | inr g ↦ rw (h.0, g.0) tt ]
  | inr h ↦ rw h.0 tt
]
size_within (negsuc n) = tt

size_fits : (a : Answer) → IfSome (size_in a) IsSize
size_fits (Ok v) = size_within (number_of v)
size_fits (Err f) = (omega arith, omega arith)

later_size_fits : (before : Option ℕ) (o : Option Evaluated) → IfSome before IsSize → IfSome (later_size before o) IsSize
later_size_fits before None h = h
later_size_fits before (Some e) h = size_fits e.answer

size_of_fits : (declared initial : Option Evaluated) → IfSome (size_of declared initial) IsSize
size_of_fits declared initial =
    later_size_fits (later_size (Some 16) declared) initial (later_size_fits (Some 16) declared (omega arith, omega arith))

-- a constant time is at most the greatest one
abbrev pub IsInTime : Time → Type 0
IsInTime t = t.0 ≤ greatest_time

ticks_within : (z : ℤ) → IfOk (time_of_ticks z) IsInTime
ticks_within (pos n) =
    let z : nat_lt n 0 ≡ false = leb-suc-zero n in
    elim (leb_tells n greatest_time) [ inl h ↦ rw (z, h.0) h.1 | inr h ↦ rw (z, h.0) tt ]
ticks_within (negsuc n) = tt

amount_within : (a : Answer) (scale : Scale) → IfOk (time_by a scale) IsInTime
amount_within (Ok v) scale = ticks_within (ticks_in v scale)
amount_within (Err f) scale = tt

pub time_within : (c : Constants) (t : CheckedTime) → IfOk (time_of c t) IsInTime
time_within c (time.Zero at) = omega arith
time_within c (time.Made at e scale) = amount_within (value_of c e) scale
time_within c (time.Amount e scale) = amount_within (value_of c e) scale

-- ---- steps that declare no name

module _ (P : Walk → Type 0) (k : IsQuiet P) where
  pub refused_keeps : (breach : ElabBreach) (at : Position) (name : List ℕ) → Keeps P (refused breach at name)
  refused_keeps breach at name w h =
      elim (w.refusal)
      as (λ o. P (elim o [
        | None ↦ record w { refusal = Some (record { what = breach; at = at; names = name ∷ [] }) }
        | Some r ↦ w
      ])) [ None ↦ k.refusal w _ h | Some r ↦ h ]

  pub unless_keeps : (f : Walk → Walk) → Keeps P f → Keeps P (unless_refused f)
  unless_keeps f each w h =
      elim (is_some w.refusal) as (λ t. P (if t then w else f w)) [ true ↦ h | false ↦ each w h ]

  pub in_order_keeps : {A : Type 0} (f : A → Walk → Walk) → ((x : A) → Keeps P (f x)) → (xs : List A) → Keeps P (in_order f xs)
  in_order_keeps f each [] w h = h
  in_order_keeps f each (x ∷ xs) w h = in_order_keeps f each xs _ (unless_keeps (f x) (each x) w h)

  pub answer_keeps : (a : Answer) (at : Position) (name : List ℕ) → Keeps P (after_answer a at name)
  answer_keeps (Ok v) at name w h = h
  answer_keeps (Err f) at name w h = refused_keeps what.BadConstant at name w h

  pub option_keeps : (name : List ℕ) (o : Option Evaluated) → Keeps P (after_option name o)
  option_keeps name None w h = h
  option_keeps name (Some e) w h = answer_keeps e.answer e.at name w h

  pub start_keeps : (name : List ℕ) (declared initial : Option Evaluated) → Keeps P (after_start name declared initial)
  start_keeps name declared initial w h = option_keeps name initial _ (option_keeps name declared w h)

  pub object_keeps : (at : Position) (name : List ℕ) → Keeps P (with_object at name)
  object_keeps at name w h =
      elim (nat_lt w.objects most_objects)
      as (λ t. P (if t then record w { objects = w.objects + 1 } else refused what.TooManyObjects at name w))
      [ true ↦ k.objects w _ h | false ↦ refused_keeps what.TooManyObjects at name w h ]

  pub cells_keep : (n : ℕ) (at : Position) (name : List ℕ) → Keeps P (with_cells n at name)
  cells_keep n at name w h =
      elim (nat_le n (most_cells - w.cells))
      as (λ t. P (if t then record w { cells = w.cells + n } else refused what.TooManyCells at name w))
      [ true ↦ k.cells w _ h | false ↦ refused_keeps what.TooManyCells at name w h ]

  pub with_start_keeps : (x : ℕ) (o : Option BoundVariable) (a : Answer) (w : Walk) → slice_get w.variables x ≡ o → P w →
      P (with_start x o a w)
  with_start_keeps x None a w is h = h
  with_start_keeps x (Some b) a w is h = k.resets w x b _ is (answer_of_kind b.kind a) h

  pub set_keeps : (m : Option Meaning) (a : Answer) → Keeps P (set_meant m a)
  set_keeps (Some (meaning.Variable x)) a w h = with_start_keeps x (slice_get w.variables x) a w refl h
  set_keeps (Some (meaning.Constant v)) a w h = h
  set_keeps (Some (meaning.Channel c)) a w h = h
  set_keeps (Some (meaning.Event e)) a w h = h
  set_keeps (Some (meaning.Port p)) a w h = h
  set_keeps (Some (meaning.Instance i)) a w h = h
  set_keeps (Some (meaning.Function f)) a w h = h
  set_keeps (Some meaning.Nothing) a w h = h
  set_keeps None a w h = h

  pub bound_keeps : (m : Option Meaning) (to : Meaning) (at : Position) → Keeps P (bound_to m to at)
  bound_keeps (Some (meaning.Port p)) to at w h = k.binding w _ h
  bound_keeps (Some (meaning.Variable x)) to at w h = h
  bound_keeps (Some (meaning.Constant v)) to at w h = h
  bound_keeps (Some (meaning.Channel c)) to at w h = h
  bound_keeps (Some (meaning.Event e)) to at w h = h
  bound_keeps (Some (meaning.Instance i)) to at w h = h
  bound_keeps (Some (meaning.Function f)) to at w h = h
  bound_keeps (Some meaning.Nothing) to at w h = h
  bound_keeps None to at w h = h

  pub bind_keeps : (m : Option Meaning) (b : CheckedBinding) → Keeps P (bind_meant m b)
  bind_keeps (Some (meaning.Instance i)) b w h = bound_keeps _ _ _ w h
  bind_keeps (Some (meaning.Port p)) b w h = h
  bind_keeps (Some (meaning.Variable x)) b w h = h
  bind_keeps (Some (meaning.Constant v)) b w h = h
  bind_keeps (Some (meaning.Channel c)) b w h = h
  bind_keeps (Some (meaning.Event e)) b w h = h
  bind_keeps (Some (meaning.Function f)) b w h = h
  bind_keeps (Some meaning.Nothing) b w h = h
  bind_keeps None b w h = h

  pub times_keep : (o : Option TimeRefusal) (name : List ℕ) → Keeps P (after_times o name)
  times_keep None name w h = h
  times_keep (Some r) name w h = refused_keeps _ r.at name w h

  pub registered_keeps : (j : ProcessKind) (place function : ℕ) (at : Position) (name : List ℕ) (w : Walk) → P w →
      P (with_process (Registered j (length w.instances) place function) at name w)
  registered_keeps j place function at name w h =
      elim (nat_lt (length w.processes) most_processes)
      as (λ t. P (if t
      then record w { processes = w.processes ++ record { form = Registered j (length w.instances) place function; name = name } ∷ [] }
      else refused what.TooManyProcesses at name w)) [
        | true ↦ k.opens_process w j place function name h
        | false ↦ refused_keeps what.TooManyProcesses at name w h
      ]

  pub process_keeps : (v : Viewed) (j : ProcessKind) (place : ℕ) (r : Resolved) → Keeps P (process_of v j place r)
  process_keeps v j place r w h =
      let told = process_told v (known_here w) r.denotes.number in
      let name = full_name w r.word.name in
      unless_keeps (after_times told name) (times_keep told name) _
      (registered_keeps j place r.denotes.number r.word.position name w h)

  pub setup_keeps : (v : Viewed) (place : ℕ) (x : CheckedSetup) → Keeps P (setup_of v place x)
  setup_keeps v place (setup.Thread at r) w h = process_keeps v process.Thread place r w h
  setup_keeps v place (setup.Method at r) w h = process_keeps v process.Method place r w h
  setup_keeps v place (setup.Sensitive at es) w h = h
  setup_keeps v place (setup.DontInitialize at) w h = h
  setup_keeps v place (setup.Bind b) w h = bind_keeps _ b w h
  setup_keeps v place (setup.Set r e) w h = set_keeps _ _ _ (answer_keeps _ _ _ w h)

  pub setups_keep : (v : Viewed) (place : ℕ) (xs : List CheckedSetup) → Keeps P (setups_from v place xs)
  setups_keep v place [] w h = h
  setups_keep v place (x ∷ xs) w h = setups_keep v (place + 1) xs _ (unless_keeps (setup_of v place x) (setup_keeps v place x) w h)

  pub args_keep : (name : List ℕ) (es : List Evaluated) → Keeps P (after_args name es)
  args_keep name [] w h = h
  args_keep name (e ∷ es) w h = args_keep name es _ (answer_keeps e.answer e.at name w h)

  pub room_keeps : (at : Position) (name : List ℕ) → Keeps P (after_room at name)
  room_keeps at name w h =
      elim (nat_lt (length w.processes) 256) as (λ t. P (if t then w else refused what.TooManyProcesses at name w))
      [ true ↦ h | false ↦ refused_keeps what.TooManyProcesses at name w h ]

  pub stop_keeps : (at : Position) (t : Result Time TimeBreach) → Keeps P (stop_timed at t)
  stop_keeps at (Ok t) w h =
      elim (t.0 == 0) as (λ b. P (if b then refused what.BadConstant at (codes "sc_start") w else record w { stop = Some t }))
      [ true ↦ refused_keeps what.BadConstant at (codes "sc_start") w h | false ↦ k.stop w _ h ]
  stop_keeps at (Err breach) w h = refused_keeps (as_breach breach) at (codes "sc_start") w h

  pub start_form_keeps : (o : Option CheckedStartForm) → Keeps P (start_of o)
  start_form_keeps None w h = h
  start_form_keeps (Some (start.Open at)) w h = h
  start_form_keeps (Some (start.Limited at t)) w h = stop_keeps (place_of t) (time_of (known_here w) t) w h

-- ---- steps that declare names

module _ (P : Walk → Type 0) (k : IsKept P) where
  pub meant_keeps : (m : Meaning) → Keeps P (meant m)
  meant_keeps m w h = k.here w _ h

  pub variable_keeps : (x : BoundVariable) → FitsVariable x → Keeps P (with_variable x)
  variable_keeps x fits w h = meant_keeps _ _ (k.variable w x fits h)

  pub scalar_keeps : (j : Kind) (word : Word) (declared initial : Option Evaluated) → Keeps P (scalar_of j word declared initial)
  scalar_keeps j word declared initial w h =
      variable_keeps _ (record { some = omega arith; start = start_of_kind j declared initial }) _
      (cells_keep P k.quiet 1 word.position _ _ (start_keeps P k.quiet _ declared initial _ (object_keeps P k.quiet word.position _ w h)))

  pub fixed_keeps : (j : Kind) (word : Word) (declared initial : Option Evaluated) → Keeps P (fixed_of j word declared initial)
  fixed_keeps j word declared initial w h = meant_keeps _ _ (start_keeps P k.quiet _ declared initial w h)

  pub elements_keep : (j : Kind) (n : ℕ) → 1 ≤ n → (at : Position) (name : List ℕ) → Keeps P (elements_of j n at name)
  elements_keep j n some at name w h =
      elim (nat_le n (most_cells - w.cells))
      as (λ t. P (if t
      then with_variable (record { kind = j; length = n; start = zero_of j }) (record w { cells = w.cells + n })
      else refused what.TooManyCells at name w)) [
        | true ↦ variable_keeps _ (record { some = some; start = of_kind j (pos 0) }) _ (k.quiet.cells w _ h)
        | false ↦ refused_keeps P k.quiet what.TooManyCells at name w h
      ]

  pub array_keeps : (j : Kind) (o : Option ℕ) → IfSome o (λ n. 1 ≤ n) → (at expression : Position) (name : List ℕ) →
      Keeps P (array_with j o at expression name)
  array_keeps j None some at expression name w h = refused_keeps P k.quiet what.BadConstant expression name w h
  array_keeps j (Some n) some at expression name w h = elements_keep j n some at name w h

  pub plain_keeps : (is_const : Bool) (j : Kind) (word : Word) (declared initial : Option Evaluated) →
      Keeps P (plain_of is_const j word declared initial)
  plain_keeps true j word declared initial w h = fixed_keeps j word declared initial w h
  plain_keeps false j word declared initial w h = scalar_keeps j word declared initial w h

  pub form_keeps : (v : Viewed) (is_const : Bool) (j : Kind) (word : Word) (f : CheckedFieldForm) → Keeps P (field_with v is_const j word f)
  form_keeps v is_const j word form.Plain w h = plain_keeps is_const j word _ _ w h
  form_keeps v is_const j word (form.Value e) w h = plain_keeps is_const j word _ _ w h
  form_keeps v is_const j word (form.Length e) w h =
      array_keeps j _ (some_length (value_of (known_here w) e)) word.position _ _ _ (object_keeps P k.quiet word.position _ w h)

  pub field_keeps : (v : Viewed) (is_const : Bool) (j : Kind) (x : CheckedField) → Keeps P (field_of v is_const j x)
  field_keeps v is_const j x w h = form_keeps v is_const j x.name.word x.form w h

  pub static_keeps : (v : Viewed) (m : CheckedMember) → Keeps P (statics_by v m)
  static_keeps v (member.Constant c) w h =
      elim (c.is_static) as (λ t. P (if t then with_static v (kind_written c.form.form) c.value w else no_static w))
      [ true ↦ k.here w _ h | false ↦ k.here w _ h ]
  static_keeps v member.Public w h = k.here w _ h
  static_keeps v (member.HasProcess name) w h = k.here w _ h
  static_keeps v (member.Fields x) w h = k.here w _ h
  static_keeps v (member.Ports p) w h = k.here w _ h
  static_keeps v (member.Clocks names) w h = k.here w _ h
  static_keeps v (member.Channels c) w h = k.here w _ h
  static_keeps v (member.Events names) w h = k.here w _ h
  static_keeps v (member.Children c) w h = k.here w _ h
  static_keeps v (member.Function x) w h = k.here w _ h
  static_keeps v (member.Constructor c) w h = k.here w _ h

  pub statics_keep : (v : Viewed) (ms : List CheckedMember) → Keeps P (statics_of v ms)
  statics_keep v [] w h = h
  statics_keep v (m ∷ ms) w h = statics_keep v ms _ (static_keeps v m w h)

  pub constant_keeps : (v : Viewed) (c : CheckedConstant) → Keeps P (constant_of v c)
  constant_keeps v c w h =
      let known = constants_to c.is_static w in
      fixed_keeps (kind_written c.form.form) c.name.word (Some (evaluated known c.value)) (option_evaluated known (initialised v w)) w h

  pub channel_keeps : (b : BoundChannel) (is_clock : Bool) (at : Position) (name : List ℕ) → FitsChannel b →
      Keeps P (with_channel b is_clock at name)
  channel_keeps b is_clock at name fits w h = meant_keeps _ _ (k.opens_channel w b is_clock at name fits h)

  pub fifo_keeps : (j : Kind) (o : Option ℕ) → IfSome o IsSize → (at : Position) (name : List ℕ) → Keeps P (fifo_with j o at name)
  fifo_keeps j None fits at name w h = refused_keeps P k.quiet what.FifoSize at name w h
  fifo_keeps j (Some n) fits at name w h = channel_keeps _ false at name fits w h

  pub word_keeps : (c : ChannelWord) (j : Kind) (word : Word) (declared initial : Option Evaluated) →
      Keeps P (channel_of c j word declared initial)
  word_keeps channel_word.Signal j word declared initial w h =
      channel_keeps _ false word.position _ tt _ (object_keeps P k.quiet word.position _ w h)
  word_keeps channel_word.Fifo j word declared initial w h =
      fifo_keeps j _ (size_of_fits declared initial) word.position _ _
      (start_keeps P k.quiet _ declared initial _ (object_keeps P k.quiet word.position _ w h))

  pub part_keeps : (v : Viewed) (c : ChannelWord) (j : Kind) (p : CheckedPart) → Keeps P (part_of v c j p)
  part_keeps v c j p w h = word_keeps c j p.name.word _ _ w h

  pub port_keeps : (t : Thing) (r : Resolved) → Keeps P (port_of t r)
  port_keeps t r w h = meant_keeps _ _ (k.port w t r.word.position _ h)

  pub event_keeps : (r : Resolved) → Keeps P (event_of r)
  event_keeps r w h = meant_keeps _ _ (k.opens_event _ (object_keeps P k.quiet r.word.position _ w h))

  pub item_keeps : (x : CheckedUnitItem) → Keeps P (item_of x)
  item_keeps (item.Using library) w h = h
  item_keeps (item.Constant c) w h = k.quiet.file _ _ (answer_keeps P k.quiet _ _ _ w h)
  item_keeps (item.Module m) w h = k.quiet.file w _ h

  pub clock_keeps : (at : Position) (r : Resolved) (t : Time) → IsInTime t → Keeps P (clock_with at r t)
  clock_keeps at r t within w h =
      elim (t.0 == 0 || t.0 % 2 == 1)
      as (λ b. P (if b then refused what.OddClock r.word.position r.word.name w
      else with_channel (record { kind = channel.Signal; value = kind.Bool; size = 0 }) true r.word.position r.word.name
      (with_process (Clock (length w.channels) (record { 0 = t.0 / 2 }) at.line) r.word.position r.word.name w))) [
        | true ↦ refused_keeps P k.quiet what.OddClock r.word.position r.word.name w h
        | false ↦ elim (nat_lt (length w.processes) most_processes)
            as (λ b. P (with_channel (record { kind = channel.Signal; value = kind.Bool; size = 0 }) true r.word.position r.word.name
            (if b then record w {
              processes = w.processes
                  ++ record { form = Clock (length w.channels) (record { 0 = t.0 / 2 }) at.line; name = r.word.name } ∷ [];
            } else refused what.TooManyProcesses r.word.position r.word.name w))) [
              | true ↦ k.here _ _ (k.clock w (record { 0 = t.0 / 2 }) at.line r.word.position r.word.name
                  (omega (arith, div-le_self t.0 2, within)) h)
              | false ↦ channel_keeps _ true r.word.position r.word.name tt _
                  (refused_keeps P k.quiet what.TooManyProcesses r.word.position r.word.name w h)
            ]
      ]

  pub timed_keeps : (at : Position) (r : Resolved) (period : CheckedTime) (t : Result Time TimeBreach) → IfOk t IsInTime →
      Keeps P (clock_timed at r period t)
  timed_keeps at r period (Ok t) within w h = clock_keeps at r t within w h
  timed_keeps at r period (Err breach) within w h = refused_keeps P k.quiet _ _ _ w h

-- a clock of `sc_main`
module _ (P : Walk → Type 0) (k : IsKept P) where
  pub clock_item_keeps : (at : Position) (r : Resolved) (period : CheckedTime) → Keeps P (clock_of at r period)
  clock_item_keeps at r period w h =
      unless_keeps P k.quiet (clock_timed at r period (time_of (known_here w) period))
      (timed_keeps P k at r period _ (time_within (known_here w) period)) _
      (object_keeps P k.quiet r.word.position r.word.name _ (room_keeps P k.quiet r.word.position r.word.name w h))

-- ---- instances and texts

module _ (P : Walk → Type 0) (k : IsKept P) (more : IsKeptBehind P) where
  pub instance_keeps : (inside : Inside) → ((n : ℕ) → Keeps P (inside n)) → (child : Viewed) (n : ℕ) (word : Word)
      (declared initial : List Evaluated) → Keeps P (instance_with inside child n word declared initial)
  instance_keeps inside each child n word declared initial w h =
      let name = full_name w word.name in
      let w1 = after_args name initial (after_args name declared (with_object word.position name w)) in
      let known = entered name (values_from child.params 0 (counting declared initial)) in
      let inner = inside n (record w1 { here = known }) in
      let i : WalkedInstance = record { module_number = n; members = inner.here.members } in
      meant_keeps P k (meaning.Instance (length inner.instances))
      (record inner { here = w1.here; instances = inner.instances ++ i ∷ [] })
      (k.here (record inner { instances = inner.instances ++ i ∷ [] }) w1.here
      (more inner i (each n (record w1 { here = known }) (k.here w1 known
      (args_keep P k.quiet name initial (after_args name declared (with_object word.position name w))
      (args_keep P k.quiet name declared (with_object word.position name w) (object_keeps P k.quiet word.position name w h)))))))

  pub child_keeps : (inside : Inside) → ((n : ℕ) → Keeps P (inside n)) → (f : Filed) (v : Viewed) (n : ℕ) (p : CheckedPart) →
      Keeps P (child_of inside f v n p)
  child_keeps inside each f v n p w h =
      let c = known_here w in
      instance_keeps inside each (view_at f n) n p.name.word (args_evaluated c (args_given p.args))
      (args_evaluated c (init_args v (length w.here.members))) w h

  pub member_keeps : (inside : Inside) → ((n : ℕ) → Keeps P (inside n)) → (f : Filed) (v : Viewed) (m : CheckedMember) →
      Keeps P (member_of inside f v m)
  member_keeps inside each f v member.Public w h = h
  member_keeps inside each f v (member.Constant c) w h = constant_keeps P k v c w h
  member_keeps inside each f v (member.HasProcess name) w h = h
  member_keeps inside each f v (member.Fields x) w h =
      in_order_keeps P k.quiet _ (field_keeps P k v x.is_const (kind_written x.form.form)) x.fields w h
  member_keeps inside each f v (member.Ports p) w h =
      in_order_keeps P k.quiet _ (port_keeps P k (port_form p.port (kind_written p.form.form))) p.names w h
  member_keeps inside each f v (member.Clocks names) w h =
      in_order_keeps P k.quiet _ (port_keeps P k (thing.SignalPort direction.In kind.Bool)) names w h
  member_keeps inside each f v (member.Channels c) w h =
      in_order_keeps P k.quiet _ (part_keeps P k v c.channel (kind_written c.form.form)) c.parts w h
  member_keeps inside each f v (member.Events names) w h = in_order_keeps P k.quiet _ (event_keeps P k) names w h
  member_keeps inside each f v (member.Children c) w h =
      in_order_keeps P k.quiet _ (child_keeps inside each f v c.module_name.denotes.number) c.parts w h
  member_keeps inside each f v (member.Function x) w h = meant_keeps P k meaning.Nothing w h
  member_keeps inside each f v (member.Constructor c) w h = h

  pub inside_keeps : (levels : ℕ) (f : Filed) (n : ℕ) → Keeps P (inside_of levels f n)
  inside_keeps zero f n w h = h
  inside_keeps (suc levels) f n w h =
      let v = view_at f n in
      setups_keep P k.quiet v 0 v.setups _ (in_order_keeps P k.quiet _ (member_keeps (inside_of levels f) (inside_keeps levels f) f v) v.members _
      (statics_keep P k v v.members w h))

  pub main_item_keeps : (f : Filed) (x : CheckedMainItem) → Keeps P (main_item_of f x)
  main_item_keeps f (main_item.Constant c) w h =
      fixed_keeps P k (kind_written c.form.form) c.name.word (Some (evaluated (known_here w) c.value)) None w h
  main_item_keeps f (main_item.Channel c) w h =
      word_keeps P k c.channel (kind_written c.form.form) c.name.word
      (option_evaluated (known_here w) (value_among (args_given c.args))) None w h
  main_item_keeps f (main_item.Clock at r text period) w h = clock_item_keeps P k at r period w h
  main_item_keeps f (main_item.Instance m r args) w h =
      instance_keeps (inside_of (length f.plans) f) (inside_keeps (length f.plans) f) (view_at f m.denotes.number) m.denotes.number
      r.word (args_evaluated (known_here w) args) [] w h
  main_item_keeps f (main_item.Bind b) w h = bind_keeps P k.quiet _ b w h

  -- so it holds of the walk over a text
  pub walked : P at_first → (u : CheckedUnit) → P (walk_of u)
  walked h u =
      unless_keeps P k.quiet (start_of u.main.start) (start_form_keeps P k.quiet u.main.start) _
      (in_order_keeps P k.quiet _ (main_item_keeps (file_of u)) u.main.items _ (in_order_keeps P k.quiet _ (item_keeps P k) u.items _ h))
