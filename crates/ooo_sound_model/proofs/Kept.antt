-- What holds of a walk and is kept by the steps that add no process and no instance.
use Rattle.std.proofs.Common.{◌≡◌, refl, ℕ, ◌+◌, ◌-◌, List, [], ◌∷◌, ◌++◌, length, Bool, true, false, Option, Some, None, slice_set}
use Rattle.std.specs.Prelude.{⊤, codes, ◌==◌, nat_lt, nat_le, if◌then◌else◌, is_some, slice_get, Result, Ok, Err, IfOk}
use Rattle.ooo_time.specs.declared.time.Time.{Time}
use Rattle.ooo_lexer.specs.declared.position.Position.{Position}
use Rattle.ooo_value.specs.declared.bound.BoundChannel.{BoundChannel}
use Rattle.ooo_value.specs.declared.bound.BoundVariable.{BoundVariable}
use Rattle.ooo_value.specs.declared.bound.BoundEvent.TheVariants as event
use Rattle.ooo_value.specs.declared.kinds.Kind.{Kind}
use Rattle.ooo_value.specs.declared.values.Value.{Value}
use Rattle.ooo_value.specs.Operators.{Answer}
use Rattle.ooo_syntax.specs.declared.leaves.Word.{Word}
use Rattle.ooo_syntax.specs.declared.module.ChannelWord.{ChannelWord}
use Rattle.ooo_syntax.specs.declared.module.ChannelWord.TheVariants as channel_word
use Rattle.ooo_checked.specs.declared.denotation.Resolved.{Resolved}
use Rattle.ooo_checked.specs.declared.denotation.Thing.{Thing}
use Rattle.ooo_checked.specs.declared.module.CheckedBinding.{CheckedBinding}
use Rattle.ooo_checked.specs.declared.module.CheckedConstant.{CheckedConstant}
use Rattle.ooo_checked.specs.declared.module.CheckedField.{CheckedField}
use Rattle.ooo_checked.specs.declared.module.CheckedFieldForm.{CheckedFieldForm}
use Rattle.ooo_checked.specs.declared.module.CheckedFieldForm.TheVariants as form
use Rattle.ooo_checked.specs.declared.module.CheckedMember.{CheckedMember}
use Rattle.ooo_checked.specs.declared.module.CheckedMember.TheVariants as member
use Rattle.ooo_checked.specs.declared.module.CheckedPart.{CheckedPart}
use Rattle.ooo_checked.specs.declared.unit.CheckedStartForm.{CheckedStartForm}
use Rattle.ooo_checked.specs.declared.unit.CheckedStartForm.TheVariants as start
use Rattle.ooo_checked.specs.declared.unit.CheckedUnitItem.{CheckedUnitItem}
use Rattle.ooo_checked.specs.declared.unit.CheckedUnitItem.TheVariants as item
use Rattle.ooo_checked.specs.Exprs.{kind_written}
use Rattle.ooo_constants.specs.declared.bodies.TimeRefusal.{TimeRefusal}
use Rattle.ooo_constants.specs.declared.meaning.Meaning.{Meaning}
use Rattle.ooo_constants.specs.declared.meaning.Meaning.TheVariants as meaning
use Rattle.ooo_constants.specs.declared.times.TimeBreach.{TimeBreach}
use Rattle.ooo_constants.specs.Meanings.{zero_of}
use Rattle.ooo_constants.specs.Times.{time_of, place_of}
use Rattle.ooo_walk.specs.declared.refusal.ElabBreach.{ElabBreach}
use Rattle.ooo_walk.specs.declared.refusal.ElabBreach.TheVariants as what
use Rattle.ooo_walk.specs.declared.refusal.Refusal.{Refusal}
use Rattle.ooo_walk.specs.declared.state.Evaluated.{Evaluated}
use Rattle.ooo_walk.specs.declared.state.Walk.{Walk}
use Rattle.ooo_walk.specs.declared.state.WalkedInstance.{WalkedInstance}
use Rattle.ooo_walk.specs.States.{start_value, full_name, refused, unless_refused, after_answer, as_breach, meant, known_here, evaluated, option_evaluated, after_option, after_start, most_objects, most_cells, with_object, with_cells, with_variable, channel_events, with_channel, in_order}
use Rattle.ooo_walk.specs.Members.{scalar_of, initialised, fixed_of, elements_of, array_with, plain_of, field_with, field_of, with_static, statics_by, statics_of, no_static, constants_to, constant_of, fifo_with, channel_of, part_of, port_of, event_of}
use Rattle.ooo_checked.specs.declared.denotation.Denotation.{Denotation}
use Rattle.ooo_walk.specs.Setups.{end_of, port_in, with_start, set_meant, bound_to, bind_meant, after_times}
use Rattle.ooo_walk.specs.Instances.{after_args}
use Rattle.ooo_walk.specs.Plans.{Viewed}
use Rattle.ooo_walk.specs.Texts.{item_of, after_room, stop_timed, start_of}
use Rattle.ooo_walk.specs.declared.state.WalkedProcess.{WalkedProcess}
use Rattle.ooo_sound_model.proofs.Times.{IsInTime, time_within}

-- no port is meant
abbrev pub IsNoPort : Meaning → Type 0
IsNoPort (meaning.Port p) = ⊥
IsNoPort _ = ⊤

-- each step of a walk keeps it that declares no name and adds no process
pub record IsQuiet (P : Walk → Type 0) : Type 0 where
  pub refusal : (w : Walk) (r : Refusal) → P w → P (record w { refusal = Some r })
  pub objects : (w : Walk) (n : ℕ) → P w → P (record w { objects = n })
  pub cells : (w : Walk) (n : ℕ) → P w → P (record w { cells = n })
  pub file : (w : Walk) (ms : List Meaning) → P w → P (record w { file = ms })
  pub stop : (w : Walk) (t : Time) → IsInTime t → P w → P (record w { stop = Some t })
  pub resets : (w : Walk) (x : ℕ) (b : BoundVariable) (v : Value) → slice_get w.variables x ≡ Some b → P w →
      P (record w { variables = slice_set w.variables x (record b { start = v }) })
  pub binding : (w : Walk) (i name p : ℕ) (d : Denotation) (at : Position) → port_in (slice_get w.instances i) name ≡ Some (meaning.Port p) → P w →
      P (record w { bindings = w.bindings ++ record { port = p; to = end_of d w; at = at } ∷ [] })

-- and each other step that adds no process and no instance
pub record IsKept (P : Walk → Type 0) : Type 0 where
  pub quiet : IsQuiet P
  pub named : (w : Walk) (m : Meaning) → IsNoPort m → P w → P (meant m w)
  pub statics : (w : Walk) (ms : List Meaning) → P w → P (record w { here = record w.here { statics = ms } })
  pub variable : (w : Walk) (x : BoundVariable) → P w → P (record w { variables = w.variables ++ x ∷ [] })
  pub opens_channel : (w : Walk) (b : BoundChannel) (is_clock : Bool) (at : Position) (name : List ℕ) → P w →
      P (record w {
        channels = w.channels ++ record { bound = b; is_clock = is_clock; first_event = length w.events; name = name; at = at } ∷ [];
        events = w.events ++ channel_events b.kind b.value (length w.channels);
      })
  pub port : (w : Walk) (t : Thing) (at : Position) (name : List ℕ) → P w →
      P (meant (meaning.Port (length w.ports)) (record w { ports = w.ports ++ record { form = t; name = name; at = at } ∷ [] }))
  pub opens_event : (w : Walk) → P w → P (record w { events = w.events ++ event.Own ∷ [] })

-- a step keeps it
abbrev pub Keeps : (Walk → Type 0) → (Walk → Walk) → Type 0
Keeps P f = (w : Walk) → P w → P (f w)

-- what is said of the processes and instances of a walk
abbrev pub At : (List WalkedProcess → List WalkedInstance → Type 0) → Walk → Type 0
At R w = R w.processes w.instances

-- ---- steps that declare no name

module _ (P : Walk → Type 0) (k : IsQuiet P) where
  pub refused_keeps : (breach : ElabBreach) (at : Position) (name : List ℕ) → Keeps P (refused breach at name)
  refused_keeps breach at name w h =
      elim (w.refusal)
      as (λ o. P (elim o [
        | None ↦ record w { refusal = Some (record { what = breach; at = at; names = name ∷ [] }) }
        | Some r ↦ w
      ])) [ None ↦ k.refusal w _ h | Some r ↦ h ]

  pub unless_keeps : (f : Walk → Walk) → Keeps P f → Keeps P (unless_refused f)
  unless_keeps f each w h =
      elim (is_some w.refusal) as (λ t. P (if t then w else f w)) [ true ↦ h | false ↦ each w h ]

  pub in_order_keeps : {A : Type 0} (f : A → Walk → Walk) → ((x : A) → Keeps P (f x)) → (xs : List A) → Keeps P (in_order f xs)
  in_order_keeps f each [] w h = h
  in_order_keeps f each (x ∷ xs) w h = in_order_keeps f each xs _ (unless_keeps (f x) (each x) w h)

  pub answer_keeps : (a : Answer) (at : Position) (name : List ℕ) → Keeps P (after_answer a at name)
  answer_keeps (Ok v) at name w h = h
  answer_keeps (Err f) at name w h = refused_keeps what.BadConstant at name w h

  pub option_keeps : (name : List ℕ) (o : Option Evaluated) → Keeps P (after_option name o)
  option_keeps name None w h = h
  option_keeps name (Some e) w h = answer_keeps e.answer e.at name w h

  pub start_keeps : (name : List ℕ) (declared initial : Option Evaluated) → Keeps P (after_start name declared initial)
  start_keeps name declared initial w h = option_keeps name initial _ (option_keeps name declared w h)

  pub object_keeps : (at : Position) (name : List ℕ) → Keeps P (with_object at name)
  object_keeps at name w h =
      elim (nat_lt w.objects most_objects)
      as (λ t. P (if t then record w { objects = w.objects + 1 } else refused what.TooManyObjects at name w))
      [ true ↦ k.objects w _ h | false ↦ refused_keeps what.TooManyObjects at name w h ]

  pub cells_keep : (n : ℕ) (at : Position) (name : List ℕ) → Keeps P (with_cells n at name)
  cells_keep n at name w h =
      elim (nat_le n (most_cells - w.cells))
      as (λ t. P (if t then record w { cells = w.cells + n } else refused what.TooManyCells at name w))
      [ true ↦ k.cells w _ h | false ↦ refused_keeps what.TooManyCells at name w h ]

  pub with_start_keeps : (x : ℕ) (o : Option BoundVariable) (a : Answer) (w : Walk) → slice_get w.variables x ≡ o → P w →
      P (with_start x o a w)
  with_start_keeps x None a w is h = h
  with_start_keeps x (Some b) a w is h = k.resets w x b _ is h

  pub set_keeps : (m : Option Meaning) (a : Answer) → Keeps P (set_meant m a)
  set_keeps (Some (meaning.Variable x)) a w h = with_start_keeps x (slice_get w.variables x) a w refl h
  set_keeps (Some (meaning.Constant v)) a w h = h
  set_keeps (Some (meaning.Channel c)) a w h = h
  set_keeps (Some (meaning.Event e)) a w h = h
  set_keeps (Some (meaning.Port p)) a w h = h
  set_keeps (Some (meaning.Instance i)) a w h = h
  set_keeps (Some (meaning.Function f)) a w h = h
  set_keeps (Some meaning.Nothing) a w h = h
  set_keeps None a w h = h

  pub bound_keeps : (i name : ℕ) (d : Denotation) (at : Position) (m : Option Meaning) (w : Walk) → port_in (slice_get w.instances i) name ≡ m →
      P w → P (bound_to m (end_of d w) at w)
  bound_keeps i name d at (Some (meaning.Port p)) w is h = k.binding w i name p d at is h
  bound_keeps i name d at (Some (meaning.Variable x)) w is h = h
  bound_keeps i name d at (Some (meaning.Constant v)) w is h = h
  bound_keeps i name d at (Some (meaning.Channel c)) w is h = h
  bound_keeps i name d at (Some (meaning.Event e)) w is h = h
  bound_keeps i name d at (Some (meaning.Instance j)) w is h = h
  bound_keeps i name d at (Some (meaning.Function f)) w is h = h
  bound_keeps i name d at (Some meaning.Nothing) w is h = h
  bound_keeps i name d at None w is h = h

  pub bind_keeps : (m : Option Meaning) (b : CheckedBinding) → Keeps P (bind_meant m b)
  bind_keeps (Some (meaning.Instance i)) b w h =
      bound_keeps i b.port.denotes.number b.channel.denotes b.instance.word.position (port_in (slice_get w.instances i) b.port.denotes.number) w refl h
  bind_keeps (Some (meaning.Port p)) b w h = h
  bind_keeps (Some (meaning.Variable x)) b w h = h
  bind_keeps (Some (meaning.Constant v)) b w h = h
  bind_keeps (Some (meaning.Channel c)) b w h = h
  bind_keeps (Some (meaning.Event e)) b w h = h
  bind_keeps (Some (meaning.Function f)) b w h = h
  bind_keeps (Some meaning.Nothing) b w h = h
  bind_keeps None b w h = h

  pub times_keep : (o : Option TimeRefusal) (name : List ℕ) → Keeps P (after_times o name)
  times_keep None name w h = h
  times_keep (Some r) name w h = refused_keeps _ r.at name w h

  pub args_keep : (name : List ℕ) (es : List Evaluated) → Keeps P (after_args name es)
  args_keep name [] w h = h
  args_keep name (e ∷ es) w h = args_keep name es _ (answer_keeps e.answer e.at name w h)

  pub room_keeps : (at : Position) (name : List ℕ) → Keeps P (after_room at name)
  room_keeps at name w h =
      elim (nat_lt (length w.processes) 256) as (λ t. P (if t then w else refused what.TooManyProcesses at name w))
      [ true ↦ h | false ↦ refused_keeps what.TooManyProcesses at name w h ]

  pub stop_keeps : (at : Position) (t : Result Time TimeBreach) → IfOk t IsInTime → Keeps P (stop_timed at t)
  stop_keeps at (Ok t) within w h =
      elim (t.0 == 0) as (λ b. P (if b then refused what.BadConstant at (codes "sc_start") w else record w { stop = Some t }))
      [ true ↦ refused_keeps what.BadConstant at (codes "sc_start") w h | false ↦ k.stop w t within h ]
  stop_keeps at (Err breach) within w h = refused_keeps (as_breach breach) at (codes "sc_start") w h

  pub start_form_keeps : (o : Option CheckedStartForm) → Keeps P (start_of o)
  start_form_keeps None w h = h
  start_form_keeps (Some (start.Open at)) w h = h
  start_form_keeps (Some (start.Limited at t)) w h =
      stop_keeps (place_of t) (time_of (known_here w) t) (time_within (known_here w) t) w h

-- ---- steps that declare names

module _ (P : Walk → Type 0) (k : IsKept P) where
  pub meant_keeps : (m : Meaning) → IsNoPort m → Keeps P (meant m)
  meant_keeps m none w h = k.named w m none h

  pub variable_keeps : (x : BoundVariable) → Keeps P (with_variable x)
  variable_keeps x w h = meant_keeps (meaning.Variable (length w.variables)) tt _ (k.variable w x h)

  pub scalar_keeps : (j : Kind) (word : Word) (declared initial : Option Evaluated) → Keeps P (scalar_of j word declared initial)
  scalar_keeps j word declared initial w h =
      variable_keeps _ _
      (cells_keep P k.quiet 1 word.position _ _ (start_keeps P k.quiet _ declared initial _ (object_keeps P k.quiet word.position _ w h)))

  pub fixed_keeps : (j : Kind) (word : Word) (declared initial : Option Evaluated) → Keeps P (fixed_of j word declared initial)
  fixed_keeps j word declared initial w h = meant_keeps (meaning.Constant (start_value j declared initial)) tt _ (start_keeps P k.quiet _ declared initial w h)

  pub elements_keep : (j : Kind) (n : ℕ) (at : Position) (name : List ℕ) → Keeps P (elements_of j n at name)
  elements_keep j n at name w h =
      elim (nat_le n (most_cells - w.cells))
      as (λ t. P (if t
      then with_variable (record { kind = j; length = n; start = zero_of j }) (record w { cells = w.cells + n })
      else refused what.TooManyCells at name w)) [
        | true ↦ variable_keeps _ _ (k.quiet.cells w _ h)
        | false ↦ refused_keeps P k.quiet what.TooManyCells at name w h
      ]

  pub array_keeps : (j : Kind) (o : Option ℕ) (at expression : Position) (name : List ℕ) →
      Keeps P (array_with j o at expression name)
  array_keeps j None at expression name w h = refused_keeps P k.quiet what.BadConstant expression name w h
  array_keeps j (Some n) at expression name w h = elements_keep j n at name w h

  pub plain_keeps : (is_const : Bool) (j : Kind) (word : Word) (declared initial : Option Evaluated) →
      Keeps P (plain_of is_const j word declared initial)
  plain_keeps true j word declared initial w h = fixed_keeps j word declared initial w h
  plain_keeps false j word declared initial w h = scalar_keeps j word declared initial w h

  pub form_keeps : (v : Viewed) (is_const : Bool) (j : Kind) (word : Word) (f : CheckedFieldForm) → Keeps P (field_with v is_const j word f)
  form_keeps v is_const j word form.Plain w h = plain_keeps is_const j word _ _ w h
  form_keeps v is_const j word (form.Value e) w h = plain_keeps is_const j word _ _ w h
  form_keeps v is_const j word (form.Length e) w h =
      array_keeps j _ word.position _ _ _ (object_keeps P k.quiet word.position _ w h)

  pub field_keeps : (v : Viewed) (is_const : Bool) (j : Kind) (x : CheckedField) → Keeps P (field_of v is_const j x)
  field_keeps v is_const j x w h = form_keeps v is_const j x.name.word x.form w h

  pub static_keeps : (v : Viewed) (m : CheckedMember) → Keeps P (statics_by v m)
  static_keeps v (member.Constant c) w h =
      elim (c.is_static) as (λ t. P (if t then with_static v (kind_written c.form.form) c.value w else no_static w))
      [ true ↦ k.statics w _ h | false ↦ k.statics w _ h ]
  static_keeps v member.Public w h = k.statics w _ h
  static_keeps v (member.HasProcess name) w h = k.statics w _ h
  static_keeps v (member.Fields x) w h = k.statics w _ h
  static_keeps v (member.Ports p) w h = k.statics w _ h
  static_keeps v (member.Clocks names) w h = k.statics w _ h
  static_keeps v (member.Channels c) w h = k.statics w _ h
  static_keeps v (member.Events names) w h = k.statics w _ h
  static_keeps v (member.Children c) w h = k.statics w _ h
  static_keeps v (member.Function x) w h = k.statics w _ h
  static_keeps v (member.Constructor c) w h = k.statics w _ h

  pub statics_keep : (v : Viewed) (ms : List CheckedMember) → Keeps P (statics_of v ms)
  statics_keep v [] w h = h
  statics_keep v (m ∷ ms) w h = statics_keep v ms _ (static_keeps v m w h)

  pub constant_keeps : (v : Viewed) (c : CheckedConstant) → Keeps P (constant_of v c)
  constant_keeps v c w h =
      let known = constants_to c.is_static w in
      fixed_keeps (kind_written c.form.form) c.name.word (Some (evaluated known c.value)) (option_evaluated known (initialised v w)) w h

  pub channel_keeps : (b : BoundChannel) (is_clock : Bool) (at : Position) (name : List ℕ) →
      Keeps P (with_channel b is_clock at name)
  channel_keeps b is_clock at name w h = meant_keeps (meaning.Channel (length w.channels)) tt _ (k.opens_channel w b is_clock at name h)

  pub fifo_keeps : (j : Kind) (o : Option ℕ) (at : Position) (name : List ℕ) → Keeps P (fifo_with j o at name)
  fifo_keeps j None at name w h = refused_keeps P k.quiet what.FifoSize at name w h
  fifo_keeps j (Some n) at name w h = channel_keeps _ false at name w h

  pub word_keeps : (c : ChannelWord) (j : Kind) (word : Word) (declared initial : Option Evaluated) →
      Keeps P (channel_of c j word declared initial)
  word_keeps channel_word.Signal j word declared initial w h =
      channel_keeps _ false word.position _ _ (object_keeps P k.quiet word.position _ w h)
  word_keeps channel_word.Fifo j word declared initial w h =
      fifo_keeps j _ word.position _ _
      (start_keeps P k.quiet _ declared initial _ (object_keeps P k.quiet word.position _ w h))

  pub part_keeps : (v : Viewed) (c : ChannelWord) (j : Kind) (p : CheckedPart) → Keeps P (part_of v c j p)
  part_keeps v c j p w h = word_keeps c j p.name.word _ _ w h

  pub port_keeps : (t : Thing) (r : Resolved) → Keeps P (port_of t r)
  port_keeps t r w h = k.port w t r.word.position _ h

  pub event_keeps : (r : Resolved) → Keeps P (event_of r)
  event_keeps r w h =
      let w1 = with_object r.word.position (full_name w r.word.name) w in
      meant_keeps (meaning.Event (length w1.events)) tt _ (k.opens_event w1 (object_keeps P k.quiet r.word.position _ w h))

  pub item_keeps : (x : CheckedUnitItem) → Keeps P (item_of x)
  item_keeps (item.Using library) w h = h
  item_keeps (item.Constant c) w h = k.quiet.file _ _ (answer_keeps P k.quiet _ _ _ w h)
  item_keeps (item.Module m) w h = k.quiet.file w _ h

-- ---- processes and instances

pub at_quiet : (R : List WalkedProcess → List WalkedInstance → Type 0) → IsQuiet (At R)
at_quiet R = record {
  refusal = λ w r h. h;
  objects = λ w n h. h;
  cells = λ w n h. h;
  file = λ w ms h. h;
  stop = λ w t within h. h;
  resets = λ w x b v is h. h;
  binding = λ w i name p d at is h. h;
}

pub at_kept : (R : List WalkedProcess → List WalkedInstance → Type 0) → IsKept (At R)
at_kept R = record {
  quiet = at_quiet R;
  named = λ w m none h. h;
  statics = λ w ms h. h;
  variable = λ w x h. h;
  opens_channel = λ w b is_clock at name h. h;
  port = λ w t at name h. h;
  opens_event = λ w h. h;
}
