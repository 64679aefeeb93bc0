-- The stop time of a model, where it has one, is at most the greatest time: it is a constant time, and only `sc_start` sets it.
use Rattle.std.proofs.Common.{subst, ℕ, zero, suc, ◌+◌, ◌/◌, ◌%◌, List, [], ◌∷◌, ◌++◌, length, true, false, Some, None}
use Rattle.std.specs.Prelude.{◌==◌, ◌||◌, nat_lt, if◌then◌else◌, slice_get, IfSome, Result, Ok, Err}
use Rattle.ooo_time.specs.declared.time.Time.{Time}
use Rattle.ooo_lexer.specs.declared.position.Position.{Position}
use Rattle.ooo_value.specs.declared.bound.BoundChannel.{BoundChannel}
use Rattle.ooo_value.specs.declared.bound.ChannelKind.TheVariants as channel
use Rattle.ooo_value.specs.declared.bound.ProcessKind.{ProcessKind}
use Rattle.ooo_value.specs.declared.bound.ProcessKind.TheVariants as process
use Rattle.ooo_value.specs.declared.kinds.Kind.TheVariants as kind
use Rattle.ooo_syntax.specs.declared.leaves.Word.{Word}
use Rattle.ooo_bound.specs.declared.model.Bound.{Bound}
use Rattle.ooo_checked.specs.declared.denotation.Direction.TheVariants as direction
use Rattle.ooo_checked.specs.declared.denotation.Resolved.{Resolved}
use Rattle.ooo_checked.specs.declared.denotation.Thing.TheVariants as thing
use Rattle.ooo_checked.specs.declared.module.CheckedMember.{CheckedMember}
use Rattle.ooo_checked.specs.declared.module.CheckedMember.TheVariants as member
use Rattle.ooo_checked.specs.declared.module.CheckedPart.{CheckedPart}
use Rattle.ooo_checked.specs.declared.module.CheckedSetup.{CheckedSetup}
use Rattle.ooo_checked.specs.declared.module.CheckedSetup.TheVariants as setup
use Rattle.ooo_checked.specs.declared.stat.CheckedTime.{CheckedTime}
use Rattle.ooo_checked.specs.declared.unit.CheckedMainItem.{CheckedMainItem}
use Rattle.ooo_checked.specs.declared.unit.CheckedMainItem.TheVariants as main_item
use Rattle.ooo_checked.specs.declared.unit.CheckedUnit.{CheckedUnit}
use Rattle.ooo_checked.specs.Exprs.{kind_written}
use Rattle.ooo_constants.specs.declared.meaning.Meaning.TheVariants as meaning
use Rattle.ooo_constants.specs.declared.times.TimeBreach.{TimeBreach}
use Rattle.ooo_constants.specs.Times.{place_of, time_of}
use Rattle.ooo_walk.specs.declared.refusal.ElabBreach.TheVariants as what
use Rattle.ooo_walk.specs.declared.state.Evaluated.{Evaluated}
use Rattle.ooo_walk.specs.declared.state.ProcessForm.{ProcessForm}
use Rattle.ooo_walk.specs.declared.state.ProcessForm.TheVariants.{Clock, Registered}
use Rattle.ooo_walk.specs.declared.state.Walk.{Walk}
use Rattle.ooo_walk.specs.States.{after_answer, as_breach, evaluated, full_name, in_order, known_here, most_processes, option_evaluated, refused, unless_refused, with_channel, with_object, with_process}
use Rattle.ooo_walk.specs.Members.{args_given, event_of, field_of, part_of, port_of, statics_of, value_among}
use Rattle.ooo_walk.specs.Setups.{after_times, process_of, process_told, setup_of, setups_from}
use Rattle.ooo_walk.specs.Instances.{Inside, after_args, args_evaluated, child_of, counting, entered, inside_of, instance_with, member_of, port_form, values_from}
use Rattle.ooo_walk.specs.Plans.{Filed, Viewed, init_args, view_at}
use Rattle.ooo_walk.specs.Texts.{after_room, at_first, clock_of, clock_timed, clock_with, file_of, item_of, main_item_of, start_of, walk_of}
use Rattle.ooo_sound_model.specs.Reports.{StopsInTime}
use Rattle.ooo_sound_model.proofs.Passed.{passed}
use Rattle.ooo_sound_model.proofs.Times.{IsInTime}
use Rattle.ooo_sound_model.proofs.Kept.{IsKept, IsQuiet, Keeps, answer_keeps, args_keep, bind_keeps, channel_keeps, constant_keeps, event_keeps, field_keeps, fixed_keeps, in_order_keeps, item_keeps, meant_keeps, object_keeps, part_keeps, port_keeps, refused_keeps, room_keeps, set_keeps, start_form_keeps, statics_keep, times_keep, unless_keeps, word_keeps}

-- a walk whose stop time, where it has one, is at most the greatest time
abbrev Stops : Walk → Type 0
Stops w = IfSome w.stop IsInTime

quiet : IsQuiet Stops
quiet = record {
  refusal = λ w r h. h;
  objects = λ w n h. h;
  cells = λ w n h. h;
  file = λ w ms h. h;
  stop = λ w t within h. within;
  resets = λ w x b v is h. h;
  binding = λ w i name p d at is h. h;
}

kept : IsKept Stops
kept = record {
  quiet = quiet;
  named = λ w m none h. h;
  statics = λ w ms h. h;
  variable = λ w x h. h;
  opens_channel = λ w b is_clock at name h. h;
  port = λ w t at name h. h;
  opens_event = λ w h. h;
}

-- ---- constructors

registered_keeps : (form : ProcessForm) (at : Position) (name : List ℕ) → Keeps Stops (with_process form at name)
registered_keeps form at name w h =
    elim (nat_lt (length w.processes) most_processes)
    as (λ t. Stops (if t
    then record w { processes = w.processes ++ record { form = form; name = name } ∷ [] }
    else refused what.TooManyProcesses at name w))
    [ true ↦ h | false ↦ refused_keeps Stops quiet what.TooManyProcesses at name w h ]

process_keeps : (v : Viewed) (j : ProcessKind) (place : ℕ) (r : Resolved) → Keeps Stops (process_of v j place r)
process_keeps v j place r w h =
    let told = process_told v (known_here w) r.denotes.number in
    let name = full_name w r.word.name in
    let form = Registered j (length w.instances) place r.denotes.number in
    unless_keeps Stops quiet (after_times told name) (times_keep Stops quiet told name) (with_process form r.word.position name w)
    (registered_keeps form r.word.position name w h)

setup_keeps : (v : Viewed) (place : ℕ) (x : CheckedSetup) → Keeps Stops (setup_of v place x)
setup_keeps v place (setup.Thread at r) w h = process_keeps v process.Thread place r w h
setup_keeps v place (setup.Method at r) w h = process_keeps v process.Method place r w h
setup_keeps v place (setup.Sensitive at es) w h = h
setup_keeps v place (setup.DontInitialize at) w h = h
setup_keeps v place (setup.Bind b) w h = bind_keeps Stops quiet (slice_get w.here.members b.instance.denotes.number) b w h
setup_keeps v place (setup.Set r e) w h =
    let a = evaluated (known_here w) e in
    let name = full_name w r.word.name in
    set_keeps Stops quiet (slice_get w.here.members r.denotes.number) a.answer (after_answer a.answer a.at name w)
    (answer_keeps Stops quiet a.answer a.at name w h)

setups_keep : (v : Viewed) (place : ℕ) (xs : List CheckedSetup) → Keeps Stops (setups_from v place xs)
setups_keep v place [] w h = h
setups_keep v place (x ∷ xs) w h =
    setups_keep v (place + 1) xs (unless_refused (setup_of v place x) w)
    (unless_keeps Stops quiet (setup_of v place x) (setup_keeps v place x) w h)

-- ---- instances

abbrev Each : Inside → Type 0
Each inside = (n : ℕ) → Keeps Stops (inside n)

instance_keeps : (inside : Inside) → Each inside → (child : Viewed) (n : ℕ) (word : Word) (declared initial : List Evaluated) →
    Keeps Stops (instance_with inside child n word declared initial)
instance_keeps inside each child n word declared initial w h =
    let name = full_name w word.name in
    let known = entered name (values_from child.params 0 (counting declared initial)) in
    let at = word.position in
    let w0 = with_object at name w in
    let w1 = after_args name declared w0 in
    let w2 = after_args name initial w1 in
    each n (record w2 { here = known })
    (args_keep Stops quiet name initial w1 (args_keep Stops quiet name declared w0 (object_keeps Stops quiet at name w h)))

child_keeps : (inside : Inside) → Each inside → (f : Filed) (v : Viewed) (n : ℕ) (p : CheckedPart) →
    Keeps Stops (child_of inside f v n p)
child_keeps inside each f v n p w h =
    let c = known_here w in
    instance_keeps inside each (view_at f n) n p.name.word (args_evaluated c (args_given p.args))
    (args_evaluated c (init_args v (length w.here.members))) w h

member_keeps : (inside : Inside) → Each inside → (f : Filed) (v : Viewed) (m : CheckedMember) →
    Keeps Stops (member_of inside f v m)
member_keeps inside each f v member.Public w h = h
member_keeps inside each f v (member.Constant c) w h = constant_keeps Stops kept v c w h
member_keeps inside each f v (member.HasProcess name) w h = h
member_keeps inside each f v (member.Fields x) w h =
    let j = kind_written x.form.form in
    in_order_keeps Stops quiet (field_of v x.is_const j) (field_keeps Stops kept v x.is_const j) x.fields w h
member_keeps inside each f v (member.Ports p) w h =
    let t = port_form p.port (kind_written p.form.form) in
    in_order_keeps Stops quiet (port_of t) (port_keeps Stops kept t) p.names w h
member_keeps inside each f v (member.Clocks names) w h =
    let t = thing.SignalPort direction.In kind.Bool in
    in_order_keeps Stops quiet (port_of t) (port_keeps Stops kept t) names w h
member_keeps inside each f v (member.Channels c) w h =
    let j = kind_written c.form.form in
    in_order_keeps Stops quiet (part_of v c.channel j) (part_keeps Stops kept v c.channel j) c.parts w h
member_keeps inside each f v (member.Events names) w h =
    in_order_keeps Stops quiet event_of (event_keeps Stops kept) names w h
member_keeps inside each f v (member.Children c) w h =
    let n = c.module_name.denotes.number in
    in_order_keeps Stops quiet (child_of inside f v n) (child_keeps inside each f v n) c.parts w h
member_keeps inside each f v (member.Function x) w h = meant_keeps Stops kept meaning.Nothing tt w h
member_keeps inside each f v (member.Constructor c) w h = h

inside_keeps : (levels : ℕ) (f : Filed) → Each (inside_of levels f)
inside_keeps zero f n w h = h
inside_keeps (suc levels) f n w h =
    let v = view_at f n in
    let inside = inside_of levels f in
    let w0 = statics_of v v.members w in
    setups_keep v 0 v.setups (in_order (member_of inside f v) v.members w0)
    (in_order_keeps Stops quiet (member_of inside f v) (member_keeps inside (inside_keeps levels f) f v) v.members w0
    (statics_keep Stops kept v v.members w h))

-- ---- texts

clock_keeps : (at : Position) (r : Resolved) (t : Time) → Keeps Stops (clock_with at r t)
clock_keeps at r t w h =
    let form = Clock (length w.channels) (record { 0 = t.0 / 2 }) at.line in
    let here = r.word.position in
    let name = r.word.name in
    let w1 = with_process form here name w in
    let signal : BoundChannel = record { kind = channel.Signal; value = kind.Bool; size = 0 } in
    elim (t.0 == 0 || t.0 % 2 == 1)
    as (λ b. Stops (if b then refused what.OddClock here name w else with_channel signal true here name w1)) [
      | true ↦ refused_keeps Stops quiet what.OddClock here name w h
      | false ↦ channel_keeps Stops kept signal true here name w1 (registered_keeps form here name w h)
    ]

timed_keeps : (at : Position) (r : Resolved) (period : CheckedTime) (t : Result Time TimeBreach) →
    Keeps Stops (clock_timed at r period t)
timed_keeps at r period (Ok t) w h = clock_keeps at r t w h
timed_keeps at r period (Err breach) w h = refused_keeps Stops quiet (as_breach breach) (place_of period) r.word.name w h

clock_item_keeps : (at : Position) (r : Resolved) (period : CheckedTime) → Keeps Stops (clock_of at r period)
clock_item_keeps at r period w h =
    let t = time_of (known_here w) period in
    let here = r.word.position in
    let name = r.word.name in
    let w1 = after_room here name w in
    unless_keeps Stops quiet (clock_timed at r period t) (timed_keeps at r period t) (with_object here name w1)
    (object_keeps Stops quiet here name w1 (room_keeps Stops quiet here name w h))

main_item_keeps : (f : Filed) (x : CheckedMainItem) → Keeps Stops (main_item_of f x)
main_item_keeps f (main_item.Constant c) w h =
    fixed_keeps Stops kept (kind_written c.form.form) c.name.word (Some (evaluated (known_here w) c.value)) None w h
main_item_keeps f (main_item.Channel c) w h =
    word_keeps Stops kept c.channel (kind_written c.form.form) c.name.word
    (option_evaluated (known_here w) (value_among (args_given c.args))) None w h
main_item_keeps f (main_item.Clock at r text period) w h = clock_item_keeps at r period w h
main_item_keeps f (main_item.Instance m r args) w h =
    instance_keeps (inside_of (length f.plans) f) (inside_keeps (length f.plans) f) (view_at f m.denotes.number) m.denotes.number
    r.word (args_evaluated (known_here w) args) [] w h
main_item_keeps f (main_item.Bind b) w h =
    bind_keeps Stops quiet (slice_get w.here.members b.instance.denotes.number) b w h

walk_stops : (u : CheckedUnit) → Stops (walk_of u)
walk_stops u =
    let f = file_of u in
    let w0 = in_order item_of u.items at_first in
    let w1 = in_order (main_item_of f) u.main.items w0 in
    unless_keeps Stops quiet (start_of u.main.start) (start_form_keeps Stops quiet u.main.start) w1
    (in_order_keeps Stops quiet (main_item_of f) (main_item_keeps f) u.main.items w0
    (in_order_keeps Stops quiet item_of (item_keeps Stops kept) u.items at_first tt))

pub stops_in_time : StopsInTime
stops_in_time u b is = subst (λ (m : Bound). IfSome m.stop IsInTime) (passed u b is).is (walk_stops u)
