-- In the walk over a text each binding leads on.
use Rattle.std.proofs.Common.{◌⊎◌, ℕ, zero, suc, ◌+◌, ◌/◌, ◌%◌, List, [], ◌∷◌, ◌++◌, length, true, false, Some, None}
use Rattle.std.specs.Prelude.{◌==◌, ◌||◌, nat_lt, if◌then◌else◌, slice_get, Result, Ok, Err}
use Rattle.ooo_time.specs.declared.time.Time.{Time}
use Rattle.ooo_lexer.specs.declared.position.Position.{Position}
use Rattle.ooo_value.specs.declared.bound.ChannelKind.TheVariants as channel
use Rattle.ooo_value.specs.declared.bound.ProcessKind.{ProcessKind}
use Rattle.ooo_value.specs.declared.bound.ProcessKind.TheVariants as process
use Rattle.ooo_value.specs.declared.kinds.Kind.TheVariants as kind
use Rattle.ooo_syntax.specs.declared.leaves.Word.{Word}
use Rattle.ooo_checked.specs.declared.denotation.Resolved.{Resolved}
use Rattle.ooo_checked.specs.declared.denotation.Thing.TheVariants as thing
use Rattle.ooo_checked.specs.declared.denotation.Direction.TheVariants as direction
use Rattle.ooo_checked.specs.declared.stat.CheckedTime.{CheckedTime}
use Rattle.ooo_checked.specs.declared.module.CheckedMember.{CheckedMember}
use Rattle.ooo_checked.specs.declared.module.CheckedMember.TheVariants as member
use Rattle.ooo_checked.specs.declared.module.CheckedPart.{CheckedPart}
use Rattle.ooo_checked.specs.declared.module.CheckedSetup.{CheckedSetup}
use Rattle.ooo_checked.specs.declared.module.CheckedSetup.TheVariants as setup
use Rattle.ooo_checked.specs.declared.unit.CheckedMainItem.{CheckedMainItem}
use Rattle.ooo_checked.specs.declared.unit.CheckedMainItem.TheVariants as main_item
use Rattle.ooo_checked.specs.Exprs.{kind_written}
use Rattle.ooo_constants.specs.declared.meaning.Meaning.TheVariants as meaning
use Rattle.ooo_constants.specs.declared.times.TimeBreach.{TimeBreach}
use Rattle.ooo_constants.specs.Times.{time_of}
use Rattle.ooo_walk.specs.declared.refusal.ElabBreach.TheVariants as what
use Rattle.ooo_walk.specs.declared.state.Evaluated.{Evaluated}
use Rattle.ooo_walk.specs.declared.state.ProcessForm.TheVariants.{Clock, Registered}
use Rattle.ooo_walk.specs.declared.state.Walk.{Walk}
use Rattle.ooo_walk.specs.States.{unless_refused, refused, after_answer, full_name, known_here, evaluated, option_evaluated, most_processes, with_object, with_process, with_channel, in_order}
use Rattle.ooo_walk.specs.Members.{statics_of, value_among, args_given}
use Rattle.ooo_walk.specs.Setups.{after_times, process_told, process_of, setup_of, setups_from}
use Rattle.ooo_walk.specs.Instances.{Inside, after_args, entered, instance_with, child_of, port_form, member_of, inside_of, args_evaluated, values_from, counting}
use Rattle.ooo_walk.specs.Plans.{Filed, Viewed, view_at, init_args}
use Rattle.ooo_walk.specs.Texts.{walk_of, at_first, item_of, clock_with, clock_timed, after_room, clock_of, main_item_of, start_of, file_of}
use Rattle.ooo_checked.specs.declared.unit.CheckedUnit.{CheckedUnit}
use Rattle.ooo_walk.specs.declared.state.ProcessForm.{ProcessForm}
use Rattle.ooo_sound_model.proofs.Kept.{Keeps, refused_keeps, unless_keeps, in_order_keeps, answer_keeps, object_keeps, set_keeps, bind_keeps, times_keep, args_keep, room_keeps, start_form_keeps, meant_keeps, fixed_keeps, field_keeps, statics_keep, constant_keeps, channel_keeps, word_keeps, part_keeps, port_keeps, event_keeps, item_keeps}
use Rattle.ooo_sound_model.proofs.Ordered.{Leads, Means, Ordered, begins, ends, name_more, ordered_kept, ordered_quiet}

-- ---- constructors

registered_keeps : (S : ℕ → Type 0) (form : ProcessForm) (at : Position) (name : List ℕ) → Keeps (Ordered S) (with_process form at name)
registered_keeps S form at name w h =
    elim (nat_lt (length w.processes) most_processes)
    as (λ t. Ordered S (if t
    then record w { processes = w.processes ++ record { form = form; name = name } ∷ [] }
    else refused what.TooManyProcesses at name w)) [
      | true ↦ h
      | false ↦ refused_keeps (Ordered S) (ordered_quiet S) what.TooManyProcesses at name w h
    ]

process_keeps : (S : ℕ → Type 0) (v : Viewed) (j : ProcessKind) (place : ℕ) (r : Resolved) → Keeps (Ordered S) (process_of v j place r)
process_keeps S v j place r w h =
    let told = process_told v (known_here w) r.denotes.number in
    let name = full_name w r.word.name in
    let form = Registered j (length w.instances) place r.denotes.number in
    let w1 = with_process form r.word.position name w in
    unless_keeps (Ordered S) (ordered_quiet S) (after_times told name) (times_keep (Ordered S) (ordered_quiet S) told name) w1
    (registered_keeps S form r.word.position name w h)

setup_keeps : (S : ℕ → Type 0) (v : Viewed) (place : ℕ) (x : CheckedSetup) → Keeps (Ordered S) (setup_of v place x)
setup_keeps S v place (setup.Thread at r) w h = process_keeps S v process.Thread place r w h
setup_keeps S v place (setup.Method at r) w h = process_keeps S v process.Method place r w h
setup_keeps S v place (setup.Sensitive at es) w h = h
setup_keeps S v place (setup.DontInitialize at) w h = h
setup_keeps S v place (setup.Bind b) w h = bind_keeps (Ordered S) (ordered_quiet S) (slice_get w.here.members b.instance.denotes.number) b w h
setup_keeps S v place (setup.Set r e) w h =
    let a = evaluated (known_here w) e in
    set_keeps (Ordered S) (ordered_quiet S) (slice_get w.here.members r.denotes.number) a.answer
    (after_answer a.answer a.at (full_name w r.word.name) w)
    (answer_keeps (Ordered S) (ordered_quiet S) a.answer a.at (full_name w r.word.name) w h)

setups_keep : (S : ℕ → Type 0) (v : Viewed) (place : ℕ) (xs : List CheckedSetup) → Keeps (Ordered S) (setups_from v place xs)
setups_keep S v place [] w h = h
setups_keep S v place (x ∷ xs) w h =
    setups_keep S v (place + 1) xs (unless_refused (setup_of v place x) w)
    (unless_keeps (Ordered S) (ordered_quiet S) (setup_of v place x) (setup_keeps S v place x) w h)

-- ---- instances

abbrev Each : Inside → Type 1
Each inside = (S : ℕ → Type 0) (n : ℕ) (w : Walk) → Ordered S w → Ordered S (inside n w)

instance_keeps : (S : ℕ → Type 0) (inside : Inside) → Each inside → (child : Viewed) (n : ℕ) (word : Word)
    (declared initial : List Evaluated) → Keeps (Ordered S) (instance_with inside child n word declared initial)
instance_keeps S inside each child n word declared initial w h =
    let name = full_name w word.name in
    let w0 = after_args name declared (with_object word.position name w) in
    let w1 = after_args name initial w0 in
    let known = entered name (values_from child.params 0 (counting declared initial)) in
    let inner = inside n (record w1 { here = known }) in
    let h1 : Ordered S w1 = args_keep (Ordered S) (ordered_quiet S) name initial w0
    (args_keep (Ordered S) (ordered_quiet S) name declared (with_object word.position name w)
    (object_keeps (Ordered S) (ordered_quiet S) word.position name w h)) in
    let ms = w1.here.members in
    let T : ℕ → Type 0 = λ q. S q ⊎ Means ms q in
    let begun : Ordered T (record w1 { here = known }) = begins S (length w1.ports) w1.instances w1.bindings ms h1 in
    let over = ends S (length inner.ports) 0 inner.instances inner.bindings ms inner.here.members n h1.away (each T n (record w1 { here = known }) begun) in
    name_more S (length inner.ports) (inner.instances ++ record { module_number = n; members = inner.here.members } ∷ []) inner.bindings ms over
    (meaning.Instance (length inner.instances)) tt

child_keeps : (S : ℕ → Type 0) (inside : Inside) → Each inside → (f : Filed) (v : Viewed) (n : ℕ) (p : CheckedPart) →
    Keeps (Ordered S) (child_of inside f v n p)
child_keeps S inside each f v n p w h =
    let c = known_here w in
    instance_keeps S inside each (view_at f n) n p.name.word (args_evaluated c (args_given p.args))
    (args_evaluated c (init_args v (length w.here.members))) w h

member_keeps : (S : ℕ → Type 0) (inside : Inside) → Each inside → (f : Filed) (v : Viewed) (m : CheckedMember) →
    Keeps (Ordered S) (member_of inside f v m)
member_keeps S inside each f v member.Public w h = h
member_keeps S inside each f v (member.Constant c) w h = constant_keeps (Ordered S) (ordered_kept S) v c w h
member_keeps S inside each f v (member.HasProcess name) w h = h
member_keeps S inside each f v (member.Fields x) w h =
    in_order_keeps (Ordered S) (ordered_quiet S) _ (field_keeps (Ordered S) (ordered_kept S) v x.is_const (kind_written x.form.form)) x.fields w h
member_keeps S inside each f v (member.Ports p) w h =
    in_order_keeps (Ordered S) (ordered_quiet S) _ (port_keeps (Ordered S) (ordered_kept S) (port_form p.port (kind_written p.form.form))) p.names w h
member_keeps S inside each f v (member.Clocks names) w h =
    in_order_keeps (Ordered S) (ordered_quiet S) _ (port_keeps (Ordered S) (ordered_kept S) (thing.SignalPort direction.In kind.Bool)) names w h
member_keeps S inside each f v (member.Channels c) w h =
    in_order_keeps (Ordered S) (ordered_quiet S) _ (part_keeps (Ordered S) (ordered_kept S) v c.channel (kind_written c.form.form)) c.parts w h
member_keeps S inside each f v (member.Events names) w h = in_order_keeps (Ordered S) (ordered_quiet S) _ (event_keeps (Ordered S) (ordered_kept S)) names w h
member_keeps S inside each f v (member.Children c) w h =
    in_order_keeps (Ordered S) (ordered_quiet S) _ (child_keeps S inside each f v c.module_name.denotes.number) c.parts w h
member_keeps S inside each f v (member.Function x) w h = meant_keeps (Ordered S) (ordered_kept S) meaning.Nothing tt w h
member_keeps S inside each f v (member.Constructor c) w h = h

inside_keeps : (levels : ℕ) (f : Filed) → Each (inside_of levels f)
inside_keeps zero f S n w h = h
inside_keeps (suc levels) f S n w h =
    let v = view_at f n in
    let w0 = statics_of v v.members w in
    let w1 = in_order (member_of (inside_of levels f) f v) v.members w0 in
    setups_keep S v 0 v.setups w1
    (in_order_keeps (Ordered S) (ordered_quiet S) (member_of (inside_of levels f) f v) (member_keeps S (inside_of levels f) (inside_keeps levels f) f v)
    v.members w0 (statics_keep (Ordered S) (ordered_kept S) v v.members w h))

-- ---- texts

clock_keeps : (S : ℕ → Type 0) (at : Position) (r : Resolved) (t : Time) → Keeps (Ordered S) (clock_with at r t)
clock_keeps S at r t w h =
    let form = Clock (length w.channels) (record { 0 = t.0 / 2 }) at.line in
    let w1 = with_process form r.word.position r.word.name w in
    elim (t.0 == 0 || t.0 % 2 == 1)
    as (λ b. Ordered S (if b then refused what.OddClock r.word.position r.word.name w
    else with_channel (record { kind = channel.Signal; value = kind.Bool; size = 0 }) true r.word.position r.word.name w1)) [
      | true ↦ refused_keeps (Ordered S) (ordered_quiet S) what.OddClock r.word.position r.word.name w h
      | false ↦ channel_keeps (Ordered S) (ordered_kept S) (record { kind = channel.Signal; value = kind.Bool; size = 0 }) true r.word.position r.word.name w1
          (registered_keeps S form r.word.position r.word.name w h)
    ]

timed_keeps : (S : ℕ → Type 0) (at : Position) (r : Resolved) (period : CheckedTime) (t : Result Time TimeBreach) → Keeps (Ordered S) (clock_timed at r period t)
timed_keeps S at r period (Ok t) w h = clock_keeps S at r t w h
timed_keeps S at r period (Err breach) w h = refused_keeps (Ordered S) (ordered_quiet S) _ _ _ w h

clock_item_keeps : (S : ℕ → Type 0) (at : Position) (r : Resolved) (period : CheckedTime) → Keeps (Ordered S) (clock_of at r period)
clock_item_keeps S at r period w h =
    let t = time_of (known_here w) period in
    let roomy = after_room r.word.position r.word.name w in
    let w1 = with_object r.word.position r.word.name roomy in
    unless_keeps (Ordered S) (ordered_quiet S) (clock_timed at r period t) (timed_keeps S at r period t) w1
    (object_keeps (Ordered S) (ordered_quiet S) r.word.position r.word.name roomy (room_keeps (Ordered S) (ordered_quiet S) r.word.position r.word.name w h))

main_item_keeps : (S : ℕ → Type 0) (f : Filed) (x : CheckedMainItem) → Keeps (Ordered S) (main_item_of f x)
main_item_keeps S f (main_item.Constant c) w h =
    fixed_keeps (Ordered S) (ordered_kept S) (kind_written c.form.form) c.name.word (Some (evaluated (known_here w) c.value)) None w h
main_item_keeps S f (main_item.Channel c) w h =
    word_keeps (Ordered S) (ordered_kept S) c.channel (kind_written c.form.form) c.name.word
    (option_evaluated (known_here w) (value_among (args_given c.args))) None w h
main_item_keeps S f (main_item.Clock at r text period) w h = clock_item_keeps S at r period w h
main_item_keeps S f (main_item.Instance m r args) w h =
    instance_keeps S (inside_of (length f.plans) f) (inside_keeps (length f.plans) f) (view_at f m.denotes.number) m.denotes.number
    r.word (args_evaluated (known_here w) args) [] w h
main_item_keeps S f (main_item.Bind b) w h = bind_keeps (Ordered S) (ordered_quiet S) _ b w h

nobody : ℕ → Type 0
nobody q = ⊥

at_first_ordered : Ordered nobody at_first
unfolding nobody
at_first_ordered = record {
  apart = λ q s i. s;
  away = λ q s at. s;
  fresh = λ q at i. absurd (let e = at.1 in cc);
  low_others = λ q s. absurd s;
  low_over = λ q i. absurd (let e = i.there in cc);
  low_here = λ q at. absurd (let e = at.1 in cc);
  leads = λ k b at q to. absurd cc;
}

pub walk_leads : (u : CheckedUnit) → Leads (walk_of u).instances (walk_of u).bindings
walk_leads u =
    let f = file_of u in
    let w0 = in_order item_of u.items at_first in
    let w1 = in_order (main_item_of f) u.main.items w0 in
    let all : Ordered nobody (walk_of u) =
    unless_keeps (Ordered nobody) (ordered_quiet nobody) (start_of u.main.start) (start_form_keeps (Ordered nobody) (ordered_quiet nobody) u.main.start) w1
    (in_order_keeps (Ordered nobody) (ordered_quiet nobody) (main_item_of f) (main_item_keeps nobody f) u.main.items w0
    (in_order_keeps (Ordered nobody) (ordered_quiet nobody) item_of (item_keeps (Ordered nobody) (ordered_kept nobody)) u.items at_first at_first_ordered)) in
    all.leads
