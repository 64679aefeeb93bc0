-- The walk over a whole text: the constants of the file, and then what `sc_main` declares.
use Rattle.std.specs.Prelude.{ℕ, ◌/◌, ◌%◌, ◌==◌, nat_lt, List, [], ◌∷◌, ◌++◌, length, codes, Bool, true, false, ◌||◌, Option, Some, None, Result, Ok, Err, if◌then◌else◌}
use Rattle.ooo_lexer.specs.declared.position.Position.{Position}
use Rattle.ooo_time.specs.declared.time.Time.{Time}
use Rattle.ooo_value.specs.declared.bound.ChannelKind.TheVariants as channel
use Rattle.ooo_value.specs.declared.kinds.Kind.TheVariants as kind
use Rattle.ooo_checked.specs.declared.denotation.Resolved.{Resolved}
use Rattle.ooo_checked.specs.declared.module.CheckedArg.{CheckedArg}
use Rattle.ooo_checked.specs.declared.module.CheckedConstant.{CheckedConstant}
use Rattle.ooo_checked.specs.declared.stat.CheckedTime.{CheckedTime}
use Rattle.ooo_checked.specs.declared.unit.CheckedMain.{CheckedMain}
use Rattle.ooo_checked.specs.declared.unit.CheckedMainItem.{CheckedMainItem}
use Rattle.ooo_checked.specs.declared.unit.CheckedMainItem.TheVariants as main_item
use Rattle.ooo_checked.specs.declared.unit.CheckedStartForm.{CheckedStartForm}
use Rattle.ooo_checked.specs.declared.unit.CheckedStartForm.TheVariants as start
use Rattle.ooo_checked.specs.declared.unit.CheckedUnit.{CheckedUnit}
use Rattle.ooo_checked.specs.declared.unit.CheckedUnitItem.{CheckedUnitItem}
use Rattle.ooo_checked.specs.declared.unit.CheckedUnitItem.TheVariants as item
use Rattle.ooo_checked.specs.Exprs.{kind_written}
use Rattle.ooo_constants.specs.declared.meaning.Meaning.TheVariants as meaning
use Rattle.ooo_constants.specs.declared.times.TimeBreach.{TimeBreach}
use Rattle.ooo_constants.specs.Times.{no_time, place_of, time_of}
use Rattle.ooo_walk.specs.declared.refusal.ElabBreach.TheVariants as what
use Rattle.ooo_walk.specs.declared.state.Evaluated.{Evaluated}
use Rattle.ooo_walk.specs.declared.state.ProcessForm.TheVariants.{Clock}
use Rattle.ooo_walk.specs.declared.state.Walk.{Walk}
use Rattle.ooo_walk.specs.Instances.{args_evaluated, entered, inside_of, instance_with}
use Rattle.ooo_walk.specs.Members.{args_given, channel_of, fixed_of, value_among}
use Rattle.ooo_walk.specs.Plans.{Filed, plans_from, view_at}
use Rattle.ooo_walk.specs.Setups.{bind_of}
use Rattle.ooo_walk.specs.States.{after_answer, as_breach, evaluated, in_kind, in_order, known_here, option_evaluated, refused, unless_refused, with_channel, with_object, with_process}

-- ---- the file

-- nothing has been walked
abbrev pub at_first : Walk
at_first = record {
  file = [];
  objects = 0;
  cells = 0;
  variables = [];
  channels = [];
  events = [];
  ports = [];
  instances = [];
  processes = [];
  bindings = [];
  stop = None;
  here = entered [] [];
  refusal = None;
}

-- a constant of the file
abbrev pub file_constant_with : Evaluated → CheckedConstant → Walk → Walk
file_constant_with e c w =
    let after = after_answer e.answer e.at c.name.word.name w in
    record after { file = after.file ++ meaning.Constant (in_kind (kind_written c.form.form) e.answer) ∷ [] }

abbrev pub file_constant_of : CheckedConstant → Walk → Walk
file_constant_of c w = file_constant_with (evaluated (known_here w) c.value) c w

-- a declaration of the file; a module means nothing by itself
abbrev pub item_of : CheckedUnitItem → Walk → Walk
item_of (item.Using library) w = w
item_of (item.Constant c) w = file_constant_of c w
item_of (item.Module m) w = record w { file = w.file ++ meaning.Nothing ∷ [] }

-- ---- sc_main

-- a clock of a period: a process that is half of it at each of its values (IEEE 1666-2011, 6.7). The period is a positive
-- even number of ticks
abbrev pub clock_with : Position → Resolved → Time → Walk → Walk
clock_with at r t w =
    if t.0 == 0 || t.0 % 2 == 1
    then refused what.OddClock r.word.position r.word.name w
    else with_channel (record { kind = channel.Signal; value = kind.Bool; size = 0 }) true r.word.position r.word.name
    (with_process (Clock (length w.channels) (record { 0 = t.0 / 2 }) at.line) r.word.position r.word.name w)

-- a clock whose period is right, or what is wrong with it
abbrev pub clock_timed : Position → Resolved → CheckedTime → Result Time TimeBreach → Walk → Walk
clock_timed at r period (Ok t) w = clock_with at r t w
clock_timed at r period (Err what) w = refused (as_breach what) (place_of period) r.word.name w

-- one process more would be too many
abbrev pub after_room : Position → (name : List ℕ) → Walk → Walk
after_room at name w = if nat_lt (length w.processes) 256 then w else refused what.TooManyProcesses at name w

-- a clock: it is a process and an object
abbrev pub clock_of : Position → Resolved → CheckedTime → Walk → Walk
clock_of at r period w =
    unless_refused (clock_timed at r period (time_of (known_here w) period))
    (with_object r.word.position r.word.name (after_room r.word.position r.word.name w))

-- a declaration or a binding of `sc_main`
abbrev pub main_item_of : Filed → CheckedMainItem → Walk → Walk
main_item_of f (main_item.Constant c) w =
    fixed_of (kind_written c.form.form) c.name.word (Some (evaluated (known_here w) c.value)) None w
main_item_of f (main_item.Channel c) w =
    channel_of c.channel (kind_written c.form.form) c.name.word
    (option_evaluated (known_here w) (value_among (args_given c.args))) None w
main_item_of f (main_item.Clock at r text period) w = clock_of at r period w
main_item_of f (main_item.Instance m r args) w =
    instance_with (inside_of (length f.plans) f) (view_at f m.denotes.number) m.denotes.number r.word
    (args_evaluated (known_here w) args) [] w
main_item_of f (main_item.Bind b) w = bind_of b w

-- ---- sc_start

-- the time up to which the simulation goes, which isn't zero (IEEE 1666-2011, 4.3.4.2)
abbrev pub stop_at : Position → Time → Walk → Walk
stop_at at t w = if t.0 == 0 then refused what.BadConstant at (codes "sc_start") w else record w { stop = Some t }

abbrev pub stop_timed : Position → Result Time TimeBreach → Walk → Walk
stop_timed at (Ok t) w = stop_at at t w
stop_timed at (Err what) w = refused (as_breach what) at (codes "sc_start") w

abbrev pub start_of : Option CheckedStartForm → Walk → Walk
start_of None w = w
start_of (Some (start.Open at)) w = w
start_of (Some (start.Limited at t)) w = stop_timed (place_of t) (time_of (known_here w) t) w

-- ---- texts

-- the declarations of the file, with the plans of its names
abbrev pub file_of : CheckedUnit → Filed
file_of u = record { items = u.items; plans = plans_from 0 u.items }

-- what is known of a text when all of it has been walked, or what was refused
abbrev pub walk_of : CheckedUnit → Walk
walk_of u =
    unless_refused (start_of u.main.start)
    (in_order (main_item_of (file_of u)) u.main.items (in_order item_of u.items at_first))
