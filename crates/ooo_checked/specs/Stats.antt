-- What the names of statements denote, and what is wrong with them.
use Rattle.std.specs.Prelude.{ℕ, ◌-◌, List, [], ◌∷◌, ◌++◌, length, map, Bool, true, false, not, ◌||◌, Option, Some, None, is_some, if◌then◌else◌}
use Rattle.ooo_lexer.specs.declared.position.Position.{Position}
use Rattle.ooo_value.specs.declared.kinds.Kind.{Kind}
use Rattle.ooo_syntax.specs.declared.leaves.Word.{Word}
use Rattle.ooo_syntax.specs.declared.leaves.TypeName.{TypeName}
use Rattle.ooo_syntax.specs.declared.expr.Expr.{Expr}
use Rattle.ooo_syntax.specs.declared.stat.TimeForm.{TimeForm}
use Rattle.ooo_syntax.specs.declared.stat.TimeForm.TheVariants as time
use Rattle.ooo_syntax.specs.declared.stat.Event.{Event}
use Rattle.ooo_syntax.specs.declared.stat.Awaited.{Awaited}
use Rattle.ooo_syntax.specs.declared.stat.Awaited.TheVariants as awaited
use Rattle.ooo_syntax.specs.declared.stat.AssignOp.{AssignOp}
use Rattle.ooo_syntax.specs.declared.stat.AssignOp.TheVariants as assign
use Rattle.ooo_syntax.specs.declared.stat.Target.{Target}
use Rattle.ooo_syntax.specs.declared.stat.Declarator.{Declarator}
use Rattle.ooo_syntax.specs.declared.stat.Local.{Local}
use Rattle.ooo_syntax.specs.declared.stat.PrintItem.{PrintItem}
use Rattle.ooo_syntax.specs.declared.stat.PrintItem.TheVariants as item
use Rattle.ooo_syntax.specs.declared.stat.Simple.{Simple}
use Rattle.ooo_syntax.specs.declared.stat.Simple.TheVariants as simple
use Rattle.ooo_syntax.specs.declared.stat.ForStart.{ForStart}
use Rattle.ooo_syntax.specs.declared.stat.ForStart.TheVariants as start
use Rattle.ooo_syntax.specs.declared.stat.Stat.{Stat, Stat-F, fold-Stat}
use Rattle.ooo_syntax.specs.declared.stat.Stat.TheOpen as layer
use Rattle.ooo_checked.specs.declared.breach.TypeBreach.TheVariants as what
use Rattle.ooo_checked.specs.declared.context.Context.{Context}
use Rattle.ooo_checked.specs.declared.denotation.Thing.{Thing}
use Rattle.ooo_checked.specs.declared.denotation.Thing.TheVariants as thing
use Rattle.ooo_checked.specs.declared.denotation.EventForm.{EventForm}
use Rattle.ooo_checked.specs.declared.denotation.Denotation.{Denotation}
use Rattle.ooo_checked.specs.declared.denotation.Resolved.{Resolved}
use Rattle.ooo_checked.specs.declared.place.CallPlace.TheVariants.{Statement}
use Rattle.ooo_checked.specs.declared.expr.CheckedExpr.{CheckedExpr}
use Rattle.ooo_checked.specs.declared.stat.CheckedTime.{CheckedTime}
use Rattle.ooo_checked.specs.declared.stat.CheckedTime.TheVariants as checked_time
use Rattle.ooo_checked.specs.declared.stat.CheckedEvent.{CheckedEvent}
use Rattle.ooo_checked.specs.declared.stat.CheckedAwaited.{CheckedAwaited}
use Rattle.ooo_checked.specs.declared.stat.CheckedAwaited.TheVariants as checked_awaited
use Rattle.ooo_checked.specs.declared.stat.CheckedTarget.{CheckedTarget}
use Rattle.ooo_checked.specs.declared.stat.CheckedDeclarator.{CheckedDeclarator}
use Rattle.ooo_checked.specs.declared.stat.CheckedLocal.{CheckedLocal}
use Rattle.ooo_checked.specs.declared.stat.CheckedItem.{CheckedItem}
use Rattle.ooo_checked.specs.declared.stat.CheckedItem.TheVariants as checked_item
use Rattle.ooo_checked.specs.declared.stat.CheckedSimple.{CheckedSimple}
use Rattle.ooo_checked.specs.declared.stat.CheckedSimple.TheVariants as checked_simple
use Rattle.ooo_checked.specs.declared.stat.CheckedStart.{CheckedStart}
use Rattle.ooo_checked.specs.declared.stat.CheckedStart.TheVariants as checked_start
use Rattle.ooo_checked.specs.declared.stat.CheckedStat.{CheckedStat}
use Rattle.ooo_checked.specs.declared.stat.CheckedStat.TheVariants as stat
use Rattle.ooo_checked.specs.Exprs.{kind_written, resolved, name_notes, call_notes, member_notes, argument_notes, count_of, tree_of, expr_of, exprs_of, option_of, right_of}
use Rattle.ooo_checked.specs.Notes.{Note, Breaks, Waits, Triggers, Checked, breach_when, trees, all_notes}
use Rattle.ooo_checked.specs.Scopes.{Scope, declared, entered, left, is_declared_here, size_of}
use Rattle.ooo_checked.specs.Things.{is_assignable, method_of, method_named, event_named, event_by, called_event, named_event, is_event, has_method_named, is_known}

-- ---- times and events

-- a time, whose amount is an expression
abbrev pub time_of : TimeForm → Scope → Checked CheckedTime
time_of (time.Zero at) s = record { tree = checked_time.Zero at; notes = [] }
time_of (time.Made at e scale) s =
    record { tree = checked_time.Made at (expr_of e s).tree scale; notes = (expr_of e s).notes }
time_of (time.Amount e scale) s =
    record { tree = checked_time.Amount (expr_of e s).tree scale; notes = (expr_of e s).notes }

-- the word is some call of the thing, though it may not stand where an event does
abbrev pub is_call_of : Thing → List ℕ → Bool
is_call_of t name = has_method_named t (method_named name) || is_event (event_by t (event_named name))

-- the event that is meant where an event stands: by its name alone, or by a call
abbrev pub event_meant : (in_sensitive : Bool) → Thing → Option Word → EventForm
event_meant in_sensitive t None = named_event in_sensitive t
event_meant in_sensitive t (Some w) = called_event in_sensitive t (event_named w.name)

-- a call where an event stands and none is meant: of the wrong kind where the thing has it, else unknown
abbrev pub event_call_notes : (is_meant is_call : Bool) → Position → List Note
event_call_notes true is_call at = []
event_call_notes false true at = Breaks what.WrongKind at ∷ []
event_call_notes false false at = Breaks what.UnknownName at ∷ []

-- a name alone, or a call, where an event stands
abbrev pub event_notes : (in_sensitive : Bool) → Resolved → Option Word → List Note
event_notes in_sensitive r None =
    name_notes r.denotes.thing (is_event (event_meant in_sensitive r.denotes.thing None)) r.word.position
event_notes in_sensitive r (Some w) =
    if is_known r.denotes.thing
    then event_call_notes (is_event (event_meant in_sensitive r.denotes.thing (Some w))) (is_call_of r.denotes.thing w.name) w.position
    else Breaks what.UnknownName r.word.position ∷ []

-- an event in `sensitive`, or in a wait
abbrev pub event_of : (in_sensitive : Bool) → Event → Scope → Checked CheckedEvent
event_of in_sensitive e s =
    let r = resolved s e.name in record {
      tree = record { name = r; call = e.call; form = event_meant in_sensitive r.denotes.thing e.call };
      notes = event_notes in_sensitive r e.call;
    }

-- the events one after the other
abbrev pub events_of : (in_sensitive : Bool) → List Event → Scope → List (Checked CheckedEvent)
events_of in_sensitive es s = map (λ e. event_of in_sensitive e s) es

-- what a wait or a `next_trigger` waits for
abbrev pub awaited_of : Awaited → Scope → Checked CheckedAwaited
awaited_of awaited.Sensitive s = record { tree = checked_awaited.Sensitive; notes = [] }
awaited_of (awaited.Delay t) s =
    record { tree = checked_awaited.Delay (time_of t s).tree; notes = (time_of t s).notes }
awaited_of (awaited.Until t es) s = record {
  tree = checked_awaited.Until (time_of t s).tree (trees (events_of false es s));
  notes = (time_of t s).notes ++ all_notes (events_of false es s);
}
awaited_of (awaited.Events es) s =
    record { tree = checked_awaited.Events (trees (events_of false es s)); notes = all_notes (events_of false es s) }

-- ---- simple statements

-- another sign than `=`
abbrev pub is_compound : AssignOp → Bool
is_compound assign.Set = false
is_compound _ = true

-- the notes of an expression, if there is one
abbrev pub option_notes : Option (Checked CheckedExpr) → List Note
option_notes None = []
option_notes (Some c) = c.notes

-- what is assigned to, by `=` or by another sign
abbrev pub target_of : (is_compound : Bool) → Target → Scope → Checked CheckedTarget
target_of is_compound t s =
    let r = resolved s t.name in record {
      tree = record { name = r; index = tree_of (option_of t.index s) };
      notes = name_notes r.denotes.thing (is_assignable r.denotes.thing (is_some t.index) is_compound) t.name.position
          ++ option_notes (option_of t.index s);
    }

-- the right side of an assignment: of `=` it may be a call of any sort
abbrev pub value_of : (is_compound : Bool) → Expr → Scope → Checked CheckedExpr
value_of true e s = expr_of e s
value_of false e s = right_of e s

-- what a print writes
abbrev pub item_of : PrintItem → Scope → Checked CheckedItem
item_of (item.Value e) s = record { tree = checked_item.Value (expr_of e s).tree; notes = (expr_of e s).notes }
item_of (item.Text t) s = record { tree = checked_item.Text t; notes = [] }
item_of (item.Line at) s = record { tree = checked_item.Line at; notes = [] }
item_of (item.TimeStamp at) s = record { tree = checked_item.TimeStamp at; notes = [] }

-- the items one after the other
abbrev pub items_of : List PrintItem → Scope → List (Checked CheckedItem)
items_of is s = map (λ i. item_of i s) is

-- the thing is an `sc_event`
abbrev pub is_own_event : Thing → Bool
is_own_event thing.Event = true
is_own_event _ = false

-- a notification or its cancelling, whose word stands at the second place: only an `sc_event` has them
abbrev pub notify_notes : Thing → (at dot : Position) → List Note
notify_notes t at dot =
    if is_known t then breach_when (not (is_own_event t)) what.UnknownName dot else Breaks what.UnknownName at ∷ []

-- an assignment
abbrev pub assign_of : Target → AssignOp → Expr → Scope → Checked CheckedSimple
assign_of t op e s =
    let target = target_of (is_compound op) t s in
    let value = value_of (is_compound op) e s in
    record { tree = checked_simple.Assign target.tree op value.tree; notes = target.notes ++ value.notes }

-- a call of a function as a statement
abbrev pub call_stat_of : Word → List Expr → Scope → Checked CheckedSimple
call_stat_of w es s =
    let r = resolved s w in record {
      tree = checked_simple.Call r (trees (exprs_of es s));
      notes = call_notes Statement r.denotes (length es) w.position ++ all_notes (exprs_of es s);
    }

-- a call of a channel or a port as a statement
abbrev pub member_stat_of : Word → Word → Option Expr → Scope → Checked CheckedSimple
member_stat_of w after arg s =
    let r = resolved s w in
    let m = method_of r.denotes.thing after.name in record {
      tree = checked_simple.Member r after m (tree_of (option_of arg s));
      notes = member_notes Statement r.denotes.thing m (count_of arg) w.position after.position
          ++ argument_notes m (option_of arg s);
    }

-- a notification
abbrev pub notify_of : Word → Position → TimeForm → Scope → Checked CheckedSimple
notify_of w dot t s =
    let r = resolved s w in record {
      tree = checked_simple.Notify r dot (time_of t s).tree;
      notes = notify_notes r.denotes.thing w.position dot ++ (time_of t s).notes;
    }

-- a simple statement
abbrev pub simple_of : Simple → Scope → Checked CheckedSimple
simple_of (simple.Assign t op e) s = assign_of t op e s
simple_of (simple.StepAfter t op) s =
    record { tree = checked_simple.StepAfter (target_of true t s).tree op; notes = (target_of true t s).notes }
simple_of (simple.StepBefore at op t) s =
    record { tree = checked_simple.StepBefore at op (target_of true t s).tree; notes = (target_of true t s).notes }
simple_of (simple.Call w es) s = call_stat_of w es s
simple_of (simple.Member w after arg) s = member_stat_of w after arg s
simple_of (simple.Notify w dot t) s = notify_of w dot t s
simple_of (simple.Cancel w dot) s =
    let r = resolved s w in
    record { tree = checked_simple.Cancel r dot; notes = notify_notes r.denotes.thing w.position dot }
simple_of (simple.Wait at w) s =
    record { tree = checked_simple.Wait at (awaited_of w s).tree; notes = Waits at ∷ (awaited_of w s).notes }
simple_of (simple.NextTrigger at w) s =
    record { tree = checked_simple.NextTrigger at (awaited_of w s).tree; notes = Triggers at ∷ (awaited_of w s).notes }
simple_of (simple.Stop at) s = record { tree = checked_simple.Stop at; notes = [] }
simple_of (simple.Print at is) s =
    record { tree = checked_simple.Print at (trees (items_of is s)); notes = all_notes (items_of is s) }

-- ---- statements

-- a part of a body with what its names denote, what is noted of it, and the scope behind it
pub record Stepped (T : Type 0) : Type 0 where
  pub tree : T
  pub scope : Scope
  pub notes : List Note

-- what declares no name
abbrev pub stays : {T : Type 0} → Checked T → Scope → Stepped T
stays c s = record { tree = c.tree; scope = s; notes = c.notes }

-- a local as it is declared: its slot is the number of the parameters and locals that are known there
abbrev pub local_denotation : Kind → Context → Scope → Denotation
local_denotation k cx s = record { thing = thing.Local k; number = size_of s - cx.outside }

-- the initial value of a local, if it has one
abbrev pub initial_of : Option Expr → Scope → Option (Checked CheckedExpr)
initial_of None s = None
initial_of (Some e) s = Some (right_of e s)

-- a declarator: the name is known behind its initial value, and has to be the first of its name in its block
abbrev pub declarator_of : Kind → Context → Declarator → Scope → Stepped CheckedDeclarator
declarator_of k cx d s =
    let denotes = local_denotation k cx s in record {
      tree = record { name = record { word = d.name; denotes = denotes }; value = tree_of (initial_of d.value s) };
      scope = declared s d.name.name denotes;
      notes = breach_when (is_declared_here s d.name.name) what.DeclaredTwice d.name.position
          ++ option_notes (initial_of d.value s);
    }

-- parts one after the other, each in the scope behind the one before it
abbrev pub in_order : {A T : Type 0} → (A → Scope → Stepped T) → List A → Scope → Stepped (List T)
in_order f [] s = record { tree = []; scope = s; notes = [] }
in_order f (x ∷ xs) s =
    let first = f x s in
    let others = in_order f xs first.scope in
    record { tree = first.tree ∷ others.tree; scope = others.scope; notes = first.notes ++ others.notes }

-- declarators one after the other
abbrev pub declarators_of : Kind → Context → List Declarator → Scope → Stepped (List CheckedDeclarator)
declarators_of k cx ds s = in_order (λ d s. declarator_of k cx d s) ds s

-- a declaration of locals
abbrev pub local_of : Context → Local → Scope → Stepped CheckedLocal
local_of cx l s =
    let names = declarators_of (kind_written l.form.form) cx l.names s in
    record { tree = record { form = l.form; names = names.tree }; scope = names.scope; notes = names.notes }

-- how a `for` begins
abbrev pub start_of : Context → ForStart → Scope → Stepped CheckedStart
start_of cx (start.Local l) s =
    let r = local_of cx l s in record { tree = checked_start.Local r.tree; scope = r.scope; notes = r.notes }
start_of cx (start.Simple x) s =
    stays (record { tree = checked_start.Simple (simple_of x s).tree; notes = (simple_of x s).notes }) s

-- how a `for` begins, if it says so
abbrev pub option_start_of : Context → Option ForStart → Scope → Stepped (Option CheckedStart)
option_start_of cx None s = record { tree = None; scope = s; notes = [] }
option_start_of cx (Some x) s =
    let r = start_of cx x s in record { tree = Some r.tree; scope = r.scope; notes = r.notes }

-- what a `for` does after each turn, if it says so
abbrev pub step_of : Option Simple → Scope → Checked (Option CheckedSimple)
step_of None s = record { tree = None; notes = [] }
step_of (Some x) s = record { tree = Some (simple_of x s).tree; notes = (simple_of x s).notes }

-- what a statement is in a context and a scope
abbrev pub Reading : Type 0
Reading = Context → Scope → Stepped CheckedStat

-- statements one after the other
abbrev pub readings_of : List Reading → Context → Scope → Stepped (List CheckedStat)
readings_of fs cx s = in_order (λ (f : Reading) s. f cx s) fs s

-- a statement inside another, whose names are known in it alone (ISO C++ [stmt.select], [stmt.iter])
abbrev pub inner : Reading → Context → Scope → Stepped CheckedStat
inner f cx s = let r = f cx (entered s) in record { tree = r.tree; scope = left r.scope; notes = r.notes }

-- the body of a loop
abbrev pub looped : Context → Context
looped cx = record cx { in_loop = true }

-- the statement after `else`, if there is one
abbrev pub else_of : Option Reading → Context → Scope → Stepped (Option CheckedStat)
else_of None cx s = record { tree = None; scope = s; notes = [] }
else_of (Some f) cx s =
    let r = inner f cx s in record { tree = Some r.tree; scope = r.scope; notes = r.notes }

-- `break` and `continue` stand in a loop
abbrev pub loop_notes : Context → Position → List Note
loop_notes cx at = breach_when (not cx.in_loop) what.WrongKind at

-- `return` has a value just where its function gives one
abbrev pub return_notes : Option Kind → Option Expr → Position → List Note
return_notes None None at = []
return_notes (Some k) (Some e) at = []
return_notes gives value at = Breaks what.WrongKind at ∷ []

-- a block, whose names are known in it alone
abbrev pub block_of : Position → List Reading → Reading
block_of at fs cx s =
    let r = readings_of fs cx (entered s) in record { tree = stat.Block at r.tree; scope = left r.scope; notes = r.notes }

-- `if`
abbrev pub if_of : Position → Expr → Reading → Option Reading → Reading
if_of at e f g cx s =
    let test = expr_of e s in
    let yes = inner f cx s in
    let no = else_of g cx yes.scope in record {
      tree = stat.If at test.tree yes.tree no.tree;
      scope = no.scope;
      notes = test.notes ++ yes.notes ++ no.notes;
    }

-- `while`
abbrev pub while_of : Position → Expr → Reading → Reading
while_of at e f cx s =
    let test = expr_of e s in
    let body = inner f (looped cx) s in
    record { tree = stat.While at test.tree body.tree; scope = body.scope; notes = test.notes ++ body.notes }

-- `do`
abbrev pub do_of : Position → Reading → Expr → Reading
do_of at f e cx s =
    let body = inner f (looped cx) s in
    let test = expr_of e body.scope in
    record { tree = stat.Do at body.tree test.tree; scope = body.scope; notes = body.notes ++ test.notes }

-- what is noted of what stands in the parentheses of a `for`
abbrev pub head_notes : Context → Option ForStart → Option Expr → Option Simple → Scope → List Note
head_notes cx begin e after s =
    let first = option_start_of cx begin s in
    first.notes ++ option_notes (option_of e first.scope) ++ (step_of after first.scope).notes

-- `for`, whose names are known in it alone
abbrev pub for_of : Position → Option ForStart → Option Expr → Option Simple → Reading → Reading
for_of at begin e after f cx s =
    let first = option_start_of cx begin (entered s) in
    let test = option_of e first.scope in
    let step = step_of after first.scope in
    let body = inner f (looped cx) first.scope in record {
      tree = stat.For at first.tree (tree_of test) step.tree body.tree;
      scope = left body.scope;
      notes = head_notes cx begin e after (entered s) ++ body.notes;
    }

-- `return`
abbrev pub return_of : Position → Option Expr → Reading
return_of at e cx s = record {
  tree = stat.Return at (tree_of (option_of e s));
  scope = s;
  notes = return_notes cx.result e at ++ option_notes (option_of e s);
}

-- what is noted of each form of statement
abbrev pub stat_step : Stat-F Reading → Reading
stat_step (layer.Block at fs) cx s = block_of at fs cx s
stat_step (layer.Empty at) cx s = record { tree = stat.Empty at; scope = s; notes = [] }
stat_step (layer.Local l) cx s =
    let r = local_of cx l s in record { tree = stat.Local r.tree; scope = r.scope; notes = r.notes }
stat_step (layer.Simple x) cx s =
    record { tree = stat.Simple (simple_of x s).tree; scope = s; notes = (simple_of x s).notes }
stat_step (layer.If at e f g) cx s = if_of at e f g cx s
stat_step (layer.While at e f) cx s = while_of at e f cx s
stat_step (layer.Do at f e) cx s = do_of at f e cx s
stat_step (layer.For at begin e after f) cx s = for_of at begin e after f cx s
stat_step (layer.Break at) cx s = record { tree = stat.Break at; scope = s; notes = loop_notes cx at }
stat_step (layer.Continue at) cx s = record { tree = stat.Continue at; scope = s; notes = loop_notes cx at }
stat_step (layer.Return at e) cx s = return_of at e cx s

-- a statement
unfoldable pub stat_of : Stat → Reading
stat_of = fold-Stat Reading stat_step

-- the statements of a body one after the other
abbrev pub stats_of : List Stat → Context → Scope → Stepped (List CheckedStat)
stats_of xs cx s = in_order (λ x s. stat_of x cx s) xs s

-- how the statement after `else` is read, if there is one
abbrev pub option_reading : Option Stat → Option Reading
option_reading None = None
option_reading (Some x) = Some (stat_of x)
