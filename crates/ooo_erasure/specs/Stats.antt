-- A checked statement without its additions, and a time, an event and what else a statement has.
use Rattle.std.specs.Prelude.{map, option_map}
use Rattle.ooo_syntax.specs.declared.stat.TimeForm.{TimeForm}
use Rattle.ooo_syntax.specs.declared.stat.TimeForm.TheVariants as time
use Rattle.ooo_syntax.specs.declared.stat.Event.{Event}
use Rattle.ooo_syntax.specs.declared.stat.Awaited.{Awaited}
use Rattle.ooo_syntax.specs.declared.stat.Awaited.TheVariants as awaited
use Rattle.ooo_syntax.specs.declared.stat.Target.{Target}
use Rattle.ooo_syntax.specs.declared.stat.Declarator.{Declarator}
use Rattle.ooo_syntax.specs.declared.stat.Local.{Local}
use Rattle.ooo_syntax.specs.declared.stat.PrintItem.{PrintItem}
use Rattle.ooo_syntax.specs.declared.stat.PrintItem.TheVariants as item
use Rattle.ooo_syntax.specs.declared.stat.Simple.{Simple}
use Rattle.ooo_syntax.specs.declared.stat.Simple.TheVariants as simple
use Rattle.ooo_syntax.specs.declared.stat.ForStart.{ForStart}
use Rattle.ooo_syntax.specs.declared.stat.ForStart.TheVariants as start
use Rattle.ooo_syntax.specs.declared.stat.Stat.{Stat}
use Rattle.ooo_syntax.specs.declared.stat.Stat.TheVariants as stat
use Rattle.ooo_checked.specs.declared.stat.CheckedTime.{CheckedTime}
use Rattle.ooo_checked.specs.declared.stat.CheckedTime.TheVariants as checked_time
use Rattle.ooo_checked.specs.declared.stat.CheckedEvent.{CheckedEvent}
use Rattle.ooo_checked.specs.declared.stat.CheckedAwaited.{CheckedAwaited}
use Rattle.ooo_checked.specs.declared.stat.CheckedAwaited.TheVariants as checked_awaited
use Rattle.ooo_checked.specs.declared.stat.CheckedTarget.{CheckedTarget}
use Rattle.ooo_checked.specs.declared.stat.CheckedDeclarator.{CheckedDeclarator}
use Rattle.ooo_checked.specs.declared.stat.CheckedLocal.{CheckedLocal}
use Rattle.ooo_checked.specs.declared.stat.CheckedItem.{CheckedItem}
use Rattle.ooo_checked.specs.declared.stat.CheckedItem.TheVariants as checked_item
use Rattle.ooo_checked.specs.declared.stat.CheckedSimple.{CheckedSimple}
use Rattle.ooo_checked.specs.declared.stat.CheckedSimple.TheVariants as checked_simple
use Rattle.ooo_checked.specs.declared.stat.CheckedStart.{CheckedStart}
use Rattle.ooo_checked.specs.declared.stat.CheckedStart.TheVariants as checked_start
use Rattle.ooo_checked.specs.declared.stat.CheckedStat.{CheckedStat, CheckedStat-F, fold-CheckedStat}
use Rattle.ooo_checked.specs.declared.stat.CheckedStat.TheOpen as layer
use Rattle.ooo_erasure.specs.Exprs.{erased_expr}

-- ---- times and events

-- a time
abbrev pub erased_time : CheckedTime → TimeForm
erased_time (checked_time.Zero at) = time.Zero at
erased_time (checked_time.Made at e scale) = time.Made at (erased_expr e) scale
erased_time (checked_time.Amount e scale) = time.Amount (erased_expr e) scale

-- a name or a call, without the event that is meant
abbrev pub erased_event : CheckedEvent → Event
erased_event e = record { name = e.name.word; call = e.call }

-- what a wait or a `next_trigger` waits for
abbrev pub erased_awaited : CheckedAwaited → Awaited
erased_awaited checked_awaited.Sensitive = awaited.Sensitive
erased_awaited (checked_awaited.Delay t) = awaited.Delay (erased_time t)
erased_awaited (checked_awaited.Until t es) = awaited.Until (erased_time t) (map erased_event es)
erased_awaited (checked_awaited.Events es) = awaited.Events (map erased_event es)

-- ---- simple statements

-- what is assigned to
abbrev pub erased_target : CheckedTarget → Target
erased_target t = record { name = t.name.word; index = option_map erased_expr t.index }

-- what a print writes
abbrev pub erased_item : CheckedItem → PrintItem
erased_item (checked_item.Value e) = item.Value (erased_expr e)
erased_item (checked_item.Text t) = item.Text t
erased_item (checked_item.Line at) = item.Line at
erased_item (checked_item.TimeStamp at) = item.TimeStamp at

-- a simple statement, without the call that is meant
abbrev pub erased_simple : CheckedSimple → Simple
erased_simple (checked_simple.Assign t op e) = simple.Assign (erased_target t) op (erased_expr e)
erased_simple (checked_simple.StepAfter t op) = simple.StepAfter (erased_target t) op
erased_simple (checked_simple.StepBefore at op t) = simple.StepBefore at op (erased_target t)
erased_simple (checked_simple.Call r args) = simple.Call r.word (map erased_expr args)
erased_simple (checked_simple.Member r after m arg) = simple.Member r.word after (option_map erased_expr arg)
erased_simple (checked_simple.Notify r dot t) = simple.Notify r.word dot (erased_time t)
erased_simple (checked_simple.Cancel r dot) = simple.Cancel r.word dot
erased_simple (checked_simple.Wait at w) = simple.Wait at (erased_awaited w)
erased_simple (checked_simple.NextTrigger at w) = simple.NextTrigger at (erased_awaited w)
erased_simple (checked_simple.Stop at) = simple.Stop at
erased_simple (checked_simple.Print at is) = simple.Print at (map erased_item is)

-- ---- statements

-- a local's name, and its initial value
abbrev pub erased_declarator : CheckedDeclarator → Declarator
erased_declarator d = record { name = d.name.word; value = option_map erased_expr d.value }

-- a declaration of locals
abbrev pub erased_local : CheckedLocal → Local
erased_local l = record { form = l.form; names = map erased_declarator l.names }

-- how a `for` begins
abbrev pub erased_start : CheckedStart → ForStart
erased_start (checked_start.Local l) = start.Local (erased_local l)
erased_start (checked_start.Simple x) = start.Simple (erased_simple x)

-- each form of statement, whose parts are without their additions
abbrev pub erased_stat_step : CheckedStat-F Stat → Stat
erased_stat_step (layer.Block at xs) = stat.Block at xs
erased_stat_step (layer.Empty at) = stat.Empty at
erased_stat_step (layer.Local l) = stat.Local (erased_local l)
erased_stat_step (layer.Simple x) = stat.Simple (erased_simple x)
erased_stat_step (layer.If at e x y) = stat.If at (erased_expr e) x y
erased_stat_step (layer.While at e x) = stat.While at (erased_expr e) x
erased_stat_step (layer.Do at x e) = stat.Do at x (erased_expr e)
erased_stat_step (layer.For at begin e after x) =
    stat.For at (option_map erased_start begin) (option_map erased_expr e) (option_map erased_simple after) x
erased_stat_step (layer.Break at) = stat.Break at
erased_stat_step (layer.Continue at) = stat.Continue at
erased_stat_step (layer.Return at e) = stat.Return at (option_map erased_expr e)

-- a statement
unfoldable pub erased_stat : CheckedStat → Stat
erased_stat = fold-CheckedStat Stat erased_stat_step
