-- A checked text without its additions.
use Rattle.std.specs.Prelude.{map, Option, option_map}
use Rattle.ooo_syntax.specs.declared.leaves.Word.{Word}
use Rattle.ooo_syntax.specs.declared.unit.UnitItem.{UnitItem}
use Rattle.ooo_syntax.specs.declared.unit.UnitItem.TheVariants as item
use Rattle.ooo_syntax.specs.declared.unit.MainChannel.{MainChannel}
use Rattle.ooo_syntax.specs.declared.unit.MainItem.{MainItem}
use Rattle.ooo_syntax.specs.declared.unit.MainItem.TheVariants as main
use Rattle.ooo_syntax.specs.declared.unit.MainValues.{MainValues}
use Rattle.ooo_syntax.specs.declared.unit.MainValues.TheVariants as values
use Rattle.ooo_syntax.specs.declared.unit.StartForm.{StartForm}
use Rattle.ooo_syntax.specs.declared.unit.StartForm.TheVariants as start
use Rattle.ooo_syntax.specs.declared.unit.Main.{Main}
use Rattle.ooo_syntax.specs.declared.unit.Unit.{Unit as Text}
use Rattle.ooo_checked.specs.declared.denotation.Resolved.{Resolved}
use Rattle.ooo_checked.specs.declared.unit.CheckedUnitItem.{CheckedUnitItem}
use Rattle.ooo_checked.specs.declared.unit.CheckedUnitItem.TheVariants as checked_item
use Rattle.ooo_checked.specs.declared.unit.CheckedMainChannel.{CheckedMainChannel}
use Rattle.ooo_checked.specs.declared.unit.CheckedMainItem.{CheckedMainItem}
use Rattle.ooo_checked.specs.declared.unit.CheckedMainItem.TheVariants as checked_main
use Rattle.ooo_checked.specs.declared.unit.CheckedMainValues.{CheckedMainValues}
use Rattle.ooo_checked.specs.declared.unit.CheckedMainValues.TheVariants as checked_values
use Rattle.ooo_checked.specs.declared.unit.CheckedStartForm.{CheckedStartForm}
use Rattle.ooo_checked.specs.declared.unit.CheckedStartForm.TheVariants as checked_start
use Rattle.ooo_checked.specs.declared.unit.CheckedMain.{CheckedMain}
use Rattle.ooo_checked.specs.declared.unit.CheckedUnit.{CheckedUnit}
use Rattle.ooo_erasure.specs.Stats.{erased_time}
use Rattle.ooo_erasure.specs.Modules.{erased_arg, erased_binding, erased_constant, erased_module}

-- a declaration of a file
abbrev pub erased_unit_item : CheckedUnitItem → UnitItem
erased_unit_item (checked_item.Using library) = item.Using library
erased_unit_item (checked_item.Constant c) = item.Constant (erased_constant c)
erased_unit_item (checked_item.Module m) = item.Module (erased_module m)

-- a channel of `sc_main`
abbrev pub erased_main_channel : CheckedMainChannel → MainChannel
erased_main_channel c = record {
  channel = c.channel;
  form = c.form;
  name = c.name.word;
  args = option_map (map erased_arg) c.args;
}

-- a declaration or a binding of `sc_main`
abbrev pub erased_main_item : CheckedMainItem → MainItem
erased_main_item (checked_main.Constant c) = main.Constant (erased_constant c)
erased_main_item (checked_main.Channel c) = main.Channel (erased_main_channel c)
erased_main_item (checked_main.Clock at r text t) = main.Clock at r.word text (erased_time t)
erased_main_item (checked_main.Instance m r args) = main.Instance m.word r.word (map erased_arg args)
erased_main_item (checked_main.Bind b) = main.Bind (erased_binding b)

-- a name, if there is one
abbrev pub erased_name : Option Resolved → Option Word
erased_name r = option_map (λ r. r.word) r

-- how `sc_main`'s second parameter is written
abbrev pub erased_main_values : CheckedMainValues → MainValues
erased_main_values (checked_values.Array r) = values.Array (erased_name r)
erased_main_values (checked_values.Pointer r) = values.Pointer (erased_name r)

-- what `sc_start` is given
abbrev pub erased_start_form : CheckedStartForm → StartForm
erased_start_form (checked_start.Open at) = start.Open at
erased_start_form (checked_start.Limited at t) = start.Limited at (erased_time t)

-- `sc_main`
abbrev pub erased_main : CheckedMain → Main
erased_main m = record {
  count = erased_name m.count;
  values = erased_main_values m.values;
  items = map erased_main_item m.items;
  start = option_map erased_start_form m.start;
  returned = m.returned;
}

-- a whole text
abbrev pub erased_unit : CheckedUnit → Text
erased_unit u = record { items = map erased_unit_item u.items; main = erased_main u.main }
