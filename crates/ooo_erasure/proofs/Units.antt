-- Each text is what some checked text is without additions.
use Rattle.std.proofs.Common.{refl, ap, [], Option}
use Rattle.std.proofs.Math.Path.{ap₂}
use Rattle.ooo_syntax.specs.declared.leaves.Word.{Word}
use Rattle.ooo_syntax.specs.declared.unit.UnitItem.{UnitItem}
use Rattle.ooo_syntax.specs.declared.unit.UnitItem.TheVariants as item
use Rattle.ooo_syntax.specs.declared.unit.MainChannel.{MainChannel}
use Rattle.ooo_syntax.specs.declared.unit.MainItem.{MainItem}
use Rattle.ooo_syntax.specs.declared.unit.MainItem.TheVariants as main
use Rattle.ooo_syntax.specs.declared.unit.MainValues.{MainValues}
use Rattle.ooo_syntax.specs.declared.unit.MainValues.TheVariants as values
use Rattle.ooo_syntax.specs.declared.unit.StartForm.{StartForm}
use Rattle.ooo_syntax.specs.declared.unit.StartForm.TheVariants as start
use Rattle.ooo_syntax.specs.declared.unit.Main.{Main}
use Rattle.ooo_syntax.specs.declared.unit.Unit.{Unit as Text}
use Rattle.ooo_checked.specs.declared.denotation.Resolved.{Resolved}
use Rattle.ooo_checked.specs.declared.unit.CheckedUnitItem.TheVariants as checked_item
use Rattle.ooo_checked.specs.declared.unit.CheckedMainItem.TheVariants as checked_main
use Rattle.ooo_checked.specs.declared.unit.CheckedMainValues.TheVariants as checked_values
use Rattle.ooo_checked.specs.declared.unit.CheckedStartForm.TheVariants as checked_start
use Rattle.ooo_checked.specs.Stats.{time_of}
use Rattle.ooo_erasure.specs.Modules.{erased_arg}
use Rattle.ooo_erasure.specs.Units.{erased_unit_item, erased_main_channel, erased_main_item, erased_name, erased_main_values, erased_start_form, erased_main, erased_unit}
use Rattle.ooo_erasure.proofs.Lists.{Covered, all_covered, option_covered}
use Rattle.ooo_erasure.proofs.Modules.{named, arg_covered, args_covered, binding_covered, constant_covered, module_covered}
use Rattle.ooo_erasure.proofs.Simples.{time_same}

unit_item_covered : (x : UnitItem) → Covered erased_unit_item x
unit_item_covered (item.Using library) = (checked_item.Using library, refl)
unit_item_covered (item.Constant x) = let c = constant_covered x in (checked_item.Constant c.0, ap item.Constant c.1)
unit_item_covered (item.Module x) = let c = module_covered x in (checked_item.Module c.0, ap item.Module c.1)

main_channel_covered : (x : MainChannel) → Covered erased_main_channel x
main_channel_covered x =
    let args = args_covered x.args in (
      record { channel = x.channel; form = x.form; name = named x.name; args = args.0 },
      ap {B = MainChannel} (λ a. record { channel = x.channel; form = x.form; name = x.name; args = a }) args.1,
    )

main_item_covered : (x : MainItem) → Covered erased_main_item x
main_item_covered (main.Constant x) = let c = constant_covered x in (checked_main.Constant c.0, ap main.Constant c.1)
main_item_covered (main.Channel x) = let c = main_channel_covered x in (checked_main.Channel c.0, ap main.Channel c.1)
main_item_covered (main.Clock at w text t) =
    (checked_main.Clock at (named w) text (time_of t []).tree, ap (main.Clock at w text) (time_same t []))
main_item_covered (main.Instance m w xs) =
    let args = all_covered erased_arg arg_covered xs in
    (checked_main.Instance (named m) (named w) args.0, ap (main.Instance m w) args.1)
main_item_covered (main.Bind b) = let c = binding_covered b in (checked_main.Bind c.0, ap main.Bind c.1)

name_covered : (x : Option Word) → Covered erased_name x
name_covered x = option_covered (λ (r : Resolved). r.word) (λ w. (named w, refl)) x

main_values_covered : (x : MainValues) → Covered erased_main_values x
main_values_covered (values.Array w) = let c = name_covered w in (checked_values.Array c.0, ap values.Array c.1)
main_values_covered (values.Pointer w) = let c = name_covered w in (checked_values.Pointer c.0, ap values.Pointer c.1)

start_form_covered : (x : StartForm) → Covered erased_start_form x
start_form_covered (start.Open at) = (checked_start.Open at, refl)
start_form_covered (start.Limited at t) =
    (checked_start.Limited at (time_of t []).tree, ap (start.Limited at) (time_same t []))

main_covered : (x : Main) → Covered erased_main x
main_covered x =
    let count = name_covered x.count in
    let values = main_values_covered x.values in
    let items = all_covered erased_main_item main_item_covered x.items in
    let start = option_covered erased_start_form start_form_covered x.start in (
      record { count = count.0; values = values.0; items = items.0; start = start.0; returned = x.returned },
      rw (count.1, values.1, items.1, start.1) refl,
    )

pub unit_covered : (u : Text) → Covered erased_unit u
unit_covered u =
    let items = all_covered erased_unit_item unit_item_covered u.items in
    let main = main_covered u.main in (
      record { items = items.0; main = main.0 },
      ap₂ {C = Text} (λ xs m. record { items = xs; main = m }) items.1 main.1,
    )
