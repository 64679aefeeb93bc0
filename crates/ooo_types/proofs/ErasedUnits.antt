-- A text, and its modules and `sc_main`, are what they are checked to be, without additions.
use Rattle.std.proofs.Common.{◌≡◌, refl, ap, ℕ, ◌-◌, List, [], map, Option, Some, None}
use Rattle.std.proofs.Math.Path.{ap₂}
use Rattle.std.specs.Option.{option_map}
use Rattle.ooo_syntax.specs.declared.leaves.Word.{Word}
use Rattle.ooo_syntax.specs.declared.module.Module.{Module}
use Rattle.ooo_syntax.specs.declared.unit.UnitItem.{UnitItem}
use Rattle.ooo_syntax.specs.declared.unit.UnitItem.TheVariants as item
use Rattle.ooo_syntax.specs.declared.unit.MainChannel.{MainChannel}
use Rattle.ooo_syntax.specs.declared.unit.MainItem.{MainItem}
use Rattle.ooo_syntax.specs.declared.unit.MainItem.TheVariants as main_item
use Rattle.ooo_syntax.specs.declared.unit.MainValues.{MainValues}
use Rattle.ooo_syntax.specs.declared.unit.MainValues.TheVariants as main_values
use Rattle.ooo_syntax.specs.declared.unit.StartForm.{StartForm}
use Rattle.ooo_syntax.specs.declared.unit.StartForm.TheVariants as start
use Rattle.ooo_syntax.specs.declared.unit.Main.{Main}
use Rattle.ooo_syntax.specs.declared.unit.Unit.{Unit as UnitSpec}
use Rattle.ooo_checked.specs.Scopes.{Scope, entered, size_of}
use Rattle.ooo_erasure.specs.Laws.{ErasesExprs, ErasesSimples, ErasesStats}
use Rattle.ooo_erasure.specs.Modules.{erased_module}
use Rattle.ooo_erasure.specs.Units.{erased_main, erased_main_channel, erased_main_item, erased_main_values, erased_name, erased_start_form, erased_unit_item}
use Rattle.ooo_members.specs.Declarations.{members_names}
use Rattle.ooo_members.specs.Known.{Modules}
use Rattle.ooo_types.specs.declared.units.File.{File}
use Rattle.ooo_types.specs.Erasing.{ErasesTexts}
use Rattle.ooo_types.specs.Modules.{at_first as nothing_set_up, initialised_by}
use Rattle.ooo_types.specs.Units.{at_first, channel_of, item_of, items_of, main_item_of, main_items_of, main_of, module_item_of, option_start_form_of, parameter_of, start_form_of, values_of}
use Rattle.ooo_erasure.specs.Parts.{ordered_trees}
use Rattle.ooo_types.proofs.ErasedLists.{turned_trees}
use Rattle.ooo_types.proofs.ErasedMembers.{args_same, constant_same, members_same, option_args_same}

-- ---- the parameters of `sc_main`

parameter_same : (outside : ℕ) (o : Option Word) (s : Scope) → erased_name (parameter_of outside o s).tree ≡ o
parameter_same outside None s = refl
parameter_same outside (Some w) s = refl

values_same : (outside : ℕ) (x : MainValues) (s : Scope) → erased_main_values (values_of outside x s).tree ≡ x
values_same outside (main_values.Array o) s = ap main_values.Array (parameter_same outside o s)
values_same outside (main_values.Pointer o) s = ap main_values.Pointer (parameter_same outside o s)

module _ (exprs : ErasesExprs) (simples : ErasesSimples) where
  -- ---- `sc_main`

  channel_same : (outside : ℕ) (c : MainChannel) (s : Scope) → erased_main_channel (channel_of outside c s).tree ≡ c
  channel_same outside c s =
      ap {B = MainChannel} (λ args. record { channel = c.channel; form = c.form; name = c.name; args = args })
      (option_args_same exprs simples c.args s)

  main_item_same : (ms : Modules) (outside : ℕ) (x : MainItem) (s : Scope) →
      erased_main_item (main_item_of ms outside x s).tree ≡ x
  main_item_same ms outside (main_item.Constant c) s = ap main_item.Constant (constant_same exprs simples c s)
  main_item_same ms outside (main_item.Channel c) s = ap main_item.Channel (channel_same outside c s)
  main_item_same ms outside (main_item.Clock at w text period) s =
      ap (main_item.Clock at w text) (simples.time period s)
  main_item_same ms outside (main_item.Instance m w args) s =
      ap (main_item.Instance m w) (args_same exprs simples args s)
  main_item_same ms outside (main_item.Bind b) s = refl

  main_items_same : (ms : Modules) (outside : ℕ) (xs : List MainItem) (s : Scope) →
      map erased_main_item (main_items_of ms outside xs s).tree ≡ xs
  main_items_same ms outside xs s =
      ordered_trees (λ x s. main_item_of ms outside x s) erased_main_item (main_item_same ms outside) xs s

  start_form_same : (x : StartForm) (s : Scope) → erased_start_form (start_form_of x s).tree ≡ x
  start_form_same (start.Open at) s = refl
  start_form_same (start.Limited at t) s = ap (start.Limited at) (simples.time t s)

  option_start_form_same : (o : Option StartForm) (s : Scope) →
      option_map erased_start_form (option_start_form_of o s).tree ≡ o
  option_start_form_same None s = refl
  option_start_form_same (Some x) s = ap Some (start_form_same x s)

  main_same : (m : Main) (file : File) → erased_main (main_of m file).tree ≡ m
  main_same m file =
      let outside = size_of file.scope in
      let count = parameter_of outside m.count (entered file.scope) in
      let values = values_of outside m.values count.scope in
      let items = main_items_of file.modules (size_of values.scope) m.items (entered values.scope) in
      rw (parameter_same outside m.count (entered file.scope), values_same outside m.values count.scope)
      (rw (main_items_same file.modules (size_of values.scope) m.items (entered values.scope))
      (rw (option_start_form_same m.start items.scope) refl))

  module _ (stats : ErasesStats) where
    -- ---- the declarations of the file

    module_same : (m : Module) (file : File) → erased_module (module_item_of m file).tree ≡ m
    module_same m file =
        let initialised = initialised_by m.members (entered []) in
        let s = (members_names (size_of file.scope) m.members (entered file.scope)).scope in
        let before = nothing_set_up (size_of s - size_of file.scope) in
        ap {B = Module} (λ xs. record { name = m.name; members = xs })
        (members_same exprs simples stats file.modules m.name.name initialised s m.members before)

    item_same : (x : UnitItem) (file : File) → erased_unit_item (item_of x file).tree ≡ x
    item_same (item.Using library) file = refl
    item_same (item.Constant c) file = ap item.Constant (constant_same exprs simples c file.scope)
    item_same (item.Module m) file = ap item.Module (module_same m file)

    items_same : (xs : List UnitItem) (file : File) → map erased_unit_item (items_of xs file).tree ≡ xs
    items_same xs file = turned_trees item_of erased_unit_item item_same xs file

    -- ---- texts

    pub unit_same : ErasesTexts
    unit_same u =
        ap₂ {C = UnitSpec} (λ xs m. record { items = xs; main = m })
        (items_same u.items at_first) (main_same u.main (items_of u.items at_first).behind)
