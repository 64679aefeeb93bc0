-- A whole text: its declarations and `sc_main`.
use Rattle.std.specs.Prelude.{ℕ, List, [], ◌∷◌, ◌++◌, not, Option, Some, None}
use Rattle.ooo_lexer.specs.declared.position.Position.{Position}
use Rattle.ooo_syntax.specs.declared.leaves.Word.{Word}
use Rattle.ooo_syntax.specs.declared.leaves.Text.{Text}
use Rattle.ooo_syntax.specs.declared.stat.TimeForm.{TimeForm}
use Rattle.ooo_syntax.specs.declared.module.Arg.{Arg}
use Rattle.ooo_syntax.specs.declared.module.Constant.{Constant}
use Rattle.ooo_syntax.specs.declared.module.Module.{Module}
use Rattle.ooo_syntax.specs.declared.unit.UnitItem.{UnitItem}
use Rattle.ooo_syntax.specs.declared.unit.UnitItem.TheVariants as item
use Rattle.ooo_syntax.specs.declared.unit.MainChannel.{MainChannel}
use Rattle.ooo_syntax.specs.declared.unit.MainItem.{MainItem}
use Rattle.ooo_syntax.specs.declared.unit.MainItem.TheVariants as main_item
use Rattle.ooo_syntax.specs.declared.unit.MainValues.{MainValues}
use Rattle.ooo_syntax.specs.declared.unit.MainValues.TheVariants as main_values
use Rattle.ooo_syntax.specs.declared.unit.StartForm.{StartForm}
use Rattle.ooo_syntax.specs.declared.unit.StartForm.TheVariants as start
use Rattle.ooo_syntax.specs.declared.unit.Main.{Main}
use Rattle.ooo_syntax.specs.declared.unit.Unit.{Unit as UnitSpec}
use Rattle.ooo_checked.specs.declared.breach.TypeBreach.TheVariants as what
use Rattle.ooo_checked.specs.declared.denotation.Resolved.{Resolved}
use Rattle.ooo_checked.specs.declared.denotation.Thing.{Thing}
use Rattle.ooo_checked.specs.declared.denotation.Thing.TheVariants as thing
use Rattle.ooo_checked.specs.declared.module.CheckedConstant.{CheckedConstant}
use Rattle.ooo_checked.specs.declared.module.CheckedModule.{CheckedModule}
use Rattle.ooo_checked.specs.declared.unit.CheckedUnitItem.{CheckedUnitItem}
use Rattle.ooo_checked.specs.declared.unit.CheckedUnitItem.TheVariants as checked
use Rattle.ooo_checked.specs.declared.unit.CheckedMainChannel.{CheckedMainChannel}
use Rattle.ooo_checked.specs.declared.unit.CheckedMainItem.{CheckedMainItem}
use Rattle.ooo_checked.specs.declared.unit.CheckedMainItem.TheVariants as checked_main
use Rattle.ooo_checked.specs.declared.unit.CheckedMainValues.{CheckedMainValues}
use Rattle.ooo_checked.specs.declared.unit.CheckedMainValues.TheVariants as checked_values
use Rattle.ooo_checked.specs.declared.unit.CheckedStartForm.{CheckedStartForm}
use Rattle.ooo_checked.specs.declared.unit.CheckedStartForm.TheVariants as checked_start
use Rattle.ooo_checked.specs.declared.unit.CheckedMain.{CheckedMain}
use Rattle.ooo_checked.specs.declared.unit.CheckedUnit.{CheckedUnit}
use Rattle.ooo_checked.specs.Exprs.{kind_written, name_notes, resolved}
use Rattle.ooo_checked.specs.Notes.{Note, Checked, breach_when, trees, all_notes}
use Rattle.ooo_checked.specs.Scopes.{Scope, entered, size_of}
use Rattle.ooo_checked.specs.Stats.{Stepped, in_order, stays}
use Rattle.ooo_members.specs.declared.known.ModuleFacts.{ModuleFacts}
use Rattle.ooo_members.specs.Args.{args_of, constant_time_of, is_instance_form}
use Rattle.ooo_members.specs.Constructors.{binding_of}
use Rattle.ooo_members.specs.Declarations.{channel_thing, instance_thing, is_module, name_of}
use Rattle.ooo_members.specs.Known.{Modules}
use Rattle.ooo_members.specs.Members.{constant_named, option_args, params_of_module, part_notes}
use Rattle.ooo_members.specs.Turns.{Turn, in_turn}
use Rattle.ooo_types.specs.declared.units.File.{File}
use Rattle.ooo_types.specs.Modules.{facts_of, module_of, params_count}

-- ---- the file

-- the file with one name more, which names this module, if it is one
abbrev pub with_name : Option ModuleFacts → Scope → File → File
with_name facts s file = record { modules = file.modules ++ facts ∷ []; scope = s }

-- a constant: its name is known behind its value
abbrev pub constant_of : (outside : ℕ) → Thing → Constant → Scope → Stepped CheckedConstant
constant_of outside t c s =
    let name = name_of outside t c.name s in
    let c' = constant_named name.tree c s in
    record { tree = c'.tree; scope = name.scope; notes = c'.notes ++ name.notes }

-- a module of the file: its name is known behind it
abbrev pub module_item_of : Module → File → Turn File CheckedModule
module_item_of m file =
    let name = name_of 0 (thing.Module (params_count m.members)) m.name file.scope in
    let m' = module_of file.modules name.tree m file.scope in record {
      tree = m'.tree;
      behind = with_name (Some (facts_of m)) name.scope file;
      notes = m'.notes ++ name.notes;
    }

-- a constant of the file
abbrev pub constant_item_of : Constant → File → Turn File CheckedConstant
constant_item_of c file =
    let c' = constant_of 0 (thing.FileConstant (kind_written c.form.form)) c file.scope in
    record { tree = c'.tree; behind = with_name None c'.scope file; notes = c'.notes }

-- a declaration of the file
abbrev pub item_of : UnitItem → File → Turn File CheckedUnitItem
item_of (item.Using library) file = record { tree = checked.Using library; behind = file; notes = [] }
item_of (item.Constant c) file =
    let c' = constant_item_of c file in
    record { tree = checked.Constant c'.tree; behind = c'.behind; notes = c'.notes }
item_of (item.Module m) file =
    let m' = module_item_of m file in
    record { tree = checked.Module m'.tree; behind = m'.behind; notes = m'.notes }

-- the declarations of the file one after the other
abbrev pub items_of : List UnitItem → File → Turn File (List CheckedUnitItem)
items_of xs file = in_turn item_of xs file

-- ---- sc_main

-- a channel of `sc_main`
abbrev pub channel_of : (outside : ℕ) → MainChannel → Scope → Stepped CheckedMainChannel
channel_of outside c s =
    let t = channel_thing c.channel (kind_written c.form.form) in
    let name = name_of outside t c.name s in record {
      tree = record { channel = c.channel; form = c.form; name = name.tree; args = option_args c.args s };
      scope = name.scope;
      notes = part_notes t None c.name c.args s ++ name.notes;
    }

-- what is noted of an instance: its module, and the form of its arguments
abbrev pub form_notes : Resolved → Word → List Arg → List Note
form_notes m w args =
    let t = m.denotes.thing in
    name_notes t (is_module t) m.word.position
    ++ breach_when (not (is_instance_form (params_of_module t) args)) what.WrongCount w.position

-- an instance of a module
abbrev pub instance_of : (outside : ℕ) → Word → Word → List Arg → Scope → Stepped CheckedMainItem
instance_of outside m w args s =
    let module_name = resolved s m in
    let name = name_of outside (instance_thing module_name.denotes s) w s in record {
      tree = checked_main.Instance module_name name.tree (trees (args_of args s));
      scope = name.scope;
      notes = form_notes module_name w args ++ all_notes (args_of args s) ++ name.notes;
    }

-- a clock
abbrev pub clock_of : (outside : ℕ) → Position → Word → Text → TimeForm → Scope → Stepped CheckedMainItem
clock_of outside at w t period s =
    let name = name_of outside thing.Clock w s in
    let time = constant_time_of period s in
    record { tree = checked_main.Clock at name.tree t time.tree; scope = name.scope; notes = time.notes ++ name.notes }

-- a declaration or a binding of `sc_main`
abbrev pub main_item_of : Modules → (outside : ℕ) → MainItem → Scope → Stepped CheckedMainItem
main_item_of ms outside (main_item.Constant c) s =
    let c' = constant_of outside (thing.MainConstant (kind_written c.form.form)) c s in
    record { tree = checked_main.Constant c'.tree; scope = c'.scope; notes = c'.notes }
main_item_of ms outside (main_item.Channel c) s =
    let c' = channel_of outside c s in
    record { tree = checked_main.Channel c'.tree; scope = c'.scope; notes = c'.notes }
main_item_of ms outside (main_item.Clock at w t period) s = clock_of outside at w t period s
main_item_of ms outside (main_item.Instance m w args) s = instance_of outside m w args s
main_item_of ms outside (main_item.Bind b) s =
    stays (record { tree = checked_main.Bind (binding_of ms b s).tree; notes = (binding_of ms b s).notes }) s

-- the declarations and bindings one after the other
abbrev pub main_items_of : Modules → (outside : ℕ) → List MainItem → Scope → Stepped (List CheckedMainItem)
main_items_of ms outside xs s = in_order (λ x s. main_item_of ms outside x s) xs s

-- what `sc_start` is given
abbrev pub start_form_of : StartForm → Scope → Checked CheckedStartForm
start_form_of (start.Open at) s = record { tree = checked_start.Open at; notes = [] }
start_form_of (start.Limited at t) s =
    record { tree = checked_start.Limited at (constant_time_of t s).tree; notes = (constant_time_of t s).notes }

abbrev pub option_start_form_of : Option StartForm → Scope → Checked (Option CheckedStartForm)
option_start_form_of None s = record { tree = None; notes = [] }
option_start_form_of (Some x) s = record { tree = Some (start_form_of x s).tree; notes = (start_form_of x s).notes }

-- a parameter of `sc_main`, if it has a name
abbrev pub parameter_of : (outside : ℕ) → Option Word → Scope → Stepped (Option Resolved)
parameter_of outside None s = record { tree = None; scope = s; notes = [] }
parameter_of outside (Some w) s =
    let name = name_of outside thing.MainArgument w s in
    record { tree = Some name.tree; scope = name.scope; notes = name.notes }

-- its second parameter
abbrev pub values_of : (outside : ℕ) → MainValues → Scope → Stepped CheckedMainValues
values_of outside (main_values.Array w) s =
    let p = parameter_of outside w s in record { tree = checked_values.Array p.tree; scope = p.scope; notes = p.notes }
values_of outside (main_values.Pointer w) s =
    let p = parameter_of outside w s in record { tree = checked_values.Pointer p.tree; scope = p.scope; notes = p.notes }

-- `sc_main`: its parameters stand in a block of their own, and its declarations in one within
abbrev pub main_of : Main → File → Checked CheckedMain
main_of m file =
    let count = parameter_of (size_of file.scope) m.count (entered file.scope) in
    let values = values_of (size_of file.scope) m.values count.scope in
    let items = main_items_of file.modules (size_of values.scope) m.items (entered values.scope) in
    let begins = option_start_form_of m.start items.scope in record {
      tree = record {
        count = count.tree;
        values = values.tree;
        items = items.tree;
        start = begins.tree;
        returned = m.returned;
      };
      notes = count.notes ++ values.notes ++ items.notes ++ begins.notes;
    }

-- ---- texts

-- nothing is declared yet
abbrev pub at_first : File
at_first = record { modules = []; scope = entered [] }

-- a whole text with what its names denote, and all that is noted of it
abbrev pub unit_of : UnitSpec → Checked CheckedUnit
unit_of u =
    let items = items_of u.items at_first in
    let main = main_of u.main items.behind in record {
      tree = record { items = items.tree; main = main.tree };
      notes = items.notes ++ main.notes;
    }
