-- A checked module without its additions, and its members and their parts.
use Rattle.std.specs.Prelude.{List, map, option_map}
use Rattle.ooo_syntax.specs.declared.leaves.Word.{Word}
use Rattle.ooo_syntax.specs.declared.module.Arg.{Arg}
use Rattle.ooo_syntax.specs.declared.module.Arg.TheVariants as arg
use Rattle.ooo_syntax.specs.declared.module.Constant.{Constant}
use Rattle.ooo_syntax.specs.declared.module.FieldForm.{FieldForm}
use Rattle.ooo_syntax.specs.declared.module.FieldForm.TheVariants as field
use Rattle.ooo_syntax.specs.declared.module.Field.{Field}
use Rattle.ooo_syntax.specs.declared.module.Fields.{Fields}
use Rattle.ooo_syntax.specs.declared.module.Ports.{Ports}
use Rattle.ooo_syntax.specs.declared.module.Part.{Part}
use Rattle.ooo_syntax.specs.declared.module.Channels.{Channels}
use Rattle.ooo_syntax.specs.declared.module.Children.{Children}
use Rattle.ooo_syntax.specs.declared.module.Param.{Param}
use Rattle.ooo_syntax.specs.declared.module.Function.{Function}
use Rattle.ooo_syntax.specs.declared.module.Init.{Init}
use Rattle.ooo_syntax.specs.declared.module.Binding.{Binding}
use Rattle.ooo_syntax.specs.declared.module.Setup.{Setup}
use Rattle.ooo_syntax.specs.declared.module.Setup.TheVariants as setup
use Rattle.ooo_syntax.specs.declared.module.Constructor.{Constructor}
use Rattle.ooo_syntax.specs.declared.module.Constructor.TheVariants as constructor
use Rattle.ooo_syntax.specs.declared.module.Member.{Member}
use Rattle.ooo_syntax.specs.declared.module.Member.TheVariants as member
use Rattle.ooo_syntax.specs.declared.module.Module.{Module}
use Rattle.ooo_checked.specs.declared.denotation.Resolved.{Resolved}
use Rattle.ooo_checked.specs.declared.module.CheckedArg.{CheckedArg}
use Rattle.ooo_checked.specs.declared.module.CheckedArg.TheVariants as checked_arg
use Rattle.ooo_checked.specs.declared.module.CheckedConstant.{CheckedConstant}
use Rattle.ooo_checked.specs.declared.module.CheckedFieldForm.{CheckedFieldForm}
use Rattle.ooo_checked.specs.declared.module.CheckedFieldForm.TheVariants as checked_field
use Rattle.ooo_checked.specs.declared.module.CheckedField.{CheckedField}
use Rattle.ooo_checked.specs.declared.module.CheckedFields.{CheckedFields}
use Rattle.ooo_checked.specs.declared.module.CheckedPorts.{CheckedPorts}
use Rattle.ooo_checked.specs.declared.module.CheckedPart.{CheckedPart}
use Rattle.ooo_checked.specs.declared.module.CheckedChannels.{CheckedChannels}
use Rattle.ooo_checked.specs.declared.module.CheckedChildren.{CheckedChildren}
use Rattle.ooo_checked.specs.declared.module.CheckedParam.{CheckedParam}
use Rattle.ooo_checked.specs.declared.module.CheckedFunction.{CheckedFunction}
use Rattle.ooo_checked.specs.declared.module.CheckedInit.{CheckedInit}
use Rattle.ooo_checked.specs.declared.module.CheckedBinding.{CheckedBinding}
use Rattle.ooo_checked.specs.declared.module.CheckedSetup.{CheckedSetup}
use Rattle.ooo_checked.specs.declared.module.CheckedSetup.TheVariants as checked_setup
use Rattle.ooo_checked.specs.declared.module.CheckedConstructor.{CheckedConstructor}
use Rattle.ooo_checked.specs.declared.module.CheckedConstructor.TheVariants as checked_constructor
use Rattle.ooo_checked.specs.declared.module.CheckedMember.{CheckedMember}
use Rattle.ooo_checked.specs.declared.module.CheckedMember.TheVariants as checked_member
use Rattle.ooo_checked.specs.declared.module.CheckedModule.{CheckedModule}
use Rattle.ooo_erasure.specs.Exprs.{erased_expr}
use Rattle.ooo_erasure.specs.Stats.{erased_time, erased_event, erased_stat}

-- ---- declarations

-- names, without what they denote
abbrev pub erased_names : List Resolved → List Word
erased_names rs = map (λ r. r.word) rs

-- an argument
abbrev pub erased_arg : CheckedArg → Arg
erased_arg (checked_arg.Text t) = arg.Text t
erased_arg (checked_arg.Time t) = arg.Time (erased_time t)
erased_arg (checked_arg.Value e) = arg.Value (erased_expr e)

-- a constant
abbrev pub erased_constant : CheckedConstant → Constant
erased_constant c =
    record { is_static = c.is_static; form = c.form; name = c.name.word; value = erased_expr c.value }

-- what stands behind a field's name
abbrev pub erased_field_form : CheckedFieldForm → FieldForm
erased_field_form checked_field.Plain = field.Plain
erased_field_form (checked_field.Length e) = field.Length (erased_expr e)
erased_field_form (checked_field.Value e) = field.Value (erased_expr e)

-- a variable of a module
abbrev pub erased_field : CheckedField → Field
erased_field f = record { name = f.name.word; form = erased_field_form f.form }

-- variables of a module
abbrev pub erased_fields : CheckedFields → Fields
erased_fields f = record { is_const = f.is_const; form = f.form; fields = map erased_field f.fields }

-- ports
abbrev pub erased_ports : CheckedPorts → Ports
erased_ports p = record { port = p.port; form = p.form; names = erased_names p.names }

-- a channel or a child
abbrev pub erased_part : CheckedPart → Part
erased_part p = record { name = p.name.word; args = option_map (map erased_arg) p.args }

-- channels
abbrev pub erased_channels : CheckedChannels → Channels
erased_channels c = record { channel = c.channel; form = c.form; parts = map erased_part c.parts }

-- children
abbrev pub erased_children : CheckedChildren → Children
erased_children c = record { module_name = c.module_name.word; parts = map erased_part c.parts }

-- ---- functions and constructors

-- a parameter
abbrev pub erased_param : CheckedParam → Param
erased_param p = record { form = p.form; name = p.name.word }

-- a function
abbrev pub erased_function : CheckedFunction → Function
erased_function f = record {
  result = f.result;
  name = f.name.word;
  params = map erased_param f.params;
  body = map erased_stat f.body;
}

-- an initialiser
abbrev pub erased_init : CheckedInit → Init
erased_init i = record { name = i.name.word; args = map erased_arg i.args }

-- a binding
abbrev pub erased_binding : CheckedBinding → Binding
erased_binding b =
    record { instance = b.instance.word; port = b.port.word; is_by_bind = b.is_by_bind; channel = b.channel.word }

-- a statement of a constructor
abbrev pub erased_setup : CheckedSetup → Setup
erased_setup (checked_setup.Thread at r) = setup.Thread at r.word
erased_setup (checked_setup.Method at r) = setup.Method at r.word
erased_setup (checked_setup.Sensitive at es) = setup.Sensitive at (map erased_event es)
erased_setup (checked_setup.DontInitialize at) = setup.DontInitialize at
erased_setup (checked_setup.Bind b) = setup.Bind (erased_binding b)
erased_setup (checked_setup.Set r e) = setup.Set r.word (erased_expr e)

-- a constructor
abbrev pub erased_constructor : CheckedConstructor → Constructor
erased_constructor (checked_constructor.Named w inits setups) =
    constructor.Named w (map erased_init inits) (map erased_setup setups)
erased_constructor (checked_constructor.Written w r params inits setups) =
    constructor.Written w r.word (map erased_param params) (map erased_init inits) (map erased_setup setups)

-- ---- modules

-- a member
abbrev pub erased_member : CheckedMember → Member
erased_member checked_member.Public = member.Public
erased_member (checked_member.Constant c) = member.Constant (erased_constant c)
erased_member (checked_member.HasProcess w) = member.HasProcess w
erased_member (checked_member.Fields f) = member.Fields (erased_fields f)
erased_member (checked_member.Ports p) = member.Ports (erased_ports p)
erased_member (checked_member.Clocks rs) = member.Clocks (erased_names rs)
erased_member (checked_member.Channels c) = member.Channels (erased_channels c)
erased_member (checked_member.Events rs) = member.Events (erased_names rs)
erased_member (checked_member.Children c) = member.Children (erased_children c)
erased_member (checked_member.Function f) = member.Function (erased_function f)
erased_member (checked_member.Constructor c) = member.Constructor (erased_constructor c)

-- a module
abbrev pub erased_module : CheckedModule → Module
erased_module m = record { name = m.name.word; members = map erased_member m.members }
