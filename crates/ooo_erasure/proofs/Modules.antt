-- Each module is what some checked module is without additions.
use Rattle.std.proofs.Common.{refl, ap, List, [], map, Option, None, false}
use Rattle.std.specs.Option.{option_map}
use Rattle.std.proofs.Math.Path.{ap₂}
use Rattle.ooo_syntax.specs.declared.leaves.Word.{Word}
use Rattle.ooo_syntax.specs.declared.module.Arg.{Arg}
use Rattle.ooo_syntax.specs.declared.module.Arg.TheVariants as arg
use Rattle.ooo_syntax.specs.declared.module.Constant.{Constant}
use Rattle.ooo_syntax.specs.declared.module.FieldForm.{FieldForm}
use Rattle.ooo_syntax.specs.declared.module.FieldForm.TheVariants as field
use Rattle.ooo_syntax.specs.declared.module.Field.{Field}
use Rattle.ooo_syntax.specs.declared.module.Fields.{Fields}
use Rattle.ooo_syntax.specs.declared.module.Ports.{Ports}
use Rattle.ooo_syntax.specs.declared.module.Part.{Part}
use Rattle.ooo_syntax.specs.declared.module.Channels.{Channels}
use Rattle.ooo_syntax.specs.declared.module.Children.{Children}
use Rattle.ooo_syntax.specs.declared.module.Param.{Param}
use Rattle.ooo_syntax.specs.declared.module.Function.{Function}
use Rattle.ooo_syntax.specs.declared.module.Init.{Init}
use Rattle.ooo_syntax.specs.declared.module.Binding.{Binding}
use Rattle.ooo_syntax.specs.declared.module.Setup.{Setup}
use Rattle.ooo_syntax.specs.declared.module.Setup.TheVariants as setup
use Rattle.ooo_syntax.specs.declared.module.Constructor.{Constructor}
use Rattle.ooo_syntax.specs.declared.module.Constructor.TheVariants as constructor
use Rattle.ooo_syntax.specs.declared.module.Member.{Member}
use Rattle.ooo_syntax.specs.declared.module.Member.TheVariants as member
use Rattle.ooo_syntax.specs.declared.module.Module.{Module}
use Rattle.ooo_checked.specs.declared.denotation.Resolved.{Resolved}
use Rattle.ooo_checked.specs.declared.module.CheckedArg.TheVariants as checked_arg
use Rattle.ooo_checked.specs.declared.module.CheckedFieldForm.TheVariants as checked_field
use Rattle.ooo_checked.specs.declared.module.CheckedSetup.TheVariants as checked_setup
use Rattle.ooo_checked.specs.declared.module.CheckedConstructor.TheVariants as checked_constructor
use Rattle.ooo_checked.specs.declared.module.CheckedMember.TheVariants as checked_member
use Rattle.ooo_syntax.specs.declared.stat.Event.{Event}
use Rattle.ooo_syntax.specs.declared.stat.Stat.{Stat}
use Rattle.ooo_checked.specs.declared.context.Context.{Context}
use Rattle.ooo_checked.specs.Exprs.{resolved, expr_of}
use Rattle.ooo_checked.specs.Stats.{event_of, time_of, stat_of}
use Rattle.ooo_erasure.specs.Stats.{erased_event, erased_stat}
use Rattle.ooo_erasure.specs.Modules.{erased_arg, erased_binding, erased_channels, erased_children, erased_constant, erased_constructor, erased_field, erased_field_form, erased_fields, erased_function, erased_init, erased_member, erased_module, erased_names, erased_param, erased_part, erased_ports, erased_setup}
use Rattle.ooo_erasure.proofs.Exprs.{expr_same}
use Rattle.ooo_erasure.proofs.Lists.{Covered, all_covered, option_covered}
use Rattle.ooo_erasure.proofs.Simples.{time_same}
use Rattle.ooo_erasure.proofs.Stats.{stat_same}

-- ---- declarations

-- a name, which denotes nothing
abbrev pub named : Word → Resolved
named w = resolved [] w

names_covered : (ws : List Word) → Covered erased_names ws
names_covered ws = all_covered (λ (r : Resolved). r.word) (λ w. (named w, refl)) ws

pub arg_covered : (x : Arg) → Covered erased_arg x
arg_covered (arg.Text t) = (checked_arg.Text t, refl)
arg_covered (arg.Time t) = (checked_arg.Time (time_of t []).tree, ap arg.Time (time_same t []))
arg_covered (arg.Value e) = (checked_arg.Value (expr_of e []).tree, ap arg.Value (expr_same e []))

pub constant_covered : (x : Constant) → Covered erased_constant x
constant_covered x = (
  record { is_static = x.is_static; form = x.form; name = named x.name; value = (expr_of x.value []).tree },
  ap {B = Constant} (λ v. record { is_static = x.is_static; form = x.form; name = x.name; value = v })
      (expr_same x.value []),
)

field_form_covered : (x : FieldForm) → Covered erased_field_form x
field_form_covered field.Plain = (checked_field.Plain, refl)
field_form_covered (field.Length e) = (checked_field.Length (expr_of e []).tree, ap field.Length (expr_same e []))
field_form_covered (field.Value e) = (checked_field.Value (expr_of e []).tree, ap field.Value (expr_same e []))

field_covered : (x : Field) → Covered erased_field x
field_covered x =
    let form = field_form_covered x.form in
    (record { name = named x.name; form = form.0 }, ap {B = Field} (λ f. record { name = x.name; form = f }) form.1)

fields_covered : (x : Fields) → Covered erased_fields x
fields_covered x =
    let fields = all_covered erased_field field_covered x.fields in (
      record { is_const = x.is_const; form = x.form; fields = fields.0 },
      ap {B = Fields} (λ fs. record { is_const = x.is_const; form = x.form; fields = fs }) fields.1,
    )

ports_covered : (x : Ports) → Covered erased_ports x
ports_covered x =
    let names = names_covered x.names in (
      record { port = x.port; form = x.form; names = names.0 },
      ap {B = Ports} (λ ns. record { port = x.port; form = x.form; names = ns }) names.1,
    )

pub args_covered : (xs : Option (List Arg)) → Covered (option_map (map erased_arg)) xs
args_covered xs = option_covered (map erased_arg) (all_covered erased_arg arg_covered) xs

part_covered : (x : Part) → Covered erased_part x
part_covered x =
    let args = args_covered x.args in
    (record { name = named x.name; args = args.0 }, ap {B = Part} (λ a. record { name = x.name; args = a }) args.1)

channels_covered : (x : Channels) → Covered erased_channels x
channels_covered x =
    let parts = all_covered erased_part part_covered x.parts in (
      record { channel = x.channel; form = x.form; parts = parts.0 },
      ap {B = Channels} (λ ps. record { channel = x.channel; form = x.form; parts = ps }) parts.1,
    )

children_covered : (x : Children) → Covered erased_children x
children_covered x =
    let parts = all_covered erased_part part_covered x.parts in (
      record { module_name = named x.module_name; parts = parts.0 },
      ap {B = Children} (λ ps. record { module_name = x.module_name; parts = ps }) parts.1,
    )

-- ---- functions and constructors

param_covered : (x : Param) → Covered erased_param x
param_covered x = (record { form = x.form; name = named x.name }, refl)

stat_covered : (x : Stat) → Covered erased_stat x
stat_covered x =
    let cx : Context = record { result = None; outside = 0; in_loop = false } in
    ((stat_of x cx []).tree, stat_same x cx [])

function_covered : (x : Function) → Covered erased_function x
function_covered x =
    let params = all_covered erased_param param_covered x.params in
    let body = all_covered erased_stat stat_covered x.body in (
      record { result = x.result; name = named x.name; params = params.0; body = body.0 },
      ap₂ {C = Function} (λ ps b. record { result = x.result; name = x.name; params = ps; body = b }) params.1 body.1,
    )

init_covered : (x : Init) → Covered erased_init x
init_covered x =
    let args = all_covered erased_arg arg_covered x.args in
    (record { name = named x.name; args = args.0 }, ap {B = Init} (λ a. record { name = x.name; args = a }) args.1)

pub binding_covered : (x : Binding) → Covered erased_binding x
binding_covered x = (
  record { instance = named x.instance; port = named x.port; is_by_bind = x.is_by_bind; channel = named x.channel },
  refl,
)

event_covered : (x : Event) → Covered erased_event x
event_covered x = ((event_of false x []).tree, refl)

setup_covered : (x : Setup) → Covered erased_setup x
setup_covered (setup.Thread at w) = (checked_setup.Thread at (named w), refl)
setup_covered (setup.Method at w) = (checked_setup.Method at (named w), refl)
setup_covered (setup.Sensitive at es) =
    let events = all_covered erased_event event_covered es in
    (checked_setup.Sensitive at events.0, ap (setup.Sensitive at) events.1)
setup_covered (setup.DontInitialize at) = (checked_setup.DontInitialize at, refl)
setup_covered (setup.Bind b) = let c = binding_covered b in (checked_setup.Bind c.0, ap setup.Bind c.1)
setup_covered (setup.Set w e) =
    (checked_setup.Set (named w) (expr_of e []).tree, ap (setup.Set w) (expr_same e []))

constructor_covered : (x : Constructor) → Covered erased_constructor x
constructor_covered (constructor.Named w is xs) =
    let inits = all_covered erased_init init_covered is in
    let setups = all_covered erased_setup setup_covered xs in
    (checked_constructor.Named w inits.0 setups.0, ap₂ (constructor.Named w) inits.1 setups.1)
constructor_covered (constructor.Written w n ps is xs) =
    let params = all_covered erased_param param_covered ps in
    let inits = all_covered erased_init init_covered is in
    let setups = all_covered erased_setup setup_covered xs in (
      checked_constructor.Written w (named n) params.0 inits.0 setups.0,
      rw (params.1, inits.1, setups.1) refl,
    )

-- ---- modules

member_covered : (x : Member) → Covered erased_member x
member_covered member.Public = (checked_member.Public, refl)
member_covered (member.Constant x) = let c = constant_covered x in (checked_member.Constant c.0, ap member.Constant c.1)
member_covered (member.HasProcess w) = (checked_member.HasProcess w, refl)
member_covered (member.Fields x) = let c = fields_covered x in (checked_member.Fields c.0, ap member.Fields c.1)
member_covered (member.Ports x) = let c = ports_covered x in (checked_member.Ports c.0, ap member.Ports c.1)
member_covered (member.Clocks ws) = let c = names_covered ws in (checked_member.Clocks c.0, ap member.Clocks c.1)
member_covered (member.Channels x) = let c = channels_covered x in (checked_member.Channels c.0, ap member.Channels c.1)
member_covered (member.Events ws) = let c = names_covered ws in (checked_member.Events c.0, ap member.Events c.1)
member_covered (member.Children x) = let c = children_covered x in (checked_member.Children c.0, ap member.Children c.1)
member_covered (member.Function x) = let c = function_covered x in (checked_member.Function c.0, ap member.Function c.1)
member_covered (member.Constructor x) =
    let c = constructor_covered x in (checked_member.Constructor c.0, ap member.Constructor c.1)

pub module_covered : (x : Module) → Covered erased_module x
module_covered x =
    let members = all_covered erased_member member_covered x.members in (
      record { name = named x.name; members = members.0 },
      ap {B = Module} (λ ms. record { name = x.name; members = ms }) members.1,
    )
