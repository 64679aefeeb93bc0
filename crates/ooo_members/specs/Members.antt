-- The members of a module: what their names denote, and what is wrong with them.
use Rattle.std.specs.Prelude.{ℕ, ◌==◌, List, [], ◌∷◌, ◌++◌, map, Bool, false, not, ◌&&◌, Option, Some, None, is_some}
use Rattle.std.specs.Str.{bytes_eq}
use Rattle.ooo_syntax.specs.declared.leaves.Word.{Word}
use Rattle.ooo_syntax.specs.declared.module.Arg.{Arg}
use Rattle.ooo_syntax.specs.declared.module.Constant.{Constant}
use Rattle.ooo_syntax.specs.declared.module.Field.{Field}
use Rattle.ooo_syntax.specs.declared.module.FieldForm.{FieldForm}
use Rattle.ooo_syntax.specs.declared.module.FieldForm.TheVariants as field
use Rattle.ooo_syntax.specs.declared.module.Fields.{Fields}
use Rattle.ooo_syntax.specs.declared.module.Part.{Part}
use Rattle.ooo_syntax.specs.declared.module.Channels.{Channels}
use Rattle.ooo_syntax.specs.declared.module.Children.{Children}
use Rattle.ooo_syntax.specs.declared.module.Member.{Member}
use Rattle.ooo_syntax.specs.declared.module.Member.TheVariants as member
use Rattle.ooo_syntax.specs.declared.module.Ports.{Ports}
use Rattle.ooo_checked.specs.declared.breach.TypeBreach.TheVariants as what
use Rattle.ooo_checked.specs.declared.denotation.Thing.{Thing}
use Rattle.ooo_checked.specs.declared.denotation.Thing.TheVariants as thing
use Rattle.ooo_checked.specs.declared.denotation.Resolved.{Resolved}
use Rattle.ooo_checked.specs.declared.module.CheckedArg.{CheckedArg}
use Rattle.ooo_checked.specs.declared.module.CheckedConstant.{CheckedConstant}
use Rattle.ooo_checked.specs.declared.module.CheckedField.{CheckedField}
use Rattle.ooo_checked.specs.declared.module.CheckedFields.{CheckedFields}
use Rattle.ooo_checked.specs.declared.module.CheckedFieldForm.{CheckedFieldForm}
use Rattle.ooo_checked.specs.declared.module.CheckedFieldForm.TheVariants as checked_field
use Rattle.ooo_checked.specs.declared.module.CheckedPart.{CheckedPart}
use Rattle.ooo_checked.specs.declared.module.CheckedChannels.{CheckedChannels}
use Rattle.ooo_checked.specs.declared.module.CheckedChildren.{CheckedChildren}
use Rattle.ooo_checked.specs.declared.module.CheckedMember.{CheckedMember}
use Rattle.ooo_checked.specs.declared.module.CheckedMember.TheVariants as checked
use Rattle.ooo_checked.specs.declared.module.CheckedPorts.{CheckedPorts}
use Rattle.ooo_checked.specs.Exprs.{kind_written, name_notes, resolved}
use Rattle.ooo_checked.specs.Notes.{Note, Checked, breach_when, trees, all_notes}
use Rattle.ooo_checked.specs.Scopes.{Scope, is_declared_here}
use Rattle.ooo_members.specs.declared.known.FunctionFacts.{FunctionFacts}
use Rattle.ooo_members.specs.declared.known.Sofar.{Sofar}
use Rattle.ooo_members.specs.Args.{constant_of, args_of, is_form_of}
use Rattle.ooo_members.specs.Bodies.{facts_of, function_of}
use Rattle.ooo_members.specs.Constructors.{constructor_of}
use Rattle.ooo_members.specs.Declarations.{channel_thing, instance_thing, is_module}
use Rattle.ooo_members.specs.Known.{Modules}
use Rattle.ooo_members.specs.Turns.{Turn, in_turn}

-- ---- constants and variables

-- a constant with its name
abbrev pub constant_named : Resolved → Constant → Scope → Checked CheckedConstant
constant_named name c s =
    let v = constant_of c.value s in
    record { tree = record { is_static = c.is_static; form = c.form; name = name; value = v.tree }; notes = v.notes }

-- what stands behind a field's name
abbrev pub field_form_of : FieldForm → Scope → Checked CheckedFieldForm
field_form_of field.Plain s = record { tree = checked_field.Plain; notes = [] }
field_form_of (field.Length e) s =
    record { tree = checked_field.Length (constant_of e s).tree; notes = (constant_of e s).notes }
field_form_of (field.Value e) s =
    record { tree = checked_field.Value (constant_of e s).tree; notes = (constant_of e s).notes }

-- a field
abbrev pub field_of : Field → Scope → Checked CheckedField
field_of x s =
    let form = field_form_of x.form s in
    record { tree = record { name = resolved s x.name; form = form.tree }; notes = form.notes }

-- a declaration of fields
abbrev pub fields_of : Fields → Scope → Checked CheckedFields
fields_of f s =
    let fields = map (λ x. field_of x s) f.fields in
    record { tree = record { is_const = f.is_const; form = f.form; fields = trees fields }; notes = all_notes fields }

-- ---- names

-- names with what they denote
abbrev pub names_of : List Word → Scope → List Resolved
names_of ws s = map (λ w. resolved s w) ws

-- a declaration of ports
abbrev pub ports_of : Ports → Scope → CheckedPorts
ports_of p s = record { port = p.port; form = p.form; names = names_of p.names s }

-- ---- channels and children

-- the arguments of a part, if it has some
abbrev pub option_args : Option (List Arg) → Scope → Option (List CheckedArg)
option_args None s = None
option_args (Some xs) s = Some (trees (args_of xs s))

-- what is noted of the arguments of a part that is this thing: their form, and themselves
abbrev pub part_notes : Thing → (params : Option ℕ) → Word → Option (List Arg) → Scope → List Note
part_notes t params w None s = []
part_notes t params w (Some xs) s =
    breach_when (not (is_form_of t params xs)) what.WrongCount w.position ++ all_notes (args_of xs s)

-- a part that is this thing
abbrev pub part_of : Thing → (params : Option ℕ) → Part → Scope → Checked CheckedPart
part_of t params p s = record {
  tree = record { name = resolved s p.name; args = option_args p.args s };
  notes = part_notes t params p.name p.args s;
}

-- parts that are this thing
abbrev pub parts_of : Thing → (params : Option ℕ) → List Part → Scope → List (Checked CheckedPart)
parts_of t params ps s = map (λ p. part_of t params p s) ps

-- a declaration of channels
abbrev pub channels_of : Channels → Scope → Checked CheckedChannels
channels_of c s =
    let parts = parts_of (channel_thing c.channel (kind_written c.form.form)) None c.parts s in
    record { tree = record { channel = c.channel; form = c.form; parts = trees parts }; notes = all_notes parts }

-- how many parameters a module's constructor has, if the thing is a module
abbrev pub params_of_module : Thing → Option ℕ
params_of_module (thing.Module n) = Some n
params_of_module _ = None

-- there are parameters
abbrev pub has_params : Option ℕ → Bool
has_params None = false
has_params (Some n) = not (n == 0)

-- a child without arguments, which no constructor initialises, of a module whose constructor has parameters
abbrev pub lacks_arguments : (initialised : Scope) → (params : Option ℕ) → Part → Bool
lacks_arguments initialised params p =
    has_params params && not (is_some p.args) && not (is_declared_here initialised p.name.name)

-- a child that is this thing, whose module's constructor has so many parameters
abbrev pub child_of : (initialised : Scope) → Thing → (params : Option ℕ) → Part → Scope → Checked CheckedPart
child_of initialised t params p s =
    let part = part_of t params p s in record {
      tree = part.tree;
      notes = part.notes ++ breach_when (lacks_arguments initialised params p) what.WrongCount p.name.position;
    }

-- children of a module
abbrev pub children_of : (initialised : Scope) → Children → Scope → Checked CheckedChildren
children_of initialised c s =
    let r = resolved s c.module_name in
    let t = r.denotes.thing in
    let parts = map (λ p. child_of initialised (instance_thing r.denotes s) (params_of_module t) p s) c.parts in record {
      tree = record { module_name = r; parts = trees parts };
      notes = name_notes t (is_module t) c.module_name.position ++ all_notes parts;
    }

-- ---- members

-- a part that changes nothing for those behind it
abbrev pub passes : {T : Type 0} → Checked T → Sofar → Turn Sofar T
passes c before = record { tree = c.tree; behind = before; notes = c.notes }

-- a member, behind others
abbrev pub member_of : Modules → (module_name : List ℕ) → (initialised : Scope) → Scope → Member → Sofar →
    Turn Sofar CheckedMember
member_of ms module_name initialised s member.Public before = passes (record { tree = checked.Public; notes = [] }) before
member_of ms module_name initialised s (member.Constant c) before =
    let c' = constant_named (resolved s c.name) c s in
    passes (record { tree = checked.Constant c'.tree; notes = c'.notes }) before
member_of ms module_name initialised s (member.HasProcess w) before = passes (record {
  tree = checked.HasProcess w;
  notes = breach_when (not (bytes_eq w.name module_name)) what.WrongKind w.position;
}) before
member_of ms module_name initialised s (member.Fields f) before =
    passes (record { tree = checked.Fields (fields_of f s).tree; notes = (fields_of f s).notes }) before
member_of ms module_name initialised s (member.Ports p) before =
    passes (record { tree = checked.Ports (ports_of p s); notes = [] }) before
member_of ms module_name initialised s (member.Clocks ws) before =
    passes (record { tree = checked.Clocks (names_of ws s); notes = [] }) before
member_of ms module_name initialised s (member.Channels c) before =
    passes (record { tree = checked.Channels (channels_of c s).tree; notes = (channels_of c s).notes }) before
member_of ms module_name initialised s (member.Events ws) before =
    passes (record { tree = checked.Events (names_of ws s); notes = [] }) before
member_of ms module_name initialised s (member.Children c) before =
    let c' = children_of initialised c s in
    passes (record { tree = checked.Children c'.tree; notes = c'.notes }) before
member_of ms module_name initialised s (member.Function f) before =
    passes (record { tree = checked.Function (function_of f s).tree; notes = (function_of f s).notes }) before
member_of ms module_name initialised s (member.Constructor c) before =
    let c' = constructor_of ms module_name s c before in
    record { tree = checked.Constructor c'.tree; behind = c'.behind; notes = c'.notes }

-- the members one after the other
abbrev pub members_of : Modules → (module_name : List ℕ) → (initialised : Scope) → Scope → List Member → Sofar →
    Turn Sofar (List CheckedMember)
members_of ms module_name initialised s members before =
    in_turn (λ m before. member_of ms module_name initialised s m before) members before

-- what has to be known of a member, if it is a function
abbrev pub functions_in : Member → Scope → List FunctionFacts
functions_in (member.Function f) s = facts_of f s ∷ []
functions_in _ s = []

-- what has to be known of the functions among the members
abbrev pub functions_of : List Member → Scope → List FunctionFacts
functions_of [] s = []
functions_of (m ∷ ms) s = functions_in m s ++ functions_of ms s
