-- The names that a module and its members declare, and the things that they name.
use Rattle.std.specs.Prelude.{ℕ, ◌-◌, List, [], ◌∷◌, length, Bool, true, false, Option, Some, None, if◌then◌else◌}
use Rattle.ooo_value.specs.declared.kinds.Kind.{Kind}
use Rattle.ooo_value.specs.declared.kinds.Kind.TheVariants as kind
use Rattle.ooo_syntax.specs.declared.leaves.Word.{Word}
use Rattle.ooo_syntax.specs.declared.module.FieldForm.{FieldForm}
use Rattle.ooo_syntax.specs.declared.module.FieldForm.TheVariants as field
use Rattle.ooo_syntax.specs.declared.module.Fields.{Fields}
use Rattle.ooo_syntax.specs.declared.module.Part.{Part}
use Rattle.ooo_syntax.specs.declared.module.PortWord.{PortWord}
use Rattle.ooo_syntax.specs.declared.module.PortWord.TheVariants as port
use Rattle.ooo_syntax.specs.declared.module.ChannelWord.{ChannelWord}
use Rattle.ooo_syntax.specs.declared.module.ChannelWord.TheVariants as channel
use Rattle.ooo_syntax.specs.declared.module.ResultForm.{ResultForm}
use Rattle.ooo_syntax.specs.declared.module.ResultForm.TheVariants as result
use Rattle.ooo_syntax.specs.declared.module.Member.{Member}
use Rattle.ooo_syntax.specs.declared.module.Member.TheVariants as member
use Rattle.ooo_checked.specs.declared.breach.TypeBreach.TheVariants as what
use Rattle.ooo_checked.specs.declared.denotation.Direction.TheVariants as direction
use Rattle.ooo_checked.specs.declared.denotation.Denotation.{Denotation}
use Rattle.ooo_checked.specs.declared.denotation.Thing.{Thing}
use Rattle.ooo_checked.specs.declared.denotation.Thing.TheVariants as thing
use Rattle.ooo_checked.specs.declared.denotation.Resolved.{Resolved}
use Rattle.ooo_checked.specs.Exprs.{kind_written}
use Rattle.ooo_checked.specs.Notes.{breach_when}
use Rattle.ooo_checked.specs.Scopes.{Scope, declared, is_declared_here, meaning_of, size_of}
use Rattle.ooo_checked.specs.Stats.{Stepped, in_order}

-- ---- things

-- what a field is: of one value or of several, and kept or not
abbrev pub field_thing : (is_const : Bool) → Kind → FieldForm → Thing
field_thing true k (field.Length e) = thing.FixedArray k
field_thing false k (field.Length e) = thing.Array k
field_thing true k _ = thing.Fixed k false
field_thing false k _ = thing.Variable k

-- what a port is
abbrev pub port_thing : PortWord → Kind → Thing
port_thing port.In k = thing.SignalPort direction.In k
port_thing port.Out k = thing.SignalPort direction.Out k
port_thing port.Inout k = thing.SignalPort direction.Inout k
port_thing port.FifoIn k = thing.FifoIn k
port_thing port.FifoOut k = thing.FifoOut k

-- what a channel is
abbrev pub channel_thing : ChannelWord → Kind → Thing
channel_thing channel.Signal k = thing.Signal k
channel_thing channel.Fifo k = thing.Fifo k

-- what a function gives
abbrev pub result_of : ResultForm → Option Kind
result_of result.Nothing = None
result_of (result.Value t) = Some (kind_written t.form)

-- ---- names

-- a name as it is declared: its number is that of the names before it, without those outside its part of the text
abbrev pub denotation_of : (outside : ℕ) → Thing → Scope → Denotation
denotation_of outside t s = record { thing = t; number = size_of s - outside }

-- a scope with one name more, unless the innermost block declares it already: the first declaration of a name counts
abbrev pub with_name : Word → Denotation → Scope → Scope
with_name w d s = if is_declared_here s w.name then s else declared s w.name d

-- a name that is declared: it is known behind its declaration, and has to be the first of its name in its block
abbrev pub name_of : (outside : ℕ) → Thing → Word → Scope → Stepped Resolved
name_of outside t w s = record {
  tree = record { word = w; denotes = denotation_of outside t s };
  scope = with_name w (denotation_of outside t s) s;
  notes = breach_when (is_declared_here s w.name) what.DeclaredTwice w.position;
}

-- names of one thing, one after the other
abbrev pub words_of : (outside : ℕ) → Thing → List Word → Scope → Stepped (List Resolved)
words_of outside t ws s = in_order (λ w s. name_of outside t w s) ws s

-- the names of channels or children
abbrev pub parts_of : (outside : ℕ) → Thing → List Part → Scope → Stepped (List Resolved)
parts_of outside t ps s = in_order (λ p s. name_of outside t p.name s) ps s

-- the names of fields
abbrev pub fields_of : (outside : ℕ) → Fields → Scope → Stepped (List Resolved)
fields_of outside f s =
    in_order (λ x s. name_of outside (field_thing f.is_const (kind_written f.form.form) x.form) x.name s) f.fields s

-- no names
abbrev pub no_names : Scope → Stepped (List Resolved)
no_names s = record { tree = []; scope = s; notes = [] }

-- one name
abbrev pub one_name : Stepped Resolved → Stepped (List Resolved)
one_name name = record { tree = name.tree ∷ []; scope = name.scope; notes = name.notes }

-- ---- members

-- the thing is a module
abbrev pub is_module : Thing → Bool
is_module (thing.Module n) = true
is_module _ = false

-- an instance of what a name denotes; where that is no module, of a number that no module has
abbrev pub instance_thing : Denotation → Scope → Thing
instance_thing d s = thing.Instance (if is_module d.thing then d.number else size_of s)

-- the names that a member declares, in the order of the text. The module of a child is looked up where the child stands
abbrev pub member_names : (outside : ℕ) → Member → Scope → Stepped (List Resolved)
member_names outside member.Public s = no_names s
member_names outside (member.Constant c) s = one_name (name_of outside (thing.Fixed (kind_written c.form.form) c.is_static) c.name s)
member_names outside (member.HasProcess w) s = no_names s
member_names outside (member.Fields f) s = fields_of outside f s
member_names outside (member.Ports p) s = words_of outside (port_thing p.port (kind_written p.form.form)) p.names s
member_names outside (member.Clocks ws) s = words_of outside (thing.SignalPort direction.In kind.Bool) ws s
member_names outside (member.Channels c) s = parts_of outside (channel_thing c.channel (kind_written c.form.form)) c.parts s
member_names outside (member.Events ws) s = words_of outside thing.Event ws s
member_names outside (member.Children c) s =
    parts_of outside (instance_thing (meaning_of s c.module_name.name) s) c.parts s
member_names outside (member.Function f) s =
    one_name (name_of outside (thing.Function (result_of f.result) (length f.params)) f.name s)
member_names outside (member.Constructor c) s = no_names s

-- the names that members declare, one member after the other
abbrev pub members_names : (outside : ℕ) → List Member → Scope → Stepped (List (List Resolved))
members_names outside ms s = in_order (λ m s. member_names outside m s) ms s
