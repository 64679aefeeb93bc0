-- The members of a module declare their names in its scope, and are read in it.
use Rattle.std.proofs.Common.{◌≡◌, ◌∙◌, refl, sym, ap, subst, ℕ, List, [], ◌∷◌, ◌++◌, append_assoc, length, Bool, true, false, None}
use Rattle.std.proofs.Math.Path.{ap₂}
use Rattle.std.proofs.lemmas.List.{append-nil, map-append}
use Rattle.std.specs.List.{AllZip}
use Rattle.ooo_lemmas.proofs.Each.{first_part, then_part}
use Rattle.ooo_value.specs.declared.kinds.Kind.{Kind}
use Rattle.ooo_value.specs.declared.kinds.Kind.TheVariants as kind
use Rattle.ooo_syntax.specs.declared.leaves.Word.{Word}
use Rattle.ooo_syntax.specs.declared.module.ChannelWord.{ChannelWord}
use Rattle.ooo_syntax.specs.declared.module.ChannelWord.TheVariants as channel_word
use Rattle.ooo_syntax.specs.declared.module.Field.{Field}
use Rattle.ooo_syntax.specs.declared.module.FieldForm.{FieldForm}
use Rattle.ooo_syntax.specs.declared.module.FieldForm.TheVariants as field
use Rattle.ooo_syntax.specs.declared.module.Member.{Member}
use Rattle.ooo_syntax.specs.declared.module.Member.TheVariants as written
use Rattle.ooo_syntax.specs.declared.module.Module.{Module}
use Rattle.ooo_syntax.specs.declared.module.Part.{Part}
use Rattle.ooo_syntax.specs.declared.module.PortWord.{PortWord}
use Rattle.ooo_syntax.specs.declared.module.PortWord.TheVariants as port_word
use Rattle.ooo_checked.specs.declared.denotation.Direction.TheVariants as direction
use Rattle.ooo_checked.specs.declared.denotation.Thing.TheVariants as thing
use Rattle.ooo_checked.specs.declared.module.CheckedMember.{CheckedMember}
use Rattle.ooo_checked.specs.Exprs.{kind_written}
use Rattle.ooo_checked.specs.Notes.{Note}
use Rattle.ooo_checked.specs.Scopes.{Scope, entered, meaning_of, size_of}
use Rattle.ooo_members.specs.declared.known.Sofar.{Sofar}
use Rattle.ooo_members.specs.Declarations.{channel_thing, field_thing, instance_thing, member_names, members_names, port_thing, result_of}
use Rattle.ooo_members.specs.Known.{Modules}
use Rattle.ooo_members.specs.Members.{functions_of, member_of, members_of}
use Rattle.ooo_types.specs.Modules.{at_first, initialised_by}
use Rattle.ooo_types.specs.Processes.{all_edges, functions_notes}
use Rattle.ooo_sound_text.specs.Modules.{IsRead, names_of, scope_of}
use Rattle.ooo_sound_text.specs.Right.{AreRight, IsRight}
use Rattle.ooo_sound_walk.specs.Names.{things_in, things_of}
use Rattle.ooo_sound_text.proofs.Entries.{Entry, entries_in, entries_of, things_by, things_same}
use Rattle.ooo_sound_text.proofs.Blocks.{IsAs, IsOn, name_step, names_step, none_yet}

-- ---- names

field_as : (is_const : Bool) (k : Kind) (x : FieldForm) → IsAs (field_thing is_const k x) (field_thing is_const k x)
field_as true k field.Plain = refl
field_as true k (field.Length e) = refl
field_as true k (field.Value e) = refl
field_as false k field.Plain = refl
field_as false k (field.Length e) = refl
field_as false k (field.Value e) = refl

port_as : (p : PortWord) (k : Kind) → IsAs (port_thing p k) (port_thing p k)
port_as port_word.In k = refl
port_as port_word.Out k = refl
port_as port_word.Inout k = refl
port_as port_word.FifoIn k = refl
port_as port_word.FifoOut k = refl

channel_as : (c : ChannelWord) (k : Kind) → IsAs (channel_thing c k) (channel_thing c k)
channel_as channel_word.Signal k = refl
channel_as channel_word.Fifo k = refl

module _ (file whole : Scope) where
  -- the names of a member, whatever its words mean
  member_step : (m : Member) (s : Scope) (es : List Entry) → IsOn file s es → AreRight (member_names (size_of file) m s).notes →
      IsOn file (member_names (size_of file) m s).scope (es ++ entries_in whole m)
  member_step written.Public s es on right = subst (IsOn file s) (sym (append-nil es)) on
  member_step (written.Constant c) s es on right =
      let t = thing.Fixed (kind_written c.form.form) c.is_static in name_step file t t c.name refl s es on right
  member_step (written.HasProcess w) s es on right = subst (IsOn file s) (sym (append-nil es)) on
  member_step (written.Fields f) s es on right =
      let k = kind_written f.form.form in
      let t = λ (x : Field). field_thing f.is_const k x.form in
      names_step file (λ (x : Field). x.name) t t (λ x. field_as f.is_const k x.form) f.fields s es on right
  member_step (written.Ports p) s es on right =
      let k = kind_written p.form.form in
      names_step file (λ (w : Word). w) (λ (w : Word). port_thing p.port k) (λ (w : Word). port_thing p.port k)
      (λ w. port_as p.port k) p.names s es on right
  member_step (written.Clocks ws) s es on right =
      let t = thing.SignalPort direction.In kind.Bool in
      names_step file (λ (w : Word). w) (λ (w : Word). t) (λ (w : Word). t) (λ w. refl) ws s es on right
  member_step (written.Channels c) s es on right =
      let k = kind_written c.form.form in
      names_step file (λ (p : Part). p.name) (λ (p : Part). channel_thing c.channel k) (λ (p : Part). channel_thing c.channel k)
      (λ p. channel_as c.channel k) c.parts s es on right
  member_step (written.Events ws) s es on right =
      names_step file (λ (w : Word). w) (λ (w : Word). thing.Event) (λ (w : Word). thing.Event) (λ w. refl) ws s es on right
  member_step (written.Children c) s es on right =
      names_step file (λ (p : Part). p.name) (λ (p : Part). instance_thing (meaning_of s c.module_name.name) s)
      (λ (p : Part). thing.Instance (meaning_of whole c.module_name.name).number) (λ p. tt) c.parts s es on right
  member_step (written.Function f) s es on right =
      let n = length f.params in
      name_step file (thing.Function (result_of f.result) n) (thing.Function None n) f.name refl s es on right
  member_step (written.Constructor c) s es on right = subst (IsOn file s) (sym (append-nil es)) on

  members_step : (ms : List Member) (s : Scope) (es : List Entry) → IsOn file s es →
      AreRight (members_names (size_of file) ms s).notes →
      IsOn file (members_names (size_of file) ms s).scope (es ++ entries_of whole ms)
  members_step [] s es on right = subst (IsOn file s) (sym (append-nil es)) on
  members_step (m ∷ ms) s es on right =
      let first = member_names (size_of file) m s in
      let others = members_names (size_of file) ms first.scope in
      subst (IsOn file others.scope) (append_assoc es (entries_in whole m) (entries_of whole ms))
      (members_step ms first.scope (es ++ entries_in whole m)
      (member_step m s es on (first_part IsRight first.notes others.notes right))
      (then_part IsRight first.notes others.notes right))

-- ---- members

-- a written member is read as this one, and nothing is wrong with it
pub record IsReadAs (s : Scope) (m : Member) (c : CheckedMember) : Type 0 where
  pub modules : Modules
  pub name : List ℕ
  pub initialised : Scope
  pub before : Sofar
  pub is : c ≡ (member_of modules name initialised s m before).tree
  pub right : AreRight (member_of modules name initialised s m before).notes

all_read : (modules : Modules) (name : List ℕ) (initialised s : Scope) (ms : List Member) (before : Sofar) →
    AreRight (members_of modules name initialised s ms before).notes →
    AllZip (IsReadAs s) ms (members_of modules name initialised s ms before).tree
all_read modules name initialised s [] before right = tt
all_read modules name initialised s (m ∷ ms) before right =
    let first = member_of modules name initialised s m before in
    let others = members_of modules name initialised s ms first.behind in (
      record {
        modules = modules;
        name = name;
        initialised = initialised;
        before = before;
        is = refl;
        right = first_part IsRight first.notes others.notes right;
      },
      all_read modules name initialised s ms first.behind (then_part IsRight first.notes others.notes right),
    )

pub things_read : (s : Scope) (m : Member) (c : CheckedMember) → IsReadAs s m c → things_in c ≡ things_by (entries_in s m)
things_read s m c r = ap things_in r.is ∙ things_same r.modules r.name r.initialised s m r.before

pub all_things : (s : Scope) (ms : List Member) (cs : List CheckedMember) → AllZip (IsReadAs s) ms cs →
    things_of cs ≡ things_by (entries_of s ms)
all_things s [] [] h = refl
all_things s [] (c ∷ cs) h = absurd h
all_things s (m ∷ ms) [] h = absurd h
all_things s (m ∷ ms) (c ∷ cs) h =
    ap₂ (λ ts us. ts ++ us) (things_read s m c h.0) (all_things s ms cs h.1)
    ∙ sym (map-append (λ (e : Entry). e.thing) (entries_in s m) (entries_of s ms))

-- ---- modules

module _ (file : Scope) (m : Module) (cs : List CheckedMember) (read : IsRead file m cs) where
  abbrev notes_of_names : List Note
  notes_of_names = (members_names (size_of file) m.members (entered file)).notes

  abbrev initialised_here : Scope
  initialised_here = initialised_by m.members (entered [])

  abbrev before_all : Sofar
  before_all = at_first (names_of m file)

  abbrev notes_of_members : List Note
  notes_of_members = (members_of read.modules m.name.name initialised_here (scope_of m file) m.members before_all).notes

  abbrev notes_of_functions : List Note
  notes_of_functions =
      let functions = functions_of m.members (scope_of m file) in
      functions_notes (all_edges functions)
      (members_of read.modules m.name.name initialised_here (scope_of m file) m.members before_all).behind.registered functions

  -- each name of a module that is read without breaches stands among its members' names
  pub names_read : IsOn file (scope_of m file) (entries_of (scope_of m file) m.members)
  names_read =
      members_step file (scope_of m file) m.members (entered file) [] (none_yet file)
      (first_part IsRight notes_of_names notes_of_members
      (first_part IsRight (notes_of_names ++ notes_of_members) notes_of_functions read.right))

  -- and its members are read
  pub members_read : AllZip (IsReadAs (scope_of m file)) m.members cs
  members_read =
      subst (AllZip (IsReadAs (scope_of m file)) m.members) read.is
      (all_read read.modules m.name.name initialised_here (scope_of m file) m.members before_all
      (then_part IsRight notes_of_names notes_of_members
      (first_part IsRight (notes_of_names ++ notes_of_members) notes_of_functions read.right)))
