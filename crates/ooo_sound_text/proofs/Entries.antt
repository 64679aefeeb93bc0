-- The names that written members declare, and the things that they are among those of the members as they are read.
use Rattle.std.proofs.Common.{◌≡◌, refl, ap, ℕ, suc, List, [], ◌∷◌, ◌++◌, map, length, Bool, true, false, None}
use Rattle.std.proofs.Math.Path.{ap₂}
use Rattle.ooo_value.specs.declared.kinds.Kind.{Kind}
use Rattle.ooo_value.specs.declared.kinds.Kind.TheVariants as kind
use Rattle.ooo_syntax.specs.declared.leaves.Word.{Word}
use Rattle.ooo_syntax.specs.declared.module.ChannelWord.{ChannelWord}
use Rattle.ooo_syntax.specs.declared.module.ChannelWord.TheVariants as channel_word
use Rattle.ooo_syntax.specs.declared.module.Field.{Field}
use Rattle.ooo_syntax.specs.declared.module.FieldForm.{FieldForm}
use Rattle.ooo_syntax.specs.declared.module.FieldForm.TheVariants as field
use Rattle.ooo_syntax.specs.declared.module.Member.{Member}
use Rattle.ooo_syntax.specs.declared.module.Member.TheVariants as written
use Rattle.ooo_syntax.specs.declared.module.Part.{Part}
use Rattle.ooo_syntax.specs.declared.module.PortWord.{PortWord}
use Rattle.ooo_syntax.specs.declared.module.PortWord.TheVariants as port_word
use Rattle.ooo_checked.specs.declared.denotation.Direction.TheVariants as direction
use Rattle.ooo_checked.specs.declared.denotation.Resolved.{Resolved}
use Rattle.ooo_checked.specs.declared.denotation.Thing.{Thing}
use Rattle.ooo_checked.specs.declared.denotation.Thing.TheVariants as thing
use Rattle.ooo_checked.specs.declared.module.CheckedField.{CheckedField}
use Rattle.ooo_checked.specs.declared.module.CheckedPart.{CheckedPart}
use Rattle.ooo_checked.specs.Exprs.{kind_written}
use Rattle.ooo_checked.specs.Notes.{Checked, trees}
use Rattle.ooo_checked.specs.Scopes.{Scope, entered, meaning_of, size_of}
use Rattle.ooo_checked.specs.Stats.{Stepped, in_order}
use Rattle.ooo_members.specs.declared.known.Sofar.{Sofar}
use Rattle.ooo_members.specs.Bodies.{param_of}
use Rattle.ooo_members.specs.Declarations.{channel_thing, field_thing, instance_thing, port_thing}
use Rattle.ooo_members.specs.Known.{Modules}
use Rattle.ooo_members.specs.Members.{child_of, field_form_of, field_of, member_of, names_of, params_of_module, part_of}
use Rattle.ooo_walk.specs.Instances.{port_form}
use Rattle.ooo_sound_walk.specs.Names.{things_in, channel_thing as channel_walked, field_thing as field_walked}

-- ---- entries

-- a name, and the thing that stands for it among those of the members
pub record Entry : Type 0 where
  pub name : List ℕ
  pub thing : Thing

abbrev pub entry : Word → Thing → Entry
entry w t = record { name = w.name; thing = t }

-- entries of parts, each of which has a word and is a thing
abbrev pub entries_by : {X : Type 0} → (X → Word) → (X → Thing) → List X → List Entry
entries_by word t xs = map (λ x. entry (word x) (t x)) xs

-- the names that a member declares, where its scope says what its words mean
abbrev pub entries_in : Scope → Member → List Entry
entries_in s written.Public = []
entries_in s (written.Constant c) = entry c.name (thing.Fixed (kind_written c.form.form) c.is_static) ∷ []
entries_in s (written.HasProcess w) = []
entries_in s (written.Fields f) =
    entries_by (λ (x : Field). x.name) (λ (x : Field). field_thing f.is_const (kind_written f.form.form) x.form) f.fields
entries_in s (written.Ports p) = entries_by (λ (w : Word). w) (λ (w : Word). port_thing p.port (kind_written p.form.form)) p.names
entries_in s (written.Clocks ws) = entries_by (λ (w : Word). w) (λ (w : Word). thing.SignalPort direction.In kind.Bool) ws
entries_in s (written.Channels c) =
    entries_by (λ (p : Part). p.name) (λ (p : Part). channel_thing c.channel (kind_written c.form.form)) c.parts
entries_in s (written.Events ws) = entries_by (λ (w : Word). w) (λ (w : Word). thing.Event) ws
entries_in s (written.Children c) =
    entries_by (λ (p : Part). p.name) (λ (p : Part). thing.Instance (meaning_of s c.module_name.name).number) c.parts
entries_in s (written.Function f) = entry f.name (thing.Function None (length f.params)) ∷ []
entries_in s (written.Constructor c) = []

abbrev pub entries_of : Scope → List Member → List Entry
entries_of s [] = []
entries_of s (m ∷ ms) = entries_in s m ++ entries_of s ms

abbrev pub things_by : List Entry → List Thing
things_by es = map (λ (e : Entry). e.thing) es

-- ---- the things of one member

field_same : (is_const : Bool) (k : Kind) (x : FieldForm) (s : Scope) →
    field_walked is_const k (field_form_of x s).tree ≡ field_thing is_const k x
field_same true k field.Plain s = refl
field_same true k (field.Length e) s = refl
field_same true k (field.Value e) s = refl
field_same false k field.Plain s = refl
field_same false k (field.Length e) s = refl
field_same false k (field.Value e) s = refl

fields_same : (is_const : Bool) (k : Kind) (xs : List Field) (s : Scope) →
    map (λ (f : CheckedField). field_walked is_const k f.form) (trees (map (λ x. field_of x s) xs))
    ≡ things_by (entries_by (λ (x : Field). x.name) (λ (x : Field). field_thing is_const k x.form) xs)
fields_same is_const k [] s = refl
fields_same is_const k (x ∷ xs) s = ap₂ (λ t ts. t ∷ ts) (field_same is_const k x.form s) (fields_same is_const k xs s)

port_same : (p : PortWord) (k : Kind) → port_form p k ≡ port_thing p k
port_same port_word.In k = refl
port_same port_word.Out k = refl
port_same port_word.Inout k = refl
port_same port_word.FifoIn k = refl
port_same port_word.FifoOut k = refl

channel_same : (c : ChannelWord) (k : Kind) → channel_walked c k ≡ channel_thing c k
channel_same channel_word.Signal k = refl
channel_same channel_word.Fifo k = refl

words_same : (t u : Thing) → t ≡ u → (ws : List Word) (s : Scope) →
    map (λ (r : Resolved). t) (names_of ws s) ≡ things_by (entries_by (λ (w : Word). w) (λ (w : Word). u) ws)
words_same t u same [] s = refl
words_same t u same (w ∷ ws) s = ap₂ (λ x xs. x ∷ xs) same (words_same t u same ws s)

parts_same : (f : Part → Checked CheckedPart) (t u : Thing) → t ≡ u → (ps : List Part) →
    map (λ (p : CheckedPart). t) (trees (map f ps)) ≡ things_by (entries_by (λ (p : Part). p.name) (λ (p : Part). u) ps)
parts_same f t u same [] = refl
parts_same f t u same (p ∷ ps) = ap₂ (λ x xs. x ∷ xs) same (parts_same f t u same ps)

ordered_length : {A T : Type 0} (f : A → Scope → Stepped T) (xs : List A) (s : Scope) → length (in_order f xs s).tree ≡ length xs
ordered_length f [] s = refl
ordered_length f (x ∷ xs) s = ap suc (ordered_length f xs (f x s).scope)

pub things_same : (modules : Modules) (name : List ℕ) (initialised s : Scope) (m : Member) (before : Sofar) →
    things_in (member_of modules name initialised s m before).tree ≡ things_by (entries_in s m)
things_same modules name initialised s written.Public before = refl
things_same modules name initialised s (written.Constant c) before = refl
things_same modules name initialised s (written.HasProcess w) before = refl
things_same modules name initialised s (written.Fields f) before = fields_same f.is_const (kind_written f.form.form) f.fields s
things_same modules name initialised s (written.Ports p) before =
    let k = kind_written p.form.form in words_same (port_form p.port k) (port_thing p.port k) (port_same p.port k) p.names s
things_same modules name initialised s (written.Clocks ws) before =
    let t = thing.SignalPort direction.In kind.Bool in words_same t t refl ws s
things_same modules name initialised s (written.Channels c) before =
    let k = kind_written c.form.form in
    parts_same (λ p. part_of (channel_thing c.channel k) None p s) (channel_walked c.channel k) (channel_thing c.channel k)
    (channel_same c.channel k) c.parts
things_same modules name initialised s (written.Events ws) before = words_same thing.Event thing.Event refl ws s
things_same modules name initialised s (written.Children c) before =
    let d = meaning_of s c.module_name.name in
    let t = thing.Instance d.number in
    parts_same (λ p. child_of initialised (instance_thing d s) (params_of_module d.thing) p s) t t refl c.parts
things_same modules name initialised s (written.Function f) before =
    ap (λ n. thing.Function None n ∷ []) (ordered_length (λ p z. param_of (size_of s) p z) f.params (entered s))
things_same modules name initialised s (written.Constructor c) before = refl
