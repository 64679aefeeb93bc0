-- What the names of an instance mean, by how its module declares them.
use Rattle.std.specs.Prelude.{◌≡◌, ℕ, ◌<◌, List, [], ◌∷◌, ◌++◌, map, length, Bool, true, false, Some, None, IsSome, Contains, slice_get, ⊤}
use Rattle.std.specs.List.{AllZip}
use Rattle.ooo_value.specs.declared.bound.BoundEvent.TheVariants as event
use Rattle.ooo_value.specs.declared.bound.ChannelKind.{ChannelKind}
use Rattle.ooo_value.specs.declared.bound.ChannelKind.TheVariants as channel
use Rattle.ooo_value.specs.declared.kinds.Kind.{Kind}
use Rattle.ooo_value.specs.declared.kinds.Kind.TheVariants as kind
use Rattle.ooo_syntax.specs.declared.module.ChannelWord.{ChannelWord}
use Rattle.ooo_syntax.specs.declared.module.ChannelWord.TheVariants as channel_word
use Rattle.ooo_checked.specs.declared.denotation.Direction.TheVariants as direction
use Rattle.ooo_checked.specs.declared.denotation.Thing.{Thing}
use Rattle.ooo_checked.specs.declared.denotation.Thing.TheVariants as thing
use Rattle.ooo_checked.specs.declared.module.CheckedChildren.{CheckedChildren}
use Rattle.ooo_checked.specs.declared.module.CheckedField.{CheckedField}
use Rattle.ooo_checked.specs.declared.module.CheckedFieldForm.{CheckedFieldForm}
use Rattle.ooo_checked.specs.declared.module.CheckedFieldForm.TheVariants as form
use Rattle.ooo_checked.specs.declared.module.CheckedMember.{CheckedMember}
use Rattle.ooo_checked.specs.declared.module.CheckedMember.TheVariants as member
use Rattle.ooo_checked.specs.declared.denotation.Resolved.{Resolved}
use Rattle.ooo_checked.specs.declared.module.CheckedArg.{CheckedArg}
use Rattle.ooo_checked.specs.declared.unit.CheckedMainItem.TheVariants as main_item
use Rattle.ooo_checked.specs.declared.unit.CheckedUnit.{CheckedUnit}
use Rattle.ooo_checked.specs.Exprs.{kind_written}
use Rattle.ooo_constants.specs.declared.meaning.Meaning.{Meaning}
use Rattle.ooo_constants.specs.declared.meaning.Meaning.TheVariants as meaning
use Rattle.ooo_walk.specs.declared.state.Walk.{Walk}
use Rattle.ooo_walk.specs.declared.state.WalkedChannel.{WalkedChannel}
use Rattle.ooo_walk.specs.declared.state.WalkedInstance.{WalkedInstance}
use Rattle.ooo_walk.specs.declared.state.WalkedPort.{WalkedPort}
use Rattle.ooo_walk.specs.Instances.{port_form}
use Rattle.ooo_walk.specs.Plans.{Filed, view_at}
use Rattle.ooo_walk.specs.Texts.{file_of, walk_of}

-- ---- things

-- what a field is
abbrev pub field_thing : (is_const : Bool) → Kind → CheckedFieldForm → Thing
field_thing true k (form.Length e) = thing.FixedArray k
field_thing false k (form.Length e) = thing.Array k
field_thing true k _ = thing.Fixed k false
field_thing false k _ = thing.Variable k

-- what a channel is
abbrev pub channel_thing : ChannelWord → Kind → Thing
channel_thing channel_word.Signal k = thing.Signal k
channel_thing channel_word.Fifo k = thing.Fifo k

-- what the names are that a member declares, in the order of the text; what a function gives is left out
abbrev pub things_in : CheckedMember → List Thing
things_in member.Public = []
things_in (member.Constant c) = thing.Fixed (kind_written c.form.form) c.is_static ∷ []
things_in (member.HasProcess w) = []
things_in (member.Fields x) = map (λ (f : CheckedField). field_thing x.is_const (kind_written x.form.form) f.form) x.fields
things_in (member.Ports p) = map (λ (r : Resolved). port_form p.port (kind_written p.form.form)) p.names
things_in (member.Clocks names) = map (λ (r : Resolved). thing.SignalPort direction.In kind.Bool) names
things_in (member.Channels c) = map (λ p. channel_thing c.channel (kind_written c.form.form)) c.parts
things_in (member.Events names) = map (λ (r : Resolved). thing.Event) names
things_in (member.Children c) = map (λ p. thing.Instance c.module_name.denotes.number) c.parts
things_in (member.Function f) = thing.Function None (length f.params) ∷ []
things_in (member.Constructor c) = []

abbrev pub things_of : List CheckedMember → List Thing
things_of [] = []
things_of (m ∷ ms) = things_in m ++ things_of ms

-- ---- what they mean

pub record IsVariable (w : Walk) (m : Meaning) : Type 0 where
  pub number : ℕ
  pub means : m ≡ meaning.Variable number
  pub there : IsSome (slice_get w.variables number)

-- a channel of a kind, whose values are of a kind
pub record IsChannel (w : Walk) (j : ChannelKind) (k : Kind) (m : Meaning) : Type 0 where
  pub number : ℕ
  pub means : m ≡ meaning.Channel number
  pub channel : WalkedChannel
  pub there : slice_get w.channels number ≡ Some channel
  pub kind : channel.bound.kind ≡ j
  pub value : channel.bound.value ≡ k

-- a port of a sort
pub record IsPort (w : Walk) (t : Thing) (m : Meaning) : Type 0 where
  pub number : ℕ
  pub means : m ≡ meaning.Port number
  pub port : WalkedPort
  pub there : slice_get w.ports number ≡ Some port
  pub form : port.form ≡ t

pub record IsOwnEvent (w : Walk) (m : Meaning) : Type 0 where
  pub number : ℕ
  pub means : m ≡ meaning.Event number
  pub there : slice_get w.events number ≡ Some event.Own

-- an instance of the module of a number
pub record IsInstance (w : Walk) (n : ℕ) (m : Meaning) : Type 0 where
  pub number : ℕ
  pub means : m ≡ meaning.Instance number
  pub instance : WalkedInstance
  pub there : slice_get w.instances number ≡ Some instance
  pub module_number : instance.module_number ≡ n

-- a name that is a thing means what that thing needs
abbrev pub IsOf : Walk → Thing → Meaning → Type 0
IsOf w (thing.Variable k) m = IsVariable w m
IsOf w (thing.Array k) m = IsVariable w m
IsOf w (thing.FixedArray k) m = IsVariable w m
IsOf w (thing.Signal k) m = IsChannel w channel.Signal k m
IsOf w (thing.Fifo k) m = IsChannel w channel.Fifo k m
IsOf w (thing.SignalPort d k) m = IsPort w (thing.SignalPort d k) m
IsOf w (thing.FifoIn k) m = IsPort w (thing.FifoIn k) m
IsOf w (thing.FifoOut k) m = IsPort w (thing.FifoOut k) m
IsOf w thing.Event m = IsOwnEvent w m
IsOf w (thing.Instance n) m = IsInstance w n m
IsOf w _ m = ⊤

-- each name of an instance
abbrev pub IsFilled : Filed → Walk → WalkedInstance → Type 0
IsFilled f w i = AllZip (IsOf w) (things_of (view_at f i.module_number).members) i.members

-- ---- texts

-- each module that is named stands before, as names without breaches do
pub record StandBefore (u : CheckedUnit) : Type 0 where
  pub children : (n : ℕ) (c : CheckedChildren) → Contains (view_at (file_of u) n).members (member.Children c) →
      c.module_name.denotes.number < n
  pub main : (m r : Resolved) (args : List CheckedArg) → Contains u.main.items (main_item.Instance m r args) →
      m.denotes.number < length (file_of u).plans

-- in a walk that nothing refuses, each name of each instance means what its declaration says
abbrev pub NamesAreMeant : Type 0
NamesAreMeant = (u : CheckedUnit) → StandBefore u → (walk_of u).refusal ≡ None →
    (k : ℕ) (i : WalkedInstance) → slice_get (walk_of u).instances k ≡ Some i → IsFilled (file_of u) (walk_of u) i
