-- What the names of constants mean in an instance.
use Rattle.std.specs.Prelude.{ℕ, ◌-◌, List, Option, Some, None, slice_get, pos}
use Rattle.ooo_value.specs.declared.kinds.Kind.{Kind}
use Rattle.ooo_value.specs.declared.kinds.Kind.TheVariants as kind
use Rattle.ooo_value.specs.declared.values.Value.{Value}
use Rattle.ooo_value.specs.Values.{value_of}
use Rattle.ooo_checked.specs.declared.denotation.Thing.TheVariants as thing
use Rattle.ooo_checked.specs.declared.denotation.Denotation.{Denotation}
use Rattle.ooo_constants.specs.declared.known.Known.{Known}
use Rattle.ooo_constants.specs.declared.meaning.Meaning.{Meaning}
use Rattle.ooo_constants.specs.declared.meaning.Meaning.TheVariants as meaning

-- what the names of the file, of the static members, of the members and of the constructor's parameters mean
pub record Constants : Type 0 where
  pub file : List Meaning
  pub statics : List Meaning
  pub members : List Meaning
  pub parameters : List Value

-- the same, as it is lent
abbrev pub constants_of : Known → Constants
constants_of k = record { file = k.file.now; statics = k.statics.now; members = k.members.now; parameters = k.parameters.now }

-- 0 of a kind
abbrev pub zero_of : Kind → Value
zero_of k = value_of k (pos 0)

-- the constant that a name means; what is not known yet counts as 0
abbrev pub constant_in : Option Meaning → Kind → Value
constant_in (Some (meaning.Constant v)) k = v
constant_in _ k = zero_of k

-- the constant of a number among names
abbrev pub constant_at : List Meaning → Kind → ℕ → Value
constant_at ms k n = constant_in (slice_get ms n) k

-- a member's constant: that of a static member is known first
abbrev pub member_in : Option Meaning → Value → Value
member_in (Some (meaning.Constant v)) other = v
member_in _ other = other

abbrev pub member_at : Constants → Kind → ℕ → Value
member_at c k n = member_in (slice_get c.statics n) (constant_at c.members k n)

-- a value, if there is one, else 0 of a kind
abbrev pub value_in : Option Value → Kind → Value
value_in (Some v) k = v
value_in None k = zero_of k

-- the value that a name has before the simulation: a constant of the file or of `sc_main`, a member that keeps its value,
-- a parameter of the constructor, whose numbers follow that of the module's name; all others have none, and count as 0
abbrev pub name_value : Constants → Denotation → Value
name_value c d = elim d.thing [
  | thing.FileConstant k ↦ constant_at c.file k d.number
  | thing.MainConstant k ↦ constant_at c.members k d.number
  | thing.Fixed k is_static ↦ member_at c k d.number
  | thing.Parameter k ↦ value_in (slice_get c.parameters (d.number - 1)) k
  | _ ↦ zero_of kind.Int
]
