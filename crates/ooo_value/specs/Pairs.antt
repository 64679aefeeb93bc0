-- Two operands in one kind, as the code holds them.
use Rattle.std.specs.Prelude.{ℤ, pos}
use Rattle.ooo_value.specs.declared.kinds.Kind.{Kind}
use Rattle.ooo_value.specs.declared.kinds.Kind.TheVariants as kind
use Rattle.ooo_value.specs.declared.pairs.Pair.{Pair}
use Rattle.ooo_value.specs.declared.pairs.Pair.TheVariants as pair

-- the kind of both
abbrev pub pair_kind : Pair → Kind
pair_kind (pair.Int a b) = kind.Int
pair_kind (pair.Uint a b) = kind.Uint
pair_kind (pair.Long a b) = kind.Long
pair_kind (pair.Ulong a b) = kind.Ulong

-- the integer of the left one
abbrev pub left_of : Pair → ℤ
left_of (pair.Int a b) = a
left_of (pair.Uint a b) = pos a
left_of (pair.Long a b) = a
left_of (pair.Ulong a b) = pos a

-- the integer of the right one
abbrev pub right_of : Pair → ℤ
right_of (pair.Int a b) = b
right_of (pair.Uint a b) = pos b
right_of (pair.Long a b) = b
right_of (pair.Ulong a b) = pos b
