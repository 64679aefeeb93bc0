-- The kinds of values, and the kind in which two operands meet (ISO C++ [basic.fundamental], [conv.prom], [expr.arith.conv]).
use Rattle.std.specs.Prelude.{ℕ, nat_lt, Bool, true, false, if◌then◌else◌}
use Rattle.ooo_value.specs.declared.kinds.Kind.{Kind}
use Rattle.ooo_value.specs.declared.kinds.Kind.TheVariants as kind

-- how many bits the kind has; a bool has one
abbrev pub width_of : Kind → ℕ
width_of kind.Bool = 1
width_of kind.Int = 32
width_of kind.Uint = 32
width_of kind.Long = 64
width_of kind.Ulong = 64

-- the kind has negative values
abbrev pub is_signed : Kind → Bool
is_signed kind.Bool = false
is_signed kind.Int = true
is_signed kind.Uint = false
is_signed kind.Long = true
is_signed kind.Ulong = false

-- the kind that an operand has for an operator: a bool becomes an int, and no other kind changes ([conv.prom])
abbrev pub promoted_kind : Kind → Kind
promoted_kind kind.Bool = kind.Int
promoted_kind kind.Int = kind.Int
promoted_kind kind.Uint = kind.Uint
promoted_kind kind.Long = kind.Long
promoted_kind kind.Ulong = kind.Ulong

-- the wider of two kinds, and of two equally wide ones the unsigned one, if there is one
abbrev pub wider_kind : Kind → Kind → Kind
wider_kind a b =
    if nat_lt (width_of a) (width_of b) then b else if nat_lt (width_of b) (width_of a) then a else if is_signed a then b else a

-- the kind in which two operands meet: the wider one once both are promoted ([expr.arith.conv])
abbrev pub common_kind : Kind → Kind → Kind
common_kind a b = wider_kind (promoted_kind a) (promoted_kind b)
