-- The parameters and locals of a function. Each is named by its kind and its slot; two that share both are never alive at
-- once (ISO C++ [basic.scope.block]).
use Rattle.std.specs.Prelude.{ℕ, ◌==◌, pos, ◌&&◌, if◌then◌else◌}
use Rattle.ooo_value.specs.declared.kinds.Kind.{Kind}
use Rattle.ooo_value.specs.declared.values.Value.{Value}
use Rattle.ooo_value.specs.Values.{value_of}
use Rattle.ooo_code.specs.Sound.{same_kind}

-- the value of each local
abbrev pub Locals : Type 0
Locals = Kind → ℕ → Value

-- each local at 0
abbrev pub no_locals : Locals
no_locals k n = value_of k (pos 0)

-- a local gets a value
abbrev pub with_local : Kind → ℕ → Value → Locals → Locals
with_local k n v locals j m = if same_kind k j && (n == m) then v else locals j m
