-- The channel behind a port, one port further.
use Rattle.std.proofs.Common.{◌≡◌, ◌∙◌, refl, ap, arith, ℕ, zero, suc, ◌+◌, ◌-◌, ◌<◌, List}
use Rattle.std.specs.Prelude.{Option, Some, None, slice_get}
use Rattle.ooo_constants.specs.declared.meaning.Meaning.{Meaning}
use Rattle.ooo_elaborate.specs.Bindings.{channel_behind, channel_meant, port_meant}

one_further : (left : ℕ) (ends : List Meaning) (end : Option Meaning) (p : ℕ) → port_meant end ≡ Some p →
    channel_behind (suc left) ends end ≡ channel_behind left ends (slice_get ends p)
one_further left ends end p is = rw (channel_behind, is) refl

-- through a port
pub behind_port : (left turn : ℕ) (ends : List Meaning) (end : Option Meaning) (p : ℕ) → turn < left → port_meant end ≡ Some p →
    channel_behind (left - turn) ends end ≡ channel_behind (left - (turn + 1)) ends (slice_get ends p)
behind_port left turn ends end p h is =
    let e : left - turn ≡ suc (left - (turn + 1)) = omega arith in
    ap (λ n. channel_behind n ends end) e ∙ one_further (left - (turn + 1)) ends end p is

-- where there is no port
pub behind_channel : (left : ℕ) (ends : List Meaning) (end : Option Meaning) → port_meant end ≡ None →
    channel_behind left ends end ≡ channel_meant end
behind_channel zero ends end is = refl
behind_channel (suc left) ends end is = rw (channel_behind, is) refl
