-- The last number is the greatest.
use Rattle.std.proofs.Common.{◌≡◌, ◌<◌, ◌-◌, nat_lt, length, Some, arith, sym, subst}
use Rattle.std.specs.Prelude.{All, IsTrue, slice_get}
use Rattle.std.proofs.lemmas.Bool.Decides.{nat_tests}
use Rattle.ooo_interp.specs.Ports.{channel_of}
use Rattle.ooo_interp.proofs.Searched.{below_all, below_last}
use Rattle.ooo_interp.proofs.ports.Ports.is_below.Goals as goal

pub returns-in-Some : goal.returns-in-Some
returns-in-Some c =
    let last : Some c.in-Some.last.now ≡ slice_get c.self.inside.items.items (length c.self.inside.items.items - 1) = rw c.deref.ensures.value at c.in-Some.ensures.value in
    subst (λ ps. (IsTrue (nat_lt c.channel.result c.args.channel) → All (λ p. channel_of p < c.args.channel) ps) × (All (λ p. channel_of p < c.args.channel) ps → IsTrue (nat_lt c.channel.result c.args.channel))) c.self.view_is (
      λ test.
          let lt : c.channel.result < c.args.channel = grind (arith, nat_tests) in
          below_all channel_of c.self.inside.items.items c.in-Some.last.now c.args.channel c.self.invariant last (subst (λ n. n < c.args.channel) c.channel.ensures lt),
      λ all.
          let lt : c.channel.result < c.args.channel = subst (λ n. n < c.args.channel) (sym c.channel.ensures) (below_last channel_of c.self.inside.items.items c.in-Some.last.now c.args.channel last all) in
          grind (arith, nat_tests),
    )
