-- The port that stands there shows what all ports show of its channel.
use Rattle.std.proofs.Common.{◌≢◌, [], subst}
use Rattle.std.specs.Prelude.{All}
use Rattle.ooo_interp.specs.Ports.{ShowAlike, ShowsIts, channel_of}
use Rattle.ooo_interp.proofs.Ported.{its_shown, none_shown}
use Rattle.ooo_interp.proofs.Searched.{StandsAt}
use Rattle.ooo_interp.proofs.ports.Ports.of.Goals as goal

pub returns-in-Some : goal.returns-in-Some
returns-in-Some c = λ values.
    let stands : StandsAt channel_of c.self.inside.items.items c.args.channel c.in-Some.at = rw c.deref.ensures.value at c.in-Some.ensures in
    subst (λ ps. ShowsIts values c.args.channel ps c.index.result.now) c.self.view_is (its_shown values c.args.channel c.in-Some.at c.index.result.now c.self.inside.items.items c.self.invariant stands c.index.ensures)

pub returns-in-None : goal.returns-in-None
returns-in-None c = λ values.
    let none : All (λ p. channel_of p ≢ c.args.channel) c.self.inside.items.items = rw c.deref.ensures.value at c.in-None.ensures in
    subst (λ ps. ShowAlike values c.args.channel ps []) c.self.view_is (none_shown values c.args.channel c.self.inside.items.items none)
