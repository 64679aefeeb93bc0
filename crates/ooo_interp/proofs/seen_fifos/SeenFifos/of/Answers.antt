-- What stands there has the values of its fifo.
use Rattle.std.proofs.Common.{◌≢◌, sym}
use Rattle.std.specs.Prelude.{All}
use Rattle.ooo_interp.specs.Jobs.{number_seen}
use Rattle.ooo_interp.proofs.Searched.{StandsAt}
use Rattle.ooo_interp.proofs.Sighted.{at_place, few_at, its_values, no_values, none_values}
use Rattle.ooo_interp.proofs.seen_fifos.SeenFifos.of.Goals as goal

pub returns-in-Fifo-clause-values : goal.returns-in-Fifo-clause-values
returns-in-Fifo-clause-values c =
    let stands : StandsAt number_seen c.args.self.now.seen.items c.args.channel c.in-Some.at = rw c.deref.ensures.value at c.in-Some.ensures in
    sym (its_values c.args.self.now.seen.items c.args.channel c.in-Some.at _ _ _ c.args.self.now.ascending stands (at_place c.args.self.now.seen.items c.args.channel c.in-Some.at c.index.result.now _ stands c.index.ensures c.in-Fifo.is))

pub returns-in-Fifo-clause-few : goal.returns-in-Fifo-clause-few
returns-in-Fifo-clause-few c =
    let stands : StandsAt number_seen c.args.self.now.seen.items c.args.channel c.in-Some.at = rw c.deref.ensures.value at c.in-Some.ensures in
    few_at c.args.self.now.seen.items c.args.channel c.in-Some.at _ c.index.result.now _ _ c.args.self.now.few stands c.index.ensures c.in-Fifo.is

pub returns-in-Signal-clause-values : goal.returns-in-Signal-clause-values
returns-in-Signal-clause-values c =
    let stands : StandsAt number_seen c.args.self.now.seen.items c.args.channel c.in-Some.at = rw c.deref.ensures.value at c.in-Some.ensures in
    no_values c.args.self.now.seen.items c.args.channel c.in-Some.at _ _ _ c.args.self.now.ascending stands (at_place c.args.self.now.seen.items c.args.channel c.in-Some.at c.index.result.now _ stands c.index.ensures c.in-Signal.is)

pub returns-in-None-clause-values : goal.returns-in-None-clause-values
returns-in-None-clause-values c =
    let none : All (λ s. number_seen s ≢ c.args.channel) c.args.self.now.seen.items = rw c.deref.ensures.value at c.in-None.ensures in
    none_values c.args.self.now.seen.items c.args.channel none
