use Rattle.ooo_parser.specs.Reaches.{root_of}
use Rattle.ooo_parser.proofs.Stops.{stops_within, of_told}
use Rattle.ooo_parser.proofs.refusals.of_rest.Goals as goal

pub of_symbol-requires : goal.of_symbol-requires
of_symbol-requires c = stops_within (root_of c.args.start) c.args.read.now c.args.rest.now c.requires

pub returns-in-Some : goal.returns-in-Some
returns-in-Some c =
    of_told (root_of c.args.start) c.args.read.now c.args.rest.now c.in-Some.later.now c.in-Some.symbol c.args.end c.of_symbol.result c.in-Some.ensures c.requires c.of_symbol.ensures
