use Rattle.std.proofs.Common.{ap, sym, ◌∙◌}
use Rattle.ooo_parser.specs.Symbols.{value_in}
use Rattle.ooo_parser.proofs.Values.{number_held, number_valued, no_number_valued}
use Rattle.ooo_parser.proofs.single.value_in.Goals as goal

pub value_of-requires : goal.value_of-requires
value_of-requires c = number_held c.args.bytes.now c.in-Some.number c.in-Some.ensures

pub returns-in-Some : goal.returns-in-Some
returns-in-Some c = c.value_of.ensures ∙ number_valued c.number_found.ensures c.args.bytes.now c.in-Some.number c.in-Some.ensures ∙ sym (ap (λ k. value_in k c.args.bytes.now) c.in-Number.is)

pub returns-in-None : goal.returns-in-None
returns-in-None c = no_number_valued c.number_found.ensures c.args.bytes.now c.in-None.ensures ∙ sym (ap (λ k. value_in k c.args.bytes.now) c.in-Number.is)
