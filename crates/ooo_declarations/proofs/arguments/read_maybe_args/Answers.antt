use Rattle.std.proofs.Common.{refl, sym, ◌∙◌}
use Rattle.ooo_grammar.specs.Steps.{stops_first, got_second}
use Rattle.ooo_declarations.proofs.arguments.read_maybe_args.Goals as goal

pub returns-then-not-starts : goal.returns-then-not-starts
returns-then-not-starts c = rw (sym c.starts.ensures ∙ c.if-not-starts.true) refl

pub returns-in-Err : goal.returns-in-Err
returns-in-Err c = rw (sym c.starts.ensures ∙ c.if-not-starts.false) (stops_first _ _ _ c.in-Err.ensures)

pub returns : goal.returns
returns c = rw (sym c.starts.ensures ∙ c.if-not-starts.false) (got_second _ c.in-Ok.ensures refl)
