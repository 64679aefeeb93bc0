use Rattle.std.proofs.Common.{◌≡◌, refl, sym, ◌∙◌}
use Rattle.ooo_grammar.specs.Codes.{deeper}
use Rattle.ooo_grammar.specs.Combinators.{optional, or_none, to}
use Rattle.ooo_grammar.specs.Forms.{Got}
use Rattle.ooo_grammar.specs.Gives.{reads_at}
use Rattle.ooo_grammar.specs.Members.{args}
use Rattle.ooo_grammar.specs.Steps.{stops_first, got_second}
use Rattle.ooo_simple.specs.Steps.{gives_second}
use Rattle.ooo_declarations.proofs.arguments.read_listed_args.Goals as goal

pub returns-in-Err : goal.returns-in-Err
returns-in-Err c = stops_first _ _ _ c.in-Err.ensures

pub returns : goal.returns
returns c =
    let h : reads_at c.args.limits (to or_none (optional (deeper args))) c.in-Ok.found.1.now ≡ Got c.in-Ok-read_args_inside.found.0 c.in-Ok-read_args_inside.found.1.now =
    rw (sym c.begins_with_arg.ensures ∙ c.if-not-begins_with_arg.false) (got_second _ (got_second _ c.in-Ok-read_args_inside.ensures refl) refl) in
    gives_second _ _ c.in-Ok.ensures (gives_second _ _ h c.followed-2.ensures)
