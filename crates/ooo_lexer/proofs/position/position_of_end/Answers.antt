use Rattle.std.proofs.Common.{◌≡◌, ℕ, ◌-◌, ◌<◌, Bool, false, eqb, length, take, arith, sym, ◌∙◌}
use Rattle.std.proofs.lemmas.Bool.{eqb-false}
use Rattle.std.proofs.lemmas.List.{length-take}
use Rattle.ooo_lexer.proofs.Positions.{last_cursor, end_is, column_bound}
use Rattle.ooo_lexer.proofs.position.position_of_end.Goals as goal

-- what `is_empty` says of the length
some_left : (n : ℕ) (t : Bool) → t ≡ eqb n 0 → t ≡ false → 0 < n
some_left n t is f = grind (arith, eqb-false n 0 (sym is ∙ f))

pub overflow_add-result : goal.overflow_add-result
overflow_add-result c =
    let source = c.args.source.now in
    let column = (last_cursor source c.after-last.result c.after-last.ensures).column in
    omega (arith, c.requires, column, column_bound (take (length source - 1) source), length-take (length source - 1) source)

pub returns : goal.returns
returns c = end_is c.args.source.now c.after-last.result (some_left _ _ c.is_empty.ensures c.if-is_empty.false) c.after-last.ensures
