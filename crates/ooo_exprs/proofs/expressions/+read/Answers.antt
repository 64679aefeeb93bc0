use Rattle.std.proofs.Common.{[], ◌∷◌, ◌∙◌, arith, rules, suc, ◌+◌, ◌-◌, ◌≡◌, List, length, Option, Some, None, Ok, Err, refl, sym, ap, subst}
use Rattle.ooo_syntax.specs.declared.terminal.Terminal.TheVariants as terminal
use Rattle.ooo_syntax.specs.declared.expr.Expr.{Expr}
use Rattle.ooo_syntax.specs.declared.expr.Expr.TheVariants as expr
use Rattle.ooo_grammar.specs.Forms.{Got, after, nothing_r, repeats_in}
use Rattle.ooo_grammar.specs.Sets.{in_set}
use Rattle.ooo_grammar.specs.Names.{begins_expr, begins_plain}
use Rattle.ooo_grammar.specs.Combinators.{quoted}
use Rattle.ooo_grammar.specs.Expressions.{after_word, arguments, bracketed, cast_to, chosen, conversion, conversion_first, converted, index, inner, inner_plain, member_call, named, operand, parenthesis, plain_unary, prefixed_by, some_expressions, unary}
use Rattle.ooo_grammar.specs.Gives.{Gives, Stops, answer, reads_at}
use Rattle.ooo_grammar.specs.Steps.{stops_first, stops_second, got_second, deeper_gives, deeper_is, loop_turn, loop_stops, loop_ends}
use Rattle.ooo_exprs.specs.Levels.{first_r, item_step, kinds_at, turn_at}
use Rattle.ooo_exprs.specs.Steps.{gives_second, gives_made, loop_begins}
use Rattle.ooo_exprs.proofs.Turns.{chosen_gives, chosen_got, chosen_not, some_listed, none_listed, refused_stops, inner_gives, inner_plain_gives, operand_gives, inside_gives, inside_is, level_gives_last, level_stops, level_init, level_leaves, level_deep, level_right, level_goes_on}
use Rattle.ooo_exprs.proofs.Typed.{plain_opens, type_stops, cast_opens, conversion_opens}
use Rattle.ooo_exprs.proofs.expressions.+read.Goals as goal

pub read_level-returns-then-number-ge10 : goal.read_level-returns-then-number-ge10
read_level-returns-then-number-ge10 t c = level_gives_last c.args.limits c.args.first c.args.number c.args.tokens.now _ (omega arith) (omega arith) c.read_first.ensures

pub read_level-returns-in-Err : goal.read_level-returns-in-Err
read_level-returns-in-Err t c = level_stops c.args.limits c.args.first c.args.number c.args.tokens.now c.in-Err.error (omega arith) c.in-Err.ensures

pub read_level-turns-init : goal.read_level-turns-init
read_level-turns-init t c = level_init c.args.limits c.args.first c.args.number c.args.tokens.now c.in-Ok.found.1.now c.in-Ok.found.0 _ (omega arith) (omega arith) c.in-Ok.ensures

pub read_level-returns-in_default-op_of_level : goal.read_level-returns-in_default-op_of_level
read_level-returns-in_default-op_of_level t c =
    level_leaves c.args.limits c.args.first c.args.number _ _ c.turns.left c.in-Some.token c.turns.rest.now c.in-Some.after.now c.turns.invariant (search rules) (search rules)

pub read_level-returns-then-not-fit : goal.read_level-returns-then-not-fit
read_level-returns-then-not-fit t c =
    let n = length c.in-Ok.found.1.now in
    let e : n - c.turns._turn ≡ suc (n - (c.turns._turn + 1)) = omega (arith, c.turns-test.true) in
    let s = level_deep c.args.limits c.op_limits-signs.result c.args.first c.args.number _ (n - c.turns._turn) (n - (c.turns._turn + 1)) c.turns.left c.in-Some.token c.turns.rest.now c.in-Some.after.now c.in-Some-op_of_level.op c.turns.invariant e in
    ap answer (s (search rules) (search rules) c.op_limits-signs.ensures.levels c.op_limits-signs.ensures.bound c.if-not-fit.ensures)

pub read_level-returns-in-Err-read_level : goal.read_level-returns-in-Err-read_level
read_level-returns-in-Err-read_level t c =
    let n = length c.in-Ok.found.1.now in
    let e : n - c.turns._turn ≡ suc (n - (c.turns._turn + 1)) = omega (arith, c.turns-test.true) in
    level_right c.args.limits c.op_limits-signs.result c.args.first c.args.number _ (n - c.turns._turn) (n - (c.turns._turn + 1)) c.turns.left c.in-Some.token c.turns.rest.now c.in-Some.after.now c.in-Some-op_of_level.op c.in-Err-read_level.error c.turns.invariant e
    (search rules) (search rules) c.op_limits-signs.ensures.levels c.op_limits-signs.ensures.bound (search rules) (search rules)

pub read_level-turns-preserved : goal.read_level-turns-preserved
read_level-turns-preserved t c =
    let n = length c.in-Ok.found.1.now in
    let e : n - c.turns._turn ≡ suc (n - (c.turns._turn + 1)) = omega (arith, c.turns-test.true) in
    level_goes_on c.args.limits c.op_limits-signs.result c.args.first c.args.number _ (n - c.turns._turn) (n - (c.turns._turn + 1)) c.turns.left c.in-Ok-read_level.found.0 c.in-Some.token c.turns.rest.now c.in-Some.after.now c.in-Ok-read_level.found.1.now c.in-Some-op_of_level.op c.turns.invariant e
    (search rules) (search rules) c.op_limits-signs.ensures.levels c.op_limits-signs.ensures.bound (search rules) (search rules)
    ∙ ap (λ (a : Expr). repeats_in (in_set (kinds_at c.args.number)) (turn_at c.args.limits c.args.first c.args.number) (n - (c.turns._turn + 1)) a c.in-Ok-read_level.found.1.now) (sym c.in_ok-left.ensures)

pub read_index-returns-in-Err : goal.read_index-returns-in-Err
unfolding index
read_index-returns-in-Err t c = stops_first _ _ _ (stops_first _ _ _ c.in-Err.ensures)

pub read_index-returns-in-Err-read_boxed_inner : goal.read_index-returns-in-Err-read_boxed_inner
unfolding index
read_index-returns-in-Err-read_boxed_inner t c = stops_first _ _ _ (stops_second _ _ c.in-Ok.ensures (stops_first _ _ _ c.in-Err-read_boxed_inner.ensures))

pub read_index-returns : goal.read_index-returns
unfolding index
read_index-returns t c =
    gives_made (reads_at c.args.limits (quoted terminal.CloseBracket) c.in-Ok-read_boxed_inner.found.1.now) c.in-Ok-read_boxed_inner.found.0 _ (λ (e : Expr). expr.Index c.args.word e) _ (got_second _ c.in-Ok.ensures (got_second _ c.in-Ok-read_boxed_inner.ensures refl)) refl c.followed.ensures

pub read_converted-returns-in-Err : goal.read_converted-returns-in-Err
unfolding converted
read_converted-returns-in-Err t c = stops_first _ _ _ (stops_first _ _ _ c.in-Err.ensures)

pub read_converted-returns-in-Err-read_boxed_inner : goal.read_converted-returns-in-Err-read_boxed_inner
unfolding converted
read_converted-returns-in-Err-read_boxed_inner t c =
    stops_first _ _ _ (stops_second _ _ c.in-Ok.ensures (stops_first _ _ _ (deeper_gives c.args.limits c.inside.result inner _ (Err c.in-Err-read_boxed_inner.error) c.inside.ensures.levels c.inside.ensures.bound c.in-Err-read_boxed_inner.ensures)))

pub read_converted-returns : goal.read_converted-returns
unfolding converted
read_converted-returns t c =
    gives_made (reads_at c.args.limits (quoted terminal.Close) c.in-Ok-read_boxed_inner.found.1.now) c.in-Ok-read_boxed_inner.found.0 _ (λ (e : Expr). expr.Conversion c.args.form e) _
    (got_second _ c.in-Ok.ensures (got_second _ (deeper_is c.args.limits c.inside.result inner _ c.inside.ensures.levels c.inside.ensures.bound ∙ c.in-Ok-read_boxed_inner.ensures) refl)) refl c.followed.ensures

pub read_plain_unary-returns-then-begins_with_prefix : goal.read_plain_unary-returns-then-begins_with_prefix
unfolding plain_unary
read_plain_unary-returns-then-begins_with_prefix t c = rw (sym c.begins_with_prefix.ensures ∙ c.if-begins_with_prefix.true) (c.read_prefixed.ensures)

pub read_plain_unary-returns-then-starts : goal.read_plain_unary-returns-then-starts
unfolding plain_unary
read_plain_unary-returns-then-starts t c = rw (sym c.begins_with_prefix.ensures ∙ c.if-begins_with_prefix.false, sym c.starts.ensures ∙ c.if-starts.true) (c.read_bracketed.ensures)

pub read_plain_unary-returns-then-starts-2 : goal.read_plain_unary-returns-then-starts-2
unfolding plain_unary
read_plain_unary-returns-then-starts-2 t c = rw (sym c.begins_with_prefix.ensures ∙ c.if-begins_with_prefix.false, sym c.starts.ensures ∙ c.if-starts.false, sym c.starts-2.ensures ∙ c.if-starts-2.true) (c.read_numeral.ensures)

pub read_plain_unary-returns-then-begins_with_truth : goal.read_plain_unary-returns-then-begins_with_truth
unfolding plain_unary
read_plain_unary-returns-then-begins_with_truth t c = rw (sym c.begins_with_prefix.ensures ∙ c.if-begins_with_prefix.false, sym c.starts.ensures ∙ c.if-starts.false, sym c.starts-2.ensures ∙ c.if-starts-2.false, sym c.begins_with_truth.ensures ∙ c.if-begins_with_truth.true) (c.read_truth.ensures)

pub read_plain_unary-returns : goal.read_plain_unary-returns
unfolding plain_unary
read_plain_unary-returns t c = rw (sym c.begins_with_prefix.ensures ∙ c.if-begins_with_prefix.false, sym c.starts.ensures ∙ c.if-starts.false, sym c.starts-2.ensures ∙ c.if-starts-2.false, sym c.begins_with_truth.ensures ∙ c.if-begins_with_truth.false) (c.read_named.ensures)

pub read_inner-returns-in-Err : goal.read_inner-returns-in-Err
unfolding inner
read_inner-returns-in-Err t c = refused_stops inner c.args.limits (in_set begins_expr) c.begins_with_expression.result c.args.tokens.now c.in-Err.error (λ room. refl) c.begins_with_expression.ensures c.in-Err.ensures.refused

pub read_inner-returns : goal.read_inner-returns
read_inner-returns t c = inner_gives c.args.limits c.in-Ok.found c.args.tokens.now _ c.in-Ok.ensures.left c.in-Ok.ensures.levels c.in-Ok.ensures.bound c.read_expression.ensures

pub read_boxed_inner-returns-in-Err : goal.read_boxed_inner-returns-in-Err
read_boxed_inner-returns-in-Err t c = c.in-Err.ensures

pub read_boxed_inner-returns : goal.read_boxed_inner-returns
read_boxed_inner-returns t c = subst (λ o. Gives o c.boxed_read.result) (sym c.in-Ok.ensures) c.boxed_read.ensures

pub read_arguments-returns-in-Err : goal.read_arguments-returns-in-Err
unfolding arguments
read_arguments-returns-in-Err t c = stops_first _ _ _ c.in-Err.ensures

pub read_arguments-returns-then-not-begins_with_expression : goal.read_arguments-returns-then-not-begins_with_expression
unfolding arguments
read_arguments-returns-then-not-begins_with_expression t c =
    gives_second _ _ c.in-Ok.ensures (gives_second _ _ (none_listed c.args.limits c.in-Ok.found.1.now (sym c.begins_with_expression.ensures ∙ c.if-not-begins_with_expression.true))
    (subst (λ (es : List Expr). Gives (after (reads_at c.args.limits (quoted terminal.Close) c.in-Ok.found.1.now) (λ _. nothing_r es)) c.followed.result) c.new.ensures c.followed.ensures))

pub read_arguments-returns-in-Err-read_some : goal.read_arguments-returns-in-Err-read_some
unfolding arguments
read_arguments-returns-in-Err-read_some t c =
    stops_second _ _ c.in-Ok.ensures (stops_first _ _ _ (subst (λ o. Stops o c.in-Err-read_some.error) (sym (some_listed c.args.limits c.in-Ok.found.1.now (sym c.begins_with_expression.ensures ∙ c.if-not-begins_with_expression.false))) c.in-Err-read_some.ensures))

pub read_arguments-returns : goal.read_arguments-returns
unfolding arguments
read_arguments-returns t c =
    gives_second _ _ c.in-Ok.ensures (gives_second _ _ (some_listed c.args.limits c.in-Ok.found.1.now (sym c.begins_with_expression.ensures ∙ c.if-not-begins_with_expression.false) ∙ c.in-Ok-read_some.ensures) c.followed-2.ensures)

pub read_some-returns-in-Err : goal.read_some-returns-in-Err
unfolding some_expressions
read_some-returns-in-Err t c = stops_first _ _ _ c.in-Err.ensures

pub read_some-turns-init : goal.read_some-turns-init
unfolding some_expressions
read_some-turns-init t c =
    loop_begins (in_set (terminal.Comma ∷ [])) (item_step c.args.limits) (λ b. b ∷ []) (reads_at c.args.limits inner c.args.tokens.now) _ c.in-Ok.found.0 _ c.in-Ok.found.1.now c.in-Ok.ensures c.in_ok-list.ensures (omega arith)

pub read_some-turns-preserved : goal.read_some-turns-preserved
read_some-turns-preserved t c =
    let n = length c.in-Ok.found.1.now in
    let e : n - c.turns._turn ≡ suc (n - (c.turns._turn + 1)) = omega (arith, c.turns-test.true) in
    loop_turn (in_set (terminal.Comma ∷ [])) (item_step c.args.limits) _ (n - c.turns._turn) (n - (c.turns._turn + 1)) c.turns.list _ c.turns.rest.now c.in-Ok-read_inner.found.1.now c.turns.invariant e (sym c.starts.ensures ∙ c.if-not-starts.false)
    (got_second _ c.in-Ok-one_inside.ensures (got_second _ c.in-Ok-read_inner.ensures (ap (λ (es : List Expr). Got es c.in-Ok-read_inner.found.1.now) (sym c.in_ok-list-2.ensures))))

pub read_some-returns-then-not-starts : goal.read_some-returns-then-not-starts
read_some-returns-then-not-starts t c =
    let n = length c.in-Ok.found.1.now in
    loop_ends (in_set (terminal.Comma ∷ [])) (item_step c.args.limits) _ (n - c.turns._turn) c.turns.list c.turns.rest.now c.turns.invariant (sym c.starts.ensures ∙ c.if-not-starts.true)

pub read_some-returns-in-Err-one_inside : goal.read_some-returns-in-Err-one_inside
read_some-returns-in-Err-one_inside t c =
    let n = length c.in-Ok.found.1.now in
    let e : n - c.turns._turn ≡ suc (n - (c.turns._turn + 1)) = omega (arith, c.turns-test.true) in
    loop_stops (in_set (terminal.Comma ∷ [])) (item_step c.args.limits) _ (n - c.turns._turn) (n - (c.turns._turn + 1)) c.turns.list c.turns.rest.now c.in-Err-one_inside.error c.turns.invariant e (sym c.starts.ensures ∙ c.if-not-starts.false) (stops_first _ _ _ c.in-Err-one_inside.ensures)

pub read_some-returns-in-Err-read_inner : goal.read_some-returns-in-Err-read_inner
read_some-returns-in-Err-read_inner t c =
    let n = length c.in-Ok.found.1.now in
    let e : n - c.turns._turn ≡ suc (n - (c.turns._turn + 1)) = omega (arith, c.turns-test.true) in
    loop_stops (in_set (terminal.Comma ∷ [])) (item_step c.args.limits) _ (n - c.turns._turn) (n - (c.turns._turn + 1)) c.turns.list c.turns.rest.now c.in-Err-read_inner.error c.turns.invariant e (sym c.starts.ensures ∙ c.if-not-starts.false) (stops_second _ _ c.in-Ok-one_inside.ensures (stops_first _ _ _ c.in-Err-read_inner.ensures))

pub read_some-returns : goal.read_some-returns
read_some-returns t c =
    let n = length c.in-Ok.found.1.now in
    let e : n - c.turns._turn ≡ 0 = omega (arith, c.turns-test.false) in
    c.turns.invariant ∙ ap (λ n. repeats_in (in_set (terminal.Comma ∷ [])) (item_step c.args.limits) n c.turns.list c.turns.rest.now) e

pub read_member-returns-in-Err : goal.read_member-returns-in-Err
unfolding member_call
read_member-returns-in-Err t c = stops_first _ _ _ c.in-Err.ensures

pub read_member-returns-in-Err-read_member_word : goal.read_member-returns-in-Err-read_member_word
unfolding member_call
read_member-returns-in-Err-read_member_word t c = stops_second _ _ c.in-Ok.ensures (stops_first _ _ _ c.in-Err-read_member_word.ensures)

pub read_member-returns-in-Err-one : goal.read_member-returns-in-Err-one
unfolding member_call
read_member-returns-in-Err-one t c = stops_second _ _ c.in-Ok.ensures (stops_second _ _ c.in-Ok-read_member_word.ensures (stops_first _ _ _ (stops_first _ _ _ c.in-Err-one.ensures)))

pub read_member-returns-then-not-begins_with_expression : goal.read_member-returns-then-not-begins_with_expression
unfolding member_call
read_member-returns-then-not-begins_with_expression t c =
    gives_second _ _ c.in-Ok.ensures (gives_second _ _ c.in-Ok-read_member_word.ensures
    (gives_made (reads_at c.args.limits (quoted terminal.Close) c.in-Ok-one.found.1.now) None _ (λ (v : Option Expr). expr.Member c.args.word c.in-Ok-read_member_word.found.0 v) _
    (got_second _ c.in-Ok-one.ensures (rw (sym c.begins_with_expression.ensures ∙ c.if-not-begins_with_expression.true) refl)) refl c.followed.ensures))

pub read_member-returns-in-Err-read_boxed_inner : goal.read_member-returns-in-Err-read_boxed_inner
unfolding member_call
read_member-returns-in-Err-read_boxed_inner t c =
    stops_second _ _ c.in-Ok.ensures (stops_second _ _ c.in-Ok-read_member_word.ensures (stops_first _ _ _ (stops_second _ _ c.in-Ok-one.ensures (rw (sym c.begins_with_expression.ensures ∙ c.if-not-begins_with_expression.false) (stops_first _ _ _ (stops_first _ _ _ c.in-Err-read_boxed_inner.ensures))))))

pub read_member-returns : goal.read_member-returns
unfolding member_call
read_member-returns t c =
    gives_second _ _ c.in-Ok.ensures (gives_second _ _ c.in-Ok-read_member_word.ensures
    (gives_made (reads_at c.args.limits (quoted terminal.Close) c.in-Ok-read_boxed_inner.found.1.now) (Some c.in-Ok-read_boxed_inner.found.0) _ (λ (v : Option Expr). expr.Member c.args.word c.in-Ok-read_member_word.found.0 v) _
    (got_second _ c.in-Ok-one.ensures (rw (sym c.begins_with_expression.ensures ∙ c.if-not-begins_with_expression.false) (got_second _ (got_second _ c.in-Ok-read_boxed_inner.ensures refl) refl))) refl c.followed-2.ensures))

pub read_named-returns-in-Err : goal.read_named-returns-in-Err
unfolding named
read_named-returns-in-Err t c = stops_first _ _ _ c.in-Err.ensures

pub read_named-returns-then-starts : goal.read_named-returns-then-starts
unfolding named after_word
read_named-returns-then-starts t c = gives_second _ _ c.in-Ok.ensures (rw (sym c.starts.ensures ∙ c.if-starts.true) c.read_index.ensures)

pub read_named-returns-in-Err-read_arguments : goal.read_named-returns-in-Err-read_arguments
unfolding named after_word
read_named-returns-in-Err-read_arguments t c = stops_second _ _ c.in-Ok.ensures (rw (sym c.starts.ensures ∙ c.if-starts.false, sym c.starts-2.ensures ∙ c.if-starts-2.true) (stops_first _ _ _ c.in-Err-read_arguments.ensures))

pub read_named-returns-then-starts-2 : goal.read_named-returns-then-starts-2
unfolding named after_word
read_named-returns-then-starts-2 t c = got_second _ c.in-Ok.ensures (rw (sym c.starts.ensures ∙ c.if-starts.false, sym c.starts-2.ensures ∙ c.if-starts-2.true) (got_second _ c.in-Ok-read_arguments.ensures refl))

pub read_named-returns-then-starts-3 : goal.read_named-returns-then-starts-3
unfolding named after_word
read_named-returns-then-starts-3 t c = gives_second _ _ c.in-Ok.ensures (rw (sym c.starts.ensures ∙ c.if-starts.false, sym c.starts-2.ensures ∙ c.if-starts-2.false, sym c.starts-3.ensures ∙ c.if-starts-3.true) c.read_member.ensures)

pub read_named-returns : goal.read_named-returns
unfolding named after_word
read_named-returns t c = got_second _ c.in-Ok.ensures (rw (sym c.starts.ensures ∙ c.if-starts.false, sym c.starts-2.ensures ∙ c.if-starts-2.false, sym c.starts-3.ensures ∙ c.if-starts-3.false) refl)

pub read_prefixed-returns-in-Err : goal.read_prefixed-returns-in-Err
read_prefixed-returns-in-Err t c = subst (λ o. Stops o c.in-Err.error) (sym (c.prefix_sign-op.ensures c.args.limits)) (stops_first _ _ _ c.in-Err.ensures)

pub read_prefixed-returns-in-Err-read_first : goal.read_prefixed-returns-in-Err-read_first
unfolding prefixed_by first_r
read_prefixed-returns-in-Err-read_first t c = subst (λ o. Stops o c.in-Err-read_first.error) (sym (c.prefix_sign-op.ensures c.args.limits)) (stops_second _ _ c.in-Ok.ensures (stops_first _ _ _ c.in-Err-read_first.ensures))

pub read_prefixed-returns : goal.read_prefixed-returns
unfolding prefixed_by first_r
read_prefixed-returns t c = subst (λ o. Gives o c.prefix.result) (sym (c.prefix_sign-op.ensures c.args.limits)) (gives_second _ _ c.in-Ok.ensures (gives_second _ _ c.in-Ok-read_first.ensures c.prefix.ensures))

pub read_first-returns-in-Any : goal.read_first-returns-in-Any
unfolding first_r
read_first-returns-in-Any t c = rw c.in-Any.is c.read_unary.ensures

pub read_first-returns-in-Plain : goal.read_first-returns-in-Plain
unfolding first_r
read_first-returns-in-Plain t c = rw c.in-Plain.is c.read_plain_unary.ensures

pub read_first-returns-in-Converted : goal.read_first-returns-in-Converted
unfolding first_r
read_first-returns-in-Converted t c =
    rw c.in-Converted.is (deeper_gives c.args.limits c.inside.result (converted c.in-Converted.form) c.args.tokens.now _ c.inside.ensures.levels c.inside.ensures.bound c.read_converted.ensures)

pub read_first-returns-in-Err : goal.read_first-returns-in-Err
unfolding first_r operand
read_first-returns-in-Err t c =
    rw c.in-Operand.is (refused_stops operand c.args.limits (in_set begins_expr) c.begins_with_expression.result c.args.tokens.now c.in-Err.error (λ room. refl) c.begins_with_expression.ensures c.in-Err.ensures.refused)

pub read_first-returns-in-Ok : goal.read_first-returns-in-Ok
unfolding first_r
read_first-returns-in-Ok t c = rw c.in-Operand.is (operand_gives c.args.limits c.in-Ok.found c.args.tokens.now _ c.in-Ok.ensures.left c.in-Ok.ensures.levels c.in-Ok.ensures.bound c.read_unary-in-Operand.ensures)

pub read_expression-returns-in-Err : goal.read_expression-returns-in-Err
read_expression-returns-in-Err t c = stops_first _ _ _ c.in-Err.ensures

pub read_expression-returns-then-not-starts : goal.read_expression-returns-then-not-starts
unfolding chosen
read_expression-returns-then-not-starts t c = got_second _ c.in-Ok.ensures (chosen_not c.args.limits c.args.first c.in-Ok.found.0 c.in-Ok.found.1.now (sym c.starts.ensures ∙ c.if-not-starts.true))

pub read_expression-returns-in-Err-one : goal.read_expression-returns-in-Err-one
unfolding chosen
read_expression-returns-in-Err-one t c =
    chosen_gives c.args.limits c.op_limits-inner.result c.args.first c.in-Ok.found.0 c.args.tokens.now c.in-Ok.found.1.now (Err c.in-Err-one.error) c.op_limits-inner.ensures.levels c.op_limits-inner.ensures.bound c.in-Ok.ensures
    (rw (sym c.starts.ensures ∙ c.if-not-starts.false) (stops_first _ _ _ c.in-Err-one.ensures))

pub read_expression-returns-in-Err-read_boxed_inner : goal.read_expression-returns-in-Err-read_boxed_inner
unfolding chosen
read_expression-returns-in-Err-read_boxed_inner t c =
    chosen_gives c.args.limits c.op_limits-inner.result c.args.first c.in-Ok.found.0 c.args.tokens.now c.in-Ok.found.1.now (Err c.in-Err-read_boxed_inner.error) c.op_limits-inner.ensures.levels c.op_limits-inner.ensures.bound c.in-Ok.ensures
    (rw (sym c.starts.ensures ∙ c.if-not-starts.false) (stops_second _ _ c.in-Ok-one.ensures (stops_first _ _ _ c.in-Err-read_boxed_inner.ensures)))

pub read_expression-returns-in-Err-one_inside : goal.read_expression-returns-in-Err-one_inside
unfolding chosen
read_expression-returns-in-Err-one_inside t c =
    chosen_gives c.args.limits c.op_limits-inner.result c.args.first c.in-Ok.found.0 c.args.tokens.now c.in-Ok.found.1.now (Err c.in-Err-one_inside.error) c.op_limits-inner.ensures.levels c.op_limits-inner.ensures.bound c.in-Ok.ensures
    (rw (sym c.starts.ensures ∙ c.if-not-starts.false) (stops_second _ _ c.in-Ok-one.ensures (stops_second _ _ c.in-Ok-read_boxed_inner.ensures (stops_first _ _ _ c.in-Err-one_inside.ensures))))

pub read_expression-returns-in-Err-read_boxed_inner-2 : goal.read_expression-returns-in-Err-read_boxed_inner-2
unfolding chosen
read_expression-returns-in-Err-read_boxed_inner-2 t c =
    chosen_gives c.args.limits c.op_limits-inner.result c.args.first c.in-Ok.found.0 c.args.tokens.now c.in-Ok.found.1.now (Err c.in-Err-read_boxed_inner-2.error) c.op_limits-inner.ensures.levels c.op_limits-inner.ensures.bound c.in-Ok.ensures
    (rw (sym c.starts.ensures ∙ c.if-not-starts.false) (stops_second _ _ c.in-Ok-one.ensures (stops_second _ _ c.in-Ok-read_boxed_inner.ensures (stops_second _ _ c.in-Ok-one_inside.ensures (stops_first _ _ _ c.in-Err-read_boxed_inner-2.ensures)))))

pub read_expression-returns : goal.read_expression-returns
unfolding chosen
read_expression-returns t c =
    chosen_got c.args.limits c.op_limits-inner.result c.args.first c.in-Ok.found.0 c.args.tokens.now c.in-Ok.found.1.now _ c.op_limits-inner.ensures.levels c.op_limits-inner.ensures.bound c.in-Ok.ensures
    (rw (sym c.starts.ensures ∙ c.if-not-starts.false) (got_second _ c.in-Ok-one.ensures (got_second _ c.in-Ok-read_boxed_inner.ensures (got_second _ c.in-Ok-one_inside.ensures (got_second _ c.in-Ok-read_boxed_inner-2.ensures (ap (λ (a : Expr). Got (expr.Choose a c.in-Ok-read_boxed_inner.found.0 c.in-Ok-read_boxed_inner-2.found.0) c.in-Ok-read_boxed_inner-2.found.1.now) (sym c.in_ok-condition.ensures)))))))

pub read_cast_to-returns-in-Err : goal.read_cast_to-returns-in-Err
unfolding cast_to
read_cast_to-returns-in-Err t c = stops_first _ _ _ c.in-Err.ensures

pub read_cast_to-returns-in-Err-read_first : goal.read_cast_to-returns-in-Err-read_first
unfolding cast_to first_r
read_cast_to-returns-in-Err-read_first t c = stops_second _ _ c.in-Ok.ensures (stops_first _ _ _ c.in-Err-read_first.ensures)

pub read_cast_to-returns : goal.read_cast_to-returns
unfolding cast_to first_r
read_cast_to-returns t c = gives_second _ _ c.in-Ok.ensures (gives_second _ _ c.in-Ok-read_first.ensures c.cast.ensures)

pub read_parenthesis-returns-in-Err : goal.read_parenthesis-returns-in-Err
unfolding parenthesis inner_plain
read_parenthesis-returns-in-Err t c =
    stops_first _ _ _ (stops_first _ _ _ (refused_stops inner_plain c.args.limits (in_set begins_plain) c.begins_with_plain.result c.args.tokens.now c.in-Err.error (λ room. refl) c.begins_with_plain.ensures c.in-Err.ensures.refused))

pub read_parenthesis-returns-in-Err-read_expression : goal.read_parenthesis-returns-in-Err-read_expression
unfolding parenthesis
read_parenthesis-returns-in-Err-read_expression t c =
    stops_first _ _ _ (stops_first _ _ _ (inner_plain_gives c.args.limits c.in-Ok.found c.args.tokens.now (Err c.in-Err-read_expression.error) c.in-Ok.ensures.left c.in-Ok.ensures.levels c.in-Ok.ensures.bound c.in-Err-read_expression.ensures))

pub read_parenthesis-returns : goal.read_parenthesis-returns
unfolding parenthesis
read_parenthesis-returns t c =
    gives_made (reads_at c.args.limits (quoted terminal.Close) c.in-Ok-read_expression.found.1.now) c.in-Ok-read_expression.found.0 _ (λ (e : Expr). expr.Paren c.args.opening.position e) _
    (got_second _ (inner_plain_gives c.args.limits c.in-Ok.found c.args.tokens.now (Ok c.in-Ok-read_expression.found) c.in-Ok.ensures.left c.in-Ok.ensures.levels c.in-Ok.ensures.bound c.in-Ok-read_expression.ensures) refl) refl c.read_close.ensures

pub read_bracketed-returns-in-Err : goal.read_bracketed-returns-in-Err
unfolding bracketed
read_bracketed-returns-in-Err t c = stops_first _ _ _ c.in-Err.ensures

pub read_bracketed-returns-then-not-begins_with_type : goal.read_bracketed-returns-then-not-begins_with_type
unfolding bracketed
read_bracketed-returns-then-not-begins_with_type t c =
    gives_second _ _ c.in-Ok.ensures (plain_opens c.args.limits c.in-Ok.found.0 c.in-Ok.found.1.now c.begins_with_type.result _ c.begins_with_type.ensures c.if-not-begins_with_type.true c.read_parenthesis.ensures)

pub read_bracketed-returns-in-Err-read_type : goal.read_bracketed-returns-in-Err-read_type
unfolding bracketed
read_bracketed-returns-in-Err-read_type t c =
    stops_second _ _ c.in-Ok.ensures (type_stops c.args.limits c.inside.result c.in-Ok.found.0 c.in-Ok.found.1.now c.begins_with_type.result c.begins_with_type.ensures c.if-not-begins_with_type.false c.inside.ensures.levels c.inside.ensures.bound c.in-Err-read_type.error c.in-Err-read_type.ensures)

pub read_bracketed-returns-then-is_cast : goal.read_bracketed-returns-then-is_cast
unfolding bracketed
read_bracketed-returns-then-is_cast t c =
    gives_second _ _ c.in-Ok.ensures (cast_opens c.args.limits c.inside.result c.in-Ok.found.0 c.in-Ok.found.1.now c.begins_with_type.result c.begins_with_type.ensures c.if-not-begins_with_type.false c.inside.ensures.levels c.inside.ensures.bound c.in-Ok-read_type.found.0 c.in-Ok-read_type.found.1.now c.is_cast.result c.in-Ok-read_type.ensures c.is_cast.ensures _ c.if-is_cast.true c.read_cast_to.ensures)

pub read_bracketed-returns-in-Err-read_expression : goal.read_bracketed-returns-in-Err-read_expression
unfolding bracketed conversion_first
read_bracketed-returns-in-Err-read_expression t c =
    stops_second _ _ c.in-Ok.ensures (conversion_opens c.args.limits c.inside.result c.in-Ok.found.0 c.in-Ok.found.1.now c.begins_with_type.result c.begins_with_type.ensures c.if-not-begins_with_type.false c.inside.ensures.levels c.inside.ensures.bound c.in-Ok-read_type.found.0 c.in-Ok-read_type.found.1.now c.is_cast.result c.in-Ok-read_type.ensures c.is_cast.ensures (Err c.in-Err-read_expression.error) c.if-is_cast.false
    (stops_first _ _ _ (stops_first _ _ _ (inside_gives c.args.limits c.in-Ok-read_type.found.0 c.in-Ok-read_type.found.1.now (Err c.in-Err-read_expression.error) c.in-Err-read_expression.ensures))))

pub read_bracketed-returns : goal.read_bracketed-returns
unfolding bracketed conversion_first
read_bracketed-returns t c =
    gives_second _ _ c.in-Ok.ensures (conversion_opens c.args.limits c.inside.result c.in-Ok.found.0 c.in-Ok.found.1.now c.begins_with_type.result c.begins_with_type.ensures c.if-not-begins_with_type.false c.inside.ensures.levels c.inside.ensures.bound c.in-Ok-read_type.found.0 c.in-Ok-read_type.found.1.now c.is_cast.result c.in-Ok-read_type.ensures c.is_cast.ensures _ c.if-is_cast.false
    (gives_made (reads_at c.args.limits (quoted terminal.Close) c.in-Ok-read_expression.found.1.now) c.in-Ok-read_expression.found.0 _ (λ (e : Expr). expr.Paren c.in-Ok.found.0.position e) _
    (got_second _ (inside_is c.args.limits c.in-Ok-read_type.found.0 c.in-Ok-read_type.found.1.now ∙ c.in-Ok-read_expression.ensures) refl) refl c.read_close.ensures))

pub read_unary-returns-in-Err : goal.read_unary-returns-in-Err
unfolding unary conversion
read_unary-returns-in-Err t c = rw (sym c.begins_with_short_type.ensures ∙ c.if-begins_with_short_type.true) (stops_first _ _ _ c.in-Err.ensures)

pub read_unary-returns-then-begins_with_short_type : goal.read_unary-returns-then-begins_with_short_type
unfolding unary conversion
read_unary-returns-then-begins_with_short_type t c = rw (sym c.begins_with_short_type.ensures ∙ c.if-begins_with_short_type.true) (gives_second _ _ c.in-Ok.ensures c.read_converted.ensures)

pub read_unary-returns : goal.read_unary-returns
unfolding unary
read_unary-returns t c = rw (sym c.begins_with_short_type.ensures ∙ c.if-begins_with_short_type.false) c.read_plain_unary.ensures
