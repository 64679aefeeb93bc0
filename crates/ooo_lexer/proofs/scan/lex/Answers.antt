use Rattle.std.proofs.Common.{◌≡◌, ℕ, ◌<◌, Bool, true, false, eqb, arith, sym, ◌∙◌, subst}
use Rattle.std.proofs.lemmas.Bool.{eqb-true, eqb-false}
use Rattle.std.proofs.lemmas.List.{nil_from_length}
use Rattle.ooo_lexer.proofs.Cuttings.{one_breach, no_cutting}
use Rattle.ooo_lexer.proofs.Lexemes.{tokens_are, tokens_within, tokens_in_order, tokens_are_lexemes}
use Rattle.ooo_lexer.proofs.Progress.{Reached, cursor_fits, head_fits, flaw_of, reached_next, reached_end, reached_breach}
use Rattle.ooo_lexer.proofs.scan.lex.Goals as goal

-- what `is_empty` says of the length
some_left : (n : ℕ) (t : Bool) → t ≡ eqb n 0 → t ≡ false → 0 < n
some_left n t is f = grind (arith, eqb-false n 0 (sym is ∙ f))

none_left : (n : ℕ) (t : Bool) → t ≡ eqb n 0 → t ≡ true → n ≡ 0
none_left n t is f = eqb-true n 0 (sym is ∙ f)

pub flaw_position-position-requires-clause-within : goal.flaw_position-position-requires-clause-within
flaw_position-position-requires-clause-within c = (flaw_of c.pieces.rest.now c.in-Err.flaw (some_left _ _ c.is_empty.ensures c.pieces-test.true) (sym c.head_of.ensures ∙ c.in-Err.is)).within

pub returns-in-Err-clause-breach : goal.returns-in-Err-clause-breach
returns-in-Err-clause-breach c = reached_breach c.args.source.now c.pieces.rest.now c.pieces.tokens.items c.pieces.cursor c.in-Err.flaw c.flaw_position-position.result c.pieces.invariant (some_left _ _ c.is_empty.ensures c.pieces-test.true)
    (sym c.head_of.ensures ∙ c.in-Err.is) c.flaw_position-position.ensures

pub returns-in-Err-clause-one : goal.returns-in-Err-clause-one
returns-in-Err-clause-one c = one_breach c.args.source.now _ _ (returns-in-Err-clause-breach c)

pub returns-in-Err-clause-uncut : goal.returns-in-Err-clause-uncut
returns-in-Err-clause-uncut c = λ pieces cut. no_cutting c.args.source.now _ _ pieces (returns-in-Err-clause-breach c) cut

pub keep-requires : goal.keep-requires
keep-requires c =
    let fits = cursor_fits _ _ _ _ c.pieces.invariant in
    let head = head_fits c.pieces.rest.now c.in-Ok.head (some_left _ _ c.is_empty.ensures c.pieces-test.true) (sym c.head_of.ensures ∙ c.in-Ok.is) in
    omega (arith, fits.start, head.1)

pub split_at-requires : goal.split_at-requires
split_at-requires c = (head_fits c.pieces.rest.now c.in-Ok.head (some_left _ _ c.is_empty.ensures c.pieces-test.true) (sym c.head_of.ensures ∙ c.in-Ok.is)).1

pub pieces-smaller : goal.pieces-smaller
pieces-smaller c =
    let head = head_fits c.pieces.rest.now c.in-Ok.head (some_left _ _ c.is_empty.ensures c.pieces-test.true) (sym c.head_of.ensures ∙ c.in-Ok.is) in
    omega (arith, head.0, head.1)

pub pieces-preserved : goal.pieces-preserved
pieces-preserved c = reached_next c.args.source.now c.pieces.rest.now _ _ c.pieces.tokens.items _ c.pieces.cursor _ c.in-Ok.head c.pieces.invariant (some_left _ _ c.is_empty.ensures c.pieces-test.true)
    (sym c.head_of.ensures ∙ c.in-Ok.is) c.split_at.ensures.front c.split_at.ensures.back c.in_ok-keep.ensures c.after-cursor.ensures

pub returns-clause-tokens : goal.returns-clause-tokens
returns-clause-tokens c = reached_end c.args.source.now c.pieces.tokens.items c.pieces.cursor
    (subst (λ r. Reached c.args.source.now r c.pieces.tokens.items c.pieces.cursor) (nil_from_length c.pieces.rest.now (none_left _ _ c.is_empty.ensures c.pieces-test.false)) c.pieces.invariant)

pub returns-clause-only : goal.returns-clause-only
returns-clause-only c = λ pieces cut. tokens_are c.args.source.now c.pieces.tokens.items pieces (returns-clause-tokens c) cut

pub returns-clause-within : goal.returns-clause-within
returns-clause-within c = tokens_within c.args.source.now c.pieces.tokens.items (returns-clause-tokens c)

pub returns-clause-in_order : goal.returns-clause-in_order
returns-clause-in_order c = tokens_in_order c.args.source.now c.pieces.tokens.items (returns-clause-tokens c)

pub returns-clause-lexemes : goal.returns-clause-lexemes
returns-clause-lexemes c = λ pieces cut. tokens_are_lexemes c.args.source.now c.pieces.tokens.items pieces (returns-clause-tokens c) cut

pub returns-clause-unbroken : goal.returns-clause-unbroken
returns-clause-unbroken c = λ b at has. let t = returns-clause-tokens c in no_cutting c.args.source.now b at t.pieces has t.cut
