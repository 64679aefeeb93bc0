use Rattle.std.proofs.Common.{◌≡◌, ◌∙◌, ap, sym, refl, ℕ, List, Option, length}
use Rattle.std.proofs.lemmas.List.{length-map}
use Rattle.ooo_syntax.specs.declared.expr.Expr.{Expr}
use Rattle.ooo_lexer.specs.declared.position.Position.{Position}
use Rattle.ooo_checked.specs.declared.denotation.Denotation.{Denotation}
use Rattle.ooo_checked.specs.declared.denotation.Method.{Method}
use Rattle.ooo_checked.specs.declared.denotation.Thing.{Thing}
use Rattle.ooo_checked.specs.declared.expr.CheckedExpr.{CheckedExpr}
use Rattle.ooo_checked.specs.declared.expr.CheckedExpr.TheVariants as expr
use Rattle.ooo_checked.specs.Exprs.{argument_notes, call_notes, count_of, expr_of, exprs_of, index_notes, kind_written, member_notes, option_of, prefix_kind}
use Rattle.ooo_checked.specs.Kinds.{kind_of}
use Rattle.ooo_checked.specs.Notes.{Checked, Note, all_notes}
use Rattle.ooo_checked.specs.Scopes.{Scope, meaning_of}
use Rattle.ooo_checked.specs.Things.{method_of}
use Rattle.ooo_bodies.specs.Noting.{noted}
use Rattle.ooo_bodies.specs.Parts.{noted_two, trees_step, notes_step}
use Rattle.ooo_bodies.proofs.Formed.{expr_of-Binary, expr_of-Call, expr_of-Cast, expr_of-Choose, expr_of-Conversion, expr_of-Index, expr_of-Member}
use Rattle.ooo_bodies.proofs.Formed.{expr_of-Name, expr_of-Number, expr_of-Paren, expr_of-Prefix, expr_of-Truth, formed-noted, formed-notes, formed-result, formed-tree, noted-Binary, noted-Choose}
use Rattle.ooo_bodies.proofs.exprs.+expr.Goals as goal

pub expr-returns-in-Number-clause-tree : goal.expr-returns-in-Number-clause-tree
expr-returns-in-Number-clause-tree t c =
    formed-tree c.args.e.now c.args.scopes.now c.in-Number.is (expr_of-Number c.args.scopes.now c.in-Number.number)
    _ (ap (λ k. expr.Number k c.in-Number.number) c.kind.ensures)

pub expr-returns-in-Number-clause-notes : goal.expr-returns-in-Number-clause-notes
expr-returns-in-Number-clause-notes t c =
    formed-notes c.args.e.now c.args.scopes.now c.in-Number.is (expr_of-Number c.args.scopes.now c.in-Number.number)
    c.args.notes.now c.args.notes.now refl

pub expr-returns-in-Truth-clause-tree : goal.expr-returns-in-Truth-clause-tree
expr-returns-in-Truth-clause-tree t c =
    formed-tree c.args.e.now c.args.scopes.now c.in-Truth.is (expr_of-Truth c.args.scopes.now c.in-Truth.is_true c.in-Truth.at)
    _ refl

pub expr-returns-in-Truth-clause-notes : goal.expr-returns-in-Truth-clause-notes
expr-returns-in-Truth-clause-notes t c =
    formed-notes c.args.e.now c.args.scopes.now c.in-Truth.is (expr_of-Truth c.args.scopes.now c.in-Truth.is_true c.in-Truth.at)
    c.args.notes.now c.args.notes.now refl

pub expr-returns-in-Name-clause-tree : goal.expr-returns-in-Name-clause-tree
expr-returns-in-Name-clause-tree t c =
    formed-result c.args.e.now c.args.scopes.now c.in-Name.is (expr_of-Name c.args.scopes.now c.in-Name.word)
    c.named.result c.named.ensures.tree

pub expr-returns-in-Name-clause-notes : goal.expr-returns-in-Name-clause-notes
expr-returns-in-Name-clause-notes t c =
    formed-noted c.args.e.now c.args.scopes.now c.in-Name.is (expr_of-Name c.args.scopes.now c.in-Name.word)
    c.named.result c.args.notes.now c.named.new.notes c.named.ensures.notes

pub expr-returns-in-Index-clause-tree : goal.expr-returns-in-Index-clause-tree
expr-returns-in-Index-clause-tree t c =
    formed-result c.args.e.now c.args.scopes.now c.in-Index.is (expr_of-Index c.args.scopes.now c.in-Index.word c.in-Index.index)
    c.indexed.result (rw c.get-in-Index.ensures at c.indexed.ensures.tree)

pub expr-returns-in-Index-clause-notes : goal.expr-returns-in-Index-clause-notes
expr-returns-in-Index-clause-notes t c =
    formed-noted c.args.e.now c.args.scopes.now c.in-Index.is (expr_of-Index c.args.scopes.now c.in-Index.word c.in-Index.index)
    c.indexed.result c.args.notes.now c.indexed.new.notes (rw c.get-in-Index.ensures at c.indexed.ensures.notes)

pub expr-returns-in-Call-clause-tree : goal.expr-returns-in-Call-clause-tree
expr-returns-in-Call-clause-tree t c =
    formed-result c.args.e.now c.args.scopes.now c.in-Call.is (expr_of-Call c.args.scopes.now c.in-Call.word c.in-Call.args)
    c.call.result c.call.ensures.tree

pub expr-returns-in-Call-clause-notes : goal.expr-returns-in-Call-clause-notes
expr-returns-in-Call-clause-notes t c =
    formed-noted c.args.e.now c.args.scopes.now c.in-Call.is (expr_of-Call c.args.scopes.now c.in-Call.word c.in-Call.args)
    c.call.result c.args.notes.now c.call.new.notes c.call.ensures.notes

pub expr-returns-in-Member-clause-tree : goal.expr-returns-in-Member-clause-tree
expr-returns-in-Member-clause-tree t c =
    formed-result c.args.e.now c.args.scopes.now c.in-Member.is (expr_of-Member c.args.scopes.now c.in-Member.word c.in-Member.after c.in-Member.arg)
    c.member.result c.member.ensures.tree

pub expr-returns-in-Member-clause-notes : goal.expr-returns-in-Member-clause-notes
expr-returns-in-Member-clause-notes t c =
    formed-noted c.args.e.now c.args.scopes.now c.in-Member.is (expr_of-Member c.args.scopes.now c.in-Member.word c.in-Member.after c.in-Member.arg)
    c.member.result c.args.notes.now c.member.new.notes c.member.ensures.notes

pub expr-returns-in-Ok-clause-tree : goal.expr-returns-in-Ok-clause-tree
expr-returns-in-Ok-clause-tree t c =
    formed-tree c.args.e.now c.args.scopes.now c.in-Paren.is (expr_of-Paren c.args.scopes.now c.in-Paren.at c.in-Paren.inner)
    _ (ap (λ k. expr.Paren k c.in-Paren.at c.in-Ok.made) (c.kind-in-Paren.ensures ∙ ap kind_of c.get-in-Paren.ensures) ∙ ap (λ t. expr.Paren (kind_of t) c.in-Paren.at t) (c.in-Ok.ensures.tree ∙ ap (λ x. (expr_of x c.args.scopes.now).tree) c.get.ensures))

pub expr-returns-in-Ok-clause-notes : goal.expr-returns-in-Ok-clause-notes
expr-returns-in-Ok-clause-notes t c =
    formed-notes c.args.e.now c.args.scopes.now c.in-Paren.is (expr_of-Paren c.args.scopes.now c.in-Paren.at c.in-Paren.inner)
    c.args.notes.now c.boxed.new.notes (c.in-Ok.ensures.notes ∙ ap (λ x. noted c.args.notes.now (expr_of x c.args.scopes.now).notes) c.get.ensures)

pub expr-returns-in-Ok-boxed-clause-tree : goal.expr-returns-in-Ok-boxed-clause-tree
expr-returns-in-Ok-boxed-clause-tree t c =
    formed-tree c.args.e.now c.args.scopes.now c.in-Prefix.is (expr_of-Prefix c.args.scopes.now c.in-Prefix.at c.in-Prefix.op c.in-Prefix.operand)
    _ (ap (λ k. expr.Prefix k c.in-Prefix.at c.in-Prefix.op c.in-Ok-boxed.made) (c.prefix_kind.ensures ∙ ap (λ k. prefix_kind c.in-Prefix.op k) (c.kind-in-Prefix.ensures ∙ ap kind_of c.get-in-Prefix-2.ensures)) ∙ ap (λ t. expr.Prefix (prefix_kind c.in-Prefix.op (kind_of t)) c.in-Prefix.at c.in-Prefix.op t) (c.in-Ok-boxed.ensures.tree ∙ ap (λ x. (expr_of x c.args.scopes.now).tree) c.get-in-Prefix.ensures))

pub expr-returns-in-Ok-boxed-clause-notes : goal.expr-returns-in-Ok-boxed-clause-notes
expr-returns-in-Ok-boxed-clause-notes t c =
    formed-notes c.args.e.now c.args.scopes.now c.in-Prefix.is (expr_of-Prefix c.args.scopes.now c.in-Prefix.at c.in-Prefix.op c.in-Prefix.operand)
    c.args.notes.now c.boxed-in-Prefix.new.notes (c.in-Ok-boxed.ensures.notes ∙ ap (λ x. noted c.args.notes.now (expr_of x c.args.scopes.now).notes) c.get-in-Prefix.ensures)

pub expr-returns-in-Ok-boxed-2-clause-tree : goal.expr-returns-in-Ok-boxed-2-clause-tree
expr-returns-in-Ok-boxed-2-clause-tree t c =
    formed-tree c.args.e.now c.args.scopes.now c.in-Cast.is (expr_of-Cast c.args.scopes.now c.in-Cast.at c.in-Cast.form c.in-Cast.operand)
    _ (ap (λ k. expr.Cast k c.in-Cast.at c.in-Cast.form c.in-Ok-boxed-2.made) c.kind_written.ensures ∙ ap (λ t. expr.Cast (kind_written c.in-Cast.form.form) c.in-Cast.at c.in-Cast.form t) (c.in-Ok-boxed-2.ensures.tree ∙ ap (λ x. (expr_of x c.args.scopes.now).tree) c.get-in-Cast.ensures))

pub expr-returns-in-Ok-boxed-2-clause-notes : goal.expr-returns-in-Ok-boxed-2-clause-notes
expr-returns-in-Ok-boxed-2-clause-notes t c =
    formed-notes c.args.e.now c.args.scopes.now c.in-Cast.is (expr_of-Cast c.args.scopes.now c.in-Cast.at c.in-Cast.form c.in-Cast.operand)
    c.args.notes.now c.boxed-in-Cast.new.notes (c.in-Ok-boxed-2.ensures.notes ∙ ap (λ x. noted c.args.notes.now (expr_of x c.args.scopes.now).notes) c.get-in-Cast.ensures)

pub expr-returns-in-Ok-boxed-3-clause-tree : goal.expr-returns-in-Ok-boxed-3-clause-tree
expr-returns-in-Ok-boxed-3-clause-tree t c =
    formed-tree c.args.e.now c.args.scopes.now c.in-Conversion.is (expr_of-Conversion c.args.scopes.now c.in-Conversion.form c.in-Conversion.operand)
    _ (ap (λ k. expr.Conversion k c.in-Conversion.form c.in-Ok-boxed-3.made) c.kind_written-in-Conversion.ensures ∙ ap (λ t. expr.Conversion (kind_written c.in-Conversion.form.form) c.in-Conversion.form t) (c.in-Ok-boxed-3.ensures.tree ∙ ap (λ x. (expr_of x c.args.scopes.now).tree) c.get-in-Conversion.ensures))

pub expr-returns-in-Ok-boxed-3-clause-notes : goal.expr-returns-in-Ok-boxed-3-clause-notes
expr-returns-in-Ok-boxed-3-clause-notes t c =
    formed-notes c.args.e.now c.args.scopes.now c.in-Conversion.is (expr_of-Conversion c.args.scopes.now c.in-Conversion.form c.in-Conversion.operand)
    c.args.notes.now c.boxed-in-Conversion.new.notes (c.in-Ok-boxed-3.ensures.notes ∙ ap (λ x. noted c.args.notes.now (expr_of x c.args.scopes.now).notes) c.get-in-Conversion.ensures)

pub expr-returns-in-Ok-boxed-5-clause-tree : goal.expr-returns-in-Ok-boxed-5-clause-tree
expr-returns-in-Ok-boxed-5-clause-tree t c =
    formed-tree c.args.e.now c.args.scopes.now c.in-Binary.is (expr_of-Binary c.args.scopes.now c.in-Binary.op c.in-Binary.left c.in-Binary.right) _
    (rw (c.binary_kind-kind.ensures, c.kind-in-Binary.ensures, c.kind-in-Binary-2.ensures, c.get-in-Binary-3.ensures, c.get-in-Binary-4.ensures, c.in-Ok-boxed-4.ensures.tree, c.in-Ok-boxed-5.ensures.tree, c.get-in-Binary.ensures, c.get-in-Binary-2.ensures) refl)

pub expr-returns-in-Ok-boxed-8-clause-tree : goal.expr-returns-in-Ok-boxed-8-clause-tree
expr-returns-in-Ok-boxed-8-clause-tree t c =
    formed-tree c.args.e.now c.args.scopes.now c.in-Choose.is (expr_of-Choose c.args.scopes.now c.in-Choose.test c.in-Choose.yes c.in-Choose.no) _
    (rw (c.choice_kind-kind.ensures, c.kind-in-Choose.ensures, c.kind-in-Choose-2.ensures, c.get-in-Choose-4.ensures, c.get-in-Choose-5.ensures, c.in-Ok-boxed-6.ensures.tree, c.in-Ok-boxed-7.ensures.tree, c.in-Ok-boxed-8.ensures.tree, c.get-in-Choose.ensures, c.get-in-Choose-2.ensures, c.get-in-Choose-3.ensures) refl)

pub expr-returns-in-Ok-boxed-5-clause-notes : goal.expr-returns-in-Ok-boxed-5-clause-notes
expr-returns-in-Ok-boxed-5-clause-notes t c =
    noted-Binary c.in-Binary.op c.args.e.now c.in-Binary.left c.in-Binary.right c.get-in-Binary.result.now
    c.get-in-Binary-2.result.now c.args.scopes.now c.args.notes.now c.boxed-in-Binary.new.notes c.boxed-in-Binary-2.new.notes
    c.in-Binary.is c.get-in-Binary.ensures c.get-in-Binary-2.ensures c.in-Ok-boxed-4.ensures.notes c.in-Ok-boxed-5.ensures.notes

pub expr-returns-in-Ok-boxed-8-clause-notes : goal.expr-returns-in-Ok-boxed-8-clause-notes
expr-returns-in-Ok-boxed-8-clause-notes t c =
    noted-Choose c.args.e.now c.in-Choose.test c.in-Choose.yes c.in-Choose.no c.get-in-Choose.result.now c.get-in-Choose-2.result.now
    c.get-in-Choose-3.result.now c.args.scopes.now c.args.notes.now c.boxed-in-Choose.new.notes c.boxed-in-Choose-2.new.notes
    c.boxed-in-Choose-3.new.notes c.in-Choose.is c.get-in-Choose.ensures c.get-in-Choose-2.ensures c.get-in-Choose-3.ensures
    c.in-Ok-boxed-6.ensures.notes c.in-Ok-boxed-7.ensures.notes c.in-Ok-boxed-8.ensures.notes

pub exprs-args-2-preserved : goal.exprs-args-2-preserved
exprs-args-2-preserved t c =
    let xs : List Expr = c.as_slice-e-items.result.now in record {
      trees = trees_step (λ e. expr_of e c.args.scopes.now) c.args-2.all c.push.new.self xs c.args-2.e-index c.e-item.result
          c.in-Ok.made c.args-2-test.true c.e-item.is c.in-Ok.ensures.tree c.in-Ok-push.ensures.ok c.args-2.invariant.trees;
      notes = notes_step (λ e. expr_of e c.args.scopes.now) c.args.notes.now c.args-2.notes c.expr.new.notes xs c.args-2.e-index
          c.e-item.result c.args-2-test.true c.e-item.is c.in-Ok.ensures.notes c.args-2.invariant.notes;
    }

pub indexed-returns-clause-tree : goal.indexed-returns-clause-tree
indexed-returns-clause-tree t c =
    rw (c.value_kind.ensures, c.denotes-thing.ensures, c.as_bytes.ensures, c.in-Ok.ensures, c.in_ok-tree.ensures.tree) refl

pub indexed-returns-clause-notes : goal.indexed-returns-clause-notes
indexed-returns-clause-notes t c =
    let thing : Thing = (meaning_of c.args.scopes.now c.args.word.now.name).thing in
    c.in_ok-tree.ensures.notes
    ∙ noted_two c.args.notes.now c.indexed.new.self (index_notes thing c.args.word.now.position) (expr_of c.args.index.now c.args.scopes.now).notes
    (rw (c.denotes-thing.ensures, c.as_bytes.ensures) at c.indexed.ensures)

pub call-returns-clause-tree : goal.call-returns-clause-tree
call-returns-clause-tree t c =
    rw (c.result_kind.ensures, c.denotes-denotes.ensures, c.as_bytes.ensures, c.in-Ok.ensures, c.in_ok-trees.ensures.trees) refl

pub call-returns-clause-notes : goal.call-returns-clause-notes
call-returns-clause-notes t c =
    let s : Scope = c.args.scopes.now in
    let known : Denotation = meaning_of s c.args.word.now.name in
    let of_call : Denotation → ℕ → List Note = λ d count. call_notes c.args.place d count c.args.word.now.position in
    let denotes : c.denotes-denotes.result ≡ known = c.denotes-denotes.ensures ∙ ap (λ name. meaning_of s name) c.as_bytes.ensures in
    let count : c.len.result ≡ length (exprs_of c.args.args.now s) = c.len.ensures ∙ sym (length-map c.args.args.now (λ e. expr_of e s)) in
    c.in_ok-trees.ensures.notes
    ∙ noted_two c.args.notes.now c.call.new.self (of_call known (length (exprs_of c.args.args.now s))) (all_notes (exprs_of c.args.args.now s))
    (c.in_ok-call.ensures ∙ ap (λ d. noted c.args.notes.now (of_call d c.len.result)) denotes
    ∙ ap (λ n. noted c.args.notes.now (of_call known n)) count)

pub member-returns-clause-tree : goal.member-returns-clause-tree
member-returns-clause-tree t c =
    rw (
      c.kind.ensures,
      c.method-method.ensures,
      c.as_bytes-2.ensures,
      c.denotes-thing.ensures,
      c.as_bytes.ensures,
      c.in-Ok-resolve.ensures,
      c.in-Ok.ensures,
      c.in_ok-tree.ensures.tree,
    ) refl

pub member-returns-clause-notes : goal.member-returns-clause-notes
member-returns-clause-notes t c =
    let s : Scope = c.args.scopes.now in
    let thing : Thing = (meaning_of s c.args.call.word.now.name).thing in
    let method : Method = method_of thing c.args.call.after.now.name in
    let at : Position = c.args.call.word.now.position in
    let dot : Position = c.args.call.after.now.position in
    let arg : Option (Checked CheckedExpr) = option_of c.args.arg.now s in
    (rw (c.method-method.ensures, c.as_bytes-2.ensures, c.denotes-thing.ensures, c.as_bytes.ensures) at c.in_ok-tree.ensures.notes)
    ∙ noted_two c.args.notes.now c.member.new.self (member_notes c.args.call.place thing method (count_of arg) at dot) (argument_notes method arg)
    (rw (c.argument_count-count.ensures s, c.method-method.ensures, c.as_bytes-2.ensures, c.denotes-thing.ensures, c.as_bytes.ensures) at c.in_ok-member.ensures)
