use Rattle.std.proofs.Common.{◌∙◌, ap, refl, rules, List, Option, Some}
use Rattle.ooo_syntax.specs.declared.stat.ForStart.{ForStart}
use Rattle.ooo_syntax.specs.declared.stat.Stat.{Stat}
use Rattle.ooo_checked.specs.declared.stat.CheckedStat.{CheckedStat}
use Rattle.ooo_checked.specs.declared.stat.CheckedStat.TheVariants as stat
use Rattle.ooo_checked.specs.Exprs.{expr_of}
use Rattle.ooo_checked.specs.Scopes.{Scope, entered, left}
use Rattle.ooo_checked.specs.Stats.{Stepped, head_notes, inner, looped, option_start_of, stat_of, stats_of}
use Rattle.ooo_bodies.specs.Noting.{noted}
use Rattle.ooo_bodies.proofs.Blocks.{stat_of-Block, stat_of-Break, stat_of-Continue, stat_of-Do, stat_of-Empty, stat_of-For, stat_of-If}
use Rattle.ooo_bodies.proofs.Blocks.{stat_of-Local, stat_of-Return, stat_of-Simple, stat_of-While, noted-If}
use Rattle.ooo_bodies.specs.Parts.{noted_two, ordered_trees, ordered_scope, ordered_notes}
use Rattle.ooo_bodies.proofs.stats.+stat.Goals as goal

pub stat-returns-in-Ok-clause-tree : goal.stat-returns-in-Ok-clause-tree
stat-returns-in-Ok-clause-tree t c =
    rw (c.in-Block.is, stat_of-Block c.in-Block.at c.in-Block.body c.args.context c.args.scopes.now)
    (ap (λ xs. stat.Block c.in-Block.at xs) c.in-Ok.ensures.trees)

pub stat-returns-in-Ok-clause-scope : goal.stat-returns-in-Ok-clause-scope
stat-returns-in-Ok-clause-scope t c =
    rw (c.in-Block.is, stat_of-Block c.in-Block.at c.in-Block.body c.args.context c.args.scopes.now)
    c.in-Ok.ensures.scope

pub stat-returns-in-Ok-clause-notes : goal.stat-returns-in-Ok-clause-notes
stat-returns-in-Ok-clause-notes t c =
    rw (c.in-Block.is, stat_of-Block c.in-Block.at c.in-Block.body c.args.context c.args.scopes.now)
    c.in-Ok.ensures.notes

pub stats-parts-preserved : goal.stats-parts-preserved
stats-parts-preserved t c =
    let xs : List Stat = c.as_slice-e-items.result.now in
    let f : Stat → Scope → Stepped CheckedStat = λ x s. stat_of x c.args.context s in
    let whole : Stepped (List CheckedStat) = stats_of xs c.args.context c.args.scopes.now in record {
      trees = ordered_trees f c.parts.all c.push.new.self xs c.parts.e-index c.e-item.result c.in-Ok.made
          c.parts.scopes c.stat.new.scopes whole.tree c.parts-test.true c.e-item.is c.in-Ok.ensures.tree
          c.in-Ok.ensures.scope c.in-Ok-push.ensures.ok c.parts.invariant.trees;
      scope = ordered_scope f xs c.parts.e-index c.e-item.result c.parts.scopes c.stat.new.scopes whole.scope
          c.parts-test.true c.e-item.is c.in-Ok.ensures.scope c.parts.invariant.scope;
      notes = ordered_notes f c.parts.notes c.stat.new.notes (noted c.args.notes.now whole.notes) xs c.parts.e-index
          c.e-item.result c.parts.scopes c.stat.new.scopes c.parts-test.true c.e-item.is
          c.in-Ok.ensures.scope c.in-Ok.ensures.notes c.parts.invariant.notes;
      outer = c.in-Ok.ensures.outer ∙ c.parts.invariant.outer;
    }

pub stat-returns-in-Ok-otherwise-clause-notes : goal.stat-returns-in-Ok-otherwise-clause-notes
stat-returns-in-Ok-otherwise-clause-notes t c =
    noted-If c.in-If.at c.in-If.test c.in-If.yes c.get-first.result.now c.in-If.no c.args.statement.now c.args.context
    c.args.scopes.now c.inner.new.scopes c.args.notes.now c.boxed.new.notes c.inner.new.notes c.otherwise.new.notes
    c.in-If.is c.get-first.ensures c.in-Ok-inner.ensures.scope
    (rw c.get-condition.ensures at c.in-Ok-boxed.ensures.notes) c.in-Ok-inner.ensures.notes
    c.in-Ok-otherwise.ensures.notes

pub while_stat-returns-clause-notes : goal.while_stat-returns-clause-notes
while_stat-returns-clause-notes t c =
    (rw c.looped.ensures at c.in-Ok.ensures.notes)
    ∙ noted_two c.args.notes.now c.boxed.new.notes (expr_of c.args.head.test.now c.args.scopes.now).notes _
    (rw c.get.ensures at c.in_ok-test.ensures.notes)

pub do_stat-returns-clause-notes : goal.do_stat-returns-clause-notes
do_stat-returns-clause-notes t c =
    let body : Stepped CheckedStat = inner (stat_of c.args.body.now) (looped c.args.context) c.args.scopes.now in
    (rw (c.get.ensures, c.in_ok-body.ensures.scope, c.looped.ensures) at c.in-Ok.ensures.notes)
    ∙ noted_two c.args.notes.now c.inner.new.notes body.notes (expr_of c.args.head.test.now body.scope).notes
    (rw c.looped.ensures at c.in_ok-body.ensures.notes)

pub for_stat-returns-clause-notes : goal.for_stat-returns-clause-notes
for_stat-returns-clause-notes t c =
    let begins : Option ForStart = c.args.head.begins.now in
    let s : Scope = entered c.args.scopes.now in
    let behind : Scope = (option_start_of c.args.context begins s).scope in
    (rw (c.in_ok-made.ensures.scope, c.in_ok-enter.ensures.ok, c.looped.ensures) at c.in-Ok.ensures.notes)
    ∙ noted_two c.args.notes.now c.for_head.new.notes (head_notes c.args.context begins c.args.head.test.now c.args.head.after.now s)
    (inner (stat_of c.args.body.now) (looped c.args.context) behind).notes
    (rw c.in_ok-enter.ensures.ok at c.in_ok-made.ensures.notes)

pub stat-returns-in-Empty-clause-tree : goal.stat-returns-in-Empty-clause-tree
stat-returns-in-Empty-clause-tree t c =
    rw (c.in-Empty.is, stat_of-Empty c.args.context c.args.scopes.now c.in-Empty.at) refl

pub stat-returns-in-Empty-clause-scope : goal.stat-returns-in-Empty-clause-scope
stat-returns-in-Empty-clause-scope t c =
    rw (c.in-Empty.is, stat_of-Empty c.args.context c.args.scopes.now c.in-Empty.at) refl

pub stat-returns-in-Empty-clause-notes : goal.stat-returns-in-Empty-clause-notes
stat-returns-in-Empty-clause-notes t c =
    rw (c.in-Empty.is, stat_of-Empty c.args.context c.args.scopes.now c.in-Empty.at) refl

pub stat-returns-in-Break-clause-tree : goal.stat-returns-in-Break-clause-tree
stat-returns-in-Break-clause-tree t c =
    rw (c.in-Break.is, stat_of-Break c.args.context c.args.scopes.now c.in-Break.at) refl

pub stat-returns-in-Break-clause-scope : goal.stat-returns-in-Break-clause-scope
stat-returns-in-Break-clause-scope t c =
    rw (c.in-Break.is, stat_of-Break c.args.context c.args.scopes.now c.in-Break.at) refl

pub stat-returns-in-Break-clause-notes : goal.stat-returns-in-Break-clause-notes
stat-returns-in-Break-clause-notes t c =
    rw (c.in-Break.is, stat_of-Break c.args.context c.args.scopes.now c.in-Break.at) c.leaves_loop.ensures

pub stat-returns-in-Continue-clause-tree : goal.stat-returns-in-Continue-clause-tree
stat-returns-in-Continue-clause-tree t c =
    rw (c.in-Continue.is, stat_of-Continue c.args.context c.args.scopes.now c.in-Continue.at) refl

pub stat-returns-in-Continue-clause-scope : goal.stat-returns-in-Continue-clause-scope
stat-returns-in-Continue-clause-scope t c =
    rw (c.in-Continue.is, stat_of-Continue c.args.context c.args.scopes.now c.in-Continue.at) refl

pub stat-returns-in-Continue-clause-notes : goal.stat-returns-in-Continue-clause-notes
stat-returns-in-Continue-clause-notes t c =
    rw (c.in-Continue.is, stat_of-Continue c.args.context c.args.scopes.now c.in-Continue.at) c.leaves_loop-in-Continue.ensures

pub stat-returns-in-Local-clause-tree : goal.stat-returns-in-Local-clause-tree
stat-returns-in-Local-clause-tree t c =
    rw (c.in-Local.is, stat_of-Local c.args.context c.args.scopes.now c.in-Local.names)
    (rw c.get.ensures at c.local_stat.ensures.tree)

pub stat-returns-in-Local-clause-scope : goal.stat-returns-in-Local-clause-scope
stat-returns-in-Local-clause-scope t c =
    rw (c.in-Local.is, stat_of-Local c.args.context c.args.scopes.now c.in-Local.names)
    (rw c.get.ensures at c.local_stat.ensures.scope)

pub stat-returns-in-Local-clause-notes : goal.stat-returns-in-Local-clause-notes
stat-returns-in-Local-clause-notes t c =
    rw (c.in-Local.is, stat_of-Local c.args.context c.args.scopes.now c.in-Local.names)
    (rw c.get.ensures at c.local_stat.ensures.notes)

pub stat-returns-in-Simple-clause-tree : goal.stat-returns-in-Simple-clause-tree
stat-returns-in-Simple-clause-tree t c =
    rw (c.in-Simple.is, stat_of-Simple c.args.context c.args.scopes.now c.in-Simple.statement)
    (rw c.get-in-Simple.ensures at c.plain_stat.ensures.tree)

pub stat-returns-in-Simple-clause-notes : goal.stat-returns-in-Simple-clause-notes
stat-returns-in-Simple-clause-notes t c =
    rw (c.in-Simple.is, stat_of-Simple c.args.context c.args.scopes.now c.in-Simple.statement)
    (rw c.get-in-Simple.ensures at c.plain_stat.ensures.notes)

pub stat-returns-in-While-clause-tree : goal.stat-returns-in-While-clause-tree
stat-returns-in-While-clause-tree t c =
    rw (c.in-While.is, stat_of-While c.args.context c.args.scopes.now c.in-While.at c.in-While.test c.in-While.body)
    (rw c.get-in-While.ensures at c.while_stat.ensures.tree)

pub stat-returns-in-While-clause-scope : goal.stat-returns-in-While-clause-scope
stat-returns-in-While-clause-scope t c =
    rw (c.in-While.is, stat_of-While c.args.context c.args.scopes.now c.in-While.at c.in-While.test c.in-While.body)
    (rw c.get-in-While.ensures at c.while_stat.ensures.scope)

pub stat-returns-in-While-clause-notes : goal.stat-returns-in-While-clause-notes
stat-returns-in-While-clause-notes t c =
    rw (c.in-While.is, stat_of-While c.args.context c.args.scopes.now c.in-While.at c.in-While.test c.in-While.body)
    (rw c.get-in-While.ensures at c.while_stat.ensures.notes)

pub stat-returns-in-Do-clause-tree : goal.stat-returns-in-Do-clause-tree
stat-returns-in-Do-clause-tree t c =
    rw (c.in-Do.is, stat_of-Do c.args.context c.args.scopes.now c.in-Do.at c.in-Do.body c.in-Do.test)
    (rw c.get-in-Do.ensures at c.do_stat.ensures.tree)

pub stat-returns-in-Do-clause-scope : goal.stat-returns-in-Do-clause-scope
stat-returns-in-Do-clause-scope t c =
    rw (c.in-Do.is, stat_of-Do c.args.context c.args.scopes.now c.in-Do.at c.in-Do.body c.in-Do.test)
    (rw c.get-in-Do.ensures at c.do_stat.ensures.scope)

pub stat-returns-in-Do-clause-notes : goal.stat-returns-in-Do-clause-notes
stat-returns-in-Do-clause-notes t c =
    rw (c.in-Do.is, stat_of-Do c.args.context c.args.scopes.now c.in-Do.at c.in-Do.body c.in-Do.test)
    (rw c.get-in-Do.ensures at c.do_stat.ensures.notes)

pub stat-returns-in-For-clause-tree : goal.stat-returns-in-For-clause-tree
stat-returns-in-For-clause-tree t c =
    rw (c.in-For.is, stat_of-For c.args.context c.args.scopes.now c.in-For.at c.in-For.begins c.in-For.test c.in-For.after c.in-For.body)
    (rw c.get-in-For.ensures at c.for_stat.ensures.tree)

pub stat-returns-in-For-clause-scope : goal.stat-returns-in-For-clause-scope
stat-returns-in-For-clause-scope t c =
    rw (c.in-For.is, stat_of-For c.args.context c.args.scopes.now c.in-For.at c.in-For.begins c.in-For.test c.in-For.after c.in-For.body)
    (rw c.get-in-For.ensures at c.for_stat.ensures.scope)

pub stat-returns-in-For-clause-notes : goal.stat-returns-in-For-clause-notes
stat-returns-in-For-clause-notes t c =
    rw (c.in-For.is, stat_of-For c.args.context c.args.scopes.now c.in-For.at c.in-For.begins c.in-For.test c.in-For.after c.in-For.body)
    (rw c.get-in-For.ensures at c.for_stat.ensures.notes)

pub stat-returns-in-Return-clause-tree : goal.stat-returns-in-Return-clause-tree
stat-returns-in-Return-clause-tree t c =
    rw (c.in-Return.is, stat_of-Return c.args.context c.args.scopes.now c.in-Return.at c.in-Return.value) c.return_stat.ensures.tree

pub stat-returns-in-Return-clause-notes : goal.stat-returns-in-Return-clause-notes
stat-returns-in-Return-clause-notes t c =
    rw (c.in-Return.is, stat_of-Return c.args.context c.args.scopes.now c.in-Return.at c.in-Return.value) c.return_stat.ensures.notes

pub stat-returns-in-Simple-clause-scope : goal.stat-returns-in-Simple-clause-scope
stat-returns-in-Simple-clause-scope t c =
    rw (c.in-Simple.is, stat_of-Simple c.args.context c.args.scopes.now c.in-Simple.statement) (search rules)

pub stat-returns-in-Return-clause-scope : goal.stat-returns-in-Return-clause-scope
stat-returns-in-Return-clause-scope t c =
    rw (c.in-Return.is, stat_of-Return c.args.context c.args.scopes.now c.in-Return.at c.in-Return.value) (search rules)

pub stat-returns-in-Ok-otherwise-clause-tree : goal.stat-returns-in-Ok-otherwise-clause-tree
stat-returns-in-Ok-otherwise-clause-tree t c =
    rw (
      c.in-If.is,
      stat_of-If c.args.context c.args.scopes.now c.in-If.at c.in-If.test c.in-If.yes c.in-If.no,
      c.in-Ok-boxed.ensures.tree,
      c.get-condition.ensures,
      c.in-Ok-inner.ensures.tree,
      c.in-Ok-otherwise.ensures.tree,
      c.in-Ok-inner.ensures.scope,
      c.get-first.ensures,
    ) refl

pub stat-returns-in-Ok-otherwise-clause-scope : goal.stat-returns-in-Ok-otherwise-clause-scope
stat-returns-in-Ok-otherwise-clause-scope t c =
    rw (
      c.in-If.is,
      stat_of-If c.args.context c.args.scopes.now c.in-If.at c.in-If.test c.in-If.yes c.in-If.no,
      c.in-Ok-otherwise.ensures.scope,
      c.in-Ok-inner.ensures.scope,
      c.get-first.ensures,
    ) refl

pub stat-returns-in-Ok-clause-outer : goal.stat-returns-in-Ok-clause-outer
stat-returns-in-Ok-clause-outer t c = c.in-Ok.ensures.outer

pub stat-returns-in-Empty-clause-outer : goal.stat-returns-in-Empty-clause-outer
stat-returns-in-Empty-clause-outer t c = refl

pub stat-returns-in-Local-clause-outer : goal.stat-returns-in-Local-clause-outer
stat-returns-in-Local-clause-outer t c = c.local_stat.ensures.outer

pub stat-returns-in-While-clause-outer : goal.stat-returns-in-While-clause-outer
stat-returns-in-While-clause-outer t c = c.while_stat.ensures.outer

pub stat-returns-in-Do-clause-outer : goal.stat-returns-in-Do-clause-outer
stat-returns-in-Do-clause-outer t c = c.do_stat.ensures.outer

pub stat-returns-in-For-clause-outer : goal.stat-returns-in-For-clause-outer
stat-returns-in-For-clause-outer t c = c.for_stat.ensures.outer

pub stat-returns-in-Break-clause-outer : goal.stat-returns-in-Break-clause-outer
stat-returns-in-Break-clause-outer t c = refl

pub stat-returns-in-Continue-clause-outer : goal.stat-returns-in-Continue-clause-outer
stat-returns-in-Continue-clause-outer t c = refl

pub stat-returns-in-Ok-otherwise-clause-outer : goal.stat-returns-in-Ok-otherwise-clause-outer
stat-returns-in-Ok-otherwise-clause-outer t c = c.in-Ok-otherwise.ensures.outer ∙ c.in-Ok-inner.ensures.outer

pub block-returns-clause-trees : goal.block-returns-clause-trees
block-returns-clause-trees t c = rw c.in_ok-enter.ensures.ok at c.in_ok-all.ensures.trees

pub block-returns-clause-scope : goal.block-returns-clause-scope
block-returns-clause-scope t c = c.leave.ensures ∙ ap left (rw c.in_ok-enter.ensures.ok at c.in_ok-all.ensures.scope)

pub block-returns-clause-notes : goal.block-returns-clause-notes
block-returns-clause-notes t c = rw c.in_ok-enter.ensures.ok at c.in_ok-all.ensures.notes

pub block-returns-clause-outer : goal.block-returns-clause-outer
block-returns-clause-outer t c = ap left (c.leave.ensures ∙ c.in_ok-all.ensures.outer ∙ ap left c.in_ok-enter.ensures.ok)

pub while_stat-returns-clause-tree : goal.while_stat-returns-clause-tree
while_stat-returns-clause-tree t c = rw (c.in-Ok.ensures.tree, c.looped.ensures, c.in_ok-test.ensures.tree, c.get.ensures) refl

pub while_stat-returns-clause-scope : goal.while_stat-returns-clause-scope
while_stat-returns-clause-scope t c = rw c.looped.ensures at c.in-Ok.ensures.scope

pub while_stat-returns-clause-outer : goal.while_stat-returns-clause-outer
while_stat-returns-clause-outer t c = c.in-Ok.ensures.outer

pub do_stat-returns-clause-scope : goal.do_stat-returns-clause-scope
do_stat-returns-clause-scope t c = rw c.looped.ensures at c.in_ok-body.ensures.scope

pub do_stat-returns-clause-outer : goal.do_stat-returns-clause-outer
do_stat-returns-clause-outer t c = c.in_ok-body.ensures.outer

pub do_stat-returns-clause-tree : goal.do_stat-returns-clause-tree
do_stat-returns-clause-tree t c = rw (c.in-Ok.ensures.tree, c.get.ensures, c.in_ok-body.ensures.tree, c.in_ok-body.ensures.scope, c.looped.ensures) refl

pub for_stat-returns-clause-scope : goal.for_stat-returns-clause-scope
for_stat-returns-clause-scope t c = c.leave.ensures ∙ ap left (rw (c.in_ok-made.ensures.scope, c.in_ok-enter.ensures.ok, c.looped.ensures) at c.in-Ok.ensures.scope)

pub for_stat-returns-clause-outer : goal.for_stat-returns-clause-outer
for_stat-returns-clause-outer t c = ap left (c.leave.ensures ∙ c.in-Ok.ensures.outer ∙ c.in_ok-made.ensures.outer ∙ ap left c.in_ok-enter.ensures.ok)

pub for_stat-returns-clause-tree : goal.for_stat-returns-clause-tree
for_stat-returns-clause-tree t c = rw (c.in_ok-made.ensures.begins, c.in_ok-made.ensures.test, c.in_ok-made.ensures.after, c.in-Ok.ensures.tree, c.in_ok-made.ensures.scope, c.in_ok-enter.ensures.ok, c.looped.ensures) refl

pub inner-returns-clause-tree : goal.inner-returns-clause-tree
inner-returns-clause-tree t c = rw (c.in_ok-tree.ensures.tree, c.in_ok-enter.ensures.ok) at c.boxed_stat.ensures

pub otherwise-returns-in-None-clause-tree : goal.otherwise-returns-in-None-clause-tree
otherwise-returns-in-None-clause-tree t c = rw c.in-None.is refl

pub otherwise-returns-in-None-clause-scope : goal.otherwise-returns-in-None-clause-scope
otherwise-returns-in-None-clause-scope t c = rw c.in-None.is refl

pub otherwise-returns-in-None-clause-notes : goal.otherwise-returns-in-None-clause-notes
otherwise-returns-in-None-clause-notes t c = rw c.in-None.is refl

pub otherwise-returns-in_ok-tree-in-Some-clause-tree : goal.otherwise-returns-in_ok-tree-in-Some-clause-tree
otherwise-returns-in_ok-tree-in-Some-clause-tree t c = rw c.in-Some.is (ap Some (rw c.get.ensures at c.in_ok-tree-in-Some.ensures.tree))

pub otherwise-returns-in_ok-tree-in-Some-clause-scope : goal.otherwise-returns-in_ok-tree-in-Some-clause-scope
otherwise-returns-in_ok-tree-in-Some-clause-scope t c = rw c.in-Some.is (rw c.get.ensures at c.in_ok-tree-in-Some.ensures.scope)

pub otherwise-returns-in_ok-tree-in-Some-clause-notes : goal.otherwise-returns-in_ok-tree-in-Some-clause-notes
otherwise-returns-in_ok-tree-in-Some-clause-notes t c = rw c.in-Some.is (rw c.get.ensures at c.in_ok-tree-in-Some.ensures.notes)

pub otherwise-returns-in_ok-tree-in-Some-clause-outer : goal.otherwise-returns-in_ok-tree-in-Some-clause-outer
otherwise-returns-in_ok-tree-in-Some-clause-outer t c = c.in_ok-tree-in-Some.ensures.outer
