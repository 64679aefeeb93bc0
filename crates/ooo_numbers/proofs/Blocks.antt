-- Statements by their forms.
use Rattle.std.proofs.Common.{◌≡◌, ◌∙◌, ap, sym, refl, List, [], ◌∷◌, map, Option, Some, None}
use Rattle.ooo_lexer.specs.declared.position.Position.{Position}
use Rattle.ooo_bound.specs.declared.stat.BoundStat.{BoundStat}
use Rattle.ooo_bound.specs.declared.stat.BoundStat.TheVariants as bound
use Rattle.ooo_checked.specs.declared.expr.CheckedExpr.{CheckedExpr}
use Rattle.ooo_checked.specs.declared.stat.CheckedLocal.{CheckedLocal}
use Rattle.ooo_checked.specs.declared.stat.CheckedSimple.{CheckedSimple}
use Rattle.ooo_checked.specs.declared.stat.CheckedStart.{CheckedStart}
use Rattle.ooo_checked.specs.declared.stat.CheckedStat.{CheckedStat, CheckedStat-F, map-CheckedStat, roll-CheckedStat, fold-roll-CheckedStat}
use Rattle.ooo_checked.specs.declared.stat.CheckedStat.TheOpen as layer
use Rattle.ooo_checked.specs.declared.stat.CheckedStat.TheVariants as tree
use Rattle.ooo_numbers.specs.Exprs.{expr_of, option_of}
use Rattle.ooo_numbers.specs.Names.{Numbering}
use Rattle.ooo_numbers.specs.Simples.{lined_of, local_of}
use Rattle.ooo_numbers.specs.Stats.{after_of, as_stats, else_of, start_of, stat_of, stat_step, stats_of}

-- a statement by its form
at_layer : (n : Numbering) (y : CheckedStat-F CheckedStat) →
    stat_of n (roll-CheckedStat y) ≡ stat_step n (map-CheckedStat CheckedStat BoundStat (stat_of n) y)
unfolding stat_of
at_layer n y = fold-roll-CheckedStat BoundStat (stat_step n) y

in_order : (n : Numbering) (xs : List CheckedStat) → map (stat_of n) xs ≡ stats_of n xs
in_order n [] = refl
in_order n (x ∷ xs) = ap (λ others. stat_of n x ∷ others) (in_order n xs)

module _ (n : Numbering) where
  -- statements that hold no other
  pub stat_of-Empty : (at : Position) → stat_of n (tree.Empty at) ≡ bound.Block []
  stat_of-Empty at = ap (stat_of n) (sym (tree.rolls-Empty at)) ∙ at_layer n (layer.Empty at)

  pub stat_of-Local : (l : CheckedLocal) → stat_of n (tree.Local l) ≡ bound.Block (as_stats (local_of n l))
  stat_of-Local l = ap (stat_of n) (sym (tree.rolls-Local l)) ∙ at_layer n (layer.Local l)

  pub stat_of-Simple : (x : CheckedSimple) → stat_of n (tree.Simple x) ≡ bound.Simple (lined_of n x)
  stat_of-Simple x = ap (stat_of n) (sym (tree.rolls-Simple x)) ∙ at_layer n (layer.Simple x)

  pub stat_of-Break : (at : Position) → stat_of n (tree.Break at) ≡ bound.Break at.line
  stat_of-Break at = ap (stat_of n) (sym (tree.rolls-Break at)) ∙ at_layer n (layer.Break at)

  pub stat_of-Continue : (at : Position) → stat_of n (tree.Continue at) ≡ bound.Continue at.line
  stat_of-Continue at = ap (stat_of n) (sym (tree.rolls-Continue at)) ∙ at_layer n (layer.Continue at)

  pub stat_of-Return : (at : Position) (e : Option CheckedExpr) →
      stat_of n (tree.Return at e) ≡ bound.Return at.line (option_of n e)
  stat_of-Return at e = ap (stat_of n) (sym (tree.rolls-Return at e)) ∙ at_layer n (layer.Return at e)

  -- a block
  pub stat_of-Block : (at : Position) (xs : List CheckedStat) →
      stat_of n (tree.Block at xs) ≡ bound.Block (stats_of n xs)
  stat_of-Block at xs =
      ap (stat_of n) (sym (tree.rolls-Block at xs)) ∙ at_layer n (layer.Block at xs)
      ∙ ap (λ ys. bound.Block ys) (in_order n xs)

  -- an `if`
  pub stat_of-If : (at : Position) (e : CheckedExpr) (f : CheckedStat) (g : Option CheckedStat) →
      stat_of n (tree.If at e f g) ≡ bound.If at.line (expr_of n e) (stat_of n f) (else_of n g)
  stat_of-If at e f None = ap (stat_of n) (sym (tree.rolls-If at e f None)) ∙ at_layer n (layer.If at e f None)
  stat_of-If at e f (Some g) =
      ap (stat_of n) (sym (tree.rolls-If at e f (Some g))) ∙ at_layer n (layer.If at e f (Some g))

  -- loops
  pub stat_of-While : (at : Position) (e : CheckedExpr) (body : CheckedStat) →
      stat_of n (tree.While at e body) ≡ bound.While at.line (expr_of n e) (stat_of n body)
  stat_of-While at e body =
      ap (stat_of n) (sym (tree.rolls-While at e body)) ∙ at_layer n (layer.While at e body)

  pub stat_of-Do : (at : Position) (body : CheckedStat) (e : CheckedExpr) →
      stat_of n (tree.Do at body e) ≡ bound.Do at.line (stat_of n body) (expr_of n e)
  stat_of-Do at body e = ap (stat_of n) (sym (tree.rolls-Do at body e)) ∙ at_layer n (layer.Do at body e)

  pub stat_of-For : (at : Position) (begins : Option CheckedStart) (e : Option CheckedExpr)
      (after : Option CheckedSimple) (body : CheckedStat) →
      stat_of n (tree.For at begins e after body)
      ≡ bound.For at.line (start_of n begins) (option_of n e) (after_of n after) (stat_of n body)
  stat_of-For at begins e after body =
      ap (stat_of n) (sym (tree.rolls-For at begins e after body)) ∙ at_layer n (layer.For at begins e after body)
