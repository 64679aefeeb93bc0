-- Statements with numbers in place of names.
use Rattle.std.specs.Prelude.{List, [], ◌∷◌, Option, Some, None}
use Rattle.ooo_bound.specs.declared.stat.BoundStat.{BoundStat}
use Rattle.ooo_bound.specs.declared.stat.BoundStat.TheVariants as bound
use Rattle.ooo_bound.specs.declared.stat.LinedSimple.{LinedSimple}
use Rattle.ooo_checked.specs.declared.stat.CheckedSimple.{CheckedSimple}
use Rattle.ooo_checked.specs.declared.stat.CheckedStart.{CheckedStart}
use Rattle.ooo_checked.specs.declared.stat.CheckedStart.TheVariants as start
use Rattle.ooo_checked.specs.declared.stat.CheckedStat.{CheckedStat, CheckedStat-F, fold-CheckedStat}
use Rattle.ooo_checked.specs.declared.stat.CheckedStat.TheOpen as layer
use Rattle.ooo_numbers.specs.Names.{Numbering}
use Rattle.ooo_numbers.specs.Exprs.{expr_of, option_of}
use Rattle.ooo_numbers.specs.Simples.{lined_of, local_of}

-- simple statements as statements
abbrev pub as_stats : List LinedSimple → List BoundStat
as_stats [] = []
as_stats (x ∷ xs) = bound.Simple x ∷ as_stats xs

-- what a `for` begins with
abbrev pub start_of : Numbering → Option CheckedStart → List LinedSimple
start_of n None = []
start_of n (Some (start.Local l)) = local_of n l
start_of n (Some (start.Simple x)) = lined_of n x ∷ []

-- what a `for` does after each turn, if it says so
abbrev pub after_of : Numbering → Option CheckedSimple → Option LinedSimple
after_of n None = None
after_of n (Some x) = Some (lined_of n x)

abbrev pub stat_step : Numbering → CheckedStat-F BoundStat → BoundStat
stat_step n (layer.Block at parts) = bound.Block parts
stat_step n (layer.Empty at) = bound.Block []
stat_step n (layer.Local l) = bound.Block (as_stats (local_of n l))
stat_step n (layer.Simple x) = bound.Simple (lined_of n x)
stat_step n (layer.If at e f g) = bound.If at.line (expr_of n e) f g
stat_step n (layer.While at e body) = bound.While at.line (expr_of n e) body
stat_step n (layer.Do at body e) = bound.Do at.line body (expr_of n e)
stat_step n (layer.For at begin e after body) = bound.For at.line (start_of n begin) (option_of n e) (after_of n after) body
stat_step n (layer.Break at) = bound.Break at.line
stat_step n (layer.Continue at) = bound.Continue at.line
stat_step n (layer.Return at e) = bound.Return at.line (option_of n e)

-- a statement
unfoldable pub stat_of : Numbering → CheckedStat → BoundStat
stat_of n x = fold-CheckedStat BoundStat (stat_step n) x

-- the statement after `else`, if there is one
abbrev pub else_of : Numbering → Option CheckedStat → Option BoundStat
else_of n None = None
else_of n (Some x) = Some (stat_of n x)

-- the statements of a body one after the other
abbrev pub stats_of : Numbering → List CheckedStat → List BoundStat
stats_of n [] = []
stats_of n (x ∷ xs) = stat_of n x ∷ stats_of n xs
