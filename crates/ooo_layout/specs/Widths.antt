-- The slots of the statement after `else`.
use Rattle.std.specs.Prelude.{Option, Some, None}
use Rattle.ooo_bound.specs.declared.stat.BoundStat.{BoundStat}
use Rattle.ooo_shapes.specs.declared.around.Widths.{Widths}
use Rattle.ooo_shapes.specs.Widths.{nothing, stat_widths}

-- of the statement after `else`, if there is one
abbrev pub else_widths : Option BoundStat → Widths
else_widths None = nothing
else_widths (Some s) = stat_widths s
