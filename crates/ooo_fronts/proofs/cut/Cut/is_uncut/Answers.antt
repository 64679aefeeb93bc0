-- A place is uncut where it is within each of the three.
use Rattle.std.proofs.Common.{sym, ◌∙◌}
use Rattle.ooo_fronts.proofs.Below.{from_uncut, to_uncut}
use Rattle.ooo_fronts.proofs.cut.Cut.is_uncut.Goals as goal
use Rattle.ooo_fronts.proofs.cut.Cut.is_uncut.Goals.{then-is_in_time, else-is_in_time}

pub returns-then-is_before_break : goal.returns-then-is_before_break
returns-then-is_before_break c = λ r ys k.
    elim c.if-is_in_time.branch [
      | then-is_in_time v ↦ (
        λ t. to_uncut r ys c.args.self.now k c.args.at (record {
          time = c.is_in_time.ensures.0 v.if-is_in_time.true;
          broken = v.is_before_break.ensures.0 (sym v.value-is ∙ c.if-is_before_break.true);
          stopped = c.is_before_stop.ensures.0 t;
        }),
        λ h. c.is_before_stop.ensures.1 (from_uncut r ys c.args.self.now k c.args.at h).stopped,
      )
      | else-is_in_time v ↦ absurd cc
    ]

pub returns-else-is_before_break : goal.returns-else-is_before_break
returns-else-is_before_break c = λ r ys k. (
  λ t. absurd cc,
  λ h.
      let x = from_uncut r ys c.args.self.now k c.args.at h in
      elim c.if-is_in_time.branch [
        | then-is_in_time v ↦ let y = v.is_before_break.ensures.1 x.broken in absurd cc
        | else-is_in_time v ↦ let y = c.is_in_time.ensures.1 x.time in absurd cc
      ],
)
