-- A design with the tables that are computed of it, and the rule by them: which process may be dispatched.
use Rattle.std.specs.Prelude.{◌≡◌, ◌≢◌, ℕ, ◌<◌, ◌≤◌, ◌⊎◌, List, Option, Some, None, true, false}
use Rattle.ooo_time.specs.declared.stamp.Stamp.{Stamp}
use Rattle.ooo_time.specs.declared.delay.Delay.{Delay}
use Rattle.ooo_time.specs.Stamps.{IsBefore}
use Rattle.ooo_time.specs.Delays.{advanced}
use Rattle.ooo_code.specs.declared.design.Design.{Design}
use Rattle.ooo_code.specs.declared.limits.Limits.{Limits}
use Rattle.ooo_advance.specs.Rows.{entry_at}
use Rattle.ooo_schedules.specs.Model.{Act, Front, In, IsLeast, last}
use Rattle.ooo_tables.specs.declared.tables.Tables.{Tables}
use Rattle.ooo_dispatch.specs.declared.reads.Reads.{Reads}
use Rattle.ooo_dispatch.specs.Boards.{Board, IsFront, model}
use Rattle.ooo_dispatch.specs.Rules.{Rules, clash, process_of}

-- a design with limits and its tables, as the board's rule sees it
abbrev pub rules_of : Design → Limits → Tables → Rules
rules_of design limits t = record {
  design = design;
  limits = limits;
  segments = t.graph.segments;
  edges = t.graph.edges;
  access = t.access;
  clashes = t.clash;
}

-- for each two segments the least delay by which the second can come after the first
abbrev pub Advance : Type 0
Advance = List (List (Option Delay))

-- a segment comes before a front and clashes strictly with it, or at its stamp, by a process before it, and clashes with it
abbrev pub ClashesAt : (r : Rules) → (b : ℕ) → Stamp → (p : ℕ) → Front Stamp → Type 0
ClashesAt r b s p f =
    IsBefore s f.stamp × (clash r b f.segment true ≡ true)
    ⊎ (s ≡ f.stamp) × (process_of r b < p) × (clash r b f.segment false ≡ true)

-- the front g of another process holds the front f of process p up: it may lead to a segment, not of p, that clashes with f
pub record HoldsUp (r : Rules) (least : Advance) (g : Front Stamp) (p : ℕ) (f : Front Stamp) : Type 0 where
  pub segment : ℕ
  pub other : process_of r segment ≢ p
  pub delay : Delay
  pub leads : entry_at least g.segment segment ≡ Some delay
  pub clashes : ClashesAt r segment (advanced g.stamp delay) p f

-- the place of a process at a stamp is below the cut: in time, not cut off by a committed activation, and before the delta
-- limit, if that is where the least front stands
pub record IsBelowCut (r : Rules) (b : Board r) (s : Stamp) (p : ℕ) : Type 0 where
  pub in_time : s.time.0 ≤ r.limits.stop.0
  pub uncut : (y : Act Stamp Reads) → In y b.log → (model r).Cuts y s p → ⊥
  pub before_limit :
      (q : ℕ) (g : Front Stamp) → IsFront r b q g → IsLeast (model r) b q g → g.stamp.delta ≡ r.limits.deltas →
      IsBefore s g.stamp

-- process p may be dispatched at its front, by the tables
pub record MayRun (r : Rules) (least : Advance) (b : Board r) (p : ℕ) (f : Front Stamp) : Type 0 where
  pub idle : last p b.out ≡ None
  pub front : IsFront r b p f
  pub below_cut : IsBelowCut r b f.stamp p
  pub below_limit : f.stamp.delta < r.limits.deltas
  pub free : (q : ℕ) (g : Front Stamp) → q ≢ p → IsFront r b q g → HoldsUp r least g p f → ⊥
