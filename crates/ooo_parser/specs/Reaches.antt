-- How far the code's readings reach. No public clause cites this.
use Rattle.std.specs.Prelude.{zero, suc, List, [], ◌∷◌, ◌++◌, None, length, All}
use Rattle.ooo_syntax.specs.declared.symbol.Symbol.{Symbol}
use Rattle.ooo_syntax.specs.declared.terminal.Terminal.{Terminal}
use Rattle.ooo_grammar.specs.declared.limits.ReadError.{ReadError}
use Rattle.ooo_grammar.specs.Forms.{Outcome, Got, Bad, Deep}
use Rattle.ooo_grammar.specs.Readings.{reader}
use Rattle.ooo_grammar.specs.Roots.{Root, Tree, whole_text, expression_root, sum_root, roots}
use Rattle.ooo_grammar.specs.Gives.{Stops, level_limit, room_at}
use Rattle.ooo_grammar.specs.Laws.{Begins, whole}
use Rattle.ooo_parser.specs.declared.readings.Start.{Start}
use Rattle.ooo_parser.specs.declared.readings.Start.TheVariants as start
use Rattle.ooo_parser.specs.declared.readings.Extent.{Extent}
use Rattle.ooo_parser.specs.declared.readings.Extent.TheVariants as extent
use Rattle.ooo_parser.specs.declared.follow.Follow.{Follow}
use Rattle.ooo_parser.specs.declared.follow.Follow.TheVariants as follow
use Rattle.ooo_parser.specs.Words.{in_place}
use Rattle.ooo_parser.specs.Refusals.{IsWithin, AWordMayFollow, AWordIsWithin}

abbrev pub root_of : Start → Root
root_of start.WholeText = whole_text
root_of start.Expression = expression_root
root_of start.Sum = sum_root

-- what a reader within the limits says
abbrev pub reads_at_limits : (x : Root) → List Symbol → Outcome (Tree x)
reads_at_limits x ts = reader level_limit (room_at None) (roots x) ts

-- and of whole texts
abbrev pub reads_whole : (x : Root) → List Symbol → Outcome (Tree x)
reads_whole x ts = whole (reads_at_limits x ts)

-- it gives no tree, for this reason
pub record FailsBy (x : Root) (ts : List Symbol) (e : ReadError) : Type 0 where
  pub stops : Stops (reads_whole x ts) e

-- where it stopped, by the count of symbols left
abbrev pub extent_of : {A : Type 0} → Outcome A → Extent
extent_of (Got a rest) = extent.Whole
extent_of (Bad rest) = extent.Refused (length rest)
extent_of (Deep rest) = extent.TooDeep (length rest)

-- whether the word t may follow in the place of k
abbrev pub FollowsAs : Root → List Symbol → Symbol → Terminal → Follow → Type 0
FollowsAs x read k t follow.Never = Begins (roots x) (read ++ in_place read k t ∷ []) → ⊥
FollowsAs x read k t follow.TooDeep = Begins (roots x) (read ++ in_place read k t ∷ []) × (IsWithin x (read ++ in_place read k t ∷ []) → ⊥)
FollowsAs x read k t follow.Within = IsWithin x (read ++ in_place read k t ∷ [])

-- whether some word may
abbrev pub AWordFollowsAs : Root → List Symbol → Symbol → Follow → Type 0
AWordFollowsAs x read k follow.Never = AWordMayFollow x read k → ⊥
AWordFollowsAs x read k follow.TooDeep = AWordMayFollow x read k × (AWordIsWithin x read k → ⊥)
AWordFollowsAs x read k follow.Within = AWordIsWithin x read k

-- what a reading of symbols says of the last of them, where those before it keep to the limits
abbrev pub follow_of : Extent → Follow
follow_of extent.Whole = follow.Within
follow_of (extent.Refused zero) = follow.Within
follow_of (extent.Refused (suc n)) = follow.Never
follow_of (extent.TooDeep n) = follow.TooDeep

-- the same of the words that were tried, of which none may follow within the limits
abbrev pub SoFar : Root → List Symbol → Symbol → List Terminal → Follow → Type 0
SoFar x read k tried follow.Never = All (λ t. Begins (roots x) (read ++ in_place read k t ∷ []) → ⊥) tried
SoFar x read k tried follow.TooDeep = AWordMayFollow x read k
SoFar x read k tried follow.Within = ⊥
