-- What holds of texts and refusals.
use Rattle.std.specs.Prelude.{◌≡◌, List, ◌⊎◌}
use Rattle.ooo_lexer.specs.declared.position.Position.{Position}
use Rattle.ooo_syntax.specs.declared.error.ParseBreach.{ParseBreach}
use Rattle.ooo_syntax.specs.declared.symbol.Symbol.{Symbol}
use Rattle.ooo_grammar.specs.Roots.{Root, Tree}
use Rattle.ooo_parser.specs.Refusals.{IsTreeOf, IsRefused}

-- the symbols have one tree, or one breach at one place
pub record HasOneAnswer (x : Root) (ts : List Symbol) (end : Position) : Type 0 where
  -- they have a tree or are refused
  pub answered : ((tree : Tree x) × IsTreeOf x ts tree) ⊎ ((b : ParseBreach) × (p : Position) × IsRefused x ts end b p)
  -- not both
  pub not_both : (tree : Tree x) (b : ParseBreach) (p : Position) → IsTreeOf x ts tree → IsRefused x ts end b p → ⊥
  -- they have no other tree, and are refused in no other way
  pub one_tree : (a b : Tree x) → IsTreeOf x ts a → IsTreeOf x ts b → a ≡ b
  pub one_refusal : (b c : ParseBreach) (p q : Position) → IsRefused x ts end b p → IsRefused x ts end c q → (b ≡ c) × (p ≡ q)

abbrev pub OneAnswer : Type 0
OneAnswer = (x : Root) (ts : List Symbol) (end : Position) → HasOneAnswer x ts end
