-- What the front answers to a text, layer by layer.
use Rattle.std.specs.Prelude.{◌≡◌, ℕ, ◌<◌, ◌≤◌, List, [], length, Result, Ok, Err}
use Rattle.ooo_lexer.specs.Breaches.{HasBreach}
use Rattle.ooo_lexer.specs.Pieces.{Piece, Cuts}
use Rattle.ooo_lexer.specs.Positions.{position_of_end, tokens_after}
use Rattle.ooo_lexer.specs.declared.position.Position.{Position}
use Rattle.ooo_syntax.specs.declared.error.ParseBreach.{ParseBreach}
use Rattle.ooo_syntax.specs.declared.symbol.Symbol.{Symbol}
use Rattle.ooo_syntax.specs.declared.unit.Unit.{Unit as UnitSpec}
use Rattle.ooo_grammar.specs.Roots.{whole_text}
use Rattle.ooo_parser.specs.Refusals.{IsTreeOf, IsRefused as AreRefused}
use Rattle.ooo_parser.specs.Sources.{symbols_in}
use Rattle.ooo_checked.specs.declared.breach.TypeBreach.{TypeBreach}
use Rattle.ooo_types.specs.Told.{IsLeast, breaches_of}
use Rattle.ooo_types.specs.Units.{unit_of}
use Rattle.ooo_bound.specs.declared.model.Bound.{Bound}
use Rattle.ooo_walk.specs.declared.refusal.Refusal.{Refusal}
use Rattle.ooo_elaborate.specs.Elaborated.{bound_of}
use Rattle.ooo_code.specs.declared.design.Design.{Design}
use Rattle.ooo_segments.specs.Beginnings.{beginnings, greatest_segments}
use Rattle.ooo_shapes.specs.Designs.{design_of}
use Rattle.ooo_shapes.specs.Sizes.{code_size}
use Rattle.ooo_lower.specs.declared.designs.TheConstants.{GREATEST_SIZE}
use Rattle.ooo_front.specs.declared.answer.Accepted.{Accepted}
use Rattle.ooo_front.specs.declared.answer.Refused.{Refused}
use Rattle.ooo_front.specs.declared.answer.Refused.TheVariants as refused

-- the symbols of a text that is cut into these pieces
abbrev pub text_symbols : List ℕ → List Piece → List Symbol
text_symbols text pieces = symbols_in text (tokens_after [] pieces)

-- the text is cut, and the grammar spells it as this tree
pub record IsSpelled (text : List ℕ) (tree : UnitSpec) : Type 0 where
  pub pieces : List Piece
  pub cut : Cuts text pieces
  pub spelled : IsTreeOf whole_text (text_symbols text pieces) tree

-- the text is cut, and the grammar refuses it, as this and there
pub record IsMisspelled (text : List ℕ) (breach : ParseBreach) (at : Position) : Type 0 where
  pub pieces : List Piece
  pub cut : Cuts text pieces
  pub refused : AreRefused whole_text (text_symbols text pieces) (position_of_end text) breach at

-- the grammar spells the text, and of what is wrong with its names and types this is told, at this place
pub record IsMistyped (text : List ℕ) (breach : TypeBreach) (at : Position) : Type 0 where
  pub tree : UnitSpec
  pub spelled : IsSpelled text tree
  pub told : IsLeast (record { what = breach; at = at }) (breaches_of tree)

-- the bound model of a tree whose names and types are right, or why it can't be elaborated
abbrev pub elaborated : UnitSpec → Result Bound Refusal
elaborated tree = bound_of (unit_of tree).tree

-- the grammar spells the text, its names and types are right, and its elaboration comes to this
pub record IsElaborated (text : List ℕ) (to : Result Bound Refusal) : Type 0 where
  pub tree : UnitSpec
  pub spelled : IsSpelled text tree
  pub right : breaches_of tree ≡ []
  pub is : elaborated tree ≡ to

-- what is accepted has the design of its bound model, whose code isn't too large
pub record IsLowered (accepted : Accepted) : Type 0 where
  pub design : accepted.design ≡ design_of accepted.bound
  pub within : code_size accepted.bound ≤ GREATEST_SIZE

-- a design has no more segments than it may have, or it has more
abbrev pub HasFew : Design → Type 0
HasFew design = length (beginnings design) ≤ greatest_segments

abbrev pub HasMany : Design → Type 0
HasMany design = greatest_segments < length (beginnings design)

-- the text has this bound model, and its design, whose segments are so many, and no more than it may have
pub record IsAccepted (text : List ℕ) (accepted : Accepted) : Type 0 where
  pub elaborated : IsElaborated text (Ok accepted.bound)
  pub lowered : IsLowered accepted
  pub segments : accepted.segments ≡ length (beginnings accepted.design)
  pub few : HasFew accepted.design

-- the text has a bound model, whose code is too large
pub record IsTooLarge (text : List ℕ) : Type 0 where
  pub bound : Bound
  pub elaborated : IsElaborated text (Ok bound)
  pub large : GREATEST_SIZE < code_size bound

-- the text has a bound model, whose code isn't too large, but whose design has too many segments
pub record IsTooMany (text : List ℕ) : Type 0 where
  pub bound : Bound
  pub elaborated : IsElaborated text (Ok bound)
  pub within : code_size bound ≤ GREATEST_SIZE
  pub many : HasMany (design_of bound)

-- the front's answer to a text: the first layer that refuses it answers, and it is accepted where none does; no text is refused for want of memory
abbrev pub IsFrontOf : List ℕ → Result Accepted Refused → Type 0
IsFrontOf text (Ok accepted) = IsAccepted text accepted
IsFrontOf text (Err (refused.Lexer breach at)) = HasBreach text breach at
IsFrontOf text (Err (refused.Parser breach at)) = IsMisspelled text breach at
IsFrontOf text (Err (refused.Types breach at)) = IsMistyped text breach at
IsFrontOf text (Err (refused.Elaborate why)) = IsElaborated text (Err why)
IsFrontOf text (Err refused.CodeTooLarge) = IsTooLarge text
IsFrontOf text (Err refused.TooManySegments) = IsTooMany text
IsFrontOf text (Err refused.OutOfMemory) = ⊥

-- an answer to a text: the front's, or memory ran out
abbrev pub IsAnswerTo : List ℕ → Result Accepted Refused → Type 0
IsAnswerTo text (Err refused.OutOfMemory) = Unit {0}
IsAnswerTo text answer = IsFrontOf text answer
