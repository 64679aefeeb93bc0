-- What an answer says.
use Rattle.std.specs.Prelude.{◌≡◌, [], Bool, List, Result, Err, MatchBool, MatchResult}
use Rattle.std.specs.Borrow.{Bor}
use Rattle.ooo_lexer.specs.declared.position.Position.{Position}
use Rattle.ooo_syntax.specs.declared.error.ParseBreach.{ParseBreach}
use Rattle.ooo_syntax.specs.declared.error.ParseError.{ParseError}
use Rattle.ooo_syntax.specs.declared.error.ParseError.TheVariants as error
use Rattle.ooo_syntax.specs.declared.symbol.Symbol.{Symbol}
use Rattle.ooo_grammar.specs.declared.limits.ReadError.{ReadError}
use Rattle.ooo_grammar.specs.Forms.{Outcome, Got}
use Rattle.ooo_grammar.specs.Gives.{Gives, Stops}
use Rattle.ooo_grammar.specs.Laws.{whole}
use Rattle.ooo_parser.specs.Refusals.{IsForeign}

-- where the answer is a refusal, this holds of its breach and its place
abbrev pub IfRefused : {T : Type 0} → Result T ParseError → (ParseBreach → Position → Type 0) → Type 0
IfRefused answer P = (breach : ParseBreach) (place : Position) → answer ≡ Err (error.Refused breach place) → P breach place

-- what a reader's answer is for whole texts: what follows a spelling is refused
abbrev pub IsWholeOf : {T : Type 0} → Result (T × Bor (List Symbol)) ReadError → Result T ReadError → Type 0
IsWholeOf {T} answer result = (o : Outcome T) → Gives o answer → MatchResult result (λ tree. whole o ≡ Got tree []) (Stops (whole o))

-- the test tells whether the symbol is foreign
abbrev pub TellsForeign : List Symbol → Symbol → Bool → Type 0
TellsForeign read k b = MatchBool b (IsForeign read k) (IsForeign read k → ⊥)
