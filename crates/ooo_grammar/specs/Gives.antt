-- What a reader's answer says of the tokens.
use Rattle.std.specs.Prelude.{◌≡◌, ℕ, Bool, List, Option, Some, Result, Ok, Err, length}
use Rattle.std.specs.Borrow.{Bor}
use Rattle.ooo_syntax.specs.declared.symbol.Symbol.{Symbol}
use Rattle.ooo_grammar.specs.declared.limits.ReadError.{ReadError}
use Rattle.ooo_grammar.specs.declared.limits.ReadError.TheVariants as error
use Rattle.ooo_grammar.specs.declared.limits.Limits.{Limits}
use Rattle.ooo_grammar.specs.declared.limits.TheConstants.{LEVEL_LIMIT, OPERATOR_LIMIT}
use Rattle.ooo_grammar.specs.Forms.{Outcome, Got, Bad, Deep, Reader}
use Rattle.ooo_grammar.specs.Sets.{Terminals}
use Rattle.ooo_grammar.specs.Codes.{Code}
use Rattle.ooo_grammar.specs.Readings.{Room, reader}

-- an outcome as an answer: where it stopped, by the count of tokens left
abbrev pub answer : {A : Type 0} → Outcome A → Result (A × List Symbol) ReadError
answer (Got a rest) = Ok (a, rest)
answer (Bad rest) = Err (error.Syntax (length rest))
answer (Deep rest) = Err (error.TooDeep (length rest))

-- the error of an outcome, unless memory ran out
abbrev pub Stops : {A : Type 0} → Outcome A → ReadError → Type 0
Stops o error.OutOfMemory = Unit {0}
Stops o e = answer o ≡ Err e

-- the outcome is the answer, unless memory ran out
abbrev pub Gives : {A : Type 0} → Outcome A → Result (A × Bor (List Symbol)) ReadError → Type 0
Gives o (Ok found) = o ≡ Got found.0 found.1.now
Gives o (Err e) = Stops o e

-- how many operators one expression may hold
abbrev pub operator_limit : ℕ
operator_limit = OPERATOR_LIMIT

-- on how many levels a token may stand: outside of everything, and inside 64 things
abbrev pub level_limit : ℕ
level_limit = LEVEL_LIMIT

-- the room where an expression may hold so many operators
abbrev pub room_at : Option ℕ → Room
room_at bound = record { limit = Some operator_limit; bound = bound }

-- how a code reads at limits
abbrev pub reads_at : {A : Type 0} {f : Terminals} {g : A → Terminals} {e : Bool} → Limits → Code A f g e → Reader A
reads_at l c = reader l.levels (room_at l.bound) c
