-- Where symbols are refused.
use Rattle.std.proofs.Common.{◌≡◌, List, ◌∷◌, ◌++◌, Result, Ok, Err, IfOk, sym, ap, subst}
use Rattle.std.specs.declared.alloc.AllocError.{AllocError}
use Rattle.std.proofs.lemmas.List.{append_cancel_right}
use Rattle.ooo_lexer.specs.declared.position.Position.{Position}
use Rattle.ooo_syntax.specs.declared.symbol.Symbol.{Symbol}
use Rattle.ooo_parser.specs.declared.refusals.Refusal.{Refusal}
use Rattle.ooo_grammar.specs.Roots.{Root}
use Rattle.ooo_parser.specs.Refusals.{IsWithin, IsToldOf, IsRefused, refused, StopsAt}

-- what was read keeps to the limits
pub stops_within : (x : Root) (read rest : List Symbol) → StopsAt x read rest → IsWithin x read
stops_within x read rest s = subst (IsWithin x) (sym (append_cancel_right read s.keeps.read rest s.keeps.is)) s.keeps.within

-- what is told of the refused symbol is told of all symbols
pub of_told : (x : Root) (read rest later : List Symbol) (k : Symbol) (end : Position) (r : Result Refusal AllocError) → rest ≡ k ∷ later → StopsAt x read rest → IfOk r (λ r. IsToldOf x read k later end r.breach r.place) → IfOk r (λ r. IsRefused x (read ++ rest) end r.breach r.place)
of_told x read rest later k end (Ok r) e s t = refused read k later (ap (λ r. read ++ r) e) (subst (λ r. StopsAt x read r) e s) t
of_told x read rest later k end (Err a) e s t = t
