-- What a reader of types says of symbols.
use Rattle.std.proofs.Common.{◌≡◌, ℕ, ◌<◌, ◌-◌, ◌==◌, Bool, false, List, [], ◌∷◌, ◌++◌, None, Err, MatchBool, length, take, drop, sym, ap, ◌∙◌, subst, arith, length-append, length-drop}
use Rattle.std.proofs.lemmas.Bool.Decides.{nat_tests}
use Rattle.std.proofs.lemmas.List.{take_all}
use Rattle.std.proofs.Math.Seq.{drop-append_seam}
use Rattle.ooo_syntax.specs.declared.symbol.Symbol.{Symbol}
use Rattle.ooo_syntax.specs.declared.leaves.TypeName.{TypeName}
use Rattle.ooo_grammar.specs.declared.limits.ReadError.TheVariants as error
use Rattle.ooo_grammar.specs.Forms.{Outcome, Got}
use Rattle.ooo_grammar.specs.Lexis.{type_name}
use Rattle.ooo_grammar.specs.Readings.{reader}
use Rattle.ooo_grammar.specs.Gives.{answer, level_limit, room_at}
use Rattle.ooo_grammar.specs.Laws.{DecidesTypes}
use Rattle.ooo_parser.specs.Refusals.{IsType, IsSignalOfType, EndsInSignalOfType}

reads_type : List Symbol → Outcome TypeName
reads_type ts = reader level_limit (room_at None) type_name ts

module _ (types : DecidesTypes) (ts : List Symbol) where
  pub rest_tells : (t : TypeName) (rest : List Symbol) (b : Bool) → reader level_limit (room_at None) type_name ts ≡ Got t rest → b ≡ (length rest == 0) → MatchBool b (IsType ts) (IsType ts → ⊥)
  rest_tells t [] b e i = subst (λ b. MatchBool b (IsType ts) (IsType ts → ⊥)) (sym i) (t, (types level_limit (room_at None) ts t).0 e)
  rest_tells t (k ∷ us) b e i =
      let n : (length (k ∷ us) == 0) ≡ false = grind (arith, nat_tests) in
      subst (λ b. MatchBool b (IsType ts) (IsType ts → ⊥)) (sym (i ∙ n)) (λ h. let f = (types level_limit (room_at None) ts h.0).1 h.1 in absurd (other t h.0 e f))
    where
      other : (t u : TypeName) → reader level_limit (room_at None) type_name ts ≡ Got t (k ∷ us) → reader level_limit (room_at None) type_name ts ≡ Got u [] → ⊥
      other t u e f = cc

  pub no_type : (n : ℕ) → answer (reader level_limit (room_at None) type_name ts) ≡ Err (error.Syntax n) → IsType ts → ⊥
  no_type n e h = let f = ap answer ((types level_limit (room_at None) ts h.0).1 h.1) in cc

  pub deep_type : (n : ℕ) → answer (reader level_limit (room_at None) type_name ts) ≡ Err (error.TooDeep n) → IsType ts → ⊥
  deep_type n e h = let f = ap answer ((types level_limit (room_at None) ts h.0).1 h.1) in cc

-- no suffix is `sc_signal < type`
pub nowhere : (ts : List Symbol) → ((k : ℕ) → k < length ts → IsSignalOfType (drop k ts) → ⊥) → EndsInSignalOfType ts → ⊥
nowhere ts h e = at e.0 e.1 e.2 e.3
  where
    at : (before after : List Symbol) → ts ≡ before ++ after → IsSignalOfType after → ⊥
    at before [] i s = s
    at before (k ∷ us) i s =
        let here : length before < length ts = omega (arith, ap length i, length-append before (k ∷ us)) in
        let rest : drop (length before) ts ≡ k ∷ us = ap (drop (length before)) i ∙ drop-append_seam before (k ∷ us) in
        h (length before) here (subst IsSignalOfType (sym rest) s)

-- a slice up to the end
pub to_end : (at : ℕ) (ts : List Symbol) → take (length ts - at) (drop at ts) ≡ drop at ts
to_end at ts = take_all (length ts - at) (drop at ts) (omega (arith, length-drop at ts))
