-- What a reader within limits may say of tokens excludes the rest.
use Rattle.std.proofs.Common.{◌≡◌, ℕ, Bool, append_assoc, List, [], ◌∷◌, ◌++◌, ⊎_elim, refl, sym, ap, ◌∙◌, subst}
use Rattle.std.proofs.lemmas.List.{append_cancel_right}
use Rattle.ooo_syntax.specs.declared.symbol.Symbol.{Symbol}
use Rattle.ooo_grammar.specs.Sets.{Terminals}
use Rattle.ooo_grammar.specs.Codes.{Code}
use Rattle.ooo_grammar.specs.Readings.{Room, form, front}
use Rattle.ooo_grammar.specs.Laws.{Begins, Refuses, Keeps, ExceedsAt}
use Rattle.ooo_grammar.proofs.Once.{compared, front_begins}
use Rattle.ooo_grammar.proofs.Prefixes.{front_prefix, spelled_begins}

module _ (n : ℕ) (room : Room) {A : Type 0} {f : Terminals} {g : A → Terminals} {e : Bool} (c : Code A f g e) where
  -- no beginning within the limits goes beyond the token that is too deep
  stays_before : (ts rest read zs : List Symbol) (k : Symbol) (us : List Symbol) → (x : ExceedsAt n room c ts rest) → front n room c read → x.token ∷ x.later ≡ k ∷ us → read ≡ (x.read ++ k ∷ []) ++ zs → ⊥
  stays_before ts rest read zs k us x w i e =
      let head : x.token ≡ k = cc in
      x.beyond (subst (λ k. front n room c (x.read ++ k ∷ [])) (sym head) (front_prefix n room c (x.read ++ k ∷ []) zs (subst (front n room c) e w)))

  pub too_deep_once : (ts r s : List Symbol) → ExceedsAt n room c ts r → ExceedsAt n room c ts s → r ≡ s
  too_deep_once ts r s p q =
      ⊎_elim (λ h. p.starts ∙ h ∙ sym q.starts) (λ h. ⊎_elim
      (λ a. absurd (stays_before ts s p.read a.2 a.0 a.1 q p.within a.3 a.4))
      (λ a. absurd (stays_before ts r q.read a.2 a.0 a.1 p q.within a.3 a.4)) h)
      (compared p.read (p.token ∷ p.later) q.read (q.token ∷ q.later) (sym p.is ∙ q.is))

  pub refused_or_too_deep : (ts r s : List Symbol) → Refuses c ts r → Keeps n room c ts r → ExceedsAt n room c ts s → ⊥
  refused_or_too_deep ts r s p k q =
      let same : k.read ≡ p.read = append_cancel_right k.read p.read r (sym k.is ∙ p.is) in
      ⊎_elim
      (λ h. let i : k.read ≡ q.read = append_cancel_right k.read q.read r (sym k.is ∙ q.is ∙ ap (λ xs. q.read ++ xs) (sym h)) in
      p.refused q.token q.later h (subst (λ xs. Begins c (xs ++ q.token ∷ [])) (sym i ∙ same) q.begins))
      (λ h. ⊎_elim
      (λ a. stays_before ts s k.read a.2 a.0 a.1 q k.within a.3 a.4)
      (λ a. p.refused a.0 a.1 a.3 (subst (λ xs. Begins c (xs ++ a.0 ∷ [])) same
      (front_begins c q.read (k.read ++ a.0 ∷ []) a.2 a.4 (front_begins c (q.read ++ q.token ∷ []) q.read (q.token ∷ []) refl q.begins)))) h)
      (compared k.read r q.read (q.token ∷ q.later) (sym k.is ∙ q.is))

  pub spelled_or_too_deep : (ts rest : List Symbol) (a : A) → form n room c ts a [] → ExceedsAt n room c ts rest → ⊥
  spelled_or_too_deep ts rest a h q =
      q.beyond (front_prefix n room c (q.read ++ q.token ∷ []) q.later (subst (front n room c) (q.is ∙ sym (append_assoc q.read (q.token ∷ []) q.later)) (spelled_begins c n room ts a h)))
