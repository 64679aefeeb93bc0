-- One tree, and one refused token.
use Rattle.std.proofs.Common.{◌≡◌, Bool, List, [], ◌∷◌, ◌++◌, ◌⊎◌, inl, inr, ⊎_elim, refl, sym, ap, ◌∙◌, subst, append_assoc, append-nil}
use Rattle.ooo_syntax.specs.declared.symbol.Symbol.{Symbol}
use Rattle.ooo_grammar.specs.Sets.{Terminals}
use Rattle.ooo_grammar.specs.Codes.{Code}
use Rattle.ooo_grammar.specs.Readings.{free}
use Rattle.ooo_grammar.specs.Laws.{Derives, Begins, Refuses}
use Rattle.ooo_grammar.proofs.Whole.{completes, begins, finds, one}

-- two fronts of one list are the same, or one goes on with a token of the other's rest
abbrev pub IsAhead : List Symbol → List Symbol → List Symbol → Type 0
IsAhead x y s = (k : Symbol) × (us zs : List Symbol) × (s ≡ k ∷ us) × (x ≡ (y ++ k ∷ []) ++ zs)

abbrev pub Compared : List Symbol → List Symbol → List Symbol → List Symbol → Type 0
Compared x r y s = (r ≡ s) ⊎ (IsAhead x y s ⊎ IsAhead y x r)

pub compared : (x r y s : List Symbol) → x ++ r ≡ y ++ s → Compared x r y s
compared [] r [] s e = inl e
compared [] r (k ∷ y) s e = inr (inr (k, y ++ s, y, e, refl))
compared (k ∷ x) r [] s e = inr (inl (k, x ++ r, x, sym e, refl))
compared (j ∷ x) r (k ∷ y) s e =
    let same : j ≡ k = cc in
    let tails : x ++ r ≡ y ++ s = cc in
    ⊎_elim (λ h. inl h) (λ h. inr (⊎_elim
    (λ a. inl (a.0, a.1, a.2, a.3, ap (λ xs. j ∷ xs) a.4 ∙ ap (λ i. i ∷ ((y ++ a.0 ∷ []) ++ a.2)) same))
    (λ a. inr (a.0, a.1, a.2, a.3, ap (λ xs. k ∷ xs) a.4 ∙ ap (λ i. i ∷ ((x ++ a.0 ∷ []) ++ a.2)) (sym same))) h)) (compared x r y s tails)

module _ {A : Type 0} {f : Terminals} {g : A → Terminals} {e : Bool} (c : Code A f g e) where
  pub one_tree : (ts : List Symbol) (a b : A) → Derives c ts a → Derives c ts b → a ≡ b
  one_tree ts a b d i = one c d.0 free ts a b (finds c d.0 free ts a d.1) i

  -- a prefix of a beginning is one
  pub front_begins : (ts front back : List Symbol) → ts ≡ front ++ back → Begins c ts → Begins c front
  front_begins ts front back is b =
      let d = completes c ts b in
      begins c front (back ++ d.0) d.1 (subst (λ xs. Derives c xs d.1) (ap (λ xs. xs ++ d.0) is ∙ append_assoc front back d.0) d.2)

  pub once : (ts r s : List Symbol) → Refuses c ts r → Refuses c ts s → r ≡ s
  once ts r s p q = ⊎_elim (λ h. h) (λ h. ⊎_elim
      (λ a. absurd (q.refused a.0 a.1 a.3 (front_begins p.read (q.read ++ a.0 ∷ []) a.2 a.4 p.begins)))
      (λ a. absurd (p.refused a.0 a.1 a.3 (front_begins q.read (p.read ++ a.0 ∷ []) a.2 a.4 q.begins))) h) (compared p.read r q.read s (sym p.is ∙ q.is))

  pub no_tree : (ts rest : List Symbol) (a : A) → Refuses c ts rest → Derives c ts a → ⊥
  no_tree ts rest a r d = at rest refl
    where
      at : (us : List Symbol) → rest ≡ us → ⊥
      at [] i = r.unfinished i a d
      at (k ∷ us) i = r.refused k us i (front_begins ts (r.read ++ k ∷ []) us (r.is ∙ ap (λ xs. r.read ++ xs) i ∙ sym (append_assoc r.read (k ∷ []) us)) (begins c ts [] a (subst (λ xs. Derives c xs a) (sym (append-nil ts)) d)))
