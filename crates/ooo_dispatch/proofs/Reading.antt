-- The activation of a process and number of the scheduler's run, in the log of the steps.
use Rattle.std.proofs.Common.{◌≡◌, ℕ, zero, suc, ◌+◌, ◌==◌, ◌⊎◌, inl, inr, ⊎_elim, List, [], ◌∷◌, ◌++◌, length, Bool, true, false, if◌then◌else◌, Some, None, append-nil, refl, sym, ap, ◌∙◌, subst, arith}
use Rattle.std.specs.Prelude.{slice_get}
use Rattle.std.proofs.lemmas.Bool.{eqb-true}
use Rattle.std.proofs.lemmas.List.{length-append}
use Rattle.std.proofs.lemmas.List.Elements.{filter-append}
use Rattle.ooo_meaning.specs.Sequence.{made_by}
use Rattle.ooo_meaning.specs.World.{Made}
use Rattle.ooo_schedules.specs.Model.{In, count}
use Rattle.ooo_dispatch.specs.Rules.{Rules}
use Rattle.ooo_dispatch.specs.Scheduler.{AreMadeAs, IsMadeAs, none_made, more_made}
use Rattle.ooo_dispatch.proofs.Turning.{Activation}

-- what stands in a list with one more at its end
get_at_end : {A : Type 0} (xs : List A) (y : A) (k : ℕ) (x : A) → slice_get (xs ++ y ∷ []) k ≡ Some x → (slice_get xs k ≡ Some x) ⊎ (k ≡ length xs) × (y ≡ x)
get_at_end [] y zero x e = inr (refl, (let same : y ≡ x = cc in same))
get_at_end [] y (suc k) x e = absurd cc
get_at_end (z ∷ zs) y zero x e = inl e
get_at_end (z ∷ zs) y (suc k) x e = ⊎_elim (λ h. inl h) (λ h. inr (ap suc h.0, h.1)) (get_at_end zs y k x e)

module _ (r : Rules) where
  -- a process has as many in both
  counted : (ms : List Made) (xs : List Activation) → AreMadeAs r ms xs → (q : ℕ) → count q xs ≡ length (made_by q ms)
  counted _ _ none_made q = refl
  counted _ _ (more_made {ms} {xs} m x a is number) q =
      ap (λ n. if n == q then suc (count q xs) else count q xs) (sym is.process) ∙ at (m.place.process == q) (counted ms xs a q)
      ∙ sym (ap length (filter-append (λ n. n.place.process == q) ms (m ∷ [])) ∙ length-append (made_by q ms) (made_by q (m ∷ [])))
    where
      at : (b : Bool) → count q xs ≡ length (made_by q ms) → (if b then suc (count q xs) else count q xs) ≡ length (made_by q ms) + length (if b then m ∷ [] else [])
      at true e = omega (arith, e)
      at false e = omega (arith, e)

  -- the log's activation of the process and number
  pub record IsFound (xs : List Activation) (q k : ℕ) (m : Made) : Type 0 where
    pub act : Activation
    pub there : In act xs
    pub process : act.process ≡ q
    pub number : act.number ≡ k
    pub made : IsMadeAs r m act

  pub found : (ms : List Made) (xs : List Activation) → AreMadeAs r ms xs → (q k : ℕ) (m : Made) → slice_get (made_by q ms) k ≡ Some m → IsFound xs q k m
  found _ _ none_made q k m e = absurd (let c : None ≡ Some m = e in cc)
  found _ _ (more_made {ms} {xs} n x a is number) q k m e =
      at (n.place.process == q) refl (λ i. older (found ms xs a q k m i)) (counted ms xs a q) (ap (λ l. slice_get l k) (sym (filter-append (λ z. z.place.process == q) ms (n ∷ []))) ∙ e)
    where
      older : IsFound xs q k m → IsFound (x ∷ xs) q k m
      older f = record { act = f.act; there = inr f.there; process = f.process; number = f.number; made = f.made }

      at : (b : Bool) → (n.place.process == q) ≡ b → (slice_get (made_by q ms) k ≡ Some m → IsFound (x ∷ xs) q k m) → count q xs ≡ length (made_by q ms) →
          slice_get (made_by q ms ++ (if b then n ∷ [] else [])) k ≡ Some m → IsFound (x ∷ xs) q k m
      at false h rest c i = rest (ap (λ l. slice_get l k) (sym (append-nil (made_by q ms))) ∙ i)
      at true h rest c i = ⊎_elim rest (λ s. here s.0 s.1) (get_at_end (made_by q ms) n k m i)
        where
          mine : x.process ≡ q
          mine = sym is.process ∙ eqb-true n.place.process q h

          here : k ≡ length (made_by q ms) → n ≡ m → IsFound (x ∷ xs) q k m
          here last same = record {
            act = x;
            there = inl refl;
            process = mine;
            number = number ∙ ap (λ p. count p xs) mine ∙ c ∙ sym last;
            made = subst (λ z. IsMadeAs r z x) same is;
          }
