-- A measure that falls along each call: how many calls a function leads to.
use Rattle.std.proofs.Common.{◌≡◌, ◌∙◌, refl, sym, ap, subst, arith, ℕ, zero, suc, ◌+◌, ◌<◌, ◌≤◌, List, [], ◌∷◌, length, Bool, true, false, ◌⊎◌, inl, inr, ◌==◌}
use Rattle.std.specs.Prelude.{◌&&◌, ◌||◌, Contains, Some, slice_get}
use Rattle.std.specs.List.{Any}
use Rattle.std.proofs.lemmas.Bool.{eq-eqb, eqb-true, and_parts, and_from, or_cases, or_left, or_right}
use Rattle.std.proofs.lemmas.List.Folds.{list_any_at, Any-from_list_any}
use Rattle.ooo_lemmas.specs.Counting.{one_if}
use Rattle.ooo_lemmas.proofs.Contained.{contains_place}
use Rattle.ooo_lemmas.proofs.Counting.{one_at_most, one_more, strictly}
use Rattle.ooo_calls.specs.declared.call.Call.{Call}
use Rattle.ooo_calls.specs.Cycles.{reaches, is_on_cycle}
use Rattle.ooo_sound_model.specs.Ranks.{AcyclicFalls}

-- ---- ways

-- a function is another, or reaches it within so many calls
abbrev pub Way : ℕ → List Call → ℕ → ℕ → Type 0
Way k cs a b = (a ≡ b) ⊎ (reaches k cs a b ≡ true)

-- a call, and a way from the function that it calls
reaches_by : (cs : List Call) (c : Call) (k b : ℕ) → Contains cs c → Way k cs c.to b → reaches (suc k) cs c.from b ≡ true
unfolding reaches
reaches_by cs c k b (i, lt, is) way =
    let p : Call → Bool = λ x. (x.from == c.from) && ((x.to == b) || reaches k cs x.to b) in
    let on : ((c.to == b) || reaches k cs c.to b) ≡ true = elim way [ inl e ↦ or_left _ _ (eq-eqb c.to b e) | inr r ↦ or_right _ _ r ] in
    let here : p c ≡ true = and_from _ _ (eq-eqb c.from c.from refl) on in
    list_any_at p cs i c lt (subst (λ x. p x ≡ true) (sym is) here)

-- what a first call of a way is
record Begins (k : ℕ) (cs : List Call) (a b : ℕ) : Type 0 where
  pub call : Call
  pub among : Contains cs call
  pub from : call.from ≡ a
  pub on : Way k cs call.to b

begins : (k : ℕ) (cs : List Call) (a b : ℕ) → reaches (suc k) cs a b ≡ true → Begins k cs a b
unfolding reaches
begins k cs a b r =
    let p : Call → Bool = λ x. (x.from == a) && ((x.to == b) || reaches k cs x.to b) in
    let f : Any (λ x. p x ≡ true) cs = Any-from_list_any p cs r in
    let c : Call = f.1 in
    let parts = and_parts (c.from == a) ((c.to == b) || reaches k cs c.to b) f.4 in
    record {
      call = c;
      among = (f.0, f.2, f.3);
      from = eqb-true c.from a parts.0;
      on = elim (or_cases (c.to == b) (reaches k cs c.to b) parts.1) [ inl e ↦ inl (eqb-true c.to b e) | inr s ↦ inr s ];
    }

reaches_none : (cs : List Call) (a b : ℕ) → reaches 0 cs a b ≡ false
unfolding reaches
reaches_none cs a b = refl

-- what is reached is reached within one call more
one_longer : (k : ℕ) (cs : List Call) (a b : ℕ) → reaches k cs a b ≡ true → reaches (suc k) cs a b ≡ true
one_longer zero cs a b r = absurd (let e = reaches_none cs a b in cc)
one_longer (suc k) cs a b r =
    let first = begins k cs a b r in
    let on : Way (suc k) cs first.call.to b = elim first.on [ inl e ↦ inl e | inr s ↦ inr (one_longer k cs first.call.to b s) ] in
    subst (λ x. reaches (suc (suc k)) cs x b ≡ true) first.from (reaches_by cs first.call (suc k) b first.among on)

-- ---- counting

abbrev count : {A : Type 0} → (A → Bool) → List A → ℕ
count p [] = 0
count p (x ∷ xs) = one_if (p x) + count p xs

count_at_most : {A : Type 0} (p : A → Bool) (xs : List A) → count p xs ≤ length xs
count_at_most p [] = omega arith
count_at_most p (x ∷ xs) = let h = count_at_most p xs in let g = one_at_most (p x) in omega (arith, h, g)

count_more : {A : Type 0} (p q : A → Bool) → ((x : A) → p x ≡ true → q x ≡ true) → (xs : List A) → count p xs ≤ count q xs
count_more p q h [] = omega arith
count_more p q h (x ∷ xs) = let g = count_more p q h xs in let o = one_more (p x) (q x) (h x) in omega (arith, g, o)

count_strictly : {A : Type 0} (p q : A → Bool) → ((x : A) → p x ≡ true → q x ≡ true) → (xs : List A) (k : ℕ) (e : A) →
    slice_get xs k ≡ Some e → p e ≡ false → q e ≡ true → count p xs < count q xs
count_strictly p q h [] k e at f t = absurd cc
count_strictly p q h (x ∷ xs) zero e at f t =
    let same : x ≡ e = cc in
    let s = strictly (p x) (q x) (ap p same ∙ f) (ap q same ∙ t) in let g = count_more p q h xs in omega (arith, s, g)
count_strictly p q h (x ∷ xs) (suc k) e at f t =
    let o = one_more (p x) (q x) (h x) in let g = count_strictly p q h xs k e at f t in omega (arith, o, g)

-- the tests agree on a list, or the second passes more of it
agree_or_more : {A : Type 0} (p q : A → Bool) → ((x : A) → p x ≡ true → q x ≡ true) → (xs : List A) →
    ((k : ℕ) (e : A) → slice_get xs k ≡ Some e → q e ≡ true → p e ≡ true) ⊎ (count p xs < count q xs)
agree_or_more p q h [] = inl (λ k e at t. absurd cc)
agree_or_more {A = A} p q h (x ∷ xs) = by (p x) (q x) refl refl (agree_or_more p q h xs)
  where
    by : (a c : Bool) → p x ≡ a → q x ≡ c →
        ((k : ℕ) (e : A) → slice_get xs k ≡ Some e → q e ≡ true → p e ≡ true) ⊎ (count p xs < count q xs) →
        ((k : ℕ) (e : A) → slice_get (x ∷ xs) k ≡ Some e → q e ≡ true → p e ≡ true) ⊎ (count p (x ∷ xs) < count q (x ∷ xs))
    by a c is of (inr more) = let o = one_more (p x) (q x) (h x) in inr (omega (arith, o, more))
    by false true is of (inl agree) =
        let s = strictly (p x) (q x) is of in let g = count_more p q h xs in inr (omega (arith, s, g))
    by true c is of (inl agree) = inl (λ k e at t. head k e at t)
      where
        head : (k : ℕ) (e : A) → slice_get (x ∷ xs) k ≡ Some e → q e ≡ true → p e ≡ true
        head zero e at t = let same : x ≡ e = cc in ap p (sym same) ∙ is
        head (suc k) e at t = agree k e at t
    by false false is of (inl agree) = inl (λ k e at t. head k e at t)
      where
        head : (k : ℕ) (e : A) → slice_get (x ∷ xs) k ≡ Some e → q e ≡ true → p e ≡ true
        head zero e at t = let same : x ≡ e = cc in let no : false ≡ true = sym of ∙ ap q same ∙ t in absurd cc
        head (suc k) e at t = agree k e at t

-- ---- enough calls

module _ (cs : List Call) (b : ℕ) where
  -- a call leads to b within so many calls more
  leads : ℕ → Call → Bool
  leads k c = (c.to == b) || reaches k cs c.to b

  leads_way : (k : ℕ) (c : Call) → leads k c ≡ true → Way k cs c.to b
  unfolding leads
  leads_way k c h = elim (or_cases (c.to == b) (reaches k cs c.to b) h) [ inl e ↦ inl (eqb-true c.to b e) | inr r ↦ inr r ]

  way_leads : (k : ℕ) (c : Call) → Way k cs c.to b → leads k c ≡ true
  unfolding leads
  way_leads k c way = elim way [ inl e ↦ or_left _ _ (eq-eqb c.to b e) | inr r ↦ or_right _ _ r ]

  leads_longer : (k : ℕ) (c : Call) → leads k c ≡ true → leads (suc k) c ≡ true
  leads_longer k c h =
      way_leads (suc k) c (elim (leads_way k c h) [ inl e ↦ inl e | inr r ↦ inr (one_longer k cs c.to b r) ])

  -- one call more leads no other call there
  abbrev Enough : ℕ → Type 0
  Enough k = (i : ℕ) (c : Call) → slice_get cs i ≡ Some c → leads (suc k) c ≡ true → leads k c ≡ true

  shorter : (k a : ℕ) → Enough k → reaches (suc (suc k)) cs a b ≡ true → reaches (suc k) cs a b ≡ true
  shorter k a enough r =
      let first = begins (suc k) cs a b r in
      let at = contains_place cs first.call first.among in
      let on = leads_way k first.call (enough at.0 first.call at.1 (way_leads (suc k) first.call first.on)) in
      subst (λ x. reaches (suc k) cs x b ≡ true) first.from (reaches_by cs first.call k b first.among on)

  still_enough : (k : ℕ) → Enough k → Enough (suc k)
  still_enough k enough i c at h =
      way_leads (suc k) c (elim (leads_way (suc (suc k)) c h) [ inl e ↦ inl e | inr r ↦ inr (shorter k c.to enough r) ])

  enough_or_more : (k : ℕ) → Enough k ⊎ (suc k ≤ count (leads (suc k)) cs)
  enough_or_more zero =
      elim (agree_or_more (leads zero) (leads 1) (leads_longer zero) cs) [ inl e ↦ inl e | inr m ↦ inr (omega (arith, m)) ]
  enough_or_more (suc k) = elim (enough_or_more k) [
    | inl e ↦ inl (still_enough k e)
    | inr m ↦ elim (agree_or_more (leads (suc k)) (leads (suc (suc k))) (leads_longer (suc k)) cs)
        [ inl e ↦ inl e | inr n ↦ inr (omega (arith, m, n)) ]
  ]

  enough : Enough (length cs)
  enough = elim (enough_or_more (length cs)) [
    | inl e ↦ e
    | inr m ↦ absurd (let g = count_at_most (leads (suc (length cs))) cs in omega (arith, m, g))
  ]

  enough_from : (j : ℕ) → Enough (j + length cs)
  enough_from zero = subst Enough (omega arith) enough
  enough_from (suc j) = subst Enough (omega arith) (still_enough (j + length cs) (enough_from j))

  -- so twice as many calls as there are suffice
  enough_calls : (n : ℕ) → length cs ≡ suc n → (a : ℕ) → reaches (suc (length cs + length cs)) cs a b ≡ true →
      reaches (length cs + length cs) cs a b ≡ true
  enough_calls n is a r =
      let e : suc (n + length cs) ≡ length cs + length cs = omega (arith, is) in
      subst (λ k. reaches k cs a b ≡ true) e
      (shorter (n + length cs) a (enough_from n) (subst (λ k. reaches (suc k) cs a b ≡ true) (sym e) r))

-- ---- the measure

-- a call is made behind a function: by it, or by one that it reaches
behind : List Call → ℕ → Call → Bool
behind cs a c = (c.from == a) || reaches (length cs + length cs) cs a c.from

behind_way : (cs : List Call) (a : ℕ) (c : Call) → behind cs a c ≡ true → Way (length cs + length cs) cs a c.from
unfolding behind
behind_way cs a c h =
    elim (or_cases (c.from == a) (reaches (length cs + length cs) cs a c.from) h) [ inl e ↦ inl (sym (eqb-true c.from a e)) | inr r ↦ inr r ]

some_calls : (cs : List Call) (c : Call) → Contains cs c → (n : ℕ) × (length cs ≡ suc n)
some_calls [] c h = absurd (let l = h.1 in omega (arith, l))
some_calls (d ∷ cs) c h = (length cs, refl)

-- what is behind a called function is behind its caller
behind_on : (cs : List Call) (e : Call) → Contains cs e → (c : Call) → behind cs e.to c ≡ true → behind cs e.from c ≡ true
unfolding behind
behind_on cs e among c h =
    let n = some_calls cs e among in
    or_right (c.from == e.from) _
    (enough_calls cs c.from n.0 n.1 e.from (reaches_by cs e (length cs + length cs) c.from among (behind_way cs e.to c h)))

behind_itself : (cs : List Call) (e : Call) → behind cs e.from e ≡ true
unfolding behind
behind_itself cs e = or_left _ _ (eq-eqb e.from e.from refl)

not_behind : (cs : List Call) (e : Call) → is_on_cycle cs e ≡ false → behind cs e.to e ≡ false
unfolding behind
not_behind cs e h = h

pub acyclic_falls : AcyclicFalls
acyclic_falls cs none = record {
  measure = λ a. count (behind cs a) cs;
  falls = λ e among.
      let at = contains_place cs e among in
      count_strictly (behind cs e.to) (behind cs e.from) (behind_on cs e among) cs at.0 e at.1 (not_behind cs e (none e among)) (behind_itself cs e);
}
