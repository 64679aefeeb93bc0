-- Ways from one function to another along calls.
use Rattle.std.proofs.Common.{◌≡◌, ℕ, zero, suc, ◌+◌, ◌≤◌, Bool, true, false, List, refl, sym, subst, arith, inl, inr, ◌⊎◌, ◌==◌}
use Rattle.std.specs.Prelude.{◌&&◌, ◌||◌, Contains}
use Rattle.std.specs.List.{list_any, Any}
use Rattle.std.proofs.lemmas.Bool.{eq-eqb, eqb-true, and_parts, and_from, or_cases, or_left, or_right}
use Rattle.std.proofs.lemmas.List.Folds.{list_any_at, Any-from_list_any}
use Rattle.ooo_calls.specs.declared.call.Call.{Call}
use Rattle.ooo_calls.specs.Cycles.{reaches}

-- a function is another, or reaches it within so many calls
abbrev pub Way : ℕ → List Call → ℕ → ℕ → Type 0
Way k cs a b = (a ≡ b) ⊎ (reaches k cs a b ≡ true)

-- a call, and a way from the function that it calls
pub reaches_by : (cs : List Call) (c : Call) (k b : ℕ) → Contains cs c → Way k cs c.to b → reaches (suc k) cs c.from b ≡ true
unfolding reaches
reaches_by cs c k b (i, lt, is) way =
    let p : Call → Bool = λ x. (x.from == c.from) && ((x.to == b) || reaches k cs x.to b) in
    let on : ((c.to == b) || reaches k cs c.to b) ≡ true = elim way [ inl e ↦ or_left _ _ (eq-eqb c.to b e) | inr r ↦ or_right _ _ r ] in
    let here : p c ≡ true = and_from _ _ (eq-eqb c.from c.from refl) on in
    list_any_at p cs i c lt (subst (λ x. p x ≡ true) (sym is) here)

-- what a first call of a way is
pub record Begins (k : ℕ) (cs : List Call) (a b : ℕ) : Type 0 where
  pub call : Call
  pub among : Contains cs call
  pub from : call.from ≡ a
  pub on : Way k cs call.to b

-- a way begins with a call
pub begins : (k : ℕ) (cs : List Call) (a b : ℕ) → reaches (suc k) cs a b ≡ true → Begins k cs a b
unfolding reaches
begins k cs a b r =
    let p : Call → Bool = λ x. (x.from == a) && ((x.to == b) || reaches k cs x.to b) in
    let f : Any (λ x. p x ≡ true) cs = Any-from_list_any p cs r in
    let c : Call = f.1 in
    let parts = and_parts (c.from == a) ((c.to == b) || reaches k cs c.to b) f.4 in
    record {
      call = c;
      among = (f.0, f.2, f.3);
      from = eqb-true c.from a parts.0;
      on = elim (or_cases (c.to == b) (reaches k cs c.to b) parts.1) [ inl e ↦ inl (eqb-true c.to b e) | inr s ↦ inr s ];
    }

-- by no call nothing is reached
pub reaches_none : (cs : List Call) (a b : ℕ) → reaches 0 cs a b ≡ false
unfolding reaches
reaches_none cs a b = refl

-- by one call more, what calls the target or a function that reaches it
pub reaches_more : (k : ℕ) (cs : List Call) (a b : ℕ) → reaches (k + 1) cs a b ≡ list_any (λ c. (c.from == a) && ((c.to == b) || reaches k cs c.to b)) cs
unfolding reaches
reaches_more k cs a b = let e : k + 1 ≡ suc k = omega arith in rw e refl

-- what is reached within some calls is reached within more
pub reaches_longer : (j k : ℕ) (cs : List Call) (a b : ℕ) → j ≤ k → reaches j cs a b ≡ true → reaches k cs a b ≡ true
reaches_longer zero k cs a b le r = absurd (let e = reaches_none cs a b in cc)
reaches_longer (suc j) zero cs a b le r = absurd (omega arith)
reaches_longer (suc j) (suc k) cs a b le r =
    let first = begins j cs a b r in
    let on : Way k cs first.call.to b = elim first.on [ inl e ↦ inl e | inr s ↦ inr (reaches_longer j k cs first.call.to b (omega arith) s) ] in
    subst (λ x. reaches (suc k) cs x b ≡ true) first.from (reaches_by cs first.call k b first.among on)

pub way_longer : (j k : ℕ) (cs : List Call) (a b : ℕ) → j ≤ k → Way j cs a b → Way k cs a b
way_longer j k cs a b le way = elim way [ inl e ↦ inl e | inr r ↦ inr (reaches_longer j k cs a b le r) ]

-- a number of functions that falls along no call falls along no way
pub never_falls : (g : ℕ → ℕ) (cs : List Call) → ((c : Call) → Contains cs c → g c.from ≤ g c.to) → (k a b : ℕ) → reaches k cs a b ≡ true → g a ≤ g b
never_falls g cs each zero a b r = absurd (let e = reaches_none cs a b in cc)
never_falls g cs each (suc k) a b r =
    let first = begins k cs a b r in
    let one : g a ≤ g first.call.to = subst (λ x. g x ≤ g first.call.to) first.from (each first.call first.among) in
    let rest : g first.call.to ≤ g b = elim first.on [ inl e ↦ subst (λ x. g first.call.to ≤ g x) e (omega arith) | inr s ↦ never_falls g cs each k first.call.to b s ] in
    omega arith
