-- Where a claim is right, a call lies on a cycle exactly if it stays in its group.
use Rattle.std.proofs.Common.{◌≡◌, ℕ, zero, suc, ◌+◌, ◌<◌, ◌≤◌, Bool, true, false, List, length, refl, ap, sym, ◌∙◌, subst, arith, inl, inr, ◌⊎◌, ◌==◌}
use Rattle.std.specs.Prelude.{◌&&◌, nat_lt, nat_le, Contains, map, slice_get, slice_index}
use Rattle.std.specs.Option.{option_map_or}
use Rattle.std.proofs.lemmas.Bool.{eq-eqb, eqb-true, ltb-true, leb-true, and_parts, or_cases, or_left, or_right}
use Rattle.std.proofs.lemmas.Bool.Decides.{same_from_decides}
use Rattle.ooo_calls.specs.declared.call.Call.{Call}
use Rattle.ooo_calls.specs.declared.claim.Claim.{Claim}
use Rattle.ooo_calls.specs.declared.claim.Steps.{Steps}
use Rattle.ooo_calls.specs.Cycles.{is_on_cycle, reaches}
use Rattle.ooo_calls.specs.Claims.{group_of, root_of, depth_of, is_nearer, has_way_to_root, has_way_from_root, is_right_at, is_right}
use Rattle.ooo_calls.proofs.Lists.{passes, map-same, found_at}
use Rattle.ooo_calls.proofs.Ways.{Way, reaches_by, way_longer, never_falls}

-- what a right claim says of a call
pub record IsRightAt (claim : Claim) (cs : List Call) (c : Call) : Type 0 where
  pub falls_not : group_of claim c.from ≤ group_of claim c.to
  pub to_root : group_of claim c.from ≡ group_of claim c.to → has_way_to_root claim cs c.to ≡ true
  pub from_root : group_of claim c.from ≡ group_of claim c.to → has_way_from_root claim cs c.from ≡ true

right_at : (claim : Claim) (cs : List Call) (c : Call) → is_right claim cs ≡ true → Contains cs c → IsRightAt claim cs c
right_at claim cs c right among =
    let from : ℕ = group_of claim c.from in
    let to : ℕ = group_of claim c.to in
    elim (or_cases (nat_lt from to) ((from == to) && (has_way_to_root claim cs c.to && has_way_from_root claim cs c.from)) (passes (is_right_at claim cs) cs c right among)) [
      | inl less ↦ let lt : from < to = ltb-true from to less in record {
        falls_not = omega arith;
        to_root = λ e. absurd (omega arith);
        from_root = λ e. absurd (omega arith);
      }
      | inr both ↦
          let parts = and_parts (from == to) (has_way_to_root claim cs c.to && has_way_from_root claim cs c.from) both in
          let ways = and_parts (has_way_to_root claim cs c.to) (has_way_from_root claim cs c.from) parts.1 in
          let e : from ≡ to = eqb-true from to parts.0 in
          record {
            falls_not = omega arith;
            to_root = λ same. ways.0;
            from_root = λ same. ways.1;
          }
    ]

-- one function stands in the group of another, nearer to the root
record IsNearer (claim : Claim) (steps : Steps) (limit near far : ℕ) : Type 0 where
  group : group_of claim near ≡ group_of claim far
  less : depth_of steps near < depth_of steps far
  within : depth_of steps far ≤ limit

nearer : (claim : Claim) (steps : Steps) (limit near far : ℕ) → is_nearer claim steps limit near far ≡ true → IsNearer claim steps limit near far
nearer claim steps limit near far is =
    let parts = and_parts (group_of claim near == group_of claim far) (nat_lt (depth_of steps near) (depth_of steps far) && nat_le (depth_of steps far) limit) is in
    let depths = and_parts (nat_lt (depth_of steps near) (depth_of steps far)) (nat_le (depth_of steps far) limit) parts.1 in
    record {
      group = eqb-true _ _ parts.0;
      less = ltb-true _ _ depths.0;
      within = leb-true _ _ depths.1;
    }

-- a function calls another, nearer to the root
record StepsOn (claim : Claim) (cs : List Call) (f : ℕ) : Type 0 where
  call : Call
  among : Contains cs call
  from : call.from ≡ f
  nearer : IsNearer claim claim.to_root (length cs) call.to f

-- a function is called by another, nearer to the root
record StepsBack (claim : Claim) (cs : List Call) (f : ℕ) : Type 0 where
  call : Call
  among : Contains cs call
  to : call.to ≡ f
  nearer : IsNearer claim claim.from_root (length cs) call.from f

steps_on : (claim : Claim) (cs : List Call) (f : ℕ) → has_way_to_root claim cs f ≡ true → (root_of claim f ≡ f) ⊎ StepsOn claim cs f
steps_on claim cs f has =
    let p : Call → Bool = λ c. (c.from == f) && is_nearer claim claim.to_root (length cs) c.to f in
    let i : ℕ = slice_index claim.to_root.calls.items f in
    elim (or_cases (root_of claim f == f) (option_map_or p (slice_get cs i) false) has) [
      | inl e ↦ inl (eqb-true _ _ e)
      | inr found ↦
          let r = found_at p cs i found in
          let c : Call = r.0 in
          let parts = and_parts (c.from == f) (is_nearer claim claim.to_root (length cs) c.to f) r.2 in
          inr (record { call = c; among = r.1; from = eqb-true _ _ parts.0; nearer = nearer claim claim.to_root (length cs) c.to f parts.1 })
    ]

steps_back : (claim : Claim) (cs : List Call) (f : ℕ) → has_way_from_root claim cs f ≡ true → (root_of claim f ≡ f) ⊎ StepsBack claim cs f
steps_back claim cs f has =
    let p : Call → Bool = λ c. (c.to == f) && is_nearer claim claim.from_root (length cs) c.from f in
    let i : ℕ = slice_index claim.from_root.calls.items f in
    elim (or_cases (root_of claim f == f) (option_map_or p (slice_get cs i) false) has) [
      | inl e ↦ inl (eqb-true _ _ e)
      | inr found ↦
          let r = found_at p cs i found in
          let c : Call = r.0 in
          let parts = and_parts (c.to == f) (is_nearer claim claim.from_root (length cs) c.from f) r.2 in
          inr (record { call = c; among = r.1; to = eqb-true _ _ parts.0; nearer = nearer claim claim.from_root (length cs) c.from f parts.1 })
    ]

-- the root of two functions of one group
same_root : (claim : Claim) (a b : ℕ) → group_of claim a ≡ group_of claim b → root_of claim a ≡ root_of claim b
same_root claim a b e = ap (λ g. slice_index claim.roots.items g) e

-- from the root a way leads to a function, and on to where a way from there leads
way_from_root : (claim : Claim) (cs : List Call) → is_right claim cs ≡ true → (k j f b : ℕ) → depth_of claim.from_root f ≤ k → has_way_from_root claim cs f ≡ true → Way j cs f b → Way (j + k) cs (root_of claim f) b
way_from_root claim cs right zero j f b deep has way = elim (steps_back claim cs f has) [
  | inl e ↦ subst (λ x. Way (j + zero) cs x b) (sym e) (way_longer j (j + zero) cs f b (omega arith) way)
  | inr step ↦ absurd (let lt = step.nearer.less in omega arith)
]
way_from_root claim cs right (suc k) j f b deep has way = elim (steps_back claim cs f has) [
  | inl e ↦ subst (λ x. Way (j + suc k) cs x b) (sym e) (way_longer j (j + suc k) cs f b (omega arith) way)
  | inr step ↦
      let c : Call = step.call in
      let same : group_of claim c.from ≡ group_of claim c.to = step.nearer.group ∙ ap (λ x. group_of claim x) (sym step.to) in
      let less = step.nearer.less in
      let on : Way j cs c.to b = subst (λ x. Way j cs x b) (sym step.to) way in
      let more : Way (suc j) cs c.from b = inr (reaches_by cs c j b step.among on) in
      let before : Way (suc j + k) cs (root_of claim c.from) b = way_from_root claim cs right k (suc j) c.from b (omega arith) ((right_at claim cs c right step.among).from_root same) more in
      let count : suc j + k ≡ j + suc k = omega arith in
      subst (λ n. Way n cs (root_of claim f) b) count (subst (λ x. Way (suc j + k) cs x b) (same_root claim c.from f step.nearer.group) before)
]

-- a way leads from a function to its root, and on to where a way from there leads
way_to_root : (claim : Claim) (cs : List Call) → is_right claim cs ≡ true → (k j f b : ℕ) → depth_of claim.to_root f ≤ k → has_way_to_root claim cs f ≡ true → Way j cs (root_of claim f) b → Way (j + k) cs f b
way_to_root claim cs right zero j f b deep has way = elim (steps_on claim cs f has) [
  | inl e ↦ way_longer j (j + zero) cs f b (omega arith) (subst (λ x. Way j cs x b) e way)
  | inr step ↦ absurd (let lt = step.nearer.less in omega arith)
]
way_to_root claim cs right (suc k) j f b deep has way = elim (steps_on claim cs f has) [
  | inl e ↦ way_longer j (j + suc k) cs f b (omega arith) (subst (λ x. Way j cs x b) e way)
  | inr step ↦
      let c : Call = step.call in
      let same : group_of claim c.from ≡ group_of claim c.to = ap (λ x. group_of claim x) step.from ∙ sym step.nearer.group in
      let less = step.nearer.less in
      let on : Way j cs (root_of claim c.to) b = subst (λ x. Way j cs x b) (sym (same_root claim c.to f step.nearer.group)) way in
      let rest : Way (j + k) cs c.to b = way_to_root claim cs right k j c.to b (omega arith) ((right_at claim cs c right step.among).to_root same) on in
      let all : Way (suc (j + k)) cs f b = inr (subst (λ x. reaches (suc (j + k)) cs x b ≡ true) step.from (reaches_by cs c (j + k) b step.among rest)) in
      let count : suc (j + k) ≡ j + suc k = omega arith in
      subst (λ n. Way n cs f b) count all
]

-- a function that isn't the root is within as many calls of it as there are
on_within : (claim : Claim) (cs : List Call) (f b j : ℕ) → is_right claim cs ≡ true → has_way_to_root claim cs f ≡ true → Way j cs (root_of claim f) b → Way (j + length cs) cs f b
on_within claim cs f b j right has way = elim (steps_on claim cs f has) [
  | inl e ↦ way_longer j (j + length cs) cs f b (omega arith) (subst (λ x. Way j cs x b) e way)
  | inr step ↦ way_to_root claim cs right (length cs) j f b step.nearer.within has way
]

back_within : (claim : Claim) (cs : List Call) (f b j : ℕ) → is_right claim cs ≡ true → has_way_from_root claim cs f ≡ true → Way j cs f b → Way (j + length cs) cs (root_of claim f) b
back_within claim cs f b j right has way = elim (steps_back claim cs f has) [
  | inl e ↦ subst (λ x. Way (j + length cs) cs x b) (sym e) (way_longer j (j + length cs) cs f b (omega arith) way)
  | inr step ↦ way_from_root claim cs right (length cs) j f b step.nearer.within has way
]

-- in a group calls lead back
leads_back : (claim : Claim) (cs : List Call) (c : Call) → is_right claim cs ≡ true → Contains cs c → group_of claim c.from ≡ group_of claim c.to → Way (length cs + length cs) cs c.to c.from
leads_back claim cs c right among same =
    let at = right_at claim cs c right among in
    let self : Way 0 cs c.from c.from = inl refl in
    let back : Way (0 + length cs) cs (root_of claim c.from) c.from = back_within claim cs c.from c.from 0 right (at.from_root same) self in
    let count : 0 + length cs ≡ length cs = omega arith in
    let from : Way (length cs) cs (root_of claim c.to) c.from =
    subst (λ n. Way n cs (root_of claim c.to) c.from) count (subst (λ x. Way (0 + length cs) cs x c.from) (same_root claim c.from c.to same) back) in
    on_within claim cs c.to c.from (length cs) right (at.to_root same) from

-- a call stays in its group exactly if it lies on a cycle
stays : (claim : Claim) (cs : List Call) → is_right claim cs ≡ true → (c : Call) → Contains cs c → (group_of claim c.from == group_of claim c.to) ≡ is_on_cycle cs c
stays claim cs right c among =
    let from : ℕ = group_of claim c.from in
    let to : ℕ = group_of claim c.to in
    let forth : (from == to) ≡ true → is_on_cycle cs c ≡ true = λ e. elim (leads_back claim cs c right among (eqb-true from to e)) [
      | inl one ↦ or_left _ _ (eq-eqb c.from c.to (sym one))
      | inr r ↦ or_right _ _ r
    ] in
    let back : is_on_cycle cs c ≡ true → (from == to) ≡ true = λ h. elim (or_cases (c.from == c.to) (reaches (length cs + length cs) cs c.to c.from) h) [
      | inl one ↦ eq-eqb from to (ap (λ x. group_of claim x) (eqb-true c.from c.to one))
      | inr r ↦
          let up : from ≤ to = (right_at claim cs c right among).falls_not in
          let down : to ≤ from = never_falls (λ x. group_of claim x) cs (λ d in-cs. (right_at claim cs d right in-cs).falls_not) (length cs + length cs) c.to c.from r in
          eq-eqb from to (omega arith)
    ] in
    same_from_decides {P = is_on_cycle cs c ≡ true} (from == to) (is_on_cycle cs c) (forth, back) ((λ h. h), (λ h. h))

-- so the calls that stay in their groups are those on cycles
pub stays_are_on_cycle : (claim : Claim) (cs : List Call) → is_right claim cs ≡ true → map (λ c. group_of claim c.from == group_of claim c.to) cs ≡ map (is_on_cycle cs) cs
stays_are_on_cycle claim cs right = map-same (λ c. group_of claim c.from == group_of claim c.to) (is_on_cycle cs) cs (stays claim cs right)
