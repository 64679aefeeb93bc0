-- Slots and arguments that are gone through.
use Rattle.std.proofs.Common.{◌≡◌, ◌⊎◌, inl, inr, ⊎_elim, min, ℕ, ◌+◌, ◌≤◌, refl, List, [], ◌∷◌, ◌++◌, length, drop, replicate, arith, length-drop}
use Rattle.std.proofs.lemmas.Bool.{cases_lt}
use Rattle.std.proofs.lemmas.List.{replicate-append-replicate}
use Rattle.ooo_value.specs.declared.kinds.Kind.{Kind}
use Rattle.ooo_bound.specs.declared.expr.BoundExpr.{BoundExpr}
use Rattle.ooo_shapes.specs.declared.around.Around.{Around}
use Rattle.ooo_shapes.specs.Shapes.{argument_nodes}

-- one slot more of a kind
pub one_more : (n : ℕ) (k : Kind) → replicate n k ++ k ∷ [] ≡ replicate (n + 1) k
one_more n k = replicate-append-replicate n 1 k

no_nodes : (t u : Around) (line n : ℕ) (ks : List Kind) (es : List BoundExpr) (at : ℕ) → (length ks ≡ 0 ⊎ length es ≡ 0) → argument_nodes t u line n ks es at ≡ []
no_nodes t u line n [] es at h = refl
no_nodes t u line n (k ∷ ks) [] at h = refl
no_nodes t u line n (k ∷ ks) (e ∷ es) at h = ⊎_elim (λ z. absurd (omega (arith, z))) (λ z. absurd (omega (arith, z))) h

none_of : (t u : Around) (line n : ℕ) (ks : List Kind) (es : List BoundExpr) (at : ℕ) → (length ks ≤ n ⊎ length es ≤ n) → argument_nodes t u line n (drop n ks) (drop n es) at ≡ []
none_of t u line n ks es at h =
    no_nodes t u line n (drop n ks) (drop n es) at
    (⊎_elim (λ le. inl (omega (arith, length-drop n ks, le))) (λ le. inr (omega (arith, length-drop n es, le))) h)

-- behind the last argument, or the last parameter, there are none
pub no_more : (t u : Around) (line n given : ℕ) (ks : List Kind) (es : List BoundExpr) (at : ℕ) → given ≡ min (length ks) (length es) → given ≤ n → argument_nodes t u line n (drop n ks) (drop n es) at ≡ []
no_more t u line n given ks es at g le =
    none_of t u line n ks es at
    (⊎_elim (λ lt. inl (omega (arith, lt, g, le))) (λ ge. inr (omega (arith, ge, g, le))) (cases_lt (length ks) (length es)))
