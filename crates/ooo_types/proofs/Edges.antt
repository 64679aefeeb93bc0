-- The calls of functions, one after the other.
use Rattle.std.proofs.Common.{◌≡◌, subst, add-one, ℕ, ◌+◌, ◌<◌, suc, List, [], ◌∷◌, ◌++◌, map, drop, length, get_or, append_assoc}
use Rattle.ooo_calls.specs.declared.call.Call.{Call as Edge}
use Rattle.ooo_members.specs.declared.known.FunctionFacts.{FunctionFacts}
use Rattle.ooo_types.specs.Processes.{all_edges, edges_of}
use Rattle.ooo_types.proofs.RunningLemmas.{dropped}

-- one item more
pub mapped_behind : {A B : Type 0} (f : A → B) (all all' whole : List B) (xs : List A) (i : ℕ) (x : A) → i < length xs →
    x ≡ get_or xs i x → all' ≡ all ++ f x ∷ [] → all ++ map f (drop i xs) ≡ whole → all' ++ map f (drop (i + 1) xs) ≡ whole
mapped_behind f all all' whole xs i x h is more so_far =
    rw (add-one i, more, append_assoc all (f x ∷ []) (map f (drop (suc i) xs)))
    (subst (λ ys. all ++ map f ys ≡ whole) (dropped xs i x h is) so_far)

-- the calls of one function more
pub edges_behind : (all all' whole : List Edge) (xs : List FunctionFacts) (i : ℕ) (x : FunctionFacts) → i < length xs →
    x ≡ get_or xs i x → all' ≡ all ++ edges_of x → all ++ all_edges (drop i xs) ≡ whole →
    all' ++ all_edges (drop (i + 1) xs) ≡ whole
edges_behind all all' whole xs i x h is more so_far =
    rw (add-one i, more, append_assoc all (edges_of x) (all_edges (drop (suc i) xs)))
    (subst (λ ys. all ++ all_edges ys ≡ whole) (dropped xs i x h is) so_far)
