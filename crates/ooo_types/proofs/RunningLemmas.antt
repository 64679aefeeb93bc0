-- What is noted of functions by the places of their calls is what is noted of them by the calls themselves.
use Rattle.std.proofs.Common.{◌≡◌, ◌∙◌, ap, sym, refl, subst, add-one, ℕ, suc, ◌+◌, ◌<◌, List, [], ◌∷◌, ◌++◌, map, drop, length, get_or, append_assoc, Some, false, slice_get}
use Rattle.std.proofs.Math.Seq.{drop-cons}
use Rattle.std.proofs.lemmas.List.{length-append, length-map}
use Rattle.std.specs.Option.{option_map, unwrap_or}
use Rattle.ooo_calls.specs.declared.call.Call.{Call as Edge}
use Rattle.ooo_calls.specs.Cycles.{is_on_cycle}
use Rattle.ooo_checked.specs.declared.breach.TypeBreach.TheVariants as what
use Rattle.ooo_checked.specs.Notes.{Note, breach_when}
use Rattle.ooo_bodies.specs.declared.notes.Call.{Call}
use Rattle.ooo_bodies.specs.declared.notes.Notes.{Notes}
use Rattle.ooo_bodies.specs.Noting.{noted, noted_append}
use Rattle.ooo_members.specs.declared.known.FunctionFacts.{FunctionFacts}
use Rattle.ooo_members.specs.Known.{Registered}
use Rattle.ooo_types.specs.Processes.{all_edges, call_notes, edges_of, function_notes, functions_notes, other_notes}
use Rattle.ooo_types.specs.Running.{calls_from, function_from, functions_from, is_cyclic}

-- a call as it stands among all calls
abbrev edge : ℕ → Call → Edge
edge number c = record { from = number; to = c.function }

-- what stands behind a list's first part
slice_get-seam : {A : Type 0} (xs : List A) (y : A) (ys : List A) → slice_get (xs ++ y ∷ ys) (length xs) ≡ Some y
slice_get-seam [] y ys = refl
slice_get-seam (x ∷ xs) y ys = slice_get-seam xs y ys

one_more : {A : Type 0} (xs : List A) (y : A) → length (xs ++ y ∷ []) ≡ length xs + 1
one_more xs y = length-append xs (y ∷ [])

calls_same : (es before after : List Edge) (number : ℕ) (cs : List Call) → es ≡ before ++ (map (edge number) cs ++ after) →
    calls_from es (length before) cs ≡ call_notes es number cs
calls_same es before after number [] is = refl
calls_same es before after number (c ∷ cs) is =
    let others : List Edge = map (edge number) cs ++ after in
    let found : slice_get es (length before) ≡ Some (edge number c) =
    ap (λ xs. slice_get xs (length before)) is ∙ slice_get-seam before (edge number c) others in
    let behind : es ≡ (before ++ edge number c ∷ []) ++ others =
    is ∙ sym (append_assoc before (edge number c ∷ []) others) in
    let rest : calls_from es (length before + 1) cs ≡ call_notes es number cs =
    ap (λ n. calls_from es n cs) (sym (one_more before (edge number c)))
    ∙ calls_same es (before ++ edge number c ∷ []) after number cs behind in
    ap (λ o. breach_when (unwrap_or (option_map (is_on_cycle es) o) false) what.RecursiveCall c.at ++ calls_from es (length before + 1) cs) found
    ∙ ap (λ ns. breach_when (is_on_cycle es (edge number c)) what.RecursiveCall c.at ++ ns) rest

functions_same : (es before : List Edge) (rs : Registered) (fs : List FunctionFacts) → es ≡ before ++ all_edges fs →
    functions_from es rs (length before) fs ≡ functions_notes es rs fs
functions_same es before rs [] is = refl
functions_same es before rs (f ∷ fs) is =
    let behind : es ≡ (before ++ edges_of f) ++ all_edges fs = is ∙ sym (append_assoc before (edges_of f) (all_edges fs)) in
    let place : length (before ++ edges_of f) ≡ length before + length f.calls =
    length-append before (edges_of f) ∙ ap (λ n. length before + n) (length-map f.calls (edge f.number)) in
    let rest : functions_from es rs (length before + length f.calls) fs ≡ functions_notes es rs fs =
    ap (λ n. functions_from es rs n fs) (sym place) ∙ functions_same es (before ++ edges_of f) rs fs behind in
    ap (λ ns. (ns ++ other_notes es rs f) ++ functions_from es rs (length before + length f.calls) fs)
    (calls_same es before (all_edges fs) f.number f.calls is)
    ∙ ap (λ ns. function_notes es rs f ++ ns) rest

-- all functions, from the first place on
pub from_the_first : (rs : Registered) (fs : List FunctionFacts) →
    functions_from (all_edges fs) rs 0 fs ≡ functions_notes (all_edges fs) rs fs
from_the_first rs fs = functions_same (all_edges fs) [] rs fs refl

-- ---- loops

-- what is left of a list, from an item on
pub dropped : {A : Type 0} (xs : List A) (i : ℕ) (x : A) → i < length xs → x ≡ get_or xs i x → drop i xs ≡ x ∷ drop (suc i) xs
dropped xs i x h is = drop-cons xs i x h ∙ ap (λ y. y ∷ drop (suc i) xs) (sym is)

-- an invariant of a loop that notes something of each item holds after one more
pub noted_step : {A : Type 0} (g : A → List Note) (ns : List A → List Note) → ((x : A) (xs : List A) → ns (x ∷ xs) ≡ g x ++ ns xs) →
    (m k whole : Notes) (xs : List A) (i : ℕ) (x : A) → i < length xs → x ≡ get_or xs i x → k ≡ noted m (g x) →
    noted m (ns (drop i xs)) ≡ whole → noted k (ns (drop (i + 1) xs)) ≡ whole
noted_step g ns cons m k whole xs i x h is first so_far =
    rw (add-one i, first)
    (sym (noted_append m (g x) (ns (drop (suc i) xs))) ∙ ap (λ u. noted m u) (sym (cons x (drop (suc i) xs)))
    ∙ subst (λ ys. noted m (ns ys) ≡ whole) (dropped xs i x h is) so_far)

-- one call more
pub calls_step : (es : List Edge) (place : ℕ) (m k whole : Notes) (xs : List Call) (i : ℕ) (x : Call) → i < length xs →
    x ≡ get_or xs i x → k ≡ noted m (breach_when (is_cyclic es place) what.RecursiveCall x.at) →
    noted m (calls_from es place (drop i xs)) ≡ whole → noted k (calls_from es (place + 1) (drop (i + 1) xs)) ≡ whole
calls_step es place m k whole xs i x h is first so_far =
    let one : List Note = breach_when (is_cyclic es place) what.RecursiveCall x.at in
    rw (add-one i, first)
    (sym (noted_append m one (calls_from es (place + 1) (drop (suc i) xs)))
    ∙ subst (λ ys. noted m (calls_from es place ys) ≡ whole) (dropped xs i x h is) so_far)

-- one function more
pub functions_step : (es : List Edge) (rs : Registered) (place : ℕ) (m k whole : Notes) (xs : List FunctionFacts) (i : ℕ)
    (x : FunctionFacts) → i < length xs → x ≡ get_or xs i x → k ≡ noted m (function_from es rs place x) →
    noted m (functions_from es rs place (drop i xs)) ≡ whole →
    noted k (functions_from es rs (place + length x.calls) (drop (i + 1) xs)) ≡ whole
functions_step es rs place m k whole xs i x h is first so_far =
    rw (add-one i, first)
    (sym (noted_append m (function_from es rs place x) (functions_from es rs (place + length x.calls) (drop (suc i) xs)))
    ∙ subst (λ ys. noted m (functions_from es rs place ys) ≡ whole) (dropped xs i x h is) so_far)

-- the places of the calls that are left
pub places_left : (xs : List FunctionFacts) (i : ℕ) (x : FunctionFacts) → i < length xs → x ≡ get_or xs i x →
    length (all_edges (drop i xs)) ≡ length x.calls + length (all_edges (drop (i + 1) xs))
places_left xs i x h is =
    ap (λ ys. length (all_edges ys)) (dropped xs i x h is)
    ∙ length-append (edges_of x) (all_edges (drop (suc i) xs))
    ∙ ap (λ n. n + length (all_edges (drop (suc i) xs))) (length-map x.calls (edge x.number))
    ∙ ap (λ n. length x.calls + length (all_edges (drop n xs))) (sym (add-one i))
