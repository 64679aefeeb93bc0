-- What is told, one thing after another.
use Rattle.std.proofs.Common.{◌≡◌, ℕ, zero, suc, ◌+◌, ◌<◌, ◌≤◌, List, [], ◌∷◌, ◌++◌, length, take, get_or, refl, ap, sym, ◌∙◌, arith, append_assoc, append-nil, Some, None}
use Rattle.std.specs.Prelude.{slice_get}
use Rattle.std.proofs.lemmas.List.{take_more}
use Rattle.ooo_value.specs.declared.bound.BoundEvent.{BoundEvent}
use Rattle.ooo_code.specs.declared.design.Design.{Design}
use Rattle.ooo_code.specs.declared.node.Node.{Node}
use Rattle.ooo_code.specs.Touches as touch
use Rattle.ooo_access.specs.declared.told.Told.{Told}
use Rattle.ooo_access.specs.Told.{meant, all_meant, Tells, touched_at, touched_of, triggers_at, triggers_of}

-- one thing more
pub meant_push : (events : List BoundEvent) (ts : List Told) (t : Told) → all_meant events (ts ++ t ∷ []) ≡ all_meant events ts ++ meant events t
unfolding all_meant
meant_push events [] t = append-nil (meant events t)
meant_push events (u ∷ us) t = ap (λ xs. meant events u ++ xs) (meant_push events us t) ∙ sym (append_assoc (meant events u) (all_meant events us) (meant events t))

-- what is told first and then
pub tells_then : (a b c : List Told) (f g : List BoundEvent → List touch.Touch) → Tells a b f → Tells b c g → Tells a c (λ events. f events ++ g events)
tells_then a b c f g p q = λ events. q events ∙ (ap (λ xs. xs ++ g events) (p events) ∙ append_assoc (all_meant events a) (f events) (g events))

-- nothing more
pub tells_none : (a : List Told) → Tells a a (λ events. [])
tells_none a = λ events. sym (append-nil (all_meant events a))

-- the nodes' touches, with one node more
pub touched_push : (design : Design) (ns : List ℕ) (n : ℕ) → touched_of design (ns ++ n ∷ []) ≡ touched_of design ns ++ touched_at design.events (slice_get design.nodes n)
unfolding touched_of
touched_push design [] n = append-nil (touched_at design.events (slice_get design.nodes n))
touched_push design (m ∷ ms) n =
    ap (λ xs. touched_at design.events (slice_get design.nodes m) ++ xs) (touched_push design ms n)
    ∙ sym (append_assoc (touched_at design.events (slice_get design.nodes m)) (touched_of design ms) (touched_at design.events (slice_get design.nodes n)))

-- the nodes' triggers, with one node more
pub triggers_push : (design : Design) (ns : List ℕ) (n : ℕ) → triggers_of design (ns ++ n ∷ []) ≡ triggers_of design ns ++ triggers_at (slice_get design.nodes n)
unfolding triggers_of
triggers_push design [] n = append-nil (triggers_at (slice_get design.nodes n))
triggers_push design (m ∷ ms) n =
    ap (λ xs. triggers_at (slice_get design.nodes m) ++ xs) (triggers_push design ms n)
    ∙ sym (append_assoc (triggers_at (slice_get design.nodes m)) (triggers_of design ms) (triggers_at (slice_get design.nodes n)))

-- the touches of the nodes so far, and of one more
pub touched_more : (design : Design) (ns : List ℕ) (i n : ℕ) → i < length ns → n ≡ get_or ns i 0 → touched_of design (take (i + 1) ns) ≡ touched_of design (take i ns) ++ touched_at design.events (slice_get design.nodes n)
touched_more design ns i n lt e =
    ap (touched_of design) (take_more ns i 0 lt ∙ ap (λ m. take i ns ++ m ∷ []) (sym e)) ∙ touched_push design (take i ns) n

-- the triggers of the nodes so far, and of one more
pub triggers_more : (design : Design) (ns : List ℕ) (i n : ℕ) → i < length ns → n ≡ get_or ns i 0 → triggers_of design (take (i + 1) ns) ≡ triggers_of design (take i ns) ++ triggers_at (slice_get design.nodes n)
triggers_more design ns i n lt e =
    ap (triggers_of design) (take_more ns i 0 lt ∙ ap (λ m. take i ns ++ m ∷ []) (sym e)) ∙ triggers_push design (take i ns) n
