-- Calls that are gone through, one after the other.
use Rattle.std.proofs.Common.{◌≡◌, ◌∙◌, refl, ap, sym, ℕ, zero, suc, ◌+◌, ◌-◌, ◌<◌, List, [], ◌∷◌, ◌++◌, Option, Some, None, arith}
use Rattle.std.specs.Prelude.{slice_get}
use Rattle.ooo_layout.specs.declared.sizes.Owed.{Owed}
use Rattle.ooo_layout.specs.declared.sizes.Weight.{Weight}
use Rattle.ooo_layout.specs.Weighing.{Spends, SpendsOwn, calls_size, calls_within, found_size, owed_calls, owed_count, owed_size, sizes_by, weight_by}
use Rattle.ooo_layout.proofs.Sized.{size_found}

zero_last : (n : ℕ) → n + 0 ≡ 0 + n
zero_last n = omega arith

zero_first : (n : ℕ) → n ≡ 0 + n
zero_first n = omega arith

-- one more in front of both
one_before : (n all some last : ℕ) → all ≡ some + last → n + all ≡ n + some + last
one_before n all some last e = omega arith

size_last : (ws : List Weight) (os : List Owed) (o : Owed) → owed_size ws (os ++ o ∷ []) ≡ owed_size ws os + sizes_by o.depth ws o.function
size_last ws [] o = zero_last (sizes_by o.depth ws o.function)
size_last ws (p ∷ os) o = one_before (sizes_by p.depth ws p.function) (owed_size ws (os ++ o ∷ [])) (owed_size ws os) (sizes_by o.depth ws o.function) (size_last ws os o)

count_last : (ws : List Weight) (os : List Owed) (o : Owed) → owed_count ws (os ++ o ∷ []) ≡ owed_count ws os + (1 + calls_within o.depth ws o.function)
count_last ws [] o = zero_last (1 + calls_within o.depth ws o.function)
count_last ws (p ∷ os) o = one_before (1 + calls_within p.depth ws p.function) (owed_count ws (os ++ o ∷ [])) (owed_count ws os) (1 + calls_within o.depth ws o.function) (count_last ws os o)

size_of_calls : (ws : List Weight) (d : ℕ) (fs : List ℕ) → owed_size ws (owed_calls d fs) ≡ calls_size (sizes_by d ws) fs
size_of_calls ws d [] = refl
size_of_calls ws d (f ∷ fs) = ap (λ n. sizes_by d ws f + n) (size_of_calls ws d fs)

count_of_calls : (ws : List Weight) (d : ℕ) (fs : List ℕ) → owed_count ws (owed_calls d fs) ≡ calls_size (λ g. 1 + calls_within d ws g) fs
count_of_calls ws d [] = refl
count_of_calls ws d (f ∷ fs) = ap (λ n. 1 + calls_within d ws f + n) (count_of_calls ws d fs)

size_more : (ws : List Weight) (os ps : List Owed) → owed_size ws (os ++ ps) ≡ owed_size ws os + owed_size ws ps
size_more ws [] ps = zero_first (owed_size ws ps)
size_more ws (o ∷ os) ps = one_before (sizes_by o.depth ws o.function) (owed_size ws (os ++ ps)) (owed_size ws os) (owed_size ws ps) (size_more ws os ps)

count_more : (ws : List Weight) (os ps : List Owed) → owed_count ws (os ++ ps) ≡ owed_count ws os + owed_count ws ps
count_more ws [] ps = zero_first (owed_count ws ps)
count_more ws (o ∷ os) ps = one_before (1 + calls_within o.depth ws o.function) (owed_count ws (os ++ ps)) (owed_count ws os) (owed_count ws ps) (count_more ws os ps)

own_size : (ws : List Weight) (d : ℕ) (fs : List ℕ) (old new : List Owed) → new ≡ old ++ owed_calls d fs → owed_size ws new ≡ owed_size ws old + calls_size (sizes_by d ws) fs
own_size ws d fs old new e = ap (owed_size ws) e ∙ size_more ws old (owed_calls d fs) ∙ ap (λ n. owed_size ws old + n) (size_of_calls ws d fs)

own_count : (ws : List Weight) (d : ℕ) (fs : List ℕ) (old new : List Owed) → new ≡ old ++ owed_calls d fs → owed_count ws new ≡ owed_count ws old + calls_size (λ g. 1 + calls_within d ws g) fs
own_count ws d fs old new e = ap (owed_count ws) e ∙ count_more ws old (owed_calls d fs) ∙ ap (λ n. owed_count ws old + n) (count_of_calls ws d fs)

count_found : (depth : ℕ) (ws : List Weight) (f : ℕ) (w : Weight) → (depth ≡ 0 → ⊥) → slice_get ws f ≡ Some w → calls_within depth ws f ≡ calls_size (λ g. 1 + calls_within (depth - 1) ws g) w.calls
count_found zero ws f w n e = absurd (n refl)
count_found (suc d) ws f w n e =
    let same : suc d - 1 ≡ d = omega arith in
    ap (found_size (λ w. calls_size (λ g. 1 + calls_within d ws g) w.calls)) e ∙ ap (λ k. calls_size (λ g. 1 + calls_within k ws g) w.calls) (sym same)

-- ---- on numbers alone

own_is_more : (left own calls size : ℕ) → left < own → size ≡ own + calls → left < size
own_is_more left own calls size a b = omega arith

own_taken : (rest own left calls size old new : ℕ) → rest + own ≡ left → size ≡ own + calls → new ≡ old + calls → rest + size + old ≡ left + new
own_taken rest own left calls size old new a b c = omega arith

other_side : (new old calls all : ℕ) → new ≡ old + calls → all ≡ calls → new ≡ all + old
other_side new old calls all a b = omega arith

own_first : (rest own left calls new : ℕ) → rest + own ≡ left → new ≡ 0 + calls → rest + (own + calls) ≡ left + new
own_first rest own left calls new a b = omega arith

one_taken : (left size first before rest call old new : ℕ) → left + size ≡ first + before → before ≡ old + call → rest + call + old ≡ left + new → rest + size ≡ first + new
one_taken left size first before rest call old new a b c = omega arith

fewer : (before old calls new : ℕ) → before ≡ old + (1 + calls) → new ≡ calls + old → new < before
fewer before old calls new a b = omega arith

one_is_more : (left size first before call old : ℕ) → left + size ≡ first + before → before ≡ old + call → left < call → first < size
one_is_more left size first before call old a b c = omega arith

-- ---- calls

-- a call of a function that there is
pub spends_found : (ws : List Weight) (call : Owed) (w : Weight) (left : ℕ) (old new : List Owed) (rest : Option ℕ) → (call.depth ≡ 0 → ⊥) → slice_get ws call.function ≡ Some w → SpendsOwn w (call.depth - 1) left old new rest → Spends ws call left old new rest
spends_found ws call w left old new None n e h =
    own_is_more left w.own (calls_size (sizes_by (call.depth - 1) ws) w.calls) (sizes_by call.depth ws call.function) h (size_found call.depth ws call.function w n e)
spends_found ws call w left old new (Some rest) n e h = (
  own_taken rest w.own left (calls_size (sizes_by (call.depth - 1) ws) w.calls) (sizes_by call.depth ws call.function) (owed_size ws old) (owed_size ws new) h.0 (size_found call.depth ws call.function w n e) (own_size ws (call.depth - 1) w.calls old new h.1),
  other_side (owed_count ws new) (owed_count ws old) (calls_size (λ g. 1 + calls_within (call.depth - 1) ws g) w.calls) (calls_within call.depth ws call.function) (own_count ws (call.depth - 1) w.calls old new h.1) (count_found call.depth ws call.function w n e),
)

-- the calls of a body are owed
pub first_owed : (ws : List Weight) (w : Weight) (depth left rest : ℕ) (new : List Owed) → SpendsOwn w depth left [] new (Some rest) → rest + weight_by (sizes_by depth ws) w ≡ left + owed_size ws new
first_owed ws w depth left rest new h =
    own_first rest w.own left (calls_size (sizes_by depth ws) w.calls) (owed_size ws new) h.0 (own_size ws depth w.calls [] new h.1)

-- a call that was the last one is gone through
pub less_owed : (ws : List Weight) (call : Owed) (size first left rest : ℕ) (before old new : List Owed) → before ≡ old ++ call ∷ [] → left + size ≡ first + owed_size ws before → Spends ws call left old new (Some rest) → (rest + size ≡ first + owed_size ws new) × (owed_count ws new < owed_count ws before)
less_owed ws call size first left rest before old new e i h = (
  one_taken left size first (owed_size ws before) rest (sizes_by call.depth ws call.function) (owed_size ws old) (owed_size ws new) i (ap (owed_size ws) e ∙ size_last ws old call) h.0,
  fewer (owed_count ws before) (owed_count ws old) (calls_within call.depth ws call.function) (owed_count ws new) (ap (owed_count ws) e ∙ count_last ws old call) h.1,
)

-- a call whose size is more than what is left
pub too_much_owed : (ws : List Weight) (call : Owed) (size first left : ℕ) (before old new : List Owed) → before ≡ old ++ call ∷ [] → left + size ≡ first + owed_size ws before → Spends ws call left old new None → first < size
too_much_owed ws call size first left before old new e i h =
    one_is_more left size first (owed_size ws before) (sizes_by call.depth ws call.function) (owed_size ws old) i (ap (owed_size ws) e ∙ size_last ws old call) h
