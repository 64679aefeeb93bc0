-- Which effects touch an event.
use Rattle.std.proofs.Common.{◌≡◌, ℕ, ◌==◌, ◌||◌, ⊎_elim, List, [], ◌∷◌, Bool, true, false, if◌then◌else◌, Option, Some, None, refl, sym, ap, ◌∙◌}
use Rattle.std.specs.List.{list_any}
use Rattle.ooo_time.specs.declared.stamp.Stamp.{Stamp}
use Rattle.ooo_time.specs.Stamps.{stamp_after}
use Rattle.ooo_value.specs.declared.bound.BoundEvent.{BoundEvent}
use Rattle.ooo_value.specs.declared.bound.BoundEvent.TheVariants as event
use Rattle.ooo_value.specs.declared.values.Value.{Value}
use Rattle.ooo_code.specs.declared.activation.Effect.{Effect}
use Rattle.ooo_code.specs.declared.activation.Effect.TheVariants as effect
use Rattle.ooo_channels.specs.Calls.{bears_on}
use Rattle.ooo_channels.specs.Operations.{is_call_on}
use Rattle.ooo_schedules.specs.Model.{In}
use Rattle.ooo_schedules.specs.Program.{has_put, has_taken, is_any, is_some, own_calls, requested, touches_by}
use Rattle.ooo_schedules.specs.Slots.{Call, Notify, Cancel}
use Rattle.ooo_dispatch.specs.Banks.{affects}
use Rattle.ooo_dispatch.proofs.Asked.{swap}

-- ---- some effect of a list

pub none_first : (test : Effect → Bool) (f : Effect) (fs : List Effect) → list_any test (f ∷ fs) ≡ false → test f ≡ false
none_first test f fs h = at (test f) h
  where
    at : (b : Bool) → (b || list_any test fs) ≡ false → b ≡ false
    at true k = absurd cc
    at false k = refl

pub none_after : (test : Effect → Bool) (f : Effect) (fs : List Effect) → list_any test (f ∷ fs) ≡ false → list_any test fs ≡ false
none_after test f fs h = at (test f) h
  where
    at : (b : Bool) → (b || list_any test fs) ≡ false → list_any test fs ≡ false
    at true k = absurd cc
    at false k = k

pub none_in : (test : Effect → Bool) (fs : List Effect) → list_any test fs ≡ false → (f : Effect) → In f fs → test f ≡ false
none_in test [] h f i = absurd i
none_in test (g ∷ fs) h f i = ⊎_elim (λ e. ap test e ∙ none_first test g fs h) (λ j. none_in test fs (none_after test g fs h) f j) i

-- ---- the events that they touch

either : (a : Bool) → (a || true) ≡ true
either true = refl
either false = refl

-- one more call, where an effect names the event
one_call : (c d : ℕ) (x : Call Stamp) (cs : List (Call Stamp)) (rest : Bool) → (is_any (if d == c then x ∷ cs else cs) || rest) ≡ (is_any cs || ((c == d) || rest))
one_call c d x cs rest = by (d == c) ∙ ap (λ b. is_any cs || (b || rest)) (swap d c)
  where
    by : (b : Bool) → (is_any (if b then x ∷ cs else cs) || rest) ≡ (is_any cs || (b || rest))
    by true = sym (either (is_any cs))
    by false = refl

own_any : (s : Stamp) (e : ℕ) (cs : List (Call Stamp)) (fs : List Effect) → is_any (own_calls s e cs fs) ≡ (is_any cs || list_any (is_call_on e) fs)
own_any s e cs [] = at (is_any cs)
  where
    at : (b : Bool) → b ≡ (b || false)
    at true = refl
    at false = refl
own_any s e cs (effect.Notify d k ∷ fs) = own_any s e (if d == e then Notify (stamp_after s k) ∷ cs else cs) fs ∙ one_call e d (Notify (stamp_after s k)) cs (list_any (is_call_on e) fs)
own_any s e cs (effect.Cancel d ∷ fs) = own_any s e (if d == e then Cancel ∷ cs else cs) fs ∙ one_call e d Cancel cs (list_any (is_call_on e) fs)
own_any s e cs (effect.Request c v ∷ fs) = own_any s e cs fs
own_any s e cs (effect.Put c v ∷ fs) = own_any s e cs fs
own_any s e cs (effect.Take c ∷ fs) = own_any s e cs fs
own_any s e cs (effect.Stop ∷ fs) = own_any s e cs fs

one_request : (c d : ℕ) (v : Value) (a : Option Value) (rest : Bool) → (is_some (if d == c then Some v else a) || rest) ≡ (is_some a || ((c == d) || rest))
one_request c d v a rest = by (d == c) ∙ ap (λ b. is_some a || (b || rest)) (swap d c)
  where
    by : (b : Bool) → (is_some (if b then Some v else a) || rest) ≡ (is_some a || (b || rest))
    by true = sym (either (is_some a))
    by false = refl

request_any : (c : ℕ) (a : Option Value) (fs : List Effect) → is_some (requested c a fs) ≡ (is_some a || list_any (bears_on (event.Changed c)) fs)
request_any c a [] = at (is_some a)
  where
    at : (b : Bool) → b ≡ (b || false)
    at true = refl
    at false = refl
request_any c a (effect.Request d v ∷ fs) = request_any c (if d == c then Some v else a) fs ∙ one_request c d v a (list_any (bears_on (event.Changed c)) fs)
request_any c a (effect.Put d v ∷ fs) = request_any c a fs
request_any c a (effect.Take d ∷ fs) = request_any c a fs
request_any c a (effect.Notify d k ∷ fs) = request_any c a fs
request_any c a (effect.Cancel d ∷ fs) = request_any c a fs
request_any c a (effect.Stop ∷ fs) = request_any c a fs

rise_any : (c : ℕ) (fs : List Effect) → list_any (bears_on (event.Changed c)) fs ≡ list_any (bears_on (event.Rise c)) fs
rise_any c [] = refl
rise_any c (effect.Request d v ∷ fs) = ap (λ b. (c == d) || b) (rise_any c fs)
rise_any c (effect.Put d v ∷ fs) = rise_any c fs
rise_any c (effect.Take d ∷ fs) = rise_any c fs
rise_any c (effect.Notify d k ∷ fs) = rise_any c fs
rise_any c (effect.Cancel d ∷ fs) = rise_any c fs
rise_any c (effect.Stop ∷ fs) = rise_any c fs

fall_any : (c : ℕ) (fs : List Effect) → list_any (bears_on (event.Changed c)) fs ≡ list_any (bears_on (event.Fall c)) fs
fall_any c [] = refl
fall_any c (effect.Request d v ∷ fs) = ap (λ b. (c == d) || b) (fall_any c fs)
fall_any c (effect.Put d v ∷ fs) = fall_any c fs
fall_any c (effect.Take d ∷ fs) = fall_any c fs
fall_any c (effect.Notify d k ∷ fs) = fall_any c fs
fall_any c (effect.Cancel d ∷ fs) = fall_any c fs
fall_any c (effect.Stop ∷ fs) = fall_any c fs

pub put_any : (c : ℕ) (fs : List Effect) → has_put c fs ≡ list_any (bears_on (event.Written c)) fs
put_any c [] = refl
put_any c (effect.Put d v ∷ fs) = ap (λ b. b || has_put c fs) (swap d c) ∙ ap (λ b. (c == d) || b) (put_any c fs)
put_any c (effect.Request d v ∷ fs) = put_any c fs
put_any c (effect.Take d ∷ fs) = put_any c fs
put_any c (effect.Notify d k ∷ fs) = put_any c fs
put_any c (effect.Cancel d ∷ fs) = put_any c fs
put_any c (effect.Stop ∷ fs) = put_any c fs

pub take_any : (c : ℕ) (fs : List Effect) → has_taken c fs ≡ list_any (bears_on (event.Taken c)) fs
take_any c [] = refl
take_any c (effect.Take d ∷ fs) = ap (λ b. b || has_taken c fs) (swap d c) ∙ ap (λ b. (c == d) || b) (take_any c fs)
take_any c (effect.Request d v ∷ fs) = take_any c fs
take_any c (effect.Put d v ∷ fs) = take_any c fs
take_any c (effect.Notify d k ∷ fs) = take_any c fs
take_any c (effect.Cancel d ∷ fs) = take_any c fs
take_any c (effect.Stop ∷ fs) = take_any c fs

-- an activation touches an event where some effect of it affects it
pub touches_any : (s : Stamp) (e : ℕ) (k : BoundEvent) (fs : List Effect) → touches_by s e k fs ≡ list_any (affects e k) fs
touches_any s e event.Own fs = own_any s e [] fs
touches_any s e (event.Changed c) fs = request_any c None fs
touches_any s e (event.Rise c) fs = request_any c None fs ∙ rise_any c fs
touches_any s e (event.Fall c) fs = request_any c None fs ∙ fall_any c fs
touches_any s e (event.Written c) fs = put_any c fs
touches_any s e (event.Taken c) fs = take_any c fs

-- of an event of a channel, the effects that bear on it
pub bears_any : (e : ℕ) (k : BoundEvent) (fs : List Effect) → (k ≡ event.Own → ⊥) → list_any (affects e k) fs ≡ list_any (bears_on k) fs
bears_any e event.Own fs n = absurd (n refl)
bears_any e (event.Changed c) fs n = refl
bears_any e (event.Rise c) fs n = refl
bears_any e (event.Fall c) fs n = refl
bears_any e (event.Written c) fs n = refl
bears_any e (event.Taken c) fs n = refl
