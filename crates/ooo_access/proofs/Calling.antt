-- Notifications: those told as such, and those of channels' events.
use Rattle.std.proofs.Common.{◌≡◌, ℕ, zero, suc, ◌+◌, ◌<◌, List, [], ◌∷◌, ◌++◌, length, take, get_or, ap, sym, ◌∙◌, subst, arith, inl, inr, ◌⊎◌, ◌↔◌, Option, Some, None, Bool}
use Rattle.std.specs.Prelude.{Contains, slice_get}
use Rattle.std.proofs.lemmas.List.{take_more}
use Rattle.std.proofs.lemmas.List.Elements.{Contains-push, Contains-push_cases, Contains-append_left}
use Rattle.ooo_lemmas.proofs.Placed.{at_push, at_end}
use Rattle.ooo_lemmas.proofs.Contained.{not_in_none}
use Rattle.ooo_time.specs.declared.time.Time.{Time}
use Rattle.ooo_value.specs.declared.bound.BoundEvent.{BoundEvent}
use Rattle.ooo_access.specs.declared.told.Told.{Told}
use Rattle.ooo_access.specs.declared.told.Told.TheVariants as tells
use Rattle.ooo_access.specs.Calls.{IsCalled, IsCalledAt}
use Rattle.ooo_access.specs.Notices.{Notice, AreInOrder}

-- the notifications told as such, in order
pub record HasDirect (told : List Told) (notices : List Notice) : Type 0 where
  pub has : (e : ℕ) (t : Option Time) → Contains notices (e, t) ↔ Contains told (tells.Notifies e t)
  pub in_order : AreInOrder notices

pub direct_none : HasDirect [] []
direct_none = record {
  has = λ e t. (λ h. absurd (not_in_none (e, t) h), λ h. absurd (not_in_none (tells.Notifies e t) h));
  in_order = λ i j d lt inside. absurd (omega arith);
}

same_notice : (x y : ℕ) (s t : Option Time) → x ≡ y → s ≡ t → ◌≡◌ {A = Notice} (x, s) (y, t)
same_notice x y s t e f = cc

-- one more is told
pub direct_more : (told : List Told) (notices notices' : List Notice) (e : ℕ) (t : Option Time) → HasDirect told notices → ((m : Notice) → Contains notices' m ↔ (Contains notices m ⊎ (m ≡ (e, t)))) → AreInOrder notices' → HasDirect (told ++ tells.Notifies e t ∷ []) notices'
direct_more told notices notices' e t h g up = record {
  has = λ f s. (
    λ w. elim ((g (f, s)).0 w) [
      | inl a ↦ Contains-append_left told (tells.Notifies e t ∷ []) (tells.Notifies f s) ((h.has f s).0 a)
      | inr q ↦ let a = ap (λ (m : Notice). m.0) q in let b = ap (λ (m : Notice). m.1) q in let same : tells.Notifies e t ≡ tells.Notifies f s = cc in subst (λ u. Contains (told ++ tells.Notifies e t ∷ []) u) same (Contains-push told (tells.Notifies e t))
    ],
    λ w. elim (Contains-push_cases told (tells.Notifies e t) (tells.Notifies f s) w) [
      | inl a ↦ (g (f, s)).1 (inl ((h.has f s).1 a))
      | inr q ↦ let a : f ≡ e = cc in let b : s ≡ t = cc in (g (f, s)).1 (inr (same_notice f e s t a b))
    ],
  );
  in_order = up;
}

-- another thing is told
pub direct_other : (told : List Told) (u : Told) (notices : List Notice) → HasDirect told notices → ((e : ℕ) (t : Option Time) → u ≡ tells.Notifies e t → ⊥) → HasDirect (told ++ u ∷ []) notices
direct_other told u notices h out = record {
  has = λ f s. (
    λ w. Contains-append_left told (u ∷ []) (tells.Notifies f s) ((h.has f s).0 w),
    λ w. elim (Contains-push_cases told u (tells.Notifies f s) w) [ inl a ↦ (h.has f s).1 a | inr q ↦ absurd (out f s q) ],
  );
  in_order = h.in_order;
}

-- the notifications that were there, and those of these events of channels, in order
pub record HasCalled (changed taken given : List Bool) (events : List BoundEvent) (before notices : List Notice) : Type 0 where
  pub has : (e : ℕ) (t : Option Time) → Contains notices (e, t) ↔ (Contains before (e, t) ⊎ ((t ≡ None) × IsCalledAt changed taken given events e))
  pub in_order : AreInOrder notices

-- none of an event so far
pub called_none : (changed taken given : List Bool) (before : List Notice) → AreInOrder before → HasCalled changed taken given [] before before
called_none changed taken given before up = record {
  has = λ e t. (λ w. inl w, λ w. elim w [ inl a ↦ a | inr b ↦ absurd (let i = b.1.is in cc) ]);
  in_order = up;
}

at_earlier : {A : Type 0} (xs : List A) (x y : A) (k : ℕ) → slice_get xs k ≡ Some y → slice_get (xs ++ x ∷ []) k ≡ Some y
at_earlier [] x y k h = absurd cc
at_earlier (z ∷ zs) x y zero h = h
at_earlier (z ∷ zs) x y (suc k) h = at_earlier zs x y k h

-- an event more, which is notified
pub called_more : (changed taken given : List Bool) (events : List BoundEvent) (before notices notices' : List Notice) (e : ℕ) (event : BoundEvent) → HasCalled changed taken given events before notices → e ≡ length events → IsCalled changed taken given event → ((m : Notice) → Contains notices' m ↔ (Contains notices m ⊎ (m ≡ (e, None)))) → AreInOrder notices' → HasCalled changed taken given (events ++ event ∷ []) before notices'
called_more changed taken given events before notices notices' e event h len is g up = record {
  has = λ f t. (
    λ w. elim ((g (f, t)).0 w) [
      | inl a ↦ elim ((h.has f t).0 a) [ inl b ↦ inl b | inr b ↦ inr (b.0, record { event = b.1.event; is = at_earlier events event b.1.event f b.1.is; called = b.1.called }) ]
      | inr q ↦
          let a : f ≡ length events = ap (λ (m : Notice). m.0) q ∙ len in
          inr (ap (λ (m : Notice). m.1) q, record { event = event; is = subst (λ k. slice_get (events ++ event ∷ []) k ≡ Some event) (sym a) (at_end events event); called = is })
    ],
    λ w. elim w [
      | inl a ↦ (g (f, t)).1 (inl ((h.has f t).1 (inl a)))
      | inr b ↦ elim (at_push events event b.1.event f b.1.is) [
        | inl a ↦ (g (f, t)).1 (inl ((h.has f t).1 (inr (b.0, record { event = b.1.event; is = a; called = b.1.called }))))
        | inr a ↦ (g (f, t)).1 (inr (same_notice f e t None (a.0 ∙ sym len) b.0))
      ]
    ],
  );
  in_order = up;
}

-- an event more, which isn't
pub called_other : (changed taken given : List Bool) (events : List BoundEvent) (before notices : List Notice) (event : BoundEvent) → HasCalled changed taken given events before notices → (IsCalled changed taken given event → ⊥) → HasCalled changed taken given (events ++ event ∷ []) before notices
called_other changed taken given events before notices event h out = record {
  has = λ f t. (
    λ w. elim ((h.has f t).0 w) [ inl b ↦ inl b | inr b ↦ inr (b.0, record { event = b.1.event; is = at_earlier events event b.1.event f b.1.is; called = b.1.called }) ],
    λ w. elim w [
      | inl a ↦ (h.has f t).1 (inl a)
      | inr b ↦ elim (at_push events event b.1.event f b.1.is) [
        | inl a ↦ (h.has f t).1 (inr (b.0, record { event = b.1.event; is = a; called = b.1.called }))
        | inr a ↦ absurd (out (subst (λ x. IsCalled changed taken given x) (sym a.1) b.1.called))
      ]
    ],
  );
  in_order = h.in_order;
}

-- the events so far, and one more
pub called_step : (changed taken given : List Bool) (events : List BoundEvent) (before notices : List Notice) (i : ℕ) (d : BoundEvent) → i < length events → HasCalled changed taken given (take i events ++ get_or events i d ∷ []) before notices → HasCalled changed taken given (take (i + 1) events) before notices
called_step changed taken given events before notices i d lt h =
    subst (λ xs. HasCalled changed taken given xs before notices) (sym (take_more events i d lt)) h
