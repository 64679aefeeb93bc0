-- Lists that are made by one turn for each element.
use Rattle.std.proofs.Common.{◌≡◌, ◌∙◌, ap, sym, subst, arith, refl, ℕ, zero, suc, ◌+◌, ◌<◌, ◌≤◌, List, [], ◌∷◌, ◌++◌, Bool, true, false, cond, Some, length, take, map, get_or, set, replicate, ⊎_elim}
use Rattle.std.specs.Prelude.{All, filter, slice_get}
use Rattle.std.proofs.lemmas.Bool.{cases_eq}
use Rattle.std.proofs.lemmas.List.{append-nil, get_or_default, get_or-set_same, get_or-set_other, length-replicate, length-set, map_more, take_all}
use Rattle.std.proofs.lemmas.List.Elements.{All-nil, filter_more}
use Rattle.std.proofs.lemmas.Option.{same_Some, slice_get_within}
use Rattle.ooo_code.specs.declared.design.Design.{Design}
use Rattle.ooo_code.specs.declared.segment.Segment.{Segment}
use Rattle.ooo_access.specs.declared.access.Access.{Access}
use Rattle.ooo_board.specs.Links.{AreChannelEvents, AreStarts, AreWaiters}

-- ---- one for each element

pub one_more : {A B : Type 0} (f : A → B) (xs : List A) (i : ℕ) (x : A) (made next : List B) (y : B) → i < length xs → x ≡ get_or xs i x → y ≡ f x → next ≡ made ++ y ∷ [] → made ≡ map f (take i xs) → next ≡ map f (take (i + 1) xs)
one_more f xs i x made next y lt is value pushed so_far =
    pushed ∙ ap (λ ys. ys ++ y ∷ []) so_far ∙ ap (λ z. map f (take i xs) ++ z ∷ []) (value ∙ ap f is) ∙ sym (map_more f xs i x lt)

-- the same where the element is read with a value in place of one past the end
pub one_more_at : {A B : Type 0} (f : A → B) (xs : List A) (i : ℕ) (d : A) (made next : List B) (y : B) → i < length xs → y ≡ f (get_or xs i d) → next ≡ made ++ y ∷ [] → made ≡ map f (take i xs) → next ≡ map f (take (i + 1) xs)
one_more_at f xs i d made next y lt value pushed so_far = one_more f xs i (get_or xs i d) made next y lt (get_or_default xs i d (get_or xs i d) lt) value pushed so_far

pub all_made : {A B : Type 0} (f : A → B) (xs : List A) (i : ℕ) (made : List B) → length xs ≤ i → made ≡ map f (take i xs) → made ≡ map f xs
all_made f xs i made le so_far = so_far ∙ ap (map f) (take_all i xs le)

-- ---- those that pass a test

pub one_kept : {A : Type 0} (p : A → Bool) (xs : List A) (i : ℕ) (x : A) (kept next : List A) → i < length xs → x ≡ get_or xs i x → p x ≡ true → next ≡ kept ++ x ∷ [] → kept ≡ filter p (take i xs) → next ≡ filter p (take (i + 1) xs)
one_kept p xs i x kept next lt is passes pushed so_far =
    pushed ∙ ap (λ ys. ys ++ x ∷ []) so_far ∙ ap (λ b. filter p (take i xs) ++ cond b (x ∷ []) []) (sym passes) ∙ ap (λ z. filter p (take i xs) ++ cond (p z) (z ∷ []) []) is
    ∙ sym (filter_more p xs i x lt)

pub one_left_out : {A : Type 0} (p : A → Bool) (xs : List A) (i : ℕ) (x : A) (kept next : List A) → i < length xs → x ≡ get_or xs i x → p x ≡ false → next ≡ kept → kept ≡ filter p (take i xs) → next ≡ filter p (take (i + 1) xs)
one_left_out p xs i x kept next lt is fails same so_far =
    same ∙ so_far ∙ sym (append-nil (filter p (take i xs))) ∙ ap (λ b. filter p (take i xs) ++ cond b (x ∷ []) []) (sym fails) ∙ ap (λ z. filter p (take i xs) ++ cond (p z) (z ∷ []) []) is
    ∙ sym (filter_more p xs i x lt)

pub all_kept : {A : Type 0} (p : A → Bool) (xs : List A) (i : ℕ) (kept : List A) → length xs ≤ i → kept ≡ filter p (take i xs) → kept ≡ filter p xs
all_kept p xs i kept le so_far = so_far ∙ ap (filter p) (take_all i xs le)

-- ---- lists to which nothing was added yet

empty_at : {A : Type 0} (n e : ℕ) → get_or {A = List A} (replicate n []) e [] ≡ []
empty_at zero e = refl
empty_at (suc n) zero = refl
empty_at (suc n) (suc e) = empty_at n e

none_within : (bound n e : ℕ) (lists : List (List ℕ)) → lists ≡ replicate n [] → All (λ m. m < bound) (get_or lists e [])
none_within bound n e lists is = subst (All (λ m. m < bound)) (sym (ap (λ ls. get_or ls e []) is ∙ empty_at n e)) (All-nil (λ m. m < bound))

pub no_waiters : (design : Design) (segments : List Segment) (access : List Access) (lists : List (List ℕ)) → lists ≡ replicate (length design.events) [] → AreWaiters design 0 segments access lists
no_waiters design segments access lists is = record {
  count = ap length is ∙ length-replicate (length design.events) [];
  all = λ g e s a below. absurd (omega (arith, below));
  within = λ e. none_within (length design.processes) (length design.events) e lists is;
}

pub all_waiting : (design : Design) (g : ℕ) (segments : List Segment) (access : List Access) (lists : List (List ℕ)) → length segments ≤ g → AreWaiters design g segments access lists → AreWaiters design (length segments) segments access lists
all_waiting design g segments access lists le h = record { count = h.count; all = λ i e s a below. h.all i e s a (omega (arith, below, le)); within = h.within }

pub no_events : (design : Design) (lists : List (List ℕ)) → lists ≡ replicate (length design.channels) [] → AreChannelEvents design 0 lists
no_events design lists is = record {
  count = ap length is ∙ length-replicate (length design.channels) [];
  all = λ e k below. absurd (omega (arith, below));
  within = λ c. none_within (length design.events) (length design.channels) c lists is;
}

pub all_events : (design : Design) (e : ℕ) (lists : List (List ℕ)) → length design.events ≤ e → AreChannelEvents design e lists → AreChannelEvents design (length design.events) lists
all_events design e lists le h = record { count = h.count; all = λ i k below. h.all i k (omega (arith, below, le)); within = h.within }

-- ---- where processes begin

pub no_starts : (design : Design) (segments : List Segment) (starts : List ℕ) → starts ≡ replicate (length design.processes) 0 → AreStarts design (length segments) segments starts
no_starts design segments starts is = record {
  count = ap length is ∙ length-replicate (length design.processes) 0;
  first = λ g s from at. let within = slice_get_within segments g s at in absurd (omega (arith, within, from));
}

pub starts_on : (design : Design) (g : ℕ) (segments : List Segment) (starts : List ℕ) (s : Segment) → slice_get segments g ≡ Some s → s.process < length design.processes → AreStarts design (g + 1) segments starts → AreStarts design g segments (set starts s.process g)
starts_on design g segments starts s at_g lt h = record {
  count = length-set starts s.process g ∙ h.count;
  first = λ k t from at_k. ⊎_elim
      (λ same. let e = ap (λ i. get_or (set starts s.process g) i 0) same ∙ get_or-set_same starts s.process g 0 (let n = h.count in omega (arith, n, lt)) in omega (arith, e, from))
      (λ ne.
      let e = get_or-set_other starts s.process t.process g 0 ne in
      let later = ⊎_elim (λ i. absurd (ne (ap (λ (x : Segment). x.process) (same_Some t s (sym at_k ∙ ap (slice_get segments) i ∙ at_g))))) (λ differ. h.first k t (omega (arith, from, differ)) at_k) (cases_eq k g) in
      omega (arith, e, later))
      (cases_eq t.process s.process);
}
