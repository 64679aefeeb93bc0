-- What is walked one after the other.
use Rattle.std.proofs.Common.{◌≡◌, ◌∙◌, ap, sym, add-one, ℕ, ◌+◌, ◌<◌, suc, List, ◌∷◌, drop, length, get_or, Bool, true, false}
use Rattle.std.specs.Prelude.{is_some, not}
use Rattle.std.proofs.Math.Seq.{drop-cons}
use Rattle.ooo_walk.specs.declared.state.Walk.{Walk}
use Rattle.ooo_walk.specs.States.{in_order, unless_refused}

-- what is left of a list, from a part on
dropped : {A : Type 0} (xs : List A) (i : ℕ) (x : A) → i < length xs → x ≡ get_or xs i x → drop i xs ≡ x ∷ drop (i + 1) xs
dropped xs i x h is = rw (add-one i) (drop-cons xs i x h ∙ ap (λ y. y ∷ drop (suc i) xs) (sym is))

-- what is walked unless something is refused: where nothing is, and where something is
pub one_more : (f : Walk → Walk) (a b : Walk) (none : Bool) → is_some a.refusal ≡ not none → none ≡ true → b ≡ f a → b ≡ unless_refused f a
one_more f a b none tells is walked = rw (tells, is) walked

pub left_out : (f : Walk → Walk) (a b : Walk) (none : Bool) → is_some a.refusal ≡ not none → none ≡ false → b ≡ a → b ≡ unless_refused f a
left_out f a b none tells is same = rw (tells, is) same

-- what is walked in all stays the same where one part more is walked
pub in_order_more : {A : Type 0} (f : A → Walk → Walk) (xs : List A) (i : ℕ) (x : A) (a b whole : Walk) → i < length xs → x ≡ get_or xs i x → b ≡ unless_refused (f x) a → in_order f (drop i xs) a ≡ whole →
    in_order f (drop (i + 1) xs) b ≡ whole
in_order_more f xs i x a b whole h is more so_far =
    ap (λ w. in_order f (drop (i + 1) xs) w) more ∙ ap (λ ys. in_order f ys a) (sym (dropped xs i x h is)) ∙ so_far
