-- A job's activation, on a view of all variables that the job is part of.
use Rattle.std.proofs.Common.{◌≡◌, ℕ, suc, inl, inr, ◌<◌, ◌==◌, ◌⊎◌, List, [], ◌∷◌, length, Bool, true, false, if◌then◌else◌, Option, Some, None, refl, sym, ap, subst, ◌∙◌, arith}
use Rattle.std.specs.Prelude.{is_some, slice_get, unwrap_or, All, IsSome}
use Rattle.std.proofs.lemmas.Bool.Decides.{Decides-eqb}
use Rattle.std.proofs.lemmas.List.{ext_get_or}
use Rattle.ooo_value.specs.declared.values.Value.{Value}
use Rattle.ooo_code.specs.declared.activation.Effect.{Effect}
use Rattle.ooo_code.specs.declared.activation.Frame.{Frame}
use Rattle.ooo_code.specs.declared.activation.JobEnd.{JobEnd}
use Rattle.ooo_code.specs.declared.design.Design.{Design}
use Rattle.ooo_code.specs.declared.design.Proc.{Proc}
use Rattle.ooo_code.specs.Dependence.{AgreeOn, DidTheSame, TouchesOnly}
use Rattle.ooo_code.specs.Outcomes.{Outcome, View}
use Rattle.ooo_code.specs.Nodes.{by_nodes}
use Rattle.ooo_code.specs.Segments.{Accesses}
use Rattle.ooo_code.specs.Touches.{Touch, Writes}
use Rattle.ooo_interp.specs.Carrying.{Carried, all_cells, listed, numbers_of, put_in}
use Rattle.ooo_interp.specs.Jobs.{AreAmong, CarriesTouched, IsCarriedOf, SeeAlike}
use Rattle.ooo_interp.proofs.Placed.{at_number, cells_below, length_all, length_placed, placed}
use Rattle.ooo_interp.proofs.Stable.{values_stable}

-- ---- the laws of ooo_code on what an activation touches, which are premises here

abbrev pub ReadsTouched : Type 0
ReadsTouched = (design : Design) (statements p : ℕ) (process : Proc) (frame : Frame) (v w : View) → slice_get design.processes p ≡ Some process → AgreeOn (Accesses design process frame.entry) v w
    → DidTheSame (Accesses design process frame.entry) (by_nodes design statements p frame v) (by_nodes design statements p frame w)

abbrev pub ChangesTouched : Type 0
ChangesTouched = (design : Design) (statements p : ℕ) (process : Proc) (frame : Frame) (v : View) → slice_get design.processes p ≡ Some process → TouchesOnly (Accesses design process frame.entry) v (by_nodes design statements p frame v)

-- ---- what is listed

all_first : {A : Type 0} (P : A → Type 0) (y : A) (ys : List A) → All P (y ∷ ys) → P y
all_first P y ys h = h 0 y (omega arith)

all_later : {A : Type 0} (P : A → Type 0) (y : A) (ys : List A) → All P (y ∷ ys) → All P ys
all_later P y ys h k d lt = h (suc k) d (omega arith)

-- what holds of all that is carried holds of what is listed
listed_all : (P : Carried → Type 0) (xs : List Carried) (x : ℕ) (cells : List Value) → All P xs → listed xs x ≡ Some cells → P (x, cells)
listed_all P [] x cells h e = absurd cc
listed_all P (y ∷ ys) x cells h e = by (x == y.0) refl e (listed_all P ys x cells (all_later P y ys h))
  where
    by : (b : Bool) → (x == y.0) ≡ b → (if b then Some y.1 else listed ys x) ≡ Some cells → (listed ys x ≡ Some cells → P (x, cells)) → P (x, cells)
    by true same is go =
        let n : y.0 ≡ x = sym ((Decides-eqb x y.0).0 same) in
        let c : y.1 ≡ cells = cc in
        let whole : y ≡ (x, cells) = λ i. (n i, c i) in
        subst P whole (all_first P y ys h)
    by false differs is go = go is

-- a number stands among numbers
among : List ℕ → ℕ → Bool
among [] x = false
among (n ∷ ns) x = if x == n then true else among ns x

listed_among : (xs : List Carried) (x : ℕ) → is_some (listed xs x) ≡ among (numbers_of xs) x
unfolding among
listed_among [] x = refl
listed_among (y ∷ ys) x = by (x == y.0) (listed_among ys x)
  where
    by : (b : Bool) → is_some (listed ys x) ≡ among (numbers_of ys) x → is_some (if b then Some y.1 else listed ys x) ≡ (if b then true else among (numbers_of ys) x)
    by true go = refl
    by false go = go

-- lists with the same numbers have the same variables
same_listed : (xs ys : List Carried) (x : ℕ) → numbers_of xs ≡ numbers_of ys → is_some (listed xs x) ≡ is_some (listed ys x)
same_listed xs ys x h = listed_among xs x ∙ ap (λ ns. among ns x) h ∙ sym (listed_among ys x)

outcome_from : {K : Type 0} (o : Outcome K) (output : List ℕ) (variables : List (List Value)) (effects : List Effect) (end : JobEnd) (next : K) → o.deed.output ≡ output → o.deed.variables ≡ variables → o.deed.effects ≡ effects → o.deed.end ≡ end → o.next ≡ next → o ≡ record { deed = record { output = output; variables = variables; effects = effects; end = end }; next = next }
outcome_from o output variables effects end next p q r s t = λ i. record { deed = record { output = p i; variables = q i; effects = r i; end = s i }; next = t i }

-- ---- on a view

module _ (design : Design) (T : Touch → Type 0) (v : View) (owned copied : List Carried) (fits_owned : All (IsCarriedOf design) owned) (fits_copied : All (IsCarriedOf design) copied) (among_owned : AreAmong v.variables owned) (among_copied : AreAmong v.variables copied) where
  abbrev pub count : ℕ
  count = length design.variables

  abbrev pub carried_cells : List (List Value)
  carried_cells = all_cells count owned copied

  -- a variable that is carried has its elements of the view
  carried_as_seen : (x : ℕ) → IsSome (listed owned x) ⊎ IsSome (listed copied x) → at_number carried_cells x ≡ at_number v.variables x
  carried_as_seen x some = by (listed owned x) refl (listed copied x) refl some
    where
      by : (o : Option (List Value)) → listed owned x ≡ o → (p : Option (List Value)) → listed copied x ≡ p → IsSome o ⊎ IsSome p → at_number carried_cells x ≡ at_number v.variables x
      by (Some c) e p f h =
          let lt : x < count = listed_all (IsCarriedOf design) owned x c fits_owned e in
          cells_below count owned copied x lt ∙ ap (λ o. unwrap_or o (unwrap_or (listed copied x) [])) e ∙ sym (listed_all (λ k. at_number v.variables k.0 ≡ k.1) owned x c among_owned e)
      by None e (Some c) f h =
          let lt : x < count = listed_all (IsCarriedOf design) copied x c fits_copied f in
          cells_below count owned copied x lt ∙ ap (λ o. unwrap_or o (unwrap_or (listed copied x) [])) e ∙ ap (λ o. unwrap_or o []) f ∙ sym (listed_all (λ k. at_number v.variables k.0 ≡ k.1) copied x c among_copied f)
      by None e None f h = elim h [ inl a ↦ absurd cc | inr b ↦ absurd cc ]

  -- the view of what is carried agrees with it
  pub carried_agrees : (J : View) → J.stamp ≡ v.stamp → J.variables ≡ carried_cells → length v.variables ≡ count → CarriesTouched T owned copied → SeeAlike T J.seen v.seen → AgreeOn T J v
  carried_agrees J stamp is long covers see = record {
    stamp = stamp;
    variables = record {
      count = ap length is ∙ length_all count owned copied ∙ sym long;
      read = λ x t. ap (λ l. at_number l x) is ∙ carried_as_seen x (covers.read x t);
      written = λ x t. ap (λ l. at_number l x) is ∙ carried_as_seen x (inl (covers.written x t));
    };
    signals = see.signals;
    readable = see.readable;
    writable = see.writable;
  }

  module _ (a b : Outcome Frame) (J : View) (is : J.variables ≡ carried_cells) (long : length v.variables ≡ count) (covers : CarriesTouched T owned copied) (same : DidTheSame T a b) (only_a : TouchesOnly T J a) (only_b : TouchesOnly T v b) (left left_copied : List Carried) (numbers : numbers_of left ≡ numbers_of owned) (left_is : a.deed.variables ≡ all_cells count left left_copied) where
    -- a variable that may be changed comes to the same on both
    changed_same : (x : ℕ) → IsSome (listed owned x) → at_number a.deed.variables x ≡ at_number b.deed.variables x
    changed_same x some =
        values_stable (at_number a.deed.variables x) (at_number b.deed.variables x) (λ differs.
        let unwritten : ¬ T (Writes x) = λ t. differs (same.variables.written x t) in
        differs (only_a.variables x unwritten ∙ ap (λ l. at_number l x) is ∙ carried_as_seen x (inl some) ∙ sym (only_b.variables x unwritten)))

    variable_left : (x : ℕ) → x < count → at_number b.deed.variables x ≡ at_number (put_in left v.variables) x
    variable_left x lt = by (listed left x) refl ∙ sym (placed left v.variables x (omega arith))
      where
        by : (o : Option (List Value)) → listed left x ≡ o → at_number b.deed.variables x ≡ unwrap_or (listed left x) (at_number v.variables x)
        by (Some c) e =
            let some : is_some (listed owned x) ≡ true = sym (same_listed left owned x numbers) ∙ ap is_some e in
            sym (changed_same x some) ∙ ap (λ l. at_number l x) left_is ∙ cells_below count left left_copied x lt ∙ ap (λ o. unwrap_or o (unwrap_or (listed left_copied x) [])) e ∙ sym (ap (λ o. unwrap_or o (at_number v.variables x)) e)
        by None e =
            let none : is_some (listed owned x) ≡ false = sym (same_listed left owned x numbers) ∙ ap is_some e in
            only_b.variables x (λ t. let some : is_some (listed owned x) ≡ true = covers.written x t in absurd cc) ∙ sym (ap (λ o. unwrap_or o (at_number v.variables x)) e)

    pub all_left : b.deed.variables ≡ put_in left v.variables
    all_left =
        let l : length a.deed.variables ≡ count = ap length left_is ∙ length_all count left left_copied in
        let m : length a.deed.variables ≡ length b.deed.variables = same.variables.count in
        let n : length (put_in left v.variables) ≡ length v.variables = length_placed left v.variables in
        ext_get_or [] b.deed.variables (put_in left v.variables) (omega arith) (λ i lt. variable_left i (omega arith))

-- what an activation did on what is carried, it does on a view of all variables
pub whole : ReadsTouched → ChangesTouched → (design : Design) (statements p : ℕ) (process : Proc) (frame : Frame) (J v : View) (owned copied left left_copied : List Carried) (output : List ℕ) (effects : List Effect) (end : JobEnd) (next : Frame) → slice_get design.processes p ≡ Some process → All (IsCarriedOf design) owned → All (IsCarriedOf design) copied → AreAmong v.variables owned → AreAmong v.variables copied → CarriesTouched (Accesses design process frame.entry) owned copied → SeeAlike (Accesses design process frame.entry) J.seen v.seen → J.stamp ≡ v.stamp → J.variables ≡ all_cells (length design.variables) owned copied → length v.variables ≡ length design.variables → numbers_of left ≡ numbers_of owned → by_nodes design statements p frame J ≡ record { deed = record { output = output; variables = all_cells (length design.variables) left left_copied; effects = effects; end = end }; next = next } → by_nodes design statements p frame v ≡ record { deed = record { output = output; variables = put_in left v.variables; effects = effects; end = end }; next = next }
whole reads changes design statements p process frame J v owned copied left left_copied output effects end next there fo fc ao ac covers see stamp is long numbers did =
    let T : Touch → Type 0 = Accesses design process frame.entry in
    let agree = carried_agrees design T v owned copied fo fc ao ac J stamp is long covers see in
    let same = reads design statements p process frame J v there agree in
    let only_a = changes design statements p process frame J there in
    let only_b = changes design statements p process frame v there in
    let variables = all_left design T v owned copied fo fc ao ac (by_nodes design statements p frame J) (by_nodes design statements p frame v) J is long covers same only_a only_b left left_copied numbers (ap (λ (o : Outcome Frame). o.deed.variables) did) in
    outcome_from (by_nodes design statements p frame v) output (put_in left v.variables) effects end next
    (sym same.output ∙ ap (λ (o : Outcome Frame). o.deed.output) did)
    variables
    (sym same.effects ∙ ap (λ (o : Outcome Frame). o.deed.effects) did)
    (sym same.end ∙ ap (λ (o : Outcome Frame). o.deed.end) did)
    (sym same.next ∙ ap (λ (o : Outcome Frame). o.next) did)
