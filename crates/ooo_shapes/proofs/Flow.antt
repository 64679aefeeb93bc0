-- What is needed of a node at its place, and that a process whose nodes have it is sound.
use Rattle.std.proofs.Common.{◌≡◌, ℕ, zero, suc, ◌+◌, ◌<◌, ◌≤◌, List, [], ◌∷◌, ◌++◌, length, Bool, false, Some, None, refl, sym, ap, ◌∙◌, subst, arith}
use Rattle.std.specs.Prelude.{slice_get, All, Contains, IsTrue}
use Rattle.std.proofs.lemmas.List.Elements.{All-nil, All-cons, All-contains}
use Rattle.ooo_lemmas.proofs.Each.{all_one}
use Rattle.ooo_value.specs.declared.bound.ProcessKind.TheVariants.{Method}
use Rattle.ooo_value.specs.declared.kinds.Kind.{Kind}
use Rattle.ooo_code.specs.declared.design.Design.{Design}
use Rattle.ooo_code.specs.declared.design.Proc.{Proc}
use Rattle.ooo_code.specs.declared.node.Node.{Node}
use Rattle.ooo_code.specs.declared.node.NodeKind.{NodeKind}
use Rattle.ooo_code.specs.declared.node.NodeKind.TheVariants as kind
use Rattle.ooo_code.specs.Segments.{IsNodeOf, successors, followers, is_wait}
use Rattle.ooo_code.specs.Sound.{Scope, FitsNode, MayBegin, MayLeadTo, HasStatic, FitsProcessNode}
use Rattle.ooo_bound.specs.declared.model.Bound.{Bound}
use Rattle.ooo_bound.specs.declared.model.BoundProcess.{BoundProcess}
use Rattle.ooo_shapes.specs.Simples.{begins}
use Rattle.ooo_shapes.proofs.Places.{HasAt, After}
use Rattle.ooo_shapes.proofs.Enter.{begins_some}

two : {A : Type 0} (P : A → Type 0) (x y : A) → P x → P y → All P (x ∷ y ∷ [])
two P x y h i = All-cons P x (y ∷ []) h (all_one P y i)

-- each node that a process may begin with may be entered from everywhere
may_lead : (from : NodeKind) (next n : ℕ) (to : NodeKind) → MayBegin to → MayLeadTo from next n to
may_lead (kind.TestAvailable c other) next n (kind.Take b s) h = absurd h
may_lead from next n (kind.Take b s) h = absurd h
may_lead (kind.TestFree c other) next n (kind.Put b e) h = absurd h
may_lead from next n (kind.Put b e) h = absurd h
may_lead from next n to h = tt

same_node : (code : List Node) (q : ℕ) (i j : Node) → slice_get code q ≡ Some i → slice_get code q ≡ Some j → i ≡ j
same_node code q i j h k = let e : Some i ≡ Some j = sym h ∙ k in cc

-- the first of some nodes may be entered from everywhere
abbrev pub Begins : List Node → Type 0
Begins [] = Unit {0}
Begins (i ∷ is) = MayBegin i.kind

pub begins_both : (xs ys : List Node) → Begins xs → Begins ys → Begins (xs ++ ys)
begins_both [] ys h k = k
begins_both (i ∷ xs) ys h k = h

module _ (b : Bound) (process : BoundProcess) (code : List Node) (first end : ℕ) (slots : List Kind) where
  abbrev pub names : Scope
  names = record { slots = slots; variables = b.variables; channels = b.channels }

  -- a node of the process that may be entered from everywhere
  pub record Enter (q : ℕ) : Type 0 where
    pub from : first ≤ q
    pub below : q < end
    pub begins : (i : Node) → slice_get code q ≡ Some i → MayBegin i.kind

  abbrev pub IsAfter : ℕ → ℕ → Type 0
  IsAfter p q = After b process 0 code p q

  -- the way from place p to place q
  abbrev pub Way : (counts : Bool) → (p q : ℕ) → Type 0
  Way counts p q = Enter q × (counts ≡ false → IsAfter (p + 1) q)

  -- behind a test for a value there is its take, and behind all_one for a free slot its put
  pub record Tested (k : NodeKind) (next other : ℕ) : Type 0 where
    pub node : Node
    pub is : slice_get code next ≡ Some node
    pub kind_is : node.kind ≡ k
    pub from : first ≤ next
    pub below : next < end
    pub apart : next ≡ other → ⊥

  -- where a node leads
  abbrev pub Flow : (counts : Bool) → (p : ℕ) → NodeKind → (next : ℕ) → Type 0
  Flow counts p (kind.Test e other) next = Way counts p next × Way counts p other
  Flow counts p (kind.TestAvailable c other) next = ((s : ℕ) × Tested (kind.Take c s) next other) × (counts ≡ false → IsAfter (p + 1) next) × Way counts p other
  Flow counts p (kind.TestFree c other) next = ((e : _) × Tested (kind.Put c e) next other) × (counts ≡ false → IsAfter (p + 1) next) × Way counts p other
  Flow counts p (kind.Wait w) next = Enter next × (IsTrue w.is_static → w.events ≡ process.sensitive) × (process.kind ≡ Method → ⊥)
  Flow counts p (kind.Trigger w) next = Way counts p next × (IsTrue w.is_static → w.events ≡ process.sensitive)
  Flow counts p kind.End next = Unit {0}
  Flow counts p _ next = Way counts p next

  -- all that is needed of a node at a place
  abbrev pub NodeOk : ℕ → Node → Type 0
  NodeOk p i = FitsNode names b.events i.kind × Flow i.counts p i.kind i.next

  abbrev pub AllOk : ℕ → List Node → Type 0
  AllOk p [] = Unit {0}
  AllOk p (i ∷ is) = NodeOk p i × AllOk (p + 1) is

  pub all_both : (p : ℕ) (xs ys : List Node) → AllOk p xs → AllOk (p + length xs) ys → AllOk p (xs ++ ys)
  all_both p [] ys h k = let e : p + 0 ≡ p = omega arith in subst (λ n. AllOk n ys) e k
  all_both p (i ∷ xs) ys h k =
      let e : p + length (i ∷ xs) ≡ p + 1 + length xs = omega arith in
      (h.0, all_both (p + 1) xs ys h.1 (subst (λ n. AllOk n ys) e k))

  -- where some nodes begin, or behind them
  pub enters : (is : List Node) (size at next : ℕ) → length is ≡ size → Begins is → HasAt b process 0 code at is → first ≤ at → at + size ≤ end → Enter next → Enter (begins size at next)
  enters [] zero at next e h l f u n = n
  enters [] (suc size) at next e h l f u n = absurd (omega (arith, e))
  enters (i ∷ is) zero at next e h l f u n = absurd (omega (arith, e))
  enters (i ∷ is) (suc size) at next e h l f u n =
      subst Enter (sym (begins_some (suc size) at next (omega arith)))
      (record {
        from = f;
        below = omega (arith, u);
        begins = λ j is_j. subst (λ (j : Node). MayBegin j.kind) (same_node code at i j l.0 is_j) h;
      })

  -- ---- the process

  module _ (processes : List Proc) (initialize : Bool) where
    abbrev pub design : Design
    design = record { nodes = code; processes = processes; variables = b.variables; channels = b.channels; events = b.events }

    abbrev pub proc : Proc
    proc = record { kind = process.kind; first = first; end = end; slots = slots; sensitive = process.sensitive; initialize = initialize }

    abbrev node_of : NodeKind → (line : ℕ) → Bool → (next : ℕ) → Node
    node_of k line counts next = record { kind = k; line = line; counts = counts; next = next }

    abbrev MayFollow : NodeKind → (next n : ℕ) → Type 0
    MayFollow k next n = (to : Node) → slice_get code n ≡ Some to → MayLeadTo k next n to.kind

    enter_own : (q : ℕ) → Enter q → IsNodeOf proc q
    enter_own q e = record { from = e.from; below = e.below }

    enter_follow : (k : NodeKind) (next q : ℕ) → Enter q → MayFollow k next q
    enter_follow k next q e to is = may_lead k next q to.kind (e.begins to is)

    tested_own : (k : NodeKind) (next other : ℕ) → Tested k next other → IsNodeOf proc next
    tested_own k next other t = record { from = t.from; below = t.below }

    -- the take, behind its test
    take_follow : (c s next other : ℕ) → Tested (kind.Take c s) next other → MayFollow (kind.TestAvailable c other) next next
    take_follow c s next other t to is =
        let same = same_node code next t.node to t.is is in
        let k : kind.Take c s ≡ to.kind = sym t.kind_is ∙ ap (λ (i : Node). i.kind) same in
        subst (λ k. MayLeadTo (kind.TestAvailable c other) next next k) k (refl, refl, t.apart)

    put_follow : (c next other : ℕ) (e : _) → Tested (kind.Put c e) next other → MayFollow (kind.TestFree c other) next next
    put_follow c next other e t to is =
        let same = same_node code next t.node to t.is is in
        let k : kind.Put c e ≡ to.kind = sym t.kind_is ∙ ap (λ (i : Node). i.kind) same in
        subst (λ k. MayLeadTo (kind.TestFree c other) next next k) k (refl, refl, t.apart)

    -- a node that leads on to all_one place
    plain : (p : ℕ) (i : Node) → FitsNode names b.events i.kind → HasStatic process.sensitive i.kind → (process.kind ≡ Method → is_wait i ≡ false) → (q : ℕ) → followers i ≡ q ∷ [] → Enter q → FitsProcessNode design proc p i
    plain p i fits static method q only e = record {
      names = fits;
      own = subst (λ ns. All (IsNodeOf proc) ns) (sym only) (all_one (IsNodeOf proc) q (enter_own q e));
      static = static;
      method = method;
      tested = λ n to c is. All-contains (MayFollow i.kind i.next) (q ∷ []) n (all_one (MayFollow i.kind i.next) q (enter_follow i.kind i.next q e)) (subst (λ ns. Contains ns n) only c) to is;
    }

    branching : (p : ℕ) (i : Node) → FitsNode names b.events i.kind → HasStatic process.sensitive i.kind → (process.kind ≡ Method → is_wait i ≡ false) → (q r : ℕ) → followers i ≡ q ∷ r ∷ [] → IsNodeOf proc q → MayFollow i.kind i.next q → Enter r → FitsProcessNode design proc p i
    branching p i fits static method q r only own follow e = record {
      names = fits;
      own = subst (λ ns. All (IsNodeOf proc) ns) (sym only) (two (IsNodeOf proc) q r own (enter_own r e));
      static = static;
      method = method;
      tested = λ n to c is. All-contains (MayFollow i.kind i.next) (q ∷ r ∷ []) n (two (MayFollow i.kind i.next) q r follow (enter_follow i.kind i.next r e)) (subst (λ ns. Contains ns n) only c) to is;
    }

    fits_kind : (p : ℕ) (k : NodeKind) (line : ℕ) (counts : Bool) (next : ℕ) → FitsNode names b.events k → Flow counts p k next → FitsProcessNode design proc p (node_of k line counts next)
    fits_kind p (kind.Set n e) line counts next f w = plain p (node_of (kind.Set n e) line counts next) f tt (λ m. refl) next refl w.0
    fits_kind p (kind.Store x None e) line counts next f w = plain p (node_of (kind.Store x None e) line counts next) f tt (λ m. refl) next refl w.0
    fits_kind p (kind.Store x (Some i) e) line counts next f w = plain p (node_of (kind.Store x (Some i) e) line counts next) f tt (λ m. refl) next refl w.0
    fits_kind p (kind.Test e other) line counts next f w = branching p (node_of (kind.Test e other) line counts next) f tt (λ m. refl) next other refl (enter_own next w.0.0) (enter_follow (kind.Test e other) next next w.0.0) w.1.0
    fits_kind p kind.Goto line counts next f w = plain p (node_of kind.Goto line counts next) f tt (λ m. refl) next refl w.0
    fits_kind p (kind.PrintText text) line counts next f w = plain p (node_of (kind.PrintText text) line counts next) f tt (λ m. refl) next refl w.0
    fits_kind p (kind.PrintValue e) line counts next f w = plain p (node_of (kind.PrintValue e) line counts next) f tt (λ m. refl) next refl w.0
    fits_kind p kind.PrintTime line counts next f w = plain p (node_of kind.PrintTime line counts next) f tt (λ m. refl) next refl w.0
    fits_kind p (kind.Write c e) line counts next f w = plain p (node_of (kind.Write c e) line counts next) f tt (λ m. refl) next refl w.0
    fits_kind p (kind.TestAvailable c other) line counts next f w = branching p (node_of (kind.TestAvailable c other) line counts next) f tt (λ m. refl) next other refl (tested_own (kind.Take c w.0.0) next other w.0.1) (take_follow c w.0.0 next other w.0.1) w.2.0
    fits_kind p (kind.TestFree c other) line counts next f w = branching p (node_of (kind.TestFree c other) line counts next) f tt (λ m. refl) next other refl (tested_own (kind.Put c w.0.0) next other w.0.1) (put_follow c next other w.0.0 w.0.1) w.2.0
    fits_kind p (kind.Take c n) line counts next f w = plain p (node_of (kind.Take c n) line counts next) f tt (λ m. refl) next refl w.0
    fits_kind p (kind.Put c e) line counts next f w = plain p (node_of (kind.Put c e) line counts next) f tt (λ m. refl) next refl w.0
    fits_kind p (kind.Notify e t) line counts next f w = plain p (node_of (kind.Notify e t) line counts next) f tt (λ m. refl) next refl w.0
    fits_kind p (kind.Cancel e) line counts next f w = plain p (node_of (kind.Cancel e) line counts next) f tt (λ m. refl) next refl w.0
    fits_kind p kind.Stop line counts next f w = plain p (node_of kind.Stop line counts next) f tt (λ m. refl) next refl w.0
    fits_kind p (kind.Trigger t) line counts next f w = plain p (node_of (kind.Trigger t) line counts next) f w.1 (λ m. refl) next refl w.0.0
    fits_kind p (kind.Wait t) line counts next f w = plain p (node_of (kind.Wait t) line counts next) f w.1 (λ m. absurd (w.2 m)) next refl w.0
    fits_kind p kind.End line counts next f w = record {
      names = f;
      own = All-nil (IsNodeOf proc);
      static = tt;
      method = λ m. refl;
      tested = λ n to c is. absurd (omega (arith, c.1));
    }

    -- a node is all_one of a sound process
    pub fits_node : (p : ℕ) (i : Node) → NodeOk p i → FitsProcessNode design proc p i
    fits_node p i h = fits_kind p i.kind i.line i.counts i.next h.0 h.1

  -- ---- ranks

  abbrev IsLater : ℕ → ℕ → Type 0
  IsLater p m = IsAfter (p + 1) m

  later_kind : (p : ℕ) (k : NodeKind) (line next : ℕ) → Flow false p k next → All (IsLater p) (successors (record { kind = k; line = line; counts = false; next = next }))
  later_kind p (kind.Set n e) line next w = all_one (IsLater p) next (w.1 refl)
  later_kind p (kind.Store x i e) line next w = all_one (IsLater p) next (w.1 refl)
  later_kind p (kind.Test e other) line next w = two (IsLater p) next other (w.0.1 refl) (w.1.1 refl)
  later_kind p kind.Goto line next w = all_one (IsLater p) next (w.1 refl)
  later_kind p (kind.PrintText text) line next w = all_one (IsLater p) next (w.1 refl)
  later_kind p (kind.PrintValue e) line next w = all_one (IsLater p) next (w.1 refl)
  later_kind p kind.PrintTime line next w = all_one (IsLater p) next (w.1 refl)
  later_kind p (kind.Write c e) line next w = all_one (IsLater p) next (w.1 refl)
  later_kind p (kind.TestAvailable c other) line next w = two (IsLater p) next other (w.1 refl) (w.2.1 refl)
  later_kind p (kind.TestFree c other) line next w = two (IsLater p) next other (w.1 refl) (w.2.1 refl)
  later_kind p (kind.Take c n) line next w = all_one (IsLater p) next (w.1 refl)
  later_kind p (kind.Put c e) line next w = all_one (IsLater p) next (w.1 refl)
  later_kind p (kind.Notify e t) line next w = all_one (IsLater p) next (w.1 refl)
  later_kind p (kind.Cancel e) line next w = all_one (IsLater p) next (w.1 refl)
  later_kind p kind.Stop line next w = all_one (IsLater p) next (w.1 refl)
  later_kind p (kind.Trigger t) line next w = all_one (IsLater p) next (w.0.1 refl)
  later_kind p (kind.Wait t) line next w = All-nil (IsLater p)
  later_kind p kind.End line next w = All-nil (IsLater p)

  -- an uncounted node leads on, or to all_one that counts
  pub later : (p : ℕ) (i : Node) → NodeOk p i → i.counts ≡ false → (m : ℕ) → Contains (successors i) m → IsAfter (p + 1) m
  later p i h u m c =
      let w = subst (λ counts. Flow counts p i.kind i.next) u h.1 in
      All-contains (IsLater p) (successors i) m (later_kind p i.kind i.line i.next w) c
