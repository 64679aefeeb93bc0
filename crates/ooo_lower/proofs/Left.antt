-- Parts that are put one after the other.
use Rattle.std.proofs.Common.{◌≡◌, ◌∙◌, refl, ap, sym, subst, ℕ, ◌+◌, List, [], ◌∷◌, ◌++◌, length, Some, None, arith, append_assoc, append-nil, length-append}
use Rattle.ooo_value.specs.declared.kinds.Kind.{Kind}
use Rattle.ooo_bound.specs.declared.expr.BoundExpr.{BoundExpr}
use Rattle.ooo_lower.specs.declared.code.Code.{Code}
use Rattle.ooo_lower.specs.declared.tasks.Task.{Task}
use Rattle.ooo_lower.specs.Codes.{Emits}
use Rattle.ooo_lower.specs.Tasks.{Goes, Rest, Splits, before, left_of, nothing_left, pass_shape, task_before, tasks_before, test_shape, turn_shape}
use Rattle.ooo_shapes.specs.declared.around.Around.{Around}
use Rattle.ooo_shapes.specs.Simples.{Home}
use Rattle.ooo_shapes.specs.Shapes.{Shape, do_shape, entry, if_shape, inside, loop_shape, then}

-- ---- the list of tasks

onto_last : (h : Home) (ts : List Task) (t : Task) (r : Rest) → tasks_before h (ts ++ t ∷ []) r ≡ task_before h t (tasks_before h ts r)
onto_last h [] t r = refl
onto_last h (u ∷ ts) t r = onto_last h ts t (task_before h u r)

-- the last task comes first
pub last_left : (h : Home) (ts all : List Task) (t : Task) → all ≡ ts ++ t ∷ [] → left_of h all ≡ task_before h t (left_of h ts)
last_left h ts all t e = ap (left_of h) e ∙ onto_last h ts t nothing_left

-- ---- one rest for another one

pub splits_same : (r s : Rest) (at : ℕ) → r ≡ s → Splits r s at
splits_same r s at e = record {
  nodes_are = λ free. ap (λ (r : Rest). r.nodes free at) (sym e);
  slots_are = ap (λ (r : Rest). r.slots) (sym e);
  size_is = ap (λ (r : Rest). r.size) (sym e);
}

pub splits_on : (r s q : Rest) (at : ℕ) → Splits r s at → Splits s q at → Splits r q at
splits_on r s q at h k = record {
  nodes_are = λ free. k.nodes_are free ∙ h.nodes_are free;
  slots_are = k.slots_are ∙ h.slots_are;
  size_is = k.size_is ∙ h.size_is;
}

-- the same behind a shape
pub splits_behind : (x : Shape) (t : Around) (next : ℕ) (r s : Rest) (at : ℕ) → Splits r s (at + x.size) → Splits (before x t next r) (before x t next s) at
splits_behind x t next r s at h = record {
  nodes_are = λ free. ap (λ c. x.nodes t free at next ++ c) (h.nodes_are (free + length x.slots));
  slots_are = ap (λ c. x.slots ++ c) h.slots_are;
  size_is = ap (λ n. x.size + n) h.size_is;
}

-- another shape of the same size, slots and nodes
pub splits_first : (x y : Shape) (t u : Around) (n m : ℕ) (r : Rest) (at : ℕ) → ((free : ℕ) → y.nodes u free at m ≡ x.nodes t free at n) → y.slots ≡ x.slots → y.size ≡ x.size → Splits (before x t n r) (before y u m r) at
splits_first x y t u n m r at nodes slots size = record {
  nodes_are =
      λ free.
      ap (λ c. c ++ r.nodes (free + length y.slots) (at + y.size)) (nodes free)
      ∙ ap (λ k. x.nodes t free at n ++ r.nodes (free + length k) (at + y.size)) slots
      ∙ ap (λ k. x.nodes t free at n ++ r.nodes (free + length x.slots) (at + k)) size;
  slots_are = ap (λ c. c ++ r.slots) slots;
  size_is = ap (λ k. k + r.size) size;
}

-- ---- the parts of statements

places : (free : ℕ) (a b : List Kind) → free + length a + length b ≡ free + length (a ++ b)
places free a b = omega (arith, length-append a b)

together : (at a b : ℕ) → at + a + b ≡ at + (a + b)
together at a b = omega arith

three : (at a b : ℕ) → at + 1 + a + b ≡ at + (1 + (a + b))
three at a b = omega arith

pub splits_then : (a b : Shape) (t : Around) (to next at : ℕ) (r : Rest) → to ≡ entry b (at + a.size) next → Splits (before (then a b) t next r) (before a t to (before b t next r)) at
splits_then a b t to next at r e = record {
  nodes_are =
      λ free.
      let front = λ (n : ℕ). a.nodes t free at n in
      let back = b.nodes t (free + length a.slots) (at + a.size) next in
      ap (λ n. front n ++ (back ++ r.nodes (free + length a.slots + length b.slots) (at + a.size + b.size))) e
      ∙ sym (append_assoc (front (entry b (at + a.size) next)) back (r.nodes (free + length a.slots + length b.slots) (at + a.size + b.size)))
      ∙ ap (λ n. (front (entry b (at + a.size) next) ++ back) ++ r.nodes n (at + a.size + b.size)) (places free a.slots b.slots)
      ∙ ap (λ n. (front (entry b (at + a.size) next) ++ back) ++ r.nodes (free + length (a.slots ++ b.slots)) n) (together at a.size b.size);
  slots_are = sym (append_assoc a.slots b.slots r.slots);
  size_is = omega arith;
}

pub splits_if : (line : ℕ) (e : BoundExpr) (a b : Shape) (t : Around) (far near next at : ℕ) (r : Rest) → near ≡ entry a (at + 1) next → far ≡ entry b (at + 1 + a.size) next → Splits (before (if_shape line e a b) t next r) (before (test_shape line e far near) t next (before a t next (before b t next r))) at
splits_if line e a b t far near next at r ey en = record {
  nodes_are =
      λ free.
      let test = λ (n y : ℕ). (test_shape line e n y).nodes t free at next in
      let front = λ (f p : ℕ). a.nodes t f p next in
      let back = λ (f p : ℕ). b.nodes t f p next in
      let rest = λ (f p : ℕ). r.nodes f p in
      let f0 : free + 0 ≡ free = omega arith in
      ap (λ n. test n near ++ (front (free + 0) (at + 1) ++ (back (free + 0 + length a.slots) (at + 1 + a.size) ++ rest (free + 0 + length a.slots + length b.slots) (at + 1 + a.size + b.size)))) en
      ∙ ap (λ y. test (entry b (at + 1 + a.size) next) y ++ (front (free + 0) (at + 1) ++ (back (free + 0 + length a.slots) (at + 1 + a.size) ++ rest (free + 0 + length a.slots + length b.slots) (at + 1 + a.size + b.size)))) ey
      ∙ ap (λ f. test (entry b (at + 1 + a.size) next) (entry a (at + 1) next) ++ (front f (at + 1) ++ (back (f + length a.slots) (at + 1 + a.size) ++ rest (f + length a.slots + length b.slots) (at + 1 + a.size + b.size)))) f0
      ∙ ap (λ c. test (entry b (at + 1 + a.size) next) (entry a (at + 1) next) ++ c) (
      sym (append_assoc (front free (at + 1)) (back (free + length a.slots) (at + 1 + a.size)) (rest (free + length a.slots + length b.slots) (at + 1 + a.size + b.size)))
      ∙ ap (λ f. (front free (at + 1) ++ back (free + length a.slots) (at + 1 + a.size)) ++ rest f (at + 1 + a.size + b.size)) (places free a.slots b.slots)
      ∙ ap (λ p. (front free (at + 1) ++ back (free + length a.slots) (at + 1 + a.size)) ++ rest (free + length (a.slots ++ b.slots)) p) (three at a.size b.size));
  slots_are = sym (append_assoc a.slots b.slots r.slots);
  size_is = omega arith;
}

pub splits_turn : (line : ℕ) (e : BoundExpr) (again : ℕ) (a : Shape) (t u : Around) (near next at : ℕ) (r : Rest) → near ≡ entry a (at + 1) again → u ≡ inside t next again → Splits (before (turn_shape line e again a) t next r) (before (test_shape line e next near) t next (before a u again r)) at
splits_turn line e again a t u near next at r ey eu = record {
  nodes_are =
      λ free.
      let test = λ (y : ℕ). (test_shape line e next y).nodes t free at next in
      let body = λ (w : Around) (f : ℕ). a.nodes w f (at + 1) again in
      let rest = λ (f p : ℕ). r.nodes f p in
      let f0 : free + 0 ≡ free = omega arith in
      ap (λ y. test y ++ (body u (free + 0) ++ rest (free + 0 + length a.slots) (at + 1 + a.size))) ey
      ∙ ap (λ w. test (entry a (at + 1) again) ++ (body w (free + 0) ++ rest (free + 0 + length a.slots) (at + 1 + a.size))) eu
      ∙ ap (λ f. test (entry a (at + 1) again) ++ (body (inside t next again) f ++ rest (f + length a.slots) (at + 1 + a.size))) f0
      ∙ ap (λ p. test (entry a (at + 1) again) ++ (body (inside t next again) free ++ rest (free + length a.slots) p)) (together at 1 a.size);
  slots_are = refl;
  size_is = omega arith;
}

-- a loop that has nothing before its test
pub splits_plain_loop : (line : ℕ) (e : BoundExpr) (a : Shape) (t : Around) (again next at : ℕ) (r : Rest) → again ≡ at → Splits (before (loop_shape line e None a) t next r) (before (turn_shape line e again a) t next r) at
splits_plain_loop line e a t again next at r e0 =
    splits_first (loop_shape line e None a) (turn_shape line e again a) t t next next r at
    (λ free.
    let z : at + 0 ≡ at = omega arith in
    let zf : free + 0 ≡ free = omega arith in
    ap (λ g. (turn_shape line e g a).nodes t free at next) e0
    ∙ ap (λ p. (turn_shape line e at a).nodes t free p next) (sym z)
    ∙ ap (λ f. (turn_shape line e at a).nodes t f (at + 0) next) (sym zf))
    refl
    (omega arith)

-- what follows each turn stands before the test
pub splits_loop : (line : ℕ) (e : BoundExpr) (x a : Shape) (t : Around) (test again next at : ℕ) (r : Rest) → test ≡ at + 1 + x.size → again ≡ entry x (at + 1) test → Splits (before (loop_shape line e (Some x) a) t next r) (before (pass_shape line) t test (before x t test (before (turn_shape line e again a) t next r))) at
splits_loop line e x a t test again next at r et ea = record {
  nodes_are =
      λ free.
      let pass = λ (n : ℕ). (pass_shape line).nodes t free at n in
      let step = λ (f n : ℕ). x.nodes t f (at + 1) n in
      let turn = λ (g f p : ℕ). (turn_shape line e g a).nodes t f p next in
      let rest = λ (f p : ℕ). r.nodes f p in
      let f0 : free + 0 ≡ free = omega arith in
      let k = at + 1 + x.size in
      let all = λ (m f g p : ℕ). pass m ++ (step f m ++ (turn g (f + length x.slots) p ++ rest (f + length x.slots + length a.slots) (p + (1 + a.size)))) in
      ap (λ f. all test f again k) f0
      ∙ ap (λ g. all test free g k) ea
      ∙ ap (λ m. all m free (entry x (at + 1) m) k) et
      ∙ ap (λ p. all k free (entry x (at + 1) k) p) (together at 1 x.size)
      ∙ ap (λ c. pass k ++ c) (sym (append_assoc (step free k) (turn (entry x (at + 1) k) (free + length x.slots) (at + (1 + x.size))) (rest (free + length x.slots + length a.slots) (at + (1 + x.size) + (1 + a.size)))))
      ∙ ap (λ f. pass k ++ ((step free k ++ turn (entry x (at + 1) k) (free + length x.slots) (at + (1 + x.size))) ++ rest f (at + (1 + x.size) + (1 + a.size)))) (places free x.slots a.slots)
      ∙ ap (λ p. pass k ++ ((step free k ++ turn (entry x (at + 1) k) (free + length x.slots) (at + (1 + x.size))) ++ rest (free + length (x.slots ++ a.slots)) p)) (together at (1 + x.size) (1 + a.size));
  slots_are = sym (append_assoc x.slots a.slots r.slots);
  size_is = omega arith;
}

pub splits_do : (line : ℕ) (e : BoundExpr) (a : Shape) (t u : Around) (test next at near : ℕ) (r : Rest) → test ≡ at + a.size → u ≡ inside t next test → near ≡ at → Splits (before (do_shape line e a) t next r) (before a u test (before (test_shape line e next near) t next r)) at
splits_do line e a t u test next at near r et eu ey = record {
  nodes_are =
      λ free.
      let body = λ (w : Around) (n : ℕ). a.nodes w free at n in
      let node = λ (y : ℕ). (test_shape line e next y).nodes t free at next in
      let rest = λ (f p : ℕ). r.nodes f p in
      let k = at + a.size in
      let all = λ (w : Around) (m y f p : ℕ). body w m ++ (node y ++ rest f p) in
      let f0 : free + length a.slots + 0 ≡ free + length a.slots = omega arith in
      ap (λ w. all w test near (free + length a.slots + 0) (k + 1)) eu
      ∙ ap (λ m. all (inside t next m) m near (free + length a.slots + 0) (k + 1)) et
      ∙ ap (λ y. all (inside t next k) k y (free + length a.slots + 0) (k + 1)) ey
      ∙ ap (λ f. all (inside t next k) k at f (k + 1)) f0
      ∙ ap (λ p. all (inside t next k) k at (free + length a.slots) p) (together at a.size 1)
      ∙ sym (append_assoc (body (inside t next k) k) (node at) (rest (free + length a.slots) (at + (a.size + 1))));
  slots_are = refl;
  size_is = omega arith;
}

-- ---- code and what is left

pub goes_same : (r : Rest) (x : Code) → Goes r r x x
goes_same r x = record { nodes_are = refl; slots_are = refl; count_is = refl }

pub goes_on : (r s q : Rest) (x y z : Code) → Goes r s x y → Goes s q y z → Goes r q x z
goes_on r s q x y z h k = record {
  nodes_are = k.nodes_are ∙ h.nodes_are;
  slots_are = k.slots_are ∙ h.slots_are;
  count_is = k.count_is ∙ h.count_is;
}

-- a part is put
pub goes_put : (x : Shape) (t : Around) (next : ℕ) (r : Rest) (y z : Code) → Emits x t next y z → Goes (before x t next r) r y z
goes_put x t next r y z h =
    let front = x.nodes t (length y.slots) (length y.nodes) next in
    record {
      nodes_are =
          ap (λ c. c ++ r.nodes (length z.slots) (length z.nodes)) h.nodes_are
          ∙ append_assoc y.nodes front (r.nodes (length z.slots) (length z.nodes))
          ∙ ap (λ f. y.nodes ++ (front ++ r.nodes f (length z.nodes))) (ap length h.slots_are ∙ length-append y.slots x.slots)
          ∙ ap (λ n. y.nodes ++ (front ++ r.nodes (length y.slots + length x.slots) n)) h.count_is;
      slots_are = ap (λ c. c ++ r.slots) h.slots_are ∙ append_assoc y.slots x.slots r.slots;
      count_is = omega (arith, h.count_is);
    }

-- a part is taken apart
pub goes_split : (r s : Rest) (at : ℕ) (x : Code) → at ≡ length x.nodes → Splits r s at → Goes r s x x
goes_split r s at x e h = record {
  nodes_are = ap (λ c. x.nodes ++ c) (subst (λ n. s.nodes (length x.slots) n ≡ r.nodes (length x.slots) n) e (h.nodes_are (length x.slots)));
  slots_are = ap (λ c. x.slots ++ c) h.slots_are;
  count_is = ap (λ n. length x.nodes + n) h.size_is;
}

-- nothing is left
pub goes_to_end : (x : Shape) (t : Around) (next : ℕ) (y z : Code) → Goes (before x t next nothing_left) nothing_left y z → Emits x t next y z
goes_to_end x t next y z h = record {
  nodes_are = sym (append-nil z.nodes) ∙ h.nodes_are ∙ ap (λ c. y.nodes ++ c) (append-nil (x.nodes t (length y.slots) (length y.nodes) next));
  slots_are = sym (append-nil z.slots) ∙ h.slots_are ∙ ap (λ c. y.slots ++ c) (append-nil x.slots);
  count_is = omega (arith, h.count_is);
}
