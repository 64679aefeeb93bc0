-- The parts of statements are put next, part by part.
use Rattle.std.proofs.Common.{◌≡◌, ◌∙◌, refl, ap, sym, subst, cond, ℕ, zero, suc, ◌+◌, ◌≤◌, ◌<◌, ◌-◌, List, [], ◌∷◌, drop, get_or, length, Some, None, arith, add-one, append-nil}
use Rattle.std.proofs.Math.ListN.{drop_of_length-le}
use Rattle.std.proofs.Math.Seq.{drop-cons}
use Rattle.std.proofs.Math.Dec.{eqb-suc-zero}
use Rattle.ooo_bound.specs.declared.expr.BoundExpr.{BoundExpr}
use Rattle.ooo_bound.specs.declared.stat.BoundStat.{BoundStat}
use Rattle.ooo_bound.specs.declared.stat.LinedSimple.{LinedSimple}
use Rattle.ooo_lower.specs.Tasks.{Rest, Splits, before, pass_shape, test_shape, turn_shape}
use Rattle.ooo_lower.proofs.Left.{splits_behind, splits_do, splits_first, splits_if, splits_loop, splits_on, splits_plain_loop, splits_then, splits_turn}
use Rattle.ooo_shapes.specs.declared.around.Around.{Around}
use Rattle.ooo_shapes.specs.Simples.{Home, begins}
use Rattle.ooo_shapes.specs.Shapes.{Callees, Shape, body_shape, do_shape, empty, if_shape, inside, lined_shape, lined_shapes, loop_shape, shape_of, then}

-- what stands from a place on begins with what stands there
from_part : {A : Type 0} (xs : List A) (i : ℕ) (x : A) → i < length xs → x ≡ get_or xs i x → drop i xs ≡ x ∷ drop (i + 1) xs
from_part xs i x lt e = rw add-one (drop-cons xs i x lt ∙ ap (λ y. y ∷ drop (suc i) xs) (sym e))

begins_as : (size size2 at at2 next : ℕ) → size ≡ size2 → at ≡ at2 → begins size at next ≡ begins size2 at2 next
begins_as size size2 at at2 next e f = ap (λ n. begins n at next) e ∙ ap (λ n. begins size2 n next) f

begins_some : (n at next : ℕ) → 1 ≤ n → begins n at next ≡ at
begins_some zero at next le = absurd (omega (arith, le))
begins_some (suc n) at next le = ap (λ b. cond b next at) (eqb-suc-zero n)

-- nothing before the rest
pub nothing_before : (t : Around) (next : ℕ) (r : Rest) (at : ℕ) → Splits (before empty t next r) r at
nothing_before t next r at = record {
  nodes_are = λ free. let f : free ≡ free + 0 = omega arith in let a : at ≡ at + 0 = omega arith in ap (λ n. r.nodes n at) f ∙ ap (λ n. r.nodes (free + 0) n) a;
  slots_are = refl;
  size_is = omega arith;
}

-- one part more, from the last one on
pub split_more : (a b ab : Shape) (t : Around) (to here next at whole rest size new : ℕ) (r0 r1 r2 : Rest) → ab ≡ then a b → rest ≡ b.size → size ≡ a.size → new ≡ rest + size → here + rest ≡ at + whole → to ≡ begins rest here next → r2 ≡ before a t to r1 → ((p : ℕ) → p + rest ≡ at + whole → Splits (before b t next r0) r1 p) → (new ≡ ab.size) × ((p : ℕ) → p + new ≡ at + whole → Splits (before ab t next r0) r2 p)
split_more a b ab t to here next at whole rest size new r0 r1 r2 eab er es en eh et e2 split = (
  omega (arith, en, er, es, ap (λ (x : Shape). x.size) eab),
  λ p ep.
      let place : here ≡ p + a.size = omega (arith, ep, en, eh, es) in
      let behind : p + a.size + rest ≡ at + whole = omega (arith, ep, en, es) in
      subst (λ x. Splits (before x t next r0) r2 p) (sym eab)
      (subst (λ r. Splits (before (then a b) t next r0) r p) (sym e2)
      (splits_on (before (then a b) t next r0) (before a t to (before b t next r0)) (before a t to r1) p
      (splits_then a b t to next p r0 (et ∙ begins_as rest b.size here (p + a.size) next er place))
      (splits_behind a t to (before b t next r0) r1 p (split (p + a.size) behind)))),
)

module _ (h : Home) (cs : Callees) where
  -- what holds of the statements of a body, of which so many are not put yet
  abbrev pub BodyLeft : (t : Around) (next at whole rest left : ℕ) → List BoundStat → (r0 r1 : Rest) → Type 0
  BodyLeft t next at whole rest left body r0 r1 =
      let part = body_shape h cs (drop left body) in
      (rest ≡ part.size) × ((p : ℕ) → p + rest ≡ at + whole → Splits (before part t next r0) r1 p)

  abbrev pub SimplesLeft : (t : Around) (next at whole rest left : ℕ) → List LinedSimple → (r0 r1 : Rest) → Type 0
  SimplesLeft t next at whole rest left xs r0 r1 =
      let part = lined_shapes h cs (drop left xs) in
      (rest ≡ part.size) × ((p : ℕ) → p + rest ≡ at + whole → Splits (before part t next r0) r1 p)

  pub body_first : (t : Around) (next at whole left : ℕ) (body : List BoundStat) (r0 : Rest) → left ≡ length body → BodyLeft t next at whole 0 left body r0 r0
  body_first t next at whole left body r0 e =
      let none : drop left body ≡ [] = drop_of_length-le body (omega (arith, e)) in
      subst (λ xs. (0 ≡ (body_shape h cs xs).size) × ((p : ℕ) → p + 0 ≡ at + whole → Splits (before (body_shape h cs xs) t next r0) r0 p)) (sym none)
      (refl, λ p e. nothing_before t next r0 p)

  pub body_more : (t : Around) (to here next at whole rest size new left less : ℕ) (body : List BoundStat) (x : BoundStat) (r0 r1 r2 : Rest) → 0 < left → less ≡ left - 1 → less < length body → x ≡ get_or body less x → size ≡ (shape_of h cs x).size → new ≡ rest + size → here + rest ≡ at + whole → to ≡ begins rest here next → r2 ≡ before (shape_of h cs x) t to r1 → BodyLeft t next at whole rest left body r0 r1 → BodyLeft t next at whole new less body r0 r2
  body_more t to here next at whole rest size new left less body x r0 r1 r2 lt el within ex es en eh et e2 i =
      let one : less + 1 ≡ left = omega (arith, el, lt) in
      let parts : drop less body ≡ x ∷ drop left body = from_part body less x within ex ∙ ap (λ n. x ∷ drop n body) one in
      split_more (shape_of h cs x) (body_shape h cs (drop left body)) (body_shape h cs (drop less body)) t to here next at whole rest size new r0 r1 r2 (ap (body_shape h cs) parts) i.0 es en eh et e2 i.1

  pub body_done : (t : Around) (next at whole rest left : ℕ) (body : List BoundStat) (r0 r1 : Rest) → left ≤ 0 → whole ≡ (body_shape h cs body).size → BodyLeft t next at whole rest left body r0 r1 → Splits (before (body_shape h cs body) t next r0) r1 at
  body_done t next at whole rest left body r0 r1 none ew i =
      let zero_left : left ≡ 0 = omega (arith, none) in
      let here = subst (λ n. BodyLeft t next at whole rest n body r0 r1) zero_left i in
      here.1 at (omega (arith, here.0, ew))

  pub simples_first : (t : Around) (next at whole left : ℕ) (xs : List LinedSimple) (r0 : Rest) → left ≡ length xs → SimplesLeft t next at whole 0 left xs r0 r0
  simples_first t next at whole left xs r0 e =
      let none : drop left xs ≡ [] = drop_of_length-le xs (omega (arith, e)) in
      subst (λ xs. (0 ≡ (lined_shapes h cs xs).size) × ((p : ℕ) → p + 0 ≡ at + whole → Splits (before (lined_shapes h cs xs) t next r0) r0 p)) (sym none)
      (refl, λ p e. nothing_before t next r0 p)

  pub simples_more : (t : Around) (to here next at whole rest size new left less : ℕ) (xs : List LinedSimple) (x : LinedSimple) (r0 r1 r2 : Rest) → 0 < left → less ≡ left - 1 → less < length xs → x ≡ get_or xs less x → size ≡ (lined_shape h cs x).size → new ≡ rest + size → here + rest ≡ at + whole → to ≡ begins rest here next → r2 ≡ before (lined_shape h cs x) t to r1 → SimplesLeft t next at whole rest left xs r0 r1 → SimplesLeft t next at whole new less xs r0 r2
  simples_more t to here next at whole rest size new left less xs x r0 r1 r2 lt el within ex es en eh et e2 i =
      let one : less + 1 ≡ left = omega (arith, el, lt) in
      let parts : drop less xs ≡ x ∷ drop left xs = from_part xs less x within ex ∙ ap (λ n. x ∷ drop n xs) one in
      split_more (lined_shape h cs x) (lined_shapes h cs (drop left xs)) (lined_shapes h cs (drop less xs)) t to here next at whole rest size new r0 r1 r2 (ap (lined_shapes h cs) parts) i.0 es en eh et e2 i.1

  pub simples_done : (t : Around) (next at whole rest left : ℕ) (xs : List LinedSimple) (r0 r1 : Rest) → left ≤ 0 → whole ≡ (lined_shapes h cs xs).size → SimplesLeft t next at whole rest left xs r0 r1 → Splits (before (lined_shapes h cs xs) t next r0) r1 at
  simples_done t next at whole rest left xs r0 r1 none ew i =
      let zero_left : left ≡ 0 = omega (arith, none) in
      let here = subst (λ n. SimplesLeft t next at whole rest n xs r0 r1) zero_left i in
      here.1 at (omega (arith, here.0, ew))

  only_one : (body : List BoundStat) (x : BoundStat) → 1 ≤ length body → length body < 2 → x ≡ get_or body 0 x → body ≡ x ∷ []
  only_one [] x some few e = absurd (omega (arith, some))
  only_one (y ∷ []) x some few e = ap (λ z. z ∷ []) (sym e)
  only_one (y ∷ z ∷ zs) x some few e = absurd (omega (arith, few))

  -- a body of one statement
  pub only_split : (t : Around) (next at : ℕ) (body : List BoundStat) (x : BoundStat) (r0 r1 : Rest) → 1 ≤ length body → length body < 2 → x ≡ get_or body 0 x → r1 ≡ before (shape_of h cs x) t next r0 → Splits (before (body_shape h cs body) t next r0) r1 at
  only_split t next at body x r0 r1 some few ex e =
      let a = shape_of h cs x in
      subst (λ xs. Splits (before (body_shape h cs xs) t next r0) r1 at) (sym (only_one body x some few ex))
      (subst (λ r. Splits (before (then a empty) t next r0) r at) (sym e)
      (splits_first (then a empty) a t t next next r0 at (λ free. sym (append-nil (a.nodes t free at next))) (sym (append-nil a.slots)) (omega arith)))

-- ---- statements with statements in them

pub if_split : (line : ℕ) (e : BoundExpr) (a b : Shape) (t : Around) (far near next at yes_at yes_size no_at no_size : ℕ) (r0 r1 r2 r3 : Rest) → yes_at ≡ at + 1 → yes_size ≡ a.size → no_at ≡ yes_at + yes_size → no_size ≡ b.size → near ≡ begins yes_size yes_at next → far ≡ begins no_size no_at next → ((p : ℕ) → Splits (before b t next r0) r1 p) → r2 ≡ before a t next r1 → r3 ≡ before (test_shape line e far near) t next r2 → Splits (before (if_shape line e a b) t next r0) r3 at
if_split line e a b t far near next at yes_at yes_size no_at no_size r0 r1 r2 r3 eya eys ena ens ey eno split e2 e3 =
    let test = test_shape line e far near in
    let behind : no_at ≡ at + 1 + a.size = omega (arith, ena, eys, eya) in
    subst (λ r. Splits (before (if_shape line e a b) t next r0) r at) (sym (e3 ∙ ap (before test t next) e2))
    (splits_on (before (if_shape line e a b) t next r0) (before test t next (before a t next (before b t next r0))) (before test t next (before a t next r1)) at
    (splits_if line e a b t far near next at r0 (ey ∙ begins_as yes_size a.size yes_at (at + 1) next eys eya) (eno ∙ begins_as no_size b.size no_at (at + 1 + a.size) next ens behind))
    (splits_behind test t next (before a t next (before b t next r0)) (before a t next r1) at (splits_behind a t next (before b t next r0) r1 (at + 1) (split (at + 1 + a.size)))))

pub turn_split : (line : ℕ) (e : BoundExpr) (again : ℕ) (a : Shape) (t u : Around) (near next at body_at size : ℕ) (r0 r1 r2 : Rest) → body_at ≡ at + 1 → size ≡ a.size → near ≡ begins size body_at again → u ≡ inside t next again → r1 ≡ before a u again r0 → r2 ≡ before (test_shape line e next near) t next r1 → Splits (before (turn_shape line e again a) t next r0) r2 at
turn_split line e again a t u near next at body_at size r0 r1 r2 eb es ey eu e1 e2 =
    subst (λ r. Splits (before (turn_shape line e again a) t next r0) r at) (sym (e2 ∙ ap (before (test_shape line e next near) t next) e1))
    (splits_turn line e again a t u near next at r0 (ey ∙ begins_as size a.size body_at (at + 1) again es eb) eu)

pub plain_loop_split : (line : ℕ) (e : BoundExpr) (a : Shape) (t : Around) (next at : ℕ) (r0 r1 : Rest) → Splits (before (turn_shape line e at a) t next r0) r1 at → Splits (before (loop_shape line e None a) t next r0) r1 at
plain_loop_split line e a t next at r0 r1 h =
    splits_on (before (loop_shape line e None a) t next r0) (before (turn_shape line e at a) t next r0) r1 at (splits_plain_loop line e a t at next at r0 refl) h

pub loop_split : (line : ℕ) (e : BoundExpr) (x a : Shape) (t : Around) (test again next at step_at size : ℕ) (r0 r1 r2 r3 : Rest) → step_at ≡ at + 1 → size ≡ x.size → test ≡ step_at + size → again ≡ begins size step_at test → Splits (before (turn_shape line e again a) t next r0) r1 test → r2 ≡ before x t test r1 → r3 ≡ before (pass_shape line) t test r2 → Splits (before (loop_shape line e (Some x) a) t next r0) r3 at
loop_split line e x a t test again next at step_at size r0 r1 r2 r3 est es et ea h e2 e3 =
    let turn = before (turn_shape line e again a) t next r0 in
    let pass = pass_shape line in
    let place : test ≡ at + 1 + x.size = omega (arith, et, est, es) in
    subst (λ r. Splits (before (loop_shape line e (Some x) a) t next r0) r at) (sym (e3 ∙ ap (before pass t test) e2))
    (splits_on (before (loop_shape line e (Some x) a) t next r0) (before pass t test (before x t test turn)) (before pass t test (before x t test r1)) at
    (splits_loop line e x a t test again next at r0 place (ea ∙ begins_as size x.size step_at (at + 1) test es est))
    (splits_behind pass t test (before x t test turn) (before x t test r1) at (splits_behind x t test turn r1 (at + 1) (subst (λ p. Splits turn r1 p) place h))))

pub do_split : (line : ℕ) (e : BoundExpr) (a : Shape) (t u : Around) (test next at size : ℕ) (r0 r1 r2 : Rest) → size ≡ a.size → test ≡ at + size → u ≡ inside t next test → r1 ≡ before (test_shape line e next at) t next r0 → r2 ≡ before a u test r1 → Splits (before (do_shape line e a) t next r0) r2 at
do_split line e a t u test next at size r0 r1 r2 es et eu e1 e2 =
    subst (λ r. Splits (before (do_shape line e a) t next r0) r at) (sym (e2 ∙ ap (before a u test) e1))
    (splits_do line e a t u test next at at r0 (omega (arith, et, es)) eu refl)

pub for_split : (b l : Shape) (t : Around) (loop_at next at size : ℕ) (r0 r1 r2 : Rest) → 1 ≤ l.size → size ≡ b.size → loop_at ≡ at + size → Splits (before l t next r0) r1 loop_at → r2 ≡ before b t loop_at r1 → Splits (before (then b l) t next r0) r2 at
for_split b l t loop_at next at size r0 r1 r2 some es el h e2 =
    let place : loop_at ≡ at + b.size = omega (arith, el, es) in
    subst (λ r. Splits (before (then b l) t next r0) r at) (sym e2)
    (splits_on (before (then b l) t next r0) (before b t loop_at (before l t next r0)) (before b t loop_at r1) at
    (splits_then b l t loop_at next at r0 (place ∙ sym (begins_some l.size (at + b.size) next some)))
    (splits_behind b t loop_at (before l t next r0) r1 at (subst (λ p. Splits (before l t next r0) r1 p) place h)))
