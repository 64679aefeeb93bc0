-- What expressions give, by their forms.
use Rattle.std.proofs.Common.{◌≡◌, ◌∙◌, sym, ap, ℕ, Ok, true, false, length}
use Rattle.std.specs.Prelude.{not}
use Rattle.ooo_value.specs.declared.kinds.Kind.{Kind}
use Rattle.ooo_value.specs.declared.operators.Op.{Op}
use Rattle.ooo_value.specs.declared.values.Value.TheVariants as value
use Rattle.ooo_value.specs.Operators.{Answer, binary_of, inversion_of, negation_of}
use Rattle.ooo_value.specs.Values.{conversion_of, number_of, truth_of}
use Rattle.ooo_code.specs.declared.expression.NodeExpr.{NodeExpr, NodeExpr-F, map-NodeExpr, roll-NodeExpr, fold-roll-NodeExpr}
use Rattle.ooo_code.specs.declared.expression.NodeExpr.TheOpen as layer
use Rattle.ooo_code.specs.declared.expression.NodeExpr.TheVariants as expr
use Rattle.ooo_code.specs.Expressions.{Reading, Sight, by_truth, cells_of, element_at, index_in, on_value, reading_step, reading_of}

reading_at : (y : NodeExpr-F NodeExpr) (s : Sight) → reading_of (roll-NodeExpr y) s ≡ reading_step (map-NodeExpr NodeExpr Reading reading_of y) s
unfolding reading_of
reading_at y s = ap (λ (f : Reading). f s) (fold-roll-NodeExpr Reading reading_step y)

-- what the form of an expression says it gives
pub given_by : (s : Sight) (e f : NodeExpr) (y : NodeExpr-F NodeExpr) → e ≡ f → roll-NodeExpr y ≡ f → (a : Answer) → a ≡ reading_step (map-NodeExpr NodeExpr Reading reading_of y) s → a ≡ reading_of e s
given_by s e f y is rolls a h = h ∙ sym (reading_at y s) ∙ ap (λ x. reading_of x s) (rolls ∙ sym is)

-- an expression with parts, of which `b` is part `a` as the code has it
module _ (s : Sight) (e : NodeExpr) (r : Answer) where
  pub gives_element : (x : ℕ) (a b : NodeExpr) → e ≡ expr.Element x a → b ≡ a → r ≡ on_value (reading_of b s) (λ v. element_at (cells_of s.variables x) (index_in (length (cells_of s.variables x)) (number_of v))) → r ≡ reading_of e s
  gives_element x a b is same h = given_by s e _ (layer.Element x a) is (expr.rolls-Element x a) r (h ∙ ap (λ y. on_value (reading_of y s) (λ v. element_at (cells_of s.variables x) (index_in (length (cells_of s.variables x)) (number_of v)))) same)

  pub gives_conversion : (k : Kind) (a b : NodeExpr) → e ≡ expr.Convert k a → b ≡ a → r ≡ on_value (reading_of b s) (λ v. Ok (conversion_of v k)) → r ≡ reading_of e s
  gives_conversion k a b is same h = given_by s e _ (layer.Convert k a) is (expr.rolls-Convert k a) r (h ∙ ap (λ y. on_value (reading_of y s) (λ v. Ok (conversion_of v k))) same)

  pub gives_negation : (a b : NodeExpr) → e ≡ expr.Negate a → b ≡ a → r ≡ on_value (reading_of b s) (λ v. negation_of v) → r ≡ reading_of e s
  gives_negation a b is same h = given_by s e _ (layer.Negate a) is (expr.rolls-Negate a) r (h ∙ ap (λ y. on_value (reading_of y s) (λ v. negation_of v)) same)

  pub gives_inversion : (a b : NodeExpr) → e ≡ expr.Invert a → b ≡ a → r ≡ on_value (reading_of b s) (λ v. Ok (inversion_of v)) → r ≡ reading_of e s
  gives_inversion a b is same h = given_by s e _ (layer.Invert a) is (expr.rolls-Invert a) r (h ∙ ap (λ y. on_value (reading_of y s) (λ v. Ok (inversion_of v))) same)

  pub gives_opposite : (a b : NodeExpr) → e ≡ expr.Not a → b ≡ a → r ≡ on_value (reading_of b s) (λ v. Ok (value.Bool (not (truth_of v)))) → r ≡ reading_of e s
  gives_opposite a b is same h = given_by s e _ (layer.Not a) is (expr.rolls-Not a) r (h ∙ ap (λ y. on_value (reading_of y s) (λ v. Ok (value.Bool (not (truth_of v))))) same)

  pub gives_binary : (o : Op) (a b c d : NodeExpr) → e ≡ expr.Binary o a c → b ≡ a → d ≡ c → r ≡ on_value (reading_of b s) (λ v. on_value (reading_of d s) (λ w. binary_of o v w)) → r ≡ reading_of e s
  gives_binary o a b c d is same_a same_c h =
      given_by s e _ (layer.Binary o a c) is (expr.rolls-Binary o a c) r
      (h ∙ ap (λ (y : NodeExpr × NodeExpr). on_value (reading_of y.0 s) (λ v. on_value (reading_of y.1 s) (λ w. binary_of o v w))) {x = (b, d)} {y = (a, c)} (λ i. (same_a i, same_c i)))

  pub gives_both : (a b c d : NodeExpr) → e ≡ expr.And a c → b ≡ a → d ≡ c → r ≡ on_value (reading_of b s) (λ v. by_truth v (on_value (reading_of d s) (λ w. Ok (value.Bool (truth_of w)))) (Ok (value.Bool false))) → r ≡ reading_of e s
  gives_both a b c d is same_a same_c h =
      given_by s e _ (layer.And a c) is (expr.rolls-And a c) r
      (h ∙ ap (λ (y : NodeExpr × NodeExpr). on_value (reading_of y.0 s) (λ v. by_truth v (on_value (reading_of y.1 s) (λ w. Ok (value.Bool (truth_of w)))) (Ok (value.Bool false)))) {x = (b, d)} {y = (a, c)} (λ i. (same_a i, same_c i)))

  pub gives_either : (a b c d : NodeExpr) → e ≡ expr.Or a c → b ≡ a → d ≡ c → r ≡ on_value (reading_of b s) (λ v. by_truth v (Ok (value.Bool true)) (on_value (reading_of d s) (λ w. Ok (value.Bool (truth_of w))))) → r ≡ reading_of e s
  gives_either a b c d is same_a same_c h =
      given_by s e _ (layer.Or a c) is (expr.rolls-Or a c) r
      (h ∙ ap (λ (y : NodeExpr × NodeExpr). on_value (reading_of y.0 s) (λ v. by_truth v (Ok (value.Bool true)) (on_value (reading_of y.1 s) (λ w. Ok (value.Bool (truth_of w)))))) {x = (b, d)} {y = (a, c)} (λ i. (same_a i, same_c i)))

  pub gives_choice : (t u a b c d : NodeExpr) → e ≡ expr.Choose t a c → u ≡ t → b ≡ a → d ≡ c → r ≡ on_value (reading_of u s) (λ v. by_truth v (reading_of b s) (reading_of d s)) → r ≡ reading_of e s
  gives_choice t u a b c d is same_t same_a same_c h =
      given_by s e _ (layer.Choose t a c) is (expr.rolls-Choose t a c) r
      (h ∙ ap (λ (y : NodeExpr × NodeExpr × NodeExpr). on_value (reading_of y.0 s) (λ v. by_truth v (reading_of y.1 s) (reading_of y.2 s))) {x = (u, b, d)} {y = (t, a, c)} (λ i. (same_t i, same_a i, same_c i)))
