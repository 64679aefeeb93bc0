-- Each function that a body without breaches calls is among the functions of its scope.
use Rattle.std.proofs.Common.{◌≡◌, ◌∙◌, refl, ap, sym, subst, ℕ, List, [], ◌∷◌, ◌++◌, map, drop, Option, Some, None}
use Rattle.std.specs.Prelude.{Contains}
use Rattle.std.proofs.lemmas.List.Elements.{All-from_recursion}
use Rattle.ooo_lemmas.proofs.Each.{of_both, first_part, then_part}
use Rattle.ooo_value.specs.declared.kinds.Kind.{Kind}
use Rattle.ooo_syntax.specs.declared.stat.Declarator.{Declarator}
use Rattle.ooo_syntax.specs.declared.stat.Local.{Local}
use Rattle.ooo_syntax.specs.declared.stat.ForStart.{ForStart}
use Rattle.ooo_syntax.specs.declared.stat.ForStart.TheVariants as start
use Rattle.ooo_syntax.specs.declared.stat.Stat.{Stat, Stat-F, map-Stat, roll-Stat, fold-roll-Stat, ind-Stat}
use Rattle.ooo_syntax.specs.declared.stat.Stat.TheOpen as layer
use Rattle.ooo_checked.specs.declared.breach.TypeBreach.TheVariants as what
use Rattle.ooo_checked.specs.declared.context.Context.{Context}
use Rattle.ooo_checked.specs.declared.stat.CheckedStat.{CheckedStat, CheckedStat-F, map-CheckedStat, roll-CheckedStat, fold-roll-CheckedStat}
use Rattle.ooo_checked.specs.declared.stat.CheckedStat.TheOpen as form
use Rattle.ooo_checked.specs.declared.stat.CheckedStat.TheVariants as checked
use Rattle.ooo_checked.specs.Exprs.{expr_of, option_of, tree_of, kind_written}
use Rattle.ooo_checked.specs.Notes.{breach_when}
use Rattle.ooo_checked.specs.Scopes.{Scope, entered, is_declared_here}
use Rattle.ooo_checked.specs.Stats.{Stepped, Reading, initial_of, declarator_of, local_of, local_denotation, option_start_of, step_of, in_order, readings_of, inner, looped, option_notes, stat_of, stat_step, stats_of}
use Rattle.ooo_constants.specs.Bodies.{all_of, initial_calls, declarator_calls, step_calls, start_calls, stat_calls, stat_calls_step, body_calls}
use Rattle.ooo_sound_text.specs.Right.{IsRight, AreRight}
use Rattle.ooo_sound_text.specs.Calls.{FunctionsAreAmong, CallsAreOfScope}
use Rattle.ooo_sound_text.proofs.Exprs.{Among, simple_among, step_among, initial_among}
use Rattle.ooo_sound_text.proofs.Among.{declared_among, declared_outer}

module _ (functions : List ℕ) where
  -- ---- scopes

  -- what a part of a body leaves of its scope, and what holds of it
  record Stays {T : Type 0} (s : Scope) (r : Stepped T) (G : T → Type 0) : Type 0 where
    pub outer : drop 1 r.scope ≡ drop 1 s
    pub among : FunctionsAreAmong functions s → FunctionsAreAmong functions r.scope
    pub good : FunctionsAreAmong functions s → AreRight r.notes → G r.tree

  -- what leaves the scope as it is
  same_scope : {T : Type 0} (s : Scope) (r : Stepped T) (G : T → Type 0) → r.scope ≡ s →
      (FunctionsAreAmong functions s → AreRight r.notes → G r.tree) → Stays s r G
  same_scope s r G is h = record { outer = ap (drop 1) is; among = λ a. subst (FunctionsAreAmong functions) (sym is) a; good = h }

  -- parts one after the other
  all_stay : {A T : Type 0} (f : A → Scope → Stepped T) (G : T → Type 0) (H : List T → Type 0) → H [] →
      ((t : T) (ts : List T) → G t → H ts → H (t ∷ ts)) → ((x : A) (s : Scope) → Stays s (f x s) G) → (xs : List A) (s : Scope) →
      Stays s (in_order f xs s) H
  all_stay f G H none more each [] s = record { outer = refl; among = λ a. a; good = λ a h. none }
  all_stay f G H none more each (x ∷ xs) s =
      let first = each x s in
      let r = f x s in
      let others = all_stay f G H none more each xs r.scope in
      let q = in_order f xs r.scope in record {
        outer = others.outer ∙ first.outer;
        among = λ a. others.among (first.among a);
        good = λ a h. more r.tree q.tree (first.good a (first_part IsRight r.notes q.notes h))
            (others.good (first.among a) (then_part IsRight r.notes q.notes h));
      }

  -- ---- locals

  declarator_stays : (k : Kind) (cx : Context) (d : Declarator) (s : Scope) →
      Stays s (declarator_of k cx d s) (λ t. Among functions (initial_calls t.value))
  declarator_stays k cx d s =
      let again = breach_when (is_declared_here s d.name.name) what.DeclaredTwice d.name.position in record {
        outer = declared_outer s d.name.name (local_denotation k cx s);
        among = λ a. declared_among functions s d.name.name (local_denotation k cx s) tt a;
        good = λ a h. initial_among functions d.value s a (then_part IsRight again (option_notes (initial_of d.value s)) h);
      }

  local_stays : (cx : Context) (x : Local) (s : Scope) →
      Stays s (local_of cx x s) (λ t. Among functions (declarator_calls t.names))
  local_stays cx x s =
      let k = kind_written x.form.form in
      let all = all_stay (λ d s. declarator_of k cx d s) (λ t. Among functions (initial_calls t.value))
      (λ ts. Among functions (declarator_calls ts)) tt
      (λ t ts g h. of_both (Contains functions) (initial_calls t.value) (declarator_calls ts) g h)
      (declarator_stays k cx) x.names s in
      record { outer = all.outer; among = all.among; good = all.good }

  start_stays : (cx : Context) (o : Option ForStart) (s : Scope) →
      Stays s (option_start_of cx o s) (λ t. Among functions (start_calls t))
  start_stays cx None s = same_scope s _ _ refl (λ a h. tt)
  start_stays cx (Some (start.Local x)) s =
      let local = local_stays cx x s in record { outer = local.outer; among = local.among; good = local.good }
  start_stays cx (Some (start.Simple x)) s = same_scope s _ _ refl (λ a h. simple_among functions x s a h)

  -- ---- by induction on the statement

  abbrev Good : CheckedStat → Type 0
  Good t = Among functions (stat_calls t)

  abbrev Claim : Stat → Type 0
  Claim x = (cx : Context) (s : Scope) → Stays s (stat_of x cx s) Good

  abbrev Shown : Type 0
  Shown = (x : Stat) × Claim x

  by_form : (z : CheckedStat-F CheckedStat) (t : CheckedStat) → roll-CheckedStat z ≡ t →
      Among functions (stat_calls_step (map-CheckedStat CheckedStat (List ℕ) stat_calls z)) → Good t
  unfolding stat_calls
  by_form z t is h = subst (Among functions) (sym (ap stat_calls (sym is) ∙ fold-roll-CheckedStat (List ℕ) stat_calls_step z)) h

  at_form : (y : Stat-F Stat) (cx : Context) (s : Scope) → Stays s (stat_step (map-Stat Stat Reading stat_of y) cx s) Good →
      Stays s (stat_of (roll-Stat y) cx s) Good
  unfolding stat_of
  at_form y cx s h = subst (λ (f : Reading). Stays s (f cx s) Good) (sym (fold-roll-Stat Reading stat_step y)) h

  readings_stay : (xs : List Shown) (cx : Context) (s : Scope) →
      Stays s (readings_of (map stat_of (map (λ x. x.0) xs)) cx s) (λ ts. Among functions (all_of (map stat_calls ts)))
  readings_stay [] cx s = same_scope s _ _ refl (λ a h. tt)
  readings_stay (x ∷ xs) cx s =
      let first = x.1 cx s in
      let r = stat_of x.0 cx s in
      let others = readings_stay xs cx r.scope in
      let q = readings_of (map stat_of (map (λ x. x.0) xs)) cx r.scope in record {
        outer = others.outer ∙ first.outer;
        among = λ a. others.among (first.among a);
        good = λ a h. of_both (Contains functions) (stat_calls r.tree) (all_of (map stat_calls q.tree))
            (first.good a (first_part IsRight r.notes q.notes h))
            (others.good (first.among a) (then_part IsRight r.notes q.notes h));
      }

  -- a statement inside another
  record Within (s : Scope) (r : Stepped CheckedStat) : Type 0 where
    pub same : r.scope ≡ s
    pub good : FunctionsAreAmong functions s → AreRight r.notes → Good r.tree

  inner_stays : (x : Shown) (cx : Context) (s : Scope) → Within s (inner (stat_of x.0) cx s)
  inner_stays x cx s = let r = x.1 cx (entered s) in record { same = r.outer; good = λ a h. r.good a h }

  step : (y : Stat-F Shown) → Claim (roll-Stat (map-Stat Shown Stat (λ x. x.0) y))
  step (layer.Block at xs) cx s =
      let r = readings_stay xs cx (entered s) in
      at_form (layer.Block at (map (λ x. x.0) xs)) cx s (same_scope s _ _ r.outer (λ a h.
      by_form (form.Block at _) _ (checked.rolls-Block at _) (r.good a h)))
  step (layer.Empty at) cx s =
      at_form (layer.Empty at) cx s (same_scope s _ _ refl (λ a h. by_form (form.Empty at) _ (checked.rolls-Empty at) tt))
  step (layer.Local x) cx s =
      let r = local_stays cx x s in
      at_form (layer.Local x) cx s (record {
        outer = r.outer;
        among = r.among;
        good = λ a h. by_form (form.Local _) _ (checked.rolls-Local _) (r.good a h);
      })
  step (layer.Simple x) cx s =
      at_form (layer.Simple x) cx s (same_scope s _ _ refl (λ a h.
      by_form (form.Simple _) _ (checked.rolls-Simple _) (simple_among functions x s a h)))
  step (layer.If at e x None) cx s =
      let yes = inner_stays x cx s in
      let r = inner (stat_of x.0) cx s in
      let test = (expr_of e s).notes in
      at_form (layer.If at e x.0 None) cx s (same_scope s _ _ yes.same (λ a h.
      by_form (form.If at (expr_of e s).tree r.tree None) _ (checked.rolls-If at _ _ None)
      (of_both (Contains functions) (stat_calls r.tree) []
      (yes.good a (then_part IsRight test r.notes (first_part IsRight (test ++ r.notes) [] h))) tt)))
  step (layer.If at e x (Some y)) cx s =
      let yes = inner_stays x cx s in
      let r = inner (stat_of x.0) cx s in
      let otherwise = inner_stays y cx r.scope in
      let q = inner (stat_of y.0) cx r.scope in
      let test = (expr_of e s).notes in
      at_form (layer.If at e x.0 (Some y.0)) cx s (same_scope s _ _ (otherwise.same ∙ yes.same) (λ a h.
      by_form (form.If at (expr_of e s).tree r.tree (Some q.tree)) _ (checked.rolls-If at _ _ (Some _))
      (of_both (Contains functions) (stat_calls r.tree) (stat_calls q.tree)
      (yes.good a (then_part IsRight test r.notes (first_part IsRight (test ++ r.notes) q.notes h)))
      (otherwise.good (subst (FunctionsAreAmong functions) (sym yes.same) a) (then_part IsRight (test ++ r.notes) q.notes h)))))
  step (layer.While at e x) cx s =
      let body = inner_stays x (looped cx) s in
      let r = inner (stat_of x.0) (looped cx) s in
      at_form (layer.While at e x.0) cx s (same_scope s _ _ body.same (λ a h.
      by_form (form.While at (expr_of e s).tree r.tree) _ (checked.rolls-While at _ _)
      (body.good a (then_part IsRight (expr_of e s).notes r.notes h))))
  step (layer.Do at x e) cx s =
      let body = inner_stays x (looped cx) s in
      let r = inner (stat_of x.0) (looped cx) s in
      at_form (layer.Do at x.0 e) cx s (same_scope s _ _ body.same (λ a h.
      by_form (form.Do at r.tree (expr_of e r.scope).tree) _ (checked.rolls-Do at _ _)
      (body.good a (first_part IsRight r.notes (expr_of e r.scope).notes h))))
  step (layer.For at begin e after x) cx s =
      let first = start_stays cx begin (entered s) in
      let p = option_start_of cx begin (entered s) in
      let body = inner_stays x (looped cx) p.scope in
      let r = inner (stat_of x.0) (looped cx) p.scope in
      let test = option_notes (option_of e p.scope) in
      let ends = step_of after p.scope in
      at_form (layer.For at begin e after x.0) cx s (same_scope s _ _ (ap (drop 1) body.same ∙ first.outer) (λ a h.
      let head = first_part IsRight (p.notes ++ test ++ ends.notes) r.notes h in
      by_form (form.For at p.tree (tree_of (option_of e p.scope)) ends.tree r.tree) _ (checked.rolls-For at _ _ _ _)
      (of_both (Contains functions) (start_calls p.tree ++ step_calls ends.tree) (stat_calls r.tree)
      (of_both (Contains functions) (start_calls p.tree) (step_calls ends.tree)
      (first.good a (first_part IsRight p.notes test (first_part IsRight (p.notes ++ test) ends.notes head)))
      (step_among functions after p.scope (first.among a) (then_part IsRight (p.notes ++ test) ends.notes head)))
      (body.good (first.among a) (then_part IsRight (p.notes ++ test ++ ends.notes) r.notes h)))))
  step (layer.Break at) cx s =
      at_form (layer.Break at) cx s (same_scope s _ _ refl (λ a h. by_form (form.Break at) _ (checked.rolls-Break at) tt))
  step (layer.Continue at) cx s =
      at_form (layer.Continue at) cx s (same_scope s _ _ refl (λ a h.
      by_form (form.Continue at) _ (checked.rolls-Continue at) tt))
  step (layer.Return at e) cx s =
      at_form (layer.Return at e) cx s (same_scope s _ _ refl (λ a h.
      by_form (form.Return at (tree_of (option_of e s))) _ (checked.rolls-Return at _) tt))

  stat_stays : (x : Stat) → Claim x
  stat_stays = ind-Stat Claim (λ x y e. subst (λ x. Claim (roll-Stat x)) e (step y))

  stats_stay : (xs : List Stat) (cx : Context) (s : Scope) → Stays s (stats_of xs cx s) (λ ts. Among functions (body_calls ts))
  stats_stay xs cx s =
      all_stay (λ x s. stat_of x cx s) Good (λ ts. Among functions (body_calls ts)) tt
      (λ t ts g h. of_both (Contains functions) (stat_calls t) (body_calls ts) g h) (λ x s. stat_stays x cx s) xs s

pub calls_are_of_scope : CallsAreOfScope
calls_are_of_scope functions s cx xs a h =
    All-from_recursion (Contains functions) _ ((stats_stay functions xs cx s).good a h)
