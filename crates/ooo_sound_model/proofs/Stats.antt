-- A statement without breaches fits the model, once its names have numbers.
use Rattle.std.proofs.Common.{◌≡◌, ◌∙◌, refl, ap, sym, subst, ℕ, List, [], ◌∷◌, ◌++◌, map, drop, Bool, true, false, Option, Some, None}
use Rattle.std.specs.Prelude.{Contains, ◌||◌, not, if◌then◌else◌}
use Rattle.std.specs.List.{AllByRecursion}
use Rattle.std.specs.Option.{unwrap_or}
use Rattle.std.specs.Str.{bytes_eq}
use Rattle.std.proofs.lemmas.List.Elements.{All-from_recursion}
use Rattle.ooo_lemmas.proofs.Each.{of_both}
use Rattle.ooo_lexer.specs.declared.position.Position.{Position}
use Rattle.ooo_value.specs.declared.kinds.Kind.{Kind}
use Rattle.ooo_syntax.specs.declared.expr.Expr.{Expr}
use Rattle.ooo_syntax.specs.declared.stat.Declarator.{Declarator}
use Rattle.ooo_syntax.specs.declared.stat.Local.{Local}
use Rattle.ooo_syntax.specs.declared.stat.Simple.{Simple}
use Rattle.ooo_syntax.specs.declared.stat.ForStart.{ForStart}
use Rattle.ooo_syntax.specs.declared.stat.ForStart.TheVariants as start
use Rattle.ooo_syntax.specs.declared.stat.Stat.{Stat, Stat-F, map-Stat, roll-Stat, fold-roll-Stat, ind-Stat}
use Rattle.ooo_syntax.specs.declared.stat.Stat.TheOpen as layer
use Rattle.ooo_bound.specs.declared.expr.BoundExpr.{BoundExpr}
use Rattle.ooo_bound.specs.declared.model.Bound.{Bound}
use Rattle.ooo_bound.specs.declared.stat.BoundStat.{BoundStat, BoundStat-F, map-BoundStat, roll-BoundStat, fold-roll-BoundStat}
use Rattle.ooo_bound.specs.declared.stat.BoundStat.TheOpen as opened
use Rattle.ooo_bound.specs.declared.stat.BoundStat.TheVariants as bound
use Rattle.ooo_bound.specs.declared.stat.LinedSimple.{LinedSimple}
use Rattle.ooo_checked.specs.declared.breach.TypeBreach.TheVariants as what
use Rattle.ooo_checked.specs.declared.context.Context.{Context}
use Rattle.ooo_checked.specs.declared.denotation.Denotation.{Denotation}
use Rattle.ooo_checked.specs.declared.stat.CheckedDeclarator.{CheckedDeclarator}
use Rattle.ooo_checked.specs.declared.stat.CheckedStat.{CheckedStat, CheckedStat-F, map-CheckedStat, roll-CheckedStat, fold-roll-CheckedStat}
use Rattle.ooo_checked.specs.declared.stat.CheckedStat.TheOpen as form
use Rattle.ooo_checked.specs.declared.stat.CheckedStat.TheVariants as checked
use Rattle.ooo_checked.specs.Exprs.{expr_of, option_of, tree_of, kind_written}
use Rattle.ooo_checked.specs.Notes.{breach_when}
use Rattle.ooo_checked.specs.Scopes.{Scope, declared, entered, found_in, is_declared_here, meaning_of, unknown}
use Rattle.ooo_checked.specs.Stats.{Stepped, Reading, initial_of, declarator_of, local_of, local_denotation, option_start_of, step_of, in_order, readings_of, inner, looped, return_notes, option_notes, stat_of, stat_step, stats_of}
use Rattle.ooo_numbers.specs.Names.{Numbering}
use Rattle.ooo_numbers.specs.Exprs.{option_of as option_numbered}
use Rattle.ooo_numbers.specs.Simples.{declarator_of as bound_declarator, declarators_of as bound_declarators, local_of as bound_local, initial_of as bound_initial}
use Rattle.ooo_numbers.specs.Stats.{as_stats, start_of as bound_start, after_of, stat_step as numbered_step, stat_of as numbered_stat, stats_of as numbered_stats}
use Rattle.ooo_activation.specs.Kinds.{joined, list_of, simples_step, simples_of, values_step, values_of, any_true, jumps_step, jumps_out, simples_in, values_in, some_jumps_out, may_wait, simple_calls, calls_of}
use Rattle.ooo_activation.specs.Sound.{FitsExpr, FitsSimple}
use Rattle.ooo_sound_model.specs.Naming.{Leave, MeansThing, Agrees, HasEvents, MayAllBeNoted}
use Rattle.ooo_sound_model.specs.Fitting.{FitsWith, BodiesFit}
use Rattle.ooo_sound_model.proofs.Lists.{of_weaker, of_mapped}
use Rattle.ooo_sound_model.proofs.Notes.{no, first_noted, then_noted, so}
use Rattle.ooo_sound_model.proofs.Exprs.{constant_fits, expr_fits}
use Rattle.ooo_sound_model.proofs.Simples.{GoodRight, GoodSimple, right_good, assign_good, quiet_good, simple_good}

or_false : (x y : Bool) → x ≡ false → y ≡ false → (x || y) ≡ false
or_false x y h g = ap (λ z. z || y) h ∙ g

module _ (b : Bound) (n : Numbering) (l : Leave) where
  abbrev GoodLined : List LinedSimple → Type 0
  GoodLined xs = AllByRecursion (λ x. GoodSimple b n l x.simple) xs

  abbrev GoodValues : List BoundExpr → Type 0
  GoodValues es = AllByRecursion (FitsExpr b) es

  -- a statement fits, and no jump leaves it where it stands outside of loops
  record GoodStat (in_loop : Bool) (x : BoundStat) : Type 0 where
    pub simples : GoodLined (simples_of x)
    pub values : GoodValues (values_of x)
    pub jumps : in_loop ≡ false → jumps_out x ≡ false

  -- ---- by the forms of bound statements

  by_form : (in_loop : Bool) (y : BoundStat-F BoundStat) (x : BoundStat) → roll-BoundStat y ≡ x →
      GoodLined (simples_step (map-BoundStat BoundStat (List LinedSimple) simples_of y)) →
      GoodValues (values_step (map-BoundStat BoundStat (List BoundExpr) values_of y)) →
      (in_loop ≡ false → jumps_step (map-BoundStat BoundStat Bool jumps_out y) ≡ false) → GoodStat in_loop x
  unfolding simples_of values_of jumps_out
  by_form in_loop y x is s v j = record {
    simples = subst GoodLined (sym (ap simples_of (sym is) ∙ fold-roll-BoundStat (List LinedSimple) simples_step y)) s;
    values = subst GoodValues (sym (ap values_of (sym is) ∙ fold-roll-BoundStat (List BoundExpr) values_step y)) v;
    jumps = λ o. ap jumps_out (sym is) ∙ fold-roll-BoundStat Bool jumps_step y ∙ j o;
  }

  joined_simples : (in_loop : Bool) (xs : List BoundStat) → AllByRecursion (GoodStat in_loop) xs → GoodLined (joined (map simples_of xs))
  joined_simples in_loop [] h = tt
  joined_simples in_loop (x ∷ xs) h = of_both _ (simples_of x) (joined (map simples_of xs)) h.0.simples (joined_simples in_loop xs h.1)

  joined_values : (in_loop : Bool) (xs : List BoundStat) → AllByRecursion (GoodStat in_loop) xs → GoodValues (joined (map values_of xs))
  joined_values in_loop [] h = tt
  joined_values in_loop (x ∷ xs) h = of_both _ (values_of x) (joined (map values_of xs)) h.0.values (joined_values in_loop xs h.1)

  joined_jumps : (in_loop : Bool) (xs : List BoundStat) → AllByRecursion (GoodStat in_loop) xs → in_loop ≡ false →
      any_true (map jumps_out xs) ≡ false
  joined_jumps in_loop [] h o = refl
  joined_jumps in_loop (x ∷ xs) h o = or_false (jumps_out x) (any_true (map jumps_out xs)) (h.0.jumps o) (joined_jumps in_loop xs h.1 o)

  block_good : (in_loop : Bool) (xs : List BoundStat) → AllByRecursion (GoodStat in_loop) xs → GoodStat in_loop (bound.Block xs)
  block_good in_loop xs h =
      by_form in_loop (opened.Block xs) _ (bound.rolls-Block xs) (joined_simples in_loop xs h) (joined_values in_loop xs h)
      (joined_jumps in_loop xs h)

  lined_good : (in_loop : Bool) (x : LinedSimple) → GoodSimple b n l x.simple → GoodStat in_loop (bound.Simple x)
  lined_good in_loop x h = by_form in_loop (opened.Simple x) _ (bound.rolls-Simple x) (h, tt) tt (λ o. refl)

  as_stats_good : (in_loop : Bool) (xs : List LinedSimple) → GoodLined xs → AllByRecursion (GoodStat in_loop) (as_stats xs)
  as_stats_good in_loop [] h = tt
  as_stats_good in_loop (x ∷ xs) h = (lined_good in_loop x h.0, as_stats_good in_loop xs h.1)

  if_good : (in_loop : Bool) (line : ℕ) (e : BoundExpr) (x : BoundStat) → FitsExpr b e → GoodStat in_loop x →
      GoodStat in_loop (bound.If line e x None)
  if_good in_loop line e x f h =
      by_form in_loop (opened.If line e x None) _ (bound.rolls-If line e x None) (of_both _ (simples_of x) [] h.simples tt)
      (f, of_both _ (values_of x) [] h.values tt) (λ o. or_false (jumps_out x) false (h.jumps o) refl)

  else_good : (in_loop : Bool) (line : ℕ) (e : BoundExpr) (x y : BoundStat) → FitsExpr b e → GoodStat in_loop x →
      GoodStat in_loop y → GoodStat in_loop (bound.If line e x (Some y))
  else_good in_loop line e x y f h g =
      by_form in_loop (opened.If line e x (Some y)) _ (bound.rolls-If line e x (Some y))
      (of_both _ (simples_of x) (simples_of y) h.simples g.simples)
      (f, of_both _ (values_of x) (values_of y) h.values g.values)
      (λ o. or_false (jumps_out x) (jumps_out y) (h.jumps o) (g.jumps o))

  while_good : (in_loop : Bool) (line : ℕ) (e : BoundExpr) (x : BoundStat) → FitsExpr b e → GoodStat true x →
      GoodStat in_loop (bound.While line e x)
  while_good in_loop line e x f h =
      by_form in_loop (opened.While line e x) _ (bound.rolls-While line e x) h.simples (f, h.values) (λ o. refl)

  do_good : (in_loop : Bool) (line : ℕ) (x : BoundStat) (e : BoundExpr) → GoodStat true x → FitsExpr b e →
      GoodStat in_loop (bound.Do line x e)
  do_good in_loop line x e h f =
      by_form in_loop (opened.Do line x e) _ (bound.rolls-Do line x e) h.simples (of_both _ (values_of x) (e ∷ []) h.values (f, tt))
      (λ o. refl)

  for_good : (in_loop : Bool) (line : ℕ) (begin : List LinedSimple) (e : Option BoundExpr) (after : Option LinedSimple) (x : BoundStat) →
      GoodLined begin → GoodValues (list_of e) → GoodLined (list_of after) → GoodStat true x →
      GoodStat in_loop (bound.For line begin e after x)
  for_good in_loop line begin e after x p q r h =
      by_form in_loop (opened.For line begin e after x) _ (bound.rolls-For line begin e after x)
      (of_both _ (begin ++ list_of after) (simples_of x) (of_both _ begin (list_of after) p r) h.simples)
      (of_both _ (list_of e) (values_of x) q h.values) (λ o. refl)

  return_good : (in_loop : Bool) (line : ℕ) (e : Option BoundExpr) → GoodValues (list_of e) → GoodStat in_loop (bound.Return line e)
  return_good in_loop line e h = by_form in_loop (opened.Return line e) _ (bound.rolls-Return line e) tt h (λ o. refl)

  -- a jump stands in a loop
  in_loop_only : (in_loop : Bool) (at : Position) → MayAllBeNoted l (breach_when (not in_loop) what.WrongKind at) → in_loop ≡ false →
      true ≡ false
  in_loop_only in_loop at h o = no (sym o ∙ so l in_loop what.WrongKind at h)

  -- ---- scopes

  declared_agrees : (s : Scope) (name : List ℕ) (d : Denotation) → MeansThing b n l d d.thing → Agrees b n l s →
      Agrees b n l (declared s name d)
  declared_agrees [] name d m a x =
      elim (bytes_eq x name)
      as (λ t. let e : Denotation = unwrap_or (if t then Some d else None) unknown in MeansThing b n l e e.thing)
      [ true ↦ m | false ↦ tt ]
  declared_agrees (block ∷ outer) name d m a x =
      elim (bytes_eq x name)
      as (λ t. let e : Denotation = unwrap_or (if t then Some d else found_in block x) (meaning_of outer x) in MeansThing b n l e e.thing)
      [ true ↦ m | false ↦ a x ]

  declared_outer : (s : Scope) (name : List ℕ) (d : Denotation) → drop 1 (declared s name d) ≡ drop 1 s
  declared_outer [] name d = refl
  declared_outer (block ∷ outer) name d = refl

  -- what a part of a body leaves of its scope, and what holds of it
  record Stays {T : Type 0} (s : Scope) (r : Stepped T) (G : T → Type 0) : Type 0 where
    pub outer : drop 1 r.scope ≡ drop 1 s
    pub agrees : Agrees b n l s → Agrees b n l r.scope
    pub good : Agrees b n l s → MayAllBeNoted l r.notes → G r.tree

  all_stay : {A T : Type 0} (f : A → Scope → Stepped T) (G : T → Type 0) → ((x : A) (s : Scope) → Stays s (f x s) G) → (xs : List A)
      (s : Scope) → Stays s (in_order f xs s) (AllByRecursion G)
  all_stay f G each [] s = record { outer = refl; agrees = λ a. a; good = λ a h. tt }
  all_stay f G each (x ∷ xs) s =
      let first = each x s in
      let others = all_stay f G each xs (f x s).scope in record {
        outer = others.outer ∙ first.outer;
        agrees = λ a. others.agrees (first.agrees a);
        good = λ a h. (
          first.good a (first_noted l (f x s).notes (in_order f xs (f x s).scope).notes h),
          others.good (first.agrees a) (then_noted l (f x s).notes (in_order f xs (f x s).scope).notes h),
        );
      }

  -- what leaves the scope as it is
  same_scope : {T : Type 0} (s : Scope) (r : Stepped T) (G : T → Type 0) → r.scope ≡ s → (Agrees b n l s → MayAllBeNoted l r.notes → G r.tree) →
      Stays s r G
  same_scope s r G is h = record { outer = ap (drop 1) is; agrees = λ a. subst (Agrees b n l) (sym is) a; good = h }

  module _ (ev : HasEvents b n) where
    -- ---- locals

    initial_good : (k : Kind) (o : Option Expr) (s : Scope) → Agrees b n l s → MayAllBeNoted l (option_notes (initial_of o s)) →
        GoodRight b n l (bound_initial n k (tree_of (initial_of o s)))
    initial_good k None s a h = quiet_good b n l _ (constant_fits b _)
    initial_good k (Some e) s a h = right_good b n l e s a h

    declarator_stays : (k : Kind) (cx : Context) (line : ℕ) (d : Declarator) (s : Scope) →
        Stays s (declarator_of k cx d s) (λ t. GoodSimple b n l (bound_declarator n k line t).simple)
    declarator_stays k cx line d s = record {
      outer = declared_outer s d.name.name (local_denotation k cx s);
      agrees = λ a. declared_agrees s d.name.name (local_denotation k cx s) tt a;
      good = λ a h. assign_good b n l _ _ tt (initial_good k d.value s a
          (then_noted l (breach_when (is_declared_here s d.name.name) what.DeclaredTwice d.name.position) (option_notes (initial_of d.value s)) h));
    }

    lined : (k : Kind) (line : ℕ) (ds : List CheckedDeclarator) →
        AllByRecursion (λ t. GoodSimple b n l (bound_declarator n k line t).simple) ds → GoodLined (bound_declarators n k line ds)
    lined k line [] h = tt
    lined k line (d ∷ ds) h = (h.0, lined k line ds h.1)

    local_stays : (cx : Context) (x : Local) (s : Scope) → Stays s (local_of cx x s) (λ t. GoodLined (bound_local n t))
    local_stays cx x s =
        let k = kind_written x.form.form in
        let all = all_stay (λ d s. declarator_of k cx d s) (λ t. GoodSimple b n l (bound_declarator n k x.form.position.line t).simple)
        (declarator_stays k cx x.form.position.line) x.names s in record {
          outer = all.outer;
          agrees = all.agrees;
          good = λ a h. lined k x.form.position.line _ (all.good a h);
        }

    start_stays : (cx : Context) (o : Option ForStart) (s : Scope) → Stays s (option_start_of cx o s) (λ t. GoodLined (bound_start n t))
    start_stays cx None s = same_scope s _ _ refl (λ a h. tt)
    start_stays cx (Some (start.Local x)) s =
        let local = local_stays cx x s in record { outer = local.outer; agrees = local.agrees; good = local.good }
    start_stays cx (Some (start.Simple x)) s = same_scope s _ _ refl (λ a h. (simple_good b n l ev x s a h, tt))

    after_good : (o : Option Simple) (s : Scope) → Agrees b n l s → MayAllBeNoted l (step_of o s).notes →
        GoodLined (list_of (after_of n (step_of o s).tree))
    after_good None s a h = tt
    after_good (Some x) s a h = (simple_good b n l ev x s a h, tt)

    value_good : (o : Option Expr) (s : Scope) → Agrees b n l s → MayAllBeNoted l (option_notes (option_of o s)) →
        GoodValues (list_of (option_numbered n (tree_of (option_of o s))))
    value_good None s a h = tt
    value_good (Some e) s a h = (expr_fits b n l e s a h, tt)

    -- ---- by induction on the statement

    abbrev Good : Bool → CheckedStat → Type 0
    Good in_loop t = GoodStat in_loop (numbered_stat n t)

    abbrev Claim : Stat → Type 0
    Claim x = (cx : Context) (s : Scope) → Stays s (stat_of x cx s) (Good cx.in_loop)

    abbrev Shown : Type 0
    Shown = (x : Stat) × Claim x

    by_number : (in_loop : Bool) (z : CheckedStat-F CheckedStat) (t : CheckedStat) → roll-CheckedStat z ≡ t →
        GoodStat in_loop (numbered_step n (map-CheckedStat CheckedStat BoundStat (numbered_stat n) z)) → Good in_loop t
    unfolding numbered_stat
    by_number in_loop z t is h =
        subst (GoodStat in_loop) (sym (ap (numbered_stat n) (sym is) ∙ fold-roll-CheckedStat BoundStat (numbered_step n) z)) h

    at_form : (y : Stat-F Stat) (cx : Context) (s : Scope) → Stays s (stat_step (map-Stat Stat Reading stat_of y) cx s) (Good cx.in_loop) →
        Stays s (stat_of (roll-Stat y) cx s) (Good cx.in_loop)
    unfolding stat_of
    at_form y cx s h = subst (λ (f : Reading). Stays s (f cx s) (Good cx.in_loop)) (sym (fold-roll-Stat Reading stat_step y)) h

    readings_stay : (xs : List Shown) (cx : Context) (s : Scope) →
        Stays s (readings_of (map stat_of (map (λ x. x.0) xs)) cx s) (AllByRecursion (Good cx.in_loop))
    readings_stay [] cx s = same_scope s _ _ refl (λ a h. tt)
    readings_stay (x ∷ xs) cx s =
        let first = x.1 cx s in
        let r = stat_of x.0 cx s in
        let others = readings_stay xs cx r.scope in record {
          outer = others.outer ∙ first.outer;
          agrees = λ a. others.agrees (first.agrees a);
          good = λ a h. (first.good a (first_noted l r.notes _ h), others.good (first.agrees a) (then_noted l r.notes _ h));
        }

    -- a statement inside another
    record Within (cx : Context) (s : Scope) (r : Stepped CheckedStat) : Type 0 where
      pub same : r.scope ≡ s
      pub good : Agrees b n l s → MayAllBeNoted l r.notes → Good cx.in_loop r.tree

    inner_stays : (x : Shown) (cx : Context) (s : Scope) → Within cx s (inner (stat_of x.0) cx s)
    inner_stays x cx s = let r = x.1 cx (entered s) in record { same = r.outer; good = λ a h. r.good a h }

    step : (y : Stat-F Shown) → Claim (roll-Stat (map-Stat Shown Stat (λ x. x.0) y))
    step (layer.Block at xs) cx s =
        let r = readings_stay xs cx (entered s) in
        at_form (layer.Block at (map (λ x. x.0) xs)) cx s (same_scope s _ _ r.outer (λ a h.
        by_number cx.in_loop (form.Block at _) _ (checked.rolls-Block at _)
        (block_good cx.in_loop _ (of_mapped (numbered_stat n) (GoodStat cx.in_loop) _ (r.good a h)))))
    step (layer.Empty at) cx s =
        at_form (layer.Empty at) cx s (same_scope s _ _ refl (λ a h.
        by_number cx.in_loop (form.Empty at) _ (checked.rolls-Empty at) (block_good cx.in_loop [] tt)))
    step (layer.Local x) cx s =
        let r = local_stays cx x s in
        at_form (layer.Local x) cx s (record {
          outer = r.outer;
          agrees = r.agrees;
          good = λ a h. by_number cx.in_loop (form.Local _) _ (checked.rolls-Local _)
              (block_good cx.in_loop _ (as_stats_good cx.in_loop _ (r.good a h)));
        })
    step (layer.Simple x) cx s =
        at_form (layer.Simple x) cx s (same_scope s _ _ refl (λ a h.
        by_number cx.in_loop (form.Simple _) _ (checked.rolls-Simple _) (lined_good cx.in_loop _ (simple_good b n l ev x s a h))))
    step (layer.If at e x None) cx s =
        let yes = inner_stays x cx s in
        let r = inner (stat_of x.0) cx s in
        let test = (expr_of e s).notes in
        at_form (layer.If at e x.0 None) cx s (same_scope s _ _ yes.same (λ a h.
        by_number cx.in_loop (form.If at (expr_of e s).tree r.tree None) _ (checked.rolls-If at _ _ None)
        (if_good cx.in_loop at.line _ _ (expr_fits b n l e s a (first_noted l test r.notes (first_noted l (test ++ r.notes) [] h)))
        (yes.good a (then_noted l test r.notes (first_noted l (test ++ r.notes) [] h))))))
    step (layer.If at e x (Some y)) cx s =
        let yes = inner_stays x cx s in
        let r = inner (stat_of x.0) cx s in
        let otherwise = inner_stays y cx r.scope in
        let q = inner (stat_of y.0) cx r.scope in
        let test = (expr_of e s).notes in
        at_form (layer.If at e x.0 (Some y.0)) cx s (same_scope s _ _ (otherwise.same ∙ yes.same) (λ a h.
        by_number cx.in_loop (form.If at (expr_of e s).tree r.tree (Some q.tree)) _ (checked.rolls-If at _ _ (Some _))
        (else_good cx.in_loop at.line _ _ _
        (expr_fits b n l e s a (first_noted l test r.notes (first_noted l (test ++ r.notes) q.notes h)))
        (yes.good a (then_noted l test r.notes (first_noted l (test ++ r.notes) q.notes h)))
        (otherwise.good (subst (Agrees b n l) (sym yes.same) a) (then_noted l (test ++ r.notes) q.notes h)))))
    step (layer.While at e x) cx s =
        let body = inner_stays x (looped cx) s in
        let r = inner (stat_of x.0) (looped cx) s in
        let test = (expr_of e s).notes in
        at_form (layer.While at e x.0) cx s (same_scope s _ _ body.same (λ a h.
        by_number cx.in_loop (form.While at (expr_of e s).tree r.tree) _ (checked.rolls-While at _ _)
        (while_good cx.in_loop at.line _ _ (expr_fits b n l e s a (first_noted l test r.notes h)) (body.good a (then_noted l test r.notes h)))))
    step (layer.Do at x e) cx s =
        let body = inner_stays x (looped cx) s in
        let r = inner (stat_of x.0) (looped cx) s in
        let test = (expr_of e r.scope).notes in
        at_form (layer.Do at x.0 e) cx s (same_scope s _ _ body.same (λ a h.
        by_number cx.in_loop (form.Do at r.tree (expr_of e r.scope).tree) _ (checked.rolls-Do at _ _)
        (do_good cx.in_loop at.line _ _ (body.good a (first_noted l r.notes test h))
        (expr_fits b n l e r.scope (subst (Agrees b n l) (sym body.same) a) (then_noted l r.notes test h)))))
    step (layer.For at begin e after x) cx s =
        let first = start_stays cx begin (entered s) in
        let p = option_start_of cx begin (entered s) in
        let body = inner_stays x (looped cx) p.scope in
        let r = inner (stat_of x.0) (looped cx) p.scope in
        let test = option_notes (option_of e p.scope) in
        let ends = (step_of after p.scope).notes in
        at_form (layer.For at begin e after x.0) cx s (same_scope s _ _ (ap (drop 1) body.same ∙ first.outer) (λ a h.
        let a' = first.agrees a in
        let head = first_noted l (p.notes ++ test ++ ends) r.notes h in
        let two = first_noted l (p.notes ++ test) ends head in
        by_number cx.in_loop (form.For at p.tree (tree_of (option_of e p.scope)) (step_of after p.scope).tree r.tree) _ (checked.rolls-For at _ _ _ _)
        (for_good cx.in_loop at.line _ _ _ _ (first.good a (first_noted l p.notes test two))
        (value_good e p.scope a' (then_noted l p.notes test two)) (after_good after p.scope a' (then_noted l (p.notes ++ test) ends head))
        (body.good a' (then_noted l (p.notes ++ test ++ ends) r.notes h)))))
    step (layer.Break at) cx s =
        at_form (layer.Break at) cx s (same_scope s _ _ refl (λ a h.
        by_number cx.in_loop (form.Break at) _ (checked.rolls-Break at)
        (by_form cx.in_loop (opened.Break at.line) _ (bound.rolls-Break at.line) tt tt (in_loop_only cx.in_loop at h))))
    step (layer.Continue at) cx s =
        at_form (layer.Continue at) cx s (same_scope s _ _ refl (λ a h.
        by_number cx.in_loop (form.Continue at) _ (checked.rolls-Continue at)
        (by_form cx.in_loop (opened.Continue at.line) _ (bound.rolls-Continue at.line) tt tt (in_loop_only cx.in_loop at h))))
    step (layer.Return at e) cx s =
        let value = option_notes (option_of e s) in
        at_form (layer.Return at e) cx s (same_scope s _ _ refl (λ a h.
        by_number cx.in_loop (form.Return at (tree_of (option_of e s))) _ (checked.rolls-Return at _)
        (return_good cx.in_loop at.line _ (value_good e s a (then_noted l (return_notes cx.result e at) value h)))))

    stat_stays : (x : Stat) → Claim x
    stat_stays = ind-Stat Claim (λ x y e. subst (λ x. Claim (roll-Stat x)) e (step y))

    stats_stay : (xs : List Stat) (cx : Context) (s : Scope) → Stays s (stats_of xs cx s) (AllByRecursion (Good cx.in_loop))
    stats_stay xs cx s = all_stay (λ x s. stat_of x cx s) (Good cx.in_loop) (λ x s. stat_stays x cx s) xs s

  -- ---- bodies

  body_simples : (in_loop : Bool) (ts : List CheckedStat) → AllByRecursion (λ t. GoodStat in_loop (numbered_stat n t)) ts →
      GoodLined (simples_in (numbered_stats n ts))
  body_simples in_loop [] h = tt
  body_simples in_loop (t ∷ ts) h =
      of_both _ (simples_of (numbered_stat n t)) (simples_in (numbered_stats n ts)) h.0.simples (body_simples in_loop ts h.1)

  body_values : (in_loop : Bool) (ts : List CheckedStat) → AllByRecursion (λ t. GoodStat in_loop (numbered_stat n t)) ts →
      GoodValues (values_in (numbered_stats n ts))
  body_values in_loop [] h = tt
  body_values in_loop (t ∷ ts) h =
      of_both _ (values_of (numbered_stat n t)) (values_in (numbered_stats n ts)) h.0.values (body_values in_loop ts h.1)

  body_jumps : (ts : List CheckedStat) → AllByRecursion (λ t. GoodStat false (numbered_stat n t)) ts →
      some_jumps_out (numbered_stats n ts) ≡ false
  body_jumps [] h = refl
  body_jumps (t ∷ ts) h =
      or_false (jumps_out (numbered_stat n t)) (some_jumps_out (numbered_stats n ts)) (h.0.jumps refl) (body_jumps ts h.1)

  called_within : (xs : List LinedSimple) → GoodLined xs → AllByRecursion (Contains l.functions) (calls_of xs)
  called_within [] h = tt
  called_within (x ∷ xs) h = of_both _ (simple_calls x.simple) (calls_of xs) h.0.calls (called_within xs h.1)

  never : (x y : Bool) → (x ≡ true → y ≡ true) → y ≡ false → x ≡ false
  never false y h g = refl
  never true y h g = sym (h refl) ∙ g

  fits_with : (ts : List CheckedStat) → AllByRecursion (λ t. GoodStat false (numbered_stat n t)) ts → FitsWith b l (numbered_stats n ts)
  fits_with ts h =
      let simples = body_simples false ts h in record {
        fits = record {
          simples = All-from_recursion (λ (x : LinedSimple). FitsSimple b x.simple) _
              (of_weaker (λ x. GoodSimple b n l x.simple) (λ x. FitsSimple b x.simple) (λ x g. g.fits) _ simples);
          values = All-from_recursion (FitsExpr b) _ (body_values false ts h);
          jumps = body_jumps ts h;
        };
        calls = All-from_recursion (Contains l.functions) _ (called_within _ simples);
        waits = λ quiet. All-from_recursion (λ (x : LinedSimple). may_wait x.simple ≡ false) _
            (of_weaker (λ x. GoodSimple b n l x.simple) (λ x. may_wait x.simple ≡ false)
            (λ x g. never (may_wait x.simple) l.waits g.waits quiet) _ simples);
      }

pub bodies_fit : BodiesFit
bodies_fit b n l s cx xs ev a outside h =
    let ts = (stats_of xs cx s).tree in
    fits_with b n l ts (subst (λ x. AllByRecursion (λ t. GoodStat b n l x (numbered_stat n t)) ts) outside ((stats_stay b n l ev xs cx s).good a h))
