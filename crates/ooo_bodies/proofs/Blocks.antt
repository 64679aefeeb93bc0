-- Equations of statements, form by form.
use Rattle.std.proofs.Common.{◌≡◌, ◌∙◌, ap, sym, refl, List, [], ◌∷◌, ◌++◌, map, Option, Some, None}
use Rattle.ooo_lexer.specs.declared.position.Position.{Position}
use Rattle.ooo_syntax.specs.declared.expr.Expr.{Expr}
use Rattle.ooo_syntax.specs.declared.stat.ForStart.{ForStart}
use Rattle.ooo_syntax.specs.declared.stat.Local.{Local}
use Rattle.ooo_syntax.specs.declared.stat.Simple.{Simple}
use Rattle.ooo_syntax.specs.declared.stat.Stat.{Stat, Stat-F, map-Stat, roll-Stat, fold-roll-Stat}
use Rattle.ooo_syntax.specs.declared.stat.Stat.TheOpen as layer
use Rattle.ooo_syntax.specs.declared.stat.Stat.TheVariants as tree
use Rattle.ooo_checked.specs.declared.context.Context.{Context}
use Rattle.ooo_checked.specs.declared.stat.CheckedStat.{CheckedStat}
use Rattle.ooo_checked.specs.declared.stat.CheckedStat.TheVariants as stat
use Rattle.ooo_checked.specs.Exprs.{expr_of}
use Rattle.ooo_checked.specs.Scopes.{Scope, entered, left}
use Rattle.ooo_checked.specs.Stats.{Reading, Stepped, do_of, else_of, for_of, if_of, in_order, inner, local_of, loop_notes, option_reading, return_of}
use Rattle.ooo_checked.specs.Stats.{simple_of, stat_of, stat_step, stats_of, while_of}
use Rattle.ooo_bodies.specs.declared.notes.Notes.{Notes}
use Rattle.ooo_bodies.specs.Noting.{noted}
use Rattle.ooo_bodies.specs.Parts.{noted_three}

-- parts that are made of others, one after the other
in_order-map : {A B T : Type 0} (g : A → B) (f : B → Scope → Stepped T) (xs : List A) (s : Scope) →
    in_order f (map g xs) s ≡ in_order (λ x s'. f (g x) s') xs s
in_order-map g f [] s = refl
in_order-map {T = T} g f (x ∷ xs) s =
    ap {A = Stepped (List T)} (λ others. record {
      tree = (f (g x) s).tree ∷ others.tree;
      scope = others.scope;
      notes = (f (g x) s).notes ++ others.notes;
    }) (in_order-map g f xs (f (g x) s).scope)

-- a statement by its form
at_layer : (y : Stat-F Stat) (cx : Context) (s : Scope) → stat_of (roll-Stat y) cx s ≡ stat_step (map-Stat Stat Reading stat_of y) cx s
unfolding stat_of
at_layer y cx s = ap (λ (f : Reading). f cx s) (fold-roll-Stat Reading stat_step y)

-- a block is its statements, in a scope of their own
pub stat_of-Block : (at : Position) (xs : List Stat) (cx : Context) (s : Scope) → stat_of (tree.Block at xs) cx s ≡ record {
  tree = stat.Block at (stats_of xs cx (entered s)).tree;
  scope = left (stats_of xs cx (entered s)).scope;
  notes = (stats_of xs cx (entered s)).notes;
}
stat_of-Block at xs cx s =
    ap (λ x. stat_of x cx s) (sym (tree.rolls-Block at xs)) ∙ at_layer (layer.Block at xs) cx s
    ∙ ap {A = Stepped (List CheckedStat)} (λ r. record { tree = stat.Block at r.tree; scope = left r.scope; notes = r.notes })
    (in_order-map stat_of (λ (f : Reading) s'. f cx s') xs (entered s))

module _ (cx : Context) (s : Scope) where
  -- statements that hold no other
  pub stat_of-Empty : (at : Position) → stat_of (tree.Empty at) cx s ≡ record { tree = stat.Empty at; scope = s; notes = [] }
  stat_of-Empty at = ap (λ x. stat_of x cx s) (sym (tree.rolls-Empty at)) ∙ at_layer (layer.Empty at) cx s

  pub stat_of-Local : (l : Local) → stat_of (tree.Local l) cx s ≡
      record { tree = stat.Local (local_of cx l s).tree; scope = (local_of cx l s).scope; notes = (local_of cx l s).notes }
  stat_of-Local l = ap (λ x. stat_of x cx s) (sym (tree.rolls-Local l)) ∙ at_layer (layer.Local l) cx s

  pub stat_of-Simple : (x : Simple) → stat_of (tree.Simple x) cx s ≡
      record { tree = stat.Simple (simple_of x s).tree; scope = s; notes = (simple_of x s).notes }
  stat_of-Simple x = ap (λ x. stat_of x cx s) (sym (tree.rolls-Simple x)) ∙ at_layer (layer.Simple x) cx s

  pub stat_of-Break : (at : Position) → stat_of (tree.Break at) cx s ≡
      record { tree = stat.Break at; scope = s; notes = loop_notes cx at }
  stat_of-Break at = ap (λ x. stat_of x cx s) (sym (tree.rolls-Break at)) ∙ at_layer (layer.Break at) cx s

  pub stat_of-Continue : (at : Position) → stat_of (tree.Continue at) cx s ≡
      record { tree = stat.Continue at; scope = s; notes = loop_notes cx at }
  stat_of-Continue at = ap (λ x. stat_of x cx s) (sym (tree.rolls-Continue at)) ∙ at_layer (layer.Continue at) cx s

  pub stat_of-Return : (at : Position) (e : Option Expr) → stat_of (tree.Return at e) cx s ≡ return_of at e cx s
  stat_of-Return at e = ap (λ x. stat_of x cx s) (sym (tree.rolls-Return at e)) ∙ at_layer (layer.Return at e) cx s

  -- loops
  pub stat_of-While : (at : Position) (e : Expr) (f : Stat) → stat_of (tree.While at e f) cx s ≡ while_of at e (stat_of f) cx s
  stat_of-While at e f = ap (λ x. stat_of x cx s) (sym (tree.rolls-While at e f)) ∙ at_layer (layer.While at e f) cx s

  pub stat_of-Do : (at : Position) (f : Stat) (e : Expr) → stat_of (tree.Do at f e) cx s ≡ do_of at (stat_of f) e cx s
  stat_of-Do at f e = ap (λ x. stat_of x cx s) (sym (tree.rolls-Do at f e)) ∙ at_layer (layer.Do at f e) cx s

  pub stat_of-For : (at : Position) (begins : Option ForStart) (e : Option Expr) (after : Option Simple) (f : Stat) →
      stat_of (tree.For at begins e after f) cx s ≡ for_of at begins e after (stat_of f) cx s
  stat_of-For at begins e after f =
      ap (λ x. stat_of x cx s) (sym (tree.rolls-For at begins e after f)) ∙ at_layer (layer.For at begins e after f) cx s

  -- a choice
  pub stat_of-If : (at : Position) (e : Expr) (f : Stat) (g : Option Stat) →
      stat_of (tree.If at e f g) cx s ≡ if_of at e (stat_of f) (option_reading g) cx s
  stat_of-If at e f None = ap (λ x. stat_of x cx s) (sym (tree.rolls-If at e f None)) ∙ at_layer (layer.If at e f None) cx s
  stat_of-If at e f (Some g) =
      ap (λ x. stat_of x cx s) (sym (tree.rolls-If at e f (Some g))) ∙ at_layer (layer.If at e f (Some g)) cx s

-- the notes of the test and of both statements, one after the other
pub noted-If : (at : Position) (e : Expr) (f f' : Stat) (g : Option Stat) (x : Stat) (cx : Context) (s s' : Scope) (n m k o : Notes) →
    x ≡ tree.If at e f g → f' ≡ f → s' ≡ (inner (stat_of f') cx s).scope → m ≡ noted n (expr_of e s).notes →
    k ≡ noted m (inner (stat_of f') cx s).notes → o ≡ noted k (else_of (option_reading g) cx s').notes →
    o ≡ noted n (stat_of x cx s).notes
noted-If at e f f' g x cx s s' n m k o is same behind first second third =
    third ∙ ap (λ u. noted k (else_of (option_reading g) cx u).notes) (behind ∙ ap (λ y. (inner (stat_of y) cx s).scope) same)
    ∙ noted_three n m k (expr_of e s).notes (inner (stat_of f) cx s).notes
    (else_of (option_reading g) cx (inner (stat_of f) cx s).scope).notes first
    (second ∙ ap (λ y. noted m (inner (stat_of y) cx s).notes) same)
    ∙ ap (λ u. noted n u) (sym (ap (λ y. (stat_of y cx s).notes) is ∙ ap {A = Stepped CheckedStat} (λ r. r.notes) (stat_of-If cx s at e f g)))
