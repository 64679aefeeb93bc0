-- At each number among the names of a file without breaches stands a module that is read behind so many names, or none.
use Rattle.std.proofs.Common.{◌≡◌, ◌∙◌, refl, ap, sym, subst, arith, ℕ, zero, suc, ◌+◌, List, [], ◌∷◌, length, Some, ◌⊎◌, inl, inr}
use Rattle.std.specs.Prelude.{slice_get}
use Rattle.ooo_syntax.specs.declared.leaves.Word.{Word}
use Rattle.ooo_syntax.specs.declared.module.Constant.{Constant}
use Rattle.ooo_syntax.specs.declared.module.Module.{Module}
use Rattle.ooo_syntax.specs.declared.unit.UnitItem.{UnitItem}
use Rattle.ooo_syntax.specs.declared.unit.UnitItem.TheVariants as item
use Rattle.ooo_checked.specs.declared.breach.TypeBreach.TheVariants as what
use Rattle.ooo_checked.specs.declared.denotation.Denotation.{Denotation}
use Rattle.ooo_checked.specs.declared.denotation.Thing.{Thing}
use Rattle.ooo_checked.specs.declared.denotation.Thing.TheVariants as thing
use Rattle.ooo_checked.specs.declared.unit.CheckedUnitItem.{CheckedUnitItem}
use Rattle.ooo_checked.specs.declared.unit.CheckedUnitItem.TheVariants as checked
use Rattle.ooo_checked.specs.Exprs.{kind_written}
use Rattle.ooo_checked.specs.Scopes.{Scope, entered, is_declared_here, meaning_of, size_of}
use Rattle.ooo_members.specs.Declarations.{denotation_of, name_of, with_name}
use Rattle.ooo_members.specs.Members.{constant_named}
use Rattle.ooo_types.specs.Modules.{module_of, params_count}
use Rattle.ooo_types.specs.Units.{at_first, constant_item_of, items_of, main_of, module_item_of}
use Rattle.ooo_walk.specs.Plans.{Viewed, empty_view, members_in, plan_of, plans_from, view_by, view_planned}
use Rattle.ooo_sound_text.specs.Modules.{IsFileScope, IsOfFile}
use Rattle.ooo_sound_text.specs.Right.{AreRight}
use Rattle.ooo_sound_text.specs.Files.{IsReadAt, ModulesAreRead}
use Rattle.ooo_sound_text.proofs.Notes.{first_right, then_right, not_so}
use Rattle.ooo_sound_text.proofs.Scopes.{Means, means_named, size_named}

-- what is known of a file's declarations: the crate that declares its type lets no other name it
abbrev type_of : {A : Type 0} → A → Type 0
type_of {A = A} x = A

abbrev pub File : Type 0
File = type_of at_first

-- ---- one name more

-- what is a name of a file is one where the file has a name more
of_later : (n : ℕ) (d : Denotation) (t : Thing) → IsOfFile n d t → IsOfFile (suc n) d t
of_later n d (thing.Module params) h = omega (arith, h)
of_later n d (thing.FileConstant k) h = tt
of_later n d thing.Nothing h = tt
of_later n d _ h = absurd h

-- a file's scope that has grown by one name
record Grown (s after : Scope) : Type 0 where
  pub size : size_of after ≡ suc (size_of s)
  pub names : IsFileScope after

grown : (t : Thing) (w : Word) (s : Scope) → IsOfFile (suc (size_of s)) (denotation_of 0 t s) t →
    AreRight (name_of 0 t w s).notes → IsFileScope s → Grown s (name_of 0 t w s).scope
grown t w s new right names =
    let d = denotation_of 0 t s in
    let size : size_of (with_name w d s) ≡ suc (size_of s) =
    size_named w d s (not_so (is_declared_here s w.name) what.DeclaredTwice w.position right) in record {
      size = size;
      names = subst (λ n. Means (λ e. IsOfFile n e e.thing) (with_name w d s)) (sym size)
          (means_named (λ e. IsOfFile (suc (size_of s)) e e.thing) w d s new
          (λ name. of_later (size_of s) (meaning_of s name) (meaning_of s name).thing (names name)));
    }

constant_grown : (c : Constant) (file : File) → AreRight (constant_item_of c file).notes → IsFileScope file.scope →
    Grown file.scope (constant_item_of c file).behind.scope
constant_grown c file right names =
    let t = thing.FileConstant (kind_written c.form.form) in
    let name = name_of 0 t c.name file.scope in
    grown t c.name file.scope tt (then_right (constant_named name.tree c file.scope).notes name.notes right) names

module_grown : (m : Module) (file : File) → AreRight (module_item_of m file).notes → IsFileScope file.scope →
    Grown file.scope (module_item_of m file).behind.scope
module_grown m file right names =
    let t = thing.Module (params_count m.members) in
    let name = name_of 0 t m.name file.scope in
    let m' = module_of file.modules name.tree m file.scope in
    grown t m.name file.scope (omega arith) (then_right m'.notes name.notes right) names

-- ---- places

-- from a place on a list has these items
abbrev StandsAt : ℕ → (whole xs : List CheckedUnitItem) → Type 0
StandsAt place whole xs = (i : ℕ) → slice_get whole (place + i) ≡ slice_get xs i

-- what a view is where a text has no breaches
abbrev IsViewed : ℕ → Viewed → Type 0
IsViewed n v = (v ≡ empty_view) ⊎ IsReadAt n v

module _ (whole : List CheckedUnitItem) where
  stands_first : (place : ℕ) (x : CheckedUnitItem) (xs : List CheckedUnitItem) → StandsAt place whole (x ∷ xs) →
      slice_get whole place ≡ Some x
  stands_first place x xs at =
      let same : place ≡ place + 0 = omega arith in
      ap (slice_get whole) same ∙ at 0

  stands_next : (place : ℕ) (x : CheckedUnitItem) (xs : List CheckedUnitItem) → StandsAt place whole (x ∷ xs) →
      StandsAt (place + 1) whole xs
  stands_next place x xs at i =
      let same : place + 1 + i ≡ place + suc i = omega arith in
      ap (slice_get whole) same ∙ at (suc i)

  -- ---- the declarations of a file

  reads : (xs : List UnitItem) (file : File) (place : ℕ) → AreRight (items_of xs file).notes → IsFileScope file.scope →
      StandsAt place whole (items_of xs file).tree → (j : ℕ) →
      IsViewed (size_of file.scope + j) (view_planned whole (slice_get (plans_from place (items_of xs file).tree) j))
  reads [] file place right names at j = inl refl
  reads (item.Using library ∷ xs) file place right names at j =
      reads xs file (place + 1) right names (stands_next place (checked.Using library) (items_of xs file).tree at) j
  reads (item.Constant c ∷ xs) file place right names at zero =
      let c' = constant_item_of c file in
      inl (ap (λ o. view_by (members_in o) (plan_of place []))
      (stands_first place (checked.Constant c'.tree) (items_of xs c'.behind).tree at))
  reads (item.Constant c ∷ xs) file place right names at (suc j) =
      let c' = constant_item_of c file in
      let others = items_of xs c'.behind in
      let more = constant_grown c file (first_right c'.notes others.notes right) names in
      let same : size_of c'.behind.scope + j ≡ size_of file.scope + suc j = omega (arith, more.size) in
      subst (λ n. IsViewed n (view_planned whole (slice_get (plans_from (place + 1) others.tree) j))) same
      (reads xs c'.behind (place + 1) (then_right c'.notes others.notes right) more.names
      (stands_next place (checked.Constant c'.tree) others.tree at) j)
  reads (item.Module m ∷ xs) file place right names at zero =
      let m' = module_item_of m file in
      let others = items_of xs m'.behind in
      let name = name_of 0 (thing.Module (params_count m.members)) m.name file.scope in inr (record {
        file = file.scope;
        size = omega arith;
        names = names;
        m = m;
        members = m'.tree.members;
        read = record {
          modules = file.modules;
          name = name.tree;
          is = refl;
          right = first_right (module_of file.modules name.tree m file.scope).notes name.notes
              (first_right m'.notes others.notes right);
        };
        is = sym (ap (λ o. view_by (members_in o) (plan_of place m'.tree.members))
            (stands_first place (checked.Module m'.tree) others.tree at));
      })
  reads (item.Module m ∷ xs) file place right names at (suc j) =
      let m' = module_item_of m file in
      let others = items_of xs m'.behind in
      let more = module_grown m file (first_right m'.notes others.notes right) names in
      let same : size_of m'.behind.scope + j ≡ size_of file.scope + suc j = omega (arith, more.size) in
      subst (λ n. IsViewed n (view_planned whole (slice_get (plans_from (place + 1) others.tree) j))) same
      (reads xs m'.behind (place + 1) (then_right m'.notes others.notes right) more.names
      (stands_next place (checked.Module m'.tree) others.tree at) j)

-- behind declarations the file has as many names more as there are plans of them
pub record Counted (file after : Scope) (plans : ℕ) : Type 0 where
  pub size : size_of after ≡ size_of file + plans
  pub names : IsFileScope after

-- a name more before
one_more : (file next after : Scope) (plans : ℕ) → Grown file next → Counted next after plans → Counted file after (suc plans)
one_more file next after plans first others = record {
  size = omega (arith, first.size, others.size);
  names = others.names;
}

pub counted : (xs : List UnitItem) (file : File) (place : ℕ) → AreRight (items_of xs file).notes → IsFileScope file.scope →
    Counted file.scope (items_of xs file).behind.scope (length (plans_from place (items_of xs file).tree))
counted [] file place right names = record { size = omega arith; names = names }
counted (item.Using library ∷ xs) file place right names = counted xs file (place + 1) right names
counted (item.Constant c ∷ xs) file place right names =
    let c' = constant_item_of c file in
    let others = items_of xs c'.behind in
    let more = constant_grown c file (first_right c'.notes others.notes right) names in
    one_more file.scope c'.behind.scope others.behind.scope (length (plans_from (place + 1) others.tree)) more
    (counted xs c'.behind (place + 1) (then_right c'.notes others.notes right) more.names)
counted (item.Module m ∷ xs) file place right names =
    let m' = module_item_of m file in
    let others = items_of xs m'.behind in
    let more = module_grown m file (first_right m'.notes others.notes right) names in
    one_more file.scope m'.behind.scope others.behind.scope (length (plans_from (place + 1) others.tree)) more
    (counted xs m'.behind (place + 1) (then_right m'.notes others.notes right) more.names)

-- ---- texts

-- at first the file has no names
pub no_names : IsFileScope (entered [])
no_names name = tt

pub modules_are_read : ModulesAreRead
modules_are_read t right n =
    let items = items_of t.items at_first in
    let same : 0 + n ≡ n = omega arith in
    subst (λ k. IsViewed k (view_planned items.tree (slice_get (plans_from 0 items.tree) n))) same
    (reads items.tree t.items at_first 0 (first_right items.notes (main_of t.main items.behind).notes right) no_names
    (λ i. let first : 0 + i ≡ i = omega arith in ap (slice_get items.tree) first) n)
