-- What is elaborated is the tree that was given.
use Rattle.std.proofs.Common.{◌≡◌, ◌∙◌, ap, subst}
use Rattle.std.specs.Prelude.{Result}
use Rattle.ooo_syntax.specs.declared.unit.Unit.{Unit as UnitSpec}
use Rattle.ooo_checked.specs.declared.unit.CheckedUnit.{CheckedUnit}
use Rattle.ooo_types.specs.Units.{unit_of}
use Rattle.ooo_bound.specs.declared.model.Bound.{Bound}
use Rattle.ooo_walk.specs.declared.refusal.ElabError.{ElabError}
use Rattle.ooo_elaborate.specs.Elaborated.{bound_of, IsAnswerTo as IsElaboration}
use Rattle.ooo_front.specs.Layers.{elaborated}

-- what is right is the tree that was given, so its elaboration is that tree's
pub elaboration_of : (tree checked : UnitSpec) (unit : CheckedUnit) (r : Result Bound ElabError) → checked ≡ tree → unit ≡ (unit_of checked).tree → IsElaboration (bound_of unit) r → IsElaboration (elaborated tree) r
elaboration_of tree checked unit r same lent is =
    subst (λ u. IsElaboration (bound_of u) r) (lent ∙ ap (λ (t : UnitSpec). (unit_of t).tree) same) is
