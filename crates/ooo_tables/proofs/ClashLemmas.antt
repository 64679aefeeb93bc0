-- Segments have one table of clashes.
use Rattle.std.proofs.Common.{◌≡◌, List, length, refl, true, false}
use Rattle.std.proofs.lemmas.Bool.{false≢true}
use Rattle.ooo_lemmas.proofs.Placed.{inside}
use Rattle.ooo_value.specs.declared.bound.BoundEvent.{BoundEvent}
use Rattle.ooo_access.specs.declared.access.Access.{Access}
use Rattle.ooo_conflicts.specs.declared.kind.ClashKind.{ClashKind}
use Rattle.ooo_conflicts.specs.declared.kind.ClashKind.TheVariants.{Apart, Earlier, Same}
use Rattle.ooo_conflicts.specs.Kinds.{IsKindOf, IsTable, kind_at}
use Rattle.ooo_tables.specs.Tables.{HaveCount}
use Rattle.ooo_tables.proofs.RowLemmas.{same_rows}

-- two segments clash in one way
same_kind : (events : List BoundEvent) (x y : Access) (j k : ClashKind) → IsKindOf events x y j → IsKindOf events x y k → j ≡ k
same_kind events x y Apart Apart a b = refl
same_kind events x y Apart Earlier a b = absurd (false≢true ((a true).1 ((b true).0 refl)))
same_kind events x y Apart Same a b = absurd (false≢true ((a true).1 ((b true).0 refl)))
same_kind events x y Earlier Apart a b = absurd (false≢true ((b true).1 ((a true).0 refl)))
same_kind events x y Earlier Earlier a b = refl
same_kind events x y Earlier Same a b = absurd (false≢true ((a false).1 ((b false).0 refl)))
same_kind events x y Same Apart a b = absurd (false≢true ((b true).1 ((a true).0 refl)))
same_kind events x y Same Earlier a b = absurd (false≢true ((b false).1 ((a false).0 refl)))
same_kind events x y Same Same a b = refl

pub same_clashes : (events : List BoundEvent) (access : List Access) (rows others : List (List ClashKind)) → IsTable events access rows → HaveCount (length access) rows → IsTable events access others → HaveCount (length access) others → rows ≡ others
same_clashes events access rows others a wide b wide' =
    same_rows (length access) Apart rows others a.count b.count wide wide'
    (λ x y lt lt'.
    let first = inside access x lt in
    let second = inside access y lt' in
    same_kind events first.0 second.0 (kind_at rows x y) (kind_at others x y) (a.kinds x y first.0 second.0 first.1 second.1) (b.kinds x y first.0 second.0 first.1 second.1))
