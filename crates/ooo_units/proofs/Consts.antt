-- What several fields after `const` are.
use Rattle.std.proofs.Common.{◌≡◌, true, List, [], ◌∷◌, ◌++◌, refl}
use Rattle.ooo_syntax.specs.declared.leaves.TypeName.{TypeName}
use Rattle.ooo_syntax.specs.declared.module.Field.{Field}
use Rattle.ooo_grammar.specs.Members.{const_member, fields_of}

pub several : (t : TypeName) (xs : List Field) (x : Field) → (xs ≡ [] → ⊥) → const_member t (xs ++ x ∷ []) ≡ fields_of true t (xs ++ x ∷ [])
several t [] x h = absurd (h refl)
several t (y ∷ []) x h = refl
several t (y ∷ z ∷ zs) x h = refl
