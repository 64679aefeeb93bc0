-- Where the functions of a scope are among these, they still are once one of them or another thing is declared.
use Rattle.std.proofs.Common.{◌≡◌, refl, ℕ, List, [], ◌∷◌, drop, true, false, Some, None}
use Rattle.std.specs.Prelude.{if◌then◌else◌}
use Rattle.std.specs.Option.{unwrap_or}
use Rattle.std.specs.Str.{bytes_eq}
use Rattle.ooo_checked.specs.declared.denotation.Denotation.{Denotation}
use Rattle.ooo_checked.specs.Scopes.{Scope, declared, found_in, meaning_of, unknown}
use Rattle.ooo_sound_text.specs.Calls.{IsAmong, FunctionsAreAmong}

pub declared_among : (functions : List ℕ) (s : Scope) (name : List ℕ) (d : Denotation) → IsAmong functions d d.thing →
    FunctionsAreAmong functions s → FunctionsAreAmong functions (declared s name d)
declared_among functions [] name d m a x =
    elim (bytes_eq x name)
    as (λ t. let e : Denotation = unwrap_or (if t then Some d else None) unknown in IsAmong functions e e.thing)
    [ true ↦ m | false ↦ tt ]
declared_among functions (block ∷ outer) name d m a x =
    elim (bytes_eq x name)
    as (λ t.
    let e : Denotation = unwrap_or (if t then Some d else found_in block x) (meaning_of outer x) in IsAmong functions e e.thing)
    [ true ↦ m | false ↦ a x ]

-- the outer blocks stay as they are
pub declared_outer : (s : Scope) (name : List ℕ) (d : Denotation) → drop 1 (declared s name d) ≡ drop 1 s
declared_outer [] name d = refl
declared_outer (block ∷ outer) name d = refl
