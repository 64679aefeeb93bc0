-- What the names of a scope mean, and how many there are, once there is one name more.
use Rattle.std.proofs.Common.{◌≡◌, ◌∙◌, ap, arith, ℕ, suc, List, [], ◌∷◌, Bool, true, false, Some}
use Rattle.std.specs.Prelude.{if◌then◌else◌}
use Rattle.std.specs.Option.{unwrap_or}
use Rattle.std.specs.Str.{bytes_eq}
use Rattle.ooo_syntax.specs.declared.leaves.Word.{Word}
use Rattle.ooo_checked.specs.declared.denotation.Denotation.{Denotation}
use Rattle.ooo_checked.specs.Scopes.{Scope, declared, found_in, is_declared_here, meaning_of, size_of, unknown}
use Rattle.ooo_members.specs.Declarations.{with_name}

-- of what each name denotes something holds
abbrev pub Means : (Denotation → Type 0) → Scope → Type 0
Means P s = (name : List ℕ) → P (meaning_of s name)

module _ (P : Denotation → Type 0) where
  means_declared : (s : Scope) (name : List ℕ) (d : Denotation) → P d → Means P s → Means P (declared s name d)
  means_declared [] name d new old w =
      elim (bytes_eq w name) as (λ b. P (unwrap_or (if b then Some d else found_in [] w) unknown)) [ true ↦ new | false ↦ old w ]
  means_declared (block ∷ outer) name d new old w =
      elim (bytes_eq w name) as (λ b. P (unwrap_or (if b then Some d else found_in block w) (meaning_of outer w)))
      [ true ↦ new | false ↦ old w ]

  -- it goes on to hold with a name more of which it holds
  pub means_named : (word : Word) (d : Denotation) (s : Scope) → P d → Means P s → Means P (with_name word d s)
  means_named word d s new old w =
      elim (is_declared_here s word.name) as (λ b. P (meaning_of (if b then s else declared s word.name d) w))
      [ true ↦ old w | false ↦ means_declared s word.name d new old w ]

size_declared : (s : Scope) (name : List ℕ) (d : Denotation) → size_of (declared s name d) ≡ suc (size_of s)
size_declared [] name d = omega arith
size_declared (block ∷ outer) name d = omega arith

-- where the innermost block did not declare the name, there is one more
pub size_named : (word : Word) (d : Denotation) (s : Scope) → is_declared_here s word.name ≡ false →
    size_of (with_name word d s) ≡ suc (size_of s)
size_named word d s new =
    ap (λ (b : Bool). size_of (if b then s else declared s word.name d)) new ∙ size_declared s word.name d
