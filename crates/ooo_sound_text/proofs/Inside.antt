-- The scopes of a module's parts.
use Rattle.std.proofs.Common.{◌≡◌, refl, ℕ, List, [], ◌∷◌, Bool, true, false, Option, Some, None, ◌⊎◌, inl, inr}
use Rattle.std.specs.Prelude.{if◌then◌else◌}
use Rattle.std.specs.Option.{unwrap_or}
use Rattle.std.specs.Str.{bytes_eq}
use Rattle.ooo_syntax.specs.declared.leaves.Word.{Word}
use Rattle.ooo_syntax.specs.declared.module.Param.{Param}
use Rattle.ooo_checked.specs.declared.denotation.Denotation.{Denotation}
use Rattle.ooo_checked.specs.declared.denotation.Thing.{Thing}
use Rattle.ooo_checked.specs.declared.denotation.Thing.TheVariants as thing
use Rattle.ooo_checked.specs.Exprs.{kind_written}
use Rattle.ooo_checked.specs.Scopes.{Scope, declared, entered, found_in, is_declared_here, meaning_of, size_of, unknown}
use Rattle.ooo_members.specs.Bodies.{param_of, params_of}
use Rattle.ooo_members.specs.Constructors.{head_of}
use Rattle.ooo_members.specs.Declarations.{denotation_of, name_of}
use Rattle.ooo_sound_text.specs.Modules.{IsInside, IsOwn}
use Rattle.ooo_sound_text.specs.Parts.{BodiesAreInside}

-- a name means this in the module, or is the part's own
abbrev Fits : (meant whole : Denotation) → Type 0
Fits meant whole = (meant ≡ whole) ⊎ IsOwn meant.thing

-- what is found first is the part's own
own_first : (b : Bool) (d : Denotation) (found : Option Denotation) (outside whole : Denotation) → IsOwn d.thing →
    Fits (unwrap_or found outside) whole → Fits (unwrap_or (if b then Some d else found) outside) whole
own_first true d found outside whole own h = inr own
own_first false d found outside whole own h = h

-- one name more that is the part's own
declared_inside : (s whole : Scope) (name : List ℕ) (d : Denotation) → IsOwn d.thing → IsInside s whole →
    IsInside (declared s name d) whole
declared_inside [] whole name d own h other =
    own_first (bytes_eq other name) d None unknown (meaning_of whole other) own (h other)
declared_inside (block ∷ outer) whole name d own h other =
    own_first (bytes_eq other name) d (found_in block other) (meaning_of outer other) (meaning_of whole other) own (h other)

by_cases : (b : Bool) (s t whole : Scope) → IsInside s whole → IsInside t whole → IsInside (if b then s else t) whole
by_cases true s t whole h g = h
by_cases false s t whole h g = g

pub name_inside : (outside : ℕ) (t : Thing) (w : Word) (s whole : Scope) → IsOwn t → IsInside s whole →
    IsInside (name_of outside t w s).scope whole
name_inside outside t w s whole own h =
    let d = denotation_of outside t s in
    by_cases (is_declared_here s w.name) s (declared s w.name d) whole h (declared_inside s whole w.name d own h)

-- parameters are
pub params_inside : (outside : ℕ) (ps : List Param) (s whole : Scope) → IsInside s whole →
    IsInside (params_of outside ps s).scope whole
params_inside outside [] s whole h = h
params_inside outside (p ∷ ps) s whole h =
    params_inside outside ps (param_of outside p s).scope whole
    (name_inside outside (thing.Parameter (kind_written p.form.form)) p.name s whole tt h)

-- a block within
pub block_inside : (s whole : Scope) → IsInside s whole → IsInside (entered s) whole
block_inside s whole h name = h name

-- each scope is inside itself
pub itself : (s : Scope) → IsInside s s
itself s name = inl refl

-- the parameters of a constructor
pub head_inside : (own_name : Word) (params : List Param) (s : Scope) → IsInside (head_of own_name params s).scope s
head_inside own_name params s =
    let first = name_of (size_of s) thing.ModuleName own_name (entered s) in
    params_inside (size_of s) params first.scope s
    (name_inside (size_of s) thing.ModuleName own_name (entered s) s tt (block_inside s s (itself s)))

pub bodies_are_inside : BodiesAreInside
bodies_are_inside f s =
    let params = params_of (size_of s) f.params (entered s) in
    block_inside params.scope s (params_inside (size_of s) f.params (entered s) s (block_inside s s (itself s)))
