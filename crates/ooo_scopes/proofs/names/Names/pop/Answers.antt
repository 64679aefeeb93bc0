use Rattle.std.specs.Prelude.{◌≡◌, ℕ, ◌-◌, List, take, drop, length, Some, None, IsSome}
use Rattle.std.proofs.Common.{sym, ◌∙◌, ap, subst}
use Rattle.ooo_scopes.specs.Places.{place_of}
use Rattle.ooo_scopes.specs.declared.names.Names.TheInside.{Inside}
use Rattle.ooo_scopes.specs.Names.{IsExact}
use Rattle.ooo_scopes.proofs.Bindings.{latest_is_known, kept_popped, rest_of}
use Rattle.ooo_scopes.proofs.names.Names.pop.Goals as goal
use Rattle.ooo_scopes.proofs.names.Names.pop.Goals.{in-Some-hides, in-None}

pub replace-requires : goal.replace-requires
replace-requires c =
    let a = c.self.inside in
    let known = latest_is_known a.places a.text.items a.declared.items c.pop.new.self.items c.in-Some.latest c.self.invariant c.in-Some.ensures.items in
    subst (λ (l : List ℕ). IsSome (place_of a.places l)) (sym (rest_of a.text.items c.deref.result.now c.in-Some.latest.from c.deref.ensures.value)) known

pub invariant_of-self : goal.invariant_of-self
invariant_of-self c =
    let a = c.self.inside in
    let b = c.match-latest.self-inside in
    let latest = c.in-Some.latest in
    let r = c.deref.result.now in
    let name : List ℕ = take (length r - latest.from) (drop latest.from r) in
    let is : name ≡ drop latest.from a.text.items = rest_of a.text.items r latest.from c.deref.ensures.value in
    let step : IsExact b.places (take latest.from a.text.items) b.declared.items =
    elim c.match-latest.branch [
      | in-Some-hides w ↦
          subst (λ (x : Inside). IsExact x.places (take latest.from a.text.items) x.declared.items) (sym w.self-inside-is)
          (kept_popped a.places w.replace.new.places a.text.items name a.declared.items c.pop.new.self.items latest (Some w.in-Some-hides.place) c.self.invariant c.in-Some.ensures.items is w.in-Some-hides.is w.replace.ensures)
      | in-None w ↦
          subst (λ (x : Inside). IsExact x.places (take latest.from a.text.items) x.declared.items) (sym w.self-inside-is)
          (kept_popped a.places w.remove.new.places a.text.items name a.declared.items c.pop.new.self.items latest None c.self.invariant c.in-Some.ensures.items is w.in-None.is w.remove.ensures)
    ]
    in
    let same : b.text.items ≡ a.text.items =
    elim c.match-latest.branch [ in-Some-hides w ↦ ap (λ (x : Inside). x.text.items) w.self-inside-is | in-None w ↦ ap (λ (x : Inside). x.text.items) w.self-inside-is ]
    in
    let whole : IsExact b.places c.truncate.new.self.items b.declared.items =
    subst (λ (t : List ℕ). IsExact b.places t b.declared.items) (sym (c.truncate.ensures.items ∙ ap (take latest.from) same)) step
    in
    whole
