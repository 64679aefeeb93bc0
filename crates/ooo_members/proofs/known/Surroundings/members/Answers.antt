use Rattle.std.proofs.Common.{◌≡◌, ◌∙◌, ap, ◌++◌, List, reverse, refl}
use Rattle.std.proofs.lemmas.List.{reverse-reverse}
use Rattle.ooo_syntax.specs.declared.module.Member.{Member}
use Rattle.ooo_checked.specs.declared.module.CheckedMember.{CheckedMember}
use Rattle.ooo_checked.specs.Scopes.{Scope}
use Rattle.ooo_bodies.specs.Noting.{noted}
use Rattle.ooo_members.specs.declared.known.Sofar.{Sofar}
use Rattle.ooo_members.specs.Members.{functions_in, functions_of, member_of, members_of}
use Rattle.ooo_members.specs.Turns.{Turn, taken_trees, taken_behind, taken_notes}
use Rattle.ooo_members.proofs.FunctionLists.{functions_step}
use Rattle.ooo_members.proofs.known.Surroundings.members.Goals as goal

pub parts-init : goal.parts-init
parts-init c =
    let xs : List Member = c.args.members in
    let s : Scope = c.args.scopes.now in
    let whole : List Member → Turn Sofar (List CheckedMember) =
    λ ms. members_of c.args.self.modules.now c.args.self.module_name.now c.args.self.initialised.now s ms c.args.sofar.now in
    let same : reverse c.in_ok-rest.rest ≡ xs = ap reverse c.in_ok-rest.ensures ∙ reverse-reverse xs in record {
      trees = rw (c.new-all.ensures) (ap (λ ms. (whole ms).tree) same);
      behind = ap (λ ms. (whole ms).behind) same;
      notes = ap (λ ms. noted c.args.notes.now (whole ms).notes) same;
      scope = refl;
      functions = ap (λ ms. c.args.functions.now ++ functions_of ms s) same;
    }

pub parts-preserved : goal.parts-preserved
parts-preserved c =
    let xs : List Member = c.args.members in
    let s : Scope = c.args.scopes.now in
    let in_scope : Scope → Member → Sofar → Turn Sofar CheckedMember =
    λ s m before. member_of c.args.self.modules.now c.args.self.module_name.now c.args.self.initialised.now s m before in
    let f : Member → Sofar → Turn Sofar CheckedMember = in_scope s in
    let whole : Turn Sofar (List CheckedMember) =
    members_of c.args.self.modules.now c.args.self.module_name.now c.args.self.initialised.now s xs c.args.sofar.now in
    let same : c.parts.scopes ≡ s = c.parts.invariant.scope in
    let tree : c.in-Ok.made ≡ (f c.in-Some.e c.parts.sofar).tree =
    c.in-Ok.ensures.tree ∙ ap (λ u. (in_scope u c.in-Some.e c.parts.sofar).tree) same in
    let behind : c.taken.new.sofar ≡ (f c.in-Some.e c.parts.sofar).behind =
    c.in-Ok.ensures.behind ∙ ap (λ u. (in_scope u c.in-Some.e c.parts.sofar).behind) same in
    let notes : c.taken.new.notes ≡ noted c.parts.notes (f c.in-Some.e c.parts.sofar).notes =
    c.in-Ok.ensures.notes ∙ ap (λ u. noted c.parts.notes (in_scope u c.in-Some.e c.parts.sofar).notes) same in
    let functions : c.taken.new.functions ≡ c.parts.functions ++ functions_in c.in-Some.e s =
    c.in-Ok.ensures.functions ∙ ap (λ u. c.parts.functions ++ functions_in c.in-Some.e u) same in record {
      trees = taken_trees f c.parts.all c.push.new.self c.parts.rest c.pop.new.self c.in-Some.e c.in-Ok.made
          c.parts.sofar c.taken.new.sofar whole.tree c.in-Some.ensures tree behind c.in-Ok-push.ensures.ok
          c.parts.invariant.trees;
      behind = taken_behind f c.parts.rest c.pop.new.self c.in-Some.e c.parts.sofar c.taken.new.sofar whole.behind
          c.in-Some.ensures behind c.parts.invariant.behind;
      notes = taken_notes f c.parts.notes c.taken.new.notes (noted c.args.notes.now whole.notes) c.parts.rest
          c.pop.new.self c.in-Some.e c.parts.sofar c.taken.new.sofar c.in-Some.ensures behind notes c.parts.invariant.notes;
      scope = c.in-Ok.ensures.scope ∙ same;
      functions = functions_step s c.parts.functions c.taken.new.functions (c.args.functions.now ++ functions_of xs s)
          c.parts.rest c.pop.new.self c.in-Some.e c.in-Some.ensures functions c.parts.invariant.functions;
    }
