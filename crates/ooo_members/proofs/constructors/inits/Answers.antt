use Rattle.std.proofs.Common.{◌≡◌, ◌∙◌, ap, ◌+◌, List, get_or, slice_get}
use Rattle.std.proofs.lemmas.Option.{slice_get-get_or}
use Rattle.std.specs.Option.{unwrap_or}
use Rattle.ooo_syntax.specs.declared.module.Init.{Init}
use Rattle.ooo_checked.specs.declared.denotation.Denotation.{Denotation}
use Rattle.ooo_checked.specs.Notes.{all_notes, trees}
use Rattle.ooo_checked.specs.Scopes.{unknown}
use Rattle.ooo_bodies.specs.Noting.{noted}
use Rattle.ooo_members.specs.Constructors.{inits_with}
use Rattle.ooo_members.proofs.Zipped.{zipped_trees, zipped_notes}
use Rattle.ooo_members.proofs.constructors.inits.Goals as goal

pub parts-preserved : goal.parts-preserved
parts-preserved c =
    let xs : List Init = c.as_slice-e-items.result.now in
    let ds : List Denotation = c.args.denotations.now in
    let d : Denotation = c.meant-denotes.result in
    let denotes : d ≡ get_or ds c.parts.e-index d =
    c.meant-denotes.ensures ∙ ap (λ n. unwrap_or (slice_get ds n) unknown) c.parts.invariant.place
    ∙ ap (λ o. unwrap_or o unknown) (slice_get-get_or ds c.parts.e-index d (rw c.parts.invariant.long c.parts-test.true)) in record {
      trees = zipped_trees c.args.modules.now c.args.scopes.now ds xs c.parts.e-index d c.e-item.result c.parts-test.true
          c.parts.invariant.long c.e-item.is denotes c.parts.all c.push.new.self
          (trees (inits_with c.args.modules.now ds xs c.args.scopes.now)) c.in-Ok.made c.in-Ok.ensures.tree
          c.in-Ok-push.ensures.ok c.parts.invariant.trees;
      notes = zipped_notes c.args.modules.now c.args.scopes.now ds xs c.parts.e-index d c.e-item.result c.parts-test.true
          c.parts.invariant.long c.e-item.is denotes c.parts.notes c.init.new.notes
          (noted c.args.notes.now (all_notes (inits_with c.args.modules.now ds xs c.args.scopes.now)))
          c.in-Ok.ensures.notes c.parts.invariant.notes;
      place = ap (λ n. n + 1) c.parts.invariant.place;
      long = c.parts.invariant.long;
    }
