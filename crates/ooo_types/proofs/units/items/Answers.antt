use Rattle.std.proofs.Common.{◌≡◌, ◌∙◌, ap, List, reverse}
use Rattle.std.proofs.lemmas.List.{reverse-reverse}
use Rattle.ooo_syntax.specs.declared.unit.UnitItem.{UnitItem}
use Rattle.ooo_checked.specs.declared.unit.CheckedUnitItem.{CheckedUnitItem}
use Rattle.ooo_bodies.specs.Noting.{noted}
use Rattle.ooo_members.specs.Turns.{Turn, taken_trees, taken_behind, taken_notes}
use Rattle.ooo_types.specs.declared.units.File.{File}
use Rattle.ooo_types.specs.Units.{item_of, items_of}
use Rattle.ooo_types.proofs.units.items.Goals as goal

pub parts-init : goal.parts-init
parts-init c =
    let xs : List UnitItem = c.args.items in
    let same : reverse c.in-Ok.made ≡ xs = ap reverse c.in-Ok.ensures ∙ reverse-reverse xs in record {
      trees = rw (c.new-all.ensures) (ap (λ ys. (items_of ys c.args.file.now).tree) same);
      behind = ap (λ ys. (items_of ys c.args.file.now).behind) same;
      notes = ap (λ ys. noted c.args.notes.now (items_of ys c.args.file.now).notes) same;
    }

pub parts-preserved : goal.parts-preserved
parts-preserved c =
    let whole : Turn File (List CheckedUnitItem) = items_of c.args.items c.args.file.now in record {
      trees = taken_trees item_of c.parts.all c.push.new.self c.parts.rest c.pop.new.self c.in-Some.e c.in-Ok-item.made
          c.parts.file c.item.new.file whole.tree c.in-Some.ensures c.in-Ok-item.ensures.tree
          c.in-Ok-item.ensures.behind c.in-Ok-push.ensures.ok c.parts.invariant.trees;
      behind = taken_behind item_of c.parts.rest c.pop.new.self c.in-Some.e c.parts.file c.item.new.file whole.behind
          c.in-Some.ensures c.in-Ok-item.ensures.behind c.parts.invariant.behind;
      notes = taken_notes item_of c.parts.notes c.item.new.notes (noted c.args.notes.now whole.notes) c.parts.rest
          c.pop.new.self c.in-Some.e c.parts.file c.item.new.file c.in-Some.ensures
          c.in-Ok-item.ensures.behind c.in-Ok-item.ensures.notes c.parts.invariant.notes;
    }
