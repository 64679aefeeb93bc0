use Rattle.std.proofs.Common.{◌∙◌, ap}
use Rattle.ooo_erasure.specs.Units.{erased_unit}
use Rattle.ooo_types.proofs.Least.{told_of}
use Rattle.ooo_types.proofs.checked.check.Goals as goal

pub returns-in-Some : goal.returns-in-Some
returns-in-Some c =
    told_of c.args.text c.new-notes.result c.unit.new.notes _ c.new-notes.ensures c.in_ok-tree.ensures.notes c.in-Some.is

pub returns : goal.returns
returns c = (
  ap erased_unit c.in_ok-tree.ensures.tree ∙ c.texts.ensures c.args.text,
  told_of c.args.text c.new-notes.result c.unit.new.notes _ c.new-notes.ensures c.in_ok-tree.ensures.notes c.in-None.is,
)
