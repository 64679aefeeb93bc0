use Rattle.std.proofs.Common.{◌∙◌, rules}
use Rattle.ooo_layout.proofs.Measured.{none_known}
use Rattle.ooo_layout.proofs.extents.outlines_of.Goals as goal

pub functions-init : goal.functions-init
functions-init c =
    none_known c.args.model.now _ _ (c.from_vec-outlines.ensures ∙ c.in_ok-unknown.ensures.items_if_clones_equal (λ y h. search rules))
