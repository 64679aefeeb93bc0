-- What is written is what the node writes.
use Rattle.std.proofs.Common.{ap, ◌∙◌}
use Rattle.ooo_interp.specs.declared.doing.Emitted.{Emitted}
use Rattle.ooo_interp.specs.Acting.{doing_of}
use Rattle.ooo_interp.proofs.Written.{requests, sets, stores}
use Rattle.ooo_interp.proofs.plainly.write.Goals as goal
use Rattle.ooo_interp.proofs.plainly.write.Goals.{in-Set, in-Store-default-None-default, in-Write+in_ok-add-in-Write}

pub returns-clause-acts : goal.returns-clause-acts
returns-clause-acts g c = λ e w h. elim c.match-node.branch [
  | in-Set b ↦ sets _ _ _ e c.args.v c.args.node.now.next _ _ _ _ b.in-Set.is w h (ap g.L.Lent.sight b.lent-is ∙ b.set_slot.ensures.sight) b.emitted-is
  | in-Store-default-None-default b ↦ stores _ _ _ _ e c.args.v c.args.node.now.next _ _ _ _ b.in-Store-default-None-default.is w h (ap g.L.Lent.sight b.lent-is ∙ b.set_cell.ensures.sight) b.emitted-is
  | in-Write+in_ok-add-in-Write b ↦ requests _ _ _ e c.args.v c.args.node.now.next _ _ c.args.emitted.now c.match-node.emitted b.in-Write.is w h (ap g.L.Lent.sight b.lent-is) (λ x q. ap (λ (m : Emitted). doing_of x m q) b.emitted-is ∙ b.in_ok-add-in-Write.ensures x q)
]
