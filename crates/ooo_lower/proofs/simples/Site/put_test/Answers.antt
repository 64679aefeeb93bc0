use Rattle.std.proofs.Common.{[], ◌∷◌, refl, subst}
use Rattle.std.proofs.lemmas.Result.{on_ok_weaker}
use Rattle.ooo_code.specs.declared.node.NodeKind.TheVariants as kind
use Rattle.ooo_lower.specs.Codes.{Puts}
use Rattle.ooo_lower.proofs.Emitted.{emits_plain}
use Rattle.ooo_shapes.specs.Simples.{counted}
use Rattle.ooo_lower.proofs.simples.Site.put_test.Goals as goal

pub returns : goal.returns
returns c =
    let s = c.args.self.spot in
    on_ok_weaker c.put_counted.result (λ p. emits_plain 1 _ s.around s.next _ _ refl (subst (λ v. Puts (counted (kind.Test v c.args.no) s.line c.args.yes ∷ []) c.args.code.now c.put_counted.new.self) c.in-Ok.ensures p)) c.put_counted.ensures
