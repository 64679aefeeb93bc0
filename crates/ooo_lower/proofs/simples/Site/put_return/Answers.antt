use Rattle.std.proofs.Common.{[], ◌∷◌, refl, subst}
use Rattle.std.proofs.lemmas.Result.{on_ok_weaker}
use Rattle.ooo_lower.specs.Codes.{Puts}
use Rattle.ooo_lower.proofs.Emitted.{emits_plain}
use Rattle.ooo_shapes.specs.Simples.{counted}
use Rattle.ooo_lower.proofs.simples.Site.put_return.Goals as goal

pub returns : goal.returns
returns c =
    let s = c.args.self.spot in
    on_ok_weaker c.put_counted.result (λ p. emits_plain 1 _ s.around s.next _ _ refl (subst (λ k. Puts (counted k c.args.line s.around.return_to ∷ []) c.args.code.now c.put_counted.new.self) c.in-Ok.ensures p)) c.put_counted.ensures
