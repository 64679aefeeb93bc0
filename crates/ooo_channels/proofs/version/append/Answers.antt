use Rattle.std.proofs.Common.{[], ◌∷◌, ◌++◌, List, append_assoc, sym, subst}
use Rattle.ooo_time.specs.Stamps.{IsBefore}
use Rattle.ooo_channels.specs.declared.version.Version.{Version}
use Rattle.ooo_channels.specs.Versions.{StartsBy, AreVersionsOf, AreVersionsSince}
use Rattle.ooo_channels.proofs.Versions.{starts_append, versions_rest}
use Rattle.ooo_channels.proofs.version.append.Goals as goal

pub returns-then-is_before-clause-since : goal.returns-then-is_before-clause-since
returns-then-is_before-clause-since c = λ was next now start each.
    let had = c.args.versions.now.items in
    let pushed = c.push_back_reserved.ensures.items in
    record {
      start = starts_append c.args.below c.drop_before.new.versions.items (next ∷ []) (c.drop_before.ensures.start (subst (StartsBy c.args.below) (sym pushed) start));
      each = c.drop_before.ensures.left was (next ∷ [])
          (subst (λ (vs : List Version). AreVersionsOf was (vs ++ next ∷ [])) (sym pushed)
          (subst (AreVersionsOf was) (sym (append_assoc had (c.args.left ∷ []) (next ∷ []))) each));
    }

pub returns-else-is_before-clause-since : goal.returns-else-is_before-clause-since
returns-else-is_before-clause-since c = λ was next now start each.
    let had = c.args.versions.now.items in
    subst (λ (vs : List Version). AreVersionsSince c.args.below was (vs ++ next ∷ [])) (sym c.clear.ensures.items)
    (record {
      start = subst (λ s. ¬ IsBefore c.args.below s) (sym now) (λ h. absurd (cc (c.if-is_before.ensures.1 h)));
      each = versions_rest was (had ++ c.args.left ∷ []) (next ∷ []) (subst (AreVersionsOf was) (sym (append_assoc had (c.args.left ∷ []) (next ∷ []))) each);
    })
