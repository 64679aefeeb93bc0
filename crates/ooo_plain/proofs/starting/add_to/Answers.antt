use Rattle.std.proofs.Common.{sym, ◌∙◌, ap, set, map, ◌++◌, ◌∷◌, []}
use Rattle.std.proofs.lemmas.List.{get_or-map, map-set}
use Rattle.ooo_plain.proofs.starting.add_to.Goals as goal

pub returns : goal.returns
returns c =
    map-set (λ v. v.items) c.args.lists.now.items c.args.c c.push.new.self
    ∙ ap (set (map (λ v. v.items) c.args.lists.now.items) c.args.c) (c.in_ok-push.ensures.items
    ∙ ap (λ xs. xs ++ c.args.e ∷ []) (ap (λ v. v.items) c.index_mut.ensures.value ∙ sym (get_or-map (λ v. v.items) c.args.lists.now.items c.args.c c.index_mut.result.now [] c.requires)))
