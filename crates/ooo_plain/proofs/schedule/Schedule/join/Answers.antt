use Rattle.std.proofs.Common.{refl, sym, ◌∙◌, ap, subst, set, map, ◌++◌, ◌∷◌, []}
use Rattle.std.proofs.lemmas.List.{get_or-map, map-set}
use Rattle.std.specs.Prelude.{Contains}
use Rattle.ooo_plain.proofs.Joining.{joined_push, joined_none}
use Rattle.ooo_plain.proofs.schedule.Schedule.join.Goals as goal

pub returns-in_ok-push : goal.returns-in_ok-push
returns-in_ok-push c = joined_push c.args.self.now _ c.args.e c.args.p c.requires refl
    (map-set (λ v. v.items) c.args.self.now.waiters.items c.args.e c.push.new.self
    ∙ ap (set (map (λ v. v.items) c.args.self.now.waiters.items) c.args.e) (c.in_ok-push.ensures.items
    ∙ ap (λ xs. xs ++ c.args.p ∷ []) (ap (λ v. v.items) c.index_mut.ensures.value ∙ sym (get_or-map (λ v. v.items) c.args.self.now.waiters.items c.args.e c.index_mut.result.now [] c.requires))))

pub returns-else-not-stands_in : goal.returns-else-not-stands_in
returns-else-not-stands_in c = joined_none c.args.self.now c.args.e c.args.p
    (subst (λ xs. Contains xs c.args.p) (c.deref.ensures.value ∙ ap (λ v. v.items) c.index.ensures ∙ sym (get_or-map (λ v. v.items) c.args.self.now.waiters.items c.args.e c.index.result.now [] c.requires)) (c.if-not-stands_in.ensures refl))
