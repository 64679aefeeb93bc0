-- The calls that stay in their groups are those on cycles.
use Rattle.std.proofs.Common.{◌≡◌, ◌==◌, ◌∙◌, map}
use Rattle.std.proofs.lemmas.Result.{IfOk-weaker}
use Rattle.ooo_calls.specs.Cycles.{is_on_cycle}
use Rattle.ooo_calls.specs.Claims.{group_of}
use Rattle.ooo_calls.proofs.ClaimLemmas.{stays_are_on_cycle}
use Rattle.ooo_calls.proofs.claim.Claim.calls_on_cycle.Goals as goal

pub returns : goal.returns
returns c =
    let claim = c.args.self.now in
    let calls = c.args.calls.now in
    IfOk-weaker _ (λ v. v.items ≡ map (λ x. group_of claim x.from == group_of claim x.to) calls) (λ v. v.items ≡ map (is_on_cycle calls) calls) (λ v e. e ∙ stays_are_on_cycle claim calls c.requires) c.stays_in_groups.ensures
