use Rattle.std.proofs.Common.{◌≡◌, ◌∙◌, List, refl, sym, ap, subst}
use Rattle.std.specs.Prelude.{All}
use Rattle.ooo_code.specs.declared.activation.Frame.{Frame}
use Rattle.ooo_code.specs.declared.design.Design.{Design}
use Rattle.ooo_code.specs.declared.limits.Limits.{Limits}
use Rattle.ooo_code.specs.Outcomes.{Outcome}
use Rattle.ooo_channels.specs.Bank.{IsBankAfter}
use Rattle.ooo_channels.specs.Conditions.{Names}
use Rattle.ooo_channels.specs.Operations.{Operations}
use Rattle.ooo_tables.specs.declared.tables.Tables.{Tables}
use Rattle.ooo_dispatch.specs.declared.step.Step.{Step}
use Rattle.ooo_dispatch.specs.Banks.{operations_on}
use Rattle.ooo_dispatch.specs.Least.{rules_of}
use Rattle.ooo_board.specs.Cores.{HasCore, after}
use Rattle.ooo_board.specs.declared.cores.Core.{Core}
use Rattle.ooo_board.specs.Forgetting.{forgetting}
use Rattle.ooo_board.proofs.Forgotten.{all_named}
use Rattle.ooo_board.proofs.cores.Core.reserve.Goals as goal

-- what the job did are the effects of its activation, which name what is there
pub reserve-requires : goal.reserve-requires
reserve-requires c =
    let (design, limits, t, steps, core, gives) = c.requires in
    let ops = operations_on (rules_of design limits t) (after design limits t steps).board in
    let may = c.jobs_may_commit.ensures design limits t core.stands.ready steps core.stands.lawful c.args.done.now.process gives.job gives.out in
    let effects = ap (λ (o : Outcome Frame). o.deed.effects) gives.is_done.does ∙ sym c.deref.ensures.value in
    let below = c.args.self.now.below in
    (forgetting below ops, core.core.has_bank.applied, subst (All (Names (forgetting below ops))) effects (all_named below ops _ may.names))

-- there is more room, and all else is as it was
roomier :
    (design : Design) (limits : Limits) (t : Tables) (steps : List Step) (c new : Core) → HasCore design limits t steps c → new ≡ record c { bank = new.bank; pieces = new.pieces; places = new.places } →
    ((ops : Operations) → IsBankAfter c.bank ops → IsBankAfter new.bank ops) → new.pieces.items ≡ c.pieces.items → new.places.items ≡ c.places.items → HasCore design limits t steps new
roomier design limits t steps c new h is bank pieces places = subst (HasCore design limits t steps) (sym is) (record {
  stands = h.stands;
  core = record {
    has_bank = record { applied = bank (forgetting c.below (operations_on (rules_of design limits t) (after design limits t steps).board)) h.core.has_bank.applied; past = h.core.has_bank.past };
    has_variables = h.core.has_variables;
    has_processes = h.core.has_processes;
    has_states = h.core.has_states;
    has_fronts = h.core.has_fronts;
    has_kept = h.core.has_kept;
    fit = h.core.fit;
    has_cut = h.core.has_cut;
    has_pieces = pieces ∙ h.core.has_pieces;
    has_places = places ∙ h.core.has_places;
  };
})

pub returns-in_err-reserve-clause-kept : goal.returns-in_err-reserve-clause-kept
returns-in_err-reserve-clause-kept c = λ design limits t steps h. roomier design limits t steps c.args.self.now (record c.args.self.now { bank = c.reserve.new.self }) h refl c.reserve.ensures.after refl refl

pub returns-in_err-reserve-2-clause-kept : goal.returns-in_err-reserve-2-clause-kept
returns-in_err-reserve-2-clause-kept c = λ design limits t steps h. roomier design limits t steps c.args.self.now (record c.args.self.now { bank = c.reserve.new.self; pieces = c.reserve-2.new.self }) h refl c.reserve.ensures.after c.reserve-2.ensures.items refl

pub returns-clause-kept : goal.returns-clause-kept
returns-clause-kept c = λ design limits t steps h. roomier design limits t steps c.args.self.now (record c.args.self.now { bank = c.reserve.new.self; pieces = c.reserve-2.new.self; places = c.reserve-3.new.self }) h refl c.reserve.ensures.after c.reserve-2.ensures.items c.reserve-3.ensures.items
