use Rattle.std.proofs.Common.{◌∙◌, sym, ap, subst, length, ◌<◌}
use Rattle.std.specs.Prelude.{All}
use Rattle.ooo_access.specs.declared.access.Access.{Access}
use Rattle.ooo_dispatch.specs.Banks.{operations_on}
use Rattle.ooo_dispatch.specs.Least.{rules_of}
use Rattle.ooo_dispatch.specs.Rules.{access_of}
use Rattle.ooo_board.specs.Carrying.{bare, carried_from}
use Rattle.ooo_board.specs.Cores.{after}
use Rattle.ooo_board.specs.Forgetting.{forgetting}
use Rattle.ooo_board.specs.Seeing.{Ascend, MayAsk, sights_of}
use Rattle.ooo_board.proofs.Handing.{access_is, access_within, allowed_at, asked, may_ask, read_is, read_there, read_within, seen_is, watched_is, watched_there}
use Rattle.ooo_board.proofs.Watching.{watched_ascend}
use Rattle.ooo_board.proofs.cores.Core.parts.Goals as goal

pub bounds-as_slice-g : goal.bounds-as_slice-g
bounds-as_slice-g c =
    let h = allowed_at c.args.design.now c.args.tables.now c.args.self.now c.args.front c.parts_are_at_hand.ensures c.requires.may in
    subst (λ n. c.args.front.segment < n) (sym (ap length c.as_slice.ensures))
    (access_within c.args.design.now h.limits c.args.tables.now h.steps h.p c.args.front h.core.stands h.hand)

pub index-requires : goal.index-requires
index-requires c =
    let h = allowed_at c.args.design.now c.args.tables.now c.args.self.now c.args.front c.parts_are_at_hand.ensures c.requires.may in
    read_there c.args.design.now h.limits c.args.tables.now h.steps h.p c.args.front h.core.stands h.hand c.args.links.now c.requires.links

pub index-requires-2 : goal.index-requires-2
index-requires-2 c =
    let h = allowed_at c.args.design.now c.args.tables.now c.args.self.now c.args.front c.parts_are_at_hand.ensures c.requires.may in
    watched_there c.args.design.now h.limits c.args.tables.now h.steps h.p c.args.front h.core.stands h.hand c.args.links.now c.requires.links

pub copies-requires : goal.copies-requires
copies-requires c =
    let h = allowed_at c.args.design.now c.args.tables.now c.args.self.now c.args.front c.parts_are_at_hand.ensures c.requires.may in
    let is = read_is c.args.design.now h.limits c.args.tables.now h.steps h.p c.args.front h.core.stands h.hand c.args.links.now c.requires.links c.index.result.now c.index.ensures in
    let within = read_within c.args.design.now h.limits c.args.tables.now h.steps h.p c.args.front h.core.stands h.hand in
    let count = ap length c.as_slice-2.ensures.value ∙ h.core.core.has_variables.count in
    subst (λ n. All (λ x. x < n) c.as_slice-read.result.now) (sym count)
    (subst (All (λ x. x < length c.args.design.now.variables)) (sym (c.as_slice-read.ensures ∙ is)) within)

pub sights-seen-requires-clause-may : goal.sights-seen-requires-clause-may
sights-seen-requires-clause-may c =
    let h = allowed_at c.args.design.now c.args.tables.now c.args.self.now c.args.front c.parts_are_at_hand.ensures c.requires.may in
    let is = watched_is c.args.design.now h.limits c.args.tables.now h.steps h.p c.args.front h.core.stands h.hand c.args.links.now c.requires.links c.index-2.result.now c.index-2.ensures in
    subst (MayAsk c.args.design.now c.args.self.now.bank c.args.front.stamp) (sym (c.as_slice-watched.ensures ∙ is))
    (may_ask c.args.design.now h.limits c.args.tables.now h.steps h.p c.args.front h.core.stands h.hand h.may c.args.self.now.bank c.args.self.now.below h.core.core.has_bank)

pub sights-seen-requires-clause-ascending : goal.sights-seen-requires-clause-ascending
sights-seen-requires-clause-ascending c =
    let h = allowed_at c.args.design.now c.args.tables.now c.args.self.now c.args.front c.parts_are_at_hand.ensures c.requires.may in
    let is = watched_is c.args.design.now h.limits c.args.tables.now h.steps h.p c.args.front h.core.stands h.hand c.args.links.now c.requires.links c.index-2.result.now c.index-2.ensures in
    subst Ascend (sym (c.as_slice-watched.ensures ∙ is)) (watched_ascend (access_of (rules_of c.args.design.now h.limits c.args.tables.now) c.args.front.segment) c.args.design.now.channels)

pub returns : goal.returns
returns c limits steps p core may =
    let design = c.args.design.now in
    let t = c.args.tables.now in
    let f = c.args.front in
    let hand = c.parts_are_at_hand.ensures design limits t steps p f core.stands may in
    let stands = core.stands in
    let access = access_is design limits t steps p f stands hand c.as_slice.result.now c.index-as_slice-g.result c.as_slice.ensures c.index-as_slice-g.is in
    let read = read_is design limits t steps p f stands hand c.args.links.now c.requires.links c.index.result.now c.index.ensures in
    let watched = watched_is design limits t steps p f stands hand c.args.links.now c.requires.links c.index-2.result.now c.index-2.ensures in
    let below = c.args.self.now.below in
    let ops = forgetting below (operations_on (rules_of design limits t) (after design limits t steps).board) in
    let told = c.in-Ok-seen.ensures.seen ops (asked design limits t steps p f stands hand may c.args.self.now.bank below core.core.has_bank) in
    record {
      owned = c.in_ok-owned.ensures ∙ ap bare (c.as_slice-written.ensures ∙ ap (λ (a : Access). a.written) (sym c.index-as_slice-g.is ∙ access));
      copied =
          c.in-Ok.ensures ∙ ap (λ vs. carried_from vs c.as_slice-read.result.now) c.as_slice-2.ensures.value
          ∙ ap (carried_from c.args.self.now.variables.items) (c.as_slice-read.ensures ∙ read);
      seen =
          told ∙ ap (sights_of f.stamp ops design.channels) (c.as_slice-watched.ensures ∙ watched)
          ∙ seen_is design limits t steps p f stands hand below;
      few = c.in-Ok-seen.ensures.few;
      ascending = c.in-Ok-seen.ensures.ascending;
    }
