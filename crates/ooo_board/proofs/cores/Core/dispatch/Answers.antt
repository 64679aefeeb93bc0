use Rattle.std.proofs.Common.{arith, refl, ◌∙◌, ◌<◌, sym, ap, subst, length, List}
use Rattle.std.specs.Prelude.{All, slice_index_or}
use Rattle.ooo_value.specs.declared.values.Value.{Value}
use Rattle.ooo_code.specs.declared.design.Design.{Design}
use Rattle.ooo_code.specs.declared.segment.Segment.{Segment}
use Rattle.ooo_interp.specs.Carrying.{Carried}
use Rattle.ooo_board.specs.Carrying.{taken_from}
use Rattle.ooo_board.specs.Cores.{HasCore, MayDispatch}
use Rattle.ooo_board.specs.Links.{AreLinks}
use Rattle.ooo_board.proofs.Dispatched.{core_after}
use Rattle.ooo_board.proofs.Handing.{copied_is, dispatched_so, entry_is, owned_is, parts_shared, places_within, process_there, segment_there}
use Rattle.ooo_board.proofs.cores.Core.dispatch.Goals as goal

pub parts-requires-clause-room : goal.parts-requires-clause-room
parts-requires-clause-room c = c.requires.room

pub parts-requires-clause-links : goal.parts-requires-clause-links
parts-requires-clause-links c = subst (λ (d : Design). AreLinks d c.args.tables.now c.args.links.now) (sym c.deref.ensures) c.requires.links

pub parts-requires-clause-may : goal.parts-requires-clause-may
parts-requires-clause-may c =
    let (steps, core, may) = c.requires.may in (
      c.args.limits.now,
      steps,
      c.args.p,
      subst (λ (d : Design). HasCore d c.args.limits.now c.args.tables.now steps c.args.self.now) (sym c.deref.ensures) core,
      subst (λ (d : Design). MayDispatch d c.args.limits.now c.args.tables.now steps c.args.p c.args.front) (sym c.deref.ensures) may,
    )

pub index_mut-requires : goal.index_mut-requires
index_mut-requires c =
    let (steps, core, may) = c.requires.may in
    let hand = c.parts_are_at_hand.ensures c.args.design.now.value c.args.limits.now c.args.tables.now steps c.args.p c.args.front core.stands may in
    omega (arith, core.core.has_states.counted, hand.reach.within)

pub index_mut-process-requires : goal.index_mut-process-requires
index_mut-process-requires c =
    let (steps, core, may) = c.requires.may in
    let hand = c.parts_are_at_hand.ensures c.args.design.now.value c.args.limits.now c.args.tables.now steps c.args.p c.args.front core.stands may in
    omega (arith, core.core.has_processes.counted, hand.reach.within)

pub move_out-requires : goal.move_out-requires
move_out-requires c =
    let (steps, core, may) = c.requires.may in
    let design = c.args.design.now.value in
    let limits = c.args.limits.now in
    let t = c.args.tables.now in
    let hand = c.parts_are_at_hand.ensures design limits t steps c.args.p c.args.front core.stands may in
    let parts = parts_shared c.deref.result.now design limits t steps c.args.p c.args.front c.args.self.now c.in_ok-parts.parts c.deref.ensures c.in_ok-parts.ensures core may in
    subst (All (λ (x : Carried). x.0 < length c.args.self.now.variables.items)) (sym parts.owned)
    (places_within design limits t steps c.args.p c.args.front core.stands hand c.args.self.now.variables.items core.core.has_variables.count)

pub bounds-as_slice-front : goal.bounds-as_slice-front
bounds-as_slice-front c =
    let (steps, core, may) = c.requires.may in
    let hand = c.parts_are_at_hand.ensures c.args.design.now.value c.args.limits.now c.args.tables.now steps c.args.p c.args.front core.stands may in
    subst (λ n. c.args.front.segment < n) (sym (ap length c.as_slice.ensures)) hand.reach.segment

pub bounds-as_slice-front-in-Ok : goal.bounds-as_slice-front-in-Ok
bounds-as_slice-front-in-Ok c =
    let (steps, core, may) = c.requires.may in
    let hand = c.parts_are_at_hand.ensures c.args.design.now.value c.args.limits.now c.args.tables.now steps c.args.p c.args.front core.stands may in
    subst (λ n. c.args.front.segment < n) (sym (ap length c.as_slice.ensures)) hand.reach.segment

pub returns-clause-out : goal.returns-clause-out
returns-clause-out c steps core may =
    let design = c.args.design.now.value in
    let limits = c.args.limits.now in
    let t = c.args.tables.now in
    let p = c.args.p in
    let f = c.args.front in
    let old = c.args.self.now in
    let stands = core.stands in
    let hand = c.parts_are_at_hand.ensures design limits t steps p f stands may in
    let parts = parts_shared c.deref.result.now design limits t steps p f old c.in_ok-parts.parts c.deref.ensures c.in_ok-parts.ensures core may in
    let taken = ap (taken_from old.variables.items) (sym parts.owned) ∙ c.move_out.ensures in
    let process = c.index_mut-process.result.now in
    let there = process_there design limits t steps p f stands hand old core.core process c.index_mut-process.ensures.value in
    let kept = core.core.has_processes.each p process there in
    let segment = c.index-as_slice-front.result in
    let segment_is = segment_there design limits t steps p f stands hand segment (c.index-as_slice-front.is ∙ ap (λ xs. slice_index_or xs f.segment segment) c.as_slice.ensures) in
    let entry = entry_is design limits t steps p f stands hand segment segment_is in
    let slots = c.replace-slots.ensures.value ∙ kept.slots may.may.idle in
    let next = core_after design limits t steps p f may old _ core.core (record {
      bank = refl;
      below = refl;
      variables = sym (ap (λ (x : List (List Value) × List Carried). x.0) taken);
      process = process;
      left = record { slots = c.replace-slots.new.dest; waiting = process.waiting; activations = process.activations };
      process_is = there;
      waiting = refl;
      activations = refl;
      processes = refl;
      states = refl;
      fronts = refl;
      cut = refl;
      pieces = refl;
      places = refl;
    }) in
    dispatched_so design limits t steps p f stands hand next (record {
      design = c.in-Ok.ensures.cases;
      process = refl;
      activation = kept.activations;
      stamp = refl;
      statements = refl;
      frame = λ i. record { entry = (ap (λ (x : Segment). x.entry) (sym c.index-as_slice-front.is) ∙ entry) i; slots = slots i };
      owned = owned_is design limits t steps p f stands hand old.variables.items c.move_out.new.variables.items c.move_out.new.owned.items core.core.has_variables taken;
      copied = parts.copied ∙ copied_is design limits t steps p f stands hand old.variables.items core.core.has_variables;
      seen = parts.seen;
    }) parts.few parts.ascending
