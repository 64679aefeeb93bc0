-- What a member is by its form: of each arm what was made of its parts.
use Rattle.std.proofs.Common.{sym, refl}
use Rattle.std.proofs.lemmas.List.{append-nil}
use Rattle.ooo_members.proofs.known.Surroundings.member.Goals as goal

pub returns-in-Public : goal.returns-in-Public
returns-in-Public c = rw (c.in-Public.is) (record {
  tree = refl;
  behind = refl;
  notes = refl;
  scope = refl;
  functions = sym (append-nil c.args.functions.now);
})

pub returns-in-Ok : goal.returns-in-Ok
returns-in-Ok c = rw (c.in-Constant.is) (record {
  tree = rw (c.in-Ok.ensures.tree, c.in_ok-name-in-Constant.ensures) refl;
  behind = refl;
  notes = c.in-Ok.ensures.notes;
  scope = refl;
  functions = sym (append-nil c.args.functions.now);
})

pub returns-in-Ok-fields : goal.returns-in-Ok-fields
returns-in-Ok-fields c = rw (c.in-Fields.is) (record {
  tree = rw (c.in-Ok-fields.ensures.tree) refl;
  behind = refl;
  notes = c.in-Ok-fields.ensures.notes;
  scope = refl;
  functions = sym (append-nil c.args.functions.now);
})

pub returns-in-Ok-ports : goal.returns-in-Ok-ports
returns-in-Ok-ports c = rw (c.in-Ports.is) (record {
  tree = rw (c.in-Ok-ports.ensures) refl;
  behind = refl;
  notes = refl;
  scope = refl;
  functions = sym (append-nil c.args.functions.now);
})

pub returns-in-Ok-names : goal.returns-in-Ok-names
returns-in-Ok-names c = rw (c.in-Clocks.is) (record {
  tree = rw (c.in-Ok-names.ensures) refl;
  behind = refl;
  notes = refl;
  scope = refl;
  functions = sym (append-nil c.args.functions.now);
})

pub returns-in-Ok-channels : goal.returns-in-Ok-channels
returns-in-Ok-channels c = rw (c.in-Channels.is) (record {
  tree = rw (c.in-Ok-channels.ensures.tree) refl;
  behind = refl;
  notes = c.in-Ok-channels.ensures.notes;
  scope = refl;
  functions = sym (append-nil c.args.functions.now);
})

pub returns-in-Ok-names-2 : goal.returns-in-Ok-names-2
returns-in-Ok-names-2 c = rw (c.in-Events.is) (record {
  tree = rw (c.in-Ok-names-2.ensures) refl;
  behind = refl;
  notes = refl;
  scope = refl;
  functions = sym (append-nil c.args.functions.now);
})

pub returns-in-Ok-children : goal.returns-in-Ok-children
returns-in-Ok-children c = rw (c.in-Children.is) (record {
  tree = rw (c.in-Ok-children.ensures.tree) refl;
  behind = refl;
  notes = c.in-Ok-children.ensures.notes;
  scope = refl;
  functions = sym (append-nil c.args.functions.now);
})

pub returns-in-Ok-known_function : goal.returns-in-Ok-known_function
returns-in-Ok-known_function c = rw (c.in-Function.is) (record {
  tree = rw (c.in-Ok-known_function.ensures.tree) refl;
  behind = refl;
  notes = c.in-Ok-known_function.ensures.notes;
  scope = c.in-Ok-known_function.ensures.scope;
  functions = c.in-Ok-known_function.ensures.facts;
})

pub returns-in-Ok-constructor : goal.returns-in-Ok-constructor
returns-in-Ok-constructor c = rw (c.in-Constructor.is) (record {
  tree = rw (c.in-Ok-constructor.ensures.tree) refl;
  behind = c.in-Ok-constructor.ensures.behind;
  notes = c.in-Ok-constructor.ensures.notes;
  scope = c.in-Ok-constructor.ensures.scope;
  functions = sym (append-nil c.args.functions.now);
})
