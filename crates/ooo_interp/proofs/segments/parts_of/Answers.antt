-- The parts are lent as they were passed.
use Rattle.std.proofs.Common.{◌≡◌, ap, refl, sym, subst, ◌∙◌}
use Rattle.std.specs.Prelude.{All}
use Rattle.std.specs.Global.{Vec}
use Rattle.ooo_code.specs.declared.activation.Seen.{Seen}
use Rattle.ooo_interp.specs.Jobs.{IsFew, SeenAscend}
use Rattle.ooo_interp.specs.Ports.{all_shown, values_in}
use Rattle.ooo_interp.proofs.segments.parts_of.Goals as goal

pub ports_of-requires : goal.ports_of-requires
ports_of-requires c = record {
  few = subst (All IsFew) (sym c.as_slice.ensures.value) c.requires.seen.1;
  ascending = subst SeenAscend (sym c.as_slice.ensures.value) c.requires.seen.0;
}

pub new-fifos-requires : goal.new-fifos-requires
new-fifos-requires c = record { ascending = c.requires.seen.0; few = c.requires.seen.1 }

pub returns : goal.returns
returns c =
    let shows : all_shown (values_in c.args.seen.items) c.in-Ok.found ≡ c.args.seen.items = subst (λ sight. all_shown (values_in sight) c.in-Ok.found ≡ sight) c.as_slice.ensures.value c.in-Ok.ensures in
    record {
      counted = refl;
      same_slots = refl;
      same_owned = refl;
      same_copied = refl;
      shows = ap {A = Vec Seen} (λ v. all_shown (values_in v.items) c.in-Ok.found) c.new-fifos.ensures ∙ shows;
    }
