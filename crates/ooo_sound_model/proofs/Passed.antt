-- What is given is not refused.
use Rattle.std.proofs.Common.{◌≡◌, refl, Option, Some, None}
use Rattle.std.specs.Prelude.{Ok}
use Rattle.ooo_bound.specs.declared.model.Bound.{Bound}
use Rattle.ooo_walk.specs.declared.refusal.Refusal.{Refusal}
use Rattle.ooo_walk.specs.declared.state.Walk.{Walk}
use Rattle.ooo_walk.specs.Plans.{Filed}
use Rattle.ooo_walk.specs.Texts.{file_of, walk_of}
use Rattle.ooo_elaborate.specs.declared.bindings.Links.{Links}
use Rattle.ooo_elaborate.specs.declared.functions.Numbered.{Numbered}
use Rattle.ooo_elaborate.specs.Bindings.{links_of, unbound_from}
use Rattle.ooo_elaborate.specs.Elaborated.{assembled, bound_of, held_in, unless_held, unless_linked, unless_unbound, unless_walked}
use Rattle.ooo_elaborate.specs.Functions.{numbered}
use Rattle.ooo_elaborate.specs.Holders.{holders_refusal}
use Rattle.ooo_sound_model.specs.Parts.{ArePassed}

module _ (f : Filed) (w : Walk) (b : Bound) where
  -- the channels
  record Held' (l : Links) (n : Numbered) : Type 0 where
    pub held : holders_refusal w.processes 0 w.channels (held_in f w n (assembled f w l n)) ≡ None
    pub is : assembled f w l n ≡ b

  by_channels : (l : Links) (n : Numbered) (o : Option Refusal) → holders_refusal w.processes 0 w.channels (held_in f w n (assembled f w l n)) ≡ o →
      unless_held o (assembled f w l n) ≡ Ok b → Held' l n
  by_channels l n None of is = record { held = of; is = cc }
  by_channels l n (Some r) of is = absurd cc

  -- the ports
  record Bound' (l : Links) : Type 0 where
    pub all_bound : unbound_from 0 w.ports l.ends ≡ None
    pub rest : Held' l (numbered f w.instances)

  by_ports : (l : Links) (o : Option Refusal) → unbound_from 0 w.ports l.ends ≡ o → unless_unbound o f w l ≡ Ok b → Bound' l
  by_ports l None of is = record { all_bound = of; rest = by_channels l (numbered f w.instances) _ refl is }
  by_ports l (Some r) of is = absurd cc

  -- the bindings
  record Linked' : Type 0 where
    pub linked : (links_of w).refusal ≡ None
    pub rest : Bound' (links_of w)

  by_bindings : (o : Option Refusal) → (links_of w).refusal ≡ o → unless_linked o f w (links_of w) ≡ Ok b → Linked'
  by_bindings None of is = record { linked = of; rest = by_ports (links_of w) _ refl is }
  by_bindings (Some r) of is = absurd cc

  -- the walk
  record Walked' : Type 0 where
    pub walked : w.refusal ≡ None
    pub rest : Linked'

  by_walk : (o : Option Refusal) → w.refusal ≡ o → unless_walked o f w ≡ Ok b → Walked'
  by_walk None of is = record { walked = of; rest = by_bindings _ refl is }
  by_walk (Some r) of is = absurd cc

pub passed : ArePassed
unfolding bound_of
passed u b is =
    let w = by_walk (file_of u) (walk_of u) b (walk_of u).refusal refl is in record {
      walked = w.walked;
      linked = w.rest.linked;
      all_bound = w.rest.rest.all_bound;
      held = w.rest.rest.rest.held;
      is = w.rest.rest.rest.is;
    }
