-- What is shown of so many statements and so many nodes, and how it is used.
use Rattle.std.proofs.Common.{◌≡◌, ℕ, suc, ◌+◌, ◌<◌, List, length, Some, refl, sym, ap, subst, arith}
use Rattle.std.specs.Prelude.{slice_get, slice_set}
use Rattle.ooo_time.specs.declared.stamp.Stamp.{Stamp}
use Rattle.ooo_value.specs.declared.values.Value.{Value}
use Rattle.ooo_value.specs.Operators.{Answer}
use Rattle.ooo_code.specs.declared.activation.Frame.{Frame as NodeFrame}
use Rattle.ooo_code.specs.declared.expression.NodeExpr.{NodeExpr}
use Rattle.ooo_code.specs.declared.node.Node.{Node}
use Rattle.ooo_code.specs.declared.node.NodeKind.{NodeKind}
use Rattle.ooo_code.specs.declared.segment.SegmentEntry.{SegmentEntry}
use Rattle.ooo_code.specs.declared.segment.SegmentEntry.TheVariants as from
use Rattle.ooo_code.specs.Nodes as by_nodes
use Rattle.ooo_code.specs.Outcomes.{Outcome}
use Rattle.ooo_bound.specs.declared.model.Bound.{Bound}
use Rattle.ooo_bound.specs.declared.model.BoundProcess.{BoundProcess}
use Rattle.ooo_bound.specs.declared.stat.BoundTarget.{BoundTarget}
use Rattle.ooo_activation.specs.Locals.{Locals}
use Rattle.ooo_activation.specs.Items.{Item}
use Rattle.ooo_activation.specs.Activations.{Place, Course, Onward}
use Rattle.ooo_activation.specs.Activations as by_statements
use Rattle.ooo_shapes.specs.declared.around.Around.{Around}
use Rattle.ooo_shapes.specs.Widths.{target_widths}
use Rattle.ooo_shapes.specs.Expressions.{first_base}
use Rattle.ooo_shapes.specs.Simples.{uncounted, put_kind}
use Rattle.ooo_shapes.proofs.Frames.{Within, Frame, keeps_first}
use Rattle.ooo_shapes.proofs.Values.{gives}
use Rattle.ooo_shapes.proofs.Places.{After, Stands, stands, place_keeps}
use Rattle.ooo_shapes.proofs.Places as places
use Rattle.ooo_shapes.proofs.Same.{doing, Rests, Same, same_by, Fuel, full, fuel_next, setting, running, pass, head, run_is, at, with_fuel}
use Rattle.ooo_shapes.proofs.Puts.{Goes, home, put_same}

module _ (b : Bound) (process : BoundProcess) (total : ℕ) (code : List Node) (first : ℕ) (entry : SegmentEntry) (stamp : Stamp) where
  abbrev pub PlaceAt : Around → List Value → List Item → ℕ → Type 0
  PlaceAt t slots items pc = places.Place b process total code t slots items pc

  abbrev pub FuelAt : ℕ → ℕ → Type 0
  FuelAt m pc = Fuel b process total code first m pc

  abbrev pub Here : Outcome Place → Outcome NodeFrame → Type 0
  Here x y = Same b process total code first x y

  abbrev pub statements : ℕ → by_statements.Next
  statements n items locals d = by_statements.steps (setting b process total code first entry stamp) n items locals d

  abbrev pub nodes : ℕ → by_nodes.Next
  nodes n pc d = by_nodes.steps code (running b process total code first entry stamp) n pc d

  abbrev pub passes : ℕ → ℕ → by_nodes.Next
  passes n m pc d = pass b process total code first entry stamp (head b process total code first entry stamp n) m pc d

  abbrev pub does : NodeKind → (number line to : ℕ) → by_nodes.Next → by_nodes.Next
  does k number line to nx pc d = by_nodes.act (running b process total code first entry stamp) k number line to nx d

  -- from the same place over n that count
  abbrev pub Agree : ℕ → Type 0
  Agree n = (items : List Item) (locals : Locals) (slots : List Value) (pc m : ℕ) (d : Course) → Stands b process total code items locals slots pc → length slots ≡ total → FuelAt m pc → Here (statements n items locals d) (passes n m pc (doing slots d))

  -- the same with as many nodes as an activation has
  pub runs : (n : ℕ) → Agree n → (items : List Item) (locals : Locals) (slots : List Value) (pc : ℕ) (d : Course) → Stands b process total code items locals slots pc → length slots ≡ total → Here (statements n items locals d) (nodes n pc (doing slots d))
  runs n ih items locals slots pc d s len = same_by b process total code first (run_is b process total code first entry stamp n pc (doing slots d)) (ih items locals slots pc (by_nodes.between code) d s len (full b process total code first pc))

  -- one of the first slots may be written
  pub place_first : (t : Around) (x : ℕ) (v : Value) (slots : List Value) (items : List Item) (pc : ℕ) → x < first_base → PlaceAt t slots items pc → PlaceAt t (slice_set slots x v) items pc
  place_first t x v slots items pc lt p = place_keeps b process total code t t.base slots (slice_set slots x v) items pc (omega arith) (keeps_first total t.base x v slots lt) p

  -- it goes on with what remains, at the node behind a statement
  pub goes_on : (n : ℕ) → Agree n → (t : Around) (rest : List Item) (slots : List Value) (next m : ℕ) → PlaceAt t slots rest next → FuelAt m next → Goes b process total code first entry stamp t slots (statements n rest) (passes n m) next
  goes_on n ih t rest slots next m p fuel locals' slots' d' f k len = ih rest locals' slots' next m d' (stands b process total code t rest locals' slots' next (place_keeps b process total code t t.base slots slots' rest next (omega arith) k p) f) len fuel

  pub goes_run : (n : ℕ) → Agree n → (t : Around) (rest : List Item) (slots : List Value) (next : ℕ) → PlaceAt t slots rest next → Goes b process total code first entry stamp t slots (statements n rest) (nodes n) next
  goes_run n ih t rest slots next p locals' slots' d' f k len = runs n ih rest locals' slots' next d' (stands b process total code t rest locals' slots' next (place_keeps b process total code t t.base slots slots' rest next (omega arith) k p) f) len

  -- a node that counts nothing
  pub step : (x : Outcome Place) (n m pc : ℕ) (k : NodeKind) (line next : ℕ) (d : by_nodes.Doing) → slice_get code pc ≡ Some (uncounted k line next) → FuelAt m pc → ((j : ℕ) → FuelAt (suc j) pc → Here x (does k pc line next (passes n j) pc d)) → Here x (passes n m pc d)
  step x n m pc k line next d h fuel go =
      with_fuel b process total code first entry stamp x (head b process total code first entry stamp n) m pc (uncounted k line next) d h fuel (λ j fuel.
      same_by b process total code first (at b process total code first entry stamp (head b process total code first entry stamp n) j pc (uncounted k line next) d h) (go j fuel))

  -- a value is put into a target, and it goes on with what remains
  pub put_step : (n : ℕ) → Agree n → (into : BoundTarget) (e : NodeExpr) (o : Answer) (line next : ℕ) (t : Around) (rest : List Item) (locals : Locals) (slots : List Value) (pc m : ℕ) (d : Course) → slice_get code pc ≡ Some (uncounted (put_kind (home b process total code first entry stamp) t into e next) line next) → After b process total code (pc + 1) next → gives e (by_nodes.sight_of (doing slots d)) ≡ o → Within (target_widths into) t.widths → Frame total t locals slots → length slots ≡ total → PlaceAt t slots rest next → FuelAt m pc → Here (by_statements.with_result o line locals d (λ v. by_statements.assign (setting b process total code first entry stamp) into v line locals d (statements n rest))) (passes n m pc (doing slots d))
  put_step n ih into e o line next t rest locals slots pc m d h after is w f len p fuel =
      step _ n m pc _ line next (doing slots d) h fuel (λ j fuel.
      put_same b process total code first entry stamp into e o line pc next (passes n j) (statements n rest) t locals slots d is w f len
      (goes_on n ih t rest slots next j p (fuel_next b process total code first j pc _ h refl after fuel)))

  -- where a wait ends, what remains stands at the node to which it leads
  pub rests : (items : List Item) (locals : Locals) (slots : List Value) (wait : ℕ) (i : Node) → slice_get code wait ≡ Some i → Stands b process total code items locals slots i.next → length slots ≡ total → Rests b process total code first (record { items = items; locals = locals }) (record { entry = from.After wait; slots = slots })
  rests items locals slots wait i h s len = record { stands = subst (λ q. Stands b process total code items locals slots q) (sym (ap by_nodes.next_of h)) s; count = len }
