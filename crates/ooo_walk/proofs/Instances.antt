-- An instance, from what its parts were found to be.
use Rattle.std.proofs.Common.{◌≡◌, ℕ, List, length}
use Rattle.ooo_syntax.specs.declared.leaves.Word.{Word}
use Rattle.ooo_value.specs.declared.values.Value.{Value}
use Rattle.ooo_checked.specs.declared.module.CheckedPart.{CheckedPart}
use Rattle.ooo_walk.specs.declared.state.Evaluated.{Evaluated}
use Rattle.ooo_walk.specs.declared.state.Here.{Here}
use Rattle.ooo_walk.specs.declared.state.Walk.{Walk}
use Rattle.ooo_walk.specs.Instances.{Inside, after_args, args_evaluated, child_of, counting, entered, instance_from, instance_with, values_from}
use Rattle.ooo_walk.specs.Members.{args_given}
use Rattle.ooo_walk.specs.Plans.{Filed, Viewed, init_args, view_at}
use Rattle.ooo_walk.specs.States.{full_name, known_here, with_object}

-- an instance with arguments
pub instance_is : (inside : Inside) (child seen : Viewed) (n : ℕ) (word : Word) (declared initial counted : List Evaluated) (w added checked ready : Walk) (name : List ℕ) (values : List Value) (known : Here) →
    name ≡ full_name w word.name → added ≡ with_object word.position name w → checked ≡ after_args name declared added → ready ≡ after_args name initial checked → seen ≡ child → counted ≡ counting declared initial → values ≡ values_from seen.params 0 counted → known ≡ entered name values →
    instance_from inside n known ready ≡ instance_with inside child n word declared initial w
instance_is inside child seen n word declared initial counted w added checked ready name values known named object first second same count valued begun =
    rw (begun, valued, count, same, second, first, object, named)

-- a child
pub child_is : (inside : Inside) (f : Filed) (v : Viewed) (n : ℕ) (p : CheckedPart) (w : Walk) (declared initial : List Evaluated) → declared ≡ args_evaluated (known_here w) (args_given p.args) → initial ≡ args_evaluated (known_here w) (init_args v (length w.here.members)) →
    instance_with inside (view_at f n) n p.name.word declared initial w ≡ child_of inside f v n p w
child_is inside f v n p w declared initial own given = rw (own, given)
