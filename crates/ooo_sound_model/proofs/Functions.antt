-- The functions of a model, by the names that they have in instances.
use Rattle.std.proofs.Common.{◌≡◌, ◌∙◌, refl, sym, ap, subst, arith, ℕ, zero, suc, ◌+◌, ◌<◌, List, [], ◌∷◌, length, length-append, true, Some, inl, inr}
use Rattle.std.specs.Prelude.{◌==◌, slice_get}
use Rattle.std.proofs.lemmas.Bool.{or_left, or_right, eq-eqb}
use Rattle.ooo_bound.specs.declared.model.BoundFunction.{BoundFunction}
use Rattle.ooo_checked.specs.declared.module.CheckedFunction.{CheckedFunction}
use Rattle.ooo_constants.specs.declared.meaning.Meaning.TheVariants as meaning
use Rattle.ooo_numbers.specs.Stats.{stats_of}
use Rattle.ooo_walk.specs.declared.state.WalkedInstance.{WalkedInstance}
use Rattle.ooo_walk.specs.Plans.{Filed, function_at, view_at}
use Rattle.ooo_walk.specs.Reach.{has}
use Rattle.ooo_elaborate.specs.declared.functions.Numbered.{Numbered}
use Rattle.ooo_elaborate.specs.declared.functions.WalkedFunction.{WalkedFunction}
use Rattle.ooo_elaborate.specs.declared.processes.Model.{Model}
use Rattle.ooo_elaborate.specs.Functions.{functions_in, of_instance, numbered_with, numbered_by, numbered}
use Rattle.ooo_elaborate.specs.Processes.{function_of, functions_of, kinds_of, members_in, numbering_in, view_in, walked_function_of}
use Rattle.ooo_sound_model.specs.Numbering.{HasNumbers}
use Rattle.ooo_sound_model.proofs.Lists.{split_at}
use Rattle.ooo_sound_model.proofs.Numbering.{functions_are_numbered}

-- ---- functions that have numbers

-- a function is one of an instance, which its processes reach
pub record IsListed (f : Filed) (is : List WalkedInstance) (x : WalkedFunction) : Type 0 where
  pub instance : WalkedInstance
  pub there : slice_get is x.instance ≡ Some instance
  pub among : has (functions_in (view_at f instance.module_number)) x.function ≡ true

in_instance : (k : ℕ) (fs : List ℕ) (q : ℕ) (x : WalkedFunction) → slice_get (of_instance k fs) q ≡ Some x →
    (k ≡ x.instance) × (has fs x.function ≡ true)
in_instance k [] q x h = absurd cc
in_instance k (y ∷ fs) zero x h =
    let same : record { instance = k; function = y } ≡ x = cc in
    (ap (λ (z : WalkedFunction). z.instance) same, or_left (x.function == y) (has fs x.function) (eq-eqb x.function y (sym (ap (λ (z : WalkedFunction). z.function) same))))
in_instance k (y ∷ fs) (suc q) x h =
    let r = in_instance k fs q x h in (r.0, or_right (x.function == y) (has fs x.function) r.1)

module _ (f : Filed) (all : List WalkedInstance) where
  abbrev AllListed : List WalkedFunction → Type 0
  AllListed xs = (g : ℕ) (x : WalkedFunction) → slice_get xs g ≡ Some x → IsListed f all x

  -- instances from a place on
  abbrev StandFrom : ℕ → List WalkedInstance → Type 0
  StandFrom place is = (j : ℕ) (i : WalkedInstance) → slice_get is j ≡ Some i → slice_get all (place + j) ≡ Some i

  one_more : (i : WalkedInstance) (n : Numbered) → slice_get all (length n.instances) ≡ Some i → AllListed n.functions →
      AllListed (numbered_with (functions_in (view_at f i.module_number)) i n).functions
  one_more i n at h g x is =
      let fs = functions_in (view_at f i.module_number) in
      elim (split_at n.functions (of_instance (length n.instances) fs) g x is) [
        | inl old ↦ h g x old
        | inr new ↦
            let r = in_instance (length n.instances) fs new.0 x new.1 in record {
              instance = i;
              there = subst (λ k. slice_get all k ≡ Some i) r.0 at;
              among = r.1;
            }
      ]

  all_listed : (is : List WalkedInstance) (n : Numbered) → StandFrom (length n.instances) is → AllListed n.functions →
      AllListed (numbered_by f is n).functions
  all_listed [] n stand h = h
  all_listed (i ∷ is) n stand h =
      let n1 = numbered_with (functions_in (view_at f i.module_number)) i n in
      let longer : length n1.instances ≡ length n.instances + 1 = length-append n.instances _ in
      let here : slice_get all (length n.instances) ≡ Some i =
      subst (λ k. slice_get all k ≡ Some i) (let e : length n.instances + 0 ≡ length n.instances = omega arith in e) (stand 0 i refl) in
      all_listed is n1
      (λ j x at. subst (λ k. slice_get all k ≡ Some x) (let e : length n.instances + suc j ≡ length n1.instances + j = omega (arith, longer) in e) (stand (suc j) x at))
      (one_more i n here h)

pub listed : (f : Filed) (is : List WalkedInstance) (g : ℕ) (x : WalkedFunction) → slice_get (numbered f is).functions g ≡ Some x → IsListed f is x
listed f is =
    all_listed f is is (record { functions = []; instances = [] })
    (λ j i at. subst (λ k. slice_get is k ≡ Some i) (let e : j ≡ 0 + j = omega arith in e) at) (λ g x at. absurd cc)

-- ---- functions of a model

pub function_found : (f : Filed) (m : Model) (is : List WalkedInstance) (xs : List WalkedFunction) (g : ℕ) (b : BoundFunction) →
    slice_get (functions_of f m is xs) g ≡ Some b → (x : WalkedFunction) × (slice_get xs g ≡ Some x) × (walked_function_of f m is x ≡ b)
function_found f m is [] g b h = absurd cc
function_found f m is (x ∷ xs) zero b h = (x, refl, cc)
function_found f m is (x ∷ xs) (suc g) b h = function_found f m is xs g b h

pub function_made : (f : Filed) (m : Model) (is : List WalkedInstance) (xs : List WalkedFunction) (g : ℕ) (x : WalkedFunction) →
    slice_get xs g ≡ Some x → slice_get (functions_of f m is xs) g ≡ Some (walked_function_of f m is x)
function_made f m is [] g x h = absurd cc
function_made f m is (y ∷ xs) zero x h = let same : y ≡ x = cc in ap (λ (z : WalkedFunction). Some (walked_function_of f m is z)) same
function_made f m is (y ∷ xs) (suc g) x h = function_made f m is xs g x h

pub functions_length : (f : Filed) (m : Model) (is : List WalkedInstance) (xs : List WalkedFunction) → length (functions_of f m is xs) ≡ length xs
functions_length f m is [] = refl
functions_length f m is (x ∷ xs) = ap suc (functions_length f m is xs)

-- ---- instances that have numbers

-- the module of an instance is the same once its functions have numbers
pub view_is : (f : Filed) (is : List WalkedInstance) (place : ℕ) (i : WalkedInstance) → HasNumbers f (numbered f is) place i →
    view_in f (slice_get (numbered f is).instances place) ≡ view_at f i.module_number
view_is f is place i h = ap (λ o. view_in f o) h.there ∙ ap (λ k. view_at f k) h.module_number

-- a name of an instance means a function of the model
pub record IsNamed (f : Filed) (is : List WalkedInstance) (place name : ℕ) : Type 0 where
  pub number : ℕ
  pub means : slice_get (members_in (slice_get (numbered f is).instances place)) name ≡ Some (meaning.Function number)
  pub at : slice_get (numbered f is).functions number ≡ Some (record { instance = place; function = name })

pub named : (f : Filed) (is : List WalkedInstance) (place : ℕ) (i : WalkedInstance) → slice_get is place ≡ Some i →
    (x : ℕ) → has (functions_in (view_at f i.module_number)) x ≡ true → x < length i.members → IsNamed f is place x
named f is place i at x among within =
    let h = functions_are_numbered f is place i at in
    let r = h.reached x among within in record {
      number = r.number;
      means = ap (λ o. slice_get (members_in o) x) h.there ∙ r.means;
      at = r.is;
    }

-- the body of a function of an instance
pub body_is : (f : Filed) (m : Model) (is : List WalkedInstance) (place : ℕ) (i : WalkedInstance) → slice_get is place ≡ Some i →
    (x : ℕ) (g : CheckedFunction) → function_at (view_at f i.module_number) x ≡ Some g →
    (walked_function_of f m (numbered f is).instances (record { instance = place; function = x })).body
    ≡ stats_of (numbering_in m (members_in (slice_get (numbered f is).instances place))) g.body
body_is f m is place i at x g of =
    let h = functions_are_numbered f is place i at in
    ap (λ v. (function_of m (members_in (slice_get (numbered f is).instances place)) (function_at v x)).body) (view_is f is place i h)
    ∙ ap (λ o. (function_of m (members_in (slice_get (numbered f is).instances place)) o).body) of

-- its parameters
pub params_are : (f : Filed) (m : Model) (is : List WalkedInstance) (place : ℕ) (i : WalkedInstance) → slice_get is place ≡ Some i →
    (x : ℕ) (g : CheckedFunction) → function_at (view_at f i.module_number) x ≡ Some g →
    (walked_function_of f m (numbered f is).instances (record { instance = place; function = x })).params ≡ kinds_of g.params
params_are f m is place i at x g of =
    let h = functions_are_numbered f is place i at in
    ap (λ v. (function_of m (members_in (slice_get (numbered f is).instances place)) (function_at v x)).params) (view_is f is place i h)
    ∙ ap (λ o. (function_of m (members_in (slice_get (numbered f is).instances place)) o).params) of
