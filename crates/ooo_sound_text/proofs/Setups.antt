-- What a constructor sets up is read of its text, behind the parts before it, and nothing is wrong with it.
use Rattle.std.proofs.Common.{◌≡◌, ◌∙◌, refl, ap, ℕ, zero, suc, List, [], ◌∷◌, ◌++◌, Option, Some, None}
use Rattle.std.specs.Prelude.{slice_get}
use Rattle.ooo_syntax.specs.declared.module.Constructor.{Constructor}
use Rattle.ooo_syntax.specs.declared.module.Constructor.TheVariants as constructor
use Rattle.ooo_syntax.specs.declared.module.Member.{Member}
use Rattle.ooo_syntax.specs.declared.module.Member.TheVariants as member
use Rattle.ooo_syntax.specs.declared.module.Setup.{Setup}
use Rattle.ooo_checked.specs.declared.module.CheckedConstructor.{CheckedConstructor}
use Rattle.ooo_checked.specs.declared.module.CheckedMember.{CheckedMember}
use Rattle.ooo_checked.specs.declared.module.CheckedMember.TheVariants as checked
use Rattle.ooo_checked.specs.declared.module.CheckedSetup.{CheckedSetup}
use Rattle.ooo_checked.specs.Notes.{all_notes}
use Rattle.ooo_checked.specs.Scopes.{Scope, entered}
use Rattle.ooo_members.specs.declared.known.Sofar.{Sofar}
use Rattle.ooo_members.specs.Constructors.{constructor_notes, constructor_of, head_of, inits_of, setup_of, setups_of}
use Rattle.ooo_members.specs.Known.{Modules, Registered}
use Rattle.ooo_members.specs.Members.{member_of, members_of}
use Rattle.ooo_walk.specs.Plans.{as_constructor, constructor_at, setups_of as setups_in}
use Rattle.ooo_sound_text.specs.Modules.{IsInside}
use Rattle.ooo_sound_text.specs.Right.{AreRight}
use Rattle.ooo_sound_text.proofs.Inside.{block_inside, head_inside, itself}
use Rattle.ooo_sound_text.proofs.Notes.{first_right, then_right}
use Rattle.ooo_sound_text.proofs.Turns.{Leads, leads_on, members_lead, setups_lead, stays}

-- what is set up is read of a text in a part of this scope, and what is registered behind it leads to this
pub record IsSetUp (ms : Modules) (s : Scope) (end : Registered) (x : CheckedSetup) : Type 0 where
  pub scope : Scope
  pub text : Setup
  pub before : Sofar
  pub inside : IsInside scope s
  pub is : (setup_of ms scope text before).tree ≡ x
  pub right : AreRight (setup_of ms scope text before).notes
  pub leads : Leads (setup_of ms scope text before).behind.registered end

-- the first of a list
first_is : {A : Type 0} (x y : A) → Some x ≡ Some y → x ≡ y
first_is x y h = cc

nothing : {A : Type 0} (x : A) → None ≡ Some x → ⊥
nothing x h = absurd cc

module _ (ms : Modules) (module_name : List ℕ) (initialised s : Scope) (end : Registered) where
  -- ---- the statements of a constructor

  setups_are : (scope : Scope) → IsInside scope s → (xs : List Setup) (before : Sofar) →
      AreRight (setups_of ms scope xs before).notes → Leads (setups_of ms scope xs before).behind.registered end →
      (place : ℕ) (x : CheckedSetup) →
      slice_get (setups_of ms scope xs before).tree place ≡ Some x → IsSetUp ms s end x
  setups_are scope inside [] before right leads place x at = absurd (nothing x at)
  setups_are scope inside (y ∷ ys) before right leads zero x at =
      let first = setup_of ms scope y before in
      let others = setups_of ms scope ys first.behind in record {
        scope = scope;
        text = y;
        before = before;
        inside = inside;
        is = first_is first.tree x at;
        right = first_right first.notes others.notes right;
        leads = leads_on first.behind.registered others.behind.registered end
            (setups_lead ms scope ys first.behind) leads;
      }
  setups_are scope inside (y ∷ ys) before right leads (suc place) x at =
      let first = setup_of ms scope y before in
      let others = setups_of ms scope ys first.behind in
      setups_are scope inside ys first.behind (then_right first.notes others.notes right) leads place x at

  constructor_is : (c : Constructor) (before : Sofar) → AreRight (constructor_of ms module_name s c before).notes →
      Leads (constructor_of ms module_name s c before).behind.registered end → (place : ℕ) (x : CheckedSetup) →
      slice_get (setups_in (Some (constructor_of ms module_name s c before).tree)) place ≡ Some x → IsSetUp ms s end x
  constructor_is (constructor.Named w inits xs) before right leads place x at =
      let is = all_notes (inits_of ms inits (entered s) s) in
      let ss = setups_of ms (entered s) xs before in
      setups_are (entered s) (block_inside s s (itself s)) xs before
      (then_right is ss.notes
      (then_right (constructor_notes module_name before.has_constructor w) (is ++ ss.notes) right)) leads place x at
  constructor_is (constructor.Written w own_name params inits xs) before right leads place x at =
      let head = head_of own_name params s in
      let is = all_notes (inits_of ms inits head.scope s) in
      let ss = setups_of ms head.scope xs before in
      setups_are head.scope (head_inside own_name params s) xs before
      (then_right (head.notes ++ is) ss.notes
      (then_right (constructor_notes module_name before.has_constructor w) (head.notes ++ is ++ ss.notes) right))
      leads place x at

  -- ---- members

  same_constructor : (c d : CheckedConstructor) → checked.Constructor c ≡ checked.Constructor d → c ≡ d
  same_constructor c d h = cc

  member_is : (m : Member) (before : Sofar) (c : CheckedConstructor) →
      (member_of ms module_name initialised s m before).tree ≡ checked.Constructor c →
      AreRight (member_of ms module_name initialised s m before).notes →
      Leads (member_of ms module_name initialised s m before).behind.registered end → (place : ℕ) (x : CheckedSetup) →
      slice_get (setups_in (Some c)) place ≡ Some x → IsSetUp ms s end x
  member_is (member.Constructor d) before c is right leads place x at =
      constructor_is d before right leads place x
      (ap (λ k. slice_get (setups_in (Some k)) place)
      (same_constructor (constructor_of ms module_name s d before).tree c is) ∙ at)
  member_is _ before c is right leads place x at = absurd cc

  members_are : (members : List Member) (before : Sofar) →
      AreRight (members_of ms module_name initialised s members before).notes →
      Leads (members_of ms module_name initialised s members before).behind.registered end → (k : ℕ) (c : CheckedConstructor) →
      slice_get (members_of ms module_name initialised s members before).tree k ≡ Some (checked.Constructor c) →
      (place : ℕ) (x : CheckedSetup) → slice_get (setups_in (Some c)) place ≡ Some x → IsSetUp ms s end x
  members_are [] before right leads k c there place x at = absurd (nothing (checked.Constructor c) there)
  members_are (m ∷ members) before right leads zero c there place x at =
      let first = member_of ms module_name initialised s m before in
      let others = members_of ms module_name initialised s members first.behind in
      member_is m before c (first_is first.tree (checked.Constructor c) there) (first_right first.notes others.notes right)
      (leads_on first.behind.registered others.behind.registered end
      (members_lead ms module_name initialised s members first.behind) leads) place x at
  members_are (m ∷ members) before right leads (suc k) c there place x at =
      let first = member_of ms module_name initialised s m before in
      let others = members_of ms module_name initialised s members first.behind in
      members_are members first.behind (then_right first.notes others.notes right) leads k c there place x at

-- ---- the constructor of members

-- what is set up by the constructor at some place is set up by one of the members
pub record IsOfMember (members : List CheckedMember) (place : ℕ) (x : CheckedSetup) : Type 0 where
  pub member_place : ℕ
  pub by : CheckedConstructor
  pub there : slice_get members member_place ≡ Some (checked.Constructor by)
  pub at : slice_get (setups_in (Some by)) place ≡ Some x

found_member : (members : List CheckedMember) (k : ℕ) (m : Option CheckedMember) (place : ℕ)
    (x : CheckedSetup) → slice_get members k ≡ m →
    slice_get (setups_in (as_constructor m)) place ≡ Some x → IsOfMember members place x
found_member members k None place x is at = absurd (nothing x at)
found_member members k (Some (checked.Constructor c)) place x is at = record { member_place = k; by = c; there = is; at = at }
found_member members k (Some _) place x is at = absurd (nothing x at)

pub of_member : (members : List CheckedMember) (found : Option ℕ) (place : ℕ) (x : CheckedSetup) →
    slice_get (setups_in (constructor_at members found)) place ≡ Some x → IsOfMember members place x
of_member members None place x at = absurd (nothing x at)
of_member members (Some k) place x at = found_member members k (slice_get members k) place x refl at

-- what the constructor of members sets up that are read
pub set_up : (ms : Modules) (module_name : List ℕ) (initialised s : Scope) (members : List Member) (before : Sofar) →
    AreRight (members_of ms module_name initialised s members before).notes → (found : Option ℕ) (place : ℕ) (x : CheckedSetup) →
    slice_get (setups_in (constructor_at (members_of ms module_name initialised s members before).tree found)) place ≡ Some x →
    IsSetUp ms s (members_of ms module_name initialised s members before).behind.registered x
set_up ms module_name initialised s members before right found place x at =
    let read = members_of ms module_name initialised s members before in
    let o = of_member read.tree found place x at in
    members_are ms module_name initialised s read.behind.registered members before right (stays read.behind.registered)
    o.member_place o.by o.there place x o.at
