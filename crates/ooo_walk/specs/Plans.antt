-- Where the parts of modules stand.
use Rattle.std.specs.Prelude.{ℕ, zero, suc, ◌+◌, List, [], ◌∷◌, ◌++◌, length, replicate, Bool, true, false, Option, Some, None, slice_get, slice_set, if◌then◌else◌}
use Rattle.ooo_checked.specs.declared.denotation.Thing.{Thing}
use Rattle.ooo_checked.specs.declared.denotation.Thing.TheVariants as thing
use Rattle.ooo_checked.specs.declared.module.CheckedArg.{CheckedArg}
use Rattle.ooo_checked.specs.declared.module.CheckedConstructor.{CheckedConstructor}
use Rattle.ooo_checked.specs.declared.module.CheckedConstructor.TheVariants as constructor
use Rattle.ooo_checked.specs.declared.module.CheckedFunction.{CheckedFunction}
use Rattle.ooo_checked.specs.declared.module.CheckedInit.{CheckedInit}
use Rattle.ooo_checked.specs.declared.module.CheckedMember.{CheckedMember}
use Rattle.ooo_checked.specs.declared.module.CheckedMember.TheVariants as member
use Rattle.ooo_checked.specs.declared.module.CheckedModule.{CheckedModule}
use Rattle.ooo_checked.specs.declared.module.CheckedParam.{CheckedParam}
use Rattle.ooo_checked.specs.declared.module.CheckedSetup.{CheckedSetup}
use Rattle.ooo_checked.specs.declared.unit.CheckedUnitItem.{CheckedUnitItem}
use Rattle.ooo_checked.specs.declared.unit.CheckedUnitItem.TheVariants as item
use Rattle.ooo_checked.specs.Things.{is_known}
use Rattle.ooo_walk.specs.declared.plan.Modules.{Modules}
use Rattle.ooo_walk.specs.declared.plan.Plan.{Plan}
use Rattle.ooo_walk.specs.declared.plan.View.{View}

-- ---- members

-- how many names a member declares
abbrev pub names_in : CheckedMember → ℕ
names_in member.Public = 0
names_in (member.Constant c) = 1
names_in (member.HasProcess w) = 0
names_in (member.Fields f) = length f.fields
names_in (member.Ports p) = length p.names
names_in (member.Clocks names) = length names
names_in (member.Channels c) = length c.parts
names_in (member.Events names) = length names
names_in (member.Children c) = length c.parts
names_in (member.Function f) = 1
names_in (member.Constructor c) = 0

-- of each name that members declare, the place of its member, where the first of them has this place
abbrev pub places_from : ℕ → List CheckedMember → List ℕ
places_from place [] = []
places_from place (m ∷ ms) = replicate (names_in m) place ++ places_from (place + 1) ms

-- the place of the last constructor among members, of which there is one at most
abbrev pub constructor_from : Option ℕ → ℕ → List CheckedMember → Option ℕ
constructor_from found place [] = found
constructor_from found place (member.Constructor c ∷ ms) = constructor_from (Some place) (place + 1) ms
constructor_from found place (m ∷ ms) = constructor_from found (place + 1) ms

-- ---- constructors

-- the constructor at a place
abbrev pub as_constructor : Option CheckedMember → Option CheckedConstructor
as_constructor (Some (member.Constructor c)) = Some c
as_constructor _ = None

abbrev pub constructor_at : List CheckedMember → Option ℕ → Option CheckedConstructor
constructor_at ms None = None
constructor_at ms (Some place) = as_constructor (slice_get ms place)

-- its parameters behind the module's name, what it initialises and what it sets up
abbrev pub params_of : Option CheckedConstructor → List CheckedParam
params_of (Some (constructor.Written w own_name params inits xs)) = params
params_of _ = []

abbrev pub inits_of : Option CheckedConstructor → List CheckedInit
inits_of None = []
inits_of (Some (constructor.Named w inits xs)) = inits
inits_of (Some (constructor.Written w own_name params inits xs)) = inits

abbrev pub setups_of : Option CheckedConstructor → List CheckedSetup
setups_of None = []
setups_of (Some (constructor.Named w inits xs)) = xs
setups_of (Some (constructor.Written w own_name params inits xs)) = xs

-- of each name, the place of the initialiser that counts, where the first of them has this place: the last of a name counts
abbrev pub counted_with : CheckedInit → ℕ → List (Option ℕ) → List (Option ℕ)
counted_with i place table = if is_known i.name.denotes.thing then slice_set table i.name.denotes.number (Some place) else table

abbrev pub counted_from : List (Option ℕ) → ℕ → List CheckedInit → List (Option ℕ)
counted_from table place [] = table
counted_from table place (i ∷ is) = counted_from (counted_with i place table) (place + 1) is

-- ---- plans

-- where the parts of a module with these members stand, which is declared at this place of the file
abbrev pub plan_of : (place : ℕ) → List CheckedMember → Plan
plan_of place ms =
    let places = places_from 0 ms in
    let c = constructor_from None 0 ms in record {
      item = place;
      places = places;
      constructor = c;
      inits = counted_from (replicate (length places) None) 0 (inits_of (constructor_at ms c));
    }

-- of each name that the file declares, where the parts of its module stand
abbrev pub plans_from : (place : ℕ) → List CheckedUnitItem → List Plan
plans_from place [] = []
plans_from place (item.Using library ∷ xs) = plans_from (place + 1) xs
plans_from place (item.Constant c ∷ xs) = plan_of place [] ∷ plans_from (place + 1) xs
plans_from place (item.Module m ∷ xs) = plan_of place m.members ∷ plans_from (place + 1) xs

-- ---- views

-- a module: its members, where they stand, and the parts of its constructor
pub record Viewed : Type 0 where
  pub members : List CheckedMember
  pub places : List ℕ
  pub params : List CheckedParam
  pub inits : List CheckedInit
  pub setups : List CheckedSetup
  pub counts : List (Option ℕ)

-- the same, as it is lent
abbrev pub viewed : View → Viewed
viewed v = record {
  members = v.members.now;
  places = v.places.now;
  params = v.params.now;
  inits = v.inits.now;
  setups = v.setups.now;
  counts = v.counts.now;
}

-- a module by its plan
abbrev pub view_by : List CheckedMember → Plan → Viewed
view_by ms p =
    let c = constructor_at ms p.constructor in record {
      members = ms;
      places = p.places;
      params = params_of c;
      inits = inits_of c;
      setups = setups_of c;
      counts = p.inits;
    }

-- nothing
abbrev pub empty_view : Viewed
empty_view = record { members = []; places = []; params = []; inits = []; setups = []; counts = [] }

-- the declarations of the file, with the plans of its names
pub record Filed : Type 0 where
  pub items : List CheckedUnitItem
  pub plans : List Plan

abbrev pub filed : Modules → Filed
filed ms = record { items = ms.items.now; plans = ms.plans.now }

-- the members of a declaration, if it is a module
abbrev pub members_in : Option CheckedUnitItem → List CheckedMember
members_in (Some (item.Module m)) = m.members
members_in _ = []

-- the module of a number among the names of the file; of another name nothing
abbrev pub view_planned : List CheckedUnitItem → Option Plan → Viewed
view_planned items None = empty_view
view_planned items (Some p) = view_by (members_in (slice_get items p.item)) p

abbrev pub view_at : Filed → ℕ → Viewed
view_at f n = view_planned f.items (slice_get f.plans n)

-- ---- parts of a module

-- the function that a member is
abbrev pub as_function : Option CheckedMember → Option CheckedFunction
as_function (Some (member.Function f)) = Some f
as_function _ = None

-- the member that declares a name
abbrev pub member_placed : List CheckedMember → Option ℕ → Option CheckedMember
member_placed ms None = None
member_placed ms (Some place) = slice_get ms place

-- the function of a number among the names of the module, if it is one
abbrev pub function_at : Viewed → ℕ → Option CheckedFunction
function_at v n = as_function (member_placed v.members (slice_get v.places n))

-- the arguments of an initialiser
abbrev pub args_in : Option CheckedInit → List CheckedArg
args_in None = []
args_in (Some i) = i.args

abbrev pub init_placed : List CheckedInit → Option (Option ℕ) → Option CheckedInit
init_placed is (Some (Some place)) = slice_get is place
init_placed is _ = None

-- what the initialiser of a name is given; nothing where it has none
abbrev pub init_args : Viewed → ℕ → List CheckedArg
init_args v n = args_in (init_placed v.inits (slice_get v.counts n))
