-- A module: its members, and what hangs on all of its functions.
use Rattle.std.specs.Prelude.{ℕ, ◌-◌, List, [], ◌∷◌, ◌++◌, length, replicate, false}
use Rattle.ooo_syntax.specs.declared.module.Init.{Init}
use Rattle.ooo_syntax.specs.declared.module.Constructor.{Constructor}
use Rattle.ooo_syntax.specs.declared.module.Constructor.TheVariants as constructor
use Rattle.ooo_syntax.specs.declared.module.Member.{Member}
use Rattle.ooo_syntax.specs.declared.module.Member.TheVariants as member
use Rattle.ooo_syntax.specs.declared.module.Module.{Module}
use Rattle.ooo_checked.specs.declared.denotation.Resolved.{Resolved}
use Rattle.ooo_checked.specs.declared.module.CheckedModule.{CheckedModule}
use Rattle.ooo_checked.specs.Notes.{Checked}
use Rattle.ooo_checked.specs.Scopes.{Scope, declared, entered, size_of, unknown}
use Rattle.ooo_members.specs.declared.known.ModuleFacts.{ModuleFacts}
use Rattle.ooo_members.specs.declared.known.Sofar.{Sofar}
use Rattle.ooo_members.specs.Declarations.{members_names}
use Rattle.ooo_members.specs.Known.{Modules, not_registered}
use Rattle.ooo_members.specs.Members.{functions_of, members_of}
use Rattle.ooo_types.specs.Processes.{all_edges, functions_notes}

-- ---- constructors

-- the members that a constructor initialises
abbrev pub inits_in : Constructor → List Init
inits_in (constructor.Named w inits xs) = inits
inits_in (constructor.Written w own_name params inits xs) = inits

-- a scope with the names that initialisers name
abbrev pub with_inits : List Init → Scope → Scope
with_inits [] s = s
with_inits (i ∷ is) s = with_inits is (declared s i.name.name unknown)

-- the same of all constructors among members
abbrev pub initialised_by : List Member → Scope → Scope
initialised_by [] s = s
initialised_by (member.Constructor c ∷ ms) s = initialised_by ms (with_inits (inits_in c) s)
initialised_by (m ∷ ms) s = initialised_by ms s

-- how many parameters a constructor has
abbrev pub params_in : Constructor → ℕ
params_in (constructor.Named w inits xs) = 0
params_in (constructor.Written w own_name params inits xs) = length params

-- how many parameters the first constructor has; none where there is no constructor
abbrev pub params_count : List Member → ℕ
params_count [] = 0
params_count (member.Constructor c ∷ ms) = params_in c
params_count (m ∷ ms) = params_count ms

-- ---- modules

-- what is known of a module behind its declaration: its names by themselves, of which only the ports are asked
abbrev pub facts_of : Module → ModuleFacts
facts_of m = record { names = (members_names 0 m.members (entered [])).scope; params = params_count m.members }

-- nothing is set up yet, of so many names
abbrev pub at_first : ℕ → Sofar
at_first names = record { registered = replicate names not_registered; has_process = false; has_constructor = false }

-- a module with its name, behind others
abbrev pub module_of : Modules → Resolved → Module → (file : Scope) → Checked CheckedModule
module_of ms name m file =
    let names = members_names (size_of file) m.members (entered file) in
    let s = names.scope in
    let members = members_of ms m.name.name (initialised_by m.members (entered [])) s m.members
    (at_first (size_of s - size_of file)) in
    let functions = functions_of m.members s in record {
      tree = record { name = name; members = members.tree };
      notes = names.notes ++ members.notes ++ functions_notes (all_edges functions) members.behind.registered functions;
    }
