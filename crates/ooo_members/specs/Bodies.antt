-- The parameters and the body of a function.
use Rattle.std.specs.Prelude.{ℕ, List, ◌++◌, false}
use Rattle.ooo_syntax.specs.declared.module.Param.{Param}
use Rattle.ooo_syntax.specs.declared.module.Function.{Function}
use Rattle.ooo_checked.specs.declared.context.Context.{Context}
use Rattle.ooo_checked.specs.declared.denotation.Thing.TheVariants as thing
use Rattle.ooo_checked.specs.declared.module.CheckedParam.{CheckedParam}
use Rattle.ooo_checked.specs.declared.module.CheckedFunction.{CheckedFunction}
use Rattle.ooo_checked.specs.Exprs.{kind_written, resolved}
use Rattle.ooo_checked.specs.Notes.{Checked}
use Rattle.ooo_checked.specs.Scopes.{Scope, entered, meaning_of, size_of}
use Rattle.ooo_checked.specs.Stats.{Stepped, in_order, stats_of}
use Rattle.ooo_members.specs.declared.known.FunctionFacts.{FunctionFacts}
use Rattle.ooo_members.specs.Declarations.{name_of, result_of}
use Rattle.ooo_members.specs.Known.{calls_in, triggers_in, waits_in}

-- a parameter
abbrev pub param_of : (outside : ℕ) → Param → Scope → Stepped CheckedParam
param_of outside p s =
    let name = name_of outside (thing.Parameter (kind_written p.form.form)) p.name s in
    record { tree = record { form = p.form; name = name.tree }; scope = name.scope; notes = name.notes }

-- parameters one after the other
abbrev pub params_of : (outside : ℕ) → List Param → Scope → Stepped (List CheckedParam)
params_of outside ps s = in_order (λ p s. param_of outside p s) ps s

-- where the statements of a function stand in a module with this scope
abbrev pub function_context : Function → Scope → Context
function_context f s = record { result = result_of f.result; outside = size_of s; in_loop = false }

-- a function: its parameters stand in a block of their own, and its statements in one within
abbrev pub function_of : Function → Scope → Checked CheckedFunction
function_of f s =
    let params = params_of (size_of s) f.params (entered s) in
    let body = stats_of f.body (function_context f s) (entered params.scope) in record {
      tree = record { result = f.result; name = resolved s f.name; params = params.tree; body = body.tree };
      notes = params.notes ++ body.notes;
    }

-- what has to be known of a function when all of its module is known
abbrev pub facts_of : Function → Scope → FunctionFacts
facts_of f s =
    let notes = (function_of f s).notes in record {
      number = (meaning_of s f.name.name).number;
      calls = calls_in notes;
      waits = waits_in notes;
      triggers = triggers_in notes;
    }
