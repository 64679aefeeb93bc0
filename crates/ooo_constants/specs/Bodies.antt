-- What is wrong with the constant times of a body, and which functions it calls.
use Rattle.std.specs.Prelude.{ℕ, ◌==◌, nat_lt, List, [], ◌∷◌, ◌++◌, Bool, ◌&&◌, ◌||◌, Option, Some, None, Result, Ok, Err, if◌then◌else◌}
use Rattle.ooo_lexer.specs.declared.position.Position.{Position}
use Rattle.ooo_time.specs.declared.time.Time.{Time}
use Rattle.ooo_checked.specs.declared.expr.CheckedExpr.{CheckedExpr, CheckedExpr-F, out-CheckedExpr}
use Rattle.ooo_checked.specs.declared.expr.CheckedExpr.TheOpen as layer
use Rattle.ooo_checked.specs.declared.stat.CheckedAwaited.{CheckedAwaited}
use Rattle.ooo_checked.specs.declared.stat.CheckedAwaited.TheVariants as awaited
use Rattle.ooo_checked.specs.declared.stat.CheckedDeclarator.{CheckedDeclarator}
use Rattle.ooo_checked.specs.declared.stat.CheckedSimple.{CheckedSimple}
use Rattle.ooo_checked.specs.declared.stat.CheckedSimple.TheVariants as simple
use Rattle.ooo_checked.specs.declared.stat.CheckedStart.{CheckedStart}
use Rattle.ooo_checked.specs.declared.stat.CheckedStart.TheVariants as start
use Rattle.ooo_checked.specs.declared.stat.CheckedStat.{CheckedStat, CheckedStat-F, fold-CheckedStat}
use Rattle.ooo_checked.specs.declared.stat.CheckedStat.TheOpen as stat
use Rattle.ooo_checked.specs.declared.stat.CheckedTime.{CheckedTime}
use Rattle.ooo_constants.specs.declared.bodies.TimeRefusal.{TimeRefusal}
use Rattle.ooo_constants.specs.declared.times.TimeBreach.{TimeBreach}
use Rattle.ooo_constants.specs.Meanings.{Constants}
use Rattle.ooo_constants.specs.Times.{is_fixed_time, place_of, time_of}

-- ---- times

-- what is wrong with a time, if something is
abbrev pub refusal_of : Result Time TimeBreach → Position → List TimeRefusal
refusal_of (Ok t) at = []
refusal_of (Err what) at = record { what = what; at = at } ∷ []

-- what is wrong with a time in a body, which is looked at where it is known before the simulation
abbrev pub time_refusals : Constants → CheckedTime → List TimeRefusal
time_refusals c t = if is_fixed_time t then refusal_of (time_of c t) (place_of t) else []

-- the same of what a wait or a `next_trigger` waits for
abbrev pub wait_refusals : Constants → CheckedAwaited → List TimeRefusal
wait_refusals c awaited.Sensitive = []
wait_refusals c (awaited.Delay t) = time_refusals c t
wait_refusals c (awaited.Until t es) = time_refusals c t
wait_refusals c (awaited.Events es) = []

-- of a simple statement
abbrev pub simple_refusals : Constants → CheckedSimple → List TimeRefusal
simple_refusals c (simple.Notify r at t) = time_refusals c t
simple_refusals c (simple.Wait at w) = wait_refusals c w
simple_refusals c (simple.NextTrigger at w) = wait_refusals c w
simple_refusals c _ = []

-- of a simple statement, if there is one
abbrev pub step_refusals : Constants → Option CheckedSimple → List TimeRefusal
step_refusals c None = []
step_refusals c (Some x) = simple_refusals c x

-- of what a `for` begins with
abbrev pub start_refusals : Constants → Option CheckedStart → List TimeRefusal
start_refusals c None = []
start_refusals c (Some (start.Local l)) = []
start_refusals c (Some (start.Simple x)) = simple_refusals c x

-- parts one after the other
abbrev pub all_of : {T : Type 0} → List (List T) → List T
all_of [] = []
all_of (xs ∷ others) = xs ++ all_of others

-- a part, if there is one
abbrev pub one_of : {T : Type 0} → Option (List T) → List T
one_of None = []
one_of (Some xs) = xs

abbrev pub stat_refusals_step : Constants → CheckedStat-F (List TimeRefusal) → List TimeRefusal
stat_refusals_step c (stat.Block at parts) = all_of parts
stat_refusals_step c (stat.Empty at) = []
stat_refusals_step c (stat.Local l) = []
stat_refusals_step c (stat.Simple x) = simple_refusals c x
stat_refusals_step c (stat.If at e f g) = f ++ one_of g
stat_refusals_step c (stat.While at e body) = body
stat_refusals_step c (stat.Do at body e) = body
stat_refusals_step c (stat.For at begin e after body) = start_refusals c begin ++ step_refusals c after ++ body
stat_refusals_step c (stat.Break at) = []
stat_refusals_step c (stat.Continue at) = []
stat_refusals_step c (stat.Return at e) = []

-- what is wrong with the constant times of a statement, in the order of the text
unfoldable pub stat_refusals : Constants → CheckedStat → List TimeRefusal
stat_refusals c = fold-CheckedStat (List TimeRefusal) (stat_refusals_step c)

-- of the statement after `else`, if there is one
abbrev pub else_refusals : Constants → Option CheckedStat → List TimeRefusal
else_refusals c None = []
else_refusals c (Some x) = stat_refusals c x

-- of statements one after the other
abbrev pub body_refusals : Constants → List CheckedStat → List TimeRefusal
body_refusals c [] = []
body_refusals c (x ∷ xs) = stat_refusals c x ++ body_refusals c xs

-- an earlier place of a text
abbrev pub stands_before : Position → Position → Bool
stands_before a b = nat_lt a.line b.line || (a.line == b.line && nat_lt a.column b.column)

-- of what was told so far and one more, what stands first
abbrev pub told : Option TimeRefusal → TimeRefusal → Option TimeRefusal
told None b = Some b
told (Some a) b = if stands_before b.at a.at then Some b else Some a

-- of what was told so far and others, what stands first
abbrev pub told_of : Option TimeRefusal → List TimeRefusal → Option TimeRefusal
told_of first [] = first
told_of first (x ∷ xs) = told_of (told first x) xs

-- ---- calls

-- the function that a whole right side calls, if it calls one
abbrev pub right_step : CheckedExpr-F CheckedExpr → List ℕ
right_step (layer.Call k r args) = r.denotes.number ∷ []
right_step _ = []

abbrev pub right_calls : CheckedExpr → List ℕ
right_calls e = right_step (out-CheckedExpr e)

-- of an initial value, if there is one
abbrev pub initial_calls : Option CheckedExpr → List ℕ
initial_calls None = []
initial_calls (Some e) = right_calls e

-- of declarators one after the other
abbrev pub declarator_calls : List CheckedDeclarator → List ℕ
declarator_calls [] = []
declarator_calls (d ∷ ds) = initial_calls d.value ++ declarator_calls ds

-- of a simple statement
abbrev pub simple_calls : CheckedSimple → List ℕ
simple_calls (simple.Assign t op e) = right_calls e
simple_calls (simple.Call r args) = r.denotes.number ∷ []
simple_calls _ = []

-- of a simple statement, if there is one
abbrev pub step_calls : Option CheckedSimple → List ℕ
step_calls None = []
step_calls (Some x) = simple_calls x

-- of what a `for` begins with
abbrev pub start_calls : Option CheckedStart → List ℕ
start_calls None = []
start_calls (Some (start.Local l)) = declarator_calls l.names
start_calls (Some (start.Simple x)) = simple_calls x

abbrev pub stat_calls_step : CheckedStat-F (List ℕ) → List ℕ
stat_calls_step (stat.Block at parts) = all_of parts
stat_calls_step (stat.Empty at) = []
stat_calls_step (stat.Local l) = declarator_calls l.names
stat_calls_step (stat.Simple x) = simple_calls x
stat_calls_step (stat.If at e f g) = f ++ one_of g
stat_calls_step (stat.While at e body) = body
stat_calls_step (stat.Do at body e) = body
stat_calls_step (stat.For at begin e after body) = start_calls begin ++ step_calls after ++ body
stat_calls_step (stat.Break at) = []
stat_calls_step (stat.Continue at) = []
stat_calls_step (stat.Return at e) = []

-- the functions that a statement calls, by their numbers, in the order of the text
unfoldable pub stat_calls : CheckedStat → List ℕ
stat_calls = fold-CheckedStat (List ℕ) stat_calls_step

-- of the statement after `else`, if there is one
abbrev pub else_calls : Option CheckedStat → List ℕ
else_calls None = []
else_calls (Some x) = stat_calls x

-- of statements one after the other
abbrev pub body_calls : List CheckedStat → List ℕ
body_calls [] = []
body_calls (x ∷ xs) = stat_calls x ++ body_calls xs
