-- What remains of a body to be done, as a list of items (ISO C++ [stmt]).
use Rattle.std.specs.Prelude.{ℕ, List, [], ◌∷◌, Option, Some, None}
use Rattle.ooo_value.specs.declared.kinds.Kind.{Kind}
use Rattle.ooo_value.specs.declared.values.Value.{Value}
use Rattle.ooo_bound.specs.declared.expr.BoundExpr.{BoundExpr}
use Rattle.ooo_bound.specs.declared.stat.BoundStat.{BoundStat, BoundStat-F, para-BoundStat}
use Rattle.ooo_bound.specs.declared.stat.BoundStat.TheOpen as layer
use Rattle.ooo_bound.specs.declared.stat.BoundTarget.{BoundTarget}
use Rattle.ooo_bound.specs.declared.stat.LinedSimple.{LinedSimple}
use Rattle.ooo_activation.specs.Locals.{Locals}

-- ---- items

-- a loop: the line of its test, its test if it has one, what it does after each turn if it says so, and its body
pub record Loop : Type 0 where
  pub line : ℕ
  pub test : Option BoundExpr
  pub after : Option LinedSimple
  pub body : BoundStat

-- what remains to be done. `Begin`, `Again` and `Leave` count nothing against the statement limit.
pub data Item : Type 0 where
  -- a statement without statements in it
  Do : LinedSimple → Item
  -- a blocking write of a fifo whose value is evaluated
  Putting : (line fifo : ℕ) → Value → Item
  -- the test of an `if`, and its two branches
  Choose : (line : ℕ) → BoundExpr → BoundStat → Option BoundStat → Item
  -- a loop that begins with its body
  Begin : Loop → Item
  -- the test of a loop
  Check : Loop → Item
  -- the body of a loop is done: what follows each turn, and the test
  Again : Loop → Item
  Break : (line : ℕ) → Item
  Continue : (line : ℕ) → Item
  Return : (line : ℕ) → Option BoundExpr → Item
  -- the end of a called function: what its result is put into, the kind of that, the result so far, and the locals of
  -- the caller
  Leave : (line : ℕ) → BoundTarget → Option Kind → Value → Locals → Item

-- ---- a statement before what remains

-- what remains with a statement before it
abbrev pub Enter : Type 0
Enter = List Item → List Item

-- statements one after the other
abbrev pub through : List (BoundStat × Enter) → List Item → List Item
through [] rest = rest
through (p ∷ ps) rest = p.1 (through ps rest)

-- simple statements one after the other
abbrev pub first_do : List LinedSimple → List Item → List Item
first_do [] rest = rest
first_do (x ∷ xs) rest = Do x ∷ first_do xs rest

-- a simple statement, if there is one
abbrev pub maybe_do : Option LinedSimple → List Item → List Item
maybe_do None rest = rest
maybe_do (Some x) rest = Do x ∷ rest

abbrev pub maybe_stat : {F : Type 0} → Option (BoundStat × F) → Option BoundStat
maybe_stat None = None
maybe_stat (Some p) = Some p.0

-- `while` and `do`, which do nothing after a turn
abbrev pub while_loop : (line : ℕ) → BoundExpr → BoundStat → Loop
while_loop line e body = record { line = line; test = Some e; after = None; body = body }

-- a `for`, whose test may be left out
abbrev pub for_loop : (line : ℕ) → Option BoundExpr → Option LinedSimple → BoundStat → Loop
for_loop line e after body = record { line = line; test = e; after = after; body = body }

-- a block gives its parts; any other statement an item, which a `for` has behind what it begins with
abbrev pub enter_step : BoundStat-F (BoundStat × Enter) → Enter
enter_step (layer.Block parts) rest = through parts rest
enter_step (layer.Simple x) rest = Do x ∷ rest
enter_step (layer.If line e a b) rest = Choose line e a.0 (maybe_stat b) ∷ rest
enter_step (layer.While line e a) rest = Check (while_loop line e a.0) ∷ rest
enter_step (layer.Do line a e) rest = Begin (while_loop line e a.0) ∷ rest
enter_step (layer.For line begin e after a) rest = first_do begin (Check (for_loop line e after a.0) ∷ rest)
enter_step (layer.Break line) rest = Break line ∷ rest
enter_step (layer.Continue line) rest = Continue line ∷ rest
enter_step (layer.Return line e) rest = Return line e ∷ rest

-- what remains with a statement before it
unfoldable pub entered : BoundStat → List Item → List Item
entered s rest = para-BoundStat Enter enter_step s rest

-- the same of a statement, if there is one
abbrev pub entered_if : Option BoundStat → List Item → List Item
entered_if None rest = rest
entered_if (Some s) rest = entered s rest

-- the same of the statements of a body
abbrev pub entered_all : List BoundStat → List Item → List Item
entered_all [] rest = rest
entered_all (s ∷ ss) rest = entered s (entered_all ss rest)

-- ---- a statement begun

-- what remains where a statement begins: in place of a `do` stands what its body begins with, and `none` where the
-- statement does nothing
abbrev pub Open : Type 0
Open = (none rest : List Item) → List Item

abbrev pub rest_entered : List (BoundStat × Open) → List Item → List Item
rest_entered [] rest = rest
rest_entered (p ∷ ps) rest = entered p.0 (rest_entered ps rest)

-- of statements one after the other the first that does something is begun
abbrev pub open_first : List (BoundStat × Open) → Open
open_first [] none rest = none
open_first (p ∷ ps) none rest = p.1 (open_first ps none rest) (rest_entered ps rest)

abbrev pub open_step : BoundStat-F (BoundStat × Open) → Open
open_step (layer.Block parts) none rest = open_first parts none rest
open_step (layer.Simple x) none rest = Do x ∷ rest
open_step (layer.If line e a b) none rest = Choose line e a.0 (maybe_stat b) ∷ rest
open_step (layer.While line e a) none rest = Check (while_loop line e a.0) ∷ rest
open_step (layer.Do line a e) none rest =
    let loop = while_loop line e a.0 in a.1 (Check loop ∷ rest) (Again loop ∷ rest)
open_step (layer.For line begin e after a) none rest = first_do begin (Check (for_loop line e after a.0) ∷ rest)
open_step (layer.Break line) none rest = Break line ∷ rest
open_step (layer.Continue line) none rest = Continue line ∷ rest
open_step (layer.Return line e) none rest = Return line e ∷ rest

unfoldable pub opened : BoundStat → Open
opened s none rest = para-BoundStat Open open_step s none rest

-- ---- jumps ([stmt.jump])

-- what remains after a `break`: what stands behind the loop
abbrev pub after_loop : List Item → List Item
after_loop [] = []
after_loop (Again l ∷ rest) = rest
after_loop (Leave line t k v saved ∷ rest) = Leave line t k v saved ∷ rest
after_loop (_ ∷ rest) = after_loop rest

-- what remains after a `continue`: the end of the loop's body
abbrev pub at_loop : List Item → List Item
at_loop [] = []
at_loop (Again l ∷ rest) = Again l ∷ rest
at_loop (Leave line t k v saved ∷ rest) = Leave line t k v saved ∷ rest
at_loop (_ ∷ rest) = at_loop rest
