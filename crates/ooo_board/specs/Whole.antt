-- What is true of every board: what it keeps is what its steps make of it.
use Rattle.std.specs.Prelude.{◌≡◌, ℕ, ◌+◌, ◌<◌, ◌≤◌, ◌^◌, Bool, length, vec_len, vec_capacity}
use Rattle.std.specs.Global.{Vec}
use Rattle.ooo_code.specs.declared.design.Design.{Design}
use Rattle.ooo_code.specs.declared.limits.Limits.{Limits}
use Rattle.ooo_tables.specs.declared.tables.Tables.{Tables}
use Rattle.ooo_dispatch.specs.declared.step.Step.{Step}
use Rattle.ooo_board.specs.Boards.{running_in, some_of}
use Rattle.ooo_board.specs.Cores.{HasCore, after}
use Rattle.ooo_board.specs.Links.{AreLinks}
use Rattle.ooo_board.specs.declared.cores.Core.{Core}
use Rattle.ooo_board.specs.declared.links.Links.{Links}

pub record IsWhole (design : Design) (limits : Limits) (t : Tables) (l : Links) (c : Core) (schedule : Vec Step) (running : ℕ) (lost : Bool) : Type 0 where
  pub has : HasCore design limits t schedule.items c
  pub links_are : AreLinks design t l
  -- each channel has a number of 32 bits
  pub few : length design.channels < 2 ^ 32
  pub counted : running ≡ running_in c.states.items
  -- there is room for the step that ends each job
  pub room : vec_len schedule + running ≤ vec_capacity schedule
  pub is_lost : lost ≡ some_of (after design limits t schedule.items).abandoned
