-- A board may go to another thread.
use mathlib.Core.List.{[], ◌∷◌}
use mir.Syntax.{Sym}
use denote.RattleType.{RattleType}
use denote.Struct.Tuple.{TupleAt}
use denote.Param.Send.{IsSend, IsSync, sendable, view_send}
use Rattle.std.proofs.Crossing.{crosses}
use Rattle.sqlite_items.specs.contracts.boxed.Boxed as boxed
use Rattle.ooo_code.proofs.expression.NodeExpr.TheLaws.TheKnot.{send-NodeExpr, sync-NodeExpr}
use Rattle.ooo_code.specs.contracts.expression.NodeExpr as expression
use Rattle.ooo_code.specs.contracts.node.NodeTime as time
use Rattle.ooo_code.specs.contracts.node.Node as node
use Rattle.ooo_code.specs.contracts.design.Design as design
use Rattle.ooo_code.specs.contracts.node.NodeWait as wait
use Rattle.ooo_code.specs.contracts.node.NodeKind as kind
use Rattle.ooo_code.specs.contracts.limits.Limits as limits
use Rattle.ooo_tables.proofs.tables.Tables.TheSendSync.{the_field_send as of_tables}
use Rattle.ooo_board.specs.contracts.board.Board as board
use Rattle.std.specs.contracts.option.Option as option
use Rattle.atomic_table.proofs.shared.Seat.TheSendSync.{the_send as of_seat}
use Rattle.atomic_table.proofs.shared.Shared.TheSendSync.{the_sync as of_shared}
use Rattle.atomic_table.proofs.owned.Table.TheSendSync.{the_field_sync as of_table}
use Rattle.ooo_workers.specs.contracts.board_box.BoardBox as box
use Rattle.ooo_workers.specs.contracts.board_box.BoardBox.TheInside as box_inside
use Rattle.ooo_workers.specs.contracts.view.Pass as pass
use Rattle.ooo_workers.specs.contracts.view.Pass.TheInside as pass_inside
use Rattle.ooo_workers.specs.contracts.yard.Yard as yard
use Rattle.ooo_board.specs.contracts.board.Board.TheInside as inside
use Rattle.ooo_board.proofs.cores.Core.TheSendSync.{the_field_send as of_core}
use Rattle.ooo_board.proofs.links.Links.TheSendSync.{the_field_send as of_links}
use Rattle.ooo_board.proofs.spares.Spares.TheSendSync.{the_field_send as of_spares}

boxed_send : (h : RattleType) → IsSend h → IsSend (boxed.the_row h)
boxed_send h s = search (sendable, crosses) depth 60

boxed_sync : (h : RattleType) → IsSync h → IsSync (boxed.the_row h)
boxed_sync h s = search (sendable, crosses) depth 60

pub expression_send : IsSend (expression.the_field).row
expression_send = send-NodeExpr (search sendable depth 60) (search sendable depth 60) boxed_send (search sendable depth 60) (search sendable depth 60) (search sendable depth 60)

pub expression_sync : IsSync (expression.the_field).row
expression_sync = sync-NodeExpr (search sendable depth 60) (search sendable depth 60) boxed_sync (search sendable depth 60) (search sendable depth 60) (search sendable depth 60)

time_send : IsSend (time.the_field).row
time_send = search (sendable, crosses, expression_send) depth 60

time_sync : IsSync (time.the_field).row
time_sync = search (sendable, crosses, expression_sync) depth 60

wait_send : IsSend (wait.the_field).row
wait_send = search (sendable, crosses, time_send) depth 60

wait_sync : IsSync (wait.the_field).row
wait_sync = search (sendable, crosses, time_sync) depth 60

kind_send : IsSend (kind.the_field).row
kind_send = search (sendable, crosses, expression_send, time_send, wait_send) depth 60

kind_sync : IsSync (kind.the_field).row
kind_sync = search (sendable, crosses, expression_sync, time_sync, wait_sync) depth 60

node_send : IsSend (node.the_field).row
node_send = search (sendable, crosses, kind_send) depth 60

node_sync : IsSync (node.the_field).row
node_sync = search (sendable, crosses, kind_sync) depth 60

pub design_send : IsSend design.the_row
design_send = search (sendable, crosses, node_send) depth 60

pub design_sync : IsSync design.the_row
design_sync = search (sendable, crosses, node_sync) depth 60

limits_here : IsSend (limits.the_field).row
limits_here = search sendable depth 60

inside_send : IsSend inside.the_row
inside_send = search (sendable, crosses, design_send, design_sync, of_tables, of_core, of_links, of_spares, limits_here) depth 100

pub board_send : IsSend board.the_row
board_send = view_send inside.the_row _ _ _ _ inside_send

box_inside_send : IsSend box_inside.the_row
box_inside_send = search (sendable, crosses, board_send) depth 60

pub box_send : IsSend box.the_row
box_send = view_send box_inside.the_row _ _ _ _ box_inside_send

maybe_box_send : IsSend (option.the_row box.the_row)
maybe_box_send = search (sendable, box_send) depth 60

pass_inside_send : IsSend pass_inside.the_row
pass_inside_send = search (sendable, crosses, maybe_box_send, of_seat) depth 60

pub pass_send : IsSend pass.the_row
pass_send = view_send pass_inside.the_row _ _ _ _ pass_inside_send

pub yard_sync : IsSync yard.the_row
yard_sync = search (sendable, crosses, maybe_box_send, of_shared, of_table) depth 60

-- a closure over three captures
pub three_sync : (name : Sym) (A B C : RattleType) → IsSync A → IsSync B → IsSync C → IsSync (TupleAt name (A ∷ B ∷ C ∷ []))
three_sync name A B C a b c = search sendable depth 40
