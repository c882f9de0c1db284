-- A reader may be moved to another thread: it keeps nothing that belongs to the thread that made it.
use denote.Param.Send.{IsSend, recorded_send, sendable, struct_send}
use denote.Struct.Declared.{shape}
use Rattle.left_right.proofs.reader.Reader.TheSendSync as end
use Rattle.std.proofs.Crossing.{frees}
use Rattle.std.specs.contracts.alloc.Global as Heap
use Rattle.std.specs.contracts.impls.GlobalAllocator.TheImpl as Allocates
use Rattle.sv_board.proofs.shown.Shown.TheSendSync as shown
use Rattle.sv_board.specs.contracts.reader.BoardReader as BoardReader
use Rattle.sv_board.specs.contracts.role.Role as Role
use Rattle.sv_board.specs.contracts.rule.Rule as Rule
use Rattle.sv_board.specs.contracts.rule.RuleProtocolShownRole.TheImpl as Rules
use Rattle.sv_board.specs.contracts.shown.Shown as Shown

-- what is shown is only looked at, so each thread may; the other parts are numbers and a mark without bytes
pub board_reader_send : IsSend BoardReader.the_row
board_reader_send =
    recorded_send BoardReader.the_field.row _ _ BoardReader.the_type.to_one (struct_send (shape BoardReader.the_type) (
      end.the_field_send Shown.the_row Role.the_row Rule.the_row Heap.the_row Rules.ghosts Allocates.ghosts
          (search sendable depth 12) (search (shown.the_field_sync, sendable) depth 20) (search sendable depth 12) frees,
      (search sendable, (search sendable, (search sendable depth 40, tt))),
    ))
