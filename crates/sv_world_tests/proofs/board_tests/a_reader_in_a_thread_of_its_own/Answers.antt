use denote.Param.Send.{sendable}
use Rattle.sv_board.proofs.Crossing.{board_reader_send}
use Rattle.sv_world_tests.proofs.board_tests.a_reader_in_a_thread_of_its_own.Goals as goal

pub spawn-requires-send-F : goal.spawn-requires-send-F
spawn-requires-send-F g c κs = search (board_reader_send, sendable) depth 20
