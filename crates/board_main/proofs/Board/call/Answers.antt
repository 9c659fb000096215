-- A call stays within what it is lent.
use Rattle.board.specs.Call.{screen_of}
use Rattle.board_main.proofs.Within.{call-within}
use Rattle.board_main.proofs.Board.call.Goals as goal

pub returns-in-Ok-Again : goal.returns-in-Ok-Again
returns-in-Ok-Again g c =
    let b = c.args.self.now in (call-within (screen_of b.readout b.recv b.word) c.args.piece.now b.out _ c.take-took.ensures).0
