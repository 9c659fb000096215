-- A call stays within what it is lent.
use Rattle.recording.specs.Call.{deck_of}
use Rattle.listing_main.proofs.Within.{call-within}
use Rattle.listing_main.proofs.Listing.call.Goals as goal

pub returns-in-Ok-Room : goal.returns-in-Ok-Room
returns-in-Ok-Room g c =
    let b = c.args.self.now in
    (call-within (deck_of b.recording.tape b.recv b.word) b.recording.totals c.args.piece.now b.out _ c.take-took.ensures).0
