-- Each step writes a byte at least, or ends the call.
use Rattle.std.proofs.Common.{◌-◌, length}
use Rattle.recording.specs.Call.{deck_of}
use Rattle.listing.specs.Call.{print}
use Rattle.listing.proofs.Output.{Far}
use Rattle.listing.proofs.lister.Lister.take_on.Given as goal

abbrev pub invariant-loop-wants : goal.invariant-loop-wants
invariant-loop-wants l =
    let n = length l.initial.out in
    Far (print n n (deck_of l.fn.self.tape l.initial.recv l.initial.word) l.fn.self.totals l.piece) l.piece l.initial.out l.i l.w l.next l.recv l.word l.out

abbrev pub decreases-loop-wants : goal.decreases-loop-wants
decreases-loop-wants l = length l.out - l.w
