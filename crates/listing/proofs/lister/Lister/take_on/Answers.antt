-- The loop's start, a step that ends the call, and one behind which it goes on.
use Rattle.std.proofs.Common.{◌≡◌, None, rules}
use Rattle.listing.proofs.Output.{far-start, far-on, far-done}
use Rattle.listing.proofs.lister.Lister.take_on.Goals as goal

pub loop-wants-init : goal.loop-wants-init
loop-wants-init c =
    far-start c.args.self c.args.recv.now c.args.word.now c.args.piece.now c.args.out.now c.requires.0 c.requires.1 c.requires.2

pub returns-in-Some : goal.returns-in-Some
returns-in-Some c = far-done c.loop-wants.invariant c.step-s.result c.step-s.ensures c.in-Some.wants c.in-Some.is

pub loop-wants-preserved : goal.loop-wants-preserved
loop-wants-preserved c =
    let e : c.step-s.result.wants ≡ None = search rules in
    (far-on c.loop-wants.invariant c.step-s.result c.step-s.ensures e).0
