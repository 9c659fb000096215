-- Before the first byte, behind one more, and where all that is owed is out.
use Rattle.std.proofs.Common.{arith, refl, sym, ◌∙◌}
use Rattle.std.proofs.lemmas.List.{set-get_or}
use borrow.Author.Tests.{leb-true}
use Rattle.listing_spec.specs.Lines.{longest}
use Rattle.board.proofs.Putting.{put-start, put_on, put-out}
use Rattle.board.proofs.owed.Owed.put.Goals as goal

pub loop-w-init : goal.loop-w-init
loop-w-init c =
    let h = leb-true c.args.self.piece.length longest c.requires.0 in
    put-start c.args.self c.args.recv.now c.args.out.now (omega (arith, h, c.requires.1)) h

pub returns-then-not-owes : goal.returns-then-not-owes
returns-then-not-owes c = rw set-get_or (put-out c.loop-w.invariant (sym c.owes.ensures ∙ c.if-not-owes.true))

pub loop-w-preserved : goal.loop-w-preserved
loop-w-preserved c =
    put_on c.loop-w.invariant (sym c.owes.ensures ∙ c.if-not-owes.false) (omega arith) (omega arith) refl c.forth.ensures
