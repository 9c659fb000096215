-- `parity::make` meets its contract: each return by the tests that led there.
use Rattle.std.proofs.Common.{◌≤◌, arith}
use borrow.Author.Tests.{le-ltb, eq-eqb}
use Rattle.base.proofs.Writing.{wrote-short, wrote-copied}
use Rattle.word_spec.specs.Word.{remainder}
use Rattle.word_spec.proofs.Division.{length-remainder}
use Rattle.parity.specs.Calls.{root_limit}
use Rattle.parity.proofs.make.Goals as goal

pub returns-then-out-r : goal.returns-then-out-r
returns-then-out-r c =
    let few : c.args.r ≤ root_limit = omega arith in
    simp (le-ltb _ _ few, eq-eqb _ _ c.if-message-r.false)
    (wrote-short (remainder c.args.r c.args.message.now) c.args.out.now c.args.r (length-remainder c.args.r c.args.message.now) c.if-out-r.true)

pub returns : goal.returns
returns c =
    let few : c.args.r ≤ root_limit = omega arith in
    simp (le-ltb _ _ few, eq-eqb _ _ c.if-message-r.false)
    (wrote-copied (remainder c.args.r c.args.message.now) c.args.out.now c.args.r (length-remainder c.args.r c.args.message.now) c.if-out-r.false
    (rw c.in_ok-roots.ensures at c.put_parity.ensures))
