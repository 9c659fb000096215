-- `parity::put_parity` meets its contract, by the law of what its calls leave.
use Rattle.parity.proofs.Loops.{parity-left, parity-put}
use Rattle.parity.proofs.put_parity.Goals as goal

pub returns-then-roots-eq-ROOTS : goal.returns-then-roots-eq-ROOTS
returns-then-roots-eq-ROOTS c =
    parity-left c.args.roots.count c.args.message.now c.args.out.now c.args.roots.few c.requires c.copy.ensures c.if-roots-eq-ROOTS.true
    c.left-left.ensures c.copy-then-roots-eq-ROOTS.ensures

pub returns : goal.returns
returns c =
    parity-put c.args.roots.count c.args.message.now c.args.out.now c.args.roots.few c.requires c.copy.ensures _ c.generate-g.ensures c.reduce.ensures
    c.copy-2.ensures
