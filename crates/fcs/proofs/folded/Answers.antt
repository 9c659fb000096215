-- `fcs::folded` meets its contract.
use Rattle.std.proofs.Common.{◌≡◌, ℕ, ap, ◌∙◌, arith}
use lib.Bits.{xor_lt}
use Rattle.fcs.specs.Fcs.{entered}
use Rattle.fcs.proofs.Eights.{eights-done}
use Rattle.fcs.proofs.Folding.{waiting, fit-more, folded-first, folded-next}
use Rattle.fcs.proofs.folded.Goals as goal

pub loop-bytes-init : goal.loop-bytes-init
loop-bytes-init c = rw c.from.ensures (record {
  fit = (xor_lt 64 c.eight.result c.args.bits (omega arith) (omega arith), omega arith, omega arith, omega arith);
  left =
      folded-first c.args.bits c.args.eights.now c.eight.result c.eight-b.result c.eight-c.result c.eight-d.result c.requires (omega arith) c.eight.ensures
      c.eight-b.ensures c.eight-c.ensures c.eight-d.ensures;
})

pub loop-bytes-preserved : goal.loop-bytes-preserved
loop-bytes-preserved c =
    let l = c.loop-bytes in
    let n = c.eight-in-loop-bytes in record {
      fit = fit-more l.a l.b l.c l.d n.result l.invariant.fit (omega arith);
      left = folded-next l.a l.b l.c l.d n.result l.invariant.fit (omega arith) l.bytes-index _ c.loop-bytes-test.true n.ensures l.invariant.left;
    }

pub returns : goal.returns
returns c =
    let l = c.loop-bytes in
    let two = c.enter_eight.ensures ∙ ap (λ (r : ℕ). entered 64 r l.b) c.fall.ensures in
    let three = c.enter_eight-2.ensures ∙ ap (λ (r : ℕ). entered 64 r l.c) two in
    let all : c.enter_eight-3.result ≡ waiting l.a l.b l.c l.d = c.enter_eight-3.ensures ∙ ap (λ (r : ℕ). entered 64 r l.d) three in
    all ∙ eights-done _ _ _ c.loop-bytes-test.false l.invariant.left
