use Rattle.std.proofs.Common.{◌+◌, drop, ap, sym, ◌∙◌, arith, length, List, ℕ}
use Rattle.std.proofs.lemmas.List.Edits.{sets}
use Rattle.base.proofs.Lists.{over}
use Rattle.base.proofs.Laid.{laid_then}
use Rattle.packet_spec.specs.Escape.{escape}
use Rattle.packet_spec.proofs.Escaping.{escape-cons, escape-next}
use Rattle.packet.proofs.escape.put.Goals as goal

pub put_byte-to-requires : goal.put_byte-to-requires
put_byte-to-requires c = omega (arith, c.loop-b.invariant.room, escape-next c.args.bytes.now c.loop-b.b-index c.loop-b-test.true)

pub loop-b-preserved : goal.loop-b-preserved
loop-b-preserved c =
    let l = c.loop-b in
    let bs = c.args.bytes.now in
    record {
      room = omega (arith, c.put_byte-to.ensures.ends, l.invariant.room, escape-next bs l.b-index c.loop-b-test.true);
      stored = laid_then c.put_byte-to.ensures (escape (drop (l.b-index + 1) bs))
          ∙ ap (λ (x : List ℕ). sets l.out l.to x) (sym (escape-cons bs l.b-index c.loop-b-test.true)) ∙ l.invariant.stored;
    }

pub returns : goal.returns
returns c =
    let e = over c.args.bytes.now c.loop-b.b-index c.loop-b-test.false in
    unfold escape in
    record {
      ends = omega (arith, c.loop-b.invariant.room, ap (λ (x : List ℕ). length (escape x)) e);
      holds = rw e at c.loop-b.invariant.stored;
    }
