-- `unit::writer::Unit::byte` meets its contract: what the check leaves open.
use Rattle.std.proofs.Common.{◌∙◌, arith}
use Rattle.unit.specs.Private.{bits_of}
use Rattle.unit.proofs.Digits.{byte_at}
use Rattle.unit.proofs.Placing.{byte-within}
use Rattle.unit.proofs.writer.Unit.byte.Goals as goal

pub returns : goal.returns
returns c = let u = c.args.self.now in let p = u.contents in
    let fill = p.room in let all = u.all in
    c.byte.ensures
    ∙ byte_at _ _ (byte-within u.size (bits_of u.header) p.delimiter p.audio.now p.opportunistic.now p.fixed.now c.args.j u.fit (omega arith) c.requires)
    c.bit-a.ensures.0 c.bit-b.ensures.0 c.bit-c.ensures.0 c.bit-d.ensures.0 c.bit-e.ensures.0 c.bit-f.ensures.0 c.bit-g.ensures.0 c.bit-h.ensures.0
