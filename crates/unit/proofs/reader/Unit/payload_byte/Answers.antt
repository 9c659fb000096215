-- `unit::reader::Unit::payload_byte` meets its contract: what the check leaves open.
use Rattle.std.proofs.Common.{◌∙◌}
use Rattle.unit.proofs.Digits.{byte_at}
use Rattle.unit.proofs.Hearing.{byte-reach, byte_of}
use Rattle.unit.proofs.reader.Unit.payload_byte.Goals as goal

pub returns : goal.returns
returns c = let u = c.args.self.now in
    c.byte.ensures
    ∙ byte_at _ _ (byte-reach u.size u.bytes.now c.args.j u.fit u.whole c.requires)
    c.payload_bit-a.ensures.0 c.payload_bit-b.ensures.0 c.payload_bit-c.ensures.0 c.payload_bit-d.ensures.0 c.payload_bit-e.ensures.0
    c.payload_bit-f.ensures.0 c.payload_bit-g.ensures.0 c.payload_bit-h.ensures.0
    ∙ byte_of u.size u.bytes.now c.args.j u.fit u.whole c.requires
