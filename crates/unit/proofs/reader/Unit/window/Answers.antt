-- `unit::reader::Unit::window` meets its contract: what the check leaves open.
use Rattle.std.proofs.Common.{arith}
use Rattle.unit_spec.specs.Reading.{payload_of}
use Rattle.unit.proofs.Finding.{length-payload, window-of}
use Rattle.unit.proofs.reader.Unit.window.Goals as goal

pub returns : goal.returns
returns c = let u = c.args.self.now in
    window-of (payload_of u.size u.bytes.now) c.args.from (omega (arith, length-payload u.size u.bytes.now))
    c.payload_byte-a.ensures c.payload_byte-b.ensures c.payload_byte-c.ensures c.payload_byte-d.ensures c.payload_byte-e.ensures
