-- `unit::reader::Unit::deliver` meets its contract: what the check leaves open.
use Rattle.unit_spec.specs.Tables.{payload}
use Rattle.unit_spec.specs.Reading.{payload_of}
use Rattle.unit.proofs.Finding.{length-payload}
use Rattle.unit.proofs.Delivering.{deliver-short, delivered}
use Rattle.unit.proofs.reader.Unit.deliver.Goals as goal

pub returns-then-out-m : goal.returns-then-out-m
returns-then-out-m c = let a = c.args in let u = a.self.now in
    deliver-short a.out.now (payload_of u.size u.bytes.now) (payload u.size) a.audio a.o a.fixed (length-payload u.size u.bytes.now) c.requires
    c.if-out-m.true

pub returns : goal.returns
returns c = let a = c.args in let u = a.self.now in
    delivered a.out.now (payload_of u.size u.bytes.now) (payload u.size) a.audio a.o a.fixed (length-payload u.size u.bytes.now) c.requires
    c.if-out-m.false c.payload-n.ensures c.put.ensures c.put-2.ensures c.put-3.ensures
