-- `unit::reader::Unit::put` meets its contract: what the check leaves open.
use Rattle.std.proofs.Common.{refl, arith, ◌+◌, ◌-◌, take, drop, length-drop, length-take-le}
use Rattle.unit_spec.specs.Reading.{payload_of}
use Rattle.unit.proofs.Finding.{length-payload, put-more, put-all}
use Rattle.unit.proofs.reader.Unit.put.Goals as goal

pub loop-i-init : goal.loop-i-init
loop-i-init c = refl

pub loop-i-preserved : goal.loop-i-preserved
loop-i-preserved c = let a = c.args in let u = a.self.now in let l = c.loop-i in
    let part = take (a.at + a.n - a.at) (drop a.at a.out.now) in
    let within = length-take-le (a.at + a.n - a.at) (drop a.at a.out.now) (omega (arith, length-drop a.at a.out.now)) in
    put-more part l.byte-items (payload_of u.size u.bytes.now) a.from l.i _ l.invariant c.payload_byte.ensures c.loop-i-test.true
    (omega (arith, within, length-payload u.size u.bytes.now))

pub returns : goal.returns
returns c = let a = c.args in let u = a.self.now in let l = c.loop-i in
    let q = payload_of u.size u.bytes.now in
    put-all a.out.now l.byte-items (drop a.from q) a.at a.n l.i l.invariant c.loop-i-test.false l.auto.i-end c.requires.1
    (omega (arith, length-drop a.from q, length-payload u.size u.bytes.now))
