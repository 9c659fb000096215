-- `unit::reader::Unit::find` meets its contract: what the check leaves open.
use Rattle.std.proofs.Common.{◌≡◌, ℕ, ◌+◌, ◌-◌, refl, sym, ap, ◌∙◌, arith, length, List, get_or, take, drop}
use Rattle.unit_spec.specs.Unit.{opened}
use Rattle.unit_spec.specs.Reading.{payload_of}
use Rattle.unit.proofs.Finding.{length-payload, begins-same, window-next, window-begins, find-here, find-next, find-over}
use Rattle.unit.proofs.reader.Unit.find.Goals as goal

pub returns-then-end-from : goal.returns-then-end-from
returns-then-end-from c = let a = c.args in let u = a.self.now in
    find-over a.delimiter (payload_of u.size u.bytes.now) a.end a.from (omega arith) (omega (arith, length-payload u.size u.bytes.now))
    c.if-end-from.true refl

pub returns-then-eq : goal.returns-then-eq
returns-then-eq c =
    let a = c.args in let u = a.self.now in let l = c.loop-behind in
    let five : length a.delimiter ≡ 5 = omega arith in
    let at : l.behind - 5 + 5 ≡ l.behind = omega arith in
    sym (ap (λ (n : ℕ). a.end - n) at)
    ∙ find-here a.delimiter (payload_of u.size u.bytes.now) a.end (l.behind - 5) five (omega (arith, length-payload u.size u.bytes.now)) (omega arith)
    (window-begins (payload_of u.size u.bytes.now) (l.behind - 5) l.invariant.at_hand a.delimiter five
    (c.eq.ensures ∙ begins-same a.delimiter l.five (omega (arith, l.invariant.five)))) c.if-eq.true l.invariant.left

pub loop-behind-preserved : goal.loop-behind-preserved
loop-behind-preserved c =
    let a = c.args in let u = a.self.now in let l = c.loop-behind in
    let p : List ℕ = payload_of u.size u.bytes.now in
    let five : length a.delimiter ≡ 5 = omega arith in
    let at : l.behind ≡ l.behind - 5 + 5 = omega arith in
    let next : l.behind - 5 + 1 ≡ l.behind + 1 - 5 = omega arith in
    record {
      five = omega arith;
      at_hand =
          c.onward-five.ensures
          ∙ window-next p (l.behind - 5) l.invariant.at_hand (omega (arith, length-payload u.size u.bytes.now))
          (c.payload_byte.ensures ∙ ap (λ (n : ℕ). get_or p n 0) at)
          ∙ ap (λ (n : ℕ). take 5 (drop n p)) next;
      left =
          sym (ap (λ (n : ℕ). length (opened a.delimiter (drop n (take a.end p)))) next)
          ∙ find-next a.delimiter p a.end (l.behind - 5) five (omega (arith, length-payload u.size u.bytes.now)) (omega arith)
          (window-begins p (l.behind - 5) l.invariant.at_hand a.delimiter five
          (c.eq.ensures ∙ begins-same a.delimiter l.five (omega (arith, l.invariant.five)))) c.if-eq.false l.invariant.left;
    }

pub returns : goal.returns
returns c = let a = c.args in let u = a.self.now in let l = c.loop-behind in
    find-over a.delimiter (payload_of u.size u.bytes.now) a.end (l.behind - 5) (omega arith) (omega (arith, length-payload u.size u.bytes.now))
    (omega arith) l.invariant.left
