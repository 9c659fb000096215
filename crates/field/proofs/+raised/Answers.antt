use Rattle.field.proofs.Powers.{pow-zero, even_power, odd_power}
use Rattle.field.proofs.+raised.Goals as goal

pub returns-then-e-eq0 : goal.returns-then-e-eq0
returns-then-e-eq0 t c = rw (c.if-e-eq0.true, pow-zero)

pub returns-then-e-eq0-2 : goal.returns-then-e-eq0-2
returns-then-e-eq0-2 t c = even_power _ _ c.raised-half.ensures c.times-square.ensures c.if-e-eq0-2.true

pub returns : goal.returns
returns t c = odd_power _ _ c.raised-half.ensures c.times-square.ensures c.times.ensures c.if-e-eq0-2.false
