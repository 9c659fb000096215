use Rattle.std.proofs.Common.{arith}
use Rattle.text.proofs.Putting.{number-last, number_more}
use Rattle.text.proofs.+put_number.Goals as goal

pub returns-then-n-lt10 : goal.returns-then-n-lt10
returns-then-n-lt10 t c = number-last _ c.if-n-lt10.true c.put_byte.ensures

pub returns : goal.returns
returns t c = number_more _ (omega arith) c.if-n-lt10.false c.put_number-end.ensures c.put_byte-2.ensures
