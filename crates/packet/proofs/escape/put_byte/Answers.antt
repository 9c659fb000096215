use Rattle.std.proofs.Common.{refl, sym, ◌∙◌, ap, length, length-set, arith, add-one}
use Rattle.packet.proofs.Counting.{escape-yes, escape-no}
use Rattle.packet.proofs.escape.put_byte.Goals as goal

pub bounds-out-at : goal.bounds-out-at
bounds-out-at c = omega (arith, ap length (escape-yes c.args.b (sym c.is_escaped.ensures ∙ c.if-is_escaped.true)))

pub bounds-out-at-then-is_escaped : goal.bounds-out-at-then-is_escaped
bounds-out-at-then-is_escaped c =
    simp length-set (omega (arith, ap length (escape-yes c.args.b (sym c.is_escaped.ensures ∙ c.if-is_escaped.true))))

pub returns-then-is_escaped : goal.returns-then-is_escaped
returns-then-is_escaped c =
    rw (escape-yes c.args.b (sym c.is_escaped.ensures ∙ c.if-is_escaped.true)) (record { ends = omega arith; holds = rw add-one })

pub bounds-out-at-2 : goal.bounds-out-at-2
bounds-out-at-2 c = omega (arith, ap length (escape-no c.args.b (sym c.is_escaped.ensures ∙ c.if-is_escaped.false)))

pub returns : goal.returns
returns c = rw (escape-no c.args.b (sym c.is_escaped.ensures ∙ c.if-is_escaped.false)) (record { ends = omega arith; holds = refl })
