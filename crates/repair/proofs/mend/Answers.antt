-- `repair::mend` meets its contract: each return by the tests that led there.
use Rattle.std.proofs.Common.{◌∙◌, ap, arith}
use Rattle.parity.specs.Checked.{as_checked}
use Rattle.parity.proofs.Refusing.{checked-found}
use Rattle.repair.specs.Way.{amended}
use Rattle.repair.proofs.Loops.{mend-far, mend-clean, mend-damaged, mend-refused}
use Rattle.repair.proofs.mend.Goals as goal

pub returns-then-roots-n : goal.returns-then-roots-n
returns-then-roots-n c =
    mend-far c.args.roots.count c.args.word.now c.amend.new.word (c.amend.ensures ∙ ap (amended c.args.roots.count) c.copy_from_slice.ensures.after)
    c.distance-n.ensures (omega (arith, c.if-roots-n.true))

pub returns-in-Ok-Clean : goal.returns-in-Ok-Clean
returns-in-Ok-Clean c =
    mend-clean c.args.roots.count c.args.word.now c.amend.new.word (c.amend.ensures ∙ ap (amended c.args.roots.count) c.copy_from_slice.ensures.after)
    c.distance-n.ensures (omega (arith, c.if-roots-n.false)) c.check.ensures (checked-found c.in-Ok-Clean.is c.in-Ok-Clean.field-0-is)
    c.copy_from_slice-in-Ok-Clean.ensures.after

pub returns-in-Ok-Damaged : goal.returns-in-Ok-Damaged
returns-in-Ok-Damaged c =
    mend-damaged c.args.roots.count c.args.word.now c.amend.new.word (c.amend.ensures ∙ ap (amended c.args.roots.count) c.copy_from_slice.ensures.after)
    c.distance-n.ensures c.if-roots-n.false c.check.ensures (checked-found c.in-Ok-Damaged.is c.in-Ok-Damaged.field-0-is)

pub returns-in-Err : goal.returns-in-Err
returns-in-Err c =
    mend-refused c.args.roots.count c.args.word.now c.amend.new.word (c.amend.ensures ∙ ap (amended c.args.roots.count) c.copy_from_slice.ensures.after)
    c.distance-n.ensures c.if-roots-n.false c.check.ensures _ (ap as_checked c.in-Err.is)
