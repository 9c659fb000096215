use Rattle.text.proofs.Delivering.{delivered, delivered-short}
use Rattle.text.proofs.deliver.Goals as goal

pub returns-then-out-length : goal.returns-then-out-length
returns-then-out-length c = delivered-short _ _ _ c.min-length.ensures c.if-out-length.true

pub returns : goal.returns
returns c = delivered _ _ _ c.min-length.ensures c.if-out-length.false c.copy.ensures
