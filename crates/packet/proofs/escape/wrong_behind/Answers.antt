use Rattle.std.proofs.Common.{◌∙◌}
use Rattle.base.proofs.Lists.{over}
use Rattle.packet_spec.specs.Escape.{wrong_from}
use Rattle.packet.proofs.Runs.{at-start, behind-other}
use Rattle.packet.proofs.escape.wrong_behind.Goals as goal
use Rattle.packet.proofs.escape.wrong_behind.Goals.{else-from-ne0-via-then-from-ne0+else-raw-from-eq125, else-from-ne0-via-else-from-ne0}

pub returns-then-raw-from : goal.returns-then-raw-from
returns-then-raw-from c = unfold wrong_from in rw (over c.args.raw.now c.args.from c.if-raw-from.true)

pub returns : goal.returns
returns c =
    c.scan_plain.ensures
    ∙ (elim c.else-from-ne0.branch [
      | else-from-ne0-via-then-from-ne0+else-raw-from-eq125 w ↦ behind-other c.args.raw.now c.args.from w.if-from-ne0.true w.if-raw-from-eq125.false
      | else-from-ne0-via-else-from-ne0 w ↦ at-start c.args.raw.now c.args.from w.if-from-ne0.false
    ])
