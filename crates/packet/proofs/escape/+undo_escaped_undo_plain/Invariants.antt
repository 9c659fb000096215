use Rattle.std.proofs.Common.{◌-◌, length}
use Rattle.packet.proofs.escape.+undo_escaped_undo_plain.Given as goal

abbrev pub decreases-undo_escaped : goal.decreases-undo_escaped
decreases-undo_escaped l = length l.recv.now - l.from

abbrev pub decreases-undo_plain : goal.decreases-undo_plain
decreases-undo_plain l = length l.recv.now - l.from
