use Rattle.std.proofs.Common.{◌-◌, length}
use Rattle.packet.proofs.escape.+scan_escaped_scan_plain.Given as goal

abbrev pub decreases-scan_escaped : goal.decreases-scan_escaped
decreases-scan_escaped l = length l.raw.now - l.at

abbrev pub decreases-scan_plain : goal.decreases-scan_plain
decreases-scan_plain l = length l.raw.now - l.at
