use Rattle.std.proofs.Common.{◌≡◌, ◌≤◌, ◌+◌, ◌*◌, length, drop}
use Rattle.packet_spec.specs.Escape.{escape}
use Rattle.packet.proofs.escape.escaped_len.Given as goal

-- the count, and the bytes that are left as escaped, are all
abbrev pub invariant-loop-b : goal.invariant-loop-b
invariant-loop-b l = record {
  small : l.n ≤ 2 * l.b-index;
  whole : l.n + length (escape (drop l.b-index l.bytes)) ≡ length (escape l.bytes);
}
