use Rattle.std.proofs.Common.{◌≡◌, ◌+◌, length, drop}
use Rattle.std.proofs.lemmas.List.Edits.{sets}
use Rattle.packet_spec.specs.Escape.{escape}
use Rattle.packet.proofs.escape.put.Given as goal

-- the bytes that are left, escaped and stored from here on, give what all give
abbrev pub invariant-loop-b : goal.invariant-loop-b
invariant-loop-b l = record {
  room : l.to + length (escape (drop l.b-index l.bytes)) ≡ l.initial.to + length (escape l.bytes);
  stored : sets l.out l.to (escape (drop l.b-index l.bytes)) ≡ sets l.initial.out l.initial.to (escape l.bytes);
}
