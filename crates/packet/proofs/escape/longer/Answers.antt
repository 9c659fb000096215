use Rattle.std.proofs.Common.{◌/◌, ◌∙◌, sym, length, arith}
use borrow.Author.Tests.{le-ltb}
use Rattle.packet_spec.specs.Escape.{escape}
use Rattle.packet_spec.proofs.Escaping.{escape-most}
use Rattle.packet.proofs.escape.longer.Goals as goal

pub returns-else-limit-bytes : goal.returns-else-limit-bytes
returns-else-limit-bytes c =
    let bs = c.args.bytes.now in
    le-ltb (c.args.limit / 2) (length bs) (omega arith) ∙ sym (le-ltb c.args.limit (length (escape bs)) (omega (arith, escape-most bs)))
