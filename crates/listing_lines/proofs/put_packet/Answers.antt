-- `listing_lines::put_packet` meets its contract.
use mathlib.Core.Path.{ap, ◌∙◌}
use Rattle.listing_spec.specs.Lines.{letter}
use Rattle.listing_lines.proofs.Writing.{packet-put}
use Rattle.listing_lines.proofs.put_packet.Goals as goal

pub returns : goal.returns
returns c =
    packet-put _ c.from.ensures c.from-2.ensures c.put_text-a.ensures c.put_item-b.ensures c.put_item-c.ensures c.put_item-d.ensures c.put_text.ensures
    (c.letter.ensures ∙ ap letter c.class_of.ensures)
