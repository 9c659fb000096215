-- `listing_lines::put_told` meets its contract.
use Rattle.std.proofs.Common.{sym, ap, ◌∙◌}
use Rattle.packet_spec.specs.declared.Judged.TheVariants.{Refused}
use Rattle.listing_spec.specs.Lines.{told}
use Rattle.text.proofs.Putting.{put-case}
use Rattle.listing_lines.proofs.Writing.{refused-put, broken-put}
use Rattle.listing_lines.proofs.put_told.Goals as goal

pub returns-in-Refused : goal.returns-in-Refused
returns-in-Refused c =
    put-case told (c.in-Refused.is ∙ ap Refused (sym c.from.ensures)) (refused-put _ c.put_text-a.ensures c.put_item.ensures)

pub returns-in-Broken : goal.returns-in-Broken
returns-in-Broken c =
    put-case told c.in-Broken.is (broken-put _ c.put_text-a-in-Broken.ensures c.put_item-b.ensures c.put_item-in-Broken.ensures)
