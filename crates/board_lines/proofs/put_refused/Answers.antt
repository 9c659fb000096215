use mathlib.Core.Bool.{true}
use Rattle.packet_spec.specs.declared.Judged.{Judged}
use Rattle.channel_spec.specs.declared.Answer.TheVariants.{Said}
use Rattle.text.proofs.Putting.{put-none, put-case}
use Rattle.board_spec.specs.Parts.{remark}
use Rattle.board_lines.proofs.Pieces.{same-number, refused-line, broken-line}
use Rattle.board_lines.proofs.put_refused.Goals as goal

pub returns-in-Packet : goal.returns-in-Packet
returns-in-Packet c = put-case (λ (j : Judged). remark true (Said j)) c.in-Packet.is (put-none _ _)

pub returns-in-Refused : goal.returns-in-Refused
returns-in-Refused c =
    put-case (λ (j : Judged). remark true (Said j)) c.in-Refused.is (refused-line c.put_text-a.ensures _ (same-number _ c.from.ensures c.put_item.ensures))

pub returns-in-Broken : goal.returns-in-Broken
returns-in-Broken c =
    put-case (λ (j : Judged). remark true (Said j)) c.in-Broken.is
    (broken-line c.put_text-a-in-Broken.ensures _ c.put_item-b.ensures c.put_item-in-Broken.ensures)
