-- A receiver's answers as the papers' (crate `paper`).
-- as_block, as_answer    a block's condition, an answer
use Rattle.paper.specs.Word.{Block, undamaged, repaired, beyond}
use Rattle.paper.specs.Channel.{Answer, of_block, of_frame, lost as paper_lost}
use Rattle.packet_paper.specs.As.{as_verdict}
use Rattle.channel_spec.specs.declared.Condition.{Condition}
use Rattle.channel_spec.specs.declared.Condition.TheVariants.{Clean, Repaired, Beyond}
use Rattle.channel_spec.specs.Given.{Event, said, block, lost}

-- a block's condition
abbrev pub as_block : Condition → Block
as_block Clean = undamaged
as_block (Repaired n) = repaired n
as_block Beyond = beyond

-- an answer
abbrev pub as_answer : Event → Answer
as_answer (said t) = of_frame (as_verdict t)
as_answer (block c) = of_block (as_block c)
as_answer lost = paper_lost
