use Rattle.std.proofs.Common.{refl, inl, inr}
use Rattle.board_lines.proofs.Pieces.{clean_line, repaired-line, beyond-line, untold}
use Rattle.board_lines.proofs.put_block_told.Goals as goal

pub returns-in-Clean : goal.returns-in-Clean
returns-in-Clean c = clean_line c.if-blocks.true c.in-Clean.is c.put_text.ensures

pub returns-in-Repaired : goal.returns-in-Repaired
returns-in-Repaired c = repaired-line _ c.if-blocks-2.true c.in-Repaired.is c.put_text-a.ensures c.put_item.ensures

pub returns-in-Beyond : goal.returns-in-Beyond
returns-in-Beyond c = beyond-line _ c.in-Beyond.is c.put_text-in-Beyond.ensures

pub returns-in-Clean-2 : goal.returns-in-Clean-2
returns-in-Clean-2 c = elim c.in-Clean-2.is [ inl e ↦ untold c.if-blocks.false e refl | inr h ↦ untold c.if-blocks.false h.1 refl ]

pub returns-in-Clean-2-2 : goal.returns-in-Clean-2-2
returns-in-Clean-2-2 c = elim c.in-Clean-2.is [ inl e ↦ untold c.if-blocks-2.false e refl | inr h ↦ untold c.if-blocks-2.false h.1 refl ]
