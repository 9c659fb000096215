-- Our repair as a way of mending in the papers' sense (crate `paper`).
-- as_block    what repair finds of a word; a word of 255 bytes is not refused
-- mender     the word of R parity bytes, mended
use Rattle.std.specs.Prelude.{ℕ}
use Rattle.paper.specs.Word.{Block, undamaged, repaired, beyond, Mender}
use Rattle.repair.specs.Mended.{Mended}
use Rattle.repair.specs.Mended.{Clean, Repaired, Beyond, Refused}
use Rattle.repair.specs.Way.{repaired as repaired_word}

-- what repair finds of a word
abbrev pub as_block : Mended → Block
as_block Clean = undamaged
as_block (Repaired n) = repaired n
as_block Beyond = beyond
as_block (Refused n) = beyond

-- a word, mended
abbrev pub mender : ℕ → Mender
mender r w = record { answer = as_block (repaired_word r w).0; read = (repaired_word r w).1 }
