-- Each public function's promise determines its result, and what the output then holds: write-determined, read-determined.
use mathlib.Core.Path.{refl}
use Rattle.base.specs.Determined.{Determined}
use Rattle.base.proofs.Determining.{same_answer, same-output, buffer, skip}
use Rattle.unit.proofs.writer.write.Kinds as write-kinds
use Rattle.unit.proofs.writer.write.Reads as write-reads
use Rattle.unit.proofs.reader.read.Kinds as read-kinds
use Rattle.unit.proofs.reader.read.Reads as read-reads

pub write-determined : Determined write-kinds.ps write-kinds.r write-reads.Asked write-reads.Learnt
write-determined κs a z z' ws ws' pre p q = (same_answer p q, skip (skip (skip (skip (skip (buffer (same-output p q) refl))))))

pub read-determined : Determined read-kinds.ps read-kinds.r read-reads.Asked read-reads.Learnt
read-determined κs a z z' ws ws' pre p q = (same_answer p q, skip (skip (skip (skip (skip (buffer (same-output p q) refl))))))
