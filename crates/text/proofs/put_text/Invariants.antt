use Rattle.std.proofs.Common.{◌≡◌, drop}
use Rattle.text.specs.Put.{put}
use Rattle.text.proofs.put_text.Given as goal

-- what is left of the text, put at the place reached, is the whole
abbrev pub invariant-loop-b : goal.invariant-loop-b
invariant-loop-b l = put (l.text, l.end) (drop l.b-index l.bytes) ≡ put (l.initial.text, l.initial.end) l.bytes
