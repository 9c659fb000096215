-- What the code answers: `more wanted`, or an answer as it is defined.
-- answered    .. of a call
use Rattle.std.proofs.Math.Option.{Option, some, none}
use Rattle.packet_spec.specs.Frame.{judged}
use Rattle.channel_spec.specs.Meaning.{Event, said, block, lost}
use Rattle.channel_spec.specs.declared.Answer.{Answer}
use Rattle.channel_spec.specs.declared.Answer.TheVariants.{More, Said, Block, LockLost}

-- the code's answer
abbrev pub answered : Option Event → Answer
answered none = More
answered (some (said t)) = Said (judged t)
answered (some (block c)) = Block c
answered (some lost) = LockLost
