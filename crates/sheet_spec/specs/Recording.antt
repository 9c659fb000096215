-- What a recording brings to the sheet (request W13).
-- marks       the delivered packets among its answers
-- brings      of a recording's bytes, to a sheet of these ports: whether it ends as one, and its delivered packets of them
use Rattle.std.specs.Prelude.{ℕ, Bool, List, [], ◌∷◌}
use Rattle.packet_spec.specs.Frame.{packet, refusal, broken}
use Rattle.channel_spec.specs.Meaning.{Event, said, block, lost}
use Rattle.listing_spec.specs.Apart.{fresh_spot, apart, well, on_channel}
use Rattle.listing_spec.specs.Meaning.{heard}
use Rattle.ports_spec.specs.declared.Range.{Range}
use Rattle.sheet_spec.specs.Meaning.{Mark, within}

-- the delivered packets, in order
unfoldable pub marks : List Event → List Mark
marks [] = []
marks (said (packet p) ∷ es) = (p.port, p.sequence) ∷ marks es
marks (said (refusal n) ∷ es) = marks es
marks (said (broken n) ∷ es) = marks es
marks (block c ∷ es) = marks es
marks (lost ∷ es) = marks es

-- it does not end in `X`, and its packets of the range
abbrev pub brings : Range → List ℕ → Bool × List Mark
brings r file = (well (apart fresh_spot file).1.place, within r (marks (heard (on_channel file) (apart fresh_spot file).0)))
