-- Where no packet is of a port outside, a range of ports leaves all answers.
-- AllInside      each packet's port is inside
-- regarded-all   .. and all is left
use mathlib.Core.Path.{◌≡◌, refl, ap}
use mathlib.Core.Bool.{true}
use mathlib.Core.List.{List, [], ◌∷◌}
use Rattle.base.specs.Bytes.{Each}
use Rattle.packet_spec.specs.Contents.{Packet}
use Rattle.packet_spec.specs.Frame.{packet, refusal, broken}
use Rattle.channel_spec.specs.Meaning.{Event, said, block, lost, frames}
use Rattle.ports_spec.specs.declared.Range.{Range}
use Rattle.ports_spec.specs.Range.{inside}
use Rattle.board_spec.specs.Meaning.{regarded}
use Rattle.board_spec.specs.Typed.{packets_among}

abbrev pub AllInside : Range → List Packet → Type 0
AllInside r ps = Each (λ p. inside r p.port ≡ true) ps

module _ (r : Range) where
  pub regarded-all : (es : List Event) → AllInside r (packets_among (frames es)) → regarded r es ≡ es
  unfolding regarded packets_among
  regarded-all [] h = refl
  regarded-all (said (packet p) ∷ es) h = rw h.0 (ap (λ (x : List Event). said (packet p) ∷ x) (regarded-all es h.1))
  regarded-all (said (refusal n) ∷ es) h = ap (λ (x : List Event). said (refusal n) ∷ x) (regarded-all es h)
  regarded-all (said (broken n) ∷ es) h = ap (λ (x : List Event). said (broken n) ∷ x) (regarded-all es h)
  regarded-all (block c ∷ es) h = ap (λ (x : List Event). block c ∷ x) (regarded-all es h)
  regarded-all (lost ∷ es) h = ap (λ (x : List Event). lost ∷ x) (regarded-all es h)
