-- The totals of the last line, counted from the answers.
-- packets-counted, refusals-counted   packets and refusals are counted among the frame answers ..
-- damaged-counted, lost-counted       .. blocks beyond repair among the block answers, and lost locks as often as lock is lost
-- sent-counted                        of a sender's packets, all are packets
use Prim.Native.Nat.{ℕ, suc, ◌+◌}
use native.Mathlib.Omega.{arith}
use mathlib.Core.Path.{◌≡◌, refl, ap}
use mathlib.Core.List.{List, [], ◌∷◌, map}
use lib.ListN.{length}
use Rattle.packet_spec.specs.Frame.{Told, packet, refusal, broken}
use Rattle.stream.specs.Sender.{delivered}
use Rattle.packet_spec.specs.Contents.{Packet}
use Rattle.channel_spec.specs.Meaning.{Event, said, block, lost, frames, blocks, losses}
use Rattle.channel_spec.specs.declared.Condition.{Condition}
use Rattle.channel_spec.specs.declared.Condition.TheVariants.{Clean as clean, Repaired as repaired, Beyond as beyond}
use Rattle.listing_spec.specs.Lines.{is_packet, is_refusal, is_damaged, is_lost, count, packets_in, refusals_in, damaged_in}

pub packets-counted : (es : List Event) → count is_packet es ≡ packets_in (frames es)
unfolding count
packets-counted [] = refl
packets-counted (said (packet p) ∷ es) = omega (arith, packets-counted es)
packets-counted (said (refusal n) ∷ es) = omega (arith, packets-counted es)
packets-counted (said (broken n) ∷ es) = omega (arith, packets-counted es)
packets-counted (block clean ∷ es) = omega (arith, packets-counted es)
packets-counted (block (repaired n) ∷ es) = omega (arith, packets-counted es)
packets-counted (block beyond ∷ es) = omega (arith, packets-counted es)
packets-counted (lost ∷ es) = omega (arith, packets-counted es)

pub refusals-counted : (es : List Event) → count is_refusal es ≡ refusals_in (frames es)
unfolding count
refusals-counted [] = refl
refusals-counted (said (packet p) ∷ es) = omega (arith, refusals-counted es)
refusals-counted (said (refusal n) ∷ es) = omega (arith, refusals-counted es)
refusals-counted (said (broken n) ∷ es) = omega (arith, refusals-counted es)
refusals-counted (block clean ∷ es) = omega (arith, refusals-counted es)
refusals-counted (block (repaired n) ∷ es) = omega (arith, refusals-counted es)
refusals-counted (block beyond ∷ es) = omega (arith, refusals-counted es)
refusals-counted (lost ∷ es) = omega (arith, refusals-counted es)

pub damaged-counted : (es : List Event) → count is_damaged es ≡ damaged_in (blocks es)
unfolding count
damaged-counted [] = refl
damaged-counted (said (packet p) ∷ es) = omega (arith, damaged-counted es)
damaged-counted (said (refusal n) ∷ es) = omega (arith, damaged-counted es)
damaged-counted (said (broken n) ∷ es) = omega (arith, damaged-counted es)
damaged-counted (block clean ∷ es) = omega (arith, damaged-counted es)
damaged-counted (block (repaired n) ∷ es) = omega (arith, damaged-counted es)
damaged-counted (block beyond ∷ es) = omega (arith, damaged-counted es)
damaged-counted (lost ∷ es) = omega (arith, damaged-counted es)

pub lost-counted : (es : List Event) → count is_lost es ≡ losses es
unfolding count
lost-counted [] = refl
lost-counted (said (packet p) ∷ es) = omega (arith, lost-counted es)
lost-counted (said (refusal n) ∷ es) = omega (arith, lost-counted es)
lost-counted (said (broken n) ∷ es) = omega (arith, lost-counted es)
lost-counted (block clean ∷ es) = omega (arith, lost-counted es)
lost-counted (block (repaired n) ∷ es) = omega (arith, lost-counted es)
lost-counted (block beyond ∷ es) = omega (arith, lost-counted es)
lost-counted (lost ∷ es) = omega (arith, lost-counted es)

pub sent-counted : (ps : List Packet) → (packets_in (map delivered ps) ≡ length ps) × (refusals_in (map delivered ps) ≡ 0)
sent-counted [] = (refl, refl)
sent-counted (p ∷ ps) = (ap suc (sent-counted ps).0, (sent-counted ps).1)
