-- A call for a recording's next packet: refused with 10, with 11, or let on; and a recording's packets by such calls.
-- packets-are        all packets are those among all answers, and the deck behind them is the same
-- safe-on, safe-behind   bytes that may still come: no call on them is refused, and behind one those that are left may
-- packet-yields      every way of cutting yields them, from any deck that is safe for the bytes to come, where nothing is owed
-- packets-taken      .. of a whole recording below 2^64 bytes: the packets among the answers of its stream bytes, and where it ends
use Prim.Native.Nat.{ℕ, ◌+◌, ◌≤◌}
use native.Mathlib.Omega.{arith}
use mathlib.Core.Path.{◌≡◌, ◌∙◌, ap}
use mathlib.Core.Bool.{false}
use mathlib.Core.List.{List}
use lib.ListN.{length, drop, length-drop}
use Rattle.base.specs.Calls.{joined, Yields}
use Rattle.base.proofs.Calls.{yields_within, yields-so}
use Rattle.channel.proofs.Fine.{fine-is, fine-roomy, fine-fresh}
use Rattle.listing_spec.specs.Apart.{fresh_spot, apart, on_channel}
use Rattle.listing_spec.specs.Meaning.{heard}
use Rattle.recording.specs.Deck.{Deck, fresh, deck_owes, deck_hand, deck_eat, deck_all}
use Rattle.recording.specs.Call.{far}
use Rattle.recording.specs.Packets.{Item, packet_in, packets_in, packet_hand, packet_eat, packet_all, packet_hear, packet_by, packet_call}
use Rattle.recording.specs.Packets.{EveryPacket}
use Rattle.recording.proofs.Ears.{deck-hand-one}
use Rattle.recording.proofs.Kept.{Kept, packet-kept}
use Rattle.recording.proofs.Next.{near-is}
use Rattle.recording.proofs.Means.{fresh-owes, deck-means}
use Rattle.recording.proofs.Cutting.{Safe, fewer}
use Rattle.recording.proofs.Sift.{sift-all}

-- all packets are those among all answers
pub packets-are : (m : Deck) (bs : List ℕ) → packet_all m bs ≡ (packets_in (deck_all m bs).0, (deck_all m bs).1)
packets-are = sift-all packet_in deck_owes deck_hand deck_eat deck-hand-one

-- so many bytes may still come: no call on them is refused ..
pub safe-on : (m : Deck) (bs : List ℕ) (k : ℕ) → Safe m (length bs + k) → packet_call m bs ≡ packet_hear m bs
safe-on m bs k s =
    let c = m.ear.memory in
    let near : m.spot.offset + length bs ≤ far = omega (arith, s.offset) in
    λ i. packet_by (fine-is c s.fine i) (near-is m.spot (length bs) near i) (fine-roomy c s.fine i) m bs

-- .. and behind it those that are left may still come
pub safe-behind : (m : Deck) (bs : List ℕ) (k : ℕ) → Safe m (length bs + k) → Safe (packet_hear m bs).2 (length (drop (packet_hear m bs).1 bs) + k)
safe-behind m bs k s =
    let c : Kept m bs (packet_hear m bs).1 (packet_hear m bs).2 = packet-kept m bs s.fine in
    record { fine = c.fine; offset = omega (arith, s.offset, c.within, c.near, length-drop (packet_hear m bs).1 bs) }

pub packet-yields : (m : Deck) → deck_owes m ≡ 0 → (ps : List (List ℕ)) → Safe m (length (joined ps))
    → Yields packet_call m ps λ xs t. (xs, t) ≡ packet_all m (joined ps)
packet-yields = yields_within deck_owes packet_hand packet_eat deck-hand-one Safe packet_call fewer safe-on safe-behind

-- a recording below 2^64 bytes: every way of cutting yields the packets among the answers of its stream bytes, once each and in order, and behind
-- them it stands where the definition ends
pub packets-taken : (file : List ℕ) → length file ≤ far
    → EveryPacket file λ xs m. (xs ≡ packets_in (heard (on_channel file) (apart fresh_spot file).0)) × (m.spot ≡ (apart fresh_spot file).1)
packets-taken file short recv word r w pieces cut =
    let d = deck-means recv word r w file in
    let s : Safe (fresh recv word) (length (joined pieces)) = record {
      fine = fine-fresh recv word r w;
      offset = let e : length (joined pieces) ≡ length file = ap length cut in omega arith;
    } in
    yields-so (packet-yields (fresh recv word) (fresh-owes recv word r w false) pieces s) λ xs m x.
    let e : ◌≡◌ {A = List Item × Deck} (xs, m) (packets_in (deck_all (fresh recv word) file).0, (deck_all (fresh recv word) file).1) =
    x ∙ ap (packet_all (fresh recv word)) cut ∙ packets-are (fresh recv word) file in
    (ap (λ q. q.0) e ∙ ap packets_in d.0, ap (λ q. q.1.spot) e ∙ d.1)
