-- Every way of cutting a recording below 2^64 bytes comes to its end, and yields the answers and the deck of the uncut recording.
-- Safe           so many bytes may still come: no call on them is refused
-- fewer          .. then fewer may come too
-- tape-yields    from any deck that is safe for the bytes to come, where nothing is owed
use Prim.Native.Nat.{ℕ, ◌+◌, ◌≤◌}
use native.Mathlib.Omega.{arith}
use mathlib.Core.Path.{◌≡◌}
use mathlib.Core.List.{List}
use lib.ListN.{length, drop, length-drop}
use Rattle.base.specs.Calls.{joined, Yields}
use Rattle.base.proofs.Calls.{yields_within}
use Rattle.recording.specs.Deck.{Deck, deck_owes, deck_hand, deck_eat, deck_all, deck_hear}
use Rattle.recording.specs.Call.{far, tape_call}
use Rattle.recording.proofs.Ears.{deck-hand-one}
use Rattle.recording.proofs.Kept.{FineDeck, Kept, hear-kept}
use Rattle.recording.proofs.Next.{tape-agrees}

-- n bytes may still come
pub record Safe (m : Deck) (n : ℕ) : Type 0 where
  pub fine : FineDeck m
  pub offset : m.spot.offset + n ≤ far

-- no call on them is refused ..
safe-on : (m : Deck) (bs : List ℕ) (k : ℕ) → Safe m (length bs + k) → tape_call m bs ≡ deck_hear m bs
safe-on m bs k s = tape-agrees m bs s.fine (omega (arith, s.offset))

-- .. and behind it those that are left may still come
safe-behind : (m : Deck) (bs : List ℕ) (k : ℕ) → Safe m (length bs + k) → Safe (deck_hear m bs).2 (length (drop (deck_hear m bs).1 bs) + k)
safe-behind m bs k s =
    let c : Kept m bs (deck_hear m bs).1 (deck_hear m bs).2 = hear-kept m bs s.fine in
    record { fine = c.fine; offset = omega (arith, s.offset, c.within, c.near, length-drop (deck_hear m bs).1 bs) }

pub fewer : (m : Deck) (n k : ℕ) → Safe m (n + k) → Safe m k
fewer m n k s = record { fine = s.fine; offset = omega (arith, s.offset) }

-- every way of cutting comes to its end, and yields the answers and the deck of the uncut bytes
pub tape-yields : (m : Deck) → deck_owes m ≡ 0 → (ps : List (List ℕ)) → Safe m (length (joined ps))
    → Yields tape_call m ps λ es t. (es, t) ≡ deck_all m (joined ps)
tape-yields = yields_within deck_owes deck_hand deck_eat deck-hand-one Safe tape_call fewer safe-on safe-behind
