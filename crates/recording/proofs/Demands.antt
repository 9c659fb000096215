-- What the paper demands of a recording taken by calls, however it is cut and whatever the lent buffers held. The law says two things together
-- (`EveryCut`): the calls come to their end, and what they yield.
-- taken-apart   the answers of the recording's stream bytes, and where it ends
use Prim.Native.Nat.{ℕ, ◌≤◌}
use native.Mathlib.Omega.{arith}
use mathlib.Core.Path.{◌≡◌, ◌∙◌, ap}
use mathlib.Core.Bool.{false}
use mathlib.Core.List.{List}
use lib.ListN.{length}
use Rattle.base.specs.Calls.{joined}
use Rattle.base.proofs.Calls.{yields-so}
use Rattle.channel_spec.specs.Meaning.{Event}
use Rattle.channel.proofs.Fine.{fine-fresh}
use Rattle.listing_spec.specs.Apart.{fresh_spot, apart, on_channel}
use Rattle.listing_spec.specs.Meaning.{heard}
use Rattle.recording.specs.Deck.{Deck, fresh, deck_all}
use Rattle.recording.specs.Call.{far, EveryCut}
use Rattle.recording.proofs.Means.{fresh-owes, deck-means}
use Rattle.recording.proofs.Cutting.{Safe, tape-yields}

-- a recording below 2^64 bytes: every way of cutting yields the answers of its stream bytes, as the definition takes it apart and hears it,
-- and behind them it stands where the definition ends: whether it may end there, or at which byte it is wrong
pub taken-apart : (file : List ℕ) → length file ≤ far
    → EveryCut file λ es m. (es ≡ heard (on_channel file) (apart fresh_spot file).0) × (m.spot ≡ (apart fresh_spot file).1)
taken-apart file short recv word r w pieces cut =
    let d = deck-means recv word r w file in
    let s : Safe (fresh recv word) (length (joined pieces)) = record {
      fine = fine-fresh recv word r w;
      offset = let e : length (joined pieces) ≡ length file = ap length cut in omega arith;
    } in
    yields-so (tape-yields (fresh recv word) (fresh-owes recv word r w false) pieces s) λ es m x.
    let e : ◌≡◌ {A = List Event × Deck} (es, m) (deck_all (fresh recv word) file) = x ∙ ap (deck_all (fresh recv word)) cut in
    (ap (λ q. q.0) e ∙ d.0, ap (λ q. q.1.spot) e ∙ d.1)
