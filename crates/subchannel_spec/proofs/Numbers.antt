-- Computed cases that hold the definitions' numbers, and that a word with 32 parity bytes is the opportunistic channel's.
-- counts        message bytes of a word, bytes of a group, words of the closing push, words that complete a group, flags that fill a message
-- places        words of a stream: 5 become 8 at depth 0 and 1; and, with the closing push, at depth 2 and 64
-- groups-laid   a marker, 1,020 bytes, a marker
-- begins        four bytes that are the marker, of the first marked block: row zero, no word yet, waiting for a flag
-- as-channel    r = 32
use Prim.Native.Nat.{ℕ}
use mathlib.Core.Path.{◌≡◌, refl}
use mathlib.Core.List.{List, [], ◌∷◌, ◌++◌, map}
use lib.ListN.{length, replicate}
use Rattle.packet_spec.specs.Escape.{flag}
use Rattle.stream.specs.Meaning.{waiting}
use Rattle.interleaver_spec.specs.Running.{fresh_back}
use Rattle.channel_spec.specs.Sender as channel
use Rattle.channel_spec.specs.Meaning as received
use Rattle.channel_spec.proofs.Marker.{the_marker}
use Rattle.subchannel_spec.specs.Sender.{message_bytes, group_bytes, word_of, missing, closing_words, completing, words_of, grouped}
use Rattle.subchannel_spec.specs.Word.{condition, mend, message}
use Rattle.subchannel_spec.specs.Meaning.{in_group, hears, start}

pub counts : ◌≡◌ {A = List (List ℕ)} (
    map message_bytes (0 ∷ 1 ∷ 32 ∷ 64 ∷ []) ∷ (group_bytes ∷ []) ∷ map closing_words (0 ∷ 1 ∷ 2 ∷ 64 ∷ [])
    ∷ map completing (0 ∷ 1 ∷ 2 ∷ 3 ∷ 4 ∷ 5 ∷ []) ∷ map (missing 191) (0 ∷ 1 ∷ 190 ∷ 191 ∷ 192 ∷ []) ∷ []
    ) (
    (255 ∷ 254 ∷ 223 ∷ 191 ∷ []) ∷ (1020 ∷ []) ∷ (0 ∷ 0 ∷ 2 ∷ 64 ∷ []) ∷ (0 ∷ 3 ∷ 2 ∷ 1 ∷ 0 ∷ 3 ∷ []) ∷ (0 ∷ 190 ∷ 1 ∷ 0 ∷ 190 ∷ []) ∷ []
    )
counts = refl

pub places : ◌≡◌ {A = List ℕ} (
    length (words_of 0 0 (replicate 1021 flag)) ∷ length (words_of 0 1 (replicate 1021 flag)) ∷ length (words_of 0 2 (replicate 1021 flag))
    ∷ length (words_of 0 64 (flag ∷ [])) ∷ length (words_of 0 1 []) ∷ length (words_of 0 2 []) ∷ []
    ) (8 ∷ 8 ∷ 8 ∷ 68 ∷ 0 ∷ 4 ∷ [])
places = refl

pub groups-laid : grouped 2 (replicate 2040 0) ≡ channel.marker ++ (replicate 1020 0 ++ (channel.marker ++ replicate 1020 0))
groups-laid = refl

pub begins : (r d : ℕ) → hears r d start channel.marker ≡ ([], in_group the_marker 0 fresh_back [] waiting)
begins r d = refl

pub as-channel : (w : List ℕ) → (word_of 32 w ≡ channel.word_of w) × (condition 32 w ≡ received.condition w) × (mend 32 w ≡ received.mend w)
    × (message 32 w ≡ received.message w)
as-channel w = (refl, refl, refl, refl)
