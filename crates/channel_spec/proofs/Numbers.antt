-- The paper's fixed numbers, and slips that look right, by computation.
-- fixed       223, 32, 255, 259 and the marker's bytes
-- fresh       a fresh receiver hunts, with four bytes of zero
-- lost-lock   the last four bytes are still hunted in after lock is lost: a marker that starts among them is found
-- dropped     an open packet is dropped at a lost lock
use mathlib.Core.Path.{◌≡◌, refl}
use mathlib.Core.List.{List, [], ◌∷◌}
use Prim.Native.Nat.{ℕ}
use Rattle.stream.specs.Meaning.{waiting, inside}
use Rattle.channel_spec.specs.Sender.{marker, message_bytes, parity_bytes, word_bytes, block_bytes}
use Rattle.channel_spec.specs.Meaning.{Event, lost, zeros, Chan, hunting, in_word, in_mark, fresh_channel, hears}

pub fixed : ◌≡◌ {A = List ℕ} (message_bytes ∷ parity_bytes ∷ word_bytes ∷ block_bytes ∷ marker) (223 ∷ 32 ∷ 255 ∷ 259 ∷ 0x7D ∷ 0x3A ∷ 0xE2 ∷ 0x42 ∷ [])
fixed = refl

pub fresh : fresh_channel ≡ hunting (record { a = 0; b = 0; c = 0; d = 0 })
fresh = refl

-- 7D 3A where the marker should stand, then the rest of one
pub lost-lock : (w : List ℕ)
    → ◌≡◌ {A = List Event × Chan}
    (hears (in_mark zeros w 0 waiting) (0x00 ∷ 0x00 ∷ 0x7D ∷ 0x3A ∷ 0xE2 ∷ 0x42 ∷ []))
    (lost ∷ [], in_word (record { a = 0x7D; b = 0x3A; c = 0xE2; d = 0x42 }) [] waiting)
lost-lock w = refl

-- raw bytes of a frame are gone behind the same bytes
pub dropped : (w rs : List ℕ)
    → ◌≡◌ {A = List Event × Chan}
    (hears (in_mark zeros w 0 (inside rs)) (0x00 ∷ 0x00 ∷ 0x7D ∷ 0x3A ∷ 0xE2 ∷ 0x42 ∷ []))
    (lost ∷ [], in_word (record { a = 0x7D; b = 0x3A; c = 0xE2; d = 0x42 }) [] waiting)
dropped w rs = refl
