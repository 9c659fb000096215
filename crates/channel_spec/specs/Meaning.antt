-- What a received byte string means on the opportunistic channel (paper 01, "Opportunistic channel"), byte by byte, to a receiver
-- whose memory has no limit: markers, words, repaired where they are damaged, and the frames in their messages.
-- condition, mend, message        a block's answer, that of a word, the word as it is left, its message: what repair promises (proofs/Words)
-- shift, is_marker, zeros          the last four bytes, and those of a fresh receiver
-- Chan, fresh_channel              the state, fresh
-- whole                           a whole word
-- hunt, grow, compared, behind_word, step   one byte, by where it comes
-- hears, answers                  a byte string, all answers of a fresh receiver
-- carried, words_give              the bytes that words hand on, the answers of whole words, in their order
-- FirstMarker                     where the marker first appears
use Rattle.std.specs.Prelude.{ℕ, suc, ◌≤◌, ◌≡◌, Bool, true, false, ◌&&◌, List, [], ◌∷◌, ◌++◌, length, eqb, ltb}
use Rattle.stream.specs.Meaning.{Reading, waiting}
use Rattle.channel_spec.specs.Sender.{marker, parity_bytes, word_bytes}
use Rattle.channel_spec.specs.Word as over
use Rattle.channel_spec.specs.Given as given
pub use Rattle.channel_spec.specs.Word.{condition_by, as_mended, IsWord}
pub use Rattle.channel_spec.specs.Given.{Event, said, block, lost, frames, blocks, losses}
use Rattle.channel_spec.specs.declared.Hunting.{Hunting}
use Rattle.channel_spec.specs.declared.Condition.{Condition}

-- the answer to a word: what repair finds of it, with 32 parity bytes ..
abbrev pub condition : List ℕ → Condition
condition = over.condition parity_bytes

-- .. and the word as repair leaves it: repaired, or beyond repair as it came
abbrev pub mend : List ℕ → List ℕ
mend = over.mend parity_bytes

-- the message of a word, as repair leaves it
abbrev pub message : List ℕ → List ℕ
message = over.message parity_bytes

-- one byte more among the last four
abbrev pub shift : Hunting → ℕ → Hunting
shift f x = record { a = f.b; b = f.c; c = f.d; d = x }

-- the last four are the marker
abbrev pub is_marker : Hunting → Bool
is_marker f = eqb f.d 0x42 && (eqb f.c 0xE2 && (eqb f.b 0x3A && eqb f.a 0x7D))

-- fresh: four hunted bytes of zero
abbrev pub zeros : Hunting
zeros = record { a = 0; b = 0; c = 0; d = 0 }

-- hunting, with the last four bytes; in a word, with those and the word's bytes so far; behind a word, with the marker bytes so far
pub data Chan : Type 0 where
  hunting : Hunting → Chan
  in_word : Hunting → List ℕ → Reading → Chan
  in_mark : Hunting → List ℕ → ℕ → Reading → Chan

-- fresh
abbrev pub fresh_channel : Chan
fresh_channel = hunting zeros

-- a whole word: the block's answer, and then those of its message bytes
abbrev pub whole : List ℕ → Reading → List Event × Reading
whole = given.whole parity_bytes

-- hunting, by: are the last four the marker
abbrev pub hunt : Bool → Hunting → Chan
hunt true f = in_word f [] waiting
hunt false f = hunting f

-- a byte of a word, by: is it not whole yet
abbrev pub grow : Bool → Hunting → List ℕ → Reading → List Event × Chan
grow true f w r = ([], in_word f w r)
grow false f w r = ((whole w r).0, in_mark f (mend w) 0 (whole w r).1)

-- four marker bytes, by: are they the marker. Lock lost: any open packet is dropped, and they are hunted in
abbrev pub compared : Bool → Hunting → Reading → List Event × Chan
compared true f r = ([], in_word f [] r)
compared false f r = (lost ∷ [], hunting f)

-- a marker byte, by: are they not four yet
abbrev pub behind_word : Bool → Hunting → List ℕ → ℕ → Reading → List Event × Chan
behind_word true f w n r = ([], in_mark f w n r)
behind_word false f w n r = compared (is_marker f) f r

-- one byte
abbrev pub step : Chan → ℕ → List Event × Chan
step (hunting f) b = ([], hunt (is_marker (shift f b)) (shift f b))
step (in_word f w r) b = grow (ltb (suc (length w)) word_bytes) f (w ++ b ∷ []) r
step (in_mark f w n r) b = behind_word (ltb (suc n) 4) (shift f b) w (suc n) r

-- a byte string: its answers, and the state behind it
abbrev pub hears : Chan → List ℕ → List Event × Chan
hears = given.each_byte step

-- all answers of a fresh receiver
abbrev pub answers : List ℕ → List Event
answers bs = (hears fresh_channel bs).0

-- the bytes that words hand on to the frame reader
abbrev pub carried : List (List ℕ) → List ℕ
carried = over.carried parity_bytes

-- what words give, one after the other: "first a block answer, .. then the answers of its 223 message bytes"
abbrev pub words_give : List (List ℕ) → Reading → List Event
words_give ws r = (given.words_give parity_bytes ws r).0

-- the marker first appears in `stray ++ bs` where bs begins: wherever it stands, that is no earlier
abbrev pub FirstMarker : List ℕ → List ℕ → Type 0
FirstMarker stray bs = (xs ys : List ℕ) → stray ++ bs ≡ xs ++ (marker ++ ys) → length stray ≤ length xs
