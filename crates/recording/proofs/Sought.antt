-- A call for a recording's next packet, answer by answer.
-- Seeks, awaited                    what such a call has done so far: it goes on behind so many bytes; how many answers are still to come there
-- seek-start, seek-asks, seek-within  the loop's start, what a turn asks, and how far it goes
-- seek-on, seek-done                an answer that is passed over, and one that ends the call
use Prim.Native.Nat.{ℕ, ◌+◌, ◌-◌, ◌≤◌, ◌<◌}
use native.Mathlib.Omega.{arith}
use mathlib.Core.Path.{◌≡◌, refl, sym, ◌∙◌, ap}
use mathlib.Core.Bool.{true, false, true≢false, false≢true}
use mathlib.Core.List.{List}
use mathlib.Core.Option.{Option, some, none}
use Rattle.std.specs.Prelude.{Option as Maybe, Result}
use Rattle.base.specs.declared.Refusal.{Refusal}
use Rattle.packet_spec.specs.declared.Delivery.{Delivery}
use lib.ListN.{length, take, drop, length-drop}
use lib.Seq.{drop-drop}
use Rattle.base.specs.Calls.{after, told}
use Rattle.base.proofs.Calls.{after_none, after-after, law}
use Rattle.base.proofs.Parts.{tail-is}
use Rattle.packet_spec.specs.Frame.{packet, refusal, broken}
use Rattle.channel_spec.specs.Meaning.{Event, said, block, lost}
use Rattle.channel.specs.Call.{sound, roomy}
use Rattle.channel_spec.specs.Answer.{answered}
use Rattle.recording.specs.declared.reader.RecordingReader.{RecordingReader}
use Rattle.recording.specs.declared.reader.Hearing.{Hearing}
use Rattle.recording.specs.Deck.{Deck, deck_owes, deck_hand, deck_eat, deck_all, deck_hear}
use Rattle.recording.specs.Call.{far, deck_of}
use Rattle.recording.specs.Sift.{sifted}
use Rattle.recording.specs.Packets.{Item, packet_in, packet_hear, found_of}
use Rattle.recording.specs.Found.{as_found}
use Rattle.recording.specs.Private.{Stays, HeardIs, passed, found_in, SoughtIs}
use Rattle.recording.proofs.Ears.{deck-hand-one}
use Rattle.recording.proofs.Sift.{sift_by, sift-hear}

-- behind i bytes the tape and the buffers stand so, and the call goes on there
pub record Seeks (m : Deck) (bs : List ℕ) (i : ℕ) (t : RecordingReader) (l k : List ℕ) : Type 0 where
  pub same : packet_hear m bs ≡ after i (packet_hear (deck_of t l k) (drop i bs))
  pub stays : Stays m bs i t l k

-- how many answers are still to come
abbrev pub awaited : RecordingReader → List ℕ → List ℕ → List ℕ → ℕ
awaited t l k bs = length (deck_all (deck_of t l k) bs).0

pub seek-start : (t : RecordingReader) (l k bs : List ℕ) → sound t.receiver ≡ true → roomy l k ≡ true → Seeks (deck_of t l k) bs 0 t l k
seek-start t l k bs a b = record {
  same = after_none (packet_hear (deck_of t l k) bs);
  stays = record { within = omega arith; near = omega arith; sound = a; roomy = b };
}

-- an answer that is passed over, or not
abbrev sifting : Option Event → ℕ → Deck → List ℕ → Option Item × ℕ × Deck
sifting = sift_by packet_in deck_owes deck_hand deck_eat deck-hand-one

over : (o : Option Event) (n : ℕ) (m : Deck) (bs : List ℕ) → passed (answered o) ≡ true
    → (sifting o n m bs ≡ after n (packet_hear m (drop n bs)))
    × (length (deck_all m (drop n bs)).0 < length (told deck_owes deck_hand deck_eat (o, n, m) bs).0)
over none n m bs e = absurd (false≢true e)
over (some (said (packet p))) n m bs e = absurd (false≢true e)
over (some (said (refusal x))) n m bs e = (refl, omega arith)
over (some (said (broken x))) n m bs e = (refl, omega arith)
over (some (block c)) n m bs e = (refl, omega arith)
over (some lost) n m bs e = (refl, omega arith)

ended : (o : Option Event) (n : ℕ) (m : Deck) (bs : List ℕ) → passed (answered o) ≡ false
    → (sifting o n m bs ≡ (sifted packet_in o, n, m)) × (found_in (answered o) ≡ found_of (sifted packet_in o))
ended none n m bs e = (refl, refl)
ended (some (said (packet p))) n m bs e = (refl, refl)
ended (some (said (refusal x))) n m bs e = absurd (true≢false e)
ended (some (said (broken x))) n m bs e = absurd (true≢false e)
ended (some (block c)) n m bs e = absurd (true≢false e)
ended (some lost) n m bs e = absurd (true≢false e)

module _ {m : Deck} {bs : List ℕ} {i : ℕ} {t : RecordingReader} {l k : List ℕ} (so : Seeks m bs i t l k) where
  -- the bytes that are left, as the loop lends them
  abbrev left : List ℕ
  left = take (length bs - i) (drop i bs)

  left_is : left ≡ drop i bs
  left_is = tail-is i bs

  left-length : length left ≡ length bs - i
  left-length = ap length left_is ∙ length-drop i bs

  pub seek-asks : m.spot.offset + length bs ≤ far
      → (sound t.receiver ≡ true) × (roomy l k ≡ true) × (t.spot.offset + length left ≤ far)
  seek-asks h = let s = so.stays in (s.sound, s.roomy, omega (arith, s.near, s.within, left-length))

  module _ (x : Hearing) {l' k' : List ℕ} (heard : HeardIs (deck_of t l k) left x l' k') where
    abbrev here : Deck
    here = deck_of t l k

    abbrev behind : Deck
    behind = deck_of x.tape l' k'

    abbrev answer : Option Event
    answer = (deck_hear here left).0

    seek-stays : Stays m bs (i + x.taken) x.tape l' k'
    seek-stays = let s = so.stays in let u = heard.1 in record {
      within = omega (arith, s.within, u.within, left-length);
      near = omega (arith, s.near, u.near);
      sound = u.sound;
      roomy = u.roomy;
    }

    pub seek-within : i + x.taken ≤ length bs
    seek-within = seek-stays.within

    -- the bytes behind this answer
    rest-is : drop x.taken left ≡ drop (i + x.taken) bs
    rest-is = ap (drop x.taken) left_is ∙ drop-drop x.taken i bs

    -- the call so far, with this answer
    with-answer : packet_hear m bs ≡ after i (sifting answer x.taken behind left)
    with-answer =
        so.same
        ∙ ap (after i) (ap (packet_hear here) (sym left_is) ∙ sift-hear packet_in deck_owes deck_hand deck_eat deck-hand-one here left
        ∙ ap (λ (r : Option Event × ℕ × Deck). sifting r.0 r.1 r.2 left) heard.0.1)

    pub seek-on : passed x.answer ≡ true
        → Seeks m bs (i + x.taken) x.tape l' k' × (awaited x.tape l' k' (drop (i + x.taken) bs) < awaited t l k (drop i bs))
    seek-on e =
        let y = over answer x.taken behind left (sym (ap passed heard.0.0) ∙ e) in
        let u = ap (λ (r : List Event × Deck). length r.0) (law deck_owes deck_hand deck_eat deck-hand-one here left) in
        let v = ap (λ (r : Option Event × ℕ × Deck). length (told deck_owes deck_hand deck_eat r left).0) heard.0.1 in
        let a = ap (λ (z : List ℕ). length (deck_all here z).0) left_is in
        let b = ap (λ (z : List ℕ). length (deck_all behind z).0) rest-is in (
          record {
            same =
                with-answer ∙ ap (after i) (y.0 ∙ ap (λ (z : List ℕ). after x.taken (packet_hear behind z)) rest-is)
                ∙ after-after i x.taken (packet_hear behind (drop (i + x.taken) bs));
            stays = seek-stays;
          },
          omega (arith, y.1, u, v, a, b),
        )

    pub seek-done : passed x.answer ≡ false → (y : Result (Maybe Delivery) Refusal) → as_found y ≡ found_in x.answer
        → SoughtIs m bs (record { found = y; taken = i + x.taken; tape = x.tape }) l' k'
    seek-done e y q =
        let z = ended answer x.taken behind left (sym (ap passed heard.0.0) ∙ e) in
        let g : packet_hear m bs ≡ (sifted packet_in answer, i + x.taken, behind) = with-answer ∙ ap (after i) z.0 in (
          (
            q ∙ ap found_in heard.0.0 ∙ z.1 ∙ ap found_of (sym (ap (λ v. v.0) g)),
            g ∙ (λ j. (ap (λ v. v.0) (sym g) j, i + x.taken, behind)),
          ),
          seek-stays,
        )
