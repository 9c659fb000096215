-- A call on a recording's bytes, turn by turn.
-- So                              what a call has done so far: it goes on behind so many bytes
-- so-start, so-asks, so-within, so-on, so-done   the loop's start, what a turn asks, a turn that goes on, a turn that ends the call
use Prim.Native.Nat.{ℕ, ◌+◌, ◌-◌, ◌≤◌, ◌<◌}
use native.Mathlib.Omega.{arith}
use mathlib.Core.Path.{◌≡◌, sym, ◌∙◌, ap, subst}
use mathlib.Core.Bool.{true}
use mathlib.Core.List.{List}
use mathlib.Core.Option.{Option}
use Rattle.std.specs.Prelude.{Option as Maybe, Some, None}
use lib.ListN.{length, take, drop, length-drop}
use lib.Seq.{drop-drop}
use Rattle.base.specs.Calls.{after}
use Rattle.base.proofs.Calls.{after_none, after-after}
use Rattle.base.proofs.Parts.{tail-is}
use Rattle.channel_spec.specs.Meaning.{Event}
use Rattle.channel.specs.Call.{sound, roomy}
use Rattle.channel_spec.specs.Answer.{answered}
use Rattle.channel_spec.specs.declared.Answer.{Answer}
use Rattle.recording.specs.declared.reader.RecordingReader.{RecordingReader}
use Rattle.recording.specs.declared.reader.Turn.{Turn}
use Rattle.recording.specs.Deck.{Deck, deck_hear}
use Rattle.recording.specs.Call.{far, deck_of}
use Rattle.recording.specs.Private.{TurnBy, Stays, TurnIs, HeardIs}

-- behind i bytes the tape and the buffers stand so, and the call goes on there
pub record So (m : Deck) (bs : List ℕ) (i : ℕ) (t : RecordingReader) (l k : List ℕ) : Type 0 where
  pub same : deck_hear m bs ≡ after i (deck_hear (deck_of t l k) (drop i bs))
  pub stays : Stays m bs i t l k

pub so-start : (t : RecordingReader) (l k bs : List ℕ) → sound t.receiver ≡ true → roomy l k ≡ true → So (deck_of t l k) bs 0 t l k
so-start t l k bs a b = record {
  same = after_none (deck_hear (deck_of t l k) bs);
  stays = record { within = omega arith; near = omega arith; sound = a; roomy = b };
}

module _ {m : Deck} {bs : List ℕ} {i : ℕ} {t : RecordingReader} {l k : List ℕ} (so : So m bs i t l k) where
  -- the bytes that are left, as the loop lends them
  abbrev left : List ℕ
  left = take (length bs - i) (drop i bs)

  left_is : left ≡ drop i bs
  left_is = tail-is i bs

  left-length : length left ≡ length bs - i
  left-length = ap length left_is ∙ length-drop i bs

  pub so-asks : m.spot.offset + length bs ≤ far
      → (sound t.receiver ≡ true) × (roomy l k ≡ true) × (t.spot.offset + length left ≤ far)
  so-asks h = let s = so.stays in (s.sound, s.roomy, omega (arith, s.near, s.within, left-length))

  module _ (x : Turn) {l' k' : List ℕ} (turn : TurnIs (deck_of t l k) left x l' k') where
    so-stays : Stays m bs (i + x.taken) x.tape l' k'
    so-stays = let s = so.stays in let u = turn.1 in record {
      within = omega (arith, s.within, u.within, left-length);
      near = omega (arith, s.near, u.near);
      sound = u.sound;
      roomy = u.roomy;
    }

    pub so-within : i + x.taken ≤ length bs
    so-within = so-stays.within

    pub so-on : x.answer ≡ None → So m bs (i + x.taken) x.tape l' k' × (0 < x.taken)
    so-on e =
        let y : TurnBy None (deck_of t l k) left x l' k' = subst (λ (u : Maybe Answer). TurnBy u (deck_of t l k) left x l' k') e turn.0 in
        let d : Option Event × ℕ × Deck = deck_hear (deck_of x.tape l' k') (drop (i + x.taken) bs) in (
          record {
            same =
                so.same
                ∙ ap (after i) (ap (deck_hear (deck_of t l k)) (sym left_is) ∙ y.0
                ∙ ap (λ (z : List ℕ). after x.taken (deck_hear (deck_of x.tape l' k') z)) (ap (drop x.taken) left_is ∙ drop-drop x.taken i bs))
                ∙ after-after i x.taken d;
            stays = so-stays;
          },
          y.1,
        )

    pub so-done : {a : Answer} → x.answer ≡ Some a → HeardIs m bs (record { answer = a; taken = i + x.taken; tape = x.tape }) l' k'
    so-done {a} e =
        let y : TurnBy (Some a) (deck_of t l k) left x l' k' = subst (λ (u : Maybe Answer). TurnBy u (deck_of t l k) left x l' k') e turn.0 in
        let f : deck_hear m bs ≡ after i (deck_hear (deck_of t l k) left) =
        so.same ∙ ap (λ (z : List ℕ). after i (deck_hear (deck_of t l k) z)) (sym left_is) in
        let g : deck_hear m bs ≡ ((deck_hear (deck_of t l k) left).0, i + x.taken, deck_of x.tape l' k') = f ∙ ap (after i) y.1 in
        ((y.0 ∙ ap answered (sym (ap (λ z. z.0) g)), g ∙ (λ j. (ap (λ z. z.0) (sym g) j, i + x.taken, deck_of x.tape l' k'))), so-stays)
