-- One turn of a call on a recording's bytes, as the code makes it: the ear's call on a run of stream bytes, or a byte that is none.
-- FineEar, fine-..         the ear passes refusals 10 and 11, and still does behind a call
-- skip-fine, head-fine     what counting a run asks, and one byte
-- more-none, more-some     "more wanted", and an answer
-- turn-out, turn_end       an answer ends the call, and so does the end of the bytes
-- turn-run, turn-head      a run, or one byte, is taken
-- ..-stays                 .. and what stays within its limits
use Prim.Native.Nat.{ℕ, suc, ◌+◌, ◌≤◌, ◌<◌}
use native.Mathlib.Omega.{arith}
use native.Mathlib.Nat.{add-zero}
use mathlib.Core.Path.{◌≡◌, refl, sym, ◌∙◌, ap, subst}
use mathlib.Core.Bool.{Bool, true, false, true≢false}
use mathlib.Core.List.{List, [], ◌∷◌, ◌++◌}
use mathlib.Core.Option.{Option, some, none}
use lib.ListN.{length, take, drop, get_or, take-append-drop, drop_of_length-le}
use lib.Seq.{length-take-le, drop-append-le, drop-cons}
use Rattle.base.specs.Calls.{unless, one_more, after}
use Rattle.base.proofs.Calls.{after_none, one-after, FitsBy, Fits, fits, inv-hear, hear-eat, hear-end}
use Rattle.stream.proofs.Fine.{fine-take}
use Rattle.channel_spec.specs.Meaning.{Event, said, block, lost}
use Rattle.channel.specs.Call.{Memory, memory, held_in, sound, roomy, hand_on, Fine}
use Rattle.channel_spec.specs.Answer.{answered}
use Rattle.channel.specs.declared.receiver.Receiver.{Receiver}
use Rattle.channel.specs.declared.answer.Hearing.{Hearing}
use Rattle.channel.proofs.Fine.{fine_of, fine-is, fine-roomy, fine-hand, fine-eat}
use Rattle.listing_spec.specs.declared.Spot.{Spot}
use Rattle.listing_spec.specs.Apart.{next, in_stream}
use Rattle.recording.specs.declared.reader.RecordingReader.{RecordingReader}
use Rattle.recording.specs.Deck.{Ear, ear, owes_by, eat_by, ear_owes, ear_hand, ear_eat, Deck, deck, deck_owes, deck_hand, byte_by, deck_eat, deck_hear}
use Rattle.recording.specs.Call.{far, deck_of, is_more}
use Rattle.recording.specs.Private.{ear_hear, run_of, skipped, EarIs, headed, CallIs, Stays}
use Rattle.recording.proofs.Ears.{ear-hand-one, deck-hand-one}
use Rattle.recording.proofs.Spots.{next-near}
use Rattle.recording.proofs.Run.{skips, with_rest, run-first, run_fits, run_none, skip-none}

-- ---- refusals 10 and 11
abbrev pub FineEar : Ear → Type 0
FineEar d = Fine d.memory

hand-by : (t : Bool) (c : Memory) (n : ℕ) → owes_by t c ≡ suc n → Fine c → Fine (hand_on c).1
hand-by true c n e i = fine-hand c n e i
hand-by false c n e i = absurd (omega arith)

pub fine-ear-hand : (d : Ear) (n : ℕ) → ear_owes d ≡ suc n → FineEar d → FineEar (ear_hand d).1
unfolding ear_owes ear_hand
fine-ear-hand d n e i = hand-by d.channel d.memory n e i

eat-by : (t : Bool) (c : Memory) (b : ℕ) → owes_by t c ≡ 0 → Fine c → FineEar (eat_by t c b).1
eat-by true c b e i = fine-eat c b e i
eat-by false c b e i = record { frame = fine-take (held_in c) b i.frame; word = i.word; marker = i.marker; handed = i.handed; room = i.room }

pub fine-ear-eat : (d : Ear) (b : ℕ) → ear_owes d ≡ 0 → FineEar d → FineEar (ear_eat d b).1
unfolding ear_owes ear_eat
fine-ear-eat d b e i = eat-by d.channel d.memory b e i

fine-hear : (d : Ear) (bs : List ℕ) → FineEar d → FineEar (ear_hear d bs).2
fine-hear d bs i = inv-hear ear_owes ear_hand ear_eat ear-hand-one FineEar fine-ear-hand fine-ear-eat d bs i

-- ---- a turn
-- "more wanted" is told exactly where there is no answer
pub more-none : (o : Option Event) → is_more (answered o) ≡ true → o ≡ none
more-none none e = refl
more-none (some (said t)) e = absurd (true≢false (sym e))
more-none (some (block c)) e = absurd (true≢false (sym e))
more-none (some lost) e = absurd (true≢false (sym e))

pub more-some : (o : Option Event) → is_more (answered o) ≡ false → (e : Event) × (o ≡ some e)
more-some none e = absurd (true≢false e)
more-some (some a) e = (a, refl)

most-fits : (o : Option Event) (j : ℕ) (d : Ear) (xs : List ℕ) → FitsBy ear_owes ear_hand ear_eat ear-hand-one o j d xs → j ≤ length xs
most-fits none j d xs h = omega (arith, h.0)
most-fits (some a) j d xs h = h

module _ (t : Bool) (s : Receiver) (p : Spot) (l k bs : List ℕ) (n : ℕ) (run : n ≡ run_of p (length bs)) (r : Hearing) (l' k' : List ℕ)
    (call : EarIs t (ear_hear (ear t (memory s l k)) (take n bs)) r l' k') where
  abbrev d : Ear
  d = ear t (memory s l k)

  abbrev xs : List ℕ
  xs = take n bs

  abbrev x : Option Event × ℕ × Ear
  x = ear_hear d xs

  abbrev d' : Ear
  d' = ear t (memory r.receiver l' k')

  told : EarIs t x r l' k'
  told = call

  run-most : n ≤ length bs
  run-most = omega arith

  run_length : length xs ≡ n
  run_length = length-take-le n bs run-most

  fit : FitsBy ear_owes ear_hand ear_eat ear-hand-one x.0 r.taken d' xs
  fit = subst (λ (y : Option Event × ℕ × Ear). Fits ear_owes ear_hand ear_eat ear-hand-one y xs) told.1 (fits ear_owes ear_hand ear_eat ear-hand-one d xs)

  taken-most : r.taken ≤ n
  taken-most = omega (arith, run_length, most-fits x.0 r.taken d' xs fit)

  -- what counting the bytes taken asks
  pub skip-fine : p.offset + length bs ≤ far → p.count ≤ far → (p.offset + r.taken ≤ far) × (p.count + r.taken ≤ far)
  skip-fine h c = let m = taken-most in (omega arith, omega arith)

  -- the state behind it passes 10 and 11
  behind-fine : sound s ≡ true → roomy l k ≡ true → Fine (memory r.receiver l' k')
  behind-fine a b = subst (λ (y : Option Event × ℕ × Ear). FineEar y.2) told.1 (fine-hear d xs (fine_of (memory s l k) a b))

  at-skip : skips p (take r.taken xs) ≡ skipped p r.taken
  at-skip =
      let e : length (take r.taken xs) ≡ r.taken = length-take-le r.taken xs (omega (arith, run_length, taken-most)) in
      (run_fits p (take r.taken xs) (length bs) (omega (arith, taken-most))).1 ∙ ap (skipped p) e

  turned : deck_hear (deck p d) bs
      ≡ unless x.0 r.taken (deck (skipped p r.taken) d') (after r.taken (deck_hear (deck (skipped p r.taken) d') (drop r.taken bs)))
  turned =
      let f : drop r.taken xs ++ drop n bs ≡ drop r.taken bs =
      sym (drop-append-le r.taken xs (drop n bs) (omega (arith, run_length, taken-most))) ∙ ap (drop r.taken) (take-append-drop n bs) in
      ap (deck_hear (deck p d)) (sym (take-append-drop n bs))
      ∙ run-first xs (drop n bs) p d (run_fits p xs (length bs) (omega (arith, run_length))).0
      ∙ ap (with_rest p xs (drop n bs)) told.1
      ∙ (λ i. unless x.0 r.taken (deck (at-skip i) d') (after r.taken (deck_hear (deck (at-skip i) d') (f i))))

  module _ (q : Spot) (stands : q ≡ skipped p r.taken) where
    -- the tape behind the run
    abbrev tape : RecordingReader
    tape = record { spot = q; channel = t; receiver = r.receiver }

    turned-at : deck_hear (deck p d) bs ≡ unless x.0 r.taken (deck q d') (after r.taken (deck_hear (deck q d') (drop r.taken bs)))
    turned-at =
        turned ∙ (λ i. unless x.0 r.taken (deck (sym stands i) d') (after r.taken (deck_hear (deck (sym stands i) d') (drop r.taken bs))))

    call-as : (o : Option Event) → x.0 ≡ o → deck_hear (deck p d) bs ≡ (o, r.taken, deck q d')
        → CallIs (deck_hear (deck p d) bs) r.answer r.taken tape l' k'
    call-as o e f = (told.0 ∙ ap answered (e ∙ sym (ap (λ y. y.0) f)), f ∙ (λ i. (ap (λ y. y.0) (sym f) i, r.taken, deck q d')))

    -- an answer
    pub turn-out : is_more r.answer ≡ false → CallIs (deck_hear (deck p d) bs) r.answer r.taken tape l' k'
    turn-out e =
        let o = more-some x.0 (ap is_more (sym told.0) ∙ e) in
        call-as (some o.0) o.1
        (turned-at ∙ ap (λ (y : Option Event). unless y r.taken (deck q d') (after r.taken (deck_hear (deck q d') (drop r.taken bs)))) o.1)

    module _ (e : is_more r.answer ≡ true) where
      no_answer : x.0 ≡ none
      no_answer = more-none x.0 (ap is_more (sym told.0) ∙ e)

      -- the run is taken whole, and nothing is owed
      all-taken : (r.taken ≡ n) × (ear_owes d' ≡ 0)
      all-taken =
          let f : FitsBy ear_owes ear_hand ear_eat ear-hand-one none r.taken d' xs =
          subst (λ (o : Option Event). FitsBy ear_owes ear_hand ear_eat ear-hand-one o r.taken d' xs) no_answer fit in
          (f.0 ∙ run_length, f.1)

      goes_on : deck_hear (deck p d) bs ≡ after r.taken (deck_hear (deck q d') (drop r.taken bs))
      goes_on =
          turned-at ∙ ap (λ (y : Option Event). unless y r.taken (deck q d') (after r.taken (deck_hear (deck q d') (drop r.taken bs)))) no_answer

      -- the end of the bytes
      pub turn_end : length bs ≤ n → CallIs (deck_hear (deck p d) bs) r.answer r.taken tape l' k'
      turn_end h =
          let m : length bs ≤ r.taken = omega (arith, all-taken.0) in
          let f : drop r.taken bs ≡ [] = drop_of_length-le bs m in
          call-as none no_answer
          (goes_on ∙ ap (λ (y : List ℕ). after r.taken (deck_hear (deck q d') y)) f
          ∙ ap (after r.taken) (hear-end deck_owes deck_hand deck_eat deck-hand-one (deck q d') all-taken.1)
          ∙ (λ i. (none, add-zero r.taken i, deck q d')))

      -- a run
      pub turn-run : (n ≡ 0 → ⊥) → (deck_hear (deck p d) bs ≡ after n (deck_hear (deck_of tape l' k') (drop n bs))) × (0 < n)
      turn-run z = (goes_on ∙ (λ i. after (all-taken.0 i) (deck_hear (deck q d') (drop (all-taken.0 i) bs))), omega arith)

      -- where there is none, nothing is taken yet
      module _ (z : n ≡ 0) (some_byte : n < length bs) where
        here : q ≡ p
        here = stands ∙ ap (skipped p) (all-taken.0 ∙ z) ∙ sym (skip-none p)

        -- what a byte that is no stream byte asks
        pub head-fine : p.offset + length bs ≤ far → (q.offset < far) × (in_stream q.place q.count ≡ false)
        head-fine h = subst (λ (y : Spot). (y.offset < far) × (in_stream y.place y.count ≡ false)) (sym here)
            (omega arith, run_none p (length bs) (omega arith) (sym run ∙ z))

        pub turn-head : (u : RecordingReader) → u ≡ headed tape (get_or bs 0 0)
            → (deck_hear (deck p d) bs ≡ after 1 (deck_hear (deck_of u l' k') (drop 1 bs))) × (0 < 1)
        turn-head u g =
            let b : ℕ = get_or bs 0 0 in
            let c : bs ≡ b ∷ drop 1 bs = drop-cons bs 0 0 (omega arith) in
            let o : in_stream q.place q.count ≡ false =
            subst (λ (y : Spot). in_stream y.place y.count ≡ false) (sym here) (run_none p (length bs) (omega arith) (sym run ∙ z)) in
            let w : Option Event × Deck = byte_by false (deck q d') b in (
              goes_on
                  ∙ (λ i. after ((all-taken.0 ∙ z) i) (deck_hear (deck q d') (drop ((all-taken.0 ∙ z) i) bs)))
                  ∙ sym (after_none (deck_hear (deck q d') bs))
                  ∙ ap (deck_hear (deck q d')) c
                  ∙ hear-eat deck_owes deck_hand deck_eat deck-hand-one (deck q d') b (drop 1 bs) all-taken.1
                  ∙ ap (λ (y : Bool). let v = byte_by y (deck q d') b in unless v.0 1 v.1 (one_more (deck_hear v.1 (drop 1 bs)))) o
                  ∙ one-after (deck_hear w.1 (drop 1 bs))
                  ∙ ap (λ (y : RecordingReader). after 1 (deck_hear (deck_of y l' k') (drop 1 bs))) (sym g),
              omega arith,
            )

    -- what stays
    pub turn-stays : sound s ≡ true → roomy l k ≡ true → Stays (deck p d) bs r.taken tape l' k'
    turn-stays a b = record {
      within = omega (arith, taken-most);
      near = subst (λ (y : Spot). y.offset ≤ p.offset + r.taken) (sym stands) (omega arith);
      sound = fine-is (memory r.receiver l' k') (behind-fine a b);
      roomy = fine-roomy (memory r.receiver l' k') (behind-fine a b);
    }

    module _ (e : is_more r.answer ≡ true) (a : sound s ≡ true) (b : roomy l k ≡ true) where
      pub run-stays : Stays (deck p d) bs n tape l' k'
      run-stays = subst (λ (m : ℕ). Stays (deck p d) bs m tape l' k') (all-taken e).0 (turn-stays a b)

      pub head-stays : (z : n ≡ 0) (some_byte : n < length bs) (u : RecordingReader) → u ≡ headed tape (get_or bs 0 0) → Stays (deck p d) bs 1 u l' k'
      head-stays z h u g =
          let w = turn-stays a b in
          subst (λ (y : RecordingReader). Stays (deck p d) bs 1 y l' k') (sym g) (record {
            within = omega arith;
            near = subst (λ (y : Spot). (next q (get_or bs 0 0)).offset ≤ y.offset + 1) (here e z h) (next-near q (get_or bs 0 0));
            sound = w.sound;
            roomy = w.roomy;
          })
