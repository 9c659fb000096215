-- The code's ways through a call, by the tests that led there.
-- laid_same, laid-put, seats-put, own-cells, known-any   what is by value and the cells, put together and taken apart
-- carried             what comes back of a call is, put together, the receiver behind it
-- known-within        a number that is configured
-- put_last            the last of the four exchanged
-- told-is, told-none  a sub-channel that is configured, or not
-- configured-refused, configured-told   30 and 32 on configuring; one that is told
-- hear-..             a call on one of the four
-- call-is             a call among the boards is that call
use Prim.Native.Nat.{ℕ, zero, suc, ◌≤◌}
use native.Mathlib.Omega.{arith}
use mathlib.Core.Path.{◌≡◌, refl, sym, ◌∙◌, ap, subst}
use mathlib.Core.List.{List, [], ◌∷◌}
use mathlib.Core.Option.{Option}
use mathlib.Core.Bool.{Bool, true, false}
use lib.Dec.{ltb, leb}
use lib.ListN.{length, get_or, set}
use borrow.Author.Tests.{le-ltb, eq-eqb, leb-true}
use Rattle.base.specs.Choice.{pick}
use Rattle.base.proofs.Tests.{and_parts}
use Rattle.parity.specs.Calls.{root_limit}
use Rattle.interleaver_spec.specs.Running.{depth_limit}
use Rattle.subchannel.specs.declared.sub.Sub.{Sub}
use Rattle.subchannel.specs.declared.sub.Hearing as fixed
use Rattle.subchannel.specs.declared.sub.Telling.{Telling}
use Rattle.subchannel.specs.Call.{Memory, memory, told_sub, untold, telling, as_telling, hear_call, HearingIs}
use Rattle.channel_spec.specs.Meaning.{Event}
use Rattle.channel_spec.specs.declared.Answer.TheVariants.{Said}
use Rattle.packet_spec.specs.declared.Judged.TheVariants as judge
use Rattle.four_receivers.specs.declared.Seat.{Seat}
use Rattle.four_receivers.specs.declared.Receiver as code
use Rattle.four_receivers.specs.declared.Configuring.{Configuring}
use Rattle.four_receivers.specs.declared.Hearing.{Hearing}
use Rattle.std.specs.Prelude.{Result, Ok, Err}
use Rattle.std.specs.Prelude as option
use Rattle.base.specs.declared.Refusal.{Refusal}
use Rattle.subchannel_spec.specs.Settings.{Configured, Done, Refused, as_configured}
use Rattle.four_receivers.specs.Call.{Receiver, seated, seat, whole, seats, laid, get, put, sound_four, known, configuring, as_configuring, ConfiguringIs}
use Rattle.four_receivers.specs.Call.{heard_by, hear_four, FourIs}
use Rattle.four_receivers.specs.Call.{Memories, memory_at, call_by, call_on}

pub put_last : (s : code.Receiver) (x : Seat) (n : ℕ) → (n ≡ 0 → ⊥) → (n ≡ 1 → ⊥) → (n ≡ 2 → ⊥)
    → record { a = s.a; b = s.b; c = s.c; d = x } ≡ seats (put (whole s []) n (seated x []))
put_last s x zero a b c = absurd (a refl)
put_last s x (suc zero) a b c = absurd (b refl)
put_last s x (suc (suc zero)) a b c = absurd (c refl)
put_last s x (suc (suc (suc n))) a b c = refl

-- ---- what is by value, and the cells
module _ (s : code.Receiver) where
  pub laid_same : (cs : List (List ℕ)) → cs ≡ laid cs (whole s cs)
  laid_same [] = refl
  laid_same (p ∷ []) = refl
  laid_same (p ∷ q ∷ []) = refl
  laid_same (p ∷ q ∷ o ∷ []) = refl
  laid_same (p ∷ q ∷ o ∷ m ∷ l) = refl

  pub laid-put : (cs : List (List ℕ)) (n : ℕ) → n ≤ 3 → (x : Sub) → set cs n x.back.matrix.cells ≡ laid cs (put (whole s cs) n x)
  laid-put [] n i x = refl
  laid-put (p ∷ []) zero i x = refl
  laid-put (p ∷ []) (suc zero) i x = refl
  laid-put (p ∷ []) (suc (suc zero)) i x = refl
  laid-put (p ∷ []) (suc (suc (suc zero))) i x = refl
  laid-put (p ∷ []) (suc (suc (suc (suc n)))) i x = absurd (omega (arith, i))
  laid-put (p ∷ q ∷ []) zero i x = refl
  laid-put (p ∷ q ∷ []) (suc zero) i x = refl
  laid-put (p ∷ q ∷ []) (suc (suc zero)) i x = refl
  laid-put (p ∷ q ∷ []) (suc (suc (suc zero))) i x = refl
  laid-put (p ∷ q ∷ []) (suc (suc (suc (suc n)))) i x = absurd (omega (arith, i))
  laid-put (p ∷ q ∷ o ∷ []) zero i x = refl
  laid-put (p ∷ q ∷ o ∷ []) (suc zero) i x = refl
  laid-put (p ∷ q ∷ o ∷ []) (suc (suc zero)) i x = refl
  laid-put (p ∷ q ∷ o ∷ []) (suc (suc (suc zero))) i x = refl
  laid-put (p ∷ q ∷ o ∷ []) (suc (suc (suc (suc n)))) i x = absurd (omega (arith, i))
  laid-put (p ∷ q ∷ o ∷ m ∷ l) zero i x = refl
  laid-put (p ∷ q ∷ o ∷ m ∷ l) (suc zero) i x = refl
  laid-put (p ∷ q ∷ o ∷ m ∷ l) (suc (suc zero)) i x = refl
  laid-put (p ∷ q ∷ o ∷ m ∷ l) (suc (suc (suc zero))) i x = refl
  laid-put (p ∷ q ∷ o ∷ m ∷ l) (suc (suc (suc (suc n)))) i x = absurd (omega (arith, i))

module _ (s : code.Receiver) (cs : List (List ℕ)) where
  pub seats-put : (n : ℕ) (x : Sub) → seats (put (whole s []) n (seated (seat x) [])) ≡ seats (put (whole s cs) n x)
  seats-put zero x = refl
  seats-put (suc zero) x = refl
  seats-put (suc (suc zero)) x = refl
  seats-put (suc (suc (suc n))) x = refl

  pub own-cells : (n : ℕ) → n ≤ 3 → seated (seat (get (whole s []) n)) (get_or cs n []) ≡ get (whole s cs) n
  own-cells zero i = refl
  own-cells (suc zero) i = refl
  own-cells (suc (suc zero)) i = refl
  own-cells (suc (suc (suc zero))) i = refl
  own-cells (suc (suc (suc (suc n)))) i = absurd (omega (arith, i))

  pub known-any : (n : ℕ) → known (whole s []) n ≡ known (whole s cs) n
  known-any zero = refl
  known-any (suc zero) = refl
  known-any (suc (suc zero)) = refl
  known-any (suc (suc (suc n))) = refl

-- with four cells lent, so that the next call goes on from there
pub carried : (s : Receiver) (cs : List (List ℕ)) → length cs ≡ 4 → whole (seats s) (laid cs s) ≡ s
carried s [] h = absurd (omega (arith, h))
carried s (p ∷ []) h = absurd (omega (arith, h))
carried s (p ∷ q ∷ []) h = absurd (omega (arith, h))
carried s (p ∷ q ∷ o ∷ []) h = absurd (omega (arith, h))
carried s (p ∷ q ∷ o ∷ m ∷ l) h = refl

pub known-within : (s : code.Receiver) (n : ℕ) → known (whole s []) n ≡ true → n ≤ 3
known-within s n e = leb-true _ _ (and_parts (leb n 3) _ e).0

-- a sub-channel that is configured
module _ (s : code.Receiver) (n : ℕ) {o : option.Option Seat} (p : o ≡ pick (known (whole s []) n) (option.Some (seat (get (whole s []) n))) option.None) where
  pub told-is : {x : Seat} → o ≡ option.Some x → (known (whole s []) n ≡ true) × (x ≡ seat (get (whole s []) n))
  told-is {x} q = go (known (whole s []) n) (sym q ∙ p)
    where
      go : (t : Bool) → option.Some x ≡ pick t (option.Some (seat (get (whole s []) n))) option.None → (t ≡ true) × (x ≡ seat (get (whole s []) n))
      go true e = (refl, cc)
      go false e = cc

  -- .. that is not
  pub told-none : o ≡ option.None → known (whole s []) n ≡ false
  told-none q = go (known (whole s []) n) (sym q ∙ p)
    where
      go : (t : Bool) → option.None ≡ pick t (option.Some (seat (get (whole s []) n))) option.None → t ≡ false
      go true e = cc
      go false e = refl

-- ---- configuring
module _ (s : code.Receiver) (cs : List (List ℕ)) (n r d : ℕ) where
  abbrev Told : Configuring → List (List ℕ) → Type 0
  Told = ConfiguringIs cs (configuring (whole s cs) n r d)

  module _ (e : sound_four (whole s []) ≡ true) where
    f : sound_four (whole s cs) ≡ true
    f = e

    -- by what telling answers
    abbrev left : Configured × Sub → Configured × Receiver
    left (Done, u) = (Done, put (whole s cs) n u)
    left (Refused m, u) = (Refused m, whole s cs)

    module _ (h : n ≤ 3) (t : Telling) (p : as_telling t ≡ telling r d) where
      is-left : configuring (whole s cs) n r d ≡ left (as_telling t)
      is-left = rw (f, le-ltb 3 n h) (go (ltb root_limit r) (ltb depth_limit d)) ∙ ap left (sym p)
        where
          go : (a b : Bool) → pick {A = Configured × Receiver} a (Refused 30, whole s cs)
              (pick b (Refused 32, whole s cs) (Done, put (whole s cs) n (told_sub r d)))
              ≡ left (pick a (Refused 30, untold) (pick b (Refused 32, untold) (Done, told_sub r d)))
          go true b = refl
          go false true = refl
          go false false = refl

      pub configured-told : {x : Seat} {y : code.Receiver} → ((e : Refusal) → t.answer ≡ Err e → ⊥) → x ≡ seat t.sub
          → y ≡ seats (put (whole s []) n (seated x [])) → Told (record { answer = Ok tt; receiver = y }) (set cs n t.sub.back.matrix.cells)
      configured-told {x} {y} q v w =
          subst (λ z. ConfiguringIs cs z (record { answer = Ok tt; receiver = y }) (set cs n t.sub.back.matrix.cells))
          (sym (is-left ∙ done t.answer refl)) (
            (λ i. (Done, (w ∙ ap (λ z. seats (put (whole s []) n (seated z []))) v ∙ seats-put s cs n t.sub) i)),
            laid-put s cs n h t.sub,
          )
        where
          done : (a : Result Unit Refusal) → t.answer ≡ a → left (as_telling t) ≡ (Done, put (whole s cs) n t.sub)
          done (Ok u) k = ap (λ a. left (as_configured a, t.sub)) k
          done (Err e) k = absurd (q e k)

    -- refused with m, as telling is
    module _ (h : n ≤ 3) where
      pub configured-refused : (x : Configuring) (t : Telling) (m : ℕ) → as_telling t ≡ telling r d → as_configured t.answer ≡ Refused m
          → as_configuring x ≡ (Refused m, s) → Told x cs
      configured-refused x t m p q w =
          subst (λ z. ConfiguringIs cs z x cs) (sym (is-left h t p ∙ ap (λ a. left (a, t.sub)) q)) (w, laid_same s cs)

-- ---- a call
module _ (s : code.Receiver) (cs : List (List ℕ)) (n : ℕ) (l w bs : List ℕ) where
  module _ (e : sound_four (whole s []) ≡ true) where
    sounds : sound_four (whole s cs) ≡ true
    sounds = e

    pub hear-unknown : {r : Hearing} → known (whole s []) n ≡ false → r ≡ record { answer = Said (judge.Refused 42); taken = 0; receiver = s }
        → FourIs cs (hear_four (whole s cs) n l w bs) r cs l w
    hear-unknown {r} g p =
        let k : known (whole s cs) n ≡ false = sym (known-any s cs n) ∙ g in
        subst (λ x. FourIs cs x r cs l w) (λ i. heard_by (sym sounds i) (sym k i) (whole s cs) n l w bs) (p, laid_same s cs, refl, refl)

    pub hear-known : {x : Seat} {u : Sub} {h : fixed.Hearing} {y : Seat} {t : code.Receiver} {l' w' : List ℕ} → known (whole s []) n ≡ true
        → x ≡ seat (get (whole s []) n) → u ≡ seated x (get_or cs n [])
        → HearingIs (hear_call (memory u l w) bs) h l' w' → y ≡ seat h.sub → t ≡ seats (put (whole s []) n (seated y []))
        → FourIs cs (hear_four (whole s cs) n l w bs) (record { answer = h.answer; taken = h.taken; receiver = t })
        (set cs n h.sub.back.matrix.cells) l' w'
    hear-known {x} {u} {h} {y} {t} {l'} {w'} g a b q v p =
        let k : known (whole s cs) n ≡ true = sym (known-any s cs n) ∙ g in
        let i3 : n ≤ 3 = known-within s n g in
        let o : u ≡ get (whole s cs) n = b ∙ ap (λ z. seated z (get_or cs n [])) a ∙ own-cells s cs n i3 in
        let z : HearingIs (hear_call (memory (get (whole s cs) n) l w) bs) h l' w' = subst (λ y. HearingIs (hear_call (memory y l w) bs) h l' w') o q in
        let m : Option Event × ℕ × Memory = hear_call (memory (get (whole s cs) n) l w) bs in
        subst (λ y. FourIs cs y (record { answer = h.answer; taken = h.taken; receiver = t }) (set cs n h.sub.back.matrix.cells) l' w')
        (λ i. heard_by (sym sounds i) (sym k i) (whole s cs) n l w bs) (
          (λ i. record {
            answer = (z.0 i).answer;
            taken = (z.0 i).taken;
            receiver = (p ∙ ap (λ c. seats (put (whole s []) n (seated c []))) v ∙ seats-put s cs n h.sub
                ∙ ap (λ (c : fixed.Hearing). seats (put (whole s cs) n c.sub)) z.0) i;
          }),
          ap (λ (c : fixed.Hearing). set cs n c.sub.back.matrix.cells) z.0 ∙ laid-put s cs n i3 m.2.st,
          z.1,
          z.2,
        )

-- a call on sub-channel n among the boards is the call that the code makes, with that sub-channel's buffers: answer, bytes taken, state
pub call-is : (n : ℕ) (s : Memories) (bs : List ℕ) →
    let x = hear_four s.st n (s.recv n) (s.word n) bs in
    let y = call_on n s bs in
    (y.0 ≡ x.0) × (y.1 ≡ x.1) × (y.2.st ≡ x.2) × (y.2.recv n ≡ x.3) × (y.2.word n ≡ x.4)
call-is n s bs = go (sound_four s.st) (known s.st n)
  where
    go : (a b : Bool) →
        let x = heard_by a b s.st n (s.recv n) (s.word n) bs in
        let y = call_by a b n s bs in
        (y.0 ≡ x.0) × (y.1 ≡ x.1) × (y.2.st ≡ x.2) × (y.2.recv n ≡ x.3) × (y.2.word n ≡ x.4)
    go false b = (refl, refl, refl, refl, refl)
    go true false = (refl, refl, refl, refl, refl)
    go true true =
        let c : Memory = (hear_call (memory_at s n) bs).2 in
        (refl, refl, refl, ap (λ t. pick t c.recv (s.recv n)) (eq-eqb n n refl), ap (λ t. pick t c.word (s.word n)) (eq-eqb n n refl))
