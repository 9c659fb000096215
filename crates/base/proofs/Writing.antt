-- Laws of calls that write.
-- write-fits, write-short    the outcome where the output has room for the result, and where it has not
-- wrote-copied, wrote-fits, wrote-short   the same of a result whose length is known
-- refused-keeps, write_keeps, pick-keeps   a refused call leaves the output as it was
-- room-wrote, room-never     with room the result is written, and no call is refused
-- write-is                   what is written is the result
-- same-written               an answer of the code is told by its number: two that are the same by numbers are the same
-- names-one                  what a number names is one answer
-- copied-fits                with room, copying leaves the bytes and what stood behind them
-- copied-over                without, as many bytes as there is room for
-- copied-all                 and where there is just so much room, the bytes
-- copied-min                 the bytes for which there is room, and those behind them
-- copied_next, copied-done   a turn of the loop that copies, and its end
use mathlib.Core.Path.{◌≡◌, refl, sym, ap, ap₂, ◌∙◌}
use mathlib.Core.Bool.{Bool, true, false}
use mathlib.Core.List.{List, [], ◌∷◌, ◌++◌, append-nil}
use Prim.Native.Nat.{ℕ, ◌+◌, ◌≤◌, ◌<◌, min}
use native.Mathlib.Omega.{arith}
use lib.ListN.{length, take, drop, get_or, set}
use lib.Seq.{take_all, take_at, take-nil, drop-nil}
use borrow.Author.Tests.{lt-ltb, le-ltb}
use Rattle.base.specs.Choice.{pick}
use Rattle.std.specs.Prelude.{eqb, Result, Ok, Err}
use Rattle.base.specs.declared.Refusal.{Refusal}
use Rattle.base.specs.declared.Refusal.TheVariants as refusal
use Rattle.base.specs.declared.NoRefusal.{NoRefusal}
use Rattle.base.specs.Refusals.{number, Names}
use Rattle.base.specs.Written.{Written, Wrote, Refused, as_written, Outcome, outcome, Keeps, refused, write, copied}
use Rattle.base.proofs.Lists.{over}
use Rattle.base.proofs.Tests.{by_le}
use Rattle.base.proofs.InPlace.{next, done}

pub copied-fits : (bs dst : List ℕ) → length bs ≤ length dst → copied bs dst ≡ bs ++ drop (length bs) dst
unfolding copied
copied-fits bs dst h = ap (λ (l : List ℕ). l ++ drop (length bs) dst) (take_all (length dst) bs h)

pub copied-over : (bs dst : List ℕ) → length dst ≤ length bs → copied bs dst ≡ take (length dst) bs
unfolding copied
copied-over bs dst h = ap (λ (l : List ℕ). take (length dst) bs ++ l) (over dst (length bs) h) ∙ append-nil (take (length dst) bs)

pub copied-all : (bs dst : List ℕ) → length bs ≡ length dst → copied bs dst ≡ bs
copied-all bs dst h = copied-over bs dst (omega arith) ∙ take_all (length dst) bs (omega arith)

pub write-fits : (bs out : List ℕ) → length bs ≤ length out → write bs out ≡ outcome (Wrote (length bs)) (copied bs out)
write-fits bs out h = simp (le-ltb (length out) (length bs) h, copied-fits bs out h)

pub write-short : (bs out : List ℕ) → length out < length bs → write bs out ≡ refused 23 out
write-short bs out h = simp (lt-ltb (length out) (length bs) h)

module _ (bs out : List ℕ) (n : ℕ) (l : length bs ≡ n) where
  pub wrote-copied : {after : List ℕ} → n ≤ length out → after ≡ copied bs out → outcome (Wrote n) after ≡ write bs out
  wrote-copied h e = ap₂ (λ (m : ℕ) (x : List ℕ). outcome (Wrote m) x) (sym l) e ∙ sym (write-fits bs out (omega arith))

  pub wrote-fits : {after : List ℕ} → n ≤ length out → after ≡ bs ++ drop n out → outcome (Wrote n) after ≡ write bs out
  wrote-fits h e = wrote-copied h (e ∙ ap (λ (m : ℕ). bs ++ drop m out) (sym l) ∙ sym (copied-fits bs out (omega arith)))

  pub wrote-short : length out < n → refused 23 out ≡ write bs out
  wrote-short h = sym (write-short bs out (omega arith))

pub refused-keeps : (n : ℕ) (out : List ℕ) → Keeps out (refused n out)
refused-keeps n out m e = refl

pub write_keeps : (bs out : List ℕ) → Keeps out (write bs out)
write_keeps bs out =
    by_le (length bs) (length out)
    (λ h. rw (write-fits bs out h) λ n e. let z : ◌≡◌ {A = ℕ} 0 1 = cc in absurd (omega arith))
    (λ h. rw (write-short bs out h) (refused-keeps 23 out))

-- of two calls the one that a test chooses
pub pick-keeps : (t : Bool) (out : List ℕ) {o o' : Outcome} → Keeps out o → Keeps out o' → Keeps out (pick t o o')
pick-keeps true out h k = h
pick-keeps false out h k = k

pub copied-min : (src dst : List ℕ) {n : ℕ} {x : List ℕ} → n ≡ min (length src) (length dst) → x ≡ take n src → x ++ drop n dst ≡ copied src dst
copied-min src dst {n} {x} e f =
    by_le (length src) (length dst)
    (λ h.
    let k : n ≡ length src = omega (arith, e) in
    ap₂ (λ (l : List ℕ) (m : ℕ). l ++ drop m dst) (f ∙ take_all n src (omega (arith, k))) k ∙ sym (copied-fits src dst h))
    (λ h.
    let k : n ≡ length dst = omega (arith, e) in
    ap₂ (λ (l m : List ℕ). l ++ m) f (over dst n (omega (arith, k))) ∙ append-nil (take n src) ∙ ap (λ (m : ℕ). take m src) k
    ∙ sym (copied-over src dst (omega arith)))

none : (dst : List ℕ) → copied [] dst ≡ dst
unfolding copied
none dst = ap (λ (l : List ℕ). l ++ dst) (take-nil (length dst))

full : (bs : List ℕ) → copied bs [] ≡ []
unfolding copied
full bs = drop-nil (length bs)

one : (b d : ℕ) (bs dst : List ℕ) → copied (b ∷ bs) (d ∷ dst) ≡ b ∷ copied bs dst
unfolding copied
one b d bs dst = refl

module _ (i : ℕ) (src dst : List ℕ) {t : List ℕ} (p : take i dst ++ copied (drop i src) (drop i dst) ≡ t) where
  pub copied_next : i < length src → i < length dst
      → take (i + 1) (set dst i (get_or src i 0)) ++ copied (drop (i + 1) src) (drop (i + 1) (set dst i (get_or src i 0))) ≡ t
  copied_next h k = next copied (λ b d. b) none one i src dst (get_or src i 0) h k refl p

  pub copied-done : (n : ℕ) → n ≤ i → n ≡ min (length src) (length dst) → dst ≡ t
  copied-done n h e =
      by_le (length src) i (λ l. done copied (λ b d. b) none one i src dst l p) λ l.
      let k : length dst ≤ i = omega arith in
      sym
      (ap (λ (x : List ℕ). take i dst ++ copied (drop i src) x) (over dst i k) ∙ ap (λ (x : List ℕ). take i dst ++ x) (full (drop i src))
      ∙ append-nil (take i dst) ∙ take_all i dst k) ∙ p

-- where there is room, an answer and an output of the call
module _ (bs out : List ℕ) {w : Written} {after : List ℕ} (h : length bs ≤ length out) (e : outcome w after ≡ write bs out) where
  there : outcome w after ≡ outcome (Wrote (length bs)) (bs ++ drop (length bs) out)
  there = e ∙ write-fits bs out h ∙ ap (outcome (Wrote (length bs))) (copied-fits bs out h)

  pub room-wrote : {n : ℕ} → w ≡ Wrote n → (n ≡ length bs) × (after ≡ bs ++ drop (length bs) out)
  room-wrote {n} f =
      let k : Wrote n ≡ Wrote (length bs) = sym f ∙ ap (λ (o : Outcome). o.answer) there in
      let m : n ≡ length bs = cc in
      (m, ap (λ (o : Outcome). o.output) there)

  pub room-never : {n : ℕ} → w ≡ Refused n → ⊥
  room-never {n} f =
      let k : Refused n ≡ Wrote (length bs) = sym f ∙ ap (λ (o : Outcome). o.answer) there in
      let z : ◌≡◌ {A = ℕ} 0 1 = cc in
      omega arith

-- where n bytes are written, they are the result
pub write-is : (bs out : List ℕ) (n : ℕ) → (write bs out).answer ≡ Wrote n → take n (write bs out).output ≡ bs
write-is bs out n = by_le (length bs) (length out) fits λ h e. absurd (short h e)
  where
    fits : length bs ≤ length out → (write bs out).answer ≡ Wrote n → take n (write bs out).output ≡ bs
    fits h e =
        let r = room-wrote bs out h refl e in
        ap (take n) r.1 ∙ take_at bs (drop (length bs) out) n (sym r.0)

    short : length out < length bs → (write bs out).answer ≡ Wrote n → ⊥
    short h e =
        let k : Refused 23 ≡ Wrote n = sym (ap (λ (o : Outcome). o.answer) (write-short bs out h)) ∙ e in
        let z : ◌≡◌ {A = ℕ} 0 1 = cc in
        omega arith

-- the refusal of a number
back : ℕ → Refusal
back n =
    pick (eqb n 1) refusal.Raw (pick (eqb n 2) refusal.Unfinished (pick (eqb n 3) refusal.Escape (pick (eqb n 4) refusal.Short (
    pick (eqb n 5) refusal.Check (pick (eqb n 6) refusal.Format (pick (eqb n 7) refusal.Port (pick (eqb n 8) refusal.Payload (
    pick (eqb n 10) refusal.State (pick (eqb n 11) refusal.Buffer (pick (eqb n 12) refusal.Key (pick (eqb n 20) refusal.Empty (
    pick (eqb n 21) refusal.Long (pick (eqb n 22) refusal.Barred (pick (eqb n 23) refusal.Output (pick (eqb n 24) refusal.SentKey (
    pick (eqb n 30) refusal.Roots (pick (eqb n 31) refusal.Length (pick (eqb n 32) refusal.Depth (pick (eqb n 40) refusal.Full (
    pick (eqb n 41) refusal.Unheld (pick (eqb n 42) refusal.SubChannel (pick (eqb n 43) refusal.Table (pick (eqb n 44) refusal.Wide (
    pick (eqb n 50) refusal.Unit (pick (eqb n 51) refusal.Mix (pick (eqb n 52) refusal.Sequence (pick (eqb n 53) refusal.Parts (
    pick (eqb n 54) refusal.Delimiter (pick (eqb n 60) refusal.Capture (pick (eqb n 61) refusal.Record (refusal.NoPacket)))))))))))))))))))))))))))))))

back-is : (r : Refusal) → back (number r) ≡ r
unfolding back
back-is refusal.Raw = refl
back-is refusal.Unfinished = refl
back-is refusal.Escape = refl
back-is refusal.Short = refl
back-is refusal.Check = refl
back-is refusal.Format = refl
back-is refusal.Port = refl
back-is refusal.Payload = refl
back-is refusal.State = refl
back-is refusal.Buffer = refl
back-is refusal.Key = refl
back-is refusal.Empty = refl
back-is refusal.Long = refl
back-is refusal.Barred = refl
back-is refusal.Output = refl
back-is refusal.SentKey = refl
back-is refusal.Roots = refl
back-is refusal.Length = refl
back-is refusal.Depth = refl
back-is refusal.Full = refl
back-is refusal.Unheld = refl
back-is refusal.SubChannel = refl
back-is refusal.Table = refl
back-is refusal.Wide = refl
back-is refusal.Unit = refl
back-is refusal.Mix = refl
back-is refusal.Sequence = refl
back-is refusal.Parts = refl
back-is refusal.Delimiter = refl
back-is refusal.Capture = refl
back-is refusal.Record = refl
back-is refusal.NoPacket = refl

same-refusal : (r s : Refusal) → number r ≡ number s → r ≡ s
same-refusal r s e = sym (back-is r) ∙ ap back e ∙ back-is s

pub same-written : (r s : Result ℕ Refusal) → as_written r ≡ as_written s → r ≡ s
same-written (Ok n) (Ok m) e = cc
same-written (Ok n) (Err s) e = cc
same-written (Err r) (Ok m) e = cc
same-written (Err r) (Err s) e = let k : number r ≡ number s = cc in ap Err (same-refusal r s k)

pub names-one : (n : ℕ) (x y : Result Refusal NoRefusal) → Names n x → Names n y → x ≡ y
names-one n (Ok r) (Ok s) e f = ap Ok (same-refusal r s (e ∙ sym f))
names-one n (Ok r) (Err b) e f = absurd (f.1 r e)
names-one n (Err a) (Ok s) e f = absurd (e.1 s f)
names-one n (Err a) (Err b) e f = ap Err (λ i. record { 0 = (e.0 ∙ sym f.0) i })
