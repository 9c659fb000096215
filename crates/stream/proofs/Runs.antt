-- Laws of runs of bytes up to a flag (what a loop over them needs: crates/base/proofs/UpTo.antt).
-- stored                        what copying them to their place leaves
-- counted_is, counted-room      the counts behind a run
-- before-stops, before-rest, before-stop, no-flag-before   what stands behind a run, and what is not in it
-- gather-found, gather_none     what the calls of `gather` leave together
use Prim.Native.Nat.{ℕ, zero, suc, ◌+◌, ◌-◌, ◌≤◌, ◌<◌, min}
use native.Mathlib.Omega.{arith}
use mathlib.Core.Path.{◌≡◌, refl, sym, ◌∙◌, ap, ap₂, subst}
use mathlib.Core.Bool.{Bool, true, false}
use mathlib.Core.List.{List, [], ◌∷◌, ◌++◌, append-nil}
use lib.ListN.{length, take, drop, get_or, length-append}
use lib.Seq.{sets, take_all, take_at, length-take-le}
use borrow.Author.Tests.{eq-eqb, ne_eqb}
use borrow.Rule.Slice.PartMut.{put_mid}
use Rattle.base.specs.UpTo.{up_to}
use Rattle.base.specs.Written.{copied}
use Rattle.base.proofs.Laid.{laid-copied}
use Rattle.base.proofs.Lists.{next, over}
use Rattle.base.proofs.UpTo.{up-to-over, up-to-short, up-to-is}
use Rattle.base.proofs.Tests.{by-eq, by_le}
use Rattle.packet_spec.specs.Contents.{raw_limit}
use Rattle.packet_spec.specs.Escape.{flag, NoFlag}
use Rattle.stream.specs.declared.frame.FrameReader.{FrameReader}
use Rattle.stream.specs.Private.{before, counted_by, counted, gathered_by}

-- ---- the bytes stored
pub stored : (l recv : List ℕ) (at : ℕ) {n : ℕ} {y : List ℕ} → at + length l ≤ length recv → n ≡ length (before l)
    → y ≡ copied (take n l) (take (length recv - at) (drop at recv))
    → put_mid at (length recv - at) recv y ≡ sets recv at (before l)
stored l recv at {n} h e c =
    let b : take n l ≡ before l = ap (λ (k : ℕ). take k l) e ∙ sym (up-to-is flag l) in
    (laid-copied {l = recv} {bs = before l} {at = at} (omega (arith, up-to-short flag l))
    (c ∙ ap (λ (x : List ℕ). copied x (take (length recv - at) (drop at recv))) b)).holds

-- ---- the counts
pub counted_is : (f : FrameReader) (n : ℕ) {k s : ℕ} → f.opened ≡ true → f.raw ≤ suc raw_limit → k ≡ min n (suc raw_limit - f.raw)
    → s ≡ min (f.raw + k) raw_limit
    → ◌≡◌ {A = FrameReader} (record { opened = true; raw = f.raw + k; stored = s; place = f.place }) (counted f n)
counted_is f n {k} {s} o h e q =
    (λ i. record { opened = true; raw = raw i; stored = stored i; place = f.place }) ∙ ap (λ (b : Bool). counted_by b f n) (sym o)
  where
    raw : f.raw + k ≡ min (f.raw + n) (suc raw_limit)
    raw = omega arith

    stored : s ≡ min (f.raw + n) raw_limit
    stored = omega arith

-- what is counted as stored has room
pub counted-room : (f : FrameReader) (n : ℕ) {g : FrameReader} {room : ℕ} → g ≡ counted f n → f.stored ≡ min f.raw raw_limit → raw_limit ≤ room
    → g.stored ≤ room
counted-room f n {g} {room} e s h = subst (λ (x : FrameReader). x.stored ≤ room) (sym e) (go f.opened)
  where
    go : (o : Bool) → (counted_by o f n).stored ≤ room
    go true = omega arith
    go false = omega arith

-- ---- the bytes before the first flag, in parts
before-found : (l : List ℕ) (n : ℕ) → length (before (take n l)) < length (take n l) → before (take n l) ≡ before l
unfolding up_to
before-found [] zero h = refl
before-found [] (suc n) h = refl
before-found (b ∷ l) zero h = absurd (omega arith)
before-found (b ∷ l) (suc n) h =
    by-eq b flag (λ e. simp (eq-eqb b flag e))
    (λ m. let k = simp (ne_eqb b flag m) at h in simp (ne_eqb b flag m) (ap (λ (x : List ℕ). b ∷ x) (before-found l n (omega (arith, k)))))

before-none : (l : List ℕ) (n : ℕ) → length (take n l) ≤ length (before (take n l)) → before l ≡ take n l ++ before (drop n l)
unfolding up_to
before-none [] zero h = refl
before-none [] (suc n) h = refl
before-none (b ∷ l) zero h = refl
before-none (b ∷ l) (suc n) h =
    by-eq b flag (λ e. let k = simp (eq-eqb b flag e) at h in absurd (omega (arith, k)))
    (λ m. let k = simp (ne_eqb b flag m) at h in simp (ne_eqb b flag m) (ap (λ (x : List ℕ). b ∷ x) (before-none l n (omega (arith, k)))))

pub no-flag-before : (l : List ℕ) → NoFlag (before l)
unfolding up_to
no-flag-before [] = tt
no-flag-before (b ∷ l) = by-eq b flag (λ e. simp (eq-eqb b flag e) tt) (λ m. simp (ne_eqb b flag m) (m, no-flag-before l))

pub before-stops : (l : List ℕ) {n : ℕ} → n ≡ length (before l) → (n ≡ length l → ⊥) → n < length l
before-stops l {n} e stop = by_le (length l) n (λ m. absurd (stop (omega (arith, up-to-short flag l)))) (λ m. m)

-- behind them stands the flag, or nothing
pub before-rest : (l : List ℕ) → l ≡ before l ++ drop (length (before l)) l
unfolding up_to
before-rest [] = refl
before-rest (b ∷ l) =
    by-eq b flag (λ e. simp (eq-eqb b flag e)) (λ m. simp (ne_eqb b flag m) (ap (λ (x : List ℕ). b ∷ x) (before-rest l)))

stops : (l : List ℕ) → length (before l) < length l → get_or l (length (before l)) 0 ≡ flag
unfolding up_to
stops [] h = absurd (omega arith)
stops (b ∷ l) h =
    by-eq b flag (λ e. simp (eq-eqb b flag e) e)
    (λ m. let k = simp (ne_eqb b flag m) at h in simp (ne_eqb b flag m) (stops l (omega (arith, k))))

pub before-stop : (l : List ℕ) → length (before l) < length l → drop (length (before l)) l ≡ flag ∷ drop (length (before l) + 1) l
before-stop l h = next l (length (before l)) h ∙ ap (λ (b : ℕ). b ∷ drop (length (before l) + 1) l) (stops l h)

before-all : (l : List ℕ) → length l ≤ length (before l) → before l ≡ l
before-all l h = sym (before-rest l ∙ ap (λ (x : List ℕ). before l ++ x) (over l (length (before l)) h) ∙ append-nil (before l))

-- ---- gather: stored up to the limit, counted behind it
module _ (raw : ℕ) (l recv : List ℕ) (n at : ℕ) (e : at ≡ min raw raw_limit) (en : n ≡ min (raw_limit - at) (length l)) {k : ℕ}
    (ek : k ≡ length (before (take n l))) where
  lent : length (take n l) ≡ n
  lent = length-take-le n l (omega arith)

  pub gather-found : {y : List ℕ} → k < n → y ≡ sets recv at (before (take n l))
      → (k ≡ length (before l)) × (y ≡ gathered_by true raw (before l) recv)
  gather-found h ey =
      let f : before (take n l) ≡ before l = before-found l n (omega (arith, lent)) in (
        ek ∙ ap length f,
        ey ∙ ap₂ (λ (a : ℕ) (x : List ℕ). sets recv a x) e (f ∙ sym (take_all (raw_limit - min raw raw_limit) (before l) (omega (arith, ap length f)))),
      )

  pub gather_none : {y : List ℕ} {r : ℕ} → n ≤ k → y ≡ sets recv at (before (take n l)) → r ≡ n + length (before (drop n l))
      → (r ≡ length (before l)) × (y ≡ gathered_by true raw (before l) recv)
  gather_none h ey er =
      let f : before l ≡ take n l ++ before (drop n l) = before-none l n (omega (arith, lent)) in (
        er ∙ sym (ap length f ∙ length-append (take n l) (before (drop n l)) ∙ ap (λ (m : ℕ). m + length (before (drop n l))) lent),
        ey
            ∙ ap₂ (λ (a : ℕ) (x : List ℕ). sets recv a x) e
            (before-all (take n l) (omega (arith, lent))
            ∙ sym (ap (λ (m : ℕ). take (raw_limit - m) (before l)) (sym e) ∙ ap (take (raw_limit - at)) f ∙ stored)),
      )
    where
      stored : take (raw_limit - at) (take n l ++ before (drop n l)) ≡ take n l
      stored =
          by_le (length l) (raw_limit - at)
          (λ (s : length l ≤ raw_limit - at).
          ap (λ (x : List ℕ). take (raw_limit - at) (take n l ++ x)) (up-to-over flag l n (omega arith)) ∙ ap (take (raw_limit - at)) (append-nil (take n l))
          ∙ take_all (raw_limit - at) (take n l) (omega (arith, lent)))
          (λ s. take_at (take n l) (before (drop n l)) (raw_limit - at) (lent ∙ omega arith))
