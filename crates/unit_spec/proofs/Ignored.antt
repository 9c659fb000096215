-- "Excess bits, and those past the unit in its last byte, are zero when written and ignored when read." They are the bits of a unit that are
-- neither header bits nor bits of payload bytes: behind the others, once the header bits are taken out.
-- read_alike     units that differ only in ignored bits are read alike
-- excess-zero    in a unit as written they are zero
use mathlib.Core.Path.{◌≡◌, refl, sym, ap, ap₂, ◌∙◌}
use mathlib.Core.Bool.{Bool}
use mathlib.Core.List.{List, [], ◌∷◌}
use Prim.Native.Nat.{ℕ, zero, suc, ◌+◌, ◌-◌, ◌*◌, ◌≤◌, ◌<◌}
use native.Mathlib.Nat.{suc-add}
use native.Mathlib.Omega.{arith}
use lib.ListN.{length, take, drop, replicate}
use lib.Seq.{drop_at, take-nil}
use borrow.Author.Tests.{le-ltb}
use Rattle.base.specs.Choice.{pick}
use Rattle.base.specs.Written.{Outcome, refused}
use Rattle.base.proofs.Lists.{drop-take}
use Rattle.unit_spec.specs.Bits.{bits, number, pack}
use Rattle.unit_spec.specs.Tables.{heads, start, step, payload, lent, unfit}
use Rattle.unit_spec.specs.Unit.{unit}
use Rattle.unit_spec.specs.Reading.{heard, unwoven, header_of, payload_of, named, read_parts, read_unit}
use Rattle.unit_spec.proofs.Bits.{length-bits}
use Rattle.unit_spec.proofs.Carrying.{unwoven-unit}

-- n bytes are those of the first 8 n bits
pack-take : (n : ℕ) (us vs : List ℕ) → take (n * 8) us ≡ take (n * 8) vs → pack n us ≡ pack n vs
unfolding pack
pack-take zero us vs e = refl
pack-take (suc n) us vs e =
    let k : suc n * 8 ≡ 8 + n * 8 = omega arith in
    let f : take (8 + n * 8) us ≡ take (8 + n * 8) vs = ap (λ (m : ℕ). take m us) (sym k) ∙ e ∙ ap (λ (m : ℕ). take m vs) k in
    ap₂ (λ (x : List ℕ) (y : List ℕ). number 0 x ∷ y)
    (sym (take-take 8 (n * 8) us) ∙ ap (take 8) f ∙ take-take 8 (n * 8) vs)
    (pack-take n (drop 8 us) (drop 8 vs) (sym (drop-front 8 (n * 8) us) ∙ ap (drop 8) f ∙ drop-front 8 (n * 8) vs))
  where
    take-take : (a b : ℕ) (xs : List ℕ) → take a (take (a + b) xs) ≡ take a xs
    take-take zero b xs = refl
    take-take (suc a) b [] = ap (take (suc a)) (take-nil (suc a + b))
    take-take (suc a) b (x ∷ xs) =
        ap (λ (m : ℕ). take (suc a) (take m (x ∷ xs))) (suc-add a b) ∙ ap (λ (ys : List ℕ). x ∷ ys) (take-take a b xs)

    drop-front : (a b : ℕ) (xs : List ℕ) → drop a (take (a + b) xs) ≡ take b (drop a xs)
    drop-front a b xs = let k : a + b - a ≡ b = omega arith in drop-take a (a + b) xs ∙ ap (λ (m : ℕ). take m (drop a xs)) k

-- the payload bits of a unit, and behind them the ignored ones
abbrev pub others : ℕ → List ℕ → List ℕ
others l u = unwoven (start l) (step l - 1) (heads l) (bits u)

-- two units with the same header bits and the same bits of payload bytes
pub read_alike : (l : ℕ) (d : List ℕ) (a f : ℕ) (u v out : List ℕ) → lent l ≤ length u → lent l ≤ length v
    → heard (start l) (step l - 1) (heads l) (bits u) ≡ heard (start l) (step l - 1) (heads l) (bits v)
    → take (payload l * 8) (others l u) ≡ take (payload l * 8) (others l v)
    → read_unit l d a f u out ≡ read_unit l d a f v out
unfolding read_unit header_of payload_of
read_alike l d a f u v out hu hv e g =
    ap₂ (λ (t : Bool) (o : Outcome). pick (unfit l) (refused 50 out) (pick t (refused 50 out) o))
    (le-ltb (length u) (lent l) hu ∙ sym (le-ltb (length v) (lent l) hv))
    (ap₂ (λ (x : List ℕ) (p : List ℕ). read_parts (payload l) (named (heads l) (number 0 x)) d a f p out) e (pack-take (payload l) (others l u) (others l v) g))

-- behind the payload of a written unit stand zeros alone
pub excess-zero : (l cw : ℕ) (p : List ℕ) → 0 < step l → length p ≡ payload l
    → drop (payload l * 8) (others l (unit l cw p)) ≡ replicate (lent l * 8 - heads l - length p * 8) 0
excess-zero l cw p k e =
    ap (drop (payload l * 8)) (unwoven-unit l cw p k e)
    ∙ drop_at (bits p) (replicate (lent l * 8 - heads l - length p * 8) 0) (payload l * 8) (length-bits p ∙ ap (λ (n : ℕ). n * 8) e)
