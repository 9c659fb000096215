-- What a range of ports does to the packets of recordings.
-- Ported, within-every      packets of ports of 16 bits are all inside the range of every port ..
-- within-ported             .. and those inside a range are such
-- numbers-inside, among-is  a port of the range has the packets that it has without one, and no other port has any
-- numbers-range, ports-range    so in a month: each line of the range is the line that it is without one, and no other is there
use Prim.Native.Nat.{ℕ, ◌≤◌}
use native.Mathlib.Omega.{arith}
use mathlib.Core.Path.{◌≡◌, refl, sym, ap, subst, ◌∙◌}
use mathlib.Core.Bool.{Bool, true, false, true≢false}
use mathlib.Core.Logic.{◌⊎◌, inl, inr, ⊎_elim, ◌↔◌, ◌≢◌}
use mathlib.Core.List.{List, [], ◌∷◌, ◌++◌, map}
use borrow.Author.Tests.{ne_eqb, leb-true}
use lib.Dec.{eqb, leb}
use Rattle.base.specs.Choice.{pick}
use Rattle.base.specs.Calls.{joined}
use Rattle.base.proofs.Tests.{and_parts}
use Rattle.ports_spec.specs.declared.Range.{Range}
use Rattle.ports_spec.specs.Range.{every_port, inside}
use Rattle.ports_spec.proofs.Every.{inside-every}
use Rattle.sheet_spec.specs.Tally.{plus, tally}
use Rattle.sheet_spec.specs.Meaning.{Mark, Month, within, numbers_of, numbers, ports_of}
use Rattle.sheet_spec.proofs.Ports.{In, Among, ports-are}

-- ports have 16 bits
unfoldable pub Ported : List Mark → Type 0
Ported [] = Unit {0}
Ported (m ∷ ms) = (m.0 ≤ 65535) × Ported ms

pub within-every : (ms : List Mark) → Ported ms → within every_port ms ≡ ms
unfolding within Ported
within-every [] h = refl
within-every (m ∷ ms) h = rw (inside-every m.0 h.0) (ap (λ (ns : List Mark). m ∷ ns) (within-every ms h.1))

module _ (r : Range) where
  pub within-ported : r.last ≤ 65535 → (ms : List Mark) → Ported (within r ms)
  unfolding within Ported
  within-ported h [] = tt
  within-ported h (m ∷ ms) = go (inside r m.0) refl (within-ported h ms)
    where
      go : (b : Bool) → inside r m.0 ≡ b → Ported (within r ms) → Ported (pick b (m ∷ within r ms) (within r ms))
      go true e x =
          let k = leb-true m.0 r.last (and_parts (leb r.first m.0) (leb m.0 r.last) e).1 in
          (omega (arith, h, k), x)
      go false e x = x

  -- ---- one port's packets
  pub numbers-inside : (port : ℕ) → inside r port ≡ true → (ms : List Mark) → numbers_of port (within r ms) ≡ numbers_of port ms
  unfolding within numbers_of
  numbers-inside port h [] = refl
  numbers-inside port h (m ∷ ms) = go (inside r m.0) refl (numbers-inside port h ms)
    where
      go : (b : Bool) → inside r m.0 ≡ b → numbers_of port (within r ms) ≡ numbers_of port ms
          → numbers_of port (pick b (m ∷ within r ms) (within r ms)) ≡ pick (eqb m.0 port) (m.1 ∷ numbers_of port ms) (numbers_of port ms)
      go true e x = ap (λ (ns : List ℕ). pick (eqb m.0 port) (m.1 ∷ ns) ns) x
      go false e x =
          let n : m.0 ≢ port = λ z. true≢false (sym (ap (inside r) z ∙ h) ∙ e) in
          x ∙ rw (ne_eqb m.0 port n) refl

  among_there : (port : ℕ) (ms : List Mark) → Among port (within r ms) → (inside r port ≡ true) × Among port ms
  unfolding within Among
  among_there port [] h = absurd h
  among_there port (m ∷ ms) h = go (inside r m.0) refl (among_there port ms) h
    where
      go : (b : Bool) → inside r m.0 ≡ b → (Among port (within r ms) → (inside r port ≡ true) × Among port ms)
          → Among port (pick b (m ∷ within r ms) (within r ms)) → (inside r port ≡ true) × ((m.0 ≡ port) ⊎ Among port ms)
      go true e x h = ⊎_elim (λ (z : m.0 ≡ port). (ap (inside r) (sym z) ∙ e, inl z)) (λ (a : Among port (within r ms)). ((x a).0, inr (x a).1)) h
      go false e x h = ((x h).0, inr (x h).1)

  among-back : (port : ℕ) (ms : List Mark) → inside r port ≡ true → Among port ms → Among port (within r ms)
  unfolding within Among
  among-back port [] i h = absurd h
  among-back port (m ∷ ms) i h = go (inside r m.0) refl (among-back port ms i) h
    where
      go : (b : Bool) → inside r m.0 ≡ b → (Among port ms → Among port (within r ms)) → (m.0 ≡ port) ⊎ Among port ms
          → Among port (pick b (m ∷ within r ms) (within r ms))
      go true e x h = ⊎_elim (λ (z : m.0 ≡ port). inl z) (λ (a : Among port ms). inr (x a)) h
      go false e x h = ⊎_elim (λ (z : m.0 ≡ port). absurd (true≢false (sym (ap (inside r) z ∙ i) ∙ e))) (λ (a : Among port ms). x a) h

  pub among-is : (port : ℕ) (ms : List Mark) → Among port (within r ms) ↔ ((inside r port ≡ true) × Among port ms)
  among-is port ms = (among_there port ms, λ x. among-back port ms x.0 x.1)

  -- ---- a month's
  pub numbers-range : (port : ℕ) → inside r port ≡ true → (month : Month) → numbers port (map (within r) month) ≡ numbers port month
  unfolding numbers
  numbers-range port h [] = refl
  numbers-range port h (ms ∷ month) = (λ i. plus (tally (numbers-inside port h ms i)) (numbers-range port h month i))

  within-append : (ms ns : List Mark) → within r (ms ++ ns) ≡ within r ms ++ within r ns
  unfolding within
  within-append [] ns = refl
  within-append (m ∷ ms) ns = go (inside r m.0) (within-append ms ns)
    where
      go : (b : Bool) → within r (ms ++ ns) ≡ within r ms ++ within r ns
          → pick b (m ∷ within r (ms ++ ns)) (within r (ms ++ ns)) ≡ pick b (m ∷ within r ms) (within r ms) ++ within r ns
      go true x = ap (λ (ks : List Mark). m ∷ ks) x
      go false x = x

  within-joined : (month : Month) → joined (map (within r) month) ≡ within r (joined month)
  unfolding within
  within-joined [] = refl
  within-joined (ms ∷ month) = ap (λ (ns : List Mark). within r ms ++ ns) (within-joined month) ∙ sym (within-append ms (joined month))

  pub ports-range : (month : Month) (port : ℕ) → In port (ports_of (map (within r) month)) ↔ ((inside r port ≡ true) × In port (ports_of month))
  ports-range month port =
      let there = ports-are (map (within r) month) port in
      let all = ports-are month port in
      let own = among-is port (joined month) in
      let e = within-joined month in (
        λ i. let x = own.0 (subst (Among port) e (there.0 i)) in (x.0, all.1 x.1),
        λ x. there.1 (subst (Among port) (sym e) (own.1 (x.0, all.0 x.1))),
      )
