-- What the two calls refuse for, from the tests by which they do, and back. The tables are in `demands`.
-- unfit-is, fit-not                    50
-- mix-none, mix-some                   51
-- found-opens, opens-found             a delimiter at a place, and what stands behind the first
-- early-is, early-not, early-short     54 on writing, by the search and shortly
-- unnamed-is, named-not                52
-- by_name                              a fact of the sequence named, from a fact of each
-- differ, alike                        53, of told lengths
-- unmarked-is, marked-not              54 on reading
-- length-parts, length-plain           how many bytes are read
use mathlib.Core.Path.{◌≡◌, refl, sym, ap, ap₂, ◌∙◌}
use mathlib.Core.Bool.{Bool, true, false, ◌&&◌, not, false≢true, true≢false}
use mathlib.Core.Logic.{◌⊎◌, ◌↔◌, ◌≢◌, ⊎_elim}
use mathlib.Core.Logic.◌⊎◌.{inl, inr}
use mathlib.Core.List.{List, [], ◌∷◌, ◌++◌}
use Prim.Native.Nat.{ℕ, zero, suc, ◌+◌, ◌-◌, ◌≤◌, ◌<◌}
use native.Mathlib.Omega.{arith}
use native.Mathlib.Nat.{pos_of_ne-zero}
use borrow.Author.Tests.{eq-eqb, ne_eqb, eqb-true, eqb-false, lt-ltb, ltb-true}
use lib.Dec.{eqb, ltb}
use lib.ListN.{length, take, drop, replicate, length-append, length-drop, length-replicate}
use lib.Seq.{length-take-le}
use Rattle.base.specs.Bytes.{Each}
use Rattle.base.specs.Choice.{pick}
use Rattle.base.proofs.Tests.{and_parts, by-test}
use Rattle.unit_spec.specs.Bits.{digits, number}
use Rattle.unit_spec.specs.Tables.{most, cw0, cw1, cw2, cw3, cw4, sequence, announced, step, unfit}
use Rattle.unit_spec.specs.Unit.{begins, opened, hidden, zeros}
use Rattle.unit_spec.specs.Reading.{is_header, named}
use Rattle.unit_spec.specs.Refusing.{Unfit, NoMix, Early, EarlyShort, no_audio, no_fixed, Disagree, Unmarked}
use Rattle.unit_spec.proofs.Hiding.{zeros-are, hidden-is}
use Rattle.unit_spec.proofs.Sequences.{mix, sequence-mix}

-- ---- 50
pub unfit-is : (l : ℕ) → unfit l ≡ true → Unfit l
unfolding unfit
unfit-is l h = by-test (ltb most l) (λ t. inl (ltb-true _ _ t)) (λ t. inr (eqb-true (step l) 0 (rw t at h)))

pub fit-not : (l : ℕ) → unfit l ≡ false → Unfit l → ⊥
unfolding unfit
fit-not l h =
    ⊎_elim (λ t. true≢false (sym (ap (λ (x : Bool). pick x true (eqb (step l) 0)) (lt-ltb most l t)) ∙ h))
    (λ t. true≢false (sym (late (ltb most l) (eq-eqb (step l) 0 t)) ∙ h))
  where
    late : (x : Bool) {y : Bool} → y ≡ true → pick x true y ≡ true
    late true e = refl
    late false e = e

-- ---- 51
pub mix-none : (a f o : ℕ) → eqb (sequence a f o) 0 ≡ true → NoMix a f o
unfolding sequence
mix-none a f o = go (eqb a 0) (eqb f 0) (eqb o 0) refl refl refl
  where
    go : (x y z : Bool) → eqb a 0 ≡ x → eqb f 0 ≡ y → eqb o 0 ≡ z
        → eqb (pick x (pick z (pick y 0 cw4) 0) (pick y (pick z cw0 cw1) (pick z cw2 cw3))) 0 ≡ true → NoMix a f o
    go true true true ea ef eo h = (eqb-true _ _ ea, inr (eqb-true _ _ ef))
    go true y false ea ef eo h = (eqb-true _ _ ea, inl (pos_of_ne-zero (eqb-false _ _ eo)))
    go true false true ea ef eo h = absurd (false≢true h)
    go false true true ea ef eo h = absurd (false≢true h)
    go false true false ea ef eo h = absurd (false≢true h)
    go false false true ea ef eo h = absurd (false≢true h)
    go false false false ea ef eo h = absurd (false≢true h)

pub mix-some : (a f o : ℕ) → eqb (sequence a f o) 0 ≡ false → NoMix a f o → ⊥
unfolding sequence
mix-some a f o h c = go (eqb a 0) (eqb f 0) (eqb o 0) (eq-eqb a 0 c.0) refl refl c.1 h
  where
    go : (x y z : Bool) → x ≡ true → eqb f 0 ≡ y → eqb o 0 ≡ z → (0 < o) ⊎ (f ≡ 0)
        → eqb (pick x (pick z (pick y 0 cw4) 0) (pick y (pick z cw0 cw1) (pick z cw2 cw3))) 0 ≡ false → ⊥
    go true y false e ef eo k h = true≢false h
    go true true true e ef eo k h = true≢false h
    go true false true e ef eo k h = ⊎_elim (λ q. let z : o ≡ 0 = eqb-true o 0 eo in omega arith) (λ q. eqb-false f 0 ef q) k
    go false y z e ef eo k h = false≢true e

-- ---- the search
-- a delimiter at place j is at or behind the first
pub found-opens : (d xs : List ℕ) (j : ℕ) → begins d (drop j xs) ≡ true → length xs ≤ length (opened d xs) + (j + length d)
unfolding opened
found-opens d [] j h = omega arith
found-opens d (x ∷ xs) zero h = rw h (omega (arith, length-drop (length d) (x ∷ xs)))
found-opens d (x ∷ xs) (suc j) h =
    by-test (begins d (x ∷ xs)) (λ t. rw t (omega (arith, length-drop (length d) (x ∷ xs)))) (λ t. rw t (omega (arith, found-opens d xs j h)))

-- something stands behind the first: it is at a place
pub opens-found : (d xs : List ℕ) → 0 < length (opened d xs)
    → (j : ℕ) × (begins d (drop j xs) ≡ true) × (length xs ≡ length (opened d xs) + (j + length d))
unfolding opened
opens-found d [] h = absurd (omega arith)
opens-found d (x ∷ xs) h = go (begins d (x ∷ xs)) refl h (opens-found d xs)
  where
    go : (t : Bool) → begins d (x ∷ xs) ≡ t → 0 < length (pick t (drop (length d) (x ∷ xs)) (opened d xs))
        → (0 < length (opened d xs) → (j : ℕ) × (begins d (drop j xs) ≡ true) × (length xs ≡ length (opened d xs) + (j + length d)))
        → (j : ℕ) × (begins d (drop j (x ∷ xs)) ≡ true) × (suc (length xs) ≡ length (pick t (drop (length d) (x ∷ xs)) (opened d xs)) + (j + length d))
    go true e k again = (0, e, omega (arith, length-drop (length d) (x ∷ xs)))
    go false e k again = let r = again k in (suc r.0, r.1, omega (arith, r.2))

-- ---- 54 on writing
five-zeros : zeros (replicate 5 0) ≡ true
unfolding zeros
five-zeros = refl

module _ (d : List ℕ) (gap : ℕ) (opp : List ℕ) where
  abbrev sought : List ℕ
  sought = replicate gap 0 ++ d ++ opp

  length-sought : length sought ≡ gap + length d + length opp
  length-sought =
      length-append (replicate gap 0 ++ d) opp
      ∙ ap (λ (n : ℕ). n + length opp) (length-append (replicate gap 0) d ∙ ap (λ (n : ℕ). n + length d) (length-replicate {A = ℕ} gap 0))

  pub early-is : hidden d gap opp ≡ true → Early d gap opp
  unfolding hidden
  early-is = go (eqb (length opp) 0) refl
    where
      go : (t : Bool) → eqb (length opp) 0 ≡ t → pick t false (ltb (length opp) (length (opened d sought))) ≡ true → Early d gap opp
      go true e h = absurd (false≢true h)
      go false e h =
          let k : length opp < length (opened d sought) = ltb-true _ _ h in
          let r = opens-found d sought (omega arith) in
          (pos_of_ne-zero (eqb-false _ _ e), (r.0, omega (arith, r.2, length-sought), r.1))

  pub early-not : hidden d gap opp ≡ false → Early d gap opp → ⊥
  unfolding hidden
  early-not h c =
      let k : length opp < length (opened d sought) = omega (arith, found-opens d sought c.1.0 c.1.2, length-sought, c.1.1) in
      let n : length opp ≡ 0 → ⊥ = λ e. let z : 0 < length opp = c.0 in omega arith in
      true≢false (sym (ap₂ (λ (x y : Bool). pick x false y) (ne_eqb (length opp) 0 n) (lt-ltb _ _ k)) ∙ h)

  -- the search finds it early exactly when it is zeros behind a gap
  pub early-short : length d ≡ 5 → Early d gap opp ↔ EarlyShort d gap opp
  early-short five = (there, back)
    where
      is : hidden d gap opp ≡ pick (eqb (length opp) 0) false (pick (eqb gap 0) false (zeros d))
      is = hidden-is d opp gap five

      parts : (x y z : Bool) → eqb gap 0 ≡ y → zeros d ≡ z → pick x false (pick y false z) ≡ true → (0 < gap) × (d ≡ replicate 5 0)
      parts true y z ey ez h = absurd (false≢true h)
      parts false true z ey ez h = absurd (false≢true h)
      parts false false false ey ez h = absurd (false≢true h)
      parts false false true ey ez h = (pos_of_ne-zero (eqb-false _ _ ey), zeros-are d ez ∙ ap (λ (n : ℕ). replicate n 0) five)

      there : Early d gap opp → EarlyShort d gap opp
      there c =
          by-test (hidden d gap opp)
          (λ t. let r = parts (eqb (length opp) 0) (eqb gap 0) (zeros d) refl refl (sym is ∙ t) in (c.0, r.0, r.1))
          (λ t. absurd (early-not t c))

      above : (n : ℕ) → 0 < n → n ≡ 0 → ⊥
      above n h e = omega arith

      back : EarlyShort d gap opp → Early d gap opp
      back c =
          early-is
          (is
          ∙ ap₂ (λ (x y : Bool). pick x false (pick y false (zeros d))) (ne_eqb (length opp) 0 (above _ c.0)) (ne_eqb gap 0 (above _ c.1))
          ∙ ap zeros c.2 ∙ five-zeros)

-- ---- 52
module _ (h a b c d e : ℕ) where
  abbrev choice : ℕ
  choice = pick (eqb h a) cw0 (pick (eqb h b) cw1 (pick (eqb h c) cw2 (pick (eqb h d) cw3 (pick (eqb h e) cw4 0))))

  choice-none : eqb choice 0 ≡ true → Each (λ x. h ≢ x) (a ∷ b ∷ c ∷ d ∷ e ∷ [])
  choice-none = go (eqb h a) (eqb h b) (eqb h c) (eqb h d) (eqb h e) refl refl refl refl refl
    where
      go : (p q r s t : Bool) → eqb h a ≡ p → eqb h b ≡ q → eqb h c ≡ r → eqb h d ≡ s → eqb h e ≡ t
          → eqb (pick p cw0 (pick q cw1 (pick r cw2 (pick s cw3 (pick t cw4 0))))) 0 ≡ true → Each (λ x. h ≢ x) (a ∷ b ∷ c ∷ d ∷ e ∷ [])
      go true q r s t ep eq er es et k = absurd (false≢true k)
      go false true r s t ep eq er es et k = absurd (false≢true k)
      go false false true s t ep eq er es et k = absurd (false≢true k)
      go false false false true t ep eq er es et k = absurd (false≢true k)
      go false false false false true ep eq er es et k = absurd (false≢true k)
      go false false false false false ep eq er es et k =
          (eqb-false _ _ ep, (eqb-false _ _ eq, (eqb-false _ _ er, (eqb-false _ _ es, (eqb-false _ _ et, tt)))))

  choice-some : eqb choice 0 ≡ false → Each (λ x. h ≢ x) (a ∷ b ∷ c ∷ d ∷ e ∷ []) → ⊥
  choice-some k n =
      true≢false
      (rw (ne_eqb h a n.0, ne_eqb h b n.1.0, ne_eqb h c n.1.1.0, ne_eqb h d n.1.1.1.0, ne_eqb h e n.1.1.1.1.0) at k)

-- 52, of a header of n bits
pub unnamed-is : (n h : ℕ) → eqb (named n h) 0 ≡ true → Each (λ cw. h ≢ number 0 (take n (digits 24 cw))) (cw0 ∷ cw1 ∷ cw2 ∷ cw3 ∷ cw4 ∷ [])
unfolding named is_header
unnamed-is n h = choice-none h _ _ _ _ _

pub named-not : (n h : ℕ) → eqb (named n h) 0 ≡ false → Each (λ cw. h ≢ number 0 (take n (digits 24 cw))) (cw0 ∷ cw1 ∷ cw2 ∷ cw3 ∷ cw4 ∷ []) → ⊥
unfolding named is_header
named-not n h = choice-some h _ _ _ _ _

-- a fact of the sequence named, from a fact of each
by_name : (P : ℕ → Type 0) (n h : ℕ) → P 0 → P cw0 → P cw1 → P cw2 → P cw3 → P cw4 → P (named n h)
unfolding named
by_name P n h z p0 p1 p2 p3 p4 = go (is_header n h cw0) (is_header n h cw1) (is_header n h cw2) (is_header n h cw3) (is_header n h cw4)
  where
    go : (p q r s t : Bool) → P (pick p cw0 (pick q cw1 (pick r cw2 (pick s cw3 (pick t cw4 0)))))
    go true q r s t = p0
    go false true r s t = p1
    go false false true s t = p2
    go false false false true t = p3
    go false false false false true = p4
    go false false false false false = z

-- ---- 53: what is told, and the sequence
same : Bool → Bool → Bool
same true b = b
same false b = not b

same_true : (x y : Bool) → same x y ≡ true → x ≡ y
unfolding same
same_true true true e = refl
same_true true false e = absurd (false≢true e)
same_true false true e = absurd (false≢true e)
same_true false false e = refl

same_false : (x y : Bool) → same x y ≡ false → x ≡ y → ⊥
unfolding same
same_false true true e k = true≢false e
same_false true false e k = true≢false k
same_false false true e k = false≢true k
same_false false false e k = true≢false e

-- the sequence of the told lengths and of what cw announces is cw where both agree
abbrev Agrees : Bool → Bool → ℕ → Type 0
Agrees x y cw = eqb (mix x y (eqb (announced cw) 0)) cw ≡ same x (no_audio cw) && same y (no_fixed cw)

agrees : (x y : Bool) → Each (Agrees x y) (cw0 ∷ cw1 ∷ cw2 ∷ cw3 ∷ cw4 ∷ [])
unfolding announced same
agrees true true = (refl, (refl, (refl, (refl, (refl, tt)))))
agrees true false = (refl, (refl, (refl, (refl, (refl, tt)))))
agrees false true = (refl, (refl, (refl, (refl, (refl, tt)))))
agrees false false = (refl, (refl, (refl, (refl, (refl, tt)))))

module _ (a f n h : ℕ) where
  abbrev says : ℕ
  says = named n h

  agreed : eqb says 0 ≡ false → eqb (sequence a f (announced says)) says ≡ same (eqb a 0) (no_audio says) && same (eqb f 0) (no_fixed says)
  agreed =
      let g = agrees (eqb a 0) (eqb f 0) in
      by_name (λ c. eqb c 0 ≡ false → eqb (sequence a f (announced c)) c ≡ same (eqb a 0) (no_audio c) && same (eqb f 0) (no_fixed c)) n h
      (λ z. absurd (true≢false z))
      (λ z. first cw0 ∙ g.0) (λ z. first cw1 ∙ g.1.0) (λ z. first cw2 ∙ g.1.1.0) (λ z. first cw3 ∙ g.1.1.1.0) (λ z. first cw4 ∙ g.1.1.1.1.0)
    where
      first : (c : ℕ) → eqb (sequence a f (announced c)) c ≡ eqb (mix (eqb a 0) (eqb f 0) (eqb (announced c) 0)) c
      first c = ap (λ (x : ℕ). eqb x c) (sequence-mix a f (announced c))

  pub differ : eqb says 0 ≡ false → eqb (sequence a f (announced says)) says ≡ false → Disagree says a f
  differ k e =
      by-test (same (eqb a 0) (no_audio says))
      (λ t. inr (same_false _ _ (sym (ap (λ (x : Bool). x && same (eqb f 0) (no_fixed says)) t) ∙ sym (agreed k) ∙ e)))
      (λ t. inl (same_false _ _ t))

  pub alike : eqb says 0 ≡ false → eqb (sequence a f (announced says)) says ≡ true → Disagree says a f → ⊥
  alike k e =
      let p = and_parts (same (eqb a 0) (no_audio says)) (same (eqb f 0) (no_fixed says)) (sym (agreed k) ∙ e) in
      ⊎_elim (λ x. x (same_true _ _ p.0)) (λ x. x (same_true _ _ p.1))

-- ---- 54 on reading
announced-one : (cw : ℕ) → eqb (announced cw) 0 ≡ false → announced cw ≡ 1
unfolding announced
announced-one cw = go (eqb cw cw1) (eqb cw cw3)
  where
    go : (x y : Bool) → eqb (pick x 1 (pick y 1 0)) 0 ≡ false → ◌≡◌ {A = ℕ} (pick x 1 (pick y 1 0)) 1
    go true y e = refl
    go false true e = refl
    go false false e = absurd (true≢false e)

pub unmarked-is : (cw : ℕ) (d xs : List ℕ) → eqb (announced cw) 0 ≡ false → eqb (length (opened d xs)) 0 ≡ true → Unmarked cw d xs
unmarked-is cw d xs k e = (announced-one cw k, λ j b h. let z : length (opened d xs) ≡ 0 = eqb-true _ _ e in omega (arith, found-opens d xs j b))

pub marked-not : (cw : ℕ) (d xs : List ℕ) → eqb (length (opened d xs)) 0 ≡ false → Unmarked cw d xs → ⊥
marked-not cw d xs e c =
    let p : 0 < length (opened d xs) = pos_of_ne-zero (eqb-false _ _ e) in
    let r = opens-found d xs p in
    c.1 r.0 r.1 (omega (arith, r.2))

-- ---- 23
-- of a payload p of n bytes, with a of audio and f of fixed data told
module _ (n a f : ℕ) (p : List ℕ) (whole : length p ≡ n) (h : a + f ≤ n) where
  length-audio : length (take a p) ≡ a
  length-audio = length-take-le a p (omega (arith, whole))

  length-fixed : length (drop (n - f) p) ≡ f
  length-fixed = length-drop (n - f) p ∙ omega (arith, whole)

  pub length-parts : (o : List ℕ) → length (take a p ++ o ++ drop (n - f) p) ≡ a + length o + f
  length-parts o =
      length-append (take a p ++ o) (drop (n - f) p)
      ∙ ap₂ ◌+◌ (length-append (take a p) o ∙ ap (λ (k : ℕ). k + length o) length-audio) length-fixed

  pub length-plain : length (take a p ++ drop (n - f) p) ≡ a + 0 + f
  length-plain = length-append (take a p) (drop (n - f) p) ∙ ap₂ ◌+◌ length-audio length-fixed ∙ omega arith
