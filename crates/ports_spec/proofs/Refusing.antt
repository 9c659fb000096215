-- When the two calls refuse, and that a refusal changes nothing.
-- twice-held, held-twice       the test finds one port held at two places, as the request has it
-- unfit-is, fit-not            43; held-is, away-not: 41; full_is, free-not: 40
-- noting-keeps, forgetting-keeps      a refused call leaves the table
-- rule-given                          the distance rule refuses nothing
use mathlib.Core.Path.{◌≡◌, refl, sym, subst, ◌∙◌}
use mathlib.Core.Bool.{Bool, true, false, ◌&&◌, ◌||◌, false≢true, true≢false}
use mathlib.Core.Logic.{inl, inr, ⊎_elim}
use mathlib.Core.List.{List, [], ◌∷◌}
use Prim.Native.Nat.{ℕ, zero, suc, ◌≤◌, ◌<◌}
use native.Mathlib.Omega.{arith}
use native.Mathlib.Nat.{le_of_suc-le-suc, not-suc-le-zero}
use borrow.Author.Tests.{eqb-true, eq-eqb, lt-ltb, ltb-true}
use lib.Dec.{eqb, ltb}
use lib.ListN.{length, get_or}
use Rattle.base.proofs.Tests.{by-test, and_parts}
use Rattle.base.specs.Choice.{pick}
use Rattle.ports_spec.specs.declared.Entry.{Entry}
use Rattle.ports_spec.specs.declared.Noted.{Noted}
use Rattle.ports_spec.specs.declared.Noted.TheVariants.{First, InOrder, Repeated, Missing, Late, Refused}
use Rattle.ports_spec.specs.Forgot.{Forgot, Forgotten, Refused as Unforgotten}
use Rattle.ports_spec.specs.Distance.{half, gap, ruled}
use Rattle.ports_spec.specs.Ports.{place_limit, freed, holds, place_of, free_place, twice, unfit, last_at, noting, forgetting}
use Rattle.ports_spec.specs.Refusing.{HeldTwice, Unfit, Held, Full}
use Rattle.ports_spec.proofs.Laws.{place-holds, place-least, first-free, free-is, noting-ways, forgetting-ways}

-- ---- held twice
twice-held : (es : List Entry) → twice es ≡ true → HeldTwice es
unfolding twice
twice-held [] h = absurd (false≢true h)
twice-held (e ∷ es) h = go (e.held && ltb (place_of e.port es) (length es)) refl (twice-held es) h
  where
    go : (t : Bool) → e.held && ltb (place_of e.port es) (length es) ≡ t → (twice es ≡ true → HeldTwice es) → t || twice es ≡ true → HeldTwice (e ∷ es)
    go true q f l =
        let both = and_parts e.held (ltb (place_of e.port es) (length es)) q in
        let within = ltb-true (place_of e.port es) (length es) both.1 in
        let at = and_parts (get_or es (place_of e.port es) freed).held (eqb (get_or es (place_of e.port es) freed).port e.port)
        (place-holds es e.port within) in
        (0, suc (place_of e.port es), omega arith, (omega arith, both.0), (omega (arith, within), at.0), sym (eqb-true _ _ at.1))
    go false q f l =
        let r = f l in
        (suc r.0, suc r.1, omega (arith, r.2), (omega (arith, r.3.0), r.3.1), (omega (arith, r.4.0), r.4.1), r.5)

held-there : (e : Entry) (port : ℕ) → e.held ≡ true → e.port ≡ port → holds port e ≡ true
held-there e port h p = rw (h, eq-eqb e.port port p) refl

pub held-twice : (es : List Entry) (i j : ℕ) → i < j → j < length es → (get_or es i freed).held ≡ true → (get_or es j freed).held ≡ true
    → (get_or es i freed).port ≡ (get_or es j freed).port → twice es ≡ true
unfolding twice
held-twice [] i j l m h k p = absurd (not-suc-le-zero m)
held-twice (e ∷ es) i zero l m h k p = absurd (not-suc-le-zero l)
held-twice (e ∷ es) zero (suc j) l m h k p =
    let q : place_of e.port es ≤ j = place-least es e.port j (held-there (get_or es j freed) e.port k (sym p)) in
    rw (h, lt-ltb (place_of e.port es) (length es) (omega (arith, q, m))) refl
held-twice (e ∷ es) (suc i) (suc j) l m h k p = go (e.held && ltb (place_of e.port es) (length es))
    (held-twice es i j (le_of_suc-le-suc l) (le_of_suc-le-suc m) h k p)
  where
    go : (t : Bool) → twice es ≡ true → t || twice es ≡ true
    go true r = refl
    go false r = r

-- ---- the conditions, and the tests that find them
pub unfit-is : (es : List Entry) → unfit es ≡ true → Unfit es
unfit-is es h = by-test (ltb place_limit (length es)) (λ l. inl (ltb-true place_limit (length es) l))
    (λ l. inr (twice-held es (subst (λ (b : Bool). b || twice es ≡ true) l h)))

pub fit-not : (es : List Entry) → unfit es ≡ false → Unfit es → ⊥
fit-not es h =
    ⊎_elim (λ l. true≢false (sym (over (ltb place_limit (length es)) (lt-ltb place_limit (length es) l)) ∙ h))
    (λ t. true≢false (sym (double (ltb place_limit (length es)) (held-twice es t.0 t.1 t.2 t.4.0 t.3.1 t.4.1 t.5)) ∙ h))
  where
    over : (b : Bool) → b ≡ true → b || twice es ≡ true
    over true e = refl
    over false e = absurd (false≢true e)

    double : (b : Bool) → twice es ≡ true → b || twice es ≡ true
    double true e = refl
    double false e = e

pub held-is : (es : List Entry) (port : ℕ) → place_of port es < length es → Held port es
held-is es port h =
    let p = and_parts (get_or es (place_of port es) freed).held (eqb (get_or es (place_of port es) freed).port port) (place-holds es port h) in
    (place_of port es, (h, p.0), eqb-true _ _ p.1)

pub away-not : (es : List Entry) (port : ℕ) → length es ≤ place_of port es → Held port es → ⊥
away-not es port h x = let l = place-least es port x.0 (held-there (get_or es x.0 freed) port x.1.1 x.2) in omega (arith, h, l, x.1.0)

pub full_is : (es : List Entry) → length es ≤ free_place es → Full es
full_is es h i l = first-free es i (omega (arith, h, l))

pub free-not : (es : List Entry) → free_place es < length es → Full es → ⊥
free-not es h f = true≢false (sym (f (free_place es) h) ∙ free-is es h)

-- ---- a refused call leaves the table
abbrev is_refused : Noted → Bool
is_refused First = false
is_refused InOrder = false
is_refused Repeated = false
is_refused (Missing n) = false
is_refused Late = false
is_refused (Refused n) = true

abbrev is_unforgotten : Forgot → Bool
is_unforgotten Forgotten = false
is_unforgotten (Unforgotten n) = true

-- the rule refuses nothing
rule-passes : (last new : ℕ) → is_refused (ruled last new) ≡ false
rule-passes last new = go (eqb (gap last new) 0) (eqb (gap last new) 1) (ltb (gap last new) half) _
  where
    go : (a b c : Bool) (n : ℕ) → is_refused (pick a Repeated (pick b InOrder (pick c (Missing n) Late))) ≡ false
    go true b c n = refl
    go false true c n = refl
    go false false true n = refl
    go false false false n = refl

pub rule-given : (last new n : ℕ) → ruled last new ≡ Refused n → ⊥
rule-given last new n e = true≢false (subst (λ (x : Noted). is_refused x ≡ false) e (rule-passes last new))

refuses : (a : Noted) (n : ℕ) → a ≡ Refused n → is_refused a ≡ true
refuses a n e = rw e refl

pub noting-keeps : (es : List Entry) (port sequence n : ℕ) → (noting es port sequence).0 ≡ Refused n → (noting es port sequence).1 ≡ es
noting-keeps es port sequence n =
    noting-ways es port sequence (λ x. x.0 ≡ Refused n → x.1 ≡ es) (λ e. refl) (λ h e. absurd (rule-given (last_at es port) sequence n e))
    (λ h k e. absurd (false≢true (refuses First n e))) (λ e. refl)

pub forgetting-keeps : (es : List Entry) (port n : ℕ) → (forgetting es port).0 ≡ Unforgotten n → (forgetting es port).1 ≡ es
forgetting-keeps es port n =
    forgetting-ways es port (λ x. x.0 ≡ Unforgotten n → x.1 ≡ es) (λ e. refl) (λ h e. absurd (false≢true (gone Forgotten e))) (λ e. refl)
  where
    gone : (a : Forgot) → a ≡ Unforgotten n → is_unforgotten a ≡ true
    gone a e = rw e refl
