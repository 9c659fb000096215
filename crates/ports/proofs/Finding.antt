-- Where a table has a port, and what the calls then are to answer and leave.
-- place-at, free_at           where a port is held, and the first free place, as they are looked for
-- found-there, found-none     .. found, and not
-- is-held                     whether a port is held at all
-- held-again, held-once       the first place's port is held again behind it, or is not
-- not-held, held-none         the first place is free, or there is none
-- note-.., forget-..          the two calls, way by way
use Rattle.std.proofs.Common.{◌≡◌, ℕ, suc, ◌+◌, Bool, true, false, not, cond, List, [], ◌∷◌, length}
use Rattle.std.proofs.Common.{position, nat_lt, is_some, Option, Some, None, set, get_or, refl, sym, ap, ◌∙◌, arith}
use Rattle.std.proofs.lemmas.List.Recursion.{is_position_or_len}
use Rattle.std.proofs.lemmas.List.Quantifiers.{position-Some}
use Rattle.base.specs.Choice.{pick}
use Rattle.ports_spec.specs.declared.Entry.{Entry}
use Rattle.ports_spec.specs.declared.Noted.{Noted}
use Rattle.ports_spec.specs.declared.Noted.TheVariants.{First, Refused}
use Rattle.ports_spec.specs.Forgot.{Forgot, Forgotten, Refused as Unforgotten}
use Rattle.ports_spec.specs.Distance.{ruled, last_behind}
use Rattle.ports_spec.proofs.Holding.{holds-is}
use Rattle.ports_spec.specs.Ports.{freed, entry, unheld, holds, place_of, free_place, last_at, twice, unfit, noting, forgetting}

step-held : (b : Bool) (n : ℕ) → pick b 0 (suc n) ≡ cond b 0 (1 + n)
step-held true n = refl
step-held false n = omega arith

step-free : (b : Bool) (n : ℕ) → pick b (suc n) 0 ≡ cond (not b) 0 (1 + n)
step-free true n = omega arith
step-free false n = refl

-- a place, where it is one of so many
abbrev among : ℕ → ℕ → Option ℕ
among n size = cond (nat_lt n size) (Some n) None

pub place-at : (port : ℕ) (es : List Entry) → position (holds port) es ≡ among (place_of port es) (length es)
unfolding place_of
place-at port es =
    ap (λ n. among n (length es))
    (sym (is_position_or_len (place_of port) (holds port) refl (λ e rest. step-held (holds port e) (place_of port rest)) es))

pub free_at : (es : List Entry) → position (λ e. not e.held) es ≡ among (free_place es) (length es)
unfolding free_place
free_at es =
    ap (λ n. among n (length es))
    (sym (is_position_or_len free_place (λ e. not e.held) refl (λ e rest. step-free e.held (free_place rest)) es))

pub found-there : (n size k : ℕ) → among n size ≡ Some k → (nat_lt n size ≡ true) × (n ≡ k)
found-there n size k e = there (nat_lt n size) e
  where
    there : (b : Bool) → cond b (Some n) None ≡ Some k → (b ≡ true) × (n ≡ k)
    there true e = (refl, cc)
    there false e = absurd (cc)

pub found-none : (n size : ℕ) → among n size ≡ None → nat_lt n size ≡ false
found-none n size e = there (nat_lt n size) e
  where
    there : (b : Bool) → cond b (Some n) None ≡ None → b ≡ false
    there true e = absurd (cc)
    there false e = refl

-- ---- held twice
is_some-among : (n size : ℕ) → is_some (among n size) ≡ nat_lt n size
is_some-among n size = there (nat_lt n size)
  where
    there : (b : Bool) → is_some (cond b (Some n) None) ≡ b
    there true = refl
    there false = refl

pub is-held : (port : ℕ) (es : List Entry) → is_some (position (holds port) es) ≡ nat_lt (place_of port es) (length es)
is-held port es = ap is_some (place-at port es) ∙ is_some-among (place_of port es) (length es)

module _ {es rest : List Entry} {e : Entry} (at : es ≡ e ∷ rest) where
  pub held-again : {r : Bool} → twice es ≡ r → e.held ≡ true → is_some (position (holds e.port) rest) ≡ true → true ≡ r
  unfolding twice
  held-again inv h k = rw (at, h, sym (is-held e.port rest) ∙ k) at inv

  pub not-held : {r : Bool} → twice es ≡ r → e.held ≡ false → twice rest ≡ r
  unfolding twice
  not-held inv h = rw (at, h) at inv

  pub held-once : {r : Bool} → twice es ≡ r → e.held ≡ true → is_some (position (holds e.port) rest) ≡ false → twice rest ≡ r
  unfolding twice
  held-once inv h k = rw (at, h, sym (is-held e.port rest) ∙ k) at inv

pub held-none : (es : List Entry) {r : Bool} → twice es ≡ r → length es ≡ 0 → false ≡ r
unfolding twice
held-none [] inv h = inv
held-none (e ∷ es) inv h = absurd (omega (arith, h))

-- ---- a packet noted, way by way
module _ (es : List Entry) (port sequence : ℕ) where
  pub note-unfit : unfit es ≡ true → ◌≡◌ {A = Noted × List Entry} (Refused 43, es) (noting es port sequence)
  unfolding noting
  note-unfit h = rw h refl

  module _ (fit : unfit es ≡ false) where
    pub note-held : {k : ℕ} → position (holds port) es ≡ Some k → {a : Noted} {l : ℕ} → a ≡ ruled (get_or es k freed).last sequence
        → l ≡ last_behind (get_or es k freed).last sequence → ◌≡◌ {A = Noted × List Entry} (a, set es k (entry port l)) (noting es port sequence)
    unfolding noting
    note-held {k} p ea el =
        let (h, ek) = found-there (place_of port es) (length es) k (sym (place-at port es) ∙ p) in
        rw (fit, h, last_at, ek) (λ i. (ea i, set es k (entry port (el i))))

    module _ (away : position (holds port) es ≡ None) where
      gone : nat_lt (place_of port es) (length es) ≡ false
      gone = found-none (place_of port es) (length es) (sym (place-at port es) ∙ away)

      pub note-new : {k : ℕ} → position (λ e. not e.held) es ≡ Some k
          → ◌≡◌ {A = Noted × List Entry} (First, set es k (entry port sequence)) (noting es port sequence)
      unfolding noting
      note-new {k} p =
          let (h, ek) = found-there (free_place es) (length es) k (sym (free_at es) ∙ p) in
          rw (fit, gone, h, ek) refl

      pub note-full : position (λ e. not e.held) es ≡ None → ◌≡◌ {A = Noted × List Entry} (Refused 40, es) (noting es port sequence)
      unfolding noting
      note-full p = rw (fit, gone, found-none (free_place es) (length es) (sym (free_at es) ∙ p)) refl

-- ---- a port forgotten, way by way
module _ (es : List Entry) (port : ℕ) where
  pub forget-unfit : unfit es ≡ true → ◌≡◌ {A = Forgot × List Entry} (Unforgotten 43, es) (forgetting es port)
  unfolding forgetting
  forget-unfit h = rw h refl

  module _ (fit : unfit es ≡ false) where
    pub forget-away : position (holds port) es ≡ None → ◌≡◌ {A = Forgot × List Entry} (Unforgotten 41, es) (forgetting es port)
    unfolding forgetting
    forget-away p = rw (fit, found-none (place_of port es) (length es) (sym (place-at port es) ∙ p)) refl

    pub forget-held : {k : ℕ} → position (holds port) es ≡ Some k
        → ◌≡◌ {A = Forgot × List Entry} (Forgotten, set es k (unheld (get_or es k freed).port (get_or es k freed).last)) (forgetting es port)
    unfolding forgetting
    forget-held {k} p =
        let (h, ek) = found-there (place_of port es) (length es) k (sym (place-at port es) ∙ p) in
        rw (fit, h, last_at, ek) (λ i. (Forgotten, set es k (unheld (its i) (get_or es k freed).last)))
      where
        its : (get_or es k freed).port ≡ port
        its = holds-is port (get_or es k freed) (position-Some (holds port) es k freed p).1
