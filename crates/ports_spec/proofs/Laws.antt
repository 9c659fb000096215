-- What the two calls do to a table of ports.
-- noting_by, forgetting_by           the two calls as their tests go; noting-ways, forgetting-ways: what holds of every answer
-- place-holds, place-least         a port's place holds it, and no place before it does
-- first-free, free-is              before the first free place every place is held; it is free itself
-- others-noted, others-forgotten   another port's last number stays; other-set: where this port's entry is put
-- place_none, away-by              a port that is not held has no last number, and the other way round; once: nor behind its place
-- entries-noted                    every place that holds another port stays
-- noted-last                       a port that is held: what a packet is told, and its last number then
-- noted-first, first-last          a new port that finds a free place; noted-full: one that finds none
-- only-full                        what a packet is told hangs on its port's own last number and, of a new port, on whether a place is free
-- forgotten-none                   a port forgotten is not held
-- forgotten-at, forgotten-else     its place is freed, and nothing else changes
-- fresh-fit, fresh-none            a fresh table is fit, and holds no port
use mathlib.Core.Path.{◌≡◌, refl, sym, ap, subst, ◌∙◌}
use mathlib.Core.Bool.{Bool, true, false, ◌&&◌, false≢true, true≢false}
use mathlib.Core.Logic.{◌≢◌}
use mathlib.Core.List.{List, [], ◌∷◌}
use mathlib.Core.Option.{Option, some, none}
use Prim.Native.Nat.{ℕ, zero, suc, ◌≤◌, ◌<◌}
use native.Mathlib.Nat.{le_of_suc-le-suc, not-suc-le-zero}
use native.Mathlib.Omega.{arith}
use borrow.Author.Tests.{eq-eqb, eqb-true, ltb-true, ltb-false, lt-ltb, le-ltb}
use lib.Dec.{eqb, ltb}
use lib.ListN.{length, get_or, set}
use lib.Seq.{get_or-set_same, get_or-set_other}
use Rattle.base.specs.Choice.{pick}
use Rattle.base.proofs.Tests.{and_parts, or_right, by_le}
use Rattle.ports_spec.specs.declared.Entry.{Entry}
use Rattle.ports_spec.specs.declared.Noted.{Noted}
use Rattle.ports_spec.specs.declared.Noted.TheVariants.{First, Refused}
use Rattle.ports_spec.specs.Forgot.{Forgot, Forgotten, Refused as Unforgotten}
use Rattle.ports_spec.specs.Distance.{ruled, last_behind}
use Rattle.ports_spec.specs.Ports.{place_limit, freed, fresh_table, entry, unheld, holds, place_of, free_place, last_of, twice, unfit, last_at}
use Rattle.ports_spec.specs.Ports.{further, taken, without, noting, forgetting}
use Rattle.ports_spec.proofs.Holding.{holds-is, holds_not}

-- ---- the two calls as their tests go
abbrev pub noting_by : Bool → Bool → Bool → List Entry → ℕ → ℕ → Noted × List Entry
noting_by a b c es port sequence =
    pick a (Refused 43, es)
    (pick b (ruled (last_at es port) sequence, further es port sequence)
    (pick c (First, taken es port sequence) (Refused 40, es)))

abbrev pub forgetting_by : Bool → Bool → List Entry → ℕ → Forgot × List Entry
forgetting_by a b es port = pick a (Unforgotten 43, es) (pick b (Forgotten, without es port) (Unforgotten 41, es))

-- what holds of a call whatever its tests find, and of each way it may go: fit, the port held or not, a place free or not
module _ (es : List Entry) (port sequence : ℕ) (P : Noted × List Entry → Type 0) where
  pub noting-ways : P (Refused 43, es)
      → (place_of port es < length es → P (ruled (last_at es port) sequence, further es port sequence))
      → (length es ≤ place_of port es → free_place es < length es → P (First, taken es port sequence))
      → P (Refused 40, es) → P (noting es port sequence)
  unfolding noting
  noting-ways over held new full = go (unfit es) (ltb (place_of port es) (length es)) refl (ltb (free_place es) (length es)) refl
    where
      go : (a b : Bool) → ltb (place_of port es) (length es) ≡ b → (c : Bool) → ltb (free_place es) (length es) ≡ c → P (noting_by a b c es port sequence)
      go true b h c k = over
      go false true h c k = held (ltb-true _ _ h)
      go false false h true k = new (ltb-false _ _ h) (ltb-true _ _ k)
      go false false h false k = full

module _ (es : List Entry) (port : ℕ) (P : Forgot × List Entry → Type 0) where
  pub forgetting-ways : P (Unforgotten 43, es) → (place_of port es < length es → P (Forgotten, without es port)) → P (Unforgotten 41, es)
      → P (forgetting es port)
  unfolding forgetting
  forgetting-ways over held away = go (unfit es) (ltb (place_of port es) (length es)) refl
    where
      go : (a b : Bool) → ltb (place_of port es) (length es) ≡ b → P (forgetting_by a b es port)
      go true b h = over
      go false true h = held (ltb-true _ _ h)
      go false false h = away

-- ---- places
pub place-holds : (es : List Entry) (port : ℕ) → place_of port es < length es → holds port (get_or es (place_of port es) freed) ≡ true
unfolding place_of
place-holds [] port h = absurd (not-suc-le-zero h)
place-holds (e ∷ es) port h = go (holds port e) refl (place-holds es port) h
  where
    go : (t : Bool) → holds port e ≡ t → (place_of port es < length es → holds port (get_or es (place_of port es) freed) ≡ true)
        → pick t 0 (suc (place_of port es)) < suc (length es) → holds port (get_or (e ∷ es) (pick t 0 (suc (place_of port es))) freed) ≡ true
    go true q r l = q
    go false q r l = r (le_of_suc-le-suc l)

pub place-least : (es : List Entry) (port j : ℕ) → holds port (get_or es j freed) ≡ true → place_of port es ≤ j
unfolding place_of
place-least [] port j h = absurd (false≢true h)
place-least (e ∷ es) port j h = go (holds port e) refl (place-least es port) j h
  where
    go : (t : Bool) → holds port e ≡ t → ((k : ℕ) → holds port (get_or es k freed) ≡ true → place_of port es ≤ k) → (k : ℕ)
        → holds port (get_or (e ∷ es) k freed) ≡ true → pick t 0 (suc (place_of port es)) ≤ k
    go true q r k l = omega arith
    go false q r zero l = absurd (false≢true (sym q ∙ l))
    go false q r (suc k) l = omega (arith, r k l)

pub first-free : (es : List Entry) (i : ℕ) → i < free_place es → (get_or es i freed).held ≡ true
unfolding free_place
first-free [] i h = absurd (omega (arith, h))
first-free (e ∷ es) i h = go e.held refl i (first-free es) h
  where
    go : (t : Bool) → e.held ≡ t → (i : ℕ) → ((j : ℕ) → j < free_place es → (get_or es j freed).held ≡ true)
        → i < pick t (suc (free_place es)) 0 → (get_or (e ∷ es) i freed).held ≡ true
    go true a zero r h = a
    go true a (suc j) r h = r j (omega (arith, h))
    go false a i r h = absurd (omega (arith, h))

pub free-is : (es : List Entry) → free_place es < length es → (get_or es (free_place es) freed).held ≡ false
unfolding free_place
free-is [] h = absurd (omega (arith, h))
free-is (e ∷ es) h = go e.held refl (free-is es) h
  where
    go : (t : Bool) → e.held ≡ t → (free_place es < length es → (get_or es (free_place es) freed).held ≡ false)
        → pick t (suc (free_place es)) 0 < suc (length es) → (get_or (e ∷ es) (pick t (suc (free_place es)) 0) freed).held ≡ false
    go true a r h = r (omega (arith, h))
    go false a r h = a

-- ---- another port: an entry of this port put where this port is held ..
pub other-set : (es : List Entry) (port q : ℕ) (x : Entry) → port ≢ q → x.port ≡ port → last_of q (set es (place_of port es) x) ≡ last_of q es
unfolding last_of place_of
other-set [] port q x n p = refl
other-set (e ∷ es) port q x n p = go (holds port e) refl (other-set es port q x n p)
  where
    go : (t : Bool) → holds port e ≡ t → last_of q (set es (place_of port es) x) ≡ last_of q es
        → last_of q (set (e ∷ es) (pick t 0 (suc (place_of port es))) x) ≡ pick (holds q e) (some e.last) (last_of q es)
    go true h r = rw (holds_not q x (λ z. n (sym p ∙ z)), holds_not q e (λ z. n (sym (holds-is port e h) ∙ z))) refl
    go false h r = ap (pick (holds q e) (some e.last)) r

-- .. or at the first free place
other-free : (es : List Entry) (port q : ℕ) (x : Entry) → port ≢ q → x.port ≡ port → last_of q (set es (free_place es) x) ≡ last_of q es
unfolding last_of free_place
other-free [] port q x n p = refl
other-free (e ∷ es) port q x n p = go e.held refl (other-free es port q x n p)
  where
    go : (t : Bool) → e.held ≡ t → last_of q (set es (free_place es) x) ≡ last_of q es
        → last_of q (set (e ∷ es) (pick t (suc (free_place es)) 0) x) ≡ pick (holds q e) (some e.last) (last_of q es)
    go true h r = ap (pick (holds q e) (some e.last)) r
    go false h r = rw (holds_not q x (λ z. n (sym p ∙ z)), h) refl

pub others-noted : (es : List Entry) (port sequence q : ℕ) → port ≢ q → last_of q (noting es port sequence).1 ≡ last_of q es
others-noted es port sequence q n =
    noting-ways es port sequence (λ x. last_of q x.1 ≡ last_of q es) refl
    (λ h. other-set es port q (entry port (last_behind (last_at es port) sequence)) n refl) (λ h k. other-free es port q (entry port sequence) n refl) refl

pub others-forgotten : (es : List Entry) (port q : ℕ) → port ≢ q → last_of q (forgetting es port).1 ≡ last_of q es
others-forgotten es port q n =
    forgetting-ways es port (λ x. last_of q x.1 ≡ last_of q es) refl (λ h. other-set es port q (unheld port (last_at es port)) n refl) refl

pub entries-noted : (es : List Entry) (port sequence i : ℕ) → (get_or es i freed).held ≡ true → (get_or es i freed).port ≢ port
    → get_or (noting es port sequence).1 i freed ≡ get_or es i freed
entries-noted es port sequence i held other =
    noting-ways es port sequence (λ x. get_or x.1 i freed ≡ get_or es i freed) refl
    (λ h. get_or-set_other es (place_of port es) i _ freed
    (λ e. other (ap (λ (j : ℕ). (get_or es j freed).port) e ∙ holds-is port (get_or es (place_of port es) freed) (place-holds es port h))))
    (λ h k. get_or-set_other es (free_place es) i _ freed (λ e. true≢false (sym held ∙ ap (λ (j : ℕ). (get_or es j freed).held) e ∙ free-is es k))) refl

-- ---- the port itself
place_none : (es : List Entry) (port : ℕ) → length es ≤ place_of port es → last_of port es ≡ none
unfolding last_of place_of
place_none [] port h = refl
place_none (e ∷ es) port h = go (holds port e) (place_none es port) h
  where
    go : (t : Bool) → (length es ≤ place_of port es → last_of port es ≡ none) → suc (length es) ≤ pick t 0 (suc (place_of port es))
        → pick t (some e.last) (last_of port es) ≡ none
    go true r h = absurd (omega (arith, h))
    go false r h = r (omega (arith, h))

place-last : (es : List Entry) (port : ℕ) → place_of port es < length es → last_of port es ≡ some (last_at es port)
unfolding last_of place_of
place-last [] port h = absurd (omega (arith, h))
place-last (e ∷ es) port h = go (holds port e) (place-last es port) h
  where
    go : (t : Bool) → (place_of port es < length es → last_of port es ≡ some (get_or es (place_of port es) freed).last)
        → pick t 0 (suc (place_of port es)) < suc (length es)
        → pick t (some e.last) (last_of port es) ≡ some (get_or (e ∷ es) (pick t 0 (suc (place_of port es))) freed).last
    go true r h = refl
    go false r h = r (omega (arith, h))

set_last : (es : List Entry) (port l : ℕ) → place_of port es < length es → last_of port (set es (place_of port es) (entry port l)) ≡ some l
unfolding last_of place_of
set_last [] port l h = absurd (omega (arith, h))
set_last (e ∷ es) port l h = go (holds port e) refl (set_last es port l) h
  where
    go : (t : Bool) → holds port e ≡ t → (place_of port es < length es → last_of port (set es (place_of port es) (entry port l)) ≡ some l)
        → pick t 0 (suc (place_of port es)) < suc (length es)
        → last_of port (set (e ∷ es) (pick t 0 (suc (place_of port es))) (entry port l)) ≡ some l
    go true e r h = rw (eq-eqb port port refl) refl
    go false e r h = rw e (r (omega (arith, h)))

some-none : {x : ℕ} → some x ≡ none → ⊥
some-none {x} e = let k : ◌≡◌ {A = ℕ} 0 1 = cc in omega arith

some_same : {x y : ℕ} → some x ≡ some y → x ≡ y
some_same {x} {y} e = cc

free-last : (es : List Entry) (port l : ℕ) → last_of port es ≡ none → free_place es < length es → last_of port (set es (free_place es) (entry port l)) ≡ some l
unfolding last_of free_place
free-last [] port l n h = absurd (omega (arith, h))
free-last (e ∷ es) port l n h = go e.held refl (holds port e) refl (free-last es port l) n h
  where
    go : (t : Bool) → e.held ≡ t → (u : Bool) → holds port e ≡ u
        → (last_of port es ≡ none → free_place es < length es → last_of port (set es (free_place es) (entry port l)) ≡ some l)
        → pick u (some e.last) (last_of port es) ≡ none → pick t (suc (free_place es)) 0 < suc (length es)
        → last_of port (set (e ∷ es) (pick t (suc (free_place es)) 0) (entry port l)) ≡ some l
    go false a u b r n h = rw (eq-eqb port port refl) refl
    go true a false b r n h = rw b (r n (omega (arith, h)))
    go true a true b r n h = absurd (some-none n)

-- a port with a last number is held, one without is not
held_by : (es : List Entry) (port l : ℕ) → last_of port es ≡ some l → place_of port es < length es
held_by es port l e = by_le (length es) (place_of port es) (λ h. absurd (some-none (sym e ∙ place_none es port h))) (λ h. h)

pub away-by : (es : List Entry) (port : ℕ) → last_of port es ≡ none → length es ≤ place_of port es
away-by es port e = by_le (length es) (place_of port es) (λ h. h) (λ h. absurd (some-none (sym (place-last es port h) ∙ e)))

pub noted-last : (es : List Entry) (port sequence l : ℕ) → unfit es ≡ false → last_of port es ≡ some l
    → ((noting es port sequence).0 ≡ ruled l sequence) × (last_of port (noting es port sequence).1 ≡ some (last_behind l sequence))
unfolding noting
noted-last es port sequence l f e =
    let k = held_by es port l e in
    let m : last_at es port ≡ l = some_same (sym (place-last es port k) ∙ e) in
    (rw (f, lt-ltb _ _ k, m) refl, rw (f, lt-ltb _ _ k, m) (set_last es port (last_behind l sequence) k))

-- a new port, with a free place: "first", and it takes that place
pub noted-first : (es : List Entry) (port sequence : ℕ) → unfit es ≡ false → last_of port es ≡ none → free_place es < length es
    → noting es port sequence ≡ (First, set es (free_place es) (entry port sequence))
unfolding noting
noted-first es port sequence f e k = rw (f, le-ltb _ _ (away-by es port e), lt-ltb _ _ k) refl

pub first-last : (es : List Entry) (port sequence : ℕ) → unfit es ≡ false → last_of port es ≡ none → free_place es < length es
    → last_of port (noting es port sequence).1 ≡ some sequence
first-last es port sequence f e k = rw (noted-first es port sequence f e k) (free-last es port sequence e k)

-- .. and with none
pub noted-full : (es : List Entry) (port sequence : ℕ) → unfit es ≡ false → last_of port es ≡ none → length es ≤ free_place es
    → noting es port sequence ≡ (Refused 40, es)
unfolding noting
noted-full es port sequence f e k = rw (f, le-ltb _ _ (away-by es port e), le-ltb _ _ k) refl

-- two tables, whatever other ports they hold
pub only-full : (es fs : List Entry) (port sequence : ℕ) → unfit es ≡ false → unfit fs ≡ false → last_of port es ≡ last_of port fs
    → ltb (free_place es) (length es) ≡ ltb (free_place fs) (length fs) → (noting es port sequence).0 ≡ (noting fs port sequence).0
only-full es fs port sequence f g same room = go (last_of port es) refl (ltb (free_place es) (length es)) refl
  where
    go : (o : Option ℕ) → last_of port es ≡ o → (b : Bool) → ltb (free_place es) (length es) ≡ b → (noting es port sequence).0 ≡ (noting fs port sequence).0
    go (some l) e b h = (noted-last es port sequence l f e).0 ∙ sym (noted-last fs port sequence l g (sym same ∙ e)).0
    go none e true h =
        ap (λ (x : Noted × List Entry). x.0) (noted-first es port sequence f e (ltb-true _ _ h)) ∙
        sym (ap (λ (x : Noted × List Entry). x.0) (noted-first fs port sequence g (sym same ∙ e) (ltb-true _ _ (sym room ∙ h))))
    go none e false h =
        ap (λ (x : Noted × List Entry). x.0) (noted-full es port sequence f e (ltb-false _ _ h)) ∙
        sym (ap (λ (x : Noted × List Entry). x.0) (noted-full fs port sequence g (sym same ∙ e) (ltb-false _ _ (sym room ∙ h))))

-- ---- a port forgotten: of a table that holds no port twice, behind the place of a port it is not held again
pub once : (e : Entry) (es : List Entry) → twice (e ∷ es) ≡ false → e.held ≡ true → last_of e.port es ≡ none
unfolding twice
once e es h k = go (ltb (place_of e.port es) (length es)) refl
  where
    go : (t : Bool) → ltb (place_of e.port es) (length es) ≡ t → last_of e.port es ≡ none
    go true a = let z : true ≡ false = rw (k, a) at h in absurd (true≢false z)
    go false a = place_none es e.port (ltb-false _ _ a)

rest : (e : Entry) (es : List Entry) → twice (e ∷ es) ≡ false → twice es ≡ false
unfolding twice
rest e es f = or_right (e.held && ltb (place_of e.port es) (length es)) (twice es) f

free-none : (es : List Entry) (port : ℕ) (x : Entry) → twice es ≡ false → x.held ≡ false → last_of port (set es (place_of port es) x) ≡ none
unfolding last_of place_of
free-none [] port x f n = refl
free-none (e ∷ es) port x f n = go (holds port e) refl (free-none es port x (rest e es f) n)
  where
    go : (t : Bool) → holds port e ≡ t → last_of port (set es (place_of port es) x) ≡ none
        → last_of port (set (e ∷ es) (pick t 0 (suc (place_of port es))) x) ≡ none
    go true h r =
        let p = and_parts e.held (eqb e.port port) h in
        rw n (subst (λ (q : ℕ). last_of q es ≡ none) (eqb-true _ _ p.1) (once e es f p.0))
    go false h r = rw h r

pub forgotten-none : (es : List Entry) (port : ℕ) → unfit es ≡ false → last_of port (forgetting es port).1 ≡ none
unfolding forgetting
forgotten-none es port f =
    by_le (length es) (place_of port es) (λ h. rw (f, le-ltb _ _ h) (place_none es port h))
    (λ h. rw (f, lt-ltb _ _ h) (free-none es port (unheld port (last_at es port)) (or_right (ltb place_limit (length es)) (twice es) f) refl))

-- its place is free, and has port and last as they were
pub forgotten-at : (es : List Entry) (port : ℕ) → unfit es ≡ false → place_of port es < length es
    → get_or (forgetting es port).1 (place_of port es) freed ≡ record
    { held = false; port = (get_or es (place_of port es) freed).port; last = (get_or es (place_of port es) freed).last }
unfolding forgetting
forgotten-at es port f h =
    rw (f, lt-ltb _ _ h)
    (get_or-set_same es (place_of port es) (unheld port (last_at es port)) freed h
    ∙ ap (λ (q : ℕ). unheld q (last_at es port)) (sym (holds-is port (get_or es (place_of port es) freed) (place-holds es port h))))

pub forgotten-else : (es : List Entry) (port i : ℕ) → i ≢ place_of port es → get_or (forgetting es port).1 i freed ≡ get_or es i freed
forgotten-else es port i n =
    forgetting-ways es port (λ x. get_or x.1 i freed ≡ get_or es i freed) refl
    (λ h. get_or-set_other es (place_of port es) i (unheld port (last_at es port)) freed n) refl

-- ---- a fresh table
pub fresh-fit : unfit fresh_table ≡ false
unfolding twice place_of
fresh-fit = refl

pub fresh-none : (port : ℕ) → last_of port fresh_table ≡ none
unfolding last_of
fresh-none port = refl
