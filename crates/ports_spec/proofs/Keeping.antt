-- A table that these calls keep never gets 43.
-- fit-noted, fit-forgotten     a table that is fit stays so
-- kept-fit, never-43           behind any such calls too, and so 43 is never given
use mathlib.Core.Path.{◌≡◌, refl, sym, ap, ◌∙◌}
use mathlib.Core.Bool.{Bool, true, false, ◌&&◌, ◌||◌, true≢false}
use mathlib.Core.Logic.{◌≢◌}
use mathlib.Core.List.{List, [], ◌∷◌}
use mathlib.Core.Option.{none}
use Prim.Native.Nat.{ℕ, suc, ◌≤◌, ◌<◌}
use native.Mathlib.Omega.{arith}
use borrow.Author.Tests.{eq-eqb, ne_eqb, eqb-true, le-ltb}
use lib.Dec.{eqb, ltb}
use lib.ListN.{length, set, length-set}
use Rattle.base.specs.Choice.{pick}
use Rattle.base.proofs.Tests.{and_parts, or_left, or_right}
use Rattle.ports_spec.specs.declared.Entry.{Entry}
use Rattle.ports_spec.specs.declared.Noted.TheVariants.{Refused}
use Rattle.ports_spec.specs.Forgot.{Refused as Unforgotten}
use Rattle.ports_spec.specs.Distance.{last_behind}
use Rattle.ports_spec.specs.Ports.{place_limit, entry, unheld, holds, place_of, free_place, last_of, twice, unfit, last_at, noting, forgetting}
use Rattle.ports_spec.specs.Refusing.{Call, packet, forget, keeps}
use Rattle.ports_spec.proofs.Laws.{noting_by, forgetting_by, noting-ways, forgetting-ways, once, other-set, away-by}
use Rattle.ports_spec.proofs.Refusing.{rule-given}

-- a port's place hangs on held and port alone: an entry of the same port where it is held changes no place ..
place_set : (es : List Entry) (port q l : ℕ) → place_of q (set es (place_of port es) (entry port l)) ≡ place_of q es
unfolding place_of
place_set [] port q l = refl
place_set (e ∷ es) port q l = go (holds port e) refl (place_set es port q l)
  where
    go : (t : Bool) → holds port e ≡ t → place_of q (set es (place_of port es) (entry port l)) ≡ place_of q es
        → place_of q (set (e ∷ es) (pick t 0 (suc (place_of port es))) (entry port l)) ≡ pick (holds q e) 0 (suc (place_of q es))
    go true h r =
        let p = and_parts e.held (eqb e.port port) h in
        let k : e.port ≡ port = eqb-true _ _ p.1 in
        rw (p.0, k) refl
    go false h r = ap (λ (n : ℕ). pick (holds q e) 0 (suc n)) r

-- .. and at the first free place none of another port
place-free : (es : List Entry) (port q l : ℕ) → port ≢ q → free_place es < length es → place_of q (set es (free_place es) (entry port l)) ≡ place_of q es
unfolding place_of free_place
place-free [] port q l n k = absurd (omega (arith, k))
place-free (e ∷ es) port q l n k = go e.held refl (place-free es port q l n) k
  where
    go : (t : Bool) → e.held ≡ t → (free_place es < length es → place_of q (set es (free_place es) (entry port l)) ≡ place_of q es)
        → pick t (suc (free_place es)) 0 < suc (length es)
        → place_of q (set (e ∷ es) (pick t (suc (free_place es)) 0) (entry port l)) ≡ pick (holds q e) 0 (suc (place_of q es))
    go true h r k = ap (λ (n : ℕ). pick (holds q e) 0 (suc n)) (r (omega (arith, k)))
    go false h r k = rw (ne_eqb port q n, h) refl

or-both : (a b : Bool) → a ≡ false → b ≡ false → a || b ≡ false
or-both a b p q = rw (p, q) refl

twice-set : (es : List Entry) (port l : ℕ) → twice es ≡ false → twice (set es (place_of port es) (entry port l)) ≡ false
unfolding twice place_of
twice-set [] port l f = refl
twice-set (e ∷ es) port l f = go (holds port e) refl (twice-set es port l (or_right (e.held && ltb (place_of e.port es) (length es)) (twice es) f))
  where
    go : (t : Bool) → holds port e ≡ t → twice (set es (place_of port es) (entry port l)) ≡ false
        → twice (set (e ∷ es) (pick t 0 (suc (place_of port es))) (entry port l)) ≡ false
    go true h r =
        let p = and_parts e.held (eqb e.port port) h in
        let k : e.port ≡ port = eqb-true _ _ p.1 in
        rw (p.0, k) at f
    go false h r =
        let a = or_left (e.held && ltb (place_of e.port es) (length es)) (twice es) f in
        or-both (e.held && ltb (place_of e.port (set es (place_of port es) (entry port l))) (length (set es (place_of port es) (entry port l))))
        (twice (set es (place_of port es) (entry port l)))
        (rw (place_set es port e.port l, length-set es (place_of port es) (entry port l)) a) r

not-held : (e : Entry) (es : List Entry) (port : ℕ) → length (e ∷ es) ≤ place_of port (e ∷ es) → (holds port e ≡ false) × (length es ≤ place_of port es)
unfolding place_of
not-held e es port h = go (holds port e) refl h
  where
    go : (t : Bool) → holds port e ≡ t → suc (length es) ≤ pick t 0 (suc (place_of port es)) → (holds port e ≡ false) × (length es ≤ place_of port es)
    go true a h = absurd (omega (arith, h))
    go false a h = (a, omega (arith, h))

twice-free : (es : List Entry) (port l : ℕ) → twice es ≡ false → length es ≤ place_of port es → free_place es < length es
    → twice (set es (free_place es) (entry port l)) ≡ false
unfolding twice free_place
twice-free [] port l f n k = absurd (omega (arith, k))
twice-free (e ∷ es) port l f n k =
    let q = not-held e es port n in
    go e.held refl (twice-free es port l (or_right (e.held && ltb (place_of e.port es) (length es)) (twice es) f) q.1) q.0 q.1 k
  where
    go : (t : Bool) → e.held ≡ t → (free_place es < length es → twice (set es (free_place es) (entry port l)) ≡ false)
        → holds port e ≡ false → length es ≤ place_of port es → pick t (suc (free_place es)) 0 < suc (length es)
        → twice (set (e ∷ es) (pick t (suc (free_place es)) 0) (entry port l)) ≡ false
    go true h r q n k =
        let a = or_left (e.held && ltb (place_of e.port es) (length es)) (twice es) f in
        let j : free_place es < length es = omega (arith, k) in
        let m : port ≢ e.port = λ z. let u : holds port e ≡ true = rw (h, eq-eqb e.port port (sym z)) refl in true≢false (sym u ∙ q) in
        or-both (e.held && ltb (place_of e.port (set es (free_place es) (entry port l))) (length (set es (free_place es) (entry port l))))
        (twice (set es (free_place es) (entry port l)))
        (rw (place-free es port e.port l m j, length-set es (free_place es) (entry port l)) a) (r j)
    go false h r q n k =
        or-both (ltb (place_of port es) (length es)) (twice es) (le-ltb _ _ n) (or_right (e.held && ltb (place_of e.port es) (length es)) (twice es) f)

pub fit-noted : (es : List Entry) (port sequence : ℕ) → unfit es ≡ false → unfit (noting es port sequence).1 ≡ false
fit-noted es port sequence f =
    let size = or_left (ltb place_limit (length es)) (twice es) f in
    let each = or_right (ltb place_limit (length es)) (twice es) f in
    noting-ways es port sequence (λ x. unfit x.1 ≡ false) f
    (λ h. let l = last_behind (last_at es port) sequence in rw (length-set es (place_of port es) (entry port l), size) (twice-set es port l each))
    (λ h k. rw (length-set es (free_place es) (entry port sequence), size) (twice-free es port sequence each h k)) f

-- ---- likewise a port forgotten
twice-freed : (es : List Entry) (port : ℕ) (x : Entry) → twice es ≡ false → x.held ≡ false → x.port ≡ port → twice (set es (place_of port es) x) ≡ false
unfolding twice place_of
twice-freed [] port x f n p = refl
twice-freed (e ∷ es) port x f n p =
    go (holds port e) refl e.held refl (twice-freed es port x (or_right (e.held && ltb (place_of e.port es) (length es)) (twice es) f) n p)
  where
    go : (t : Bool) → holds port e ≡ t → (u : Bool) → e.held ≡ u → twice (set es (place_of port es) x) ≡ false
        → twice (set (e ∷ es) (pick t 0 (suc (place_of port es))) x) ≡ false
    go true h u k r = rw n (or_right (e.held && ltb (place_of e.port es) (length es)) (twice es) f)
    go false h false k r = rw k r
    go false h true k r =
        let m : port ≢ e.port = λ z. let v : holds port e ≡ true = rw (k, eq-eqb e.port port (sym z)) refl in true≢false (sym v ∙ h) in
        let o : last_of e.port (set es (place_of port es) x) ≡ none = other-set es port e.port x m p ∙ once e es f k in
        let l = le-ltb _ _ (away-by (set es (place_of port es) x) e.port o) in
        rw (k, l) r

fit-forgotten : (es : List Entry) (port : ℕ) → unfit es ≡ false → unfit (forgetting es port).1 ≡ false
fit-forgotten es port f =
    let x = unheld port (last_at es port) in
    forgetting-ways es port (λ y. unfit y.1 ≡ false) f
    (λ h. rw (length-set es (place_of port es) x, or_left (ltb place_limit (length es)) (twice es) f)
    (twice-freed es port x (or_right (ltb place_limit (length es)) (twice es) f) refl refl)) f

-- ---- behind any such calls
kept-fit : (cs : List Call) (es : List Entry) → unfit es ≡ false → unfit (keeps cs es) ≡ false
kept-fit [] es f = f
kept-fit (packet port sequence ∷ cs) es f = kept-fit cs (noting es port sequence).1 (fit-noted es port sequence f)
kept-fit (forget port ∷ cs) es f = kept-fit cs (forgetting es port).1 (fit-forgotten es port f)

not-43 : (es : List Entry) (port sequence : ℕ) → unfit es ≡ false → ((noting es port sequence).0 ≢ Refused 43) × ((forgetting es port).0 ≢ Unforgotten 43)
unfolding noting forgetting
not-43 es port sequence f =
    (noted (unfit es) f (ltb (place_of port es) (length es)) (ltb (free_place es) (length es)), forgot (unfit es) f (ltb (place_of port es) (length es)))
  where
    noted : (a : Bool) → a ≡ false → (b c : Bool) → (noting_by a b c es port sequence).0 ≢ Refused 43
    noted true f b c e = true≢false f
    noted false f true c e = rule-given (last_at es port) sequence 43 e
    noted false f false true e = let z : ◌≡◌ {A = ℕ} 0 1 = cc in omega arith
    noted false f false false e = let z : ◌≡◌ {A = ℕ} 40 43 = cc in omega (arith, z)

    forgot : (a : Bool) → a ≡ false → (b : Bool) → (forgetting_by a b es port).0 ≢ Unforgotten 43
    forgot true f b e = true≢false f
    forgot false f true e = let z : ◌≡◌ {A = ℕ} 0 1 = cc in omega arith
    forgot false f false e = let z : ◌≡◌ {A = ℕ} 41 43 = cc in omega (arith, z)

pub never-43 : (cs : List Call) (es : List Entry) (port sequence : ℕ) → unfit es ≡ false
    → ((noting (keeps cs es) port sequence).0 ≢ Refused 43) × ((forgetting (keeps cs es) port).0 ≢ Unforgotten 43)
never-43 cs es port sequence f = not-43 (keeps cs es) port sequence (kept-fit cs es f)
