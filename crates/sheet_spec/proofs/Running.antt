-- The rows kept packet by packet are those that the definition counts, afresh in each recording.
-- noted_all        rows behind packets, without limits
-- running         what they are by the definition: run_is
-- run-starts, run_ends   they start as the month's lines, and end as those of the month with the recording
-- note-map, running_row   one packet more; a port's row by the definition
use Prim.Native.Nat.{ℕ}
use mathlib.Core.Path.{◌≡◌, refl, sym, ap, subst, ◌∙◌}
use mathlib.Core.Bool.{Bool, true, false}
use mathlib.Core.Logic.{inl, inr, ⊎_elim, ◌≢◌}
use mathlib.Core.List.{List, [], ◌∷◌, ◌++◌, map, append-nil, append_assoc}
use borrow.Author.Tests.{eq-eqb, ne_eqb, lt-ltb, le-ltb}
use lib.Dec.{eqb}
use Rattle.base.specs.Choice.{pick}
use Rattle.base.proofs.Tests.{by-eq, by_le}
use Rattle.sheet_spec.specs.declared.Tally.{Tally}
use Rattle.sheet_spec.specs.declared.Row.{Row}
use Rattle.sheet_spec.specs.Tally.{nothing}
use Rattle.sheet_spec.specs.Meaning.{Mark, Month, numbers_of, numbers, added, added_all, ports_of, line, lines, with}
use Rattle.sheet_spec.specs.Rows.{row, blank, heard_row, note_in, cleared}
use Rattle.sheet_spec.proofs.Tallies.{after, heard-after, none_after, numbers-with}
use Rattle.sheet_spec.proofs.Rises.{Above, Rising}
use Rattle.sheet_spec.proofs.Ports.{In, above-out, rising-out, all-rises, all_snoc, ports-rise, ports-with, absent-before, absent-now}

-- ---- a packet among rows that are a function of their port
module _ (port s : ℕ) (t u : ℕ → Tally) (h k : ℕ → Bool) (l m : ℕ → ℕ) where
  abbrev old : ℕ → Row
  old q = row q (t q) (h q) (l q)

  abbrev new : ℕ → Row
  new q = row q (u q) (k q) (m q)

  module _ (others : (q : ℕ) → port ≢ q → old q ≡ new q) where
    map-others : (ps : List ℕ) → (In port ps → ⊥) → map old ps ≡ map new ps
    unfolding In
    map-others [] n = refl
    map-others (p ∷ ps) n = (λ i. others p (λ e. n (inl (sym e))) i ∷ map-others ps (λ j. n (inr j)) i)

    pub note-map : heard_row (old port) s ≡ new port → (ps : List ℕ) → Rising ps → ((In port ps → ⊥) → heard_row (blank port) s ≡ new port)
        → note_in port s (map old ps) ≡ map new (added port ps)
    unfolding note_in added Rising In Above
    note-map own [] r first = ap (λ (x : Row). x ∷ []) (first (λ z. z))
    note-map own (p ∷ ps) r first =
        by-eq p port
        (λ e. rw (eq-eqb p port e) (λ i. (ap (λ (q : ℕ). heard_row (old q) s) e ∙ own ∙ ap new (sym e)) i ∷ map-others ps
        (λ j. above-out p ps r.0 (subst (λ (q : ℕ). In q ps) (sym e) j)) i))
        (λ n. rw (ne_eqb p port n) (by_le p port
        (λ b. rw (le-ltb port p b) (λ i. others p (λ e. n (sym e)) i ∷ note-map own ps r.1 (λ j. first (λ a. ⊎_elim n j a)) i))
        (λ b. rw (lt-ltb port p b) (let out = rising-out port p ps b r.0 in λ i. first out i ∷ map-others (p ∷ ps) out i))))

-- ---- the run
-- the rows behind packets, without limits
unfoldable pub noted_all : List Row → List Mark → List Row
noted_all rs [] = rs
noted_all rs (m ∷ ms) = noted_all (note_in m.0 m.1 rs) ms

-- a port's row by the definition, behind these packets of the recording
abbrev pub running_row : Month → List Mark → ℕ → Row
running_row month ms q = after q (numbers q month) (numbers_of q ms)

abbrev pub running : Month → List Mark → List Row
running month ms = map (running_row month ms) (added_all (ports_of month) ms)

numbers-own : (ms : List Mark) (m : Mark) → numbers_of m.0 (ms ++ (m ∷ [])) ≡ numbers_of m.0 ms ++ (m.1 ∷ [])
unfolding numbers_of
numbers-own [] m = rw (eq-eqb m.0 m.0 refl) refl
numbers-own (n ∷ ms) m = go (eqb n.0 m.0) (numbers-own ms m)
  where
    go : (a : Bool) → numbers_of m.0 (ms ++ (m ∷ [])) ≡ numbers_of m.0 ms ++ (m.1 ∷ [])
        → pick a (n.1 ∷ numbers_of m.0 (ms ++ (m ∷ []))) (numbers_of m.0 (ms ++ (m ∷ []))) ≡ pick a (n.1 ∷ numbers_of m.0 ms) (numbers_of m.0 ms)
        ++ (m.1 ∷ [])
    go true x = ap (λ (xs : List ℕ). n.1 ∷ xs) x
    go false x = x

numbers-other : (ms : List Mark) (m : Mark) (q : ℕ) → m.0 ≢ q → numbers_of q ms ≡ numbers_of q (ms ++ (m ∷ []))
unfolding numbers_of
numbers-other [] m q n = rw (ne_eqb m.0 q n) refl
numbers-other (x ∷ ms) m q n = ap (λ (xs : List ℕ). pick (eqb x.0 q) (x.1 ∷ xs) xs) (numbers-other ms m q n)

step_is : (month : Month) (ms : List Mark) (m : Mark) → note_in m.0 m.1 (running month ms) ≡ running month (ms ++ (m ∷ []))
step_is month ms m =
    let q : ℕ = m.0 in
    let s : ℕ = m.1 in
    let own : heard_row (running_row month ms q) s ≡ running_row month (ms ++ (m ∷ [])) q =
    heard-after q (numbers q month) (numbers_of q ms) s ∙ ap (after q (numbers q month)) (sym (numbers-own ms m)) in
    let first : (In q (added_all (ports_of month) ms) → ⊥) → heard_row (blank q) s ≡ running_row month (ms ++ (m ∷ [])) q =
    λ out. ap (λ (r : Row). heard_row r s)
    (sym (none_after q nothing) ∙ (λ i. after q (sym (absent-before month ms q out) i) (sym (absent-now month ms q out) i))) ∙ own in
    note-map q s _ _ _ _ _ _ (λ p n. ap (after p (numbers p month)) (numbers-other ms m p n)) own (added_all (ports_of month) ms)
    (all-rises ms (ports_of month) (ports-rise month)) first
    ∙ ap (map (running_row month (ms ++ (m ∷ [])))) (sym (all_snoc ms m (ports_of month)))

pub run_is : (month : Month) (ms done : List Mark) → noted_all (running month done) ms ≡ running month (done ++ ms)
unfolding noted_all
run_is month [] done = ap (running month) (sym (append-nil done))
run_is month (m ∷ ms) done =
    ap (λ (rs : List Row). noted_all rs ms) (step_is month done m) ∙ run_is month ms (done ++ (m ∷ [])) ∙ ap (running month) (append_assoc done (m ∷ []) ms)

map_same : (f g : ℕ → Row) → ((q : ℕ) → f q ≡ g q) → (ps : List ℕ) → map f ps ≡ map g ps
map_same f g e [] = refl
map_same f g e (p ∷ ps) = (λ i. e p i ∷ map_same f g e ps i)

-- it starts as the month's lines ..
pub run-starts : (month : Month) → running month [] ≡ lines month
unfolding added_all numbers_of
run-starts month = map_same (running_row month []) (line month) (λ q. none_after q (numbers q month)) (ports_of month)

map-map : (f : ℕ → Row) (g : Row → Row) (ps : List ℕ) → map g (map f ps) ≡ map (λ q. g (f q)) ps
map-map f g [] = refl
map-map f g (p ∷ ps) = ap (λ (rs : List Row). g (f p) ∷ rs) (map-map f g ps)

-- .. and ends, the recording forgotten, as those of the month with it
pub run_ends : (month : Month) (ms : List Mark) → map cleared (running month ms) ≡ lines (with month ms)
run_ends month ms =
    map-map (running_row month ms) cleared (added_all (ports_of month) ms)
    ∙ map_same (λ q. cleared (running_row month ms q)) (line (with month ms)) (λ q. ap (λ (t : Tally). row q t false 0) (sym (numbers-with month q ms)))
    (added_all (ports_of month) ms)
    ∙ ap (map (line (with month ms))) (sym (ports-with month ms))
