-- A packet noted is one decision over a table's first 16 places, whichever form the table has: what to answer, and which entry to put where. That decision,
-- put, is what `noting` says: its answer, and the table that it leaves.
-- noting-is    of a lent table of any length, its first 16 places gathered
-- noting-in    of a table by value, which has 16 places
use mathlib.Core.Path.{◌≡◌, refl, sym, ap, ◌∙◌}
use mathlib.Core.Bool.{Bool, true, false}
use mathlib.Core.List.{List, [], ◌∷◌}
use Prim.Native.Nat.{ℕ, zero, suc, ◌≤◌, ◌<◌}
use native.Mathlib.Nat.{le_of_suc-le-suc, not-suc-le-zero}
use native.Mathlib.Omega.{arith}
use borrow.Author.Tests.{lt-ltb, le-ltb, ltb-true}
use lib.Dec.{ltb}
use lib.ListN.{length, get_or, set, take}
use lib.Seq.{take_all}
use Rattle.std.proofs.lemmas.List.{set_past}
use Rattle.base.specs.Choice.{pick}
use Rattle.base.proofs.Tests.{by_le}
use Rattle.ports_spec.specs.Distance.{ruled, last_behind}
use Rattle.ports_spec.specs.Ports.{freed, entry, place_of, free_place, last_at, twice, further, taken, noting}
use Rattle.ports_spec.specs.declared.Entry.{Entry}
use Rattle.ports_spec.specs.declared.Noted.{Noted}
use Rattle.ports_spec.specs.declared.Noted.TheVariants.{First, Refused}
use Rattle.ports.specs.Private.{Table, Noting, gathered, table_of, unnoted, noting_of}

-- ---- the first n entries of a function: the places gathered are the table's
abbrev tab : ℕ → (ℕ → Entry) → List Entry
tab zero f = []
tab (suc n) f = f 0 ∷ tab n (λ i. f (suc i))

tab-at : (n : ℕ) (f : ℕ → Entry) (i : ℕ) → i < n → get_or (tab n f) i freed ≡ f i
tab-at zero f i l = absurd (not-suc-le-zero l)
tab-at (suc n) f zero l = refl
tab-at (suc n) f (suc i) l = tab-at n (λ j. f (suc j)) i (le_of_suc-le-suc l)

tab-all : (n : ℕ) (es : List Entry) → length es ≤ n → take (length es) (tab n (λ i. get_or es i freed)) ≡ es
tab-all n [] l = refl
tab-all zero (e ∷ es) l = absurd (not-suc-le-zero l)
tab-all (suc n) (e ∷ es) l = ap (λ (xs : List Entry). e ∷ xs) (tab-all n es (le_of_suc-le-suc l))

gathered-all : (es : List Entry) → length es ≤ 16 → take (length es) (gathered es) ≡ es
gathered-all es l = tab-all 16 es l

gathered-at : (es : List Entry) (i : ℕ) → i < 16 → get_or (gathered es) i freed ≡ get_or es i freed
gathered-at es i l = tab-at 16 (λ j. get_or es j freed) i l

-- ---- put, the decision is what the call is to answer and leave: of a table es whose first places g has
abbrev Put : Noting → List Entry → Noted × List Entry
Put d es = (d.noted, set es d.place d.entry)

module _ (es g : List Entry) (all : length es ≤ 16 → take (length es) g ≡ es) (each : (i : ℕ) → i < 16 → get_or g i freed ≡ get_or es i freed)
    (port sequence : ℕ) where
  abbrev Notes : Type 0
  Notes = Put (noting_of (record { places = length es; entries = g }) port sequence) es ≡ noting es port sequence

  -- a refusal puts nothing
  stays : (number : ℕ) → Put (unnoted (length es) number) es ≡ (Refused number, es)
  stays number = λ i. (Refused number, set_past es (length es) freed (omega arith) i)

  over : 16 < length es → Notes
  unfolding noting noting_of
  over h = rw (lt-ltb 16 (length es) h) (stays 43)

  -- a port that is held, by its last number; a new one
  abbrev further_by : ℕ → Noting
  further_by last = record { noted = ruled last sequence; place = place_of port es; entry = entry port (last_behind last sequence) }

  abbrev first : Noting
  first = record { noted = First; place = free_place es; entry = entry port sequence }

  -- by: is a port held twice, is this one held (the number is then its last one), is a place free
  by : (a b c : Bool) {last : ℕ} → (b ≡ true → last ≡ last_at es port)
      → Put (pick a (unnoted (length es) 43) (pick b (further_by last) (pick c first (unnoted (length es) 40)))) es
      ≡ pick a (Refused 43, es)
      (pick b (ruled (last_at es port) sequence, further es port sequence) (pick c (First, taken es port sequence) (Refused 40, es)))
  by true b c e = stays 43
  by false true c e = ap (λ (n : ℕ). Put (further_by n) es) (e refl)
  by false false true e = refl
  by false false false e = stays 40

  within : length es ≤ 16 → Notes
  unfolding noting noting_of
  within h =
      rw (le-ltb 16 (length es) h, all h) (by (twice es) (ltb (place_of port es) (length es)) (ltb (free_place es) (length es))
      (λ e. ap (λ (k : ℕ). (get_or g k freed).last) (ap (place_of port) (all h)) ∙ ap (λ (x : Entry). x.last)
      (each (place_of port es) (omega (arith, h, ltb-true (place_of port es) (length es) e)))))

  notes : Notes
  notes = by_le (length es) 16 within over

-- ---- of a lent table, gathered
pub noting-is : (es : List Entry) (port sequence : ℕ) → Put (noting_of (table_of es) port sequence) es ≡ noting es port sequence
noting-is es port sequence = notes es (gathered es) (gathered-all es) (gathered-at es) port sequence

-- ---- of a table by value, which has 16 places
module _ (es : List Entry) (size : length es ≡ 16) where
  abbrev sixteen : ℕ → Table
  sixteen n = record { places = n; entries = es }

  pub noting-in : (port sequence : ℕ) → Put (noting_of (sixteen 16) port sequence) es ≡ noting es port sequence
  noting-in port sequence = ap (λ (n : ℕ). Put (noting_of (sixteen n) port sequence) es) (sym size) ∙ notes es es (λ _. take_all (length es) es (omega arith))
      (λ i _. refl) port sequence
