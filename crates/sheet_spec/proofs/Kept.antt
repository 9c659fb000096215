-- Rows that are kept within 16 ports and 64 bits tell, of any packets, what the rows without limits say.
-- ports-note           the ports behind a packet
-- wide-note, wide-on   a number passes 64 bits by the packet's row, and once one does, one does further on
-- Same, steps-same     the two, side by side
-- port_of, wide-old, wide-stays   a row's port; a row that passes 64 bits was there, and once one does, one does further on
-- start-same           they start alike
use Prim.Native.Nat.{ℕ, suc, ◌+◌, ◌≤◌}
use native.Mathlib.Omega.{arith}
use mathlib.Core.Path.{◌≡◌, refl, sym, ap, ◌∙◌}
use mathlib.Core.Bool.{Bool, true, false, ◌||◌, true≢false, false≢true}
use mathlib.Core.List.{List, [], ◌∷◌, map}
use borrow.Author.Tests.{ltb-true, lt-ltb, le-ltb}
use lib.Dec.{eqb, ltb}
use lib.ListN.{length}
use Rattle.base.proofs.Tests.{or_left, or_right}
use Rattle.base.specs.Choice.{pick}
use Rattle.sheet_spec.specs.declared.Tally.{Tally}
use Rattle.sheet_spec.specs.declared.Row.{Row}
use Rattle.sheet_spec.specs.Tally.{plus, one, wide, far}
use Rattle.sheet_spec.specs.Meaning.{Mark, added, any_wide, port_limit}
use Rattle.sheet_spec.specs.Rows.{blank, verdict, heard_row, note_in, row_for, Run, run, step, steps}
use Rattle.sheet_spec.proofs.Running.{noted_all}

-- ---- ports
abbrev pub port_of : Row → ℕ
port_of r = r.port

pub ports-note : (port s : ℕ) (rs : List Row) → map port_of (note_in port s rs) ≡ added port (map port_of rs)
unfolding note_in added heard_row
ports-note port s [] = refl
ports-note port s (r ∷ rs) = go (eqb r.port port) (ltb port r.port) (ports-note port s rs)
  where
    go : (a b : Bool) → map port_of (note_in port s rs) ≡ added port (map port_of rs)
        → map port_of (pick a (heard_row r s ∷ rs) (pick b (heard_row (blank port) s ∷ r ∷ rs) (r ∷ note_in port s rs)))
        ≡ pick a (r.port ∷ map port_of rs) (pick b (port ∷ r.port ∷ map port_of rs) (r.port ∷ added port (map port_of rs)))
    go true b x = refl
    go false true x = refl
    go false false x = ap (λ (ps : List ℕ). r.port ∷ ps) x

map-length : (rs : List Row) → length (map port_of rs) ≡ length rs
map-length [] = refl
map-length (r ∷ rs) = ap suc (map-length rs)

note-length : (port s : ℕ) (rs : List Row) → length (note_in port s rs) ≡ length (added port (map port_of rs))
note-length port s rs = sym (map-length (note_in port s rs)) ∙ ap length (ports-note port s rs)

added-length : (port : ℕ) (ps : List ℕ) → length ps ≤ length (added port ps)
unfolding added
added-length port [] = omega arith
added-length port (p ∷ ps) = go (eqb p port) (ltb port p) (added-length port ps)
  where
    go : (a b : Bool) → length ps ≤ length (added port ps) → suc (length ps) ≤ length (pick a (p ∷ ps) (pick b (port ∷ p ∷ ps) (p ∷ added port ps)))
    go true b x = omega arith
    go false true x = omega arith
    go false false x = omega (arith, x)

note-longer : (port s : ℕ) (rs : List Row) → length rs ≤ length (note_in port s rs)
note-longer port s rs = omega (arith, note-length port s rs, added-length port (map port_of rs), map-length rs)

-- ---- numbers that pass 64 bits
or_mono : (a b c d : Bool) → (a ≡ true → c ≡ true) → (b ≡ true → d ≡ true) → a || b ≡ true → c || d ≡ true
or_mono true b c d f g e = rw (f refl) refl
or_mono false b true d f g e = refl
or_mono false b false d f g e = g e

sum_over : (a b : ℕ) → ltb far a ≡ true → ltb far (a + b) ≡ true
sum_over a b e = lt-ltb far (a + b) (omega (arith, ltb-true far a e))

wide-on : (a b : Tally) → wide a ≡ true → wide (plus a b) ≡ true
wide-on a b =
    or_mono _ _ _ _ (or_mono _ _ _ _ (or_mono _ _ _ _ (or_mono _ _ _ _ (sum_over a.delivered b.delivered) (sum_over a.repeated b.repeated))
    (sum_over a.late b.late)) (sum_over a.missing b.missing)) (sum_over a.total b.total)

-- once a number passes, one does further on
pub wide-stays : (port s : ℕ) (rs : List Row) → any_wide rs ≡ true → any_wide (note_in port s rs) ≡ true
unfolding any_wide note_in heard_row
wide-stays port s [] e = absurd (false≢true e)
wide-stays port s (r ∷ rs) e = go (eqb r.port port) (ltb port r.port) (wide-stays port s rs)
  where
    go : (a b : Bool) → (any_wide rs ≡ true → any_wide (note_in port s rs) ≡ true)
        → any_wide (pick a (heard_row r s ∷ rs) (pick b (heard_row (blank port) s ∷ r ∷ rs) (r ∷ note_in port s rs))) ≡ true
    go true b x = or_mono (wide r.tally) (any_wide rs) _ _ (wide-on r.tally (one (verdict r s))) (λ z. z) e
    go false true x = e
    go false false x = or_mono (wide r.tally) (any_wide rs) _ _ (λ z. z) x e

or-false : (a : Bool) → a || false ≡ a
or-false true = refl
or-false false = refl

-- where none passed before, one does where the packet's row has one
pub wide-note : (port s : ℕ) (rs : List Row) → any_wide rs ≡ false → any_wide (note_in port s rs) ≡ wide (heard_row (row_for port rs) s).tally
unfolding any_wide note_in row_for heard_row
wide-note port s [] e = refl
wide-note port s (r ∷ rs) e =
    go (eqb r.port port) (ltb port r.port) (or_left (wide r.tally) (any_wide rs) e) (or_right (wide r.tally) (any_wide rs) e) (wide-note port s rs)
  where
    go : (a b : Bool) → wide r.tally ≡ false → any_wide rs ≡ false
        → (any_wide rs ≡ false → any_wide (note_in port s rs) ≡ wide (heard_row (row_for port rs) s).tally)
        → any_wide (pick a (heard_row r s ∷ rs) (pick b (heard_row (blank port) s ∷ r ∷ rs) (r ∷ note_in port s rs)))
        ≡ wide (heard_row (pick a r (pick b (blank port) (row_for port rs))) s).tally
    go true b f g x = ap (λ (t : Bool). wide (heard_row r s).tally || t) g ∙ or-false (wide (heard_row r s).tally)
    go false true f g x = e
    go false false f g x = ap (λ (t : Bool). t || any_wide (note_in port s rs)) f ∙ x g

-- a row that passes was there: no port is new
pub wide-old : (port s : ℕ) (rs : List Row) → wide (heard_row (row_for port rs) s).tally ≡ true → added port (map port_of rs) ≡ map port_of rs
unfolding row_for added heard_row
wide-old port s [] e = absurd (false≢true e)
wide-old port s (r ∷ rs) e = go (eqb r.port port) (ltb port r.port) e (wide-old port s rs)
  where
    go : (a b : Bool) → wide (heard_row (pick a r (pick b (blank port) (row_for port rs))) s).tally ≡ true
        → (wide (heard_row (row_for port rs) s).tally ≡ true → added port (map port_of rs) ≡ map port_of rs)
        → pick a (r.port ∷ map port_of rs) (pick b (port ∷ r.port ∷ map port_of rs) (r.port ∷ added port (map port_of rs))) ≡ r.port ∷ map port_of rs
    go true b e x = refl
    go false true e x = absurd (false≢true e)
    go false false e x = ap (λ (ps : List ℕ). r.port ∷ ps) (x e)

-- ---- side by side
pub record Same (d : Run) (rs : List Row) : Type 0 where
  pub fulls : d.full ≡ ltb port_limit (length rs)
  pub ports : d.full ≡ false → map port_of d.rows ≡ map port_of rs
  pub overs : d.full ≡ false → d.over ≡ any_wide rs
  pub same : d.full ≡ false → d.over ≡ false → d.rows ≡ rs

full-same : (d : Run) (rs : List Row) → d.full ≡ true → ltb port_limit (length rs) ≡ true → Same d rs
full-same d rs f l = record {
  fulls = f ∙ sym l;
  ports = λ e. absurd (true≢false (sym f ∙ e));
  overs = λ e. absurd (true≢false (sym f ∙ e));
  same = λ e. absurd (true≢false (sym f ∙ e));
}

module _ (port s : ℕ) (ks rs : List Row) where
  abbrev b : Bool
  b = ltb port_limit (length (note_in port s ks))

  abbrev w : Bool
  w = wide (heard_row (row_for port ks) s).tally

  -- a seventeenth port was met before
  step-full : (v : Bool) → ltb port_limit (length rs) ≡ true → Same (step port s (run ks true v)) (note_in port s rs)
  unfolding step
  step-full v l =
      let k : ltb port_limit (length (note_in port s rs)) ≡ true = lt-ltb port_limit (length (note_in port s rs))
      (omega (arith, ltb-true port_limit (length rs) l, note-longer port s rs)) in
      go b w k
    where
      go : (a c : Bool) → ltb port_limit (length (note_in port s rs)) ≡ true
          → Same (pick a (run ks true v) (pick c (run ks true true) (run (note_in port s ks) true v))) (note_in port s rs)
      go true c k = full-same (run ks true v) (note_in port s rs) refl k
      go false true k = full-same (run ks true true) (note_in port s rs) refl k
      go false false k = full-same (run (note_in port s ks) true v) (note_in port s rs) refl k

  module _ (ports : map port_of ks ≡ map port_of rs) where
    lengths : length (note_in port s ks) ≡ length (note_in port s rs)
    lengths = note-length port s ks ∙ ap (λ (ps : List ℕ). length (added port ps)) ports ∙ sym (note-length port s rs)

    behind : map port_of (note_in port s ks) ≡ map port_of (note_in port s rs)
    behind = ports-note port s ks ∙ ap (added port) ports ∙ sym (ports-note port s rs)

    stay : w ≡ true → map port_of ks ≡ map port_of (note_in port s rs)
    stay e = sym (wide-old port s ks e) ∙ ap (added port) ports ∙ sym (ports-note port s rs)

    fits : ltb port_limit (length (note_in port s ks)) ≡ ltb port_limit (length (note_in port s rs))
    fits = ap (ltb port_limit) lengths

    -- a number passed before
    step-over : any_wide rs ≡ true → Same (step port s (run ks false true)) (note_in port s rs)
    unfolding step
    step-over e = go b fits w refl (wide-stays port s rs e)
      where
        go : (a : Bool) → a ≡ ltb port_limit (length (note_in port s rs)) → (c : Bool) → w ≡ c → any_wide (note_in port s rs) ≡ true
            → Same (pick a (run ks true true) (pick c (run ks false true) (run (note_in port s ks) false true))) (note_in port s rs)
        go true l c f x = full-same (run ks true true) (note_in port s rs) refl (sym l)
        go false l true f x = record { fulls = l; ports = λ _. stay f; overs = λ _. sym x; same = λ _ z. absurd (true≢false z) }
        go false l false f x = record { fulls = l; ports = λ _. behind; overs = λ _. sym x; same = λ _ z. absurd (true≢false z) }

  -- none did
  step-plain : ks ≡ rs → any_wide rs ≡ false → Same (step port s (run ks false false)) (note_in port s rs)
  unfolding step
  step-plain q e = go b (fits (ap (map port_of) q)) w refl (wide-note port s rs e ∙ ap (λ (xs : List Row). wide (heard_row (row_for port xs) s).tally) (sym q))
    where
      go : (a : Bool) → a ≡ ltb port_limit (length (note_in port s rs)) → (c : Bool) → w ≡ c → any_wide (note_in port s rs) ≡ w
          → Same (pick a (run ks true false) (pick c (run ks false true) (run (note_in port s ks) false false))) (note_in port s rs)
      go true l c f x = full-same (run ks true false) (note_in port s rs) refl (sym l)
      go false l true f x = record { fulls = l; ports = λ _. stay (ap (map port_of) q) f; overs = λ _. sym (x ∙ f); same = λ _ z. absurd (true≢false z) }
      go false l false f x = record {
        fulls = l;
        ports = λ _. behind (ap (map port_of) q);
        overs = λ _. sym (x ∙ f);
        same = λ _ z. ap (note_in port s) q;
      }

step_same : (port s : ℕ) (d : Run) (rs : List Row) → Same d rs → Same (step port s d) (note_in port s rs)
step_same port s d rs h = go d.full refl d.over refl
  where
    go : (f : Bool) → d.full ≡ f → (v : Bool) → d.over ≡ v → Same (step port s (run d.rows f v)) (note_in port s rs)
    go true e v g = step-full port s d.rows rs v (sym h.fulls ∙ e)
    go false e true g = step-over port s d.rows rs (h.ports e) (sym (h.overs e) ∙ g)
    go false e false g = step-plain port s d.rows rs (h.same e g) (sym (h.overs e) ∙ g)

pub steps-same : (ms : List Mark) (d : Run) (rs : List Row) → Same d rs → Same (steps d ms) (noted_all rs ms)
unfolding steps noted_all
steps-same [] d rs h = h
steps-same (m ∷ ms) d rs h = steps-same ms (step m.0 m.1 d) (note_in m.0 m.1 rs) (step_same m.0 m.1 d rs h)

-- from rows that have both limits
pub start-same : (rs : List Row) → length rs ≤ port_limit → any_wide rs ≡ false → Same (run rs false false) rs
start-same rs l w = record { fulls = sym (le-ltb port_limit (length rs) l); ports = λ _. refl; overs = λ _. sym w; same = λ _ _. refl }
