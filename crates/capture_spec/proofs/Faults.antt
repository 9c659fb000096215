-- What the answers of an import say of the file.
-- quiet                  behind a fault all bytes are taken and have no effect
-- fault_of, first-fault   packets, and behind them at most one fault, which is the last answer
-- Begun, sixty-exactly   60 exactly where the first 24 bytes are not the header's
use mathlib.Core.Path.{◌≡◌, refl, sym, ap, subst, ◌∙◌}
use mathlib.Core.Bool.{Bool, true, false}
use mathlib.Core.Logic.{◌↔◌}
use mathlib.Core.List.{List, [], ◌∷◌, ◌++◌, map, append-nil, nil≢cons, head-eq_of_cons-eq, tail-eq_of_cons-eq}
use mathlib.Core.Option.{Option, some, none}
use Prim.Native.Nat.{ℕ, ◌+◌, ◌≤◌}
use native.Mathlib.Omega.{arith}
use borrow.Author.Tests.{eq-eqb, ne_eqb}
use lib.Dec.{eqb}
use lib.ListN.{length, get_or, take, drop}
use Rattle.base.specs.Calls.{tell}
use Rattle.base.specs.Choice.{pick}
use Rattle.base.proofs.Lists.{next as cons-at}
use Rattle.base.proofs.Tests.{by-eq}
use Rattle.packet_spec.specs.Contents.{Packet}
use Rattle.packet_spec.specs.Frame.{Told, packet, refusal}
use Rattle.capture_spec.specs.File.{header}
use Rattle.capture_spec.specs.Meaning.{entry, Reading, in_header, in_head, in_record, behind, fresh, four_at, says, record_by, read, reads, ends, imported}
use Rattle.capture_spec.proofs.Entry.{entry-ways}

-- behind a fault all bytes are taken and have no effect
pub quiet : (n : ℕ) (bs : List ℕ) → reads (behind n) bs ≡ ([], behind n)
unfolding read
quiet n [] = refl
quiet n (b ∷ bs) = quiet n bs

-- one byte, by what it gives
one : (s : Reading) (b : ℕ) (bs : List ℕ) {x : Option Told × Reading} → read s b ≡ x → reads s (b ∷ bs) ≡ tell x.0 (reads x.1 bs)
one s b bs e = ap (λ (x : Option Told × Reading). tell x.0 (reads x.1 bs)) e

-- ---- the header
-- the bytes from place k of the header on, hs, are there; one of them is wrong; the file ends among them
pub data Begun (k : ℕ) (hs bs : List ℕ) : Type 0 where
  right : (rest : List ℕ) → bs ≡ hs ++ rest → reads (in_header k) bs ≡ reads (in_head []) rest → Begun k hs bs
  wrong : (take (length hs) bs ≡ hs → ⊥) → reads (in_header k) bs ≡ (refusal 60 ∷ [], behind 60) → Begun k hs bs
  short : (take (length hs) bs ≡ hs → ⊥) → (j : ℕ) → reads (in_header k) bs ≡ ([], in_header j) → Begun k hs bs

module _ (k b : ℕ) (bs : List ℕ) {h : ℕ} (at : get_or header k 0 ≡ h) where
  byte-right : b ≡ h → read (in_header k) b ≡ (none, pick (eqb (k + 1) 24) (in_head []) (in_header (k + 1)))
  unfolding read
  byte-right e = rw (eq-eqb b (get_or header k 0) (e ∙ sym at)) refl

  byte-wrong : (b ≡ h → ⊥) → reads (in_header k) (b ∷ bs) ≡ (refusal 60 ∷ [], behind 60)
  byte-wrong z = one (in_header k) b bs not-it ∙ ap (tell (some (refusal 60))) (quiet 60 bs)
    where
      not-it : read (in_header k) b ≡ (some (refusal 60), behind 60)
      not-it = unfold read in rw (ne_eqb b (get_or header k 0) (λ e. z (e ∙ at))) refl

begun : (hs bs : List ℕ) (k : ℕ) → k + length hs ≡ 24 → (length hs ≡ 0 → ⊥) → drop k header ≡ hs → Begun k hs bs
begun [] bs k n z d = absurd (z refl)
begun (h ∷ hs) [] k n z d = short (λ e. nil≢cons e) k refl
begun (h ∷ hs) (b ∷ bs) k n z d = by-eq b h (λ e. go hs n (tail-eq_of_cons-eq both) e (begun hs bs (k + 1)))
    (λ w. wrong (λ e. w (head-eq_of_cons-eq e)) (byte-wrong k b bs at w))
  where
    both : get_or header k 0 ∷ drop (k + 1) header ≡ h ∷ hs
    both = sym (cons-at header k (omega (arith, n))) ∙ d

    at : get_or header k 0 ≡ h
    at = head-eq_of_cons-eq both

    turn : Bool → Option Told × Reading
    turn t = (none, pick t (in_head []) (in_header (k + 1)))

    go : (hs : List ℕ) → k + length (h ∷ hs) ≡ 24 → drop (k + 1) header ≡ hs → b ≡ h
        → (k + 1 + length hs ≡ 24 → (length hs ≡ 0 → ⊥) → drop (k + 1) header ≡ hs → Begun (k + 1) hs bs) → Begun k (h ∷ hs) (b ∷ bs)
    go [] m t e rec =
        let last : k + 1 ≡ 24 = omega (arith, m) in
        right bs (λ i. e i ∷ bs) (one (in_header k) b bs (byte-right k b bs at e ∙ ap turn (eq-eqb (k + 1) 24 last)))
    go (h' ∷ hs) m t e rec =
        let on : reads (in_header k) (b ∷ bs) ≡ reads (in_header (k + 1)) bs =
        one (in_header k) b bs (byte-right k b bs at e ∙ ap turn (ne_eqb (k + 1) 24 (λ q. absurd (omega (arith, m, q))))) in
        step (rec (omega (arith, m)) (λ q. absurd (omega (arith, q))) t) on
      where
        step : Begun (k + 1) (h' ∷ hs) bs → reads (in_header k) (b ∷ bs) ≡ reads (in_header (k + 1)) bs → Begun k (h ∷ h' ∷ hs) (b ∷ bs)
        step (right rest f r) on = right rest (λ i. e i ∷ f i) (on ∙ r)
        step (wrong w r) on = wrong (λ q. w (tail-eq_of_cons-eq q)) (on ∙ r)
        step (short w j r) on = short (λ q. w (tail-eq_of_cons-eq q)) j (on ∙ r)

pub first : (bs : List ℕ) → Begun 0 header bs
first bs = begun header bs 0 refl (λ z. absurd (omega (arith, z))) refl

-- ---- behind the header
-- not in the header, and not behind a fault
abbrev Late : Reading → Type 0
Late (in_header k) = ⊥
Late (in_head h) = Unit {0}
Late (in_record n bs) = Unit {0}
Late (behind n) = ⊥

-- what a byte may give there
data Goes (x : Option Told × Reading) : Type 0 where
  on : (s : Reading) → Late s → x ≡ (none, s) → Goes x
  gives : (p : Packet) → x ≡ (some (packet p), in_head []) → Goes x
  stops : (n : ℕ) → 61 ≤ n → n ≤ 62 → x ≡ (some (refusal n), behind n) → Goes x

says-goes : (bs : List ℕ) → Goes (says (entry bs))
says-goes bs = entry-ways bs (λ (t : Told). Goes (says t)) (stops 62 (omega arith) (omega arith) refl) (λ p l e. gives p refl)

record-goes : (t : Bool) (n : ℕ) (bs : List ℕ) → Goes (record_by t n bs)
record-goes true n bs = says-goes bs
record-goes false n bs = on (in_record n bs) tt refl

goes : (s : Reading) (b : ℕ) → Late s → Goes (read s b)
unfolding read
goes (in_header k) b l = absurd l
goes (behind n) b l = absurd l
goes (in_record n bs) b l = record-goes (eqb (length bs + 1) n) n (bs ++ b ∷ [])
goes (in_head h) b l = go (eqb (length h + 1) 16) (eqb (four_at (h ++ b ∷ []) 8) (four_at (h ++ b ∷ []) 12))
  where
    m : ℕ
    m = four_at (h ++ b ∷ []) 8

    go : (t u : Bool) → Goes (pick t (pick u (record_by (eqb m 0) m []) (says (refusal 61))) (none, in_head (h ++ b ∷ [])))
    go false u = on (in_head (h ++ b ∷ [])) tt refl
    go true true = record-goes (eqb m 0) m []
    go true false = stops 61 (omega arith) (omega arith) refl

-- packets alone, or a fault behind them
data Answered (r : List Told × Reading) : Type 0 where
  well : (ps : List Packet) (s : Reading) → Late s → r ≡ (map packet ps, s) → Answered r
  ill : (ps : List Packet) (n : ℕ) → 61 ≤ n → n ≤ 62 → r ≡ (map packet ps ++ refusal n ∷ [], behind n) → Answered r

later : (bs : List ℕ) (s : Reading) → Late s → Answered (reads s bs)
later [] s l = well [] s l refl
later (b ∷ bs) s l = go (goes s b l) (later bs)
  where
    more : (p : Packet) → reads s (b ∷ bs) ≡ tell (some (packet p)) (reads (in_head []) bs) → Answered (reads (in_head []) bs) → Answered (reads s (b ∷ bs))
    more p e (well ps t m f) = well (p ∷ ps) t m (e ∙ ap (tell (some (packet p))) f)
    more p e (ill ps n i j f) = ill (p ∷ ps) n i j (e ∙ ap (tell (some (packet p))) f)

    go : Goes (read s b) → ((t : Reading) → Late t → Answered (reads t bs)) → Answered (reads s (b ∷ bs))
    go (on t m e) rec = subst Answered (sym (one s b bs e)) (rec t m)
    go (gives p e) rec = more p (one s b bs e) (rec (in_head []) tt)
    go (stops n i j e) rec = ill [] n i j (one s b bs e ∙ ap (tell (some (refusal n))) (quiet n bs))

-- ---- first found in file order
-- the fault that a state is behind
abbrev pub fault_of : Reading → List Told
fault_of (in_header k) = []
fault_of (in_head h) = []
fault_of (in_record n bs) = []
fault_of (behind n) = refusal n ∷ []

no-fault : (s : Reading) → Late s → (ps : List Packet) → map packet ps ≡ map packet ps ++ fault_of s
no-fault (in_header k) l ps = absurd l
no-fault (behind n) l ps = absurd l
no-fault (in_head h) l ps = sym (append-nil (map packet ps))
no-fault (in_record n bs) l ps = sym (append-nil (map packet ps))

pub first-fault : (bs : List ℕ) → (ps : List Packet) × ((reads fresh bs).0 ≡ map packet ps ++ fault_of (reads fresh bs).1)
first-fault bs = go (first bs)
  where
    Found : List Told × Reading → Type 0
    Found r = (ps : List Packet) × (r.0 ≡ map packet ps ++ fault_of r.1)

    late : {r : List Told × Reading} → Answered r → Found r
    late {r} (well ps s l e) = subst Found (sym e) (ps, no-fault s l ps)
    late {r} (ill ps n i j e) = subst Found (sym e) (ps, refl)

    go : Begun 0 header bs → Found (reads fresh bs)
    go (right rest f e) = subst Found (sym e) (late (later rest (in_head []) tt))
    go (wrong w e) = subst Found (sym e) ([], refl)
    go (short w j e) = subst Found (sym e) ([], refl)

-- ---- 60
late-end : {r : List Told × Reading} → Answered r → ends r.1 ≡ 60 → ⊥
late-end {r} (well ps s l e) q = go s l (ap (λ (x : List Told × Reading). ends x.1) (sym e) ∙ q)
  where
    go : (s : Reading) → Late s → ends s ≡ 60 → ⊥
    go (in_header k) l z = l
    go (behind n) l z = l
    go (in_head []) l z = omega (arith, z)
    go (in_head (b ∷ h)) l z = omega (arith, z)
    go (in_record n bs) l z = omega (arith, z)
late-end {r} (ill ps n i j e) q = omega (arith, i, ap (λ (x : List Told × Reading). ends x.1) (sym e) ∙ q)

pub sixty-exactly : (bs : List ℕ) → ((imported bs).1 ≡ 60) ↔ (take 24 bs ≡ header → ⊥)
sixty-exactly bs = go (first bs)
  where
    go : Begun 0 header bs → ((imported bs).1 ≡ 60) ↔ (take 24 bs ≡ header → ⊥)
    go (right rest f e) = (
      (λ q. absurd (late-end (later rest (in_head []) tt) (ap (λ (x : List Told × Reading). ends x.1) (sym e) ∙ q))),
      (λ w. absurd (w (ap (take 24) f))),
    )
    go (wrong w e) = ((λ q. w), (λ q. ap (λ (x : List Told × Reading). ends x.1) e))
    go (short w j e) = ((λ q. w), (λ q. ap (λ (x : List Told × Reading). ends x.1) e))
