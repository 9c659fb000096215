-- Bids in order: where each port's sequence numbers rise by one, each packet is shown as a bid.
-- Ready, ready-step   each port's numbers go on from its last one; behind a packet they still do, and the packet is current
-- all-current         such packets, for everybody, are all current
-- bids-in-order       .. and so the bids among the lines are theirs, once each, in order
-- Follows, InTurn     a port's numbers behind its last one; what a packet in order is to its port
-- ready-fresh, own, other   from a fresh table; numbers of the packet's own port, and of another
-- open-shown, delivered-packets   one for everybody is shown; the packets among those delivered are they
use Prim.Native.Nat.{ℕ, ◌+◌, ◌%◌, ◌≤◌, ◌<◌}
use native.Mathlib.Omega.{arith}
use mathlib.Core.Path.{◌≡◌, refl, sym, ◌∙◌, ap, subst}
use mathlib.Core.Logic.{◌⊎◌, ◌≢◌, inl, inr}
use mathlib.Core.Bool.{Bool, true, false}
use mathlib.Core.List.{List, [], ◌∷◌, ◌++◌, map}
use mathlib.Core.Option.{Option, some, none}
use lib.Dec.{eqb}
use lib.ListN.{length}
use borrow.Author.Tests.{eq-eqb, ne_eqb}
use Rattle.base.specs.Bytes.{Each}
use Rattle.base.specs.Choice.{pick}
use Rattle.base.proofs.Tests.{by-eq, by_le}
use Rattle.packet_spec.specs.Contents.{Packet, plain_format, key_format}
use Rattle.packet_spec.specs.Frame.{Told}
use Rattle.stream.specs.Sender.{delivered}
use Rattle.channel_spec.specs.Meaning.{Event, frames}
use Rattle.ports_spec.specs.declared.Entry.{Entry}
use Rattle.ports_spec.specs.declared.Noted.{Noted}
use Rattle.ports_spec.specs.declared.Noted.TheVariants.{First, InOrder, Refused}
use Rattle.ports_spec.specs.Distance.{around, gap, ruled, last_behind}
use Rattle.ports_spec.specs.Ports.{free_place, last_of, unfit, noting, fresh_table}
use Rattle.ports_spec.proofs.Laws.{others-noted, noted-last, noted-first, noted-full, first-last, fresh-fit, fresh-none}
use Rattle.ports_spec.proofs.Keeping.{fit-noted}
use Rattle.board_spec.specs.Meaning.{board_lines}
use Rattle.board_spec.specs.Typed.{bids_among, packets_among, as_bid, is_current, is_shown, current_from, numbers_of, ByOne}
use Rattle.board_spec.proofs.Marks.{bids-current}
use Rattle.board_spec.proofs.Typed.{IsOpen}

-- ---- a port's numbers behind its last one
abbrev pub Follows : Option ℕ → List ℕ → Type 0
Follows none ss = ByOne ss
Follows (some l) ss = (l < around) × ByOne (l ∷ ss)

-- of every port
abbrev pub Ready : List Entry → List Packet → Type 0
Ready t ps = (q : ℕ) → Follows (last_of q t) (numbers_of q ps)

-- from a fresh table
pub ready-fresh : (ps : List Packet) → ((q : ℕ) → ByOne (numbers_of q ps)) → Ready fresh_table ps
ready-fresh ps r q = subst (λ (o : Option ℕ). Follows o (numbers_of q ps)) (sym (fresh-none q)) (r q)

tail : (s : ℕ) (ss : List ℕ) → ByOne (s ∷ ss) → ByOne ss
tail s [] h = tt
tail s (r ∷ ss) h = h.1

pub own : (p : Packet) (ps : List Packet) → numbers_of p.port (p ∷ ps) ≡ p.sequence ∷ numbers_of p.port ps
unfolding numbers_of
own p ps = rw (eq-eqb p.port p.port refl) refl

pub other : (q : ℕ) (p : Packet) (ps : List Packet) → p.port ≢ q → numbers_of q (p ∷ ps) ≡ numbers_of q ps
unfolding numbers_of
other q p ps n = rw (ne_eqb p.port q n) refl

next-rules : (l s : ℕ) → l < around → s ≡ (l + 1) % around → (ruled l s ≡ InOrder) × (last_behind l s ≡ s)
next-rules l s h e = let g : gap l s ≡ 1 = omega arith in (rw g refl, rw g refl)

-- what a packet in order is to its port: the first, the next, or of a new port that finds no place
abbrev pub InTurn : List Entry → Packet → Noted → Type 0
InTurn t p v = (v ≡ First) ⊎ ((v ≡ InOrder) ⊎ ((v ≡ Refused 40) × (last_of p.port t ≡ none) × (length t ≤ free_place t)))

module _ (t : List Entry) (fit : unfit t ≡ false) (p : Packet) (ps : List Packet) (low : p.sequence < around) where
  abbrev now : Noted
  now = (noting t p.port p.sequence).0

  abbrev after : List Entry
  after = (noting t p.port p.sequence).1

  abbrev still : Option ℕ → Type 0
  still o = Follows o (numbers_of p.port ps)

  -- the packet's own port: the numbers behind it go on from it
  own-step : (o : Option ℕ) → last_of p.port t ≡ o → Follows o (p.sequence ∷ numbers_of p.port ps)
      → InTurn t p now × still (last_of p.port after)
  own-step (some l) e f =
      let r = next-rules l p.sequence f.0 f.1.0 in
      let n = noted-last t p.port p.sequence l fit e in
      (inr (inl (n.0 ∙ r.0)), subst still (sym (n.1 ∙ ap some r.1)) (low, f.1.1))
  own-step none e f =
      by_le (length t) (free_place t)
      (λ k.
      let n = noted-full t p.port p.sequence fit e k in (
        inr (inr (ap (λ (x : Noted × List Entry). x.0) n, e, k)),
        subst still (sym (ap (λ (x : Noted × List Entry). last_of p.port x.1) n ∙ e)) (tail p.sequence (numbers_of p.port ps) f),
      ))
      (λ k. (
        inl (ap (λ (x : Noted × List Entry). x.0) (noted-first t p.port p.sequence fit e k)),
        subst still (sym (first-last t p.port p.sequence fit e k)) (low, f),
      ))

  -- every port: the packet is in turn, and those behind it stay in order
  pub ready-step : Ready t (p ∷ ps) → InTurn t p now × Ready after ps
  ready-step r =
      let o = own-step (last_of p.port t) refl (subst (Follows (last_of p.port t)) (own p ps) (r p.port)) in (
        o.0,
        λ q.
            by-eq p.port q (λ e. subst (λ (x : ℕ). Follows (last_of x after) (numbers_of x ps)) e o.1)
            (λ n.
            subst (λ (x : Option ℕ). Follows x (numbers_of q ps)) (sym (others-noted t p.port p.sequence q n))
            (subst (Follows (last_of q t)) (other q p ps n) (r q))),
      )

turn-current : (t : List Entry) (p : Packet) (v : Noted) → InTurn t p v → is_current v ≡ true
turn-current t p v (inl e) = ap is_current e
turn-current t p v (inr (inl e)) = ap is_current e
turn-current t p v (inr (inr e)) = ap is_current e.0

-- for everybody: it is shown
pub open-shown : (v : Noted) (p : Packet) → p.format ≡ plain_format → is_shown v p ≡ is_current v
open-shown v p e = ap (λ (n : ℕ). pick (eqb n key_format) false (is_current v)) e

-- all are current
pub all-current : (ps : List Packet) (t : List Entry) → unfit t ≡ false → Each IsOpen ps → Ready t ps → current_from t ps ≡ ps
unfolding current_from
all-current [] t f a r = refl
all-current (p ∷ ps) t f a r =
    let v : Noted = (noting t p.port p.sequence).0 in
    let u : List Entry = (noting t p.port p.sequence).1 in
    let s = ready-step t f p ps a.0.low r in
    let e : is_shown v p ≡ true = open-shown v p a.0.format ∙ turn-current t p v s.0 in
    let rest = all-current ps u (fit-noted t p.port p.sequence f) a.1 s.1 in
    λ i. pick (e i) (p ∷ []) [] ++ rest i

-- the packets among those delivered are they
pub delivered-packets : (ps : List Packet) → packets_among (map delivered ps) ≡ ps
unfolding packets_among
delivered-packets [] = refl
delivered-packets (p ∷ ps) = ap (λ (x : List Packet). p ∷ x) (delivered-packets ps)

-- each port's numbers rise by one: the bids among the lines are the packets', once each, in order
pub bids-in-order : (b : Bool) (es : List Event) (ps : List Packet) → frames es ≡ map delivered ps → Each IsOpen ps → ((q : ℕ) → ByOne (numbers_of q ps))
    → bids_among (board_lines b fresh_table es) ≡ map as_bid ps
bids-in-order b es ps e a r =
    bids-current b es fresh_table ∙ ap (λ (ts : List Told). map as_bid (current_from fresh_table (packets_among ts))) e
    ∙ ap (λ (qs : List Packet). map as_bid (current_from fresh_table qs)) (delivered-packets ps)
    ∙ ap (map as_bid) (all-current ps fresh_table fresh-fit a (ready-fresh ps r))
