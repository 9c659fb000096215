-- What the office typed on the ports inside a range, and its packets.
-- bids-inside      the packets inside, written as bids: the accepted lines of the ports inside, as they are shown ..
-- typed-inside     .. and where those were typed plainly, as they were typed
-- each-inside      what is so of each packet is so of each inside
-- rising_inside    the numbers of each port inside rise by one: so they do among the packets inside
-- packets-every, lines-every   inside the range of all is every packet, and every line, of the office
use Prim.Native.Nat.{ℕ, ◌<◌}
use native.Mathlib.Omega.{arith}
use mathlib.Core.Path.{◌≡◌, refl, sym, ◌∙◌, ap, subst}
use mathlib.Core.Logic.{◌≢◌}
use mathlib.Core.Bool.{Bool, true, false, not, true≢false, false≢true}
use mathlib.Core.List.{List, [], ◌∷◌, ◌++◌, map}
use lib.Dec.{eqb}
use Rattle.base.specs.Bytes.{Each}
use Rattle.base.specs.Choice.{pick}
use Rattle.base.proofs.Tests.{by-test}
use Rattle.packet_spec.specs.Contents.{Packet}
use Rattle.bid.specs.Line.{port, Verdict, no_bid, refused, accepted, verdict}
use Rattle.bid.specs.Input.{lines_of, packets, packets_of}
use Rattle.bid.proofs.Verdicts.{accepted-bid}
use Rattle.ports_spec.specs.declared.Range.{Range}
use Rattle.ports_spec.specs.Range.{every_port, inside}
use Rattle.ports_spec.proofs.Every.{inside-every}
use Rattle.board_spec.specs.Meaning.{written, written_all}
use Rattle.board_spec.specs.Typed.{is_accepted, accepting, accepted_lines, lines_in, typed, as_shown, Plainly, packets_in, as_bid, numbers_of, ByOne}
use Rattle.board_spec.proofs.Typed.{IsAccepted, accepting-each, plain-typed}
use Rattle.board_spec.proofs.Ordered.{other}

module _ (r : Range) where
  -- ---- the accepted lines of the ports inside, as they are shown
  from-inside : (ls : List (List ℕ)) → written_all (map as_bid (packets_in r (packets (map verdict ls)))) ≡ as_shown (lines_in r (accepting ls))
  unfolding written_all written packets packets_in lines_in accepting as_shown
  from-inside [] = refl
  from-inside (l ∷ ls) = go (verdict l) refl (from-inside ls)
    where
      kept : (t : Bool) (p : Packet) → verdict l ≡ accepted p
          → written_all (map as_bid (packets_in r (packets (map verdict ls)))) ≡ as_shown (lines_in r (accepting ls))
          → written_all (map as_bid (pick t (p ∷ packets_in r (packets (map verdict ls))) (packets_in r (packets (map verdict ls)))))
          ≡ as_shown (pick t (l ∷ lines_in r (accepting ls)) (lines_in r (accepting ls)))
      kept true p e h = λ i. written (as_bid (sym (accepted-bid l p e).is i)) ++ h i
      kept false p e h = h

      go : (v : Verdict) → verdict l ≡ v → written_all (map as_bid (packets_in r (packets (map verdict ls)))) ≡ as_shown (lines_in r (accepting ls))
          → written_all (map as_bid (packets_in r (packets (v ∷ map verdict ls)))) ≡ as_shown
          (lines_in r (pick (is_accepted v) (l ∷ accepting ls) (accepting ls)))
      go no_bid e h = h
      go (refused n) e h = h
      go (accepted p) e h =
          ap (λ (t : Bool). written_all (map as_bid (pick t (p ∷ packets_in r (packets (map verdict ls))) (packets_in r (packets (map verdict ls))))))
          (sym (ap (λ (q : Packet). inside r q.port) (accepted-bid l p e).is))
          ∙ kept (inside r (port l)) p e h

  pub bids-inside : (input : List ℕ) → written_all (map as_bid (packets_in r (packets_of input))) ≡ as_shown (lines_in r (accepted_lines input))
  bids-inside input = from-inside (lines_of input)

  lines-each : (P : List ℕ → Type 0) (ls : List (List ℕ)) → Each P ls → Each P (lines_in r ls)
  unfolding lines_in
  lines-each P [] h = tt
  lines-each P (l ∷ ls) h = go (inside r (port l)) (lines-each P ls h.1)
    where
      go : (t : Bool) → Each P (lines_in r ls) → Each P (pick t (l ∷ lines_in r ls) (lines_in r ls))
      go true k = (h.0, k)
      go false k = k

  pub typed-inside : (input : List ℕ) → Each Plainly (lines_in r (accepted_lines input))
      → as_shown (lines_in r (accepted_lines input)) ≡ typed (lines_in r (accepted_lines input))
  typed-inside input plain = plain-typed (lines_in r (accepted_lines input)) (lines-each IsAccepted (accepted_lines input) (accepting-each input)) plain

  -- ---- packets inside
  pub each-inside : (P : Packet → Type 0) (ps : List Packet) → Each P ps → Each P (packets_in r ps)
  unfolding packets_in
  each-inside P [] h = tt
  each-inside P (p ∷ ps) h = go (inside r p.port) (each-inside P ps h.1)
    where
      go : (t : Bool) → Each P (packets_in r ps) → Each P (pick t (p ∷ packets_in r ps) (packets_in r ps))
      go true k = (h.0, k)
      go false k = k

  -- a port inside has all its numbers ..
  first-left : (p : Packet) (ps : List Packet) → inside r p.port ≡ true → packets_in r (p ∷ ps) ≡ p ∷ packets_in r ps
  unfolding packets_in
  first-left p ps e = rw e refl

  first-gone : (p : Packet) (ps : List Packet) → inside r p.port ≡ false → packets_in r (p ∷ ps) ≡ packets_in r ps
  unfolding packets_in
  first-gone p ps e = rw e refl

  apart : (p : Packet) (q : ℕ) (t : Bool) → inside r q ≡ t → inside r p.port ≡ not t → p.port ≢ q
  apart p q true e f g = false≢true (sym f ∙ ap (inside r) g ∙ e)
  apart p q false e f g = true≢false (sym f ∙ ap (inside r) g ∙ e)

  numbers-inside : (q : ℕ) → inside r q ≡ true → (ps : List Packet) → numbers_of q (packets_in r ps) ≡ numbers_of q ps
  unfolding packets_in numbers_of
  numbers-inside q h [] = refl
  numbers-inside q h (p ∷ ps) =
      by-test (inside r p.port)
      (λ e. ap (numbers_of q) (first-left p ps e) ∙ ap (λ (ss : List ℕ). pick (eqb p.port q) (p.sequence ∷ []) [] ++ ss) (numbers-inside q h ps))
      (λ e. ap (numbers_of q) (first-gone p ps e) ∙ numbers-inside q h ps ∙ sym (other q p ps (apart p q true h e)))

  -- .. any other none
  numbers-outside : (q : ℕ) → inside r q ≡ false → (ps : List Packet) → numbers_of q (packets_in r ps) ≡ []
  unfolding packets_in numbers_of
  numbers-outside q h [] = refl
  numbers-outside q h (p ∷ ps) =
      by-test (inside r p.port)
      (λ e. ap (numbers_of q) (first-left p ps e) ∙ other q p (packets_in r ps) (apart p q false h e) ∙ numbers-outside q h ps)
      (λ e. ap (numbers_of q) (first-gone p ps e) ∙ numbers-outside q h ps)

  pub rising_inside : (ps : List Packet) → ((q : ℕ) → inside r q ≡ true → ByOne (numbers_of q ps)) → (q : ℕ) → ByOne (numbers_of q (packets_in r ps))
  rising_inside ps rising q =
      by-test (inside r q)
      (λ e. subst ByOne (sym (numbers-inside q e ps)) (rising q e))
      (λ e. subst ByOne (sym (numbers-outside q e ps)) tt)

-- ---- the range of all
pub packets-every : (ps : List Packet) → Each (λ (p : Packet). p.port < 65536) ps → packets_in every_port ps ≡ ps
unfolding packets_in
packets-every [] h = refl
packets-every (p ∷ ps) h =
    first-left every_port p ps (inside-every p.port (omega (arith, h.0))) ∙ ap (λ (x : List Packet). p ∷ x) (packets-every ps h.1)

pub lines-every : (ls : List (List ℕ)) → Each IsAccepted ls → lines_in every_port ls ≡ ls
unfolding lines_in
lines-every [] h = refl
lines-every (l ∷ ls) h =
    let f = (accepted-bid l h.0.0 h.0.1).port_fits in
    rw (inside-every (port l) (omega (arith, f))) (ap (λ (x : List (List ℕ)). l ∷ x) (lines-every ls h.1))
