-- Sixteen ports: where the packets have no more ports than the table has places, the table is never full, and nothing but bids is shown.
-- quiet       answers without a lost lock and without a block beyond repair are shown as their frames alone, where blocks are not to be told
-- pigeon      different members of a list are no more than it has
-- has-place   a new port finds a free place
-- only-bids   packets in order are shown as their bids, and nothing else is
-- Good, Within  blocks clean or repaired and no lock lost; a table that holds no port but these
-- noted-length  a packet noted leaves the table's length
use Prim.Native.Nat.{ℕ, suc, ◌≤◌, ◌<◌}
use native.Mathlib.Omega.{arith}
use mathlib.Core.Path.{◌≡◌, refl, sym, ◌∙◌, ap, subst}
use mathlib.Core.Logic.{◌≢◌, inl, inr}
use mathlib.Core.Bool.{Bool, true, false, ◌&&◌}
use mathlib.Core.List.{List, [], ◌∷◌, ◌++◌, map}
use mathlib.Core.Option.{none}
use lib.Dec.{eqb, ltb}
use lib.ListN.{length, length-set}
use borrow.Author.Tests.{eq-eqb, ne_eqb}
use Rattle.base.specs.Bytes.{Each}
use Rattle.base.specs.Choice.{pick}
use Rattle.base.proofs.Tests.{by-eq, or_right}
use Rattle.packet_spec.specs.Contents.{Packet, plain_format, key_format}
use Rattle.packet_spec.specs.Frame.{Told, packet, refusal, broken}
use Rattle.stream.specs.Sender.{delivered}
use Rattle.channel_spec.specs.Meaning.{Event, said, block, lost, frames, blocks, losses}
use Rattle.channel_spec.specs.declared.Condition.{Condition}
use Rattle.channel_spec.specs.declared.Condition.TheVariants.{Clean, Repaired, Beyond}
use Rattle.ports_spec.specs.declared.Entry.{Entry}
use Rattle.ports_spec.specs.declared.Noted.{Noted}
use Rattle.ports_spec.specs.declared.Noted.TheVariants.{First, InOrder}
use Rattle.ports_spec.specs.Distance.{last_behind}
use Rattle.ports_spec.specs.Ports.{place_limit, place_of, free_place, last_of, twice, unfit, entry, last_at, noting, fresh_table}
use Rattle.ports_spec.proofs.Laws.{noting-ways, others-noted, away-by, once, fresh-fit, fresh-none}
use Rattle.ports_spec.proofs.Keeping.{fit-noted}
use Rattle.board_spec.specs.Meaning.{Line, packet_lines, refused_frame, broken_frame, board_lines}
use Rattle.board_spec.specs.Typed.{as_bid, numbers_of, ByOne, Member, Among}
use Rattle.board_spec.proofs.Marks.{plain_lines}
use Rattle.board_spec.proofs.Typed.{IsOpen}
use Rattle.board_spec.proofs.Ordered.{Ready, InTurn, ready-fresh, ready-step}

-- ---- blocks clean or repaired, and no lock lost
abbrev pub Good : Condition → Type 0
Good Clean = Unit {0}
Good (Repaired n) = Unit {0}
Good Beyond = ⊥

pub quiet : (es : List Event) (t : List Entry) → losses es ≡ 0 → Each Good (blocks es) → board_lines false t es ≡ board_lines false t (map said (frames es))
unfolding board_lines
quiet [] t h g = refl
quiet (said (packet p) ∷ es) t h g =
    ap (λ (ls : List Line). packet_lines (noting t p.port p.sequence).0 p ++ ls) (quiet es (noting t p.port p.sequence).1 h g)
quiet (said (refusal n) ∷ es) t h g = ap (λ (ls : List Line). refused_frame n ∷ ls) (quiet es t h g)
quiet (said (broken n) ∷ es) t h g = ap (λ (ls : List Line). broken_frame n ∷ ls) (quiet es t h g)
quiet (block Clean ∷ es) t h g = quiet es t h g.1
quiet (block (Repaired n) ∷ es) t h g = quiet es t h g.1
quiet (block Beyond ∷ es) t h g = absurd g.0
quiet (lost ∷ es) t h g = absurd (omega arith)

-- ---- different members of a list are no more than it has
abbrev Distinct : List ℕ → Type 0
Distinct [] = Unit {0}
Distinct (x ∷ xs) = (Member x xs → ⊥) × Distinct xs

unfoldable without : ℕ → List ℕ → List ℕ
without x [] = []
without x (y ∷ ys) = pick (eqb x y) ys (y ∷ without x ys)

without-length : (qs : List ℕ) (x : ℕ) → Member x qs → length qs ≡ suc (length (without x qs))
unfolding without
without-length [] x m = absurd m
without-length (y ∷ ys) x (inl e) = rw (eq-eqb x y e) refl
without-length (y ∷ ys) x (inr m) = by-eq x y (λ e. rw (eq-eqb x y e) refl) (λ n. rw (ne_eqb x y n) (ap suc (without-length ys x m)))

without-member : (qs : List ℕ) (x z : ℕ) → z ≢ x → Member z qs → Member z (without x qs)
unfolding without
without-member [] x z n m = absurd m
without-member (y ∷ ys) x z n (inl e) = rw (ne_eqb x y (λ f. n (e ∙ sym f))) (inl e)
without-member (y ∷ ys) x z n (inr m) = by-eq x y (λ e. rw (eq-eqb x y e) m) (λ d. rw (ne_eqb x y d) (inr (without-member ys x z n m)))

pigeon : (xs qs : List ℕ) → Distinct xs → ((x : ℕ) → Member x xs → Member x qs) → length xs ≤ length qs
pigeon [] qs d s = omega arith
pigeon (x ∷ xs) qs d s =
    let l = without-length qs x (s x (inl refl)) in
    let r = pigeon xs (without x qs) d.1 (λ z k. without-member qs x z (λ e. d.0 (subst (λ (y : ℕ). Member y xs) e k)) (s z (inr k))) in
    omega arith

-- ---- the ports that a table holds
unfoldable held_ports : List Entry → List ℕ
held_ports [] = []
held_ports (e ∷ es) = pick e.held (e.port ∷ held_ports es) (held_ports es)

-- one of them has a place
held_place : (t : List Entry) (q : ℕ) → Member q (held_ports t) → place_of q t < length t
unfolding held_ports place_of
held_place [] q m = absurd m
held_place (x ∷ t) q m = go x.held (held_place t q) m
  where
    go : (h : Bool) → (Member q (held_ports t) → place_of q t < length t) → Member q (pick h (x.port ∷ held_ports t) (held_ports t))
        → pick (h && eqb x.port q) 0 (suc (place_of q t)) < suc (length t)
    go false r m = omega (arith, r m)
    go true r (inl e) = rw (eq-eqb x.port q (sym e)) (omega arith)
    go true r (inr m) = by-eq x.port q (λ e. rw (eq-eqb x.port q e) (omega arith)) (λ n. rw (ne_eqb x.port q n) (omega (arith, r m)))

-- .. and so a last number
held-last : (t : List Entry) (q : ℕ) → Member q (held_ports t) → last_of q t ≡ none → ⊥
held-last t q m e = omega (arith, held_place t q m, away-by t q e)

-- no port is held twice
held-distinct : (t : List Entry) → twice t ≡ false → Distinct (held_ports t)
unfolding held_ports twice
held-distinct [] f = tt
held-distinct (x ∷ t) f =
    go x.held (held-distinct t (or_right (x.held && ltb (place_of x.port t) (length t)) (twice t) f)) (once x t f)
  where
    go : (h : Bool) → Distinct (held_ports t) → (h ≡ true → last_of x.port t ≡ none) → Distinct (pick h (x.port ∷ held_ports t) (held_ports t))
    go false r o = r
    go true r o = ((λ m. held-last t x.port m (o refl)), r)

-- without a free place every place is held
held_all : (t : List Entry) → length t ≤ free_place t → length (held_ports t) ≡ length t
unfolding held_ports free_place
held_all [] h = refl
held_all (x ∷ t) h = go x.held (held_all t) h
  where
    go : (b : Bool) → (length t ≤ free_place t → length (held_ports t) ≡ length t) → suc (length t) ≤ pick b (suc (free_place t)) 0
        → length (pick b (x.port ∷ held_ports t) (held_ports t)) ≡ suc (length t)
    go true r h = ap suc (r (omega arith))
    go false r h = absurd (omega arith)

-- the table holds no port but these
abbrev pub Within : List ℕ → List Entry → Type 0
Within qs t = (q : ℕ) → (last_of q t ≡ none → ⊥) → Member q qs

-- of no more ports than the table has places a new one finds a free place
pub has-place : (t : List Entry) (qs : List ℕ) (port : ℕ) → unfit t ≡ false → length qs ≤ length t → Within qs t → Member port qs
    → last_of port t ≡ none → length t ≤ free_place t → ⊥
has-place t qs port f l w m e k =
    let d : Distinct (port ∷ held_ports t) = ((λ n. held-last t port n e), held-distinct t (or_right (ltb place_limit (length t)) (twice t) f)) in
    omega (arith, pigeon (port ∷ held_ports t) qs d each, held_all t k)
  where
    each : (x : ℕ) → Member x (port ∷ held_ports t) → Member x qs
    each x (inl g) = subst (λ (y : ℕ). Member y qs) (sym g) m
    each x (inr g) = w x (held-last t x g)

pub noted-length : (t : List Entry) (port sequence : ℕ) → length (noting t port sequence).1 ≡ length t
noted-length t port sequence =
    noting-ways t port sequence (λ x. length x.1 ≡ length t) refl
    (λ h. length-set t (place_of port t) (entry port (last_behind (last_at t port) sequence))) (λ h k. length-set t (free_place t) (entry port sequence)) refl

-- ---- packets in order
module _ (t : List Entry) (p : Packet) (room : last_of p.port t ≡ none → length t ≤ free_place t → ⊥) (plain : p.format ≡ plain_format) where
  other : p.format ≢ key_format
  other e = omega arith

  in-turn : (v : Noted) → InTurn t p v → packet_lines v p ≡ as_bid p ∷ []
  in-turn v (inl e) = ap (λ (x : Noted). packet_lines x p) e ∙ plain_lines First p other
  in-turn v (inr (inl e)) = ap (λ (x : Noted). packet_lines x p) e ∙ plain_lines InOrder p other
  in-turn v (inr (inr e)) = absurd (room e.1 e.2)

module _ (qs : List ℕ) (few : length qs ≤ place_limit) where
  only-from : (ps : List Packet) (t : List Entry) → unfit t ≡ false → length t ≡ place_limit → Within qs t → Each IsOpen ps → Among qs ps → Ready t ps
      → board_lines false t (map said (map delivered ps)) ≡ map as_bid ps
  unfolding board_lines
  only-from [] t f l w a m r = refl
  only-from (p ∷ ps) t f l w a m r =
      let s = ready-step t f p ps a.0.low r in
      let u : List Entry = (noting t p.port p.sequence).1 in
      let within : Within qs u =
      λ q n.
      by-eq p.port q (λ e. subst (λ (x : ℕ). Member x qs) e m.0)
      (λ d. w q (λ z. n (others-noted t p.port p.sequence q d ∙ z))) in
      let rest = only-from ps u (fit-noted t p.port p.sequence f) (noted-length t p.port p.sequence ∙ l) within a.1 m.1 s.1 in
      λ i.
      in-turn t p (has-place t qs p.port f (omega arith) w m.0) a.0.format (noting t p.port p.sequence).0 s.0 i ++ rest i

  -- packets in order, of at most 16 ports, are shown as their bids, and nothing else is
  pub only-bids : (es : List Event) (ps : List Packet) → frames es ≡ map delivered ps → Each Good (blocks es) → losses es ≡ 0
      → Each IsOpen ps → Among qs ps → ((q : ℕ) → ByOne (numbers_of q ps)) → board_lines false fresh_table es ≡ map as_bid ps
  only-bids es ps e good kept a m r =
      quiet es fresh_table kept good ∙ ap (λ (ts : List Told). board_lines false fresh_table (map said ts)) e
      ∙ only-from ps fresh_table fresh-fit refl (λ q n. absurd (n (fresh-none q))) a m (ready-fresh ps r)
