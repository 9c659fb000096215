-- What is no bid is never shown as one, and what is missing is told.
-- old-marked          an older price never passes for the current one: a late or repeated packet has no bid among its lines
-- gap-told            behind a gap the count of what is missing stands directly before the bid
-- full-told           where the table is full the bid is shown, and that its port is not watched stands before it
-- restricted-untold   of a packet for subscribers no bid is shown, and nothing of its key and its payload
-- current-bid         the bids among a packet's lines: its own, where it is neither late nor repeated and everybody may read it; else none
-- bids-current        so of all answers: the bids among their lines are those of such packets, in order, and no others
-- blocks-apart        the same whether clean and repaired blocks are told or not
-- Older               a distance of none, or back
-- plain_lines         a packet for everybody is shown as one of format 0x21
-- SameBut             packets alike but for key and payload
use Prim.Native.Nat.{ℕ, zero, suc, ◌≤◌, ◌<◌}
use mathlib.Core.Path.{◌≡◌, refl, sym, ◌∙◌, ap}
use mathlib.Core.Logic.{◌≢◌}
use mathlib.Core.Bool.{Bool, true, false}
use mathlib.Core.List.{List, [], ◌∷◌, ◌++◌, map}
use mathlib.Core.Option.{some, none}
use lib.ListN.{length}
use borrow.Author.Tests.{eq-eqb, ne_eqb}
use Rattle.base.specs.Choice.{pick}
use Rattle.base.proofs.Tests.{by-eq}
use Rattle.packet_spec.specs.Contents.{Packet, plain_format, key_format, packet_of, key_packet}
use Rattle.packet_spec.specs.Frame.{packet, refusal, broken}
use Rattle.channel_spec.specs.Meaning.{Event, said, block, lost, frames}
use Rattle.channel_spec.specs.declared.Condition.{Condition}
use Rattle.channel_spec.specs.declared.Condition.TheVariants.{Clean, Repaired, Beyond}
use Rattle.ports_spec.specs.declared.Entry.{Entry}
use Rattle.ports_spec.specs.declared.Noted.{Noted}
use Rattle.ports_spec.specs.declared.Noted.TheVariants.{First, InOrder, Repeated, Missing, Late, Refused}
use Rattle.ports_spec.specs.Distance.{around, Distance, ahead, behind, Leads, meaning}
use Rattle.ports_spec.specs.Ports.{free_place, last_of, unfit, noting}
use Rattle.ports_spec.proofs.Laws.{noted-last, noted-full}
use Rattle.ports_spec.proofs.Signed.{rule-means}
use Rattle.board_spec.specs.Meaning.{Line, missing, unwatched, packet_lines, block_lines, event_lines, board_lines}
use Rattle.board_spec.specs.Typed.{is_bid, bids_among, packets_among, as_bid, is_current, is_shown, current_from}

-- a distance of none, or back
abbrev pub Older : Distance → Type 0
Older (ahead zero) = Unit {0}
Older (ahead (suc n)) = ⊥
Older (behind n) = Unit {0}

-- ---- by the packet's format: for subscribers, or else as for everybody
abbrev with_format : ℕ → Packet → Packet
with_format f p = packet_of f p.number p.key p.port p.sequence p.payload

module _ (v : Noted) (p : Packet) where
  key-lines : p.format ≡ key_format → packet_lines v p ≡ packet_lines v (with_format key_format p)
  key-lines e = ap (λ (n : ℕ). packet_lines v (with_format n p)) e

  pub plain_lines : p.format ≢ key_format → packet_lines v p ≡ packet_lines v (with_format plain_format p)
  plain_lines n = rw (ne_eqb p.format key_format n) refl

  either : {ls : List Line} → bids_among (packet_lines v (with_format key_format p)) ≡ ls → bids_among (packet_lines v (with_format plain_format p)) ≡ ls
      → bids_among (packet_lines v p) ≡ ls
  either k o = by-eq p.format key_format (λ e. ap bids_among (key-lines e) ∙ k) (λ n. ap bids_among (plain_lines n) ∙ o)

-- ---- a packet of a port that is held: by the signed distance from the port's last number
module _ (b : Bool) (t : List Entry) (p : Packet) (l : ℕ) (fit : unfit t ≡ false) (last : last_of p.port t ≡ some l)
    (low : l < around) (fits : p.sequence < around) where
  by-distance : (d : Distance) → Leads l p.sequence d → event_lines b t (said (packet p)) ≡ packet_lines (meaning d) p
  by-distance d leads =
      ap (λ (v : Noted). packet_lines v p) ((noted-last t p.port p.sequence l fit last).0 ∙ (rule-means l p.sequence d low fits leads).0)

  -- an older price never passes for the current one
  pub old-marked : (d : Distance) → Leads l p.sequence d → Older d → bids_among (event_lines b t (said (packet p))) ≡ []
  unfolding bids_among
  old-marked (ahead zero) leads old = ap bids_among (by-distance (ahead zero) leads) ∙ either Repeated p refl refl
  old-marked (ahead (suc n)) leads old = absurd old
  old-marked (behind n) leads old = ap bids_among (by-distance (behind n) leads) ∙ either Late p refl refl

  -- behind a gap the count of what is missing stands directly before the bid
  pub gap-told : (n : ℕ) → Leads l p.sequence (ahead (suc (suc n))) → p.format ≢ key_format
      → event_lines b t (said (packet p)) ≡ missing p.port (suc n) ∷ as_bid p ∷ []
  gap-told n leads other = by-distance (ahead (suc (suc n))) leads ∙ plain_lines (Missing (suc n)) p other

-- ---- a packet of a new port that finds no place
pub full-told : (b : Bool) (t : List Entry) (p : Packet) → unfit t ≡ false → last_of p.port t ≡ none → length t ≤ free_place t → p.format ≢ key_format
    → event_lines b t (said (packet p)) ≡ unwatched p.port ∷ as_bid p ∷ []
full-told b t p fit new full other =
    ap (λ (x : Noted × List Entry). packet_lines x.0 p) (noted-full t p.port p.sequence fit new full) ∙ plain_lines (Refused 40) p other

-- ---- a packet for subscribers: no bid ..
key-bids : (v : Noted) (p : Packet) → bids_among (packet_lines v (with_format key_format p)) ≡ []
unfolding bids_among
key-bids First p = refl
key-bids InOrder p = refl
key-bids Repeated p = refl
key-bids (Missing n) p = refl
key-bids Late p = refl
key-bids (Refused n) p = refl

-- .. and its lines are those of any packet of the same key number, port and sequence, whatever its key and its payload
abbrev pub SameBut : Packet → Packet → Type 0
SameBut p q = (p.format ≡ q.format) × (p.number ≡ q.number) × (p.port ≡ q.port) × (p.sequence ≡ q.sequence)

pub restricted-untold : (b : Bool) (t : List Entry) (p : Packet) → p.format ≡ key_format
    → (bids_among (event_lines b t (said (packet p))) ≡ [])
    × ((q : Packet) → SameBut p q → event_lines b t (said (packet p)) ≡ event_lines b t (said (packet q)))
restricted-untold b t p e = (
  ap bids_among (key-lines (noting t p.port p.sequence).0 p e) ∙ key-bids (noting t p.port p.sequence).0 p,
  λ q same.
      key-lines (noting t p.port p.sequence).0 p e
      ∙ (λ i. packet_lines (noting t (same.2 i) (same.3 i)).0 (key_packet (same.1 i) p.key (same.2 i) (same.3 i) p.payload))
      ∙ sym (key-lines (noting t q.port q.sequence).0 q (sym same.0 ∙ e)),
)

-- ---- a packet for everybody: its bid, where it is neither late nor repeated
plain-bid : (v : Noted) (p : Packet) → bids_among (packet_lines v (with_format plain_format p)) ≡ map as_bid (pick (is_current v) (p ∷ []) [])
unfolding bids_among
plain-bid First p = refl
plain-bid InOrder p = refl
plain-bid Repeated p = refl
plain-bid (Missing n) p = refl
plain-bid Late p = refl
plain-bid (Refused n) p = refl

-- ---- all answers
pub current-bid : (v : Noted) (p : Packet) → bids_among (packet_lines v p) ≡ map as_bid (pick (is_shown v p) (p ∷ []) [])
current-bid v p =
    by-eq p.format key_format
    (λ e.
    ap bids_among (key-lines v p e) ∙ key-bids v p
    ∙ sym (ap (λ (t : Bool). map as_bid (pick (pick t false (is_current v)) (p ∷ []) [])) (eq-eqb p.format key_format e)))
    (λ n.
    ap bids_among (plain_lines v p n) ∙ plain-bid v p
    ∙ sym (ap (λ (t : Bool). map as_bid (pick (pick t false (is_current v)) (p ∷ []) [])) (ne_eqb p.format key_format n)))

bids-joined : (ls ks : List Line) → bids_among (ls ++ ks) ≡ bids_among ls ++ bids_among ks
unfolding bids_among
bids-joined [] ks = refl
bids-joined (l ∷ ls) ks = go (is_bid l) (bids-joined ls ks)
  where
    go : (t : Bool) → bids_among (ls ++ ks) ≡ bids_among ls ++ bids_among ks
        → pick t (l ∷ bids_among (ls ++ ks)) (bids_among (ls ++ ks)) ≡ pick t (l ∷ bids_among ls) (bids_among ls) ++ bids_among ks
    go true e = ap (λ (x : List Line). l ∷ x) e
    go false e = e

block-bids : (b : Bool) (c : Condition) → bids_among (block_lines b c) ≡ []
unfolding bids_among
block-bids true Clean = refl
block-bids false Clean = refl
block-bids true (Repaired n) = refl
block-bids false (Repaired n) = refl
block-bids true Beyond = refl
block-bids false Beyond = refl

bids-mapped : (ps qs : List Packet) → map as_bid (ps ++ qs) ≡ map as_bid ps ++ map as_bid qs
bids-mapped [] qs = refl
bids-mapped (p ∷ ps) qs = ap (λ (x : List Line). as_bid p ∷ x) (bids-mapped ps qs)

-- the bids among the lines of answers: those of the packets that are current, in order, and no others
pub bids-current : (b : Bool) (es : List Event) (t : List Entry) → bids_among (board_lines b t es) ≡ map as_bid (current_from t (packets_among (frames es)))
unfolding board_lines bids_among packets_among current_from
bids-current b [] t = refl
bids-current b (said (packet p) ∷ es) t =
    let v : Noted = (noting t p.port p.sequence).0 in
    let u : List Entry = (noting t p.port p.sequence).1 in
    bids-joined (packet_lines v p) (board_lines b u es) ∙ (λ i. current-bid v p i ++ bids-current b es u i)
    ∙ sym (bids-mapped (pick (is_shown v p) (p ∷ []) []) (current_from u (packets_among (frames es))))
bids-current b (said (refusal n) ∷ es) t = bids-current b es t
bids-current b (said (broken n) ∷ es) t = bids-current b es t
bids-current b (block c ∷ es) t =
    bids-joined (block_lines b c) (board_lines b t es) ∙ ap (λ (x : List Line). x ++ bids_among (board_lines b t es)) (block-bids b c) ∙ bids-current b es t
bids-current b (lost ∷ es) t = bids-current b es t

-- whether clean and repaired blocks are told or not
pub blocks-apart : (es : List Event) (t : List Entry) → bids_among (board_lines true t es) ≡ bids_among (board_lines false t es)
blocks-apart es t = bids-current true es t ∙ sym (bids-current false es t)
