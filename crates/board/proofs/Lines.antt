-- An answer's lines.
-- lines_for                  by the range
-- owing-left                 what is owed of an answer is its lines
-- lines-first, table-first   an answer first: its lines, and those of the others by the table behind it
use Prim.Native.Nat.{ℕ}
use native.Mathlib.Omega.{arith}
use mathlib.Core.Path.{◌≡◌, refl, sym, ◌∙◌, ap}
use mathlib.Core.Bool.{Bool, true, false}
use mathlib.Core.List.{List, [], ◌∷◌, ◌++◌, append-nil}
use lib.Dec.{eqb}
use lib.ListN.{length}
use Rattle.base.specs.Choice.{pick}
use Rattle.packet_spec.specs.Contents.{Packet, key_format, payload_at}
use Rattle.packet_spec.specs.Frame.{packet, refusal, broken, delivery, part}
use Rattle.channel_spec.specs.Meaning.{Event, said, block, lost}
use Rattle.bid.specs.Line.{feed}
use Rattle.listing_spec.specs.Lines.{given}
use Rattle.ports_spec.specs.declared.Entry.{Entry}
use Rattle.ports_spec.specs.declared.Noted.{Noted}
use Rattle.ports_spec.specs.declared.Range.{Range}
use Rattle.ports_spec.specs.Ports.{noting}
use Rattle.ports_spec.specs.Range.{inside}
use Rattle.board_spec.specs.Text.{shown_text}
use Rattle.board_spec.specs.Meaning.{Line, written_all, packet_lines, event_lines, table_behind, board_lines, regards, regarded}
use Rattle.board_spec.specs.Parts.{lead, remark}
use Rattle.board_spec.proofs.Split.{lines_split, remark-is, lead-some}
use Rattle.board_lines.specs.Piece.{piece_of}
use Rattle.board.specs.Source.{Source, memory_in}
use Rattle.board.specs.Owed.{alone, nothing, with_text, owed_packet, owing, left}
use Rattle.board.specs.Call.{table_for}
use Rattle.board.specs.Runs.{table_all}
use Rattle.board.proofs.Sources.{ThereIn}
use Rattle.board.proofs.Left.{left-none, left-new}

-- ---- what is owed of an answer is its lines
-- a piece alone
alone-left : (bs recv : List ℕ) → left (alone (piece_of bs)) recv ≡ bs
alone-left [] recv = left-none (alone (piece_of [])) recv refl
alone-left (b ∷ bs) recv = left-new (b ∷ bs) (alone (piece_of (b ∷ bs))) recv refl refl (omega arith) ∙ append-nil (b ∷ bs)

-- a packet, by: is it for subscribers
packet-left : (v : Noted) (p : Packet) (recv : List ℕ) → part (payload_at (length p.key)) (length p.payload) recv ≡ p.payload → (t : Bool)
    → left (pick t (alone (piece_of (lead v (delivery p)))) (with_text (piece_of (lead v (delivery p))) (delivery p))) recv
    ≡ lead v (delivery p) ++ pick t [] (shown_text p.payload ++ (feed ∷ []))
packet-left v p recv h true = alone-left (lead v (delivery p)) recv ∙ sym (append-nil (lead v (delivery p)))
packet-left v p recv h false =
    left-new (lead v (delivery p)) (with_text (piece_of (lead v (delivery p))) (delivery p)) recv refl refl (lead-some v (delivery p))
    ∙ ap (λ (t : List ℕ). lead v (delivery p) ++ (shown_text t ++ (feed ∷ []))) h

-- the lines of an answer, by the range
abbrev pub lines_for : Bool → Range → List Entry → Event → List Line
lines_for b r t e = pick (regards r e) (event_lines b t e) []

pub owing-left : (b : Bool) (r : Range) (t : List Entry) (e : Event) (s : Source) → ThereIn e s
    → left (owing b r t (given e)) (memory_in s.deck).recv ≡ written_all (lines_for b r t e)
unfolding written_all
owing-left b r t (said (packet p)) s h = go (inside r p.port)
  where
    go : (f : Bool) → left (pick f (owed_packet (noting t p.port p.sequence).0 (delivery p)) nothing) (memory_in s.deck).recv
        ≡ written_all (pick f (packet_lines (noting t p.port p.sequence).0 p) [])
    go true =
        packet-left (noting t p.port p.sequence).0 p (memory_in s.deck).recv h.0 (eqb p.format key_format)
        ∙ sym (lines_split (noting t p.port p.sequence).0 p)
    go false = left-none nothing (memory_in s.deck).recv refl
owing-left b r t (said (refusal n)) s h = alone-left (remark b (given (said (refusal n)))) (memory_in s.deck).recv
    ∙ sym (remark-is b t (said (refusal n)) tt)
owing-left b r t (said (broken n)) s h = alone-left (remark b (given (said (broken n)))) (memory_in s.deck).recv ∙ sym (remark-is b t (said (broken n)) tt)
owing-left b r t (block c) s h = alone-left (remark b (given (block c))) (memory_in s.deck).recv ∙ sym (remark-is b t (block c) tt)
owing-left b r t lost s h = alone-left (remark b (given lost)) (memory_in s.deck).recv ∙ sym (remark-is b t lost tt)

-- ---- an answer first
pub lines-first : (b : Bool) (r : Range) (t : List Entry) (e : Event) (es : List Event)
    → board_lines b t (regarded r (e ∷ es)) ≡ lines_for b r t e ++ board_lines b (table_for r t e) (regarded r es)
unfolding board_lines regarded
lines-first b r t e es = go (regards r e)
  where
    go : (f : Bool) → board_lines b t (pick f (e ∷ regarded r es) (regarded r es))
        ≡ pick f (event_lines b t e) [] ++ board_lines b (pick f (table_behind t e) t) (regarded r es)
    go true = refl
    go false = refl

pub table-first : (r : Range) (t : List Entry) (e : Event) (es : List Event) → table_all t (regarded r (e ∷ es)) ≡ table_all (table_for r t e) (regarded r es)
unfolding regarded
table-first r t e es = go (regards r e)
  where
    go : (f : Bool) → table_all t (pick f (e ∷ regarded r es) (regarded r es)) ≡ table_all (pick f (table_behind t e) t) (regarded r es)
    go true = refl
    go false = refl
