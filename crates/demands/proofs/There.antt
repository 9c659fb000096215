-- What the theorem of Manager asks can be met.
-- sends-there   every input, however it is cut, is sent
-- airs-there    what goes out may come in as it is
-- typed-there   lines may be typed plainly, their numbers rising by one: an input of two
use Prim.Native.Nat.{ℕ, ◌≤◌}
use native.Mathlib.Omega.{arith}
use mathlib.Core.Path.{◌≡◌, refl, sym, subst}
use mathlib.Core.Bool.{Bool, true, false}
use mathlib.Core.Logic.◌⊎◌.{inl}
use mathlib.Core.List.{List, [], ◌∷◌, ◌++◌}
use lib.Dec.{eqb}
use lib.ListN.{length}
use Rattle.base.specs.Bytes.{Each, Bytes}
use Rattle.base.specs.Calls.{joined}
use Rattle.base.specs.Choice.{pick}
use Rattle.base.specs.UpTo.{up_to}
use Rattle.packet_spec.specs.Contents.{Packet, plain_packet}
use Rattle.packet_spec.specs.Escape.{escape, escape_byte}
use Rattle.stream.specs.Sender.{stream}
use Rattle.channel_spec.specs.Sender.{parity_bytes, messages_of, sent_words, marked}
use Rattle.channel_spec.proofs.Streaming.{sent-each, sent-messages}
use Rattle.bid.specs.Line.{line_limit, digits, value, number_from, number, judged, verdict}
use Rattle.bid.specs.Input.{lines_from, packets, packets_of}
use Rattle.office.specs.Meaning.{Desk, waiting, sent_by}
use Rattle.office.specs.Call.{hold_limit, out_limit, close_call, last_of}
use Rattle.office.proofs.Cutting.{bids-cut}
use Rattle.office.proofs.Board.{packets-accepted}
use Rattle.board_spec.specs.Typed.{accepting, accepted_lines, Plainly, numbers_of, ByOne, Among}
use Rattle.demands.specs.Way.{Sends, Airs}
use Rattle.demands_laws.proofs.Altered.{unaltered, sent-clean-words}
use Rattle.demands.proofs.Manager.{went-out}

-- every input, however it is cut, with buffers that pass 11 and room that passes 23
pub sends-there : (line hold : List ℕ) → line_limit ≤ length line → hold_limit ≤ length hold
    → (room : Desk → List ℕ → ℕ) → ((d : Desk) (bs : List ℕ) → out_limit ≤ room d bs) → (last : ℕ) → out_limit ≤ last
    → (pieces : List (List ℕ)) → (out : List ℕ) × Sends (joined pieces) out
sends-there line hold l h room enough last fits pieces =
    let e = (bids-cut line hold l h room enough pieces).ends in
    let d : Desk = e.1 in (
      sent_by (e.0 ++ last_of (close_call last d).0) ++ marked (waiting (close_call last d).2),
      record {
        line = line;
        hold = hold;
        line_room = l;
        hold_room = h;
        room = room;
        enough = enough;
        pieces = pieces;
        cut = refl;
        said = e.0;
        desk = d;
        called = e.2;
        last = last;
        fits = fits;
        wrote = refl;
      },
    )

-- what goes out may come in as it is
pub airs-there : {input out : List ℕ} → Bytes input → Sends input out → Airs out out
airs-there {input} b s =
    let taken = packets-accepted input b in
    let ws : List (List ℕ) = sent_words (packets_of input) in
    let clean = sent-clean-words parity_bytes (omega arith) (messages_of (stream (packets_of input))) (sent-messages (packets_of input) taken) in
    record {
      stray = [];
      first = λ xs ys e. omega arith;
      words = ws;
      whole = sent-each (packets_of input) taken;
      blocks = sym (went-out s);
      came = ws;
      altered = unaltered parity_bytes ws clean;
      heard = sym (went-out s);
    }

-- two bids: 5 1 a\n5 2 b\n
abbrev two : List ℕ
two = 53 ∷ 32 ∷ 49 ∷ 32 ∷ 97 ∷ 10 ∷ 53 ∷ 32 ∷ 50 ∷ 32 ∷ 98 ∷ 10 ∷ []

abbrev two_lines : List (List ℕ)
two_lines = (53 ∷ 32 ∷ 49 ∷ 32 ∷ 97 ∷ []) ∷ (53 ∷ 32 ∷ 50 ∷ 32 ∷ 98 ∷ []) ∷ []

abbrev two_packets : List Packet
two_packets = plain_packet 5 1 (97 ∷ []) ∷ plain_packet 5 2 (98 ∷ []) ∷ []

two-lines : accepted_lines two ≡ two_lines
unfolding up_to digits value number_from number escape escape_byte judged verdict lines_from packets accepting
two-lines = refl

two-packets : packets_of two ≡ two_packets
unfolding up_to digits value number_from number escape escape_byte judged verdict lines_from packets accepting
two-packets = refl

two-plainly : Each Plainly two_lines
unfolding up_to
two-plainly = (
  record { port = inl refl; sequence = inl refl; text = ((refl, λ e. omega (arith, e)), tt) },
  (record { port = inl refl; sequence = inl refl; text = ((refl, λ e. omega (arith, e)), tt) }, tt),
)

two-rising : (q : ℕ) → ByOne (numbers_of q two_packets)
unfolding numbers_of
two-rising q = go (eqb 5 q)
  where
    go : (t : Bool) → ByOne (pick t (1 ∷ []) [] ++ (pick t (2 ∷ []) [] ++ []))
    go true = (refl, tt)
    go false = tt

-- all that the theorem asks of an input
pub typed-there : Each Plainly (accepted_lines two) × ((q : ℕ) → ByOne (numbers_of q (packets_of two))) × Among (5 ∷ []) (packets_of two)
typed-there = (
  subst (Each Plainly) (sym two-lines) two-plainly,
  (λ q. subst (λ ps. ByOne (numbers_of q ps)) (sym two-packets) (two-rising q)),
  subst (Among (5 ∷ [])) (sym two-packets) (inl refl, (inl refl, tt)),
)
