-- What the office typed is what the manager reads. For every input of the office, however it is cut (`Sends`); whatever stray bytes come before
-- what goes out, the marker first appearing where that begins; whichever bytes of its words are altered, up to 16 in each (`Airs`):
-- went-out         what goes out is the stream of the accepted lines
-- bids-delivered   the packets delivered are those of the lines that the sender accepted, once each, in order, and nothing else; no lock is lost
-- Of a board that is told no range, or the range of all ports (`whole-regarded`: no answer is left out):
-- bids-not-old     the bids among the lines shown are those of the accepted lines' packets that are neither late nor repeated, in order, and no
-- others; of a port that finds no place in the table neither can be told, and each is a bid ..
-- .. and where each port's sequence numbers rise by one:
-- bids-as-shown    they are the accepted lines, once each, in order ..
-- bids-as-typed    .. as typed, where they were typed plainly
-- all-as-shown     .. and of at most 16 ports nothing else is shown
-- board-text       .. as typed: the text on the board is those lines, byte for byte
-- input-shown      .. and where no line is named, and the last ends in a line feed: it is the input itself
-- bids-read, bids-typed-read, typed-is-read   bids-not-old, bids-as-typed and board-text by the board's calls, however what comes in is cut and
-- whatever room each call has: they come to their end, and that is what they write
-- ..-in            each of these of a board that is told any range of ports: the same of the accepted lines of the ports inside. What is asked of
-- numbers, of ports and of plain typing is asked of those alone: other ports may hold anything, and take no place among the 16
use Prim.Native.Nat.{ℕ, zero, suc, ◌≤◌, ◌<◌}
use native.Mathlib.Omega.{arith}
use mathlib.Core.Path.{◌≡◌, sym, ◌∙◌, ap, subst}
use mathlib.Core.Bool.{Bool, true, false}
use mathlib.Core.List.{List, [], ◌∷◌, ◌++◌, map, append-nil}
use lib.ListN.{length, replicate, length-replicate}
use Rattle.base.specs.Bytes.{Each, Bytes}
use Rattle.packet_spec.specs.Contents.{raw_limit, Packet}
use Rattle.packet_spec.specs.Frame.{Told}
use Rattle.packet_spec.specs.Sender.{Accepted}
use Rattle.stream.specs.Sender.{delivered}
use Rattle.channel_spec.specs.Sender.{parity_bytes, word_bytes, sent_words}
use Rattle.channel_spec.specs.Meaning.{Event, frames, blocks, losses, answers, FirstMarker}
use Rattle.channel.specs.Call.{EveryCut}
use Rattle.channel_spec.proofs.Streaming.{sent-each}
use Rattle.channel.proofs.Demands.{every-cut}
use Rattle.bid.specs.Line.{feed}
use Rattle.bid.specs.Input.{lines_of, packets_of, complaints}
use Rattle.office.specs.Meaning.{sent_for}
use Rattle.office.proofs.Cutting.{bids-sent}
use Rattle.office.proofs.Board.{packets-accepted}
use Rattle.ports_spec.specs.declared.Range.{Range}
use Rattle.ports_spec.specs.Ports.{place_limit, fresh_table}
use Rattle.ports_spec.specs.Range.{every_port, inside}
use Rattle.board_spec.specs.Meaning.{board_lines, written_all, regarded, board_text}
use Rattle.board_spec.specs.Typed.{accepted_lines, lines_in, typed, as_shown, Plainly, bids_among, packets_among, packets_in, as_bid, current_from}
use Rattle.board_spec.specs.Typed.{numbers_of, ByOne, Among}
use Rattle.board_spec.proofs.Marks.{bids-current}
use Rattle.board_spec.proofs.Typed.{IsOpen, packets-open, accepting-each, shown_typed, lines-typed, unnamed}
use Rattle.board_spec.proofs.Ordered.{delivered-packets, bids-in-order}
use Rattle.board_spec.proofs.Sixteen.{Good, only-bids}
use Rattle.board_spec.proofs.Ranges.{regarded-frames, regarded-blocks, regarded-losses, regarded-every}
use Rattle.board_spec.proofs.Inside.{bids-inside, typed-inside, each-inside, rising_inside, packets-every, lines-every}
use Rattle.board.specs.Call.{fresh_readout}
use Rattle.board.specs.Runs.{EveryShow}
use Rattle.board.proofs.Demands.{shown-bare}
use Rattle.demands_laws.specs.Guarantee.{altered, answer_for, Received, received}
use Rattle.demands.specs.Way.{Sends, Airs}
use Rattle.demands_laws.proofs.Framed.{framed-same}
use Rattle.demands.proofs.Guarantee.{delivered-as-sent}

-- ---- what is so of the answers that calls give is so of the answers that the bytes mean
module _ {air : List ℕ} (Q : List Event → Type 0) where
  uncut : EveryCut air (λ es d. Q es) → Q (answers air)
  uncut cut =
      let r : List ℕ = replicate raw_limit 0 in
      let w : List ℕ = replicate word_bytes 0 in
      let hr : raw_limit ≤ length r = omega (arith, length-replicate {A = ℕ} raw_limit 0) in
      let hw : word_bytes ≤ length w = omega (arith, length-replicate {A = ℕ} word_bytes 0) in
      let y = cut r w hr hw (air ∷ []) (append-nil air) in
      let x = every-cut air r w hr hw (air ∷ []) (append-nil air) in
      let e = y.ends in
      subst Q (x.always e.0 e.1 e.2).0 (y.always e.0 e.1 e.2)

-- what goes out is the stream of the accepted lines
pub went-out : {input out : List ℕ} → Sends input out → out ≡ sent_for input
went-out s =
    sym s.wrote
    ∙ (bids-sent s.line s.hold s.line_room s.hold_room s.room s.enough s.pieces s.last s.fits).always s.said s.desk s.called
    ∙ ap sent_for s.cut

-- every block is clean or repaired
good-for : (n : ℕ) → Good (answer_for n)
good-for zero = tt
good-for (suc n) = tt

good-received : (ws vs : List (List ℕ)) → Each Good (received ws vs)
good-received [] vs = tt
good-received (w ∷ ws) [] = tt
good-received (w ∷ ws) (v ∷ vs) = (good-for (altered w v), good-received ws vs)

-- their ports have 16 bits
ports-fit : (ps : List Packet) → Each Accepted ps → Each (λ (p : Packet). p.port < 65536) ps
ports-fit [] h = tt
ports-fit (p ∷ ps) h = (h.0.port_fits, ports-fit ps h.1)

module _ {input out air : List ℕ} (bytes : Bytes input) (sends : Sends input out) (airs : Airs out air) where
  accepted : Each Accepted (packets_of input)
  accepted = packets-accepted input bytes

  the-words : airs.words ≡ sent_words (packets_of input)
  the-words = framed-same airs.words (sent_words (packets_of input)) airs.whole (sent-each (packets_of input) accepted) (airs.blocks ∙ went-out sends)

  -- the packets delivered are the accepted lines', once each, in order, and nothing else; each block is clean, or repaired in exactly the places
  -- altered; no lock is lost
  pub bids-delivered : (frames (answers air) ≡ map delivered (packets_of input))
      × (blocks (answers air) ≡ received (sent_words (packets_of input)) airs.came) × (losses (answers air) ≡ 0)
  bids-delivered =
      uncut
      (λ es. (frames es ≡ map delivered (packets_of input)) × (blocks es ≡ received (sent_words (packets_of input)) airs.came) × (losses es ≡ 0))
      (subst (λ bs. EveryCut bs λ es d. (frames es ≡ map delivered (packets_of input))
      × (blocks es ≡ received (sent_words (packets_of input)) airs.came) × (losses es ≡ 0)) airs.heard
      (delivered-as-sent airs.stray (packets_of input) accepted (subst (FirstMarker airs.stray) (went-out sends) airs.first) airs.came
      (subst (λ ws. Received parity_bytes ws airs.came) the-words airs.altered)))

  -- ---- a board that is told a range of ports
  module _ (r : Range) where
    frames-in : frames (regarded r (answers air)) ≡ map delivered (packets_in r (packets_of input))
    frames-in = regarded-frames r (answers air) (packets_of input) bids-delivered.0

    -- whatever the sequence numbers: the bids among the lines shown are those of the accepted lines that are neither late nor repeated
    pub bids-not-old-in : (b : Bool)
        → bids_among (board_lines b fresh_table (regarded r (answers air))) ≡ map as_bid (current_from fresh_table (packets_in r (packets_of input)))
    bids-not-old-in b =
        bids-current b (regarded r (answers air)) fresh_table
        ∙ ap (λ (ts : List Told). map as_bid (current_from fresh_table (packets_among ts))) frames-in
        ∙ ap (λ (ps : List Packet). map as_bid (current_from fresh_table ps)) (delivered-packets (packets_in r (packets_of input)))

    -- .. by the board's calls, however what comes in is cut and whatever room each has: they come to their end, and write these lines
    pub bids-read-in : (b : Bool) → EveryShow (fresh_readout true b r) air λ s text u.
        (text ≡ written_all (board_lines b fresh_table (regarded r (answers air))))
        × (bids_among (board_lines b fresh_table (regarded r (answers air))) ≡ map as_bid (current_from fresh_table (packets_in r (packets_of input))))
    bids-read-in b recv word big long rooms some-room pieces cut =
        let x = shown-bare b r air recv word big long rooms some-room pieces cut in
        (x.0, λ n text u run. ((x.1 n text u run).0, bids-not-old-in b))

    -- ---- the sequence numbers of each port inside rise by one
    module _ (rising : (q : ℕ) → inside r q ≡ true → ByOne (numbers_of q (packets_of input))) where
      open_in : Each IsOpen (packets_in r (packets_of input))
      open_in = each-inside r IsOpen (packets_of input) (packets-open input)

      -- the bids among the lines shown are the lines of these ports that the sender accepted, once each, in order ..
      pub bids-as-shown-in : (b : Bool)
          → written_all (bids_among (board_lines b fresh_table (regarded r (answers air)))) ≡ as_shown (lines_in r (accepted_lines input))
      bids-as-shown-in b =
          ap written_all
          (bids-in-order b (regarded r (answers air)) (packets_in r (packets_of input)) frames-in open_in (rising_inside r (packets_of input) rising))
          ∙ bids-inside r input

      -- .. as typed
      pub bids-as-typed-in : Each Plainly (lines_in r (accepted_lines input)) → (b : Bool)
          → written_all (bids_among (board_lines b fresh_table (regarded r (answers air)))) ≡ typed (lines_in r (accepted_lines input))
      bids-as-typed-in plain b = bids-as-shown-in b ∙ typed-inside r input plain

      -- .. by the board's calls, of any number of ports: among the lines that they write
      pub bids-typed-read-in : Each Plainly (lines_in r (accepted_lines input)) → (b : Bool) → EveryShow (fresh_readout true b r) air λ s text u.
          (text ≡ written_all (board_lines b fresh_table (regarded r (answers air))))
          × (written_all (bids_among (board_lines b fresh_table (regarded r (answers air)))) ≡ typed (lines_in r (accepted_lines input)))
      bids-typed-read-in plain b recv word big long rooms some-room pieces cut =
          let x = shown-bare b r air recv word big long rooms some-room pieces cut in
          (x.0, λ n text u run. ((x.1 n text u run).0, bids-as-typed-in plain b))

      -- ---- of at most 16 ports inside
      module _ (ports : List ℕ) (few : length ports ≤ place_limit) (among : Among ports (packets_in r (packets_of input))) where
        -- nothing else is shown ..
        pub all-as-shown-in : board_text false r air ≡ as_shown (lines_in r (accepted_lines input))
        all-as-shown-in =
            let d = bids-delivered in
            let es : List Event = regarded r (answers air) in
            let good : Each Good (blocks es) =
            subst (Each Good) (sym (regarded-blocks r (answers air) ∙ d.1)) (good-received (sent_words (packets_of input)) airs.came) in
            ap written_all
            (only-bids ports few es (packets_in r (packets_of input)) frames-in good (regarded-losses r (answers air) ∙ d.2) open_in among
            (rising_inside r (packets_of input) rising))
            ∙ bids-inside r input

        module _ (plain : Each Plainly (lines_in r (accepted_lines input))) where
          -- .. the text on the board is those lines, byte for byte ..
          pub board-text-in : board_text false r air ≡ typed (lines_in r (accepted_lines input))
          board-text-in = all-as-shown-in ∙ typed-inside r input plain

          -- .. by the board's calls, however what comes in is cut and whatever room each has: they come to their end, and what they write is that
          pub typed-is-read-in : EveryShow (fresh_readout true false r) air λ s text u. text ≡ typed (lines_in r (accepted_lines input))
          typed-is-read-in recv word big long rooms some-room pieces cut =
              let x = shown-bare false r air recv word big long rooms some-room pieces cut in
              (x.0, λ n text u run. (x.1 n text u run).0 ∙ board-text-in)

  -- ---- the range of all ports: what comes in is regarded whole
  fits : Each (λ (p : Packet). p.port < 65536) (packets_of input)
  fits = ports-fit (packets_of input) accepted

  pub whole-regarded : regarded every_port (answers air) ≡ answers air
  whole-regarded =
      regarded-every (answers air)
      (subst (Each (λ (p : Packet). p.port < 65536)) (sym (ap packets_among bids-delivered.0 ∙ delivered-packets (packets_of input))) fits)

  whole-packets : packets_in every_port (packets_of input) ≡ packets_of input
  whole-packets = packets-every (packets_of input) fits

  whole-lines : lines_in every_port (accepted_lines input) ≡ accepted_lines input
  whole-lines = lines-every (accepted_lines input) (accepting-each input)

  -- whatever the sequence numbers: the bids among the lines shown are those of the accepted lines that are neither late nor repeated
  pub bids-not-old : (b : Bool) → bids_among (board_lines b fresh_table (answers air)) ≡ map as_bid (current_from fresh_table (packets_of input))
  bids-not-old b =
      ap (λ (es : List Event). bids_among (board_lines b fresh_table es)) (sym whole-regarded) ∙ bids-not-old-in every_port b
      ∙ ap (λ (ps : List Packet). map as_bid (current_from fresh_table ps)) whole-packets

  -- .. by the board's calls, however what comes in is cut and whatever room each has: they come to their end, and write these lines
  pub bids-read : (b : Bool) → EveryShow (fresh_readout true b every_port) air λ s text u.
      (text ≡ written_all (board_lines b fresh_table (answers air)))
      × (bids_among (board_lines b fresh_table (answers air)) ≡ map as_bid (current_from fresh_table (packets_of input)))
  bids-read b recv word big long rooms some-room pieces cut =
      let x = shown-bare b every_port air recv word big long rooms some-room pieces cut in
      (x.0, λ n text u run. ((x.1 n text u run).0 ∙ ap (λ (es : List Event). written_all (board_lines b fresh_table es)) whole-regarded, bids-not-old b))

  -- ---- each port's sequence numbers rise by one
  module _ (rising : (q : ℕ) → ByOne (numbers_of q (packets_of input))) where
    -- the bids among the lines shown are the lines that the sender accepted, once each, in order ..
    pub bids-as-shown : (b : Bool) → written_all (bids_among (board_lines b fresh_table (answers air))) ≡ as_shown (accepted_lines input)
    bids-as-shown b =
        ap (λ (es : List Event). written_all (bids_among (board_lines b fresh_table es))) (sym whole-regarded)
        ∙ bids-as-shown-in every_port (λ q h. rising q) b ∙ ap as_shown whole-lines

    -- .. as typed
    pub bids-as-typed : Each Plainly (accepted_lines input) → (b : Bool)
        → written_all (bids_among (board_lines b fresh_table (answers air))) ≡ typed (accepted_lines input)
    bids-as-typed plain b = bids-as-shown b ∙ shown_typed input plain

    -- .. by the board's calls, of any number of ports: among the lines that they write
    pub bids-typed-read : Each Plainly (accepted_lines input) → (b : Bool) → EveryShow (fresh_readout true b every_port) air λ s text u.
        (text ≡ written_all (board_lines b fresh_table (answers air)))
        × (written_all (bids_among (board_lines b fresh_table (answers air))) ≡ typed (accepted_lines input))
    bids-typed-read plain b recv word big long rooms some-room pieces cut =
        let x = bids-read b recv word big long rooms some-room pieces cut in
        (x.0, λ n text u run. ((x.1 n text u run).0, bids-as-typed plain b))

    -- ---- of at most 16 ports
    module _ (ports : List ℕ) (few : length ports ≤ place_limit) (among : Among ports (packets_of input)) where
      -- nothing else is shown ..
      pub all-as-shown : board_text false every_port air ≡ as_shown (accepted_lines input)
      all-as-shown = all-as-shown-in every_port (λ q h. rising q) ports few (subst (Among ports) (sym whole-packets) among) ∙ ap as_shown whole-lines

      module _ (plain : Each Plainly (accepted_lines input)) where
        -- .. the text on the board is those lines, byte for byte ..
        pub board-text : board_text false every_port air ≡ typed (accepted_lines input)
        board-text = all-as-shown ∙ shown_typed input plain

        -- .. by the board's calls, however what comes in is cut and whatever room each has: they come to their end, and what they write is that ..
        pub typed-is-read : EveryShow (fresh_readout true false every_port) air λ s text u. text ≡ typed (accepted_lines input)
        typed-is-read recv word big long rooms some-room pieces cut =
            let x = shown-bare false every_port air recv word big long rooms some-room pieces cut in
            (x.0, λ n text u run. (x.1 n text u run).0 ∙ board-text)

        -- .. and where no line is named, and the last ends in a line feed, it is the input itself
        pub input-shown : (bs : List ℕ) → input ≡ bs ++ feed ∷ [] → complaints input ≡ [] → board_text false every_port air ≡ input
        input-shown bs e unspoken = board-text ∙ ap typed (unnamed input unspoken) ∙ ap (λ (l : List ℕ). typed (lines_of l)) e ∙ lines-typed bs ∙ sym e
