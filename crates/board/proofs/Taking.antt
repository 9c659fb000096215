-- A call of the board, return by return.
-- take-asks                what its parts ask
-- take_part                the output is full
-- take_more, take-answer   all that is owed is out: no answer, or one
use Prim.Native.Nat.{ℕ, ◌≤◌, ◌<◌}
use native.Mathlib.Omega.{arith}
use mathlib.Core.Path.{◌≡◌, refl, sym, ◌∙◌, ap, subst}
use mathlib.Core.Bool.{Bool, true, false, ◌&&◌}
use mathlib.Core.List.{List, ◌++◌}
use mathlib.Core.Option.{Option, some, none}
use lib.ListN.{length, take, drop, length-drop}
use lib.Seq.{take-length, length-take-le}
use borrow.Author.Tests.{lt-ltb, le-ltb, leb-true}
use Rattle.base.specs.Choice.{pick}
use Rattle.base.proofs.Tests.{and_parts}
use Rattle.packet_spec.specs.Frame.{packet, refusal, broken}
use Rattle.channel_spec.specs.Meaning.{Event, said, block, lost}
use Rattle.channel.specs.Call.{sound}
use Rattle.channel_spec.specs.Answer.{answered}
use Rattle.listing_spec.specs.Lines.{longest, given}
use Rattle.ports.specs.ByValue.{sound_ports}
use Rattle.recording.specs.declared.reader.RecordingReader.{RecordingReader}
use Rattle.recording.specs.declared.reader.Hearing.{Hearing}
use Rattle.recording.specs.Call.{deck_of, is_more}
use Rattle.board.specs.declared.owed.Owed.{Owed}
use Rattle.board.specs.declared.owed.Put.{Put}
use Rattle.board.specs.declared.readout.Readout.{Readout}
use Rattle.std.specs.Prelude.{Result, Ok}
use Rattle.base.specs.declared.Refusal.{Refusal}
use Rattle.board.specs.declared.readout.Wants.{Wants as Asked}
use Rattle.board.specs.declared.readout.Wants.TheVariants as asked
use Rattle.board.specs.Wants.{as_wants, More, Again}
use Rattle.board.specs.Source.{source, source_hear}
use Rattle.board.specs.Owed.{owes, left, forth_by, sound_owed}
use Rattle.board.specs.Call.{Screen, screen_of, Part, partly, heard_by, takes_on, near_by, sound_state, took_of, TookIs}
use Rattle.board.specs.Private.{PutIs, HeardIs, answered_by}
use Rattle.board.proofs.Left.{Whole, left-none, left-owes, left_by}

-- what is wanted, by: is there no answer
abbrev wanting : Bool → Result Asked Refusal
wanting t = pick t (Ok asked.More) (Ok asked.Again)

-- with something else owed, and with the tape further on
abbrev owing_of : Readout → Owed → Readout
owing_of r o = record { bare = r.bare; blocks = r.blocks; range = r.range; tape = r.tape; ports = r.ports; owed = o }

abbrev on_tape : Readout → RecordingReader → Readout
on_tape r t = record { bare = r.bare; blocks = r.blocks; range = r.range; tape = t; ports = r.ports; owed = r.owed }

sound-owed : (r : Readout) (n : ℕ) → sound_state r n ≡ true → sound_owed r.owed ≡ true
sound-owed r n e =
    let a = and_parts (sound r.tape.receiver) (near_by r.bare r.tape.spot n && (sound_ports r.ports && sound_owed r.owed)) e in
    let b = and_parts (near_by r.bare r.tape.spot n) (sound_ports r.ports && sound_owed r.owed) a.1 in
    (and_parts (sound_ports r.ports) (sound_owed r.owed) b.1).1

module _ (r : Readout) (recv word bs out : List ℕ) where
  abbrev s : Screen
  s = screen_of r recv word

  abbrev T : List ℕ
  T = left r.owed recv

  module _ (ok : sound_state r (length bs) ≡ true) (long : length r.owed.piece.bytes ≡ longest) where
    -- what writing asks
    pub take-asks : (sound_owed r.owed ≡ true) × (length r.owed.piece.bytes ≡ longest)
    take-asks = (sound-owed r (length bs) ok, long)

    whole : Whole r.owed
    whole = omega (arith, long, leb-true r.owed.piece.length longest (sound-owed r (length bs) ok))

    module _ {put : Put} {out' : List ℕ} (p : PutIs r.owed recv out put out') where
      within : put.written ≤ length T
      within = omega (arith, p.written)

      rest : left put.owed recv ≡ drop put.written T
      rest = ap (λ o. left o recv) p.owed ∙ (left_by put.written r.owed recv whole within).0

      -- the output is full
      pub take_part : {x : Readout} → owes put.owed ≡ true → x ≡ owing_of r put.owed
          → TookIs (takes_on (length out) s bs) (record { wants = Ok asked.Again; taken = 0; written = put.written; next = x }) recv word out out'
      unfolding takes_on
      take_part {x} e f =
          let w = subst Whole (sym p.owed) (left_by put.written r.owed recv whole within).1 in
          let h = left-owes put.owed recv w e in
          let l : length out < length T = omega (arith, p.written, h, ap length rest, length-drop put.written T) in
          let n : put.written ≡ length out = omega (arith, p.written, l) in
          let m : length (take (length out) T) ≡ length out = length-take-le (length out) T (omega (arith, l)) in
          rw (lt-ltb (length out) (length T) l) (
            (λ i. record {
              wants = Again;
              taken = 0;
              written = (n ∙ sym m) i;
              next = (f ∙ ap (owing_of r) (p.owed ∙ ap (λ k. forth_by k r.owed recv) n)) i;
            }),
            refl,
            refl,
            p.output ∙ ap (λ k. take k T ++ drop k out) n ∙ ap (λ k. take (length out) T ++ drop k out) (sym m),
          )

      -- all that is owed is out, by what is heard
      heard-took : (o : Option Event) (n : ℕ) (t : RecordingReader) (l k : List ℕ) {x : Readout} → put.written ≡ length T → out' ≡ T ++ drop (length T) out
          → x ≡ answered_by (on_tape r t) (answered o)
          → TookIs (heard_by s (o, n, source r.bare (deck_of t l k)))
          (record { wants = wanting (is_more (answered o)); taken = n; written = put.written; next = x })
          l k out out'
      heard-took none n t l k w e f = ((λ i. record { wants = More; taken = n; written = w i; next = f i }), refl, refl, e)
      heard-took (some a) n t l k {x} w e f = (go a f, refl, refl, e)
        where
          go : (a : Event) → x ≡ answered_by (on_tape r t) (given a)
              → record { wants = as_wants (wanting (is_more (given a))); taken = n; written = put.written; next = x } ≡ took_of
              (heard_by s (some a, n, source r.bare (deck_of t l k)))
          go (said (packet q)) f = λ i. record { wants = Again; taken = n; written = w i; next = f i }
          go (said (refusal m)) f = λ i. record { wants = Again; taken = n; written = w i; next = f i }
          go (said (broken m)) f = λ i. record { wants = Again; taken = n; written = w i; next = f i }
          go (block c) f = λ i. record { wants = Again; taken = n; written = w i; next = f i }
          go lost f = λ i. record { wants = Again; taken = n; written = w i; next = f i }

      module _ {h : Hearing} {l k : List ℕ} (all : owes put.owed ≡ false)
          (heard : HeardIs r.bare (source_hear (source r.bare (deck_of r.tape recv word)) bs) h l k) {x : Readout}
          (next : x ≡ answered_by (on_tape r h.tape) h.answer) where
        over : length T ≤ put.written
        over = omega (arith, ap length (sym rest ∙ left-none put.owed recv all), length-drop put.written T)

        out-is : put.written ≡ length T
        out-is = omega (arith, over, within)

        abbrev o : Option Event
        o = (source_hear (source r.bare (deck_of r.tape recv word)) bs).0

        heard-it : takes_on (length out) s bs ≡ heard_by s (o, h.taken, source r.bare (deck_of h.tape l k))
        unfolding takes_on
        heard-it =
            ap (λ t. pick t (partly (length out) s) (heard_by s (source_hear s.source bs)))
            (le-ltb (length out) (length T) (omega (arith, over, p.written)))
            ∙ ap (heard_by s) heard.1

        took : TookIs (takes_on (length out) s bs) (record { wants = wanting (is_more h.answer); taken = h.taken; written = put.written; next = x })
            l k out out'
        took =
            subst (λ (q : Part). TookIs q (record { wants = wanting (is_more h.answer); taken = h.taken; written = put.written; next = x }) l k out
            out')
            (sym heard-it)
            (subst (λ a. TookIs (heard_by s (o, h.taken, source r.bare (deck_of h.tape l k)))
            (record { wants = wanting (is_more a); taken = h.taken; written = put.written; next = x }) l k out out') (sym heard.0)
            (heard-took o h.taken h.tape l k out-is
            (p.output ∙ ap (λ n. take n T ++ drop n out) out-is ∙ ap (λ y. y ++ drop (length T) out) (take-length T))
            (next ∙ ap (answered_by (on_tape r h.tape)) heard.0)))

        -- no answer ..
        pub take_more : is_more h.answer ≡ true
            → TookIs (takes_on (length out) s bs) (record { wants = Ok asked.More; taken = h.taken; written = put.written; next = x }) l k out out'
        take_more e =
            subst (λ t. TookIs (takes_on (length out) s bs) (record { wants = wanting t; taken = h.taken; written = put.written; next = x }) l k out
            out') e took

        -- .. or one
        pub take-answer : is_more h.answer ≡ false
            → TookIs (takes_on (length out) s bs) (record { wants = Ok asked.Again; taken = h.taken; written = put.written; next = x }) l k out out'
        take-answer e =
            subst (λ t. TookIs (takes_on (length out) s bs) (record { wants = wanting t; taken = h.taken; written = put.written; next = x }) l k out
            out') e took
