-- What the private functions leave.
-- put_is, put-none               whole messages put out, the rest moved; where none is whole, nothing is
-- send-asks, send-is, send-not   a bid
-- line-asks, line-bid, line-none a line's end
use Prim.Native.Nat.{ℕ, suc, ◌+◌, ◌-◌, ◌*◌, ◌/◌, ◌%◌, ◌≤◌}
use native.Mathlib.Omega.{arith}
use mathlib.Core.Path.{◌≡◌, refl, sym, ◌∙◌, ap, subst}
use mathlib.Core.List.{List, [], ◌∷◌, ◌++◌, append_assoc}
use lib.ListN.{length, take, drop, length-append, length-drop, take-append-drop}
use lib.Seq.{take-take, take_at, length-take-le, drop-drop}
use Rattle.base.specs.Written.{Outcome, outcome, write, copied, refused as keeps}
use Rattle.std.specs.Prelude.{Result, Ok, Err}
use Rattle.std.specs.List.{copy_within}
use Rattle.std.specs.Result.{result_unwrap_or}
use Rattle.base.specs.declared.Refusal.{Refusal}
use Rattle.base.specs.Refusals.{number}
use Rattle.base.specs.Written.{Written, as_written}
use Rattle.base.specs.Written.{Wrote, Refused as No}
use Rattle.base.proofs.Parts.{tail-is}
use Rattle.base.proofs.Lists.{drop-take}
use Rattle.base.proofs.Tests.{by-eq, by_le, by-test}
use Rattle.base.proofs.Writing.{copied-fits, room-wrote, room-never}
use Rattle.packet_spec.specs.Port.{barred}
use Rattle.packet_spec.specs.Contents.{payload_limit, plain_limit, Packet, plain_packet}
use Rattle.packet_spec.specs.Escape.{flag, escape}
use Rattle.packet_spec.specs.Sender.{flagged, frame_of, writing}
use Rattle.packet.proofs.Sending.{Wrote-is, wrote-is, write-empty, write-long, write-barred, write-frame}
use Rattle.packet_spec.proofs.Round.{plain_fits}
use Rattle.stream.specs.Sender.{raw_of, appending}
use Rattle.stream.proofs.Sending.{appending-keeps}
use Rattle.channel_spec.specs.Sender.{marked, sending}
use Rattle.bid.specs.Line.{text, reading, Verdict, refused, accepted, judged, bid_of, verdict}
use Rattle.std.specs.Prelude.{Some, None}
use Rattle.bid.specs.declared.Bid.{Bid}
use Rattle.bid.proofs.Reading.{text-is, bid-found, bid-missed}
use Rattle.bid.proofs.Verdicts.{judged-empty, judged-long, judged-barred, judged-free, verdict-none, verdict-bid}
use Rattle.office.specs.declared.Answer.TheVariants as said
use Rattle.office.specs.Answer.{Sent}
use Rattle.office.specs.declared.Ended.{Ended}
use Rattle.office.specs.Meaning.{ending_by}
use Rattle.channel_spec.specs.Sender.{whole_bytes, wholes, rest_of, message_bytes}
use Rattle.office.specs.Call.{held_limit, hold_limit, out_limit}
use Rattle.office.specs.Private.{EndedIs, PutIs}
use Rattle.channel_spec.proofs.Marking.{marked-length, wholes-length}

-- ---- whole messages put out
module _ (hold out : List ℕ) (n : ℕ) (h : n ≤ length hold) (m : n ≤ hold_limit) (room : out_limit ≤ length out) where
  abbrev bs : List ℕ
  bs = take n hold

  abbrev whole : ℕ
  whole = n / message_bytes * message_bytes

  bs-length : length bs ≡ n
  bs-length = length-take-le n hold h

  first-is : take whole hold ≡ wholes bs
  first-is = sym (take-take whole n hold (omega arith)) ∙ ap (λ (k : ℕ). take (whole_bytes k) bs) (sym bs-length)

  rest-is : take (n - whole) (drop whole hold) ≡ rest_of bs
  rest-is = sym (drop-take whole n hold) ∙ ap (λ (k : ℕ). drop (whole_bytes k) bs) (sym bs-length)

  fits : length (marked (wholes bs)) ≤ length out
  fits = omega (arith, marked-length (length bs / message_bytes) (wholes bs) (wholes-length bs), bs-length)

  written : (w : Result ℕ Refusal) {out' : List ℕ} → outcome (as_written w) out' ≡ write (marked (wholes bs)) out
      → (result_unwrap_or w 0 ≡ length (marked (wholes bs))) × (out' ≡ marked (wholes bs) ++ drop (length (marked (wholes bs))) out)
  written (Ok k) e = room-wrote (marked (wholes bs)) out fits e refl
  written (Err r) e = absurd (room-never (marked (wholes bs)) out fits e refl)

  moved : copy_within hold whole n 0 ≡ copied (rest_of bs) hold
  moved =
      let k : length (rest_of bs) ≡ n - whole = length-drop (whole_bytes (length bs)) bs ∙ omega (arith, bs-length) in
      let z : 0 + (n - whole) ≡ length (rest_of bs) = omega arith in
      (λ i. rest-is i ++ drop (z i) hold) ∙ sym (copied-fits (rest_of bs) hold (omega arith))

  pub put_is : (w : Result ℕ Refusal) {r : ℕ} {out' hold' : List ℕ} → outcome (as_written w) out' ≡ sending (take whole hold) out → r ≡ result_unwrap_or w 0
      → hold' ≡ copy_within hold whole n 0 → PutIs bs hold out r hold' out'
  put_is w es er eh =
      let p = written w (es ∙ ap (λ (x : List ℕ). sending x out) first-is) in
      (er ∙ p.0, eh ∙ moved, p.1)

  unmoved : whole ≡ 0 → hold ≡ copy_within hold whole n 0
  unmoved z =
      let e : n ≡ n - whole = omega (arith, z) in
      let f : n ≡ 0 + (n - whole) = omega (arith, z) in
      sym (take-append-drop n hold) ∙ λ i. take (e i) (drop (sym z i) hold) ++ drop (f i) hold

  pub put-none : (w : Result ℕ Refusal) {r : ℕ} {out' : List ℕ} → outcome (as_written w) out' ≡ sending (take whole hold) out → r ≡ result_unwrap_or w 0
      → whole ≡ 0 → PutIs bs hold out r hold out'
  put-none w es er z = put_is w es er (unmoved z)

-- ---- a bid
module _ (port sequence : ℕ) (payload : List ℕ) (at : ℕ) (hold : List ℕ) (small : at ≤ held_limit) (room : hold_limit ≤ length hold) where
  abbrev p : Packet
  p = plain_packet port sequence payload

  abbrev frame : List ℕ
  frame = raw_of p ++ flag ∷ []

  abbrev all : List ℕ
  all = take at hold ++ frame

  at_length : length (take at hold) ≡ at
  at_length = length-take-le at hold (omega arith)

  all-length : length all ≡ at + length frame
  all-length = length-append (take at hold) frame ∙ ap (λ (n : ℕ). n + length frame) at_length

  behind-length : length (drop at hold) ≡ length hold - at
  behind-length = length-drop at hold

  module _ {w : Written} {hold' : List ℕ} (e : outcome w hold' ≡ appending at p hold) where
    abbrev told : Outcome
    told = writing p (drop at hold)

    -- written
    module _ (n : ℕ) (f : w ≡ Wrote n) where
      shows : Wrote-is p (drop at hold) n told.output
      shows = wrote-is p (drop at hold) n (sym (ap (λ (o : Outcome). o.answer) e) ∙ f)

      is-accepted : judged p ≡ accepted p
      is-accepted = judged-free p shows.some shows.short shows.free refl

      long : n ≡ length frame
      unfolding frame_of flagged
      long = shows.long

      frame-short : length frame ≤ suc plain_limit
      frame-short =
          omega (arith, length-append (raw_of p) (flag ∷ []), plain_fits port sequence payload shows.short)

      held-is : hold' ≡ all ++ drop (length all) hold
      unfolding frame_of flagged
      held-is =
          ap (λ (o : Outcome). o.output) e ∙ ap (λ (x : List ℕ). take at hold ++ x) shows.holds
          ∙ ap (λ (x : List ℕ). take at hold ++ (frame ++ x)) (drop-drop (length frame) at hold ∙ ap (λ (k : ℕ). drop k hold) (sym all-length))
          ∙ sym (append_assoc (take at hold) frame (drop (length all) hold))

      same_length : length hold' ≡ length hold
      same_length =
          ap length held-is ∙ length-append all (drop (length all) hold) ∙ omega (arith, length-drop (length all) hold, all-length, frame-short)

      pub send-asks : (at + n ≤ length hold') × (at + n ≤ hold_limit)
      send-asks = (omega (arith, same_length, frame-short, long), omega (arith, frame-short, long))

      first-all : take (at + n) hold' ≡ all
      first-all = ap (take (at + n)) held-is ∙ take_at all (drop (length all) hold) (at + n) (omega (arith, all-length, long))

      pub send-is : (out : List ℕ) {r : ℕ} {hold₂ out₂ : List ℕ} → PutIs (take (at + n) hold') hold' out r hold₂ out₂
          → EndedIs (ending_by (judged p) at hold) out (record { answer = Ok (said.Sent r); held = (at + n) % message_bytes }) hold₂ out₂
      send-is out {r} {hold₂} {out₂} x =
          let q : PutIs all (all ++ drop (length all) hold) out r hold₂ out₂ =
          subst (λ (x : List ℕ). PutIs x (all ++ drop (length all) hold) out r hold₂ out₂) first-all
          (subst (λ (x : List ℕ). PutIs (take (at + n) hold') x out r hold₂ out₂) held-is x) in
          let k : (at + n) % message_bytes ≡ length (rest_of all) = sym (length-drop (whole_bytes (length all)) all ∙ omega (arith, all-length, long)) in
          subst (λ (v : Verdict). EndedIs (ending_by v at hold) out (record { answer = Ok (said.Sent r); held = (at + n) % message_bytes }) hold₂ out₂)
          (sym is-accepted) ((λ i. record { answer = Sent (q.0 i); held = k i }), q.1, q.2)

    -- refused
    module _ (x : Refusal) (f : w ≡ No (number x)) where
      abbrev n : ℕ
      n = number x

      answer-is : told.answer ≡ No n
      answer-is = sym (ap (λ (o : Outcome). o.answer) e) ∙ f

      by_number : (k : ℕ) → told ≡ keeps k (drop at hold) → judged p ≡ refused k → judged p ≡ refused n
      by_number k g j =
          let u : No k ≡ No n = sym (ap (λ (o : Outcome). o.answer) g) ∙ answer-is in
          let y : k ≡ n = cc in
          j ∙ ap refused y

      no_room : length (frame_of p) ≤ length (drop at hold) → told ≡ write (frame_of p) (drop at hold) → ⊥
      no_room h g = room-never (frame_of p) (drop at hold) h g answer-is

      is-refused : judged p ≡ refused n
      unfolding frame_of flagged
      is-refused =
          by-eq (length p.payload) 0 (λ z. by_number 20 (write-empty p (drop at hold) z) (judged-empty p z))
          (λ z.
          by_le (length (escape p.payload)) payload_limit
          (λ s.
          by-test (barred p.port)
          (λ t. by_number 22 (write-barred p (drop at hold) z s t) (judged-barred p z s t))
          (λ t.
          absurd
          (no_room (omega (arith, behind-length, length-append (raw_of p) (flag ∷ []), plain_fits port sequence payload s))
          (write-frame p (drop at hold) z s t refl))))
          (λ s. by_number 21 (write-long p (drop at hold) z s) (judged-long p z s)))

      kept-is : hold' ≡ hold
      kept-is = ap (λ (o : Outcome). o.output) e ∙ appending-keeps at p hold n answer-is

      pub send-not : (out : List ℕ) → EndedIs (ending_by (judged p) at hold) out (record { answer = Err x; held = at }) hold' out
      send-not out =
          subst (λ (v : Verdict). EndedIs (ending_by v at hold) out (record { answer = Err x; held = at }) hold' out) (sym is-refused)
          (refl, kept-is, refl)

-- ---- a line's end
module _ (l : List ℕ) (at : ℕ) (hold : List ℕ) where
  pub line-asks : {b : Bid} → reading l ≡ Some b → b.from ≤ length l
  line-asks {b} e = let is = bid-found l b e in omega (arith, is.from)

  pub line-bid : (out : List ℕ) {b : Bid} {hold' out' : List ℕ} (r : Ended) → reading l ≡ Some b
      → EndedIs (ending_by (judged (plain_packet b.port b.sequence (take (length l - b.from) (drop b.from l)))) at hold) out r hold' out'
      → EndedIs (ending_by (verdict l) at hold) out r hold' out'
  line-bid out {b} {hold'} {out'} r e x =
      let is = bid-found l b e in
      let t : take (length l - b.from) (drop b.from l) ≡ text l = tail-is b.from l ∙ ap (λ (n : ℕ). drop n l) is.from ∙ text-is l in
      let g : plain_packet b.port b.sequence (take (length l - b.from) (drop b.from l)) ≡ bid_of l =
      λ i. plain_packet (is.port i) (is.sequence i) (t i) in
      subst (λ (v : Verdict). EndedIs (ending_by v at hold) out r hold' out') (ap judged g ∙ sym (verdict-bid l is.both)) x

  pub line-none : (out : List ℕ) → reading l ≡ None → EndedIs (ending_by (verdict l) at hold) out (record { answer = Ok said.NoBid; held = at }) hold out
  line-none out e =
      subst (λ (v : Verdict). EndedIs (ending_by v at hold) out (record { answer = Ok said.NoBid; held = at }) hold out)
      (sym (verdict-none l (bid-missed l e))) (refl, refl, refl)
