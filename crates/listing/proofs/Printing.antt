-- A call with an output, line by line.
-- step_room, step-more, step_line    the three ways out of a step
-- Near, near_of, near-is             no number is near its width
use Prim.Native.Nat.{ℕ, zero, suc, ◌+◌, ◌-◌, ◌≤◌, ◌<◌}
use native.Mathlib.Omega.{arith}
use native.Mathlib.Nat.{sub-zero}
use mathlib.Core.Path.{◌≡◌, refl, sym, ◌∙◌, ap, subst}
use mathlib.Core.Bool.{true, false}
use mathlib.Core.List.{List, [], ◌++◌}
use mathlib.Core.Option.{Option, some, none}
use lib.Dec.{leb}
use Rattle.std.specs.Prelude.{Some, None}
use Rattle.listing.specs.declared.lister.Wants.TheVariants as wanting
use lib.ListN.{length, drop}
use borrow.Author.Tests.{lt-ltb, le-ltb, le-leb, leb-true}
use Rattle.channel_spec.specs.Meaning.{Event}
use Rattle.channel.specs.Call.{sound, roomy}
use Rattle.channel_spec.specs.Answer.{answered}
use Rattle.channel_spec.specs.declared.Answer.{Answer}
use Rattle.base.proofs.Tests.{and_parts}
use Rattle.listing_spec.specs.declared.Spot.{Spot}
use Rattle.listing_spec.specs.Lines.{line, given, is_packet, is_refusal, is_damaged, is_lost, longest}
use Rattle.listing_lines.specs.Counts.{counting, Below}
use Rattle.listing_lines.proofs.Short.{line-short, line-some}
use Rattle.listing_lines.proofs.Counting.{counting-below}
use Rattle.recording.specs.declared.reader.RecordingReader.{RecordingReader}
use Rattle.recording.specs.declared.reader.Hearing.{Hearing}
use Rattle.recording.specs.Deck.{Deck, deck_hear}
use Rattle.recording.specs.Call.{far, deck_of, is_more, tape_call, NextIs}
use Rattle.recording.specs.Private.{Stays, HeardIs}
use Rattle.recording.proofs.Turn.{more-none, more-some}
use Rattle.recording.proofs.Next.{next-heard}
use Rattle.listing_lines.specs.declared.totals.Totals.{Totals}
use Rattle.listing.specs.Wants.{More, Room}
use Rattle.listing.specs.Private.{StepIs}
use Rattle.listing.specs.Call.{counted, Printed, printed, further, on_answer, print, near}
use Rattle.listing.proofs.Counting.{one-most}

-- ---- no number passes its width
-- what the test asks, as facts
pub record Near (p : Spot) (t : Totals) (n room : ℕ) : Type 0 where
  pub offset : p.offset ≤ far - n
  pub packets : t.packets ≤ far - room
  pub refused : t.refused ≤ far - room
  pub damaged : t.damaged ≤ far - room
  pub lost : t.lost ≤ far - room

pub near_of : (p : Spot) (t : Totals) (n room : ℕ) → near p t n room ≡ true → Near p t n room
near_of p t n room e =
    let a = and_parts (leb p.offset (far - n)) _ e in
    let b = and_parts (leb t.packets (far - room)) _ a.1 in
    let c = and_parts (leb t.refused (far - room)) _ b.1 in
    let d = and_parts (leb t.damaged (far - room)) _ c.1 in
    record {
      offset = leb-true _ _ a.0;
      packets = leb-true _ _ b.0;
      refused = leb-true _ _ c.0;
      damaged = leb-true _ _ d.0;
      lost = leb-true _ _ d.1;
    }

pub near-is : (p : Spot) (t : Totals) (n room : ℕ) → Near p t n room → near p t n room ≡ true
near-is p t n room i =
    rw (
      le-leb p.offset (far - n) i.offset,
      le-leb t.packets (far - room) i.packets,
      le-leb t.refused (far - room) i.refused,
      le-leb t.damaged (far - room) i.damaged,
      le-leb t.lost (far - room) i.lost,
    ) refl

-- fewer bytes, less room
near-less : (o n m k : ℕ) → o ≤ far - n → k ≤ n → m ≤ o + k → n ≤ far → m ≤ far - (n - k)
near-less o n m k h i j l = omega arith

total-less : (t n w k : ℕ) → t ≤ far - n → k ≤ 1 → 0 < w → w ≤ n → n ≤ far → t + k ≤ far - (n - w)
total-less t n w k h i j l m = omega arith

total-below : (t n : ℕ) → t ≤ far - n → 0 < n → n ≤ far → t < far
total-below t n h i j = omega arith

-- ---- a step
module _ (t : RecordingReader) (u : Totals) (l k bs out : List ℕ) (wide : length bs ≤ far) (wide-out : length out ≤ far)
    (ok : sound t.receiver ≡ true) (room : roomy l k ≡ true) (near-it : near t.spot u (length bs) (length out) ≡ true) where
  abbrev m : Deck
  m = deck_of t l k

  ni : Near t.spot u (length bs) (length out)
  ni = near_of t.spot u (length bs) (length out) near-it

  none-room : (f : ℕ) → length out < longest → print f (length out) m u bs ≡ printed Room m u
  unfolding print
  none-room zero h = refl
  none-room (suc f) h = rw (lt-ltb (length out) longest h)

  -- no room for a line
  pub step_room : length out < longest
      → StepIs m u bs out (record { wants = Some wanting.Room; taken = 0; written = 0; next = record { tape = t; totals = u } }) l k out
  step_room h = record {
    text = [];
    means = λ f i. none-room f h;
    written = refl;
    fits = omega arith;
    output = refl;
    stays = record { within = omega arith; near = omega arith; sound = ok; roomy = room };
    nears = near-is t.spot u (length bs - 0) (length out - 0) (rw (sub-zero (length bs), sub-zero (length out)) ni);
  }

  module _ (h : Hearing) (l' k' : List ℕ) (next : NextIs (tape_call m bs) h l' k') (roomy-out : longest ≤ length out) where
    -- the call on the tape passes 10 and 11
    heard : HeardIs m bs h l' k'
    heard = next-heard t l k bs ok (le-leb _ _ ni.offset) room next

    -- what stays within its limits
    abbrev stay : Stays m bs h.taken h.tape l' k'
    stay = heard.1

    asked : (f : ℕ) → print (suc f) (length out) m u bs
        ≡ on_answer (deck_hear m bs).0 (further (deck_hear m bs).1 [] (printed More (deck_hear m bs).2 u))
        (λ a. further (deck_hear m bs).1 (line a) (print f (length out - length (line a)) (deck_hear m bs).2 (counted u a) (drop (deck_hear m bs).1 bs)))
    unfolding print
    asked f = rw (le-ltb (length out) longest roomy-out)

    abbrev answering : Option Event → ℕ → Printed
    answering o f =
        on_answer o (further h.taken [] (printed More (deck_of h.tape l' k') u))
        (λ a. further h.taken (line a) (print f (length out - length (line a)) (deck_of h.tape l' k') (counted u a) (drop h.taken bs)))

    told : (f : ℕ) (o : Option Event) → (deck_hear m bs).0 ≡ o → print (suc f) (length out) m u bs ≡ answering o f
    told f o e =
        asked f
        ∙ ap (λ (x : Option Event × ℕ × Deck).
        on_answer x.0 (further x.1 [] (printed More x.2 u))
        (λ a. further x.1 (line a) (print f (length out - length (line a)) x.2 (counted u a) (drop x.1 bs)))) heard.0.1
        ∙ ap (λ (x : Option Event). answering x f) e

    near-spot : h.tape.spot.offset ≤ far - (length bs - h.taken)
    near-spot = near-less t.spot.offset (length bs) h.tape.spot.offset h.taken ni.offset stay.within stay.near wide

    more-means : (deck_hear m bs).0 ≡ none → (f : ℕ) → length out ≤ f → print f (length out) m u bs ≡ answering none (f - 1)
    more-means e zero i = absurd (omega arith)
    more-means e (suc f) i = let g : suc f - 1 ≡ f = omega arith in told f none e ∙ ap (answering none) (sym g)

    -- no answer: more bytes are wanted
    pub step-more : is_more h.answer ≡ true
        → StepIs m u bs out (record { wants = Some wanting.More; taken = h.taken; written = 0; next = record { tape = h.tape; totals = u } }) l' k' out
    step-more e = record {
      text = [];
      means = more-means (more-none (deck_hear m bs).0 (ap is_more (sym heard.0.0) ∙ e));
      written = refl;
      fits = omega arith;
      output = refl;
      stays = stay;
      nears = near-is h.tape.spot u (length bs - h.taken) (length out - 0) (rw (sub-zero (length out)) (record {
        offset = near-spot;
        packets = ni.packets;
        refused = ni.refused;
        damaged = ni.damaged;
        lost = ni.lost;
      }));
    }

    -- no total is the greatest number
    below : Below u
    below = (
      total-below _ (length out) ni.packets (omega arith) wide-out,
      total-below _ (length out) ni.refused (omega arith) wide-out,
      total-below _ (length out) ni.damaged (omega arith) wide-out,
      total-below _ (length out) ni.lost (omega arith) wide-out,
    )

    -- an answer's line
    pub step_line : is_more h.answer ≡ false → (w : ℕ) (out' : List ℕ) (u' : Totals)
        → (w ≡ length (line h.answer)) × (out' ≡ line h.answer ++ drop (length (line h.answer)) out) → u' ≡ counting u h.answer
        → StepIs m u bs out (record { wants = None; taken = h.taken; written = w; next = record { tape = h.tape; totals = u' } }) l' k' out'
    step_line e w out' u' p q =
        let c : u' ≡ counted u h.answer = q ∙ counting-below u h.answer below in
        let o = more-some (deck_hear m bs).0 (ap is_more (sym heard.0.0) ∙ e) in
        let a : given o.0 ≡ h.answer = sym (heard.0.0 ∙ ap answered o.1) in
        let s : length (line h.answer) ≤ longest = line-short h.answer in
        let i : 0 < length (line h.answer) = subst (λ (x : Answer). 0 < length (line x)) a (line-some o.0) in
        let v : w ≡ length (line h.answer) = p.0 in
        record {
          text = line h.answer;
          means = (
            (λ f r.
                told f (some o.0) o.1
                ∙ ap (λ (x : Answer). further h.taken (line x)
                (print f (length out - length (line x)) (deck_of h.tape l' k') (counted u x) (drop h.taken bs))) a
                ∙ ap (λ (x : Totals). further h.taken (line h.answer)
                (print f (length out - length (line h.answer)) (deck_of h.tape l' k') x (drop h.taken bs))) (sym c)),
            i,
          );
          written = v;
          fits = omega arith;
          output = p.1;
          stays = stay;
          nears =
              near-is h.tape.spot u' (length bs - h.taken) (length out - w)
              (subst (λ (x : Totals). Near h.tape.spot x (length bs - h.taken) (length out - w)) (sym c) (record {
                offset = near-spot;
                packets = total-less _ (length out) w _ ni.packets (one-most (is_packet h.answer)) (omega arith) (omega arith) wide-out;
                refused = total-less _ (length out) w _ ni.refused (one-most (is_refusal h.answer)) (omega arith) (omega arith) wide-out;
                damaged = total-less _ (length out) w _ ni.damaged (one-most (is_damaged h.answer)) (omega arith) (omega arith) wide-out;
                lost = total-less _ (length out) w _ ni.lost (one-most (is_lost h.answer)) (omega arith) (omega arith) wide-out;
              }));
        }
