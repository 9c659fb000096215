-- A run of calls exists and comes to its end, whatever room each call has, if it is room for a line.
-- answers-few      a recording has no more than 224 answers for each byte of its stream
-- Safe             no call is refused
-- listing-ends     every cutting of a recording is listed by a run of calls
-- finish-ends      the finishing call is not refused where any line has room
-- print-not        printing refuses nothing
use Prim.Native.Nat.{ℕ, zero, suc, ◌+◌, ◌-◌, ◌*◌, ◌≤◌, ◌<◌}
use native.Mathlib.Omega.{arith}
use mathlib.Core.Path.{◌≡◌, refl, sym, ◌∙◌, ap, subst}
use mathlib.Core.Bool.{Bool, true, false}
use mathlib.Core.List.{List, [], ◌∷◌, ◌++◌}
use mathlib.Core.Option.{Option, some, none}
use lib.Dec.{eqb, ltb}
use lib.ListN.{length, drop, length-append, length-drop}
use borrow.Author.Tests.{le-ltb, ltb-true}
use Rattle.base.specs.Choice.{pick}
use Rattle.base.specs.Calls.{joined, tell, drain, rest}
use Rattle.base.specs.Written.{Wrote}
use Rattle.base.proofs.Calls.{all_append}
use Rattle.base.proofs.Writing.{write-fits}
use Rattle.packet_spec.specs.Contents.{raw_limit}
use Rattle.channel_spec.specs.Sender.{message_bytes, word_bytes}
use Rattle.channel_spec.specs.Meaning.{Event}
use Rattle.channel.specs.Call.{Memory, memory, fresh_receiver, owed_by}
use Rattle.channel_spec.specs.declared.Answer.{Answer}
use Rattle.channel.proofs.Fine.{fine-is, fine-roomy, fine-fresh}
use Rattle.listing_spec.specs.declared.Place.{Place}
use Rattle.listing_spec.specs.declared.Place.TheVariants.{Mode, Mark, Second, Low, High, Inside, Wrong}
use Rattle.listing_spec.specs.declared.Spot.{Spot}
use Rattle.listing_spec.specs.Apart.{most, fresh_spot, on, wrong, through, next_at, next, in_stream, apart, well, keep}
use Rattle.listing_spec.specs.Lines.{given, line, lines, is_packet, is_refusal, is_damaged, is_lost, longest}
use Rattle.listing_lines.proofs.Short.{line-some, end_short, wrong-short}
use Rattle.recording.specs.Deck.{Ear, ear, owes_by, ear_owes, ear_hand, ear_eat, Deck, fresh, deck_owes, deck_hand, deck_eat, deck_all, deck_hear}
use Rattle.recording.specs.Call.{far}
use Rattle.recording.proofs.Ears.{deck-hand-one}
use Rattle.recording.proofs.Kept.{FineDeck, Kept, hear-kept}
use Rattle.recording.proofs.Means.{ear_all, means-start, fresh-owes}
use Rattle.listing_lines.specs.declared.totals.Totals.{Totals}
use Rattle.listing.specs.declared.lister.Lister.{Lister}
use Rattle.listing.specs.Wants.{Wants}
use Rattle.listing.specs.Wants.{More, Room, Refused}
use Rattle.listing.specs.Call.{no_totals, counted, Printed, printed, further, on_answer, print, takes_by, takes, last_by, last_of, finishing}
use Rattle.listing.specs.Runs.{Lists, Run, Fair}
use Rattle.listing.specs.Runs.Lists.{more, room}
use Rattle.listing.specs.Runs.ListsAll.{done, piece}
use Rattle.listing.proofs.Tags.{wants_tag}
use Rattle.listing.proofs.Counting.{one-most}
use Rattle.listing.proofs.Printing.{Near, near-is}
use Rattle.listing.proofs.Did.{count_all, before, left-room, left-more, Did, takes-did, lists-prints}
use Rattle.listing.proofs.Listing.{apart-count}

-- ---- how many answers there are
owes-by : (l t : Bool) (h : ℕ) → owed_by l t h ≤ message_bytes
owes-by true true h = omega arith
owes-by true false h = omega arith
owes-by false t h = omega arith

ear-by : (t : Bool) (c : Memory) → owes_by t c ≤ message_bytes
ear-by true c = owes-by c.st.locked (eqb c.st.lock.word word_bytes) c.st.lock.handed
ear-by false c = omega arith

few-owed : (d : Ear) → ear_owes d ≤ message_bytes
unfolding ear_owes
few-owed d = ear-by d.channel d.memory

tell-few : (o : Option Event) (r : List Event × Ear) (n : ℕ) → length r.0 ≤ n → length (tell o r).0 ≤ suc n
tell-few none r n h = omega arith
tell-few (some a) r n h = omega arith

drain-few : (k : Ear → List Event × Ear) (c : ℕ) → ((d : Ear) → length (k d).0 ≤ c) → (n : ℕ) (d : Ear)
    → length (drain ear_owes ear_hand ear_eat n d k).0 ≤ n + c
drain-few k c h zero d = let g = h d in omega arith
drain-few k c h (suc n) d =
    let g = tell-few (ear_hand d).0 (drain ear_owes ear_hand ear_eat n (ear_hand d).1 k) (n + c) (drain-few k c h n (ear_hand d).1) in
    omega arith

rest-few : (bs : List ℕ) (d : Ear) → length (rest ear_owes ear_hand ear_eat bs d).0 ≤ 224 * length bs
rest-few [] d = omega arith
rest-few (b ∷ bs) d =
    let t : Ear = (ear_eat d b).1 in
    let g = drain-few (rest ear_owes ear_hand ear_eat bs) (224 * length bs) (rest-few bs) (ear_owes t) t in
    let e = tell-few (ear_eat d b).0 (ear_all t bs) (ear_owes t + 224 * length bs) g in
    omega (arith, few-owed t)

all-few : (bs : List ℕ) (d : Ear) → length (ear_all d bs).0 ≤ ear_owes d + 224 * length bs
all-few bs d = drain-few (rest ear_owes ear_hand ear_eat bs) (224 * length bs) (rest-few bs) (ear_owes d) d

-- ---- how long a stream is
most-pick : (t : Bool) (p q : Spot) → p.count ≤ most → q.count ≤ most → (pick t p q).count ≤ most
most-pick true p q h k = h
most-pick false p q h k = k

most-at : (q : Place) (p : Spot) (b : ℕ) → p.count ≤ most → (next_at q p b).count ≤ most
unfolding next_at
most-at Mode p b h = most-pick (eqb b 0x50) (on Mark p) (pick (eqb b 0x4F) (on Mark p) (wrong p)) h (most-pick (eqb b 0x4F) (on Mark p) (wrong p) h h)
most-at Mark p b h = most-pick (eqb b 0xF5) (on Second p) (wrong p) h h
most-at Second p b h = most-pick (eqb b 0x5F) (on Low p) (wrong p) h h
most-at Low p b h = h
most-at (High l) p b h = h
most-at (Inside k) p b h = go (ltb p.count most) refl
  where
    go : (t : Bool) → ltb p.count most ≡ t → (pick t (through k p) (wrong p)).count ≤ most
    go true e = let l : p.count < most = ltb-true _ _ e in omega arith
    go false e = h
most-at Wrong p b h = h

apart-most : (bs : List ℕ) (p : Spot) → p.count ≤ most → (apart p bs).1.count ≤ most
unfolding apart
apart-most [] p h = h
apart-most (b ∷ bs) p h = go (in_stream p.place p.count) (apart-most bs (next p b) (most-at p.place p b h))
  where
    go : (t : Bool) → (apart (next p b) bs).1.count ≤ most → (keep t b (apart (next p b) bs)).1.count ≤ most
    go true k = k
    go false k = k

-- no more answers than so many
abbrev few : ℕ
few = 962072674080

module _ (recv word : List ℕ) (recv-room : raw_limit ≤ length recv) (word_room : word_bytes ≤ length word) where
  pub answers-few : (file : List ℕ) → length (deck_all (fresh recv word) file).0 ≤ few
  answers-few [] = go (fresh-owes recv word recv-room word_room false)
    where
      go : deck_owes (fresh recv word) ≡ 0 → length (deck_all (fresh recv word) []).0 ≤ few
      go e = rw e (omega arith)
  answers-few (b ∷ bs) =
      let q : List ℕ × Spot = apart (next fresh_spot b) bs in
      let d : Ear = ear (eqb b 0x4F) (memory fresh_receiver recv word) in
      let s : length q.0 ≤ most = omega
      (arith, apart-count bs (next fresh_spot b), apart-most bs (next fresh_spot b) (most-at Mode fresh_spot b (omega arith))) in
      let e = ap (λ (x : List Event × Deck). length x.0)
      (means-start b bs (ear false (memory fresh_receiver recv word)) (fresh-owes recv word recv-room word_room false)) in
      omega (arith, e, all-few q.0 d, fresh-owes recv word recv-room word_room (eqb b 0x4F), s)

-- ---- what a call keeps
behind-kept : (m k : Deck) (bs ws : List ℕ) (n : ℕ) (r : Printed) → Kept m bs n k → Kept k (drop n bs) r.taken r.deck
    → Kept m bs (further n ws r).taken (further n ws r).deck
behind-kept m k bs ws n r h j =
    record { fine = j.fine; within = omega (arith, h.within, j.within, length-drop n bs); near = omega (arith, h.near, j.near) }

none_kept : (m : Deck) (bs : List ℕ) → FineDeck m → Kept m bs 0 m
none_kept m bs i = record { fine = i; within = omega arith; near = omega arith }

answer-kept : (m : Deck) (t : Totals) (bs : List ℕ) → FineDeck m → (next : Answer → Printed)
    → ((a : Answer) → Kept m bs (next a).taken (next a).deck) → (o : Option Event)
    → let r = on_answer o (further (deck_hear m bs).1 [] (printed More (deck_hear m bs).2 t)) next in Kept m bs r.taken r.deck
answer-kept m t bs i next k none =
    let h = hear-kept m bs i in
    behind-kept m (deck_hear m bs).2 bs [] (deck_hear m bs).1 (printed More (deck_hear m bs).2 t) h
    (none_kept (deck_hear m bs).2 (drop (deck_hear m bs).1 bs) h.fine)
answer-kept m t bs i next k (some e) = k (given e)

room-kept : (b : Bool) (m : Deck) (t : Totals) (bs : List ℕ) (r : Printed) → FineDeck m → Kept m bs r.taken r.deck
    → Kept m bs (pick b (printed Room m t) r).taken (pick b (printed Room m t) r).deck
room-kept true m t bs r i k = none_kept m bs i
room-kept false m t bs r i k = k

print-kept : (f n : ℕ) (m : Deck) (t : Totals) (bs : List ℕ) → FineDeck m → Kept m bs (print f n m t bs).taken (print f n m t bs).deck
unfolding print
print-kept zero n m t bs i = none_kept m bs i
print-kept (suc f) n m t bs i =
    let h = hear-kept m bs i in
    let x : Option Event × ℕ × Deck = deck_hear m bs in
    let next : Answer → Printed = λ a. further x.1 (line a) (print f (n - length (line a)) x.2 (counted t a) (drop x.1 bs)) in
    room-kept (ltb n longest) m t bs (on_answer x.0 (further x.1 [] (printed More x.2 t)) next) i
    (answer-kept m t bs i next
    (λ a. behind-kept m x.2 bs (line a) x.1 (print f (n - length (line a)) x.2 (counted t a) (drop x.1 bs)) h
    (print-kept f (n - length (line a)) x.2 (counted t a) (drop x.1 bs) h.fine))
    x.0)

-- ---- with room for a line, a call that wants more room has printed something
some-printed : (f n : ℕ) (m : Deck) (t : Totals) (bs : List ℕ) → longest ≤ n → (print (suc f) n m t bs).wants ≡ Room → 0 < length (print (suc f) n m t bs).text
unfolding print
some-printed f n m t bs h = rw (le-ltb n longest h) (go (deck_hear m bs).0)
  where
    go : (o : Option Event)
        → (on_answer o (further (deck_hear m bs).1 [] (printed More (deck_hear m bs).2 t))
        (λ a. further (deck_hear m bs).1 (line a) (print f (n - length (line a)) (deck_hear m bs).2 (counted t a) (drop (deck_hear m bs).1 bs)))).wants
        ≡ Room
        → 0 < length (on_answer o (further (deck_hear m bs).1 [] (printed More (deck_hear m bs).2 t))
        (λ a. further (deck_hear m bs).1 (line a) (print f (n - length (line a)) (deck_hear m bs).2 (counted t a) (drop (deck_hear m bs).1 bs)))).text
    go none e = absurd (omega (arith, ap wants_tag e))
    go (some x) e =
        let r = print f (n - length (line (given x))) (deck_hear m bs).2 (counted t (given x)) (drop (deck_hear m bs).1 bs) in
        omega (arith, line-some x, length-append (line (given x)) r.text)

-- printing refuses nothing
pub print-not : (f n : ℕ) (m : Deck) (t : Totals) (bs : List ℕ) (c : ℕ) → (print f n m t bs).wants ≡ Refused c → ⊥
unfolding print
print-not zero n m t bs c = λ e. omega (arith, ap wants_tag e)
print-not (suc f) n m t bs c =
    room-not (ltb n longest) (on_answer (deck_hear m bs).0 (further (deck_hear m bs).1 [] (printed More (deck_hear m bs).2 t))
    (λ a. further (deck_hear m bs).1 (line a) (print f (n - length (line a)) (deck_hear m bs).2 (counted t a) (drop (deck_hear m bs).1 bs))))
    (answer-not (deck_hear m bs).0 (λ a. print-not f (n - length (line a)) (deck_hear m bs).2 (counted t a) (drop (deck_hear m bs).1 bs) c))
  where
    room-not : (b : Bool) (r : Printed) → (r.wants ≡ Refused c → ⊥) → (pick b (printed Room m t) r).wants ≡ Refused c → ⊥
    room-not true r h e = omega (arith, ap wants_tag e)
    room-not false r h e = h e

    answer-not : (o : Option Event)
        → ((a : Answer) → (print f (n - length (line a)) (deck_hear m bs).2 (counted t a) (drop (deck_hear m bs).1 bs)).wants ≡ Refused c → ⊥)
        → (on_answer o (further (deck_hear m bs).1 [] (printed More (deck_hear m bs).2 t))
        (λ a. further (deck_hear m bs).1 (line a) (print f (n - length (line a)) (deck_hear m bs).2 (counted t a) (drop (deck_hear m bs).1 bs)))).wants
        ≡ Refused c → ⊥
    answer-not none k e = omega (arith, ap wants_tag e)
    answer-not (some x) k e = k (given x) e

some-events : (es : List Event) → 0 < length (lines es) → 0 < length es
unfolding lines
some-events [] h = h
some-events (e ∷ es) h = omega arith

-- ---- no call is refused: n bytes and so many answers are still to come
abbrev half : ℕ
half = 9223372036854775808

pub record Safe (m : Deck) (t : Totals) (n answers : ℕ) : Type 0 where
  pub fine : FineDeck m
  pub offset : m.spot.offset + n ≤ far
  pub packets : t.packets + answers ≤ few
  pub refused : t.refused + answers ≤ few
  pub damaged : t.damaged + answers ≤ few
  pub lost : t.lost + answers ≤ few

under : (t a n : ℕ) → t + a ≤ few → n ≤ half → t ≤ far - n
under t a n h k = omega arith

safe-takes : (m : Deck) (t : Totals) (bs : List ℕ) (n k a : ℕ) → Safe m t (length bs + k) a → n ≤ half → takes m t n bs ≡ print n n m t bs
safe-takes m t bs n k a s h =
    let i : Near m.spot t (length bs) n = record {
      offset = omega (arith, s.offset);
      packets = under _ a n s.packets h;
      refused = under _ a n s.refused h;
      damaged = under _ a n s.damaged h;
      lost = under _ a n s.lost h;
    } in
    λ j. takes_by (fine-is m.ear.memory s.fine j) (near-is m.spot t (length bs) n i j) (fine-roomy m.ear.memory s.fine j) m t n bs

-- answers counted: no total grows by more than their number
record Grown (t u : Totals) (n : ℕ) : Type 0 where
  packets : u.packets ≤ t.packets + n
  refused : u.refused ≤ t.refused + n
  damaged : u.damaged ≤ t.damaged + n
  lost : u.lost ≤ t.lost + n

grown : (es : List Event) (t : Totals) → Grown t (count_all t es) (length es)
grown [] t = record { packets = omega arith; refused = omega arith; damaged = omega arith; lost = omega arith }
grown (e ∷ es) t =
    let g = grown es (counted t (given e)) in
    record {
      packets = omega (arith, g.packets, one-most (is_packet (given e)));
      refused = omega (arith, g.refused, one-most (is_refusal (given e)));
      damaged = omega (arith, g.damaged, one-most (is_damaged (given e)));
      lost = omega (arith, g.lost, one-most (is_lost (given e)));
    }

safe-on : (m m' : Deck) (t t' : Totals) (bs : List ℕ) (n k a b : ℕ) (es : List Event) → Safe m t (length bs + k) a → Kept m bs n m' → t' ≡ count_all t es
    → length es + b ≤ a
    → Safe m' t' (length bs - n + k) b
safe-on m m' t t' bs n k a b es s h e l =
    let g = grown es t in
    subst (λ (u : Totals). Safe m' u (length bs - n + k) b) (sym e) (record {
      fine = h.fine;
      offset = omega (arith, s.offset, h.near, h.within);
      packets = omega (arith, s.packets, g.packets);
      refused = omega (arith, s.refused, g.refused);
      damaged = omega (arith, s.damaged, g.damaged);
      lost = omega (arith, s.lost, g.lost);
    })

-- ---- runs
module _ (rooms : ℕ → ℕ) (fair : Fair rooms) where
  -- a run on one piece; k bytes and b answers come behind it
  record Ends (i : ℕ) (m : Deck) (t : Totals) (bs : List ℕ) (k b : ℕ) : Type 0 where
    calls : ℕ
    text : List ℕ
    deck : Deck
    totals : Totals
    run : Lists rooms i m t bs calls text deck totals
    safe : Safe deck totals k b

  module _ (i : ℕ) (m : Deck) (t : Totals) (bs : List ℕ) (k b : ℕ) (s : Safe m t (length bs + k) (length (deck_all m bs).0 + b)) where
    abbrev r : Printed
    r = takes m t (rooms i) bs

    d : Did t bs (deck_all m bs) r
    d = takes-did (rooms i) m t bs

    is-print : r ≡ print (rooms i) (rooms i) m t bs
    is-print = safe-takes m t bs (rooms i) k (length (deck_all m bs).0 + b) s (fair i).1

    kept : Kept m bs r.taken r.deck
    kept = subst (λ (x : Printed). Kept m bs x.taken x.deck) (sym is-print) (print-kept (rooms i) (rooms i) m t bs s.fine)

    -- a call that wants more room has printed the line of an answer
    progress : r.wants ≡ Room → 0 < length d.events
    progress e =
        let n : rooms i ≡ suc (rooms i - 1) = omega (arith, (fair i).0) in
        let q : r ≡ print (suc (rooms i - 1)) (rooms i) m t bs = is-print ∙ ap (λ f. print f (rooms i) m t bs) n in
        let p : 0 < length r.text =
        subst (λ (x : Printed). 0 < length x.text) (sym q) (some-printed (rooms i - 1) (rooms i) m t bs (fair i).0 (sym (ap (λ x. x.wants) q) ∙ e)) in
        some-events d.events (subst (λ (l : List ℕ). 0 < length l) d.text p)

    -- behind it fewer answers are left
    ends_with : ((m' : Deck) (t' : Totals) (bs' : List ℕ) → Safe m' t' (length bs' + k) (length (deck_all m' bs').0 + b)
        → length (deck_all m' bs').0 < length (deck_all m bs).0 → Ends (suc i) m' t' bs' k b)
        → (w : Wants) → r.wants ≡ w → Ends i m t bs k b
    ends_with ih More e =
        let a : deck_all m bs ≡ (d.events, r.deck) = left-more r.wants d.events r.deck r.taken bs (deck_all m bs) d.left e in
        let l : length (deck_all m bs).0 ≡ length d.events = ap (λ (x : List Event × Deck). length x.0) a in
        let u = safe-on m r.deck t r.totals bs r.taken k (length (deck_all m bs).0 + b) b d.events s kept d.counts (omega arith) in
        record {
          calls = suc i;
          text = r.text;
          deck = r.deck;
          totals = r.totals;
          run = more e;
          safe = record { fine = u.fine; offset = omega (arith, u.offset); packets = u.packets; refused = u.refused; damaged = u.damaged; lost = u.lost };
        }
    ends_with ih Room e =
        let a : deck_all m bs ≡ before d.events (deck_all r.deck (drop r.taken bs)) =
        left-room r.wants d.events r.deck r.taken bs (deck_all m bs) d.left e in
        let left : List Event = (deck_all r.deck (drop r.taken bs)).0 in
        let l : length (deck_all m bs).0 ≡ length d.events + length left =
        ap (λ (x : List Event × Deck). length x.0) a ∙ length-append d.events left in
        let u = safe-on m r.deck t r.totals bs r.taken k (length (deck_all m bs).0 + b) (length left + b) d.events s kept d.counts
        (omega arith) in
        let v = ih r.deck r.totals (drop r.taken bs)
        (subst (λ (n : ℕ). Safe r.deck r.totals (n + k) (length left + b)) (sym (length-drop r.taken bs)) u) (omega (arith, progress e)) in
        record { calls = v.calls; text = r.text ++ v.text; deck = v.deck; totals = v.totals; run = room e v.run; safe = v.safe }
    ends_with ih (Refused c) e = absurd (print-not (rooms i) (rooms i) m t bs c (sym (ap (λ x. x.wants) is-print) ∙ e))

  ends_by : (n : ℕ) (i : ℕ) (m : Deck) (t : Totals) (bs : List ℕ) (k b : ℕ) → Safe m t (length bs + k) (length (deck_all m bs).0 + b)
      → length (deck_all m bs).0 ≤ n → Ends i m t bs k b
  ends_by zero i m t bs k b s h = ends_with i m t bs k b s (λ m' t' bs' s' l. absurd (omega arith)) (takes m t (rooms i) bs).wants refl
  ends_by (suc n) i m t bs k b s h =
      ends_with i m t bs k b s (λ m' t' bs' s' l. ends_by n (suc i) m' t' bs' k b s' (omega arith)) (takes m t (rooms i) bs).wants refl

  -- the pieces one after the other
  ends-all : (ps : List (List ℕ)) (i : ℕ) (m : Deck) (t : Totals) → Safe m t (length (joined ps)) (length (deck_all m (joined ps)).0) → Run rooms i m t ps
  ends-all [] i m t s = record { calls = i; text = []; deck = m; totals = t; lists = done }
  ends-all (p ∷ ps) i m t s =
      let rest : List Event × Deck = deck_all (deck_all m p).1 (joined ps) in
      let a : deck_all m (p ++ joined ps) ≡ ((deck_all m p).0 ++ rest.0, rest.1) = all_append deck_owes deck_hand deck_eat deck-hand-one m p (joined ps) in
      let l : length (deck_all m (p ++ joined ps)).0 ≡ length (deck_all m p).0 + length rest.0 =
      ap (λ (x : List Event × Deck). length x.0) a ∙ length-append (deck_all m p).0 rest.0 in
      let u : Safe m t (length p + length (joined ps)) (length (deck_all m p).0 + length rest.0) = record {
        fine = s.fine;
        offset = omega (arith, s.offset, length-append p (joined ps));
        packets = omega (arith, s.packets, l);
        refused = omega (arith, s.refused, l);
        damaged = omega (arith, s.damaged, l);
        lost = omega (arith, s.lost, l);
      } in
      let v = ends_by (length (deck_all m p).0) i m t p (length (joined ps)) (length rest.0) u (omega arith) in
      let e : (deck_all m p).1 ≡ v.deck = ap (λ x. x.1) (lists-prints rooms v.run).are in
      let w = ends-all ps v.calls v.deck v.totals
      (subst (λ (x : Deck). Safe v.deck v.totals (length (joined ps)) (length (deck_all x (joined ps)).0)) e v.safe) in
      record { calls = w.calls; text = v.text ++ w.text; deck = w.deck; totals = w.totals; lists = piece v.run w.lists }

  -- every cutting of a recording below 2^64 bytes is listed by a run of calls
  pub listing-ends : (recv word : List ℕ) → raw_limit ≤ length recv → word_bytes ≤ length word → (pieces : List (List ℕ)) → length (joined pieces) ≤ far
      → Run rooms 0 (fresh recv word) no_totals pieces
  listing-ends recv word a b pieces h =
      let f : length (deck_all (fresh recv word) (joined pieces)).0 ≤ few = answers-few recv word a b (joined pieces) in
      ends-all pieces 0 (fresh recv word) no_totals (record {
        fine = fine-fresh recv word a b;
        offset = omega arith;
        packets = omega arith;
        refused = omega arith;
        damaged = omega arith;
        lost = omega arith;
      })

-- the finishing call is not refused where any line has room
pub finish-ends : (r : Lister) (out : List ℕ) → longest ≤ length out → (finishing r out).answer ≡ Wrote (length (last_of r))
finish-ends r out h = ap (λ o. o.answer) (write-fits (last_of r) out (omega (arith, go (well r.tape.spot.place))))
  where
    go : (t : Bool) → length (last_by t r) ≤ longest
    go true = end_short _ _ _ _ _
    go false = wrong-short _
