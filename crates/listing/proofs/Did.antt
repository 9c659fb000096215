-- What a call did: it printed the lines of some answers and counted them, and what is left has the others.
-- count_all             answers counted one by one
-- Did, print-did, takes-did    that, of a call
-- Prints, all-prints   what the calls on all pieces print is the lines of all answers
-- before               answers before others
-- LeftBy, left-room, left-more   what is left behind a call, by what it wants
-- lists-prints         what the calls on one piece print
use Prim.Native.Nat.{ℕ, zero, suc, ◌+◌, ◌-◌}
use native.Mathlib.Omega.{arith}
use mathlib.Core.Path.{◌≡◌, refl, sym, ◌∙◌, ap, subst}
use mathlib.Core.Bool.{Bool, true, false}
use mathlib.Core.List.{List, [], ◌∷◌, ◌++◌, append_assoc}
use mathlib.Core.Option.{Option, some, none}
use lib.Dec.{ltb}
use lib.ListN.{length, drop}
use lib.Seq.{drop-drop}
use Rattle.base.specs.Choice.{pick}
use Rattle.base.specs.Calls.{joined, told, and_then, drain, rest}
use Rattle.base.proofs.Calls.{law, settled, all_append}
use Rattle.channel_spec.specs.Meaning.{Event}
use Rattle.channel.specs.Call.{sound, roomy}
use Rattle.channel_spec.specs.declared.Answer.{Answer}
use Rattle.listing_spec.specs.Lines.{line, given, lines, longest}
use Rattle.recording.specs.Deck.{Deck, deck_owes, deck_hand, deck_eat, deck_all, deck_hear}
use Rattle.recording.proofs.Ears.{deck-hand-one}
use Rattle.listing_lines.specs.declared.totals.Totals.{Totals}
use Rattle.listing.specs.Wants.{Wants}
use Rattle.listing.specs.Wants.{More, Room, Refused}
use Rattle.listing.specs.Call.{counted, Printed, printed, further, on_answer, print, near, takes_by, takes}
use Rattle.listing.specs.Runs.{Lists, ListsAll}
use Rattle.listing.specs.Runs.Lists.{more, room}
use Rattle.listing.specs.Runs.ListsAll.{done, piece}
use Rattle.listing.proofs.Tags.{wants_tag}

-- answers counted one by one
abbrev pub count_all : Totals → List Event → Totals
count_all t [] = t
count_all t (e ∷ es) = count_all (counted t (given e)) es

-- answers before others
abbrev pub before : List Event → List Event × Deck → List Event × Deck
before es r = (es ++ r.0, r.1)

-- what is left behind a call, by what it wants
abbrev pub LeftBy : Wants → List Event → Deck → ℕ → List ℕ → List Event × Deck → Type 0
LeftBy More es m n bs all = all ≡ (es, m)
LeftBy Room es m n bs all = all ≡ before es (deck_all m (drop n bs))
LeftBy (Refused k) es m n bs all = all ≡ before es (deck_all m (drop n bs))

pub record Did (t : Totals) (bs : List ℕ) (all : List Event × Deck) (r : Printed) : Type 0 where
  pub events : List Event
  pub text : r.text ≡ lines events
  pub counts : r.totals ≡ count_all t events
  pub left : LeftBy r.wants events r.deck r.taken bs all

none-did : (t : Totals) (bs : List ℕ) (m : Deck) (w : Wants) → LeftBy w [] m 0 bs (deck_all m bs) → Did t bs (deck_all m bs) (printed w m t)
unfolding lines
none-did t bs m w h = record { events = []; text = refl; counts = refl; left = h }

left_behind : (w : Wants) (e : Event) (es : List Event) (m : Deck) (n k : ℕ) (bs : List ℕ) (all : List Event × Deck)
    → LeftBy w es m k (drop n bs) all → LeftBy w (e ∷ es) m (n + k) bs (before (e ∷ []) all)
left_behind More e es m n k bs all h = ap (before (e ∷ [])) h
left_behind Room e es m n k bs all h = ap (before (e ∷ [])) h ∙ ap (λ (l : List ℕ). before (e ∷ es) (deck_all m l)) (drop-drop k n bs)
left_behind (Refused c) e es m n k bs all h = ap (before (e ∷ [])) h ∙ ap (λ (l : List ℕ). before (e ∷ es) (deck_all m l)) (drop-drop k n bs)

line-did : (t : Totals) (bs : List ℕ) (n : ℕ) (e : Event) (all : List Event × Deck) (r : Printed) → Did (counted t (given e)) (drop n bs) all r
    → Did t bs (before (e ∷ []) all) (further n (line (given e)) r)
unfolding lines
line-did t bs n e all r d = record {
  events = e ∷ d.events;
  text = ap (λ (l : List ℕ). line (given e) ++ l) d.text;
  counts = d.counts;
  left = left_behind r.wants e d.events r.deck n r.taken bs all d.left;
}

answer-did : (m : Deck) (t : Totals) (bs : List ℕ) (next : Answer → Deck → List ℕ → Printed)
    → ((e : Event) (k : Deck) (l : List ℕ) → Did (counted t (given e)) l (deck_all k l) (next (given e) k l))
    → (o : Option Event) (n : ℕ) (k : Deck) → deck_all m bs ≡ told deck_owes deck_hand deck_eat (o, n, k) bs
    → Did t bs (deck_all m bs) (on_answer o (further n [] (printed More k t)) (λ a. further n (line a) (next a k (drop n bs))))
unfolding lines
answer-did m t bs next ih none n k e = record { events = []; text = refl; counts = refl; left = e }
answer-did m t bs next ih (some x) n k e =
    subst (λ (q : List Event × Deck). Did t bs q (further n (line (given x)) (next (given x) k (drop n bs)))) (sym e)
    (line-did t bs n x (deck_all k (drop n bs)) (next (given x) k (drop n bs)) (ih x k (drop n bs)))

pub print-did : (f n : ℕ) (m : Deck) (t : Totals) (bs : List ℕ) → Did t bs (deck_all m bs) (print f n m t bs)
unfolding print
print-did zero n m t bs = none-did t bs m Room refl
print-did (suc f) n m t bs =
    go (ltb n longest)
    (answer-did m t bs (λ a k l. print f (n - length (line a)) k (counted t a) l) (λ e k l. print-did f (n - length (line (given e))) k (counted t (given e)) l)
    (deck_hear m bs).0 (deck_hear m bs).1 (deck_hear m bs).2 (law deck_owes deck_hand deck_eat deck-hand-one m bs))
  where
    go : (b : Bool) {r : Printed} → Did t bs (deck_all m bs) r → Did t bs (deck_all m bs) (pick b (printed Room m t) r)
    go true d = none-did t bs m Room refl
    go false d = d

pub takes-did : (n : ℕ) (m : Deck) (t : Totals) (bs : List ℕ) → Did t bs (deck_all m bs) (takes m t n bs)
takes-did n m t bs = go (sound m.ear.memory.st) (near m.spot t (length bs) n) (roomy m.ear.memory.recv m.ear.memory.word)
  where
    go : (a b c : Bool) → Did t bs (deck_all m bs) (takes_by a b c m t n bs)
    go false b c = none-did t bs m (Refused 10) refl
    go true false c = none-did t bs m (Refused 10) refl
    go true true false = none-did t bs m (Refused 11) refl
    go true true true = print-did n n m t bs

-- ---- runs
pub left-room : (w : Wants) (es : List Event) (m : Deck) (n : ℕ) (bs : List ℕ) (all : List Event × Deck) → LeftBy w es m n bs all → w ≡ Room
    → all ≡ before es (deck_all m (drop n bs))
left-room More es m n bs all h e = absurd (omega (arith, ap wants_tag e))
left-room Room es m n bs all h e = h
left-room (Refused k) es m n bs all h e = h

pub left-more : (w : Wants) (es : List Event) (m : Deck) (n : ℕ) (bs : List ℕ) (all : List Event × Deck) → LeftBy w es m n bs all → w ≡ More → all ≡ (es, m)
left-more More es m n bs all h e = h
left-more Room es m n bs all h e = absurd (omega (arith, ap wants_tag e))
left-more (Refused k) es m n bs all h e = absurd (omega (arith, ap wants_tag e))

lines-append : (xs ys : List Event) → lines (xs ++ ys) ≡ lines xs ++ lines ys
unfolding lines
lines-append [] ys = refl
lines-append (x ∷ xs) ys = ap (λ (l : List ℕ). line (given x) ++ l) (lines-append xs ys) ∙ sym (append_assoc (line (given x)) (lines xs) (lines ys))

count-append : (t : Totals) (xs ys : List Event) → count_all t (xs ++ ys) ≡ count_all (count_all t xs) ys
count-append t [] ys = refl
count-append t (x ∷ xs) ys = count-append (counted t (given x)) xs ys

-- what calls print is the lines of all answers of the bytes, which are counted
pub record Prints (m : Deck) (t : Totals) (bs text : List ℕ) (m' : Deck) (t' : Totals) : Type 0 where
  pub events : List Event
  pub are : deck_all m bs ≡ (events, m')
  pub says : text ≡ lines events
  pub counts : t' ≡ count_all t events

module _ (rooms : ℕ → ℕ) where
  pub lists-prints : {i j : ℕ} {m m' : Deck} {t t' : Totals} {bs text : List ℕ} → Lists rooms i m t bs j text m' t' → Prints m t bs text m' t'
  lists-prints {i} {m = m} {t = t} {bs = bs} (more e) =
      let d = takes-did (rooms i) m t bs in
      let r : Printed = takes m t (rooms i) bs in
      record {
        events = d.events;
        are = left-more r.wants d.events r.deck r.taken bs (deck_all m bs) d.left e;
        says = d.text;
        counts = d.counts;
      }
  lists-prints {i} {m = m} {t = t} {bs = bs} (room e l) =
      let d = takes-did (rooms i) m t bs in
      let r : Printed = takes m t (rooms i) bs in
      let p = lists-prints l in
      record {
        events = d.events ++ p.events;
        are = left-room r.wants d.events r.deck r.taken bs (deck_all m bs) d.left e ∙ ap (before d.events) p.are;
        says = (λ k. d.text k ++ p.says k) ∙ sym (lines-append d.events p.events);
        counts = p.counts ∙ ap (λ (u : Totals). count_all u p.events) d.counts ∙ sym (count-append t d.events p.events);
      }

  -- bytes that are read whole owe nothing: the next piece goes on from there
  pub all-prints : {i j : ℕ} {m m' : Deck} {t t' : Totals} {ps : List (List ℕ)} {text : List ℕ} → deck_owes m ≡ 0 → ListsAll rooms i m t ps j text m' t'
      → Prints m t (joined ps) text m' t'
  unfolding lines
  all-prints {m = m} h done = record {
    events = [];
    are = ap (λ n. drain deck_owes deck_hand deck_eat n m (rest deck_owes deck_hand deck_eat [])) h;
    says = refl;
    counts = refl;
  }
  all-prints {m = m} {t = t} h (piece {m₁ = m₁} {p = p} {ps = ps} l ls) =
      let a = lists-prints l in
      let z : deck_owes m₁ ≡ 0 = subst (λ (q : List Event × Deck). deck_owes q.1 ≡ 0) a.are (settled deck_owes deck_hand deck_eat deck-hand-one m p) in
      let b = all-prints z ls in
      record {
        events = a.events ++ b.events;
        are =
            all_append deck_owes deck_hand deck_eat deck-hand-one m p (joined ps)
            ∙ (λ k. and_then (a.are k) (λ u. deck_all u (joined ps))) ∙ ap (before a.events) b.are;
        says = (λ k. a.says k ++ b.says k) ∙ sym (lines-append a.events b.events);
        counts = b.counts ∙ ap (λ (u : Totals). count_all u b.events) a.counts ∙ sym (count-append t a.events b.events);
      }
