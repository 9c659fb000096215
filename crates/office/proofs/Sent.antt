-- What is sent is the stream of exactly the accepted lines, in order; the others are named.
-- sent-append             what is sent of two runs of answers
-- line-sent, line-named   a line
-- fine-sound, fine-roomy, fine-eat, fine-closed   what passes 10 and 11
-- closed                  the end of the input
-- Shows, shows_kept       the line so far
-- says, names             an input, byte by byte
use Prim.Native.Nat.{ℕ, suc, ◌+◌, ◌-◌, ◌*◌, ◌/◌, ◌≤◌, min}
use native.Mathlib.Omega.{arith}
use mathlib.Core.Path.{◌≡◌, refl, sym, ◌∙◌, ap, subst}
use mathlib.Core.Bool.{true, ◌&&◌}
use mathlib.Core.List.{List, [], ◌∷◌, ◌++◌, map, append_assoc, append-nil}
use mathlib.Core.Option.{Option, none}
use lib.ListN.{length, take, drop, length-append, length-drop, length-take}
use lib.Seq.{sets, length-sets, take-nil, take_all, take_at, length-take-le, take-append-le, take-suc-set}
use borrow.Author.Tests.{le-leb}
use Rattle.base.specs.Calls.{tell}
use Rattle.base.proofs.Tests.{by-eq, by_le}
use Rattle.base.proofs.Writing.{copied-fits}
use Rattle.packet_spec.specs.Escape.{flag}
use Rattle.stream.specs.Sender.{raw_of, frames_of}
use Rattle.channel_spec.specs.Sender.{marked}
use Rattle.bid.specs.Line.{feed, line_limit, Verdict, no_bid, refused, accepted, verdict}
use Rattle.bid.specs.Input.{lines_from, packets, numbered, complaints_from}
use Rattle.bid.proofs.Verdicts.{verdict-first}
use Rattle.bid.proofs.Lines.{lines-feed, lines_other, lines_none, lines-one}
use Rattle.office.specs.Meaning.{Spoken, blocks, unread, refusal, Said, put_out, ending_by, Desk, so_far, waiting, kept, ending_of, ended, eat}
use Rattle.office.specs.Meaning.{desk_all, sent_by, complaints_by}
use Rattle.channel_spec.specs.Sender.{wholes, rest_of, message_bytes}
use Rattle.office.specs.Call.{held_limit, hold_limit, sound, roomy, hear_on, end_bytes, Fine, last_of}
use Rattle.channel_spec.proofs.Marking.{rest-short, marked-rest}
use Rattle.office.proofs.Taking.{eat-feed, eat-other, none-begun, one-begun}

-- ---- a line
-- the stream bytes of a line
abbrev bytes_of : Verdict → List ℕ
bytes_of no_bid = []
bytes_of (refused n) = []
bytes_of (accepted p) = raw_of p ++ flag ∷ []

behind-line : (v : Verdict) (vs : List Verdict) → frames_of (packets (v ∷ vs)) ≡ bytes_of v ++ frames_of (packets vs)
unfolding packets
behind-line no_bid vs = refl
behind-line (refused n) vs = refl
behind-line (accepted p) vs = sym (append_assoc (raw_of p) (flag ∷ []) (frames_of (packets vs)))

-- the blocks that are put out
abbrev blocks_of : Spoken → List ℕ
blocks_of (blocks bs) = bs
blocks_of unread = []
blocks_of (refusal n) = []

sent-cons : (k : ℕ) (x : Spoken) (xs : List Said) → sent_by ((k, x) ∷ xs) ≡ blocks_of x ++ sent_by xs
unfolding sent_by
sent-cons k (blocks bs) xs = refl
sent-cons k unread xs = refl
sent-cons k (refusal n) xs = refl

pub sent-append : (xs ys : List Said) → sent_by (xs ++ ys) ≡ sent_by xs ++ sent_by ys
unfolding sent_by
sent-append [] ys = refl
sent-append ((k, blocks bs) ∷ xs) ys = ap (λ (l : List ℕ). bs ++ l) (sent-append xs ys) ∙ sym (append_assoc bs (sent_by xs) (sent_by ys))
sent-append ((k, unread) ∷ xs) ys = sent-append xs ys
sent-append ((k, refusal n) ∷ xs) ys = sent-append xs ys

named-append : (xs ys : List Said) → complaints_by (xs ++ ys) ≡ complaints_by xs ++ complaints_by ys
unfolding complaints_by
named-append [] ys = refl
named-append ((k, blocks bs) ∷ xs) ys = named-append xs ys
named-append ((k, unread) ∷ xs) ys = ap (λ (l : List (ℕ × ℕ)). (k, 0) ∷ l) (named-append xs ys)
named-append ((k, refusal n) ∷ xs) ys = ap (λ (l : List (ℕ × ℕ)). (k, n) ∷ l) (named-append xs ys)

-- what is held is the rest
held-is : (bs hold : List ℕ) → take (put_out bs hold).held (put_out bs hold).hold ≡ rest_of bs
held-is bs hold =
    let r : List ℕ = rest_of bs in
    let x : List ℕ = bs ++ drop (length bs) hold in
    let h : length r ≤ length x = omega (arith, length-drop (length bs / message_bytes * message_bytes) bs, length-append bs (drop (length bs) hold)) in
    ap (take (length r)) (copied-fits r x h) ∙ take_at r (drop (length r) x) (length r) refl

line-sent : (v : Verdict) (at : ℕ) (hold more : List ℕ)
    → blocks_of (ending_by v at hold).said ++ marked (take (ending_by v at hold).held (ending_by v at hold).hold ++ more) ≡ marked
    (take at hold ++ (bytes_of v ++ more))
line-sent no_bid at hold more = refl
line-sent (refused n) at hold more = refl
line-sent (accepted p) at hold more =
    let bs : List ℕ = take at hold ++ (raw_of p ++ flag ∷ []) in
    ap (λ (x : List ℕ). marked (wholes bs) ++ marked (x ++ more)) (held-is bs hold)
    ∙ marked-rest bs more ∙ ap marked (append_assoc (take at hold) (raw_of p ++ flag ∷ []) more)

line-named : (v : Verdict) (k at : ℕ) (hold : List ℕ) (xs : List Said) (vs : List Verdict) → complaints_by xs ≡ complaints_from (numbered k) vs
    → complaints_by ((numbered k, (ending_by v at hold).said) ∷ xs) ≡ complaints_from k (v ∷ vs)
unfolding complaints_by complaints_from
line-named no_bid k at hold xs vs e = ap (λ (l : List (ℕ × ℕ)). (numbered k, 0) ∷ l) e
line-named (refused n) k at hold xs vs e = ap (λ (l : List (ℕ × ℕ)). (numbered k, n) ∷ l) e
line-named (accepted p) k at hold xs vs e = e

-- ---- what passes 10 and 11
pub fine-sound : (d : Desk) → Fine d → sound d.st ≡ true
fine-sound d f = λ i. le-leb _ _ f.stored i && le-leb _ _ f.held i

pub fine-roomy : (d : Desk) → Fine d → roomy d.line d.hold ≡ true
fine-roomy d f = λ i. le-leb _ _ f.line i && le-leb _ _ f.hold i

fine-kept : (d : Desk) (bs : List ℕ) → Fine d → Fine (kept d bs)
fine-kept d bs f = record {
  stored = omega arith;
  held = f.held;
  line = omega (arith, length-sets d.line d.st.stored (take (line_limit - d.st.stored) bs), f.line);
  hold = f.hold;
}

hold-fits : (v : Verdict) (at : ℕ) (hold : List ℕ) → at ≤ held_limit → hold_limit ≤ length hold
    → ((ending_by v at hold).held ≤ held_limit) × (hold_limit ≤ length (ending_by v at hold).hold)
hold-fits no_bid at hold h k = (h, k)
hold-fits (refused n) at hold h k = (h, k)
hold-fits (accepted p) at hold h k =
    let bs : List ℕ = take at hold ++ (raw_of p ++ flag ∷ []) in
    let r : List ℕ = rest_of bs in
    let x : List ℕ = bs ++ drop (length bs) hold in
    let l : length x ≡ length bs + (length hold - length bs) = length-append bs (drop (length bs) hold)
    ∙ ap (λ (n : ℕ). length bs + n) (length-drop (length bs) hold) in
    let s : length r ≤ length x = omega (arith, length-drop (length bs / message_bytes * message_bytes) bs) in
    (omega (arith, rest-short bs), omega (arith, ap length (copied-fits r x s), length-append r (drop (length r) x), length-drop (length r) x))

fine-ended : (d : Desk) → Fine d → Fine (ended d).1
fine-ended d f =
    let h = hold-fits (verdict (so_far d)) d.st.held d.hold f.held f.hold in
    record { stored = omega arith; held = h.0; line = f.line; hold = h.1 }

pub fine-eat : (d : Desk) (b : ℕ) → Fine d → Fine (eat d b).1
fine-eat d b f =
    by-eq b feed (λ e. subst (λ (r : Option Said × Desk). Fine r.1) (sym (eat-feed d b e)) (fine-ended d f))
    (λ n. subst (λ (r : Option Said × Desk). Fine r.1) (sym (eat-other d b n)) (fine-kept d (b ∷ []) f))

-- ---- the line so far: as many of its bytes as decide
abbrev pub Shows : Desk → List ℕ → Type 0
Shows d l = so_far d ≡ take line_limit l

module _ (d : Desk) (l : List ℕ) (f : Fine d) (w : Shows d l) where
  stored_is : d.st.stored ≡ length (take line_limit l)
  stored_is = sym (length-take-le d.st.stored d.line (omega (arith, f.stored, f.line))) ∙ ap length w

  same-verdict : verdict (so_far d) ≡ verdict l
  same-verdict = ap verdict w ∙ verdict-first line_limit l (omega arith)

  shows_kept : (b : ℕ) → Shows (kept d (b ∷ [])) (l ++ b ∷ [])
  shows_kept b =
      let s : ℕ = d.st.stored in
      by_le line_limit s
      (λ k.
      let e : line_limit - s ≡ 0 = omega arith in
      let g : min (s + 1) line_limit ≡ s = omega (arith, f.stored) in
      let m : line_limit ≤ length l = omega (arith, stored_is, length-take line_limit l) in
      (λ i. take (g i) (sets d.line s (take (e i) (b ∷ [])))) ∙ w ∙ sym (take-append-le line_limit l (b ∷ []) m))
      (λ k.
      let n : ℕ = line_limit - suc s in
      let e : line_limit - s ≡ suc n = omega arith in
      let g : min (s + 1) line_limit ≡ suc s = omega arith in
      let m : length l ≤ line_limit = omega (arith, stored_is, length-take line_limit l) in
      let j : length l ≡ s = omega (arith, stored_is, length-take line_limit l) in
      (λ i. take (g i) (sets d.line s (take (e i) (b ∷ []))))
      ∙ ap (λ (x : List ℕ). take (suc s) (sets d.line s (b ∷ x))) (take-nil n)
      ∙ take-suc-set d.line s b (omega (arith, f.line))
      ∙ ap (λ (x : List ℕ). x ++ b ∷ []) (w ∙ take_all line_limit l m)
      ∙ sym (take_all line_limit (l ++ b ∷ []) (omega (arith, length-append l (b ∷ [])))))

  -- a line is begun exactly where some of it is stored
  none-stored : d.st.stored ≡ 0 → length l ≡ 0
  none-stored e = omega (arith, stored_is, length-take line_limit l)

  some_stored : (d.st.stored ≡ 0 → ⊥) → length l ≡ 0 → ⊥
  some_stored n e = n (stored_is ∙ length-take line_limit l ∙ omega arith)

abbrev stream_from : List (List ℕ) → List ℕ
stream_from ls = frames_of (packets (map verdict ls))

-- the end of the input: a line that is begun ends
abbrev pub closed : Desk → Option Said × ℕ × Desk
closed d = hear_on d (end_bytes d)

abbrev lastly : Option Said × ℕ × Desk → List ℕ
lastly r = sent_by (last_of r.0) ++ marked (waiting r.2)

closed_none : (d : Desk) → d.st.stored ≡ 0 → closed d ≡ (none, 0, d)
closed_none d e = ap (hear_on d) (none-begun d e)

closed-line : (d : Desk) → (d.st.stored ≡ 0 → ⊥) → closed d ≡ ((ended d).0, 1, (ended d).1)
unfolding eat
closed-line d n = ap (hear_on d) (one-begun d n)

pub fine-closed : (d : Desk) → Fine d → Fine (closed d).2
fine-closed d f =
    by-eq d.st.stored 0 (λ e. subst (λ (r : Option Said × ℕ × Desk). Fine r.2) (sym (closed_none d e)) f)
    (λ n. subst (λ (r : Option Said × ℕ × Desk). Fine r.2) (sym (closed-line d n)) (fine-ended d f))

-- what a line puts out, and what is sent behind it
line-then : (d : Desk) (l : List ℕ) (k : ℕ) (ls : List (List ℕ)) → verdict (so_far d) ≡ verdict l
    → blocks_of (ending_of d).said ++ marked (waiting (ended d).1 ++ stream_from ls) ≡ marked (waiting d ++ stream_from (l ∷ ls))
line-then d l k ls e =
    line-sent (verdict (so_far d)) d.st.held d.hold (stream_from ls)
    ∙ ap (λ (v : Verdict). marked (waiting d ++ (bytes_of v ++ stream_from ls))) e
    ∙ ap (λ (x : List ℕ). marked (waiting d ++ x)) (sym (behind-line (verdict l) (map verdict ls)))

pub says : (bs : List ℕ) (d : Desk) (l : List ℕ) → Fine d → Shows d l
    → sent_by (desk_all d bs).0 ++ lastly (closed (desk_all d bs).1) ≡ marked (waiting d ++ stream_from (lines_from l bs))
unfolding sent_by packets
says [] d l f w =
    by-eq d.st.stored 0
    (λ e.
    ap lastly (closed_none d e) ∙ ap marked (sym (append-nil (waiting d)))
    ∙ ap (λ (ls : List (List ℕ)). marked (waiting d ++ stream_from ls)) (sym (lines_none l (none-stored d l f w e))))
    (λ n.
    ap lastly (closed-line d n)
    ∙ ap (λ (x : List ℕ). x ++ marked (waiting (ended d).1))
    (sent-cons (numbered d.st.lines) (ending_of d).said [] ∙ append-nil (blocks_of (ending_of d).said))
    ∙ ap (λ (x : List ℕ). blocks_of (ending_of d).said ++ marked x) (sym (append-nil (waiting (ended d).1)))
    ∙ line-then d l 0 [] (same-verdict d l f w)
    ∙ ap (λ (ls : List (List ℕ)). marked (waiting d ++ stream_from ls)) (sym (lines-one l (some_stored d l f w n))))
says (b ∷ bs) d l f w =
    by-eq b feed
    (λ e.
    ap (λ (r : Option Said × Desk). let x = tell r.0 (desk_all r.1 bs) in sent_by x.0 ++ lastly (closed x.1)) (eat-feed d b e)
    ∙ ap (λ (x : List ℕ). x ++ lastly (closed (desk_all (ended d).1 bs).1))
    (sent-cons (numbered d.st.lines) (ending_of d).said (desk_all (ended d).1 bs).0)
    ∙ append_assoc (blocks_of (ending_of d).said) (sent_by (desk_all (ended d).1 bs).0) (lastly (closed (desk_all (ended d).1 bs).1))
    ∙ ap (λ (x : List ℕ). blocks_of (ending_of d).said ++ x) (says bs (ended d).1 [] (fine-ended d f) refl)
    ∙ line-then d l 0 (lines_from [] bs) (same-verdict d l f w)
    ∙ ap (λ (ls : List (List ℕ)). marked (waiting d ++ stream_from ls)) (sym (lines-feed l b bs e)))
    (λ n.
    ap (λ (r : Option Said × Desk). let x = tell r.0 (desk_all r.1 bs) in sent_by x.0 ++ lastly (closed x.1)) (eat-other d b n)
    ∙ says bs (kept d (b ∷ [])) (l ++ b ∷ []) (fine-kept d (b ∷ []) f) (shows_kept d l f w b)
    ∙ ap (λ (ls : List (List ℕ)). marked (waiting d ++ stream_from ls)) (sym (lines_other l b bs n)))

none_named : (k : ℕ) → complaints_by [] ≡ complaints_from k []
unfolding complaints_by complaints_from
none_named k = refl

abbrev named_last : Option Said × ℕ × Desk → List (ℕ × ℕ)
named_last r = complaints_by (last_of r.0)

pub names : (bs : List ℕ) (d : Desk) (l : List ℕ) → Fine d → Shows d l
    → complaints_by ((desk_all d bs).0 ++ last_of (closed (desk_all d bs).1).0) ≡ complaints_from d.st.lines (map verdict (lines_from l bs))
names [] d l f w =
    by-eq d.st.stored 0
    (λ e.
    ap named_last (closed_none d e) ∙ none_named d.st.lines ∙ ap (λ (ls : List (List ℕ)). complaints_from d.st.lines (map verdict ls))
    (sym (lines_none l (none-stored d l f w e))))
    (λ n.
    ap named_last (closed-line d n)
    ∙ line-named (verdict (so_far d)) d.st.lines d.st.held d.hold [] [] (none_named (numbered d.st.lines))
    ∙ ap (λ (v : Verdict). complaints_from d.st.lines (v ∷ [])) (same-verdict d l f w)
    ∙ ap (λ (ls : List (List ℕ)). complaints_from d.st.lines (map verdict ls)) (sym (lines-one l (some_stored d l f w n))))
names (b ∷ bs) d l f w =
    by-eq b feed
    (λ e.
    ap (λ (r : Option Said × Desk). let x = tell r.0 (desk_all r.1 bs) in complaints_by (x.0 ++ last_of (closed x.1).0)) (eat-feed d b e)
    ∙ line-named (verdict (so_far d)) d.st.lines d.st.held d.hold _ (map verdict (lines_from [] bs)) (names bs (ended d).1 [] (fine-ended d f) refl)
    ∙ ap (λ (v : Verdict). complaints_from d.st.lines (v ∷ map verdict (lines_from [] bs))) (same-verdict d l f w)
    ∙ ap (λ (ls : List (List ℕ)). complaints_from d.st.lines (map verdict ls)) (sym (lines-feed l b bs e)))
    (λ n.
    ap (λ (r : Option Said × Desk). let x = tell r.0 (desk_all r.1 bs) in complaints_by (x.0 ++ last_of (closed x.1).0)) (eat-other d b n)
    ∙ names bs (kept d (b ∷ [])) (l ++ b ∷ []) (fine-kept d (b ∷ []) f) (shows_kept d l f w b)
    ∙ ap (λ (ls : List (List ℕ)). complaints_from d.st.lines (map verdict ls)) (sym (lines_other l b bs n)))
