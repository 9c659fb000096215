-- However a recording is cut, and whatever room each call has, the bytes printed are its listing.
-- counts-are        the totals kept are those counted from the answers
-- apart-count       the stream bytes counted are those of the stream
-- listing-shown     the answers of all bytes, as lines, and the last line are the listing
-- listing-printed   the bytes printed in all, by any run of calls and the finishing call
-- totals-counted    the totals behind any run of calls
use Prim.Native.Nat.{ℕ, ◌+◌, ◌≤◌}
use native.Mathlib.Omega.{arith}
use native.Mathlib.Nat.{add-zero, zero-add}
use mathlib.Core.Path.{◌≡◌, refl, sym, ◌∙◌, ap}
use mathlib.Core.Bool.{Bool, true, false}
use mathlib.Core.List.{List, [], ◌∷◌, ◌++◌}
use lib.Dec.{eqb, ltb}
use lib.ListN.{length, take}
use Rattle.base.specs.Choice.{pick}
use Rattle.base.specs.Calls.{joined}
use Rattle.base.specs.Written.{Wrote}
use Rattle.base.proofs.Writing.{write-is}
use Rattle.packet_spec.specs.Contents.{raw_limit}
use Rattle.channel_spec.specs.Sender.{word_bytes}
use Rattle.channel_spec.specs.Meaning.{Event}
use Rattle.channel.specs.Call.{memory, fresh_receiver}
use Rattle.listing_spec.specs.declared.Place.{Place}
use Rattle.listing_spec.specs.declared.Place.TheVariants.{Mode, Mark, Second, Low, High, Inside, Wrong}
use Rattle.listing_spec.specs.declared.Spot.{Spot}
use Rattle.listing_spec.specs.Apart.{most, fresh_spot, on, wrong, through, next_at, next, in_stream, keep, apart, well}
use Rattle.listing_spec.specs.Lines.{given, lines, count, one, is_packet, is_refusal, is_damaged, is_lost, end_line, wrong_line}
use Rattle.listing_spec.specs.Meaning.{total_line, heard, last_line, listed, listing}
use Rattle.recording.specs.Deck.{Ear, ear, Deck, deck, fresh, deck_owes, deck_all}
use Rattle.recording.proofs.Means.{ear_all, means-start, heard_all, fresh-owes}
use Rattle.listing_lines.specs.declared.totals.Totals.{Totals}
use Rattle.listing.specs.Call.{no_totals, counted, recorded, last_by, last_of, finishing}
use Rattle.listing.specs.Runs.{ListsAll}
use Rattle.listing.proofs.Did.{count_all, Prints, all-prints}

-- ---- totals are counts of the answers
abbrev counts_of : List Event → Totals
counts_of es = record { packets = count is_packet es; refused = count is_refusal es; damaged = count is_damaged es; lost = count is_lost es }

abbrev plus : Totals → Totals → Totals
plus t u = record { packets = t.packets + u.packets; refused = t.refused + u.refused; damaged = t.damaged + u.damaged; lost = t.lost + u.lost }

three : (a b c : ℕ) → a + b + c ≡ a + (b + c)
three a b c = omega arith

count-all : (t : Totals) (es : List Event) → count_all t es ≡ plus t (counts_of es)
unfolding count
count-all t [] = λ i. record {
  packets = sym (add-zero t.packets) i;
  refused = sym (add-zero t.refused) i;
  damaged = sym (add-zero t.damaged) i;
  lost = sym (add-zero t.lost) i;
}
count-all t (e ∷ es) =
    let a = given e in
    count-all (counted t a) es
    ∙ (λ i. record {
      packets = three t.packets (one (is_packet a)) (count is_packet es) i;
      refused = three t.refused (one (is_refusal a)) (count is_refusal es) i;
      damaged = three t.damaged (one (is_damaged a)) (count is_damaged es) i;
      lost = three t.lost (one (is_lost a)) (count is_lost es) i;
    })

pub counts-are : (es : List Event) → count_all no_totals es ≡ counts_of es
counts-are es =
    count-all no_totals es
    ∙ (λ i. record {
      packets = zero-add (count is_packet es) i;
      refused = zero-add (count is_refusal es) i;
      damaged = zero-add (count is_damaged es) i;
      lost = zero-add (count is_lost es) i;
    })

-- ---- the stream bytes
count-pick : (t : Bool) (p q : Spot) (n : ℕ) → p.count ≡ n → q.count ≡ n → (pick t p q).count ≡ n
count-pick true p q n h k = h
count-pick false p q n h k = k

count_at : (q : Place) (p : Spot) (b : ℕ) → (next_at q p b).count ≡ p.count + one (in_stream q p.count)
unfolding next_at in_stream
count_at Mode p b =
    count-pick (eqb b 0x50) (on Mark p) (pick (eqb b 0x4F) (on Mark p) (wrong p)) _ (sym (add-zero _))
    (count-pick (eqb b 0x4F) (on Mark p) (wrong p) _ (sym (add-zero _)) (sym (add-zero _)))
count_at Mark p b = count-pick (eqb b 0xF5) (on Second p) (wrong p) _ (sym (add-zero _)) (sym (add-zero _))
count_at Second p b = count-pick (eqb b 0x5F) (on Low p) (wrong p) _ (sym (add-zero _)) (sym (add-zero _))
count_at Low p b = sym (add-zero _)
count_at (High l) p b = sym (add-zero _)
count_at (Inside k) p b = go (ltb p.count most)
  where
    go : (t : Bool) → (pick t (through k p) (wrong p)).count ≡ p.count + one t
    go true = refl
    go false = sym (add-zero _)
count_at Wrong p b = sym (add-zero _)

keep-length : (t : Bool) (b : ℕ) (r : List ℕ × Spot) → length (keep t b r).0 ≡ one t + length r.0
keep-length true b r = omega arith
keep-length false b r = omega arith

keep-spot : (t : Bool) (b : ℕ) (r : List ℕ × Spot) → (keep t b r).1 ≡ r.1
keep-spot true b r = refl
keep-spot false b r = refl

pub apart-count : (bs : List ℕ) (p : Spot) → (apart p bs).1.count ≡ p.count + length (apart p bs).0
unfolding apart
apart-count [] p = sym (add-zero _)
apart-count (b ∷ bs) p =
    let t : Bool = in_stream p.place p.count in
    let r : List ℕ × Spot = apart (next p b) bs in
    let e : (keep t b r).1.count ≡ r.1.count = ap (λ (q : Spot). q.count) (keep-spot t b r) in
    omega (arith, e, apart-count bs (next p b), count_at p.place p b, keep-length t b r)

-- ---- the last line
last-same : (m : Deck) (n : ℕ) (es : List Event) → m.spot.count ≡ n → last_of (recorded m (count_all no_totals es)) ≡ last_line m.spot n es
unfolding last_line
last-same m n es e = go (well m.spot.place)
  where
    r : count_all no_totals es ≡ counts_of es
    r = counts-are es

    go : (t : Bool) → last_by t (recorded m (count_all no_totals es)) ≡ pick t (total_line n es) (wrong_line m.spot.offset)
    go true = λ i. end_line (e i) (r i).packets (r i).refused (r i).damaged (r i).lost
    go false = refl

abbrev shown : List Event × Deck → List ℕ
shown r = lines r.0 ++ last_of (recorded r.1 (count_all no_totals r.0))

module _ (recv word : List ℕ) (recv-room : raw_limit ≤ length recv) (word_room : word_bytes ≤ length word) where
  -- the lines of all answers, and the last line
  pub listing-shown : (file : List ℕ) → shown (deck_all (fresh recv word) file) ≡ listing file
  unfolding listing listed apart in_stream heard lines
  listing-shown [] = ap shown (none-heard (fresh-owes recv word recv-room word_room false)) ∙ last-same (fresh recv word) 0 [] refl
    where
      none-heard : deck_owes (fresh recv word) ≡ 0 → deck_all (fresh recv word) [] ≡ ([], fresh recv word)
      none-heard e = rw e refl
  listing-shown (b ∷ bs) =
      let q : List ℕ × Spot = apart (next fresh_spot b) bs in
      let x : List Event × Ear = ear_all (ear (eqb b 0x4F) (memory fresh_receiver recv word)) q.0 in
      let h : x.0 ≡ heard (eqb b 0x4F) q.0 = heard_all (eqb b 0x4F) recv word q.0 recv-room word_room in
      let c : q.1.count ≡ length q.0 = omega (arith, apart-count bs (next fresh_spot b), count_at Mode fresh_spot b) in
      ap shown (means-start b bs (ear false (memory fresh_receiver recv word)) (fresh-owes recv word recv-room word_room false))
      ∙ ap (λ (l : List ℕ). lines x.0 ++ l) (last-same (deck q.1 x.1) (length q.0) x.0 c)
      ∙ ap (λ (es : List Event). lines es ++ last_line q.1 (length q.0) es) h

  module _ (rooms : ℕ → ℕ) (pieces : List (List ℕ)) {j : ℕ} {text : List ℕ} {m : Deck} {t : Totals}
      (run : ListsAll rooms 0 (fresh recv word) no_totals pieces j text m t) where
    -- a recording, cut in any way; each piece handed in by calls with any room, until more is wanted; then the finishing call:
    -- the bytes printed in all are the recording's listing
    pub listing-printed : (out : List ℕ) (n : ℕ) → (finishing (recorded m t) out).answer ≡ Wrote n
        → text ++ take n (finishing (recorded m t) out).output ≡ listing (joined pieces)
    listing-printed out n e =
        let p : Prints (fresh recv word) no_totals (joined pieces) text m t = all-prints rooms (fresh-owes recv word recv-room word_room false) run in
        ap (λ (l : List ℕ). text ++ l) (write-is (last_of (recorded m t)) out n e)
        ∙ (λ i. p.says i ++ last_of (recorded m (p.counts i)))
        ∙ ap shown (sym p.are) ∙ listing-shown (joined pieces)

    -- the totals kept are those counted from the answers of all bytes
    pub totals-counted : (es : List Event) × (deck_all (fresh recv word) (joined pieces) ≡ (es, m)) × (t ≡ counts_of es)
    totals-counted =
        let p : Prints (fresh recv word) no_totals (joined pieces) text m t = all-prints rooms (fresh-owes recv word recv-room word_room false) run in
        (p.events, p.are, p.counts ∙ counts-are p.events)
