-- A call, run by run: what the code takes from flag to flag is what the definition takes byte by byte.
-- run-read                             a run of bytes that are no flags gives no answer, and is gathered
-- turn_end, turn-answer, turn-opens    the ways through a turn
-- loop-answer, loop-more, loop-end     the loop of a call
-- call-unsound, call-cramped, call-on  refusals 10 and 11
use Prim.Native.Nat.{ℕ, suc, ◌+◌, ◌-◌, ◌≤◌, ◌<◌, min}
use native.Mathlib.Omega.{arith}
use native.Mathlib.Nat.{add-zero}
use mathlib.Core.Path.{◌≡◌, refl, sym, ◌∙◌, ap, subst}
use mathlib.Core.Bool.{Bool, true, false, not, ◌&&◌, false≢true}
use mathlib.Core.List.{List, [], ◌∷◌, ◌++◌}
use mathlib.Core.Option.{Option, some, none}
use lib.ListN.{length, take, drop, set, length-take}
use lib.Seq.{sets, length-sets, take-nil, drop-drop}
use lib.Dec.{eqb, ltb, leb}
use borrow.Author.Tests.{eq-eqb, ne_eqb, ltb-true, ltb-false, le-leb, lt-leb}
use Rattle.base.specs.Calls.{unless, one_more, after}
use Rattle.base.proofs.Calls.{after_none, after_one, after_more, after-after}
use Rattle.base.proofs.Lists.{over}
use Rattle.base.proofs.Tests.{by_le}
use Rattle.packet_spec.specs.Contents.{raw_limit}
use Rattle.packet_spec.specs.Escape.{flag, NoFlag}
use Rattle.packet_spec.specs.Frame.{Told, refusal, judged, Closed, closed, judging}
use Rattle.packet_spec.proofs.Judging.{judging-is}
use Rattle.packet_spec.specs.declared.Judged.{Judged}
use Rattle.packet_spec.specs.declared.Judged.TheVariants.{Refused}
use Rattle.stream.specs.declared.frame.FrameReader.{FrameReader}
use Rattle.stream.specs.declared.frame.Read.{Read}
use Rattle.std.specs.Prelude.{Option as Answer, Some, None}
use Rattle.stream.specs.Call.{Held, held, begun, place_limit, noticed, last_raw, store, shut, take_by, read_on, sound, read_by, read_call, read_of, ReadIs}
use Rattle.stream.specs.Call.{Fine}
use Rattle.stream.specs.Private.{before, counted_by, counted, placed, looked, gathered_by, gathered, closes, TurnBy, TurnIs}
use Rattle.stream.proofs.Places.{noticed-none, noticed-more, noticed-within, before-some, before-stored, seen_by, looked-is}
use Rattle.stream.proofs.Fine.{fine-is, fine-take}
use Rattle.stream.proofs.Runs.{before-rest, before-stop, before-stops, no-flag-before}

-- the state behind a run
abbrev ran : Held → List ℕ → Held
ran h xs = held (placed (counted h.st (length xs)) (seen_by h.st.opened h xs)) (gathered h.st xs h.recv)

-- ---- one byte more
-- state and buffer from their parts
abbrev parts : Bool → ℕ → ℕ → ℕ → List ℕ → Held
parts o raw stored place recv = held (record { opened = o; raw = raw; stored = stored; place = place }) recv

same_parts : {o : Bool} {r r' s s' p p' : ℕ} {l l' : List ℕ} → r ≡ r' → s ≡ s' → p ≡ p' → l ≡ l' → parts o r s p l ≡ parts o r' s' p' l'
same_parts {o} r s p l = λ i. parts o (r i) (s i) (p i) (l i)

ran_store : (t : Bool) (raw stored place : ℕ) (recv : List ℕ) (b : ℕ) (xs : List ℕ) → raw_limit ≤ length recv → ltb raw raw_limit ≡ t
    → ran (store t (parts true raw stored place recv) b) xs ≡ ran (parts true raw stored place recv) (b ∷ xs)
ran_store true raw stored place recv b xs room e =
    let l : raw < raw_limit = ltb-true _ _ e in
    let m : min raw raw_limit ≡ raw = omega arith in
    let n : min (suc raw) raw_limit ≡ suc raw = omega arith in
    let k : raw_limit - raw ≡ suc (raw_limit - suc raw) = omega arith in
    let p : ℕ = last_raw (parts true raw stored place recv) in
    same_parts (omega arith) (omega arith)
    ((λ i. noticed (noticed place p raw (b ∷ [])) (before-stored raw recv b (omega arith) i) (suc raw) (take (raw_limit - n i) xs))
    ∙ noticed-more place p raw b (take (raw_limit - suc raw) xs) (before-some raw recv)
    ∙ sym (ap (λ (x : ℕ). noticed place p raw (take (raw_limit - x) (b ∷ xs))) m ∙ ap (λ (x : ℕ). noticed place p raw (take x (b ∷ xs))) k))
    (ap (λ (x : ℕ). sets (set recv raw b) x (take (raw_limit - x) xs)) n
    ∙ sym (ap (λ (x : ℕ). sets recv x (take (raw_limit - x) (b ∷ xs))) m ∙ ap (λ (x : ℕ). sets recv raw (take x (b ∷ xs))) k))
ran_store false raw stored place recv b xs room e =
    let l : raw_limit ≤ raw = ltb-false _ _ e in
    let m : raw_limit - min raw raw_limit ≡ 0 = omega arith in
    let p : ℕ = last_raw (parts true raw stored place recv) in
    same_parts (omega arith) (omega arith)
    (noticed-none place (last_raw (parts true (suc raw_limit) raw_limit place recv)) (suc raw_limit)
    ∙ sym (ap (λ (x : ℕ). noticed place p raw (take x (b ∷ xs))) m ∙ noticed-none place p raw))
    (sym (ap (λ (x : ℕ). sets recv (min raw raw_limit) (take x (b ∷ xs))) m))

ran-none : (o : Bool) (raw stored place : ℕ) (recv : List ℕ) → stored ≡ min raw raw_limit → raw ≤ suc raw_limit
    → parts o raw stored place recv ≡ ran (parts o raw stored place recv) []
ran-none false raw stored place recv s h = refl
ran-none true raw stored place recv s h =
    let p : ℕ = last_raw (parts true raw stored place recv) in
    let n : take (raw_limit - min raw raw_limit) [] ≡ [] = take-nil (raw_limit - min raw raw_limit) in
    same_parts (omega arith) (omega arith)
    (sym (ap (noticed place p raw) n ∙ noticed-none place p raw))
    (sym (ap (λ (x : List ℕ). sets recv (min raw raw_limit) x) n))

-- a byte that is no flag, and the run behind it
ran-more : (o : Bool) (raw stored place : ℕ) (recv : List ℕ) (b : ℕ) (xs : List ℕ) → raw_limit ≤ length recv
    → ran (take_by false o (parts o raw stored place recv) b).1 xs ≡ ran (parts o raw stored place recv) (b ∷ xs)
ran-more false raw stored place recv b xs room = refl
ran-more true raw stored place recv b xs room = ran_store (ltb raw raw_limit) raw stored place recv b xs room refl

-- one byte of a call, by: is it a flag
abbrev byte_of : Bool → Held → ℕ → List ℕ → Option Told × ℕ × Held
byte_of t h b ys = unless (take_by t h.st.opened h b).0 1 (take_by t h.st.opened h b).1 (one_more (read_on (take_by t h.st.opened h b).1 ys))

byte-by : (o : Bool) (h : Held) (b : ℕ) (r : Option Told × ℕ × Held) → unless (take_by false o h b).0 1 (take_by false o h b).1 r ≡ r
byte-by true h b r = refl
byte-by false h b r = refl

byte-read : (h : Held) (b : ℕ) (ys : List ℕ) → (b ≡ flag → ⊥) → read_on h (b ∷ ys) ≡ one_more (read_on (take_by false h.st.opened h b).1 ys)
byte-read h b ys n = ap (λ (t : Bool). byte_of t h b ys) (ne_eqb b flag n) ∙ byte-by h.st.opened h b _

pub run-read : (xs : List ℕ) → NoFlag xs → (h : Held) → Fine h → (cs : List ℕ) → read_on h (xs ++ cs) ≡ after (length xs) (read_on (ran h xs) cs)
run-read [] n h f cs = ap (λ (g : Held). read_on g cs) (ran-none h.st.opened h.st.raw h.st.stored h.st.place h.recv f.stored f.raw)
    ∙ after_none _
run-read (b ∷ xs) n h f cs =
    let g : Held = (take_by false h.st.opened h b).1 in
    let fg : Fine g = rw (ne_eqb b flag n.0) at (fine-take h b f) in
    byte-read h b (xs ++ cs) n.0 ∙ ap one_more (run-read xs n.1 g fg cs) ∙ after_one (length xs) (read_on (ran g xs) cs)
    ∙ ap (λ (k : Held). after (suc (length xs)) (read_on k cs)) (ran-more h.st.opened h.st.raw h.st.stored h.st.place h.recv b xs f.room)

-- ---- the flag behind it
flag-read : (h : Held) (ys : List ℕ) → read_on h (flag ∷ ys) ≡ byte_of true h flag ys
flag-read h ys = ap (λ (t : Bool). byte_of t h flag ys) (eq-eqb flag flag refl)

closes_by : (o z : Bool) (h : Held) (ys : List ℕ) → h.st.opened ≡ o → eqb h.st.raw 0 ≡ z → o && not z ≡ true
    → byte_of true h flag ys ≡ (some (closed h.recv h.st.raw).told, 1, held begun (closed h.recv h.st.raw).recv)
closes_by false z h ys o e c = absurd (false≢true c)
closes_by true true h ys o e c = absurd (false≢true c)
closes_by true false h ys o e c =
    (λ i. unless (take_by true (o i) h flag).0 1 (take_by true (o i) h flag).1 (one_more (read_on (take_by true (o i) h flag).1 ys)))
    ∙ (λ i. unless (shut (e i) h).0 1 (shut (e i) h).1 (one_more (read_on (shut (e i) h).1 ys)))

flag-closes : (h : Held) (ys : List ℕ) → closes h.st ≡ true
    → read_on h (flag ∷ ys) ≡ (some (closed h.recv h.st.raw).told, 1, held begun (closed h.recv h.st.raw).recv)
flag-closes h ys c = flag-read h ys ∙ closes_by h.st.opened (eqb h.st.raw 0) h ys refl refl c

opens_by : (o z : Bool) (h : Held) (ys : List ℕ) → h.st.opened ≡ o → eqb h.st.raw 0 ≡ z → o && not z ≡ false
    → byte_of true h flag ys ≡ one_more (read_on (held begun h.recv) ys)
opens_by false z h ys o e c =
    λ i. unless (take_by true (o i) h flag).0 1 (take_by true (o i) h flag).1 (one_more (read_on (take_by true (o i) h flag).1 ys))
opens_by true false h ys o e c = absurd (false≢true (sym c))
opens_by true true h ys o e c =
    (λ i. unless (take_by true (o i) h flag).0 1 (take_by true (o i) h flag).1 (one_more (read_on (take_by true (o i) h flag).1 ys)))
    ∙ (λ i. unless (shut (e i) h).0 1 (shut (e i) h).1 (one_more (read_on (shut (e i) h).1 ys)))

flag-opens : (h : Held) (ys : List ℕ) → closes h.st ≡ false → read_on h (flag ∷ ys) ≡ one_more (read_on (held begun h.recv) ys)
flag-opens h ys c = flag-read h ys ∙ opens_by h.st.opened (eqb h.st.raw 0) h ys refl refl c

-- a run keeps what 10 and 11 ask
seen-within : (h : Held) → Fine h → (xs : List ℕ) → seen_by true h xs ≤ place_limit
seen-within h f xs =
    let n : ℕ = raw_limit - min h.st.raw raw_limit in
    by_le h.st.raw raw_limit
    (λ k. noticed-within h.st.place (last_raw h) h.st.raw (take n xs) f.place (omega (arith, length-take n xs)))
    (λ k.
    let z : n ≡ 0 = omega arith in
    subst (λ (m : ℕ). noticed h.st.place (last_raw h) h.st.raw (take m xs) ≤ place_limit) (sym z)
    (rw (noticed-none h.st.place (last_raw h) h.st.raw) f.place))

fine-by : (o : Bool) (h : Held) → Fine h → (xs : List ℕ)
    → Fine (held (placed (counted_by o h.st (length xs)) (seen_by o h xs)) (gathered_by o h.st.raw xs h.recv))
fine-by false h f xs = record { stored = f.stored; raw = f.raw; place = f.place; room = f.room }
fine-by true h f xs = record {
  stored = omega arith;
  raw = omega arith;
  place = seen-within h f xs;
  room = rw (length-sets h.recv (min h.st.raw raw_limit) (take (raw_limit - min h.st.raw raw_limit) xs)) f.room;
}

-- ---- a turn: n bytes before the first flag of l
module _ (h : Held) (f : Fine h) (l : List ℕ) (some_bytes : 0 < length l) {n : ℕ} {g : FrameReader} {k : List ℕ}
    (en : n ≡ length (before l)) (eg : g ≡ counted h.st n) (ek : k ≡ gathered h.st (before l) h.recv) where
  is-counted : g ≡ counted h.st (length (before l))
  is-counted = eg ∙ ap (counted h.st) en

  fine-turn : Fine (ran h (before l))
  fine-turn = fine-by h.st.opened h f (before l)

  -- the call, behind the run
  behind : read_on h l ≡ after n (read_on (ran h (before l)) (drop n l))
  behind =
      ap (read_on h) (before-rest l) ∙ run-read (before l) (no-flag-before l) h f (drop (length (before l)) l)
      ∙ (λ i. after (sym en i) (read_on (ran h (before l)) (drop (sym en i) l)))

  -- the state's place counts only where the piece ends here: a flag forgets it
  pub turn_end : {g' : FrameReader} → g' ≡ looked g k h.st.stored → n ≡ length l
      → TurnIs h l (record { heard = None; taken = n; frame = g' }) k
  turn_end {g'} e' e =
      let is : ran h (before l) ≡ held g' k =
      sym (λ i. held ((e' ∙ (λ j. looked (is-counted j) (ek j) h.st.stored) ∙ looked-is h.st.opened h f (before l)) i) (ek i)) in
      record {
        means = behind ∙ ap (λ (x : Held). after n (read_on x (drop n l))) is;
        some = omega arith;
        within = omega arith;
        again = fine-is (held g' k) (subst Fine is fine-turn);
      }

  module _ (stop : n ≡ length l → ⊥) where
    short : n < length l
    short = before-stops l en stop

    at_flag : drop n l ≡ flag ∷ drop (n + 1) l
    at_flag = ap (λ (m : ℕ). drop m l) en ∙ before-stop l (omega (arith, short)) ∙ ap (λ (m : ℕ). flag ∷ drop (m + 1) l) (sym en)

    pub turn-answer : {j : Judged} {k' : List ℕ} {g' : FrameReader} → closes g ≡ true → g' ≡ begun
        → (j ≡ judged (judging k g.raw).told) × (k' ≡ (judging k g.raw).recv)
        → TurnIs h l (record { heard = Some j; taken = n + 1; frame = g' }) k'
    turn-answer {j} {k'} {g'} c eb e =
        let r = ran h (before l) in
        let raw : r.st.raw ≡ g.raw = ap (λ (x : FrameReader). x.raw) (sym is-counted) in
        let shuts : closes r.st ≡ true = ap (λ (x : FrameReader). closes x) (sym is-counted) ∙ c in
        let is = judging-is k g.raw (subst (λ (m : ℕ). m ≤ suc raw_limit) raw fine-turn.raw)
        (subst (λ (x : List ℕ). raw_limit ≤ length x) (sym ek) fine-turn.room) in
        let ej = e.0 ∙ ap (λ (x : Closed). judged x.told) is in
        let er = e.1 ∙ ap (λ (x : Closed). x.recv) is in
        let told : read_on h l ≡ (some (closed k g.raw).told, n + 1, held begun (closed k g.raw).recv) =
        behind ∙ ap (λ (x : List ℕ). after n (read_on r x)) at_flag ∙ ap (after n) (flag-closes r (drop (n + 1) l) shuts)
        ∙ (λ i. (some (closed (sym ek i) (raw i)).told, n + 1, held begun (closed (sym ek i) (raw i)).recv)) in
        record {
          means = (
            (λ i. record { heard = Some (ej i); taken = n + 1; frame = eb i }) ∙ ap read_of (sym told),
            er
                ∙ ap (λ (x : Option Told × ℕ × Held). x.2.recv) (sym told),
          );
          some = omega arith;
          within = omega (arith, short);
          again = ap sound eb;
        }

    pub turn-opens : {g' : FrameReader} → closes g ≡ false → g' ≡ begun → TurnIs h l (record { heard = None; taken = n + 1; frame = g' }) k
    turn-opens {g'} c eb =
        record {
          means =
              behind ∙ ap (λ (x : List ℕ). after n (read_on (ran h (before l)) x)) at_flag
              ∙ ap (after n) (flag-opens (ran h (before l)) (drop (n + 1) l) (ap (λ (x : FrameReader). closes x) (sym is-counted) ∙ c))
              ∙ ap (λ (x : List ℕ). after n (one_more (read_on (held begun x) (drop (n + 1) l)))) (sym ek)
              ∙ after_more n (read_on (held begun k) (drop (n + 1) l)) ∙ ap (λ (b : FrameReader). after (n + 1) (read_on (held b k) (drop (n + 1) l))) (sym eb);
          some = omega arith;
          within = omega (arith, short);
          again = ap sound eb;
        }

-- ---- the loop of a call: the call on the piece is the one on the bytes left, after those taken
module _ (h₀ : Held) (piece : List ℕ) (f : FrameReader) (l : List ℕ) (at : ℕ) (e : read_on h₀ piece ≡ after at (read_on (held f l) (drop at piece))) where
  module _ (t : Read) (l' : List ℕ) (is : TurnIs (held f l) (drop at piece) t l') where
    pub loop-answer : {r : Read} {j : Judged} → t.heard ≡ Some j → r ≡ record { heard = t.heard; taken = at + t.taken; frame = t.frame }
        → ReadIs (read_on h₀ piece) r l'
    loop-answer d er =
        let m = subst (λ (b : Answer Judged). TurnBy b (held f l) (drop at piece) t l') d is.means in (
          er ∙ ap (λ (q : Read). record { heard = q.heard; taken = at + q.taken; frame = q.frame }) m.0 ∙ ap read_of (sym e),
          m.1 ∙ ap (λ (x : Option Told × ℕ × Held). x.2.recv) (sym e),
        )

    pub loop-more : t.heard ≡ None → read_on h₀ piece ≡ after (at + t.taken) (read_on (held t.frame l') (drop (at + t.taken) piece))
    loop-more d =
        let m = subst (λ (b : Answer Judged). TurnBy b (held f l) (drop at piece) t l') d is.means in
        e ∙ ap (after at) m ∙ after-after at t.taken _
        ∙ ap (λ (x : List ℕ). after (at + t.taken) (read_on (held t.frame l') x)) (drop-drop t.taken at piece)

  pub loop-end : length piece ≤ at → ReadIs (read_on h₀ piece) (record { heard = None; taken = at; frame = f }) l
  loop-end h =
      let p : read_on h₀ piece ≡ (none, at, held f l) =
      e ∙ ap (λ (x : List ℕ). after at (read_on (held f l) x)) (over piece at h) ∙ (λ i. (none, add-zero at i, held f l)) in
      (ap read_of (sym p), ap (λ (x : Option Told × ℕ × Held). x.2.recv) (sym p))

-- ---- a call: refused with 10, with 11, or let on
module _ (h : Held) (bs : List ℕ) where
  pub call-unsound : sound h.st ≡ false → ReadIs (read_call h bs) (record { heard = Some (Refused 10); taken = 0; frame = h.st }) h.recv
  call-unsound s =
      let e : read_call h bs ≡ (some (refusal 10), 0, h) = ap (λ (t : Bool). read_by t (leb raw_limit (length h.recv)) h bs) s in
      (ap read_of (sym e), ap (λ (x : Option Told × ℕ × Held). x.2.recv) (sym e))

  module _ (s : sound h.st ≡ true) where
    pub call-cramped : length h.recv < raw_limit → ReadIs (read_call h bs) (record { heard = Some (Refused 11); taken = 0; frame = h.st }) h.recv
    call-cramped l =
        let e : read_call h bs ≡ (some (refusal 11), 0, h) = λ i. read_by (s i) (lt-leb raw_limit (length h.recv) l i) h bs in
        (ap read_of (sym e), ap (λ (x : Option Told × ℕ × Held). x.2.recv) (sym e))

    pub call-on : {r : Read} {l : List ℕ} → raw_limit ≤ length h.recv → ReadIs (read_on h bs) r l → ReadIs (read_call h bs) r l
    call-on {r} {l} room t = subst (λ (x : Option Told × ℕ × Held). ReadIs x r l)
        (λ i. read_by (sym s i) (sym (le-leb raw_limit (length h.recv) room) i) h bs) t
