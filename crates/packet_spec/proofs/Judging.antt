-- Laws of a closed frame.
-- packet-is                                    which answer a packet has, taken apart, by facts on numbers
-- body-format, body-plain, body-key, body-keyed   .. format byte to last payload byte
-- fits-sized, fits_not, as_plain, as-keyed, rest-port, rest-payload, rest-packet   .. as the code tests and answers it
-- judge-short, judge-check, judge-body, judge-long   .. and contents; of too many raw bytes
-- key_fits_lem, body-ways                          what a key must be, and a fact of every answer
-- closed-over, closed-as, closed-stored        the same of the raw bytes in the receive buffer
-- plain-room                                   it has room for what undoing escapes leaves
-- judging-is, judging-over, judging-short      the call that judges, where 10 and 11 are passed and where not
-- both                                         its answer and its buffer, apart
-- judge-is                                     the buffer's raw bytes alone decide
-- length-closed                                the buffer keeps its length
-- payload-there                                a delivered payload stands in the buffer, and its key
-- contents-broken                              contents alone are never refused with a place
-- closed-keeps                                 refused with 1, 2 or 3, it keeps its contents
use mathlib.Core.Path.{◌≡◌, refl, sym, ap, subst, ◌∙◌}
use mathlib.Core.Bool.{Bool, true, false, ◌&&◌}
use mathlib.Core.List.{List, [], ◌∷◌, ◌++◌, nil≢cons, append_assoc}
use mathlib.Core.Option.{some}
use Prim.Native.Nat.{ℕ, suc, ◌+◌, ◌-◌, ◌<◌, ◌≤◌, min}
use native.Mathlib.Omega.{arith}
use borrow.Author.Tests.{eq-eqb, ne_eqb, lt-ltb, le-ltb, eqb-true, ltb-false, leb-true}
use lib.Dec.{eqb, ltb, leb}
use lib.ListN.{length, get_or, take, drop, length-append, length-take, length-drop, take-append-drop}
use lib.Seq.{take-append-le, drop-append-le, length-take-le, take_all, drop-drop}
use Rattle.base.specs.Choice.{pick}
use Rattle.base.proofs.Parts.{tail-is}
use Rattle.base.proofs.Tests.{by_le, and_parts}
use Rattle.fcs.specs.Fcs.{fcs}
use Rattle.packet_spec.specs.Port.{barred}
use Rattle.packet_spec.specs.Contents.{Packet, plain_format, key_format, key_least, key_most, key_sized, payload_limit, raw_limit}
use Rattle.packet_spec.specs.Contents.{pair_at, unpacked, key_at, rest_least, key_length, plainly, keyed, body}
use Rattle.packet_spec.specs.Escape.{escape, scan, plain}
use Rattle.packet_spec.specs.Frame.{Told, packet, refusal, broken, judged, number, Closed, kept, judge_packet}
use Rattle.packet_spec.specs.Frame.{key_fits, judge_body, judge_contents, closed_by, closed, judging, judge, part, There}
use Rattle.packet_spec.specs.declared.Escapes.{Escapes}
use Rattle.packet_spec.specs.declared.Escapes.TheVariants.{Right, Unfinished, Wrong}
use Rattle.packet_spec.specs.declared.Judged.{Judged}
use Rattle.packet_spec.specs.declared.Judged.TheVariants.{Packet as Delivered, Refused}
use Rattle.packet_spec.proofs.Escaping.{plain-short}

-- ---- a packet, taken apart
module _ (p : Packet) where
  packet-port : barred p.port ≡ true → judge_packet p ≡ refusal 7
  packet-port b = rw b

  module _ (free : barred p.port ≡ false) where
    packet-payload : payload_limit < length (escape p.payload) → judge_packet p ≡ refusal 8
    packet-payload h = rw (free, lt-ltb _ _ h)

    pub packet-is : length (escape p.payload) ≤ payload_limit → judge_packet p ≡ packet p
    packet-is h = rw (free, le-ltb _ _ h)

  -- a fact of what is told of it, by the ways through the definition
  packet-ways : (P : Told → Type 0) → P (refusal 7) → P (refusal 8)
      → (barred p.port ≡ false → length (escape p.payload) ≤ payload_limit → P (packet p)) → P (judge_packet p)
  packet-ways P seven eight is = go (barred p.port) refl (ltb payload_limit (length (escape p.payload))) refl
    where
      go : (t : Bool) → barred p.port ≡ t → (u : Bool) → ltb payload_limit (length (escape p.payload)) ≡ u
          → P (pick t (refusal 7) (pick u (refusal 8) (packet p)))
      go true b u h = seven
      go false b true h = eight
      go false b false h = is b (ltb-false _ _ h)

-- ---- format byte to last payload byte
module _ (bs : List ℕ) where
  pub body-format : (get_or bs 0 0 ≡ plain_format → ⊥) → (get_or bs 0 0 ≡ key_format → ⊥) → judge_body bs ≡ refusal 6
  unfolding judge_body
  body-format n m = simp (ne_eqb _ _ n, ne_eqb _ _ m)

  pub body-plain : get_or bs 0 0 ≡ plain_format → judge_body bs ≡ judge_packet (plainly bs)
  unfolding judge_body
  body-plain e = simp (eq-eqb _ _ e)

  module _ (e : get_or bs 0 0 ≡ key_format) where
    not_plain : eqb (get_or bs 0 0) plain_format ≡ false
    not_plain = ne_eqb (get_or bs 0 0) plain_format (λ z. absurd (omega (arith, e, z)))

    pub body-key : key_fits bs ≡ false → judge_body bs ≡ refusal 12
    unfolding judge_body
    body-key k = rw (not_plain, eq-eqb _ _ e, k)

    pub body-keyed : key_fits bs ≡ true → judge_body bs ≡ judge_packet (keyed bs)
    unfolding judge_body
    body-keyed k = rw (not_plain, eq-eqb _ _ e, k)

-- what key_fits asks, in numbers
pub key_fits_lem : (bs : List ℕ) → key_fits bs ≡ true → (key_least ≤ key_length bs) × (key_length bs ≤ key_most)
    × (key_at + key_length bs + rest_least ≤ length bs)
key_fits_lem bs e =
    let k = key_length bs in
    let p = and_parts (key_sized k) (leb (key_at + k + rest_least) (length bs)) e in
    let q = and_parts (leb key_least k) (leb k key_most) p.0 in
    (leb-true _ _ q.0, leb-true _ _ q.1, leb-true _ _ p.1)

-- a packet of format 0x21 or of format 0x26 that bytes are judged to be, by where it was taken from
pub body-ways : (bs : List ℕ) (P : Told → Type 0) → P (refusal 6) → P (refusal 12) → P (refusal 7) → P (refusal 8)
    → (get_or bs 0 0 ≡ plain_format → barred (plainly bs).port ≡ false → length (escape (plainly bs).payload) ≤ payload_limit → P (packet (plainly bs)))
    → (get_or bs 0 0 ≡ key_format → key_fits bs ≡ true → barred (keyed bs).port ≡ false → length (escape (keyed bs).payload) ≤ payload_limit
    → P (packet (keyed bs)))
    → P (judge_body bs)
unfolding judge_body
body-ways bs P six twelve seven eight plain key = go (eqb (get_or bs 0 0) plain_format) refl (eqb (get_or bs 0 0) key_format) refl (key_fits bs) refl
  where
    go : (t : Bool) → eqb (get_or bs 0 0) plain_format ≡ t → (u : Bool) → eqb (get_or bs 0 0) key_format ≡ u → (v : Bool) → key_fits bs ≡ v
        → P (pick t (judge_packet (plainly bs)) (pick u (pick v (judge_packet (keyed bs)) (refusal 12)) (refusal 6)))
    go true e u f v g = packet-ways (plainly bs) P seven eight (plain (eqb-true _ _ e))
    go false e true f true g = packet-ways (keyed bs) P seven eight (key (eqb-true _ _ f) g)
    go false e true f false g = twelve
    go false e false f v g = six

-- ---- the code's tests of a key
module _ (bs : List ℕ) {k : ℕ} (e : k ≡ key_length bs) where
  pub fits-sized : key_sized k ≡ true → leb (key_at + k + rest_least) (length bs) ≡ key_fits bs
  fits-sized t =
      ap (λ (m : ℕ). leb (key_at + m + rest_least) (length bs)) e
      ∙ sym (ap (λ (u : Bool). u && leb (key_at + key_length bs + rest_least) (length bs)) (ap key_sized (sym e) ∙ t))

  pub fits_not : key_sized k ≡ false → false ≡ key_fits bs
  fits_not t = sym (ap (λ (u : Bool). u && leb (key_at + key_length bs + rest_least) (length bs)) (ap key_sized (sym e) ∙ t))

-- ---- the code's answer, by the parts that it takes apart ..
module _ (bs : List ℕ) {j : Judged} where
  pub as_plain : get_or bs 0 0 ≡ plain_format → j ≡ judged (judge_packet (unpacked (get_or bs 0 0) 0 [] (take (length bs - 1) (drop 1 bs))))
      → j ≡ judged (judge_body bs)
  as_plain g e = e ∙ (λ i. judged (judge_packet (unpacked (g i) 0 [] (tail-is 1 bs i)))) ∙ ap judged (sym (body-plain bs g))

  pub as-keyed : {k : ℕ} → k ≡ key_length bs → get_or bs 0 0 ≡ key_format → key_fits bs ≡ true
      → j ≡ judged (judge_packet
      (unpacked (get_or bs 0 0) (get_or bs 2 0) (take (key_at + k - key_at) (drop key_at bs)) (take (length bs - (key_at + k)) (drop (key_at + k) bs))))
      → j ≡ judged (judge_body bs)
  as-keyed {k} l g f e =
      let n : key_at + k - key_at ≡ key_length bs = omega arith in
      e ∙ (λ i. judged (judge_packet (unpacked (g i) (get_or bs 2 0) (take (n i) (drop key_at bs)) (tail-is (key_at + k) bs i))))
      ∙ ap (λ (m : ℕ). judged (judge_packet (unpacked key_format (get_or bs 2 0) (take (key_length bs) (drop key_at bs)) (drop (key_at + m) bs)))) l
      ∙ ap judged (sym (body-keyed bs g f))

-- .. and of what stands behind the head
module _ (format number : ℕ) (key rest : List ℕ) {port : ℕ} {bar : Bool} (w : port ≡ pair_at rest 0) (b : bar ≡ barred port) where
  abbrev taken : Packet
  taken = unpacked format number key rest

  pub rest-port : bar ≡ true → Refused 7 ≡ judged (judge_packet taken)
  rest-port t = ap judged (sym (packet-port taken (ap barred (sym w) ∙ sym b ∙ t)))

  module _ (t : bar ≡ false) {n : ℕ} (e : n ≡ length (escape (take (length rest - 4) (drop 4 rest)))) where
    as-escaped : n ≡ length (escape (drop 4 rest))
    as-escaped = e ∙ ap (λ (l : List ℕ). length (escape l)) (tail-is 4 rest)

    pub rest-payload : payload_limit < n → Refused 8 ≡ judged (judge_packet taken)
    rest-payload h = ap judged (sym (packet-payload taken (ap barred (sym w) ∙ sym b ∙ t) (omega (arith, as-escaped))))

    pub rest-packet : {k s m : ℕ} → k ≡ length key → s ≡ pair_at rest 2 → m ≡ length rest - 4 → n ≤ payload_limit
        → Delivered (record { format = format; number = number; key = k; port = port; sequence = s; length = m }) ≡ judged (judge_packet taken)
    rest-packet k s m h =
        (λ i. Delivered (record { format = format; number = number; key = k i; port = w i; sequence = s i; length = (m ∙ sym (length-drop 4 rest)) i }))
        ∙ ap judged (sym (packet-is taken (ap barred (sym w) ∙ sym b ∙ t) (omega (arith, as-escaped))))

pub judge-short : (cs : List ℕ) → length cs < 8 → judge_contents cs ≡ refusal 4
unfolding judge_contents
judge-short cs h = simp (lt-ltb _ _ h)

module _ (cs : List ℕ) (long : 8 ≤ length cs) where
  pub judge-check : (fcs (body cs) ≡ pair_at cs (length cs - 2) → ⊥) → judge_contents cs ≡ refusal 5
  unfolding judge_contents
  judge-check n = simp (le-ltb _ _ long, ne_eqb _ _ n)

  pub judge-body : fcs (body cs) ≡ pair_at cs (length cs - 2) → judge_contents cs ≡ judge_body (body cs)
  unfolding judge_contents
  judge-body e = simp (le-ltb _ _ long, eq-eqb _ _ e)

-- ---- a whole frame
module _ (recv : List ℕ) (n : ℕ) where
  pub closed-over : raw_limit < n → closed recv n ≡ kept 1 recv
  unfolding closed
  closed-over h = simp (lt-ltb _ _ h)

  module _ (h : n ≤ raw_limit) where
    pub closed-as : (e : Escapes) → scan (take n recv) ≡ e → closed recv n ≡ closed_by e (take n recv) recv
    unfolding closed
    closed-as e s = simp (le-ltb _ _ h, s)

    -- as many of them as the buffer holds
    pub closed-stored : {k : ℕ} → k ≡ min n (length recv) → (e : Escapes) → scan (take k recv) ≡ e → closed recv n ≡ closed_by e (take k recv) recv
    closed-stored {k} m e s =
        let t : take k recv ≡ take n recv = stored_same n k m in
        closed-as e (ap scan (sym t) ∙ s) ∙ ap (λ (raw : List ℕ). closed_by e raw recv) (sym t)
      where
        stored_same : (n k : ℕ) → k ≡ min n (length recv) → take k recv ≡ take n recv
        stored_same n k m =
            by_le n (length recv) (λ l. let z : k ≡ n = omega arith in ap (λ (i : ℕ). take i recv) z)
            (λ l. take_all k recv (omega arith) ∙ sym (take_all n recv (omega arith)))

told-by : (e : Escapes) (raw recv recv' : List ℕ) → (closed_by e raw recv).told ≡ (closed_by e raw recv').told
unfolding closed_by
told-by Right raw recv recv' = refl
told-by Unfinished raw recv recv' = refl
told-by (Wrong n) raw recv recv' = refl

pub judge-is : (recv : List ℕ) (n : ℕ) → n ≤ raw_limit → n ≤ length recv → (closed recv n).told ≡ judge (take n recv)
unfolding judge
judge-is recv n h k =
    let raw = take n recv in
    let l : length raw ≡ n = length-take-le n recv k in
    ap (λ (c : Closed). c.told) (closed-as recv n h (scan raw) refl) ∙ told-by (scan raw) raw recv raw
    ∙ sym
    (ap (λ (c : Closed). c.told)
    (closed-as raw (length raw) (omega arith) (scan raw) (ap scan (take_all (length raw) raw (omega arith)))
    ∙ ap (λ (r : List ℕ). closed_by (scan raw) r raw) (take_all (length raw) raw (omega arith))))

pub judge-long : (raw : List ℕ) → raw_limit < length raw → judge raw ≡ refusal 1
unfolding judge
judge-long raw h = ap (λ (c : Closed). c.told) (closed-over raw (length raw) h)

-- undone bytes are no more than the buffer holds
pub plain-room : (recv : List ℕ) (n : ℕ) → length (plain (take n recv)) ≤ length recv
plain-room recv n = omega (arith, plain-short (take n recv), length-take n recv)

-- a fact of every closed frame, by the ways through the definition
module _ (recv : List ℕ) (n : ℕ) (P : Closed → Type 0)
    (over : P (kept 1 recv)) (by : (e : Escapes) → P (closed_by e (take n recv) recv)) where
  by-ways : P (closed recv n)
  unfolding closed
  by-ways = go (ltb raw_limit n)
    where
      go : (t : Bool) → P (pick t (kept 1 recv) (closed_by (scan (take n recv)) (take n recv) recv))
      go true = over
      go false = by (scan (take n recv))

length-by : (recv : List ℕ) (n : ℕ) (e : Escapes) → length (closed_by e (take n recv) recv).recv ≡ length recv
unfolding closed_by
length-by recv n Unfinished = refl
length-by recv n (Wrong m) = refl
length-by recv n Right = simp (length-append, length-drop) (omega (arith, plain-room recv n))

pub length-closed : (recv : List ℕ) (n : ℕ) → length (closed recv n).recv ≡ length recv
length-closed recv n = by-ways recv n (λ c. length c.recv ≡ length recv) refl (length-by recv n)

-- ---- the call that judges
module _ (recv : List ℕ) (n : ℕ) where
  pub judging-over : suc raw_limit < n → judging recv n ≡ kept 10 recv
  judging-over h = simp (lt-ltb _ _ h)

  pub judging-short : n ≤ suc raw_limit → length recv < raw_limit → judging recv n ≡ kept 11 recv
  judging-short h k = simp (le-ltb _ _ h, lt-ltb _ _ k)

  pub judging-is : n ≤ suc raw_limit → raw_limit ≤ length recv → judging recv n ≡ closed recv n
  judging-is h k = simp (le-ltb _ _ h, le-ltb _ _ k)

-- an answer and a buffer, of the frame as it is closed
pub both : {c d : Closed} → c ≡ d → (judged d.told ≡ judged c.told) × (d.recv ≡ c.recv)
both e = (ap (λ (c : Closed). judged c.told) (sym e), ap (λ (c : Closed). c.recv) (sym e))

-- ---- a delivered payload stands in the buffer, and so does its key
part_in : (at n : ℕ) (bs t : List ℕ) → at + n ≤ length bs → part at n (bs ++ t) ≡ take n (drop at bs)
part_in at n bs t h =
    let k : length (bs ++ t) ≡ length bs + length t = length-append bs t in
    ap (λ (u : Bool). pick u [] (take n (drop at (bs ++ t)))) (le-ltb (length (bs ++ t)) (at + n) (omega arith))
    ∙ ap (take n) (drop-append-le at bs t (omega arith)) ∙ take-append-le n (drop at bs) t (omega (arith, length-drop at bs))

-- all that stands from a place on
part-rest : (at : ℕ) (bs t rest : List ℕ) → at ≤ length bs → rest ≡ drop at bs → part at (length rest) (bs ++ t) ≡ rest
part-rest at bs t rest h e =
    part_in at (length rest) bs t (omega (arith, ap length e, length-drop at bs)) ∙ ap (take (length rest)) (sym e) ∙ take_all (length rest) rest (omega arith)

there-body : (bs t : List ℕ) → 6 ≤ length bs → There (judge_body bs) (bs ++ t)
there-body bs t h =
    body-ways bs (λ (told : Told). There told (bs ++ t)) tt tt tt tt
    (λ e f s. (part-rest 5 bs t (plainly bs).payload (omega arith) (drop-drop 4 1 bs), part_in key_at 0 bs t (omega arith)))
    (λ e k f s. keyed-there (key_fits_lem bs k))
  where
    k : ℕ
    k = key_length bs

    keyed-there : (key_least ≤ k) × (k ≤ key_most) × (key_at + k + rest_least ≤ length bs) → There (packet (keyed bs)) (bs ++ t)
    keyed-there (low, high, room) =
        let l : length (take k (drop key_at bs)) ≡ k = length-take-le k (drop key_at bs) (omega (arith, length-drop key_at bs)) in
        rw (l, ne_eqb k 0 (λ z. absurd (omega (arith, z))))
        (part-rest (key_at + k + 4) bs t (keyed bs).payload (omega arith) (drop-drop 4 (key_at + k) bs), part_in key_at k bs t (omega arith))

there-contents : (cs t : List ℕ) → There (judge_contents cs) (cs ++ t)
unfolding judge_contents
there-contents cs t = go (ltb (length cs) 8) (eqb (fcs (body cs)) (pair_at cs (length cs - 2))) refl
  where
    whole : body cs ++ (drop (length cs - 2) cs ++ t) ≡ cs ++ t
    whole = sym (append_assoc (body cs) (drop (length cs - 2) cs) t) ∙ ap (λ (l : List ℕ). l ++ t) (take-append-drop (length cs - 2) cs)

    go : (short right : Bool) → ltb (length cs) 8 ≡ short → There (pick short (refusal 4) (pick right (judge_body (body cs)) (refusal 5))) (cs ++ t)
    go true r e = tt
    go false false e = tt
    go false true e =
        let n : 8 ≤ length cs = ltb-false _ _ e in
        let l : length (body cs) ≡ length cs - 2 = length-take-le (length cs - 2) cs (omega arith) in
        subst (There (judge_body (body cs))) whole (there-body (body cs) (drop (length cs - 2) cs ++ t) (omega arith))

there-by : (e : Escapes) (raw recv : List ℕ) → There (closed_by e raw recv).told (closed_by e raw recv).recv
unfolding closed_by
there-by Unfinished raw recv = tt
there-by (Wrong n) raw recv = tt
there-by Right raw recv = there-contents (plain raw) (drop (length (plain raw)) recv)

pub payload-there : (recv : List ℕ) (n : ℕ) → There (closed recv n).told (closed recv n).recv
payload-there recv n = by-ways recv n (λ c. There c.told c.recv) tt (λ e. there-by e (take n recv) recv)

-- ---- refused with 1, 2 or 3
abbrev KeptBy : Told → List ℕ → List ℕ → Type 0
KeptBy (packet p) after before = Unit {0}
KeptBy (refusal n) after before = n ≤ 3 → after ≡ before
KeptBy (broken n) after before = after ≡ before

kept-body : (bs after before : List ℕ) → KeptBy (judge_body bs) after before
kept-body bs after before =
    body-ways bs (λ (told : Told). KeptBy told after before)
    (λ h. absurd (omega arith)) (λ h. absurd (omega arith)) (λ h. absurd (omega arith)) (λ h. absurd (omega arith)) (λ e f s. tt) (λ e k f s. tt)

kept-contents : (cs after before : List ℕ) → KeptBy (judge_contents cs) after before
unfolding judge_contents
kept-contents cs after before = go (ltb (length cs) 8) (eqb (fcs (body cs)) (pair_at cs (length cs - 2)))
  where
    go : (short right : Bool) → KeptBy (pick short (refusal 4) (pick right (judge_body (body cs)) (refusal 5))) after before
    go true r = λ h. absurd (omega arith)
    go false false = λ h. absurd (omega arith)
    go false true = kept-body (body cs) after before

-- contents alone are never refused with a place
pub contents-broken : (cs : List ℕ) (n : ℕ) → judge_contents cs ≡ broken n → ⊥
contents-broken cs n e = nil≢cons (subst (λ (t : Told). KeptBy t [] (0 ∷ [])) e (kept-contents cs [] (0 ∷ [])))

kept_by : (e : Escapes) (raw recv : List ℕ) → KeptBy (closed_by e raw recv).told (closed_by e raw recv).recv recv
unfolding closed_by
kept_by Unfinished raw recv = λ h. refl
kept_by (Wrong n) raw recv = refl
kept_by Right raw recv = kept-contents (plain raw) (plain raw ++ drop (length (plain raw)) recv) recv

numbered : (t : Told) (after before : List ℕ) (n : ℕ) → KeptBy t after before → number t ≡ some n → n ≤ 3 → after ≡ before
numbered (packet p) after before n k e h = let z : ◌≡◌ {A = ℕ} 0 1 = cc in absurd (omega arith)
numbered (refusal m) after before n k e h = let z : m ≡ n = cc in k (omega arith)
numbered (broken m) after before n k e h = k

pub closed-keeps : (recv : List ℕ) (raw n : ℕ) → number (closed recv raw).told ≡ some n → n ≤ 3 → (closed recv raw).recv ≡ recv
closed-keeps recv raw n =
    numbered (closed recv raw).told (closed recv raw).recv recv n
    (by-ways recv raw (λ c. KeptBy c.told c.recv recv) (λ h. refl) (λ k. kept_by k (take raw recv) recv))
