-- The refusals of a frame, row by row.
-- closed-exact, judging-exact, judge-exact   of the raw bytes in a receive buffer, by the call that judges them, and of raw bytes alone
-- judging-same                a call that is refused leaves the receive buffer
-- Small, small, frame-or-call   the number is one of frames, and none of those is one of calls
-- unfit-is, fit_is            24 as a fact
-- barred-is, free-is          7 and 22 as facts
-- undone                      but for 1, 2 and 3, escapes are undone in the buffer
use Prim.Native.Nat.{ℕ, suc, ◌+◌, ◌-◌, ◌≤◌, ◌<◌}
use native.Mathlib.Nat.{add-zero}
use native.Mathlib.Omega.{arith}
use mathlib.Core.Path.{◌≡◌, refl, sym, ap, subst, ◌∙◌}
use mathlib.Core.Bool.{Bool, true, false, ◌&&◌}
use mathlib.Core.Logic.{◌⊎◌, ◌↔◌, ◌≢◌, ⊎_elim}
use mathlib.Core.Logic.◌⊎◌.{inl, inr}
use mathlib.Core.List.{List, [], ◌∷◌, ◌++◌}
use mathlib.Core.Option.{some}
use lib.Dec.{eqb, ltb, leb}
use lib.ListN.{length, take, drop, get_or}
use lib.Seq.{take_all, length-take-le, get_or-take, get_or-drop, drop-drop}
use borrow.Author.Tests.{eq-eqb, ne_eqb, eqb-true, eqb-false, ltb-true, ltb-false, leb-true, leb-false}
use Rattle.base.specs.Choice.{pick}
use Rattle.base.proofs.Lists.{drop-take}
use Rattle.base.proofs.Tests.{by_le, and_parts}
use Rattle.fcs.specs.Fcs.{fcs}
use Rattle.packet_spec.specs.Port.{barred}
use Rattle.packet_spec.specs.Contents.{Packet, plain_format, key_format, key_least, key_most, key_sized, key_at, rest_least}
use Rattle.packet_spec.specs.Contents.{key_length, payload_limit, raw_limit, pair, pair_at, unpacked, plainly, keyed, body}
use Rattle.packet_spec.specs.Escape.{escape, plain, scan}
use Rattle.packet_spec.specs.Frame.{Told, packet, refusal, broken, number, kept, judge_packet, key_fits}
use Rattle.packet_spec.specs.Frame.{judge_body, judge_contents, closed_by, closed, judging, judge}
use Rattle.packet_spec.specs.declared.Escapes.{Escapes}
use Rattle.packet_spec.specs.declared.Escapes.TheVariants.{Right, Unfinished, Wrong}
use Rattle.packet_spec.specs.Sender.{head_fits}
use Rattle.packet_spec.proofs.Judging.{key_fits_lem}
use Rattle.packet_spec.proofs.Round.{by-format}
use Rattle.packet_spec.proofs.Faults.{Scanned, scan-says, broken-followed}
use Rattle.demands_laws.specs.Table.{Row, Exact}
use Rattle.demands_laws.specs.Refusals.{Unusable, KeyBeyond, KeyWrong, port_at, payload_of, body_rows}
use Rattle.demands_laws.specs.Refusals.{contents_rows, frame_rows, UnfitHead, OfFrame, OfCall, ByFrame}
use Rattle.demands_laws.proofs.Rows.{applies, over, row, row-not, passed, not-both, not-less, not_same, first-each}

pub barred-is : (port : ℕ) → barred port ≡ true → Unusable port
barred-is port = go (leb 0x7D00 port) refl
  where
    go : (t : Bool) → leb 0x7D00 port ≡ t → pick t (leb port 0x7EFF) false ≡ true → Unusable port
    go true e h = (leb-true _ _ e, leb-true _ _ h)
    go false e h = let z : ◌≡◌ {A = ℕ} 0 1 = cc in absurd (omega arith)

pub free-is : (port : ℕ) → barred port ≡ false → Unusable port → ⊥
free-is port = go (leb 0x7D00 port) refl
  where
    go : (t : Bool) → leb 0x7D00 port ≡ t → pick t (leb port 0x7EFF) false ≡ false → Unusable port → ⊥
    go true e h u = let k : 0x7EFF < port = leb-false _ _ h in omega (arith, u.1)
    go false e h u = let k : port < 0x7D00 = leb-false _ _ e in omega (arith, u.0)

is : (m n : ℕ) → ByFrame (refusal m) n ↔ n ≡ m
is m n = (λ e. let k : m ≡ n = cc in sym k, λ e i. some (sym e i))

is-broken : (m n : ℕ) → ByFrame (broken m) n ↔ n ≡ 3
is-broken m n = (λ e. let k : 3 ≡ n = cc in sym k, λ e i. some (sym e i))

-- ---- keys, as facts
sized-not : (k : ℕ) → key_sized k ≡ false → KeyBeyond k
sized-not k = go (leb key_least k) refl
  where
    go : (t : Bool) → leb key_least k ≡ t → t && leb k key_most ≡ false → KeyBeyond k
    go true e h = inr (leb-false _ _ h)
    go false e h = inl (leb-false _ _ e)

pub unfit-is : (p : Packet) → head_fits p.format p.number (length p.key) ≡ false → UnfitHead p
unfit-is p = go (eqb p.format plain_format) refl (eqb p.format key_format) refl
  where
    k : ℕ
    k = length p.key

    some : (t : Bool) → eqb k 0 ≡ t → t && eqb p.number 0 ≡ false → (0 < k) ⊎ (0 < p.number)
    some true e h = inr (let n = eqb-false p.number 0 h in by_le p.number 0 (λ l. absurd (n (omega arith))) (λ l. l))
    some false e h = inl (let n = eqb-false k 0 e in by_le k 0 (λ l. absurd (n (omega arith))) (λ l. l))

    go : (t : Bool) → eqb p.format plain_format ≡ t → (u : Bool) → eqb p.format key_format ≡ u
        → pick t (eqb k 0 && eqb p.number 0) (pick u (key_sized k) false) ≡ false → UnfitHead p
    go true e u f h = inr (inr (eqb-true _ _ e, some (eqb k 0) refl h))
    go false e true f h = inl (eqb-true _ _ f, sized-not k h)
    go false e false f h = inr (inl (eqb-false _ _ e, eqb-false _ _ f))

pub fit_is : (p : Packet) → head_fits p.format p.number (length p.key) ≡ true → UnfitHead p → ⊥
fit_is p h =
    by-format p h
    (λ e. let f : p.format ≡ plain_format = ap (λ (q : Packet). q.format) e in
    let k : length p.key ≡ 0 = ap (λ (q : Packet). length q.key) e in
    let n : p.number ≡ 0 = ap (λ (q : Packet). q.number) e in
    ⊎_elim (λ u. omega (arith, u.0)) (⊎_elim (λ u. u.0 f) (λ u. ⊎_elim (λ z. omega (arith, z)) (λ z. omega (arith, z)) u.1)))
    (λ e low high. let f : p.format ≡ key_format = ap (λ (q : Packet). q.format) e in
    ⊎_elim (λ u. ⊎_elim (λ z. omega (arith, z)) (λ z. omega (arith, z)) u.1) (⊎_elim (λ u. u.1 f) (λ u. omega (arith, u.0))))

-- ---- format byte to last payload byte, seen from the contents
module _ (cs : List ℕ) (long : 8 ≤ length cs) where
  body_at : (i : ℕ) → i < length cs - 2 → get_or (body cs) i 0 ≡ get_or cs i 0
  body_at i h = get_or-take (length cs - 2) cs i 0 h

  body-length : length (body cs) ≡ length cs - 2
  body-length = length-take-le (length cs - 2) cs (omega arith)

  -- a packet taken apart at the port's place
  packet-exact : (format number : ℕ) (key : List ℕ) (at : ℕ) → port_at cs ≡ at → at + 2 ≤ length cs - 2
      → Exact ByFrame (judge_packet (unpacked format number key (drop at (body cs))))
      ((7, Unusable (pair_at cs (port_at cs))) ∷ (8, payload_limit < length (escape (payload_of cs))) ∷ [])
  packet-exact format number key at e h =
      let a : get_or (drop at (body cs)) 0 0 ≡ get_or cs at 0 = get_or-drop at (body cs) 0 0 ∙ ap (λ (i : ℕ). get_or (body cs) i 0) (add-zero at)
      ∙ body_at at (omega arith) in
      let b : get_or (drop at (body cs)) 1 0 ≡ get_or cs (at + 1) 0 = get_or-drop at (body cs) 1 0 ∙ body_at (at + 1) (omega arith) in
      let w : pair_at (drop at (body cs)) 0 ≡ pair_at cs (port_at cs) = (λ i. pair (a i) (b i)) ∙ ap (pair_at cs) (sym e) in
      let p : drop 4 (drop at (body cs)) ≡ payload_of cs =
      drop-drop 4 at (body cs) ∙ drop-take (at + 4) (length cs - 2) cs ∙ ap (λ (n : ℕ). take (length cs - 2 - (n + 4)) (drop (n + 4) cs)) (sym e) in
      row ByFrame (barred (pair_at (drop at (body cs)) 0)) (is 7) (λ t. barred-is _ (ap barred (sym w) ∙ t)) (λ t. free-is _ (ap barred (sym w) ∙ t))
      (row ByFrame (ltb payload_limit (length (escape (drop 4 (drop at (body cs)))))) (is 8)
      (λ t. subst (λ (l : List ℕ). payload_limit < length (escape l)) p (ltb-true _ _ t))
      (λ t u. not-less _ _ t (subst (λ (l : List ℕ). payload_limit < length (escape l)) (sym p) u))
      (passed ByFrame λ n e. let z : ◌≡◌ {A = ℕ} 0 1 = cc in omega arith))

  first-same : get_or (body cs) 0 0 ≡ get_or cs 0 0
  first-same = body_at 0 (omega arith)

  key-same : key_length (body cs) ≡ key_length cs
  key-same = body_at 1 (omega arith)

  body-exact : Exact ByFrame (judge_body (body cs)) (body_rows cs)
  unfolding judge_body
  body-exact = go (eqb (get_or (body cs) 0 0) plain_format) refl (eqb (get_or (body cs) 0 0) key_format) refl (key_fits (body cs)) refl
    where
      plain-port : get_or cs 0 0 ≡ plain_format → port_at cs ≡ 1
      plain-port f = ap (λ (t : Bool). pick t (key_at + key_length cs) 1) (ne_eqb (get_or cs 0 0) key_format (λ z. absurd (omega (arith, f, z))))

      key-port : get_or cs 0 0 ≡ key_format → port_at cs ≡ key_at + key_length (body cs)
      key-port f = ap (λ (t : Bool). pick t (key_at + key_length cs) 1) (eq-eqb _ _ f) ∙ ap (λ (k : ℕ). key_at + k) (sym key-same)

      unfit : key_fits (body cs) ≡ false → KeyWrong cs
      unfit e =
          ⊎_elim (λ h. inl (subst KeyBeyond key-same (sized-not (key_length (body cs)) h)))
          (λ h. let m : length (body cs) < key_at + key_length (body cs) + rest_least = leb-false _ _ h in inr (omega (arith, body-length, key-same)))
          (not-both (key_sized (key_length (body cs))) (leb (key_at + key_length (body cs) + rest_least) (length (body cs))) e)

      fit : key_fits (body cs) ≡ true → KeyWrong cs → ⊥
      fit e =
          let f = key_fits_lem (body cs) e in
          ⊎_elim (⊎_elim (λ h. omega (arith, h, f.0, key-same)) (λ h. omega (arith, h, f.1, key-same))) (λ h. omega (arith, h, f.2, body-length, key-same))

      go : (t : Bool) → eqb (get_or (body cs) 0 0) plain_format ≡ t → (u : Bool) → eqb (get_or (body cs) 0 0) key_format ≡ u → (v : Bool)
          → key_fits (body cs) ≡ v
          → Exact ByFrame (pick t (judge_packet (plainly (body cs))) (pick u (pick v (judge_packet (keyed (body cs))) (refusal 12)) (refusal 6))) (body_rows cs)
      go true e u g v k =
          let f : get_or cs 0 0 ≡ plain_format = sym first-same ∙ eqb-true _ _ e in
          over ByFrame (λ n. n.0 f) (over ByFrame (λ n. omega (arith, n.0)) (packet-exact plain_format 0 [] 1 (plain-port f) (omega arith)))
      go false e true g true k =
          let f : get_or cs 0 0 ≡ key_format = sym first-same ∙ eqb-true _ _ g in
          over ByFrame (λ n. n.1 f) (over ByFrame (λ n. fit k n.1)
          (packet-exact key_format (get_or (body cs) 2 0) (take (key_length (body cs)) (drop key_at (body cs))) (key_at + key_length (body cs)) (key-port f)
          (omega (arith, (key_fits_lem (body cs) k).2, body-length))))
      go false e true g false k =
          let f : get_or cs 0 0 ≡ key_format = sym first-same ∙ eqb-true _ _ g in
          over ByFrame (λ n. n.1 f) (applies ByFrame _ (is 12) (f, unfit k))
      go false e false g v k =
          applies ByFrame _ (is 6) (λ f. eqb-false _ _ e (first-same ∙ f), λ f. eqb-false _ _ g (first-same ∙ f))

contents-exact : (cs : List ℕ) → Exact ByFrame (judge_contents cs) (contents_rows cs)
unfolding judge_contents
contents-exact cs = go (ltb (length cs) 8) refl
  where
    go : (t : Bool) → ltb (length cs) 8 ≡ t
        → Exact ByFrame (pick t (refusal 4) (pick (eqb (fcs (body cs)) (pair_at cs (length cs - 2))) (judge_body (body cs)) (refusal 5))) (contents_rows cs)
    go true e = applies ByFrame _ (is 4) (ltb-true _ _ e)
    go false e =
        over ByFrame (not-less _ _ e)
        (row-not ByFrame (eqb (fcs (body cs)) (pair_at cs (length cs - 2))) (is 5) (eqb-false _ _) (λ f. not_same (eqb-true _ _ f))
        (body-exact cs (ltb-false _ _ e)))

by-exact : (e : Escapes) (raw recv : List ℕ) → Scanned e raw → Exact ByFrame (closed_by e raw recv).told (frame_rows raw)
unfolding closed_by
by-exact Unfinished raw recv s = applies ByFrame _ (is 2) s
by-exact (Wrong n) raw recv s = over ByFrame s.0 (applies ByFrame _ (is-broken n) (broken-followed s.1))
by-exact Right raw recv s = over ByFrame s.0 (over ByFrame s.1 (contents-exact (plain raw)))

pub closed-exact : (recv : List ℕ) (m : ℕ)
    → Exact ByFrame (closed recv m).told ((1, raw_limit < m) ∷ frame_rows (take m recv))
unfolding closed
closed-exact recv m = go (ltb raw_limit m) refl
  where
    go : (t : Bool) → ltb raw_limit m ≡ t
        → Exact ByFrame (pick t (kept 1 recv) (closed_by (scan (take m recv)) (take m recv) recv)).told ((1, raw_limit < m) ∷ frame_rows (take m recv))
    go true e = applies ByFrame _ (is 1) (ltb-true _ _ e)
    go false e = over ByFrame (not-less _ _ e) (by-exact (scan (take m recv)) (take m recv) recv (scan-says (take m recv)))

pub judging-exact : (recv : List ℕ) (m : ℕ)
    → Exact ByFrame (judging recv m).told ((10, suc raw_limit < m) ∷ (11, length recv < raw_limit) ∷ (1, raw_limit < m) ∷ frame_rows (take m recv))
judging-exact recv m = go (ltb (suc raw_limit) m) (ltb (length recv) raw_limit) refl refl
  where
    go : (o s : Bool) → ltb (suc raw_limit) m ≡ o → ltb (length recv) raw_limit ≡ s
        → Exact ByFrame (pick o (kept 10 recv) (pick s (kept 11 recv) (closed recv m))).told
        ((10, suc raw_limit < m) ∷ (11, length recv < raw_limit) ∷ (1, raw_limit < m) ∷ frame_rows (take m recv))
    go true s e f = applies ByFrame _ (is 10) (ltb-true _ _ e)
    go false true e f = over ByFrame (not-less _ _ e) (applies ByFrame _ (is 11) (ltb-true _ _ f))
    go false false e f = over ByFrame (not-less _ _ e) (over ByFrame (not-less _ _ f) (closed-exact recv m))

pub judge-exact : (raw : List ℕ) → Exact ByFrame (judge raw) ((1, raw_limit < length raw) ∷ frame_rows raw)
unfolding judge closed
judge-exact raw =
    let all : take (length raw) raw ≡ raw = take_all (length raw) raw (omega arith) in
    let e : judge raw ≡ pick (ltb raw_limit (length raw)) (refusal 1) (closed_by (scan raw) raw raw).told =
    ap (λ (l : List ℕ). (pick (ltb raw_limit (length raw)) (kept 1 raw) (closed_by (scan l) l raw)).told) all
    ∙ out (ltb raw_limit (length raw)) in
    subst (λ (t : Told). Exact ByFrame t ((1, raw_limit < length raw) ∷ frame_rows raw)) (sym e)
    (row ByFrame (ltb raw_limit (length raw)) (is 1) (ltb-true _ _) (not-less _ _) (by-exact (scan raw) raw raw (scan-says raw)))
  where
    out : (t : Bool) → (pick t (kept 1 raw) (closed_by (scan raw) raw raw)).told ≡ pick t (refusal 1) (closed_by (scan raw) raw raw).told
    out true = refl
    out false = refl

-- ---- numbers of frames are 1 to 8 and 12
abbrev pub Small : Told → Type 0
Small (packet p) = Unit {0}
Small (refusal n) = OfFrame n
Small (broken n) = Unit {0}

small_by : (t : Told) → ((n : ℕ) → t ≡ refusal n → OfFrame n) → Small t
small_by (packet p) h = tt
small_by (refusal n) h = h n refl
small_by (broken n) h = tt

pub small : (recv : List ℕ) (m : ℕ) → Small (closed recv m).told
small recv m =
    small_by (closed recv m).told λ n e.
    first-each OfFrame ((1, raw_limit < m) ∷ frame_rows (take m recv)) (
      inl (omega arith, omega arith),
      (
        inl (omega arith, omega arith),
        (
          inl (omega arith, omega arith),
          (
            inl (omega arith, omega arith),
            (
              inl (omega arith, omega arith),
              (inl (omega arith, omega arith), (inr refl, (inl (omega arith, omega arith), (inl (omega arith, omega arith), tt)))),
            ),
          ),
        ),
      ),
    ) n
    (((closed-exact recv m).says n).0 (ap number e))

-- no number is both a frame's and a call's
pub frame-or-call : (n : ℕ) → OfFrame n → OfCall n → ⊥
frame-or-call n f c = ⊎_elim (λ a. ⊎_elim (λ b. omega (arith, a.1, b)) (λ b. omega (arith, a.1, b)) c)
    (λ a. ⊎_elim (λ b. omega (arith, a, b)) (λ b. omega (arith, a, b)) c) f

-- ---- a refused call leaves the buffer
pub judging-same : (recv : List ℕ) (m n : ℕ) → (judging recv m).told ≡ refusal n → OfCall n → (judging recv m).recv ≡ recv
judging-same recv m n = go (ltb (suc raw_limit) m) (ltb (length recv) raw_limit)
  where
    go : (o s : Bool) → (pick o (kept 10 recv) (pick s (kept 11 recv) (closed recv m))).told ≡ refusal n → OfCall n
        → (pick o (kept 10 recv) (pick s (kept 11 recv) (closed recv m))).recv ≡ recv
    go true s e h = refl
    go false true e h = refl
    go false false e h = absurd (frame-or-call n (subst Small e (small recv m)) h)

-- ---- escapes undone
pub undone : (recv : List ℕ) (m : ℕ) → ((n : ℕ) → ByFrame (closed recv m).told n → 3 < n)
    → (closed recv m).recv ≡ plain (take m recv) ++ drop (length (plain (take m recv))) recv
unfolding closed closed_by
undone recv m = go (ltb raw_limit m) (scan (take m recv))
  where
    go : (t : Bool) (e : Escapes) → ((n : ℕ) → ByFrame (pick t (kept 1 recv) (closed_by e (take m recv) recv)).told n → 3 < n)
        → (pick t (kept 1 recv) (closed_by e (take m recv) recv)).recv ≡ plain (take m recv) ++ drop (length (plain (take m recv))) recv
    go true s h = let z : 3 < 1 = h 1 refl in absurd (omega arith)
    go false Unfinished h = let z : 3 < 2 = h 2 refl in absurd (omega arith)
    go false (Wrong k) h = let z : 3 < 3 = h 3 refl in absurd (omega arith)
    go false Right h = refl
