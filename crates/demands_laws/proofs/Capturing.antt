-- The refusals of request W11's calls, row by row.
-- enter-exact, import-exact, end-exact   each number exactly when its row applies and none above it
-- import-same                            refused, no byte is taken, and state and store are as they were
use Prim.Native.Nat.{ℕ, ◌+◌, ◌≤◌, ◌<◌}
use native.Mathlib.Omega.{arith}
use mathlib.Core.Path.{◌≡◌, refl, sym, subst, ◌∙◌}
use mathlib.Core.Bool.{Bool, true, false}
use mathlib.Core.Logic.{◌↔◌, ⊎_elim}
use mathlib.Core.Logic.◌⊎◌.{inl, inr}
use mathlib.Core.List.{List, [], ◌∷◌}
use mathlib.Core.Option.{Option, some, none}
use lib.Dec.{eqb, ltb, leb}
use lib.ListN.{length, get_or, take, set}
use borrow.Author.Tests.{eqb-true, eqb-false, ltb-true, ltb-false, leb-true, leb-false}
use Rattle.base.specs.Bytes.{Bytes}
use Rattle.base.specs.Calls.{With, owes_none, hands_none}
use Rattle.base.specs.Choice.{pick}
use Rattle.base.proofs.Calls.{none-owed, with-hear}
use Rattle.base.proofs.Tests.{by-eq, and_parts}
use Rattle.packet_spec.specs.Frame.{Told, packet, refusal, broken}
use Rattle.capture_spec.specs.File.{header, record_of}
use Rattle.capture_spec.specs.Meaning.{entry, entry_limit, four_at}
use Rattle.capture_spec.proofs.Entry.{entry-ways, entry-only, none-exactly}
use Rattle.capture.specs.Export.{entering_by, entering}
use Rattle.capture.specs.Call.{Held, held, says, take_by, take_byte, read_on, read_by, read_call, sound, ending, finishing}
use Rattle.capture.specs.declared.reader.CaptureReader.{CaptureReader}
use Rattle.capture.specs.declared.reader.CaptureReader.TheVariants.{Header, Head, Record, Behind}
use Rattle.capture.specs.Call.{Whole, Refused}
use Rattle.capture.proofs.Entering.{length-record}
use Rattle.demands_laws.specs.Table.{Exact}
use Rattle.demands_laws.specs.Refusals.{OfCall, ByCall, ByRead}
use Rattle.demands_laws.specs.Captures.{CaptureBeyond, NoPacket, HeaderMissed, RecordCut, FaultBefore, ByEnd}
use Rattle.demands_laws.proofs.Rows.{applies, over, passed, not-both, refuses, wrote}
use Rattle.demands_laws.proofs.Called.{not-most}

-- ---- a record written
pub enter-exact : (i : ℕ) (bs out : List ℕ) → Bytes bs → Exact ByCall (entering i bs out) ((62, NoPacket bs) ∷ (23, length out < length bs + 16) ∷ [])
enter-exact i bs out h =
    entry-ways bs (λ (t : Told). entry bs ≡ t → Exact ByCall (entering_by t i bs out) ((62, NoPacket bs) ∷ (23, length out < length bs + 16) ∷ []))
    (λ e. applies ByCall _ (refuses 62 out) ((none-exactly bs h).0 e))
    (λ p l f e. let o = entry-only bs h p e in over ByCall (λ z. z p o.1 o.0) (wrote (record_of i bs) out (length bs + 16) (length-record i bs))) refl

-- ---- 10, as a fact
beyond : (c : CaptureReader) → sound c ≡ false → CaptureBeyond c
beyond (Header k) e = ltb-false k 24 e
beyond (Head k) e = ltb-false k 16 e
beyond (Record n d) e = ltb-false d n e
beyond (Behind f) e = ⊎_elim (λ h. inl (leb-false 60 f h)) (λ h. inr (leb-false f 62 h)) (not-both (leb 60 f) (leb f 62) e)

within : (c : CaptureReader) → sound c ≡ true → CaptureBeyond c → ⊥
within (Header k) e h = let l = ltb-true k 24 e in omega (arith, l, h)
within (Head k) e h = let l = ltb-true k 16 e in omega (arith, l, h)
within (Record n d) e h = let l = ltb-true d n e in omega (arith, l, h)
within (Behind f) e h =
    let p = and_parts (leb 60 f) (leb f 62) e in
    ⊎_elim (λ l. not-most 60 f p.0 l) (λ l. not-most f 62 p.1 l) h

-- ---- a capture's own numbers are none of a call's
abbrev Own : Told → Held → Type 0
Own (packet p) h = Unit {0}
Own (refusal n) h = 60 ≤ n
Own (broken n) h = Unit {0}

own-take : (c : CaptureReader) (st : List ℕ) (b : ℕ) → With Own (take_by c st b).0 (take_by c st b).1
own-take (Header k) st b = go (eqb b (get_or header k 0))
  where
    ways : Bool → Option Told × CaptureReader
    ways t = pick t (none, pick (eqb (k + 1) 24) (Head 0) (Header (k + 1))) (says (refusal 60))

    go : (t : Bool) → With Own (ways t).0 (held (ways t).1 st)
    go true = tt
    go false = omega arith
own-take (Head k) st b = go (eqb (k + 1) 16) (eqb (four_at l 8) (four_at l 12)) (eqb (four_at l 8) 0)
  where
    l : List ℕ
    l = set st k b

    ways : Bool → Bool → Bool → Option Told × CaptureReader
    ways t u v = pick t (pick u (pick v (says (refusal 62)) (none, Record (four_at l 8) 0)) (says (refusal 61))) (none, Head (k + 1))

    go : (t u v : Bool) → With Own (ways t u v).0 (held (ways t u v).1 l)
    go false u v = tt
    go true false v = omega arith
    go true true false = tt
    go true true true = omega arith
own-take (Record n d) st b = go (eqb (d + 1) n) (ltb entry_limit n)
  where
    l : List ℕ
    l = set st d b

    ways : Bool → Bool → Option Told × CaptureReader
    ways t u = pick t (says (pick u (refusal 62) (entry (take n l)))) (none, Record n (d + 1))

    go : (t u : Bool) → With Own (ways t u).0 (held (ways t u).1 l)
    go false u = tt
    go true true = omega arith
    go true false = entry-ways (take n l) (λ (t : Told). With Own (says t).0 (held (says t).1 l)) (omega arith) (λ p m e. tt)
own-take (Behind f) st b = tt

own-only : (o : Option Told) (h : Held) (n : ℕ) → With Own o h → OfCall n → o ≡ some (refusal n) → ⊥
own-only o h n w k e =
    let l : 60 ≤ n = subst (λ (o : Option Told). With Own o h) e w in
    ⊎_elim (λ z. omega (arith, l, z)) (λ z. omega (arith, l, z)) k

is_read : (h : Held) (m n : ℕ) → OfCall m → ByRead {B = Held} (some (refusal m), 0, h) n ↔ n ≡ m
is_read h m n k = (λ e. let z : m ≡ n = cc in sym z, λ e. (subst OfCall (sym e) k, λ i. some (refusal (sym e i))))

pub import-exact : (h : Held) (bs : List ℕ) → Exact ByRead (read_call h bs) ((10, CaptureBeyond h.st) ∷ (11, length h.store < entry_limit) ∷ [])
import-exact h bs = go (sound h.st) (leb entry_limit (length h.store)) refl refl
  where
    go : (s r : Bool) → sound h.st ≡ s → leb entry_limit (length h.store) ≡ r
        → Exact ByRead (read_by s r h bs) ((10, CaptureBeyond h.st) ∷ (11, length h.store < entry_limit) ∷ [])
    go false r e f = applies ByRead _ (λ n. is_read h 10 n (inl refl)) (beyond h.st e)
    go true false e f = over ByRead (within h.st e) (applies ByRead _ (λ n. is_read h 11 n (inr refl)) (leb-false _ _ f))
    go true true e f =
        over ByRead (within h.st e) (over ByRead (not-most _ _ f) (passed ByRead λ n b.
        own-only (read_on h bs).0 (read_on h bs).2 n
        (with-hear owes_none hands_none take_byte none-owed Own (λ g. tt) (λ g b. own-take g.st g.store b) h bs) b.0 b.1))

pub import-same : (h : Held) (bs : List ℕ) (n : ℕ) → ByRead (read_call h bs) n → read_call h bs ≡ (some (refusal n), 0, h)
import-same h bs n = go (sound h.st) (leb entry_limit (length h.store))
  where
    go : (s r : Bool) → ByRead (read_by s r h bs) n → read_by s r h bs ≡ (some (refusal n), 0, h)
    go false r b = λ i. (b.1 i, 0, h)
    go true false b = λ i. (b.1 i, 0, h)
    go true true b =
        absurd (own-only (read_on h bs).0 (read_on h bs).2 n
        (with-hear owes_none hands_none take_byte none-owed Own (λ g. tt) (λ g b. own-take g.st g.store b) h bs) b.0 b.1)

-- ---- the end of a file
is-end : (m n : ℕ) → ByEnd (Refused m) n ↔ n ≡ m
is-end m n = (λ e. let z : m ≡ n = cc in sym z, λ e i. Refused (sym e i))

whole-end : Exact ByEnd Whole []
whole-end = passed ByEnd λ n e. let z : ◌≡◌ {A = ℕ} 0 1 = cc in omega arith

ending-exact : (c : CaptureReader) → sound c ≡ true → Exact ByEnd (ending c) ((60, HeaderMissed c) ∷ (61, RecordCut c) ∷ (62, FaultBefore c) ∷ [])
ending-exact (Header k) s = applies ByEnd _ (is-end 60) tt
ending-exact (Head k) s = over ByEnd (λ z. z) (go (eqb k 0) refl)
  where
    go : (t : Bool) → eqb k 0 ≡ t → Exact ByEnd (pick t Whole (Refused 61)) ((61, 0 < k) ∷ (62, ⊥) ∷ [])
    go true e = over ByEnd (λ z. omega (arith, z, eqb-true k 0 e)) (over ByEnd (λ z. z) whole-end)
    go false e = applies ByEnd _ (is-end 61) (let z = eqb-false k 0 e in omega (arith, z))
ending-exact (Record n d) s = over ByEnd (λ z. z) (applies ByEnd _ (is-end 61) tt)
ending-exact (Behind f) s =
    by-eq f 60 (λ e. applies ByEnd _ (λ n. at n e) e)
    (λ z. over ByEnd z
    (by-eq f 61 (λ e. applies ByEnd _ (λ n. at n e) e)
    (λ y. let p = and_parts (leb 60 f) (leb f 62) s in
    let e : f ≡ 62 = omega (arith, leb-true 60 f p.0, leb-true f 62 p.1, z, y) in
    over ByEnd y (applies ByEnd _ (λ n. at n e) e))))
  where
    at : {m : ℕ} (n : ℕ) → f ≡ m → ByEnd (Refused f) n ↔ n ≡ m
    at n e = (λ q. (is-end f n).0 q ∙ e, λ q. (is-end f n).1 (q ∙ sym e))

pub end-exact : (c : CaptureReader) → Exact ByEnd (finishing c) ((10, CaptureBeyond c) ∷ (60, HeaderMissed c) ∷ (61, RecordCut c) ∷ (62, FaultBefore c) ∷ [])
end-exact c = go (sound c) refl
  where
    go : (t : Bool) → sound c ≡ t → Exact ByEnd (pick t (ending c) (Refused 10))
        ((10, CaptureBeyond c) ∷ (60, HeaderMissed c) ∷ (61, RecordCut c) ∷ (62, FaultBefore c) ∷ [])
    go false e = applies ByEnd _ (is-end 10) (beyond c e)
    go true e = over ByEnd (within c e) (ending-exact c e)
