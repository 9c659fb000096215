-- What the code's ways through a call give.
-- take-length                                        a byte leaves the store its length
-- fine-fresh, fine-take, fine-all                    states and stores that pass 10 and 11: before the first byte, and behind each
-- Going                                              what the loop over the bytes of a piece keeps (within, means, fine)
-- going-first, going_next, going_end, going_done     .. its start, a turn, an answer, its end
-- call-unsound, call-cramped, call-on                refused with 10, with 11, or let on
use mathlib.Core.Path.{◌≡◌, refl, sym, ap, subst, ◌∙◌}
use mathlib.Core.Bool.{Bool, true, false, false≢true}
use mathlib.Core.List.{List, [], ◌∷◌}
use mathlib.Core.Option.{Option, some, none}
use Prim.Native.Nat.{ℕ, ◌+◌, ◌≤◌, ◌<◌}
use native.Mathlib.Nat.{add-zero}
use native.Mathlib.Omega.{arith}
use borrow.Author.Tests.{eq-eqb, ne_eqb, lt-ltb, le-leb, lt-leb, ltb-true}
use lib.Dec.{eqb, ltb}
use lib.ListN.{length, get_or, take, drop, set, length-set}
use Rattle.base.specs.Calls.{tell, unless, one_more, after}
use Rattle.base.specs.Choice.{pick}
use Rattle.base.proofs.Calls.{after_none, after_more}
use Rattle.base.proofs.Lists.{next, over}
use Rattle.base.proofs.Tests.{by-eq}
use Rattle.packet_spec.specs.Frame.{Told, refusal, judged}
use Rattle.packet_spec.specs.declared.Judged.TheVariants.{Refused}
use Rattle.std.specs.Prelude.{None, Some}
use Rattle.stream.specs.Call.{answered}
use Rattle.capture_spec.specs.File.{header}
use Rattle.capture_spec.specs.Meaning.{entry, entry_limit, four_at}
use Rattle.capture_spec.proofs.Entry.{entry-ways}
use Rattle.capture.specs.declared.reader.CaptureReader.{CaptureReader}
use Rattle.capture.specs.declared.reader.CaptureReader.TheVariants.{Header, Head, Record, Behind}
use Rattle.capture.specs.declared.reader.Read.{Read}
use Rattle.capture.specs.declared.reader.Step.{Step}
use Rattle.capture.specs.Call.{Held, held, says, next as behind, whole_by, take_by, take_byte, read_all, read_on, read_call, sound, Fine, read_of, ReadIs}
use Rattle.capture.specs.Private.{StepIs}

-- ---- counts within their limits, behind each byte
headed-sound : (m n : ℕ) → sound (pick (eqb m n) (pick (eqb m 0) (says (refusal 62)) (none, Record m 0)) (says (refusal 61))).1 ≡ true
headed-sound m n = go (eqb m n) (eqb m 0) refl
  where
    go : (t u : Bool) → eqb m 0 ≡ u → sound (pick t (pick u (says (refusal 62)) (none, Record m 0)) (says (refusal 61))).1 ≡ true
    go false u e = refl
    go true true e = refl
    go true false e = lt-ltb 0 m (by-eq m 0 (λ z. absurd (false≢true (sym e ∙ eq-eqb m 0 z))) (λ z. omega (arith, z)))

whole-sound : (n : ℕ) (st : List ℕ) → sound (whole_by n st).1 ≡ true
whole-sound n st = go (ltb entry_limit n)
  where
    go : (t : Bool) → sound (behind (judged (pick t (refusal 62) (entry (take n st))))) ≡ true
    go true = refl
    go false = entry-ways (take n st) (λ (t : Told). sound (behind (judged t)) ≡ true) refl (λ p l e. refl)

take-sound : (c : CaptureReader) (st : List ℕ) (b : ℕ) → sound c ≡ true → sound (take_by c st b).1.st ≡ true
take-sound (Header k) st b s = go (eqb b (get_or header k 0))
  where
    l : k < 24
    l = ltb-true k 24 s

    go : (t : Bool) → sound (pick t (none, pick (eqb (k + 1) 24) (Head 0) (Header (k + 1))) (says (refusal 60))).1 ≡ true
    go false = refl
    go true = by-eq (k + 1) 24 (λ e. rw (eq-eqb (k + 1) 24 e) refl) (λ z. rw (ne_eqb (k + 1) 24 z) (lt-ltb (k + 1) 24 (omega (arith, l, z))))
take-sound (Head k) st b s =
    by-eq (k + 1) 16 (λ e. rw (eq-eqb (k + 1) 16 e) (headed-sound (four_at (set st k b) 8) (four_at (set st k b) 12)))
    (λ z. rw (ne_eqb (k + 1) 16 z) (lt-ltb (k + 1) 16 (omega (arith, ltb-true k 16 s, z))))
take-sound (Record n d) st b s =
    by-eq (d + 1) n (λ e. rw (eq-eqb (d + 1) n e) (whole-sound n (set st d b)))
    (λ z. rw (ne_eqb (d + 1) n z) (lt-ltb (d + 1) n (omega (arith, ltb-true d n s, z))))
take-sound (Behind f) st b s = s

-- the store stays as long as it was
pub take-length : (c : CaptureReader) (st : List ℕ) (b : ℕ) → length (take_by c st b).1.store ≡ length st
take-length (Header k) st b = refl
take-length (Head k) st b = length-set st k b
take-length (Record n d) st b = length-set st d b
take-length (Behind f) st b = refl

pub fine-fresh : (st : List ℕ) → entry_limit ≤ length st → Fine (held (Header 0) st)
fine-fresh st h = record { counts = refl; room = h }

pub fine-take : (h : Held) (b : ℕ) → Fine h → Fine (take_byte h b).1
fine-take h b f = record {
  counts = take-sound h.st h.store b f.counts;
  room = subst (λ (n : ℕ). entry_limit ≤ n) (sym (take-length h.st h.store b)) f.room;
}

pub fine-all : (bs : List ℕ) (h : Held) → Fine h → Fine (read_all h bs).1
fine-all [] h f = f
fine-all (b ∷ bs) h f = subst Fine (sym (tell-state (take_byte h b).0 (read_all (take_byte h b).1 bs))) (fine-all bs (take_byte h b).1 (fine-take h b f))
  where
    tell-state : (o : Option Told) (r : List Told × Held) → (tell o r).1 ≡ r.1
    tell-state none r = refl
    tell-state (some a) r = refl

-- ---- the loop: the call on the piece is the one on the bytes left, after those taken
pub record Going (h : Held) (piece : List ℕ) (i : ℕ) (t : Held) : Type 0 where
  pub within : i ≤ length piece
  pub means : read_on h piece ≡ after i (read_on t (drop i piece))
  pub fine : Fine t

pub going-first : (h : Held) (piece : List ℕ) → Fine h → Going h piece 0 h
going-first h piece f = record { within = omega arith; means = after_none (read_on h piece); fine = f }

module _ {h : Held} {piece : List ℕ} {i : ℕ} {c : CaptureReader} {st : List ℕ} (g : Going h piece i (held c st)) (l : i < length piece)
    {r : Step} {st' : List ℕ} (s : StepIs (take_byte (held c st) (get_or piece i 0)) r st') where
  abbrev got : Option Told × Held
  got = take_byte (held c st) (get_or piece i 0)

  one : read_on h piece ≡ after i (unless got.0 1 got.1 (one_more (read_on got.1 (drop (i + 1) piece))))
  one = g.means ∙ ap (λ (bs : List ℕ). after i (read_on (held c st) bs)) (next piece i l)

  told : (o : Option Told) (t : Held) (x : Option Told × ℕ × Held) → (answered o ≡ None → ⊥) → after i (unless o 1 t x) ≡ (o, i + 1, t)
  told none t x e = absurd (e refl)
  told (some a) t x e = refl

  untold : (o : Option Told) (t : Held) (x : Option Told × ℕ × Held) → answered o ≡ None → after i (unless o 1 t (one_more x)) ≡ after (i + 1) x
  untold none t x e = after_more i x
  untold (some a) t x e = absurd cc

  pub going_end : (r.heard ≡ None → ⊥) → ReadIs (read_on h piece) (record { heard = r.heard; taken = i + 1; capture = r.capture }) st'
  going_end d =
      let e = one ∙ told got.0 got.1 _ (λ z. d (ap (λ (x : Step). x.heard) s.0 ∙ z)) in (
        (λ j. record { heard = (s.0 j).heard; taken = i + 1; capture = (s.0 j).capture }) ∙ ap read_of (sym e),
        s.1 ∙ ap (λ (x : Option Told × ℕ × Held). x.2.store) (sym e),
      )

  pub going_next : r.heard ≡ None → Going h piece (i + 1) (held r.capture st')
  going_next d =
      let e : got.1 ≡ held r.capture st' = λ j. held (sym s.0 j).capture (sym s.1 j) in record {
        within = omega (arith, l);
        means = one ∙ untold got.0 got.1 _ (ap (λ (x : Step). x.heard) (sym s.0) ∙ d)
            ∙ ap (λ (x : Held). after (i + 1) (read_on x (drop (i + 1) piece))) e;
        fine = subst Fine e (fine-take (held c st) (get_or piece i 0) g.fine);
      }

pub going_done : {h : Held} {piece : List ℕ} {i : ℕ} {c : CaptureReader} {st : List ℕ} → Going h piece i (held c st) → length piece ≤ i
    → ReadIs (read_on h piece) (record { heard = None; taken = i; capture = c }) st
going_done {h} {piece} {i} {c} {st} g l =
    let e : read_on h piece ≡ (none, i, held c st) = g.means ∙ ap (λ (bs : List ℕ). after i (read_on (held c st) bs)) (over piece i l)
    ∙ (λ j. (none, add-zero i j, held c st)) in
    (ap read_of (sym e), ap (λ (x : Option Told × ℕ × Held). x.2.store) (sym e))

-- ---- the call
module _ (h : Held) (bs : List ℕ) where
  pub call-unsound : sound h.st ≡ false → ReadIs (read_call h bs) (record { heard = Some (Refused 10); taken = 0; capture = h.st }) h.store
  call-unsound e = rw e (refl, refl)

  module _ (s : sound h.st ≡ true) where
    pub call-cramped : length h.store < entry_limit → ReadIs (read_call h bs) (record { heard = Some (Refused 11); taken = 0; capture = h.st }) h.store
    call-cramped l = rw (s, lt-leb entry_limit (length h.store) l) (refl, refl)

    pub call-on : entry_limit ≤ length h.store → {r : Read} {l : List ℕ} → ReadIs (read_on h bs) r l → ReadIs (read_call h bs) r l
    call-on l q = rw (s, le-leb entry_limit (length h.store) l) q
