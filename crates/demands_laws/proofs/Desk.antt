-- The refusals of the office's calls and of the calls that print lines.
-- office-..-exact, listing-lines-..-exact   row by row
-- office-..-same, listing-lines-..-same     what a refused call leaves: everything as it was, with no byte taken
-- line-exact, office-line-..        a line's own refusals, 20 to 22, and what they leave
-- Counted, office-..-number         the number of a line that is told
use Prim.Native.Nat.{ℕ, ◌≤◌, ◌<◌}
use native.Mathlib.Omega.{arith}
use mathlib.Core.Path.{◌≡◌, refl, sym, subst}
use mathlib.Core.Bool.{Bool, true, false}
use mathlib.Core.Logic.{◌↔◌, ⊎_elim}
use mathlib.Core.Logic.◌⊎◌.{inl, inr}
use mathlib.Core.List.{List, [], ◌∷◌}
use mathlib.Core.Option.{Option, some, none}
use lib.Dec.{eqb, ltb, leb}
use lib.ListN.{length, take, drop}
use borrow.Author.Tests.{eqb-true, eqb-false, ltb-true, leb-false}
use Rattle.base.specs.Choice.{pick}
use Rattle.base.specs.Calls.{With, owes_none, hands_none}
use Rattle.base.specs.Written.{write, Keeps}
use Rattle.base.proofs.Calls.{none-owed, with-hear}
use Rattle.base.proofs.Tests.{and_parts}
use Rattle.base.proofs.Writing.{write_keeps, refused-keeps}
use Rattle.packet_spec.specs.Contents.{payload_limit}
use Rattle.packet_spec.specs.Escape.{flag, escape}
use Rattle.packet_spec.specs.Port.{barred}
use Rattle.channel_spec.specs.Sender.{marked}
use Rattle.channel_spec.specs.declared.Answer.{Answer}
use Rattle.listing_spec.specs.Lines.{line, end_line, wrong_line}
use Rattle.bid.specs.Line.{feed, line_limit, no_number, port, sequence, text, Verdict, no_bid, refused, accepted, judged, is_bid, verdict, bid_of}
use Rattle.office.specs.declared.Office.{Office}
use Rattle.office.specs.Start.{Started}
use Rattle.office.specs.Start.{Ready, Refused as StartRefused}
use Rattle.office.specs.Answer.{Refused}
use Rattle.office.specs.Meaning.{Spoken, blocks, unread, refusal, Said, ending_by, Desk, so_far, kept, ending_of, ended, eat}
use Rattle.office.specs.Call.{held_limit, hold_limit, out_limit, fresh_office, starting, sound, roomy, hear_on, denied, hear_by}
use Rattle.office.specs.Call.{hear_call, end_bytes, close_call, spoken, answered, spoken_out, answered_out, finish_by, finishing}
use Rattle.demands_laws.specs.Table.{Exact}
use Rattle.demands_laws.specs.Refusals.{ByCall}
use Rattle.demands_laws.specs.Desks.{DeskBeyond, DeskShort, Bids, line_rows, OfDesk, ByDesk, ByStart, ByLine, BySpoken}
use Rattle.demands_laws.proofs.Rows.{applies, over, row, passed, not-less, refuses, wrote, first-each, not-both}
use Rattle.demands_laws.proofs.Frames.{barred-is, free-is}
use Rattle.demands_laws.proofs.Called.{not-most}

-- ---- 10 and 11, as facts
desk-beyond : (s : Office) → sound s ≡ false → DeskBeyond s
desk-beyond s e = ⊎_elim (λ h. inl (leb-false _ _ h)) (λ h. inr (leb-false _ _ h)) (not-both (leb s.stored line_limit) (leb s.held held_limit) e)

desk-within : (s : Office) → sound s ≡ true → DeskBeyond s → ⊥
desk-within s e =
    let p = and_parts (leb s.stored line_limit) (leb s.held held_limit) e in
    ⊎_elim (not-most _ _ p.0) (not-most _ _ p.1)

desk-short : (line hold : List ℕ) → roomy line hold ≡ false → DeskShort line hold
desk-short line hold e =
    ⊎_elim (λ h. inl (leb-false _ _ h)) (λ h. inr (leb-false _ _ h)) (not-both (leb line_limit (length line)) (leb hold_limit (length hold)) e)

desk-long : (line hold : List ℕ) → roomy line hold ≡ true → DeskShort line hold → ⊥
desk-long line hold e =
    let p = and_parts (leb line_limit (length line)) (leb hold_limit (length hold)) e in
    ⊎_elim (not-most _ _ p.0) (not-most _ _ p.1)

-- ---- a line
is-line : (m n : ℕ) → ByLine (refused m) n ↔ n ≡ m
is-line m n = (λ e. let k : m ≡ n = cc in sym k, λ e i. refused (sym e i))

-- a line that is a bid, or none
pub line-exact : (l : List ℕ) → Exact ByLine (verdict l) (line_rows l)
unfolding verdict judged
line-exact l = go (is_bid l) refl
  where
    bids : is_bid l ≡ true → Bids l
    bids e = let p = and_parts (ltb (port l) no_number) (ltb (sequence l) no_number) e in (ltb-true _ _ p.0, ltb-true _ _ p.1)

    none_is : is_bid l ≡ false → Bids l → ⊥
    none_is e b =
        ⊎_elim (λ h. not-less _ _ h b.0) (λ h. not-less _ _ h b.1) (not-both (ltb (port l) no_number) (ltb (sequence l) no_number) e)

    go : (t : Bool) → is_bid l ≡ t → Exact ByLine (pick t (judged (bid_of l)) no_bid) (line_rows l)
    go true e =
        row ByLine (eqb (length (text l)) 0) (is-line 20) (λ h. (bids e, eqb-true _ _ h)) (λ h k. eqb-false _ _ h k.1)
        (row ByLine (ltb payload_limit (length (escape (text l)))) (is-line 21) (λ h. (bids e, ltb-true _ _ h)) (λ h k. not-less _ _ h k.1)
        (row ByLine (barred (port l)) (is-line 22) (λ h. (bids e, barred-is (port l) h)) (λ h k. free-is (port l) h k.1)
        (passed ByLine λ n k. let z : ◌≡◌ {A = ℕ} 0 1 = cc in omega arith)))
    go false e =
        over ByLine (λ k. none_is e k.0) (over ByLine (λ k. none_is e k.0) (over ByLine (λ k. none_is e k.0)
        (passed ByLine λ n k. let z : ◌≡◌ {A = ℕ} 0 1 = cc in omega arith)))

-- .. and what is said at its end
pub office-line-exact : (d : Desk) → Exact BySpoken (ending_of d).said (line_rows (so_far d))
office-line-exact d =
    let v : Verdict = verdict (so_far d) in
    let x = line-exact (so_far d) in
    record { says = λ n. (λ e. (x.says n).0 (there v n e), λ f. back v n ((x.says n).1 f)) }
  where
    there : (v : Verdict) (n : ℕ) → BySpoken (ending_by v d.st.held d.hold).said n → v ≡ refused n
    there no_bid n e = let z : ◌≡◌ {A = ℕ} 0 1 = cc in absurd (omega arith)
    there (refused m) n e = let z : m ≡ n = cc in λ i. refused (z i)
    there (accepted p) n e = let z : ◌≡◌ {A = ℕ} 0 1 = cc in absurd (omega arith)

    back : (v : Verdict) (n : ℕ) → v ≡ refused n → BySpoken (ending_by v d.st.held d.hold).said n
    back v n e i = spoken (ending_by (e i) d.st.held d.hold).said

-- .. with nothing sent: the bytes held, their buffer and the output are as they were
pub office-line-same : (d : Desk) (n : ℕ) → BySpoken (ending_of d).said n
    → (ending_of d ≡ record { said = refusal n; held = d.st.held; hold = d.hold }) × ((out : List ℕ) → spoken_out (ending_of d).said out ≡ out)
office-line-same d n = go (verdict (so_far d))
  where
    go : (v : Verdict) → BySpoken (ending_by v d.st.held d.hold).said n
        → (ending_by v d.st.held d.hold ≡ record { said = refusal n; held = d.st.held; hold = d.hold })
        × ((out : List ℕ) → spoken_out (ending_by v d.st.held d.hold).said out ≡ out)
    go no_bid e = let z : ◌≡◌ {A = ℕ} 0 1 = cc in absurd (omega arith)
    go (refused m) e = let z : m ≡ n = cc in ((λ i. record { said = refusal (z i); held = d.st.held; hold = d.hold }), λ out. refl)
    go (accepted p) e = let z : ◌≡◌ {A = ℕ} 0 1 = cc in absurd (omega arith)

-- ---- a line's numbers are no call's
abbrev OfLine : ℕ → Type 0
OfLine n = (20 ≤ n) × (n ≤ 22)

of-line : (l : List ℕ) (n : ℕ) → verdict l ≡ refused n → OfLine n
of-line l n e =
    first-each OfLine (line_rows l) ((omega arith, omega arith), ((omega arith, omega arith), ((omega arith, omega arith), tt))) n
    (((line-exact l).says n).0 e)

abbrev LineSaid : Spoken → Type 0
LineSaid (blocks bs) = Unit {0}
LineSaid unread = Unit {0}
LineSaid (refusal n) = OfLine n

line-said : (v : Verdict) (at : ℕ) (hold : List ℕ) → ((n : ℕ) → v ≡ refused n → OfLine n) → LineSaid (ending_by v at hold).said
line-said no_bid at hold h = tt
line-said (refused n) at hold h = h n refl
line-said (accepted p) at hold h = tt

abbrev SaidOfLine : Said → Desk → Type 0
SaidOfLine x d = LineSaid x.1

eat-said : (d : Desk) (b : ℕ) → With SaidOfLine (eat d b).0 (eat d b).1
unfolding eat
eat-said d b = go (eqb b feed)
  where
    go : (t : Bool) → With SaidOfLine (pick t (ended d) (none, kept d (b ∷ []))).0 (pick t (ended d) (none, kept d (b ∷ []))).1
    go true = line-said (verdict (so_far d)) d.st.held d.hold (of-line (so_far d))
    go false = tt

hear-said : (d : Desk) (bs : List ℕ) → With SaidOfLine (hear_on d bs).0 (hear_on d bs).2
hear-said d bs = with-hear owes_none hands_none eat none-owed SaidOfLine (λ g. tt) eat-said d bs

line-only : (o : Option Said) (d : Desk) (n : ℕ) → With SaidOfLine o d → OfDesk n → answered o ≡ Refused n → ⊥
line-only none d n w c e = let z : ◌≡◌ {A = ℕ} 0 1 = cc in omega arith
line-only (some (k, blocks bs)) d n w c e = let z : ◌≡◌ {A = ℕ} 0 1 = cc in omega arith
line-only (some (k, unread)) d n w c e = let z : ◌≡◌ {A = ℕ} 0 1 = cc in omega arith
line-only (some (k, refusal m)) d n w c e =
    let z : m ≡ n = cc in
    ⊎_elim (λ f. omega (arith, w.0, w.1)) (⊎_elim (λ f. omega (arith, w.0, w.1)) (λ f. omega (arith, w.0, w.1))) c

-- ---- the next bytes
is-desk : (d : Desk) (m n : ℕ) → OfDesk m → ByDesk (denied m d) n ↔ n ≡ m
is-desk d m n c = (λ e. let z : m ≡ n = cc in sym z, λ e. (subst OfDesk (sym e) c, λ i. Refused (sym e i)))

module _ (room : ℕ) (d : Desk) (bs : List ℕ) where
  pub office-hear-exact : Exact ByDesk (hear_call room d bs)
      ((10, DeskBeyond d.st) ∷  -- a count of the state is beyond its limit
      (11, DeskShort d.line d.hold) ∷  -- buffer of the line under 8,205 bytes, of the bytes held under 8,428
      (23, room < out_limit) ∷  -- output under 9,583 bytes
      [])
  office-hear-exact = go (sound d.st) (roomy d.line d.hold) (leb out_limit room) refl refl refl
    where
      go : (s r o : Bool) → sound d.st ≡ s → roomy d.line d.hold ≡ r → leb out_limit room ≡ o
          → Exact ByDesk (hear_by s r o d bs) ((10, DeskBeyond d.st) ∷ (11, DeskShort d.line d.hold) ∷ (23, room < out_limit) ∷ [])
      go false r o e f g = applies ByDesk _ (λ n. is-desk d 10 n (inl refl)) (desk-beyond d.st e)
      go true false o e f g =
          over ByDesk (desk-within d.st e) (applies ByDesk _ (λ n. is-desk d 11 n (inr (inl refl))) (desk-short d.line d.hold f))
      go true true false e f g =
          over ByDesk (desk-within d.st e) (over ByDesk (desk-long d.line d.hold f)
          (applies ByDesk _ (λ n. is-desk d 23 n (inr (inr refl))) (leb-false _ _ g)))
      go true true true e f g =
          over ByDesk (desk-within d.st e) (over ByDesk (desk-long d.line d.hold f) (over ByDesk (not-most _ _ g)
          (passed ByDesk λ n b. line-only (hear_on d bs).0 (hear_on d bs).2 n (hear-said d bs) b.0 b.1)))

  -- .. the answer's line is the last one ended, no byte is taken, state, line, bytes held and output are as they were
  pub office-hear-same : (n : ℕ) → ByDesk (hear_call room d bs) n
      → (hear_call room d bs ≡ denied n d) × ((out : List ℕ) → answered_out (hear_call room d bs).0 out ≡ out)
  office-hear-same n = go (sound d.st) (roomy d.line d.hold) (leb out_limit room)
    where
      is : (m : ℕ) → ByDesk (denied m d) n → denied m d ≡ denied n d
      is m b = let z : m ≡ n = cc in λ i. denied (z i) d

      go : (s r o : Bool) → ByDesk (hear_by s r o d bs) n
          → (hear_by s r o d bs ≡ denied n d) × ((out : List ℕ) → answered_out (hear_by s r o d bs).0 out ≡ out)
      go false r o b = (is 10 b, λ out. refl)
      go true false o b = (is 11 b, λ out. refl)
      go true true false b = (is 23 b, λ out. refl)
      go true true true b = absurd (line-only (hear_on d bs).0 (hear_on d bs).2 n (hear-said d bs) b.0 b.1)

-- ---- the end of the input
pub office-close-exact : (room : ℕ) (d : Desk) → Exact ByDesk (close_call room d)
    ((10, DeskBeyond d.st) ∷ (11, DeskShort d.line d.hold) ∷ (23, room < out_limit) ∷ [])
office-close-exact room d = office-hear-exact room d (end_bytes d)

pub office-close-same : (room : ℕ) (d : Desk) (n : ℕ) → ByDesk (close_call room d) n
    → (close_call room d ≡ denied n d) × ((out : List ℕ) → answered_out (close_call room d).0 out ≡ out)
office-close-same room d = office-hear-same room d (end_bytes d)

-- ---- the number of a line that is told
-- it is the count of lines of the state that comes with it
abbrev pub Counted : Said → Desk → Type 0
Counted x e = x.0 ≡ e.st.lines

-- .. at a byte
eat-counted : (d : Desk) (b : ℕ) → With Counted (eat d b).0 (eat d b).1
unfolding eat
eat-counted d b = go (eqb b feed)
  where
    go : (t : Bool) → With Counted (pick t (ended d) (none, kept d (b ∷ []))).0 (pick t (ended d) (none, kept d (b ∷ []))).1
    go true = refl
    go false = tt

-- .. at a call, refused or not
pub office-line-number : (room : ℕ) (d : Desk) (bs : List ℕ) → With Counted (hear_call room d bs).0 (hear_call room d bs).2
office-line-number room d bs = go (sound d.st) (roomy d.line d.hold) (leb out_limit room)
  where
    go : (s r o : Bool) → With Counted (hear_by s r o d bs).0 (hear_by s r o d bs).2
    go false r o = refl
    go true false o = refl
    go true true false = refl
    go true true true = with-hear owes_none hands_none eat none-owed Counted (λ g. tt) eat-counted d bs

-- .. and at the end of the input
pub office-close-number : (room : ℕ) (d : Desk) → With Counted (close_call room d).0 (close_call room d).2
office-close-number room d = office-line-number room d (end_bytes d)

-- ---- the last block
module _ (s : Office) (hold out : List ℕ) where
  pub office-finish-exact : Exact ByCall (finishing s hold out)
      ((10, DeskBeyond s) ∷ (11, length hold < hold_limit) ∷ (23, length out < length (marked (take s.held hold))) ∷ [])
  office-finish-exact = go (sound s) (leb hold_limit (length hold)) refl refl
    where
      go : (t r : Bool) → sound s ≡ t → leb hold_limit (length hold) ≡ r → Exact ByCall (finish_by t r s hold out)
          ((10, DeskBeyond s) ∷ (11, length hold < hold_limit) ∷ (23, length out < length (marked (take s.held hold))) ∷ [])
      go false r e f = applies ByCall _ (refuses 10 out) (desk-beyond s e)
      go true false e f = over ByCall (desk-within s e) (applies ByCall _ (refuses 11 out) (leb-false _ _ f))
      go true true e f = over ByCall (desk-within s e) (over ByCall (not-most _ _ f) (wrote (marked (take s.held hold)) out _ refl))

  pub office-finish-same : Keeps out (finishing s hold out)
  office-finish-same = go (sound s) (leb hold_limit (length hold))
    where
      go : (t r : Bool) → Keeps out (finish_by t r s hold out)
      go false r = refused-keeps 10 out
      go true false = refused-keeps 11 out
      go true true = write_keeps (marked (take s.held hold)) out

-- ---- the start
pub office-start-exact : (hold : List ℕ) → Exact ByStart (starting hold) ((11, length hold < hold_limit) ∷ [])
office-start-exact hold =
    row ByStart (ltb (length hold) hold_limit) (λ n. (λ e. let z : 11 ≡ n = cc in sym z, λ e i. StartRefused (sym e i))) (ltb-true _ _) (not-less _ _)
    (passed ByStart λ n e. let z : ◌≡◌ {A = ℕ} 0 1 = cc in omega arith)

pub office-start-same : (hold : List ℕ) (n : ℕ) → ByStart (starting hold) n → starting hold ≡ (StartRefused n, hold)
office-start-same hold n = go (ltb (length hold) hold_limit)
  where
    go : (t : Bool) → ByStart (pick t (StartRefused 11, hold) (Ready fresh_office, flag ∷ drop 1 hold)) n
        → ◌≡◌ {A = Started × List ℕ} (pick t (StartRefused 11, hold) (Ready fresh_office, flag ∷ drop 1 hold)) (StartRefused n, hold)
    go true b = λ i. (b i, hold)
    go false b = let z : ◌≡◌ {A = ℕ} 0 1 = cc in absurd (omega arith)

-- ---- lines printed
pub listing-lines-print-exact : (a : Answer) (out : List ℕ) → Exact ByCall (write (line a) out) ((23, length out < length (line a)) ∷ [])
listing-lines-print-exact a out = wrote (line a) out _ refl

pub listing-lines-print-same : (a : Answer) (out : List ℕ) → Keeps out (write (line a) out)
listing-lines-print-same a out = write_keeps (line a) out

pub listing-lines-print-end-exact : (bytes packets rejected damaged lost : ℕ) (out : List ℕ)
    → Exact ByCall (write (end_line bytes packets rejected damaged lost) out)
    ((23, length out < length (end_line bytes packets rejected damaged lost)) ∷ [])
listing-lines-print-end-exact bytes packets rejected damaged lost out = wrote (end_line bytes packets rejected damaged lost) out _ refl

pub listing-lines-print-end-same : (bytes packets rejected damaged lost : ℕ) (out : List ℕ)
    → Keeps out (write (end_line bytes packets rejected damaged lost) out)
listing-lines-print-end-same bytes packets rejected damaged lost out = write_keeps (end_line bytes packets rejected damaged lost) out

pub listing-lines-print-wrong-exact : (offset : ℕ) (out : List ℕ)
    → Exact ByCall (write (wrong_line offset) out) ((23, length out < length (wrong_line offset)) ∷ [])
listing-lines-print-wrong-exact offset out = wrote (wrong_line offset) out _ refl

pub listing-lines-print-wrong-same : (offset : ℕ) (out : List ℕ) → Keeps out (write (wrong_line offset) out)
listing-lines-print-wrong-same offset out = write_keeps (wrong_line offset) out
