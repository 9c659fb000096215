-- A packet's bytes are where they are fetched from.
-- packed-there                at the start of a list, a packet's own bytes: payload, key, and format byte to last payload byte are its parts
-- Own, export-own             behind a frame that is judged to be a packet, in the receive buffer, and then the sender accepts it
-- own-fetched, export-there   .. so what is fetched is its own bytes
-- read-there                  behind an import's delivery, in the store
use mathlib.Core.Path.{◌≡◌, refl, sym, ap, subst, ◌∙◌}
use mathlib.Core.Bool.{Bool, true, false}
use mathlib.Core.List.{List, [], ◌∷◌, ◌++◌, append_assoc}
use mathlib.Core.Option.{Option, none}
use Prim.Native.Nat.{ℕ, ◌+◌, ◌-◌, ◌≤◌}
use native.Mathlib.Omega.{arith}
use borrow.Author.Tests.{ne_eqb, le-ltb, ltb-false}
use lib.Dec.{eqb, ltb, leb}
use lib.ListN.{length, get_or, take, drop, set, length-append, take-append-drop}
use lib.Seq.{drop_at, take-append_seam, length-take-le}
use Rattle.base.specs.Bytes.{IsByte, Bytes}
use Rattle.base.specs.Calls.{With, owes_none, hands_none}
use Rattle.base.specs.Choice.{pick}
use Rattle.base.proofs.Bytes.{each_take, each-append-left}
use Rattle.base.proofs.Calls.{none-owed, with-hear}
use Rattle.fcs.specs.Fcs.{fcs}
use Rattle.packet_spec.specs.Contents.{Packet, plain_packet, key_format, raw_limit, two, opening, packed, key_at, payload_at, pair_at, body}
use Rattle.packet_spec.specs.Escape.{plain, scan}
use Rattle.packet_spec.specs.Frame.{Told, packet, refusal, broken, Closed, judged, delivery, judge_body, judge_contents, kept, closed_by, closed, part, There}
use Rattle.packet_spec.specs.Sender.{Accepted}
use Rattle.packet_spec.specs.declared.Escapes.{Escapes}
use Rattle.packet_spec.specs.declared.Escapes.TheVariants.{Right, Unfinished, Wrong}
use Rattle.packet_spec.proofs.Only.{body-only}
use Rattle.packet_spec.proofs.Round.{by-format}
use Rattle.capture_spec.specs.File.{header}
use Rattle.capture_spec.specs.Meaning.{entry, entry_limit, four_at}
use Rattle.capture_spec.proofs.Entry.{entry-ways}
use Rattle.capture.specs.declared.reader.CaptureReader.{CaptureReader}
use Rattle.capture.specs.declared.reader.CaptureReader.TheVariants.{Header, Head, Record, Behind}
use Rattle.capture.specs.Call.{Held, held, next, says, with, take_by, take_byte, sound, read_by, read_call, Stands}
use Rattle.capture.specs.Export.{packed_part, Fetched}

-- a part that stands behind some bytes
part_at : (at : ℕ) (xs ys t : List ℕ) → length xs ≡ at → part at (length ys) (xs ++ (ys ++ t)) ≡ ys
part_at at xs ys t e =
    ap (λ (u : Bool). pick u [] (take (length ys) (drop at (xs ++ (ys ++ t)))))
    (le-ltb (length (xs ++ (ys ++ t))) (at + length ys) (omega (arith, e, length-append xs (ys ++ t), length-append ys t)))
    ∙ ap (take (length ys)) (drop_at xs (ys ++ t) at e) ∙ take-append_seam ys t

module _ (p : Packet) (a : Accepted p) (t : List ℕ) where
  opening-length : length (opening p) ≡ payload_at (length p.key)
  opening-length =
      by-format p a.fits (λ e. subst (λ (q : Packet). length (opening q) ≡ payload_at (length q.key)) (sym e) refl)
      (λ e low high.
      subst (λ (q : Packet). length (opening q) ≡ payload_at (length q.key)) (sym e)
      (rw (ne_eqb (length p.key) 0 (λ z. absurd (omega (arith, z, low)))) (omega (arith, length-append p.key (two p.port ++ two p.sequence)))))

  whole : packed p ++ t ≡ opening p ++ (p.payload ++ t)
  whole = append_assoc (opening p) p.payload t

  key-there : part key_at (length p.key) (packed p ++ t) ≡ p.key
  key-there =
      by-format p a.fits
      (λ e. subst (λ (q : Packet). part key_at (length q.key) (packed q ++ t) ≡ q.key) (sym e)
      (let q = plain_packet p.port p.sequence p.payload in part_at 3 (take 3 (packed q)) [] (drop 3 (packed q) ++ t) refl))
      (λ e low high. subst (λ (q : Packet). part key_at (length q.key) (packed q ++ t) ≡ q.key) (sym e)
      (let r = two p.port ++ two p.sequence in
      ap (part key_at (length p.key))
      (λ i. key_format ∷ length p.key ∷ p.number ∷ (ap (λ (l : List ℕ). l ++ t) (append_assoc p.key r p.payload)
      ∙ append_assoc p.key (r ++ p.payload) t) i)
      ∙ part_at 3 (key_format ∷ length p.key ∷ p.number ∷ []) p.key ((r ++ p.payload) ++ t) refl))

  pub packed-there : There (packet p) (packed p ++ t) × (packed_part (delivery p) (packed p ++ t) ≡ packed p)
  packed-there =
      let n : payload_at (length p.key) + length p.payload ≡ length (packed p) = sym
      (length-append (opening p) p.payload ∙ ap (λ (m : ℕ). m + length p.payload) opening-length) in (
        (
          ap (part (payload_at (length p.key)) (length p.payload)) whole ∙ part_at (payload_at (length p.key)) (opening p) p.payload t opening-length,
          key-there,
        ),
        ap (λ (m : ℕ). part 0 m (packed p ++ t)) n ∙ part_at 0 [] (packed p) t refl,
      )

-- ---- in the receive buffer, behind a frame
-- of a packet, they are its own, and the sender accepts it
abbrev pub Own : Told → List ℕ → Type 0
Own (packet p) recv = (packed_part (delivery p) recv ≡ packed p) × Accepted p
Own (refusal n) recv = Unit {0}
Own (broken n) recv = Unit {0}

contents-own : (cs t : List ℕ) → Bytes (cs ++ t) → Own (judge_contents cs) (cs ++ t)
unfolding judge_contents
contents-own cs t h = go (ltb (length cs) 8) refl (eqb (fcs (body cs)) (pair_at cs (length cs - 2)))
  where
    told : 8 ≤ length cs → (j : Told) → judge_body (body cs) ≡ j → Own j (cs ++ t)
    told l (refusal n) e = tt
    told l (broken n) e = tt
    told l (packet p) e =
        let n = length cs - 2 in
        let o = body-only (body cs) (each_take IsByte n cs (each-append-left IsByte cs t h)) (omega (arith, length-take-le n cs (omega arith), l)) p e in
        let s : cs ++ t ≡ packed p ++ (drop n cs ++ t) =
        ap (λ (x : List ℕ). x ++ t) (sym (ap (λ (x : List ℕ). x ++ drop n cs) o.0 ∙ take-append-drop n cs)) ∙ append_assoc (packed p) (drop n cs) t in
        (ap (packed_part (delivery p)) s ∙ (packed-there p o.1 (drop n cs ++ t)).1, o.1)

    go : (short : Bool) → ltb (length cs) 8 ≡ short → (right : Bool) → Own (pick short (refusal 4) (pick right (judge_body (body cs)) (refusal 5))) (cs ++ t)
    go true e r = tt
    go false e false = tt
    go false e true = told (ltb-false _ _ e) (judge_body (body cs)) refl

pub export-own : (recv : List ℕ) (n : ℕ) → Bytes (closed recv n).recv → Own (closed recv n).told (closed recv n).recv
unfolding closed closed_by
export-own recv n = go (ltb raw_limit n) (scan (take n recv))
  where
    left : Bool → Escapes → Closed
    left t s = pick t (kept 1 recv) (closed_by s (take n recv) recv)

    go : (t : Bool) (s : Escapes) → Bytes (left t s).recv → Own (left t s).told (left t s).recv
    go true s h = tt
    go false Unfinished h = tt
    go false (Wrong i) h = tt
    go false Right h = contents-own (plain (take n recv)) (drop (length (plain (take n recv))) recv) h

pub own-fetched : (t : Told) (recv : List ℕ) → (Bytes recv → Own t recv) → Fetched t recv
own-fetched (packet p) recv f = λ h. (f h).0
own-fetched (refusal n) recv f = tt
own-fetched (broken n) recv f = tt

pub export-there : (recv : List ℕ) (n : ℕ) → Fetched (closed recv n).told (closed recv n).recv
export-there recv n = own-fetched (closed recv n).told (closed recv n).recv (export-own recv n)

-- ---- in the store, behind an import's delivery
told-there : (n : ℕ) (st : List ℕ) (c : CaptureReader) → Stands (entry (take n st)) (held c st)
told-there n st c =
    entry-ways (take n st) (λ (t : Told). Stands t (held c st)) tt
    (λ p l e.
    let both : Bytes st → There (packet p) st × (packed_part (delivery p) st ≡ packed p) = λ h.
    let o = body-only (take n st) (each_take IsByte n st h) l p e in
    let s : st ≡ packed p ++ drop n st = sym (ap (λ (x : List ℕ). x ++ drop n st) o.0 ∙ take-append-drop n st) in
    subst (λ (x : List ℕ). There (packet p) x × (packed_part (delivery p) x ≡ packed p)) (sym s) (packed-there p o.1 (drop n st)) in
    (λ h. (both h).0, λ h. (both h).1))

take-there : (c : CaptureReader) (st : List ℕ) (b : ℕ) → With Stands (take_by c st b).0 (take_by c st b).1
take-there (Header k) st b = go (eqb b (get_or header k 0))
  where
    go : (t : Bool) → With Stands (with (pick t (none, pick (eqb (k + 1) 24) (Head 0) (Header (k + 1))) (says (refusal 60))) st).0
        (with (pick t (none, pick (eqb (k + 1) 24) (Head 0) (Header (k + 1))) (says (refusal 60))) st).1
    go true = tt
    go false = tt
take-there (Head k) st b = go (eqb (k + 1) 16) (eqb (four_at l 8) (four_at l 12)) (eqb (four_at l 8) 0)
  where
    l : List ℕ
    l = set st k b

    ways : Bool → Bool → Bool → Option Told × CaptureReader
    ways t u v = pick t (pick u (pick v (says (refusal 62)) (none, Record (four_at l 8) 0)) (says (refusal 61))) (none, Head (k + 1))

    go : (t u v : Bool) → With Stands (ways t u v).0 (held (ways t u v).1 l)
    go false u v = tt
    go true false v = tt
    go true true false = tt
    go true true true = tt
take-there (Record n d) st b = go (eqb (d + 1) n) (ltb entry_limit n)
  where
    l : List ℕ
    l = set st d b

    ways : Bool → Bool → Option Told × CaptureReader
    ways t u = pick t (says (pick u (refusal 62) (entry (take n l)))) (none, Record n (d + 1))

    go : (t u : Bool) → With Stands (ways t u).0 (held (ways t u).1 l)
    go false u = tt
    go true true = tt
    go true false = told-there n l (next (judged (entry (take n l))))
take-there (Behind f) st b = tt

there-call : (s r : Bool) (h : Held) (bs : List ℕ) → With Stands (read_by s r h bs).0 (read_by s r h bs).2
there-call false r h bs = tt
there-call true false h bs = tt
there-call true true h bs = with-hear owes_none hands_none take_byte none-owed Stands (λ g. tt) (λ g b. take-there g.st g.store b) h bs

pub read-there : (h : Held) (bs : List ℕ) → With Stands (read_call h bs).0 (read_call h bs).2
read-there h bs = there-call (sound h.st) (leb entry_limit (length h.store)) h bs
