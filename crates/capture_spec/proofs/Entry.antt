-- What a record's bytes are.
-- packet-not, same-packet   a packet is no refusal; the same packet is told
-- entry-ways                a packet, or 62
-- entry-packed              a packet that the sender accepts, format byte to last payload byte, is that packet
-- entry-only                .. and nothing else is a packet
-- none-exactly              62 exactly where they are no packet that the sender would accept
-- entry-most, entry-long    how many bytes a packet has, at most; more of them are none
use mathlib.Core.Path.{◌≡◌, refl, sym, ap, subst, ◌∙◌}
use mathlib.Core.Bool.{Bool, true, false}
use mathlib.Core.Logic.{◌↔◌}
use mathlib.Core.List.{List, ◌++◌}
use Prim.Native.Nat.{ℕ, ◌+◌, ◌-◌, ◌≤◌, ◌<◌}
use native.Mathlib.Omega.{arith}
use borrow.Author.Tests.{le-ltb, ltb-false}
use lib.Dec.{eqb, ltb}
use lib.ListN.{length, drop, length-append, length-drop}
use lib.Seq.{take-append_seam}
use Rattle.base.specs.Bytes.{Bytes}
use Rattle.base.specs.Choice.{pick}
use Rattle.fcs.specs.Fcs.{fcs}
use Rattle.packet_spec.specs.Contents.{Packet, packed, plainly, keyed, key_at, key_length, two, pair_at, with_check, contents, body}
use Rattle.packet_spec.specs.Escape.{escape}
use Rattle.packet_spec.specs.Frame.{Told, packet, refusal, broken, judge_body, judge_contents}
use Rattle.packet_spec.specs.Sender.{Accepted}
use Rattle.packet_spec.proofs.Judging.{key_fits_lem, body-ways}
use Rattle.packet_spec.proofs.Round.{escape-least, packed-length, judge-contents}
use Rattle.packet_spec.proofs.Only.{body-only}
use Rattle.capture_spec.specs.Meaning.{or_none, entry, entry_limit}

-- an answer is one thing
pub packet-not : {p : Packet} {n : ℕ} → refusal n ≡ packet p → ⊥
packet-not e = let z : ◌≡◌ {A = ℕ} 0 1 = cc in omega arith

pub same-packet : {p q : Packet} → packet p ≡ packet q → p ≡ q
same-packet e = cc

-- a fact of what is told of a record, by the ways through the definition
pub entry-ways : (bs : List ℕ) (P : Told → Type 0) → P (refusal 62) → ((p : Packet) → 6 ≤ length bs → judge_body bs ≡ packet p → P (packet p)) → P (entry bs)
unfolding entry
entry-ways bs P none is = go (ltb (length bs) 6) refl (judge_body bs) refl
  where
    go : (t : Bool) → ltb (length bs) 6 ≡ t → (j : Told) → judge_body bs ≡ j → P (pick t (refusal 62) (or_none j))
    go true e j f = none
    go false e (packet p) f = is p (ltb-false _ _ e) f
    go false e (refusal n) f = none
    go false e (broken n) f = none

-- ---- what the sender accepts
module _ (p : Packet) (a : Accepted p) where
  body_is : body (contents p) ≡ packed p
  unfolding contents with_check
  body_is =
      let n = fcs (packed p) in
      let l : length (packed p ++ two n) - 2 ≡ length (packed p) = simp length-append (omega arith) in
      rw l (take-append_seam (packed p) (two n))

  judged-back : judge_body (body (contents p)) ≡ packet p
  unfolding judge_contents
  judged-back = go (ltb (length (contents p)) 8) (eqb (fcs (body (contents p))) (pair_at (contents p) (length (contents p) - 2))) (judge-contents p a)
    where
      go : (t u : Bool) → pick t (refusal 4) (pick u (judge_body (body (contents p))) (refusal 5)) ≡ packet p → judge_body (body (contents p)) ≡ packet p
      go true u e = absurd (packet-not e)
      go false true e = e
      go false false e = absurd (packet-not e)

  pub entry-packed : entry (packed p) ≡ packet p
  unfolding entry
  entry-packed = simp (le-ltb _ _ (packed-length p a)) (ap or_none (ap judge_body (sym body_is) ∙ judged-back))

-- ---- and nothing else
pub entry-only : (bs : List ℕ) → Bytes bs → (p : Packet) → entry bs ≡ packet p → (packed p ≡ bs) × Accepted p
entry-only bs h p =
    entry-ways bs (λ (t : Told). t ≡ packet p → (packed p ≡ bs) × Accepted p) (λ e. absurd (packet-not e))
    (λ q l f e. subst (λ (r : Packet). (packed r ≡ bs) × Accepted r) (same-packet e) (body-only bs h l q f))

pub none-exactly : (bs : List ℕ) → Bytes bs → (entry bs ≡ refusal 62) ↔ ((p : Packet) → Accepted p → packed p ≡ bs → ⊥)
none-exactly bs h = (
  (λ e p a q. packet-not (sym e ∙ ap entry (sym q) ∙ entry-packed p a)),
  (λ n. entry-ways bs (λ (t : Told). entry bs ≡ t → entry bs ≡ refusal 62) (λ e. e)
      (λ p l f e. let o = entry-only bs h p e in absurd (n p o.1 o.0)) refl),
)

-- ---- how many bytes
body-most : (bs : List ℕ) (p : Packet) → judge_body bs ≡ packet p → length bs ≤ entry_limit
body-most bs p =
    body-ways bs (λ (t : Told). t ≡ packet p → length bs ≤ entry_limit)
    (λ e. absurd (packet-not e)) (λ e. absurd (packet-not e)) (λ e. absurd (packet-not e)) (λ e. absurd (packet-not e))
    (λ g b s e. omega (arith, s, escape-least (plainly bs).payload, length-drop 1 bs, length-drop 4 (drop 1 bs)))
    (λ g f b s e.
    let k = key_fits_lem bs f in
    let at = key_at + key_length bs in
    omega (arith, k.1, s, escape-least (keyed bs).payload, length-drop at bs, length-drop 4 (drop at bs)))

pub entry-most : (bs : List ℕ) (p : Packet) → entry bs ≡ packet p → length bs ≤ entry_limit
entry-most bs p =
    entry-ways bs (λ (t : Told). t ≡ packet p → length bs ≤ entry_limit) (λ e. absurd (packet-not e)) (λ q l f e. body-most bs q f)

pub entry-long : (bs : List ℕ) → entry_limit < length bs → entry bs ≡ refusal 62
entry-long bs h =
    entry-ways bs (λ (t : Told). entry bs ≡ t → entry bs ≡ refusal 62) (λ e. e) (λ p l f e. absurd (omega (arith, entry-most bs p e, h))) refl
