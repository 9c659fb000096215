-- Laws of a line that is read.
-- no-sequence                               no space: no second part
-- bid-no-port, bid-no-sequence, bid-both    by its two numbers a line is a bid, or none
-- read_short, read-no-port, read-no-sequence, read-bid    the ways of the call that reads a line
-- text-is                                   where the text stands
-- Bid-is, bid-found, bid-missed             what a line read shows
use Prim.Native.Nat.{ℕ, ◌+◌, ◌-◌, ◌≤◌, ◌<◌, min}
use native.Mathlib.Omega.{arith}
use mathlib.Core.Path.{◌≡◌, refl, sym, ◌∙◌, ap}
use mathlib.Core.Bool.{Bool, true, false, ◌&&◌}
use mathlib.Core.List.{List, []}
use lib.Dec.{ltb}
use lib.ListN.{length, take, drop}
use lib.Seq.{drop-drop}
use borrow.Author.Tests.{lt-ltb, le-ltb}
use Rattle.base.specs.Choice.{pick}
use Rattle.base.specs.UpTo.{up_to}
use Rattle.base.proofs.Lists.{over}
use Rattle.base.proofs.Parts.{tail-is}
use Rattle.base.proofs.Tests.{by_le, and-false}
use Rattle.base.proofs.UpTo.{up-to-is}
use Rattle.std.specs.Prelude.{Option, Some, None}
use Rattle.bid.specs.declared.Bid.{Bid}
use Rattle.bid.specs.Line.{space, past, no_number, number, port, sequence, text, is_bid, text_at, reading}
use Rattle.bid.proofs.Decimal.{number-none}

-- a line's parts, if it is a bid
abbrev parts : ℕ → ℕ → ℕ → Option Bid
parts p s f = Some (record { port = p; sequence = s; from = f })

-- no second part
no-sequence : (l : List ℕ) → length (up_to space l) ≡ length l → sequence l ≡ no_number
unfolding up_to
no-sequence l e =
    let h : length l ≤ length (up_to space l) + 1 = omega arith in
    ap (λ (x : List ℕ). number (up_to space x)) (over l (length (up_to space l) + 1) h) ∙ number-none [] refl

-- a part that is no number
pub bid-no-sequence : (l : List ℕ) → no_number ≤ sequence l → is_bid l ≡ false
bid-no-sequence l h = ap (λ (t : Bool). ltb (port l) no_number && t) (le-ltb _ _ h) ∙ and-false (ltb (port l) no_number)

pub bid-no-port : (l : List ℕ) → no_number ≤ port l → is_bid l ≡ false
bid-no-port l h = ap (λ (t : Bool). t && ltb (sequence l) no_number) (le-ltb _ _ h)

pub bid-both : (l : List ℕ) → port l < no_number → sequence l < no_number → is_bid l ≡ true
bid-both l h k = ap (λ (t : Bool). t && ltb (sequence l) no_number) (lt-ltb _ _ h) ∙ lt-ltb _ _ k

read_none : (l : List ℕ) → is_bid l ≡ false → None ≡ reading l
unfolding reading
read_none l e = sym (ap (λ (t : Bool). pick t (parts (port l) (sequence l) (text_at l)) None) e)

pub read_short : (l : List ℕ) {a : ℕ} → a ≡ length (up_to space l) → a ≡ length l → None ≡ reading l
read_short l e h = read_none l (bid-no-sequence l (omega (arith, no-sequence l (sym e ∙ h))))

module _ (l : List ℕ) {a p : ℕ} (ea : a ≡ length (up_to space l)) (ep : p ≡ number (take a l)) where
  port-is : p ≡ port l
  port-is = ep ∙ ap (λ (n : ℕ). number (take n l)) ea ∙ ap number (sym (up-to-is space l))

  pub read-no-port : no_number ≤ p → None ≡ reading l
  read-no-port h = read_none l (bid-no-port l (omega (arith, port-is)))

  module _ {e s : ℕ} (ee : e ≡ length (up_to space (take (length l - (a + 1)) (drop (a + 1) l))))
      (es : s ≡ number (take (a + 1 + e - (a + 1)) (drop (a + 1) l))) where
    rest-is : drop (a + 1) l ≡ past space l
    rest-is = ap (λ (n : ℕ). drop (n + 1) l) ea

    end_is : e ≡ length (up_to space (past space l))
    end_is = ee ∙ ap (λ (x : List ℕ). length (up_to space x)) (tail-is (a + 1) l ∙ rest-is)

    sequence-is : s ≡ sequence l
    sequence-is =
        let n : a + 1 + e - (a + 1) ≡ length (up_to space (past space l)) = omega (arith, end_is) in
        es ∙ (λ i. number (take (n i) (rest-is i))) ∙ ap number (sym (up-to-is space (past space l)))

    pub read-no-sequence : no_number ≤ s → None ≡ reading l
    read-no-sequence h = read_none l (bid-no-sequence l (omega (arith, sequence-is)))

    pub read-bid : {f : ℕ} → p < no_number → s < no_number → f ≡ min (a + 1 + e + 1) (length l) → parts p s f ≡ reading l
    unfolding reading
    read-bid {f} h k g =
        let t : f ≡ text_at l = g ∙ (λ i. min (ea i + 1 + end_is i + 1) (length l)) in
        (λ i. parts (port-is i) (sequence-is i) (t i))
        ∙ sym (ap (λ (t : Bool). pick t (parts (port l) (sequence l) (text_at l)) None) (bid-both l (omega (arith, port-is)) (omega (arith, sequence-is))))

-- the text stands there
pub text-is : (l : List ℕ) → drop (text_at l) l ≡ text l
text-is l =
    let a : ℕ = length (up_to space l) + 1 in
    let b : ℕ = length (up_to space (past space l)) + 1 in
    let d : text l ≡ drop (a + b) l = drop-drop b a l in
    by_le (a + b) (length l)
    (λ h. let e : text_at l ≡ a + b = omega arith in ap (λ (n : ℕ). drop n l) e ∙ sym d)
    (λ h. let e : length l ≤ text_at l = omega arith in over l (text_at l) e ∙ sym (d ∙ over l (a + b) (omega arith)))

-- what the call's answer shows
pub record Bid-is (l : List ℕ) (b : Bid) : Type 0 where
  pub both : is_bid l ≡ true
  pub port : b.port ≡ port l
  pub sequence : b.sequence ≡ sequence l
  pub from : b.from ≡ text_at l

pub bid-found : (l : List ℕ) (b : Bid) → reading l ≡ Some b → Bid-is l b
unfolding reading
bid-found l b = go (is_bid l) refl
  where
    go : (t : Bool) → is_bid l ≡ t → pick t (parts (port l) (sequence l) (text_at l)) None ≡ Some b → Bid-is l b
    go true h e =
        let same : record { port = port l; sequence = sequence l; from = text_at l } ≡ b = cc in
        record {
          both = h;
          port = ap (λ (x : Bid). x.port) (sym same);
          sequence = ap (λ (x : Bid). x.sequence) (sym same);
          from = ap (λ (x : Bid). x.from) (sym same);
        }
    go false h e = absurd cc

pub bid-missed : (l : List ℕ) → reading l ≡ None → is_bid l ≡ false
unfolding reading
bid-missed l = go (is_bid l) refl
  where
    go : (t : Bool) → is_bid l ≡ t → pick t (parts (port l) (sequence l) (text_at l)) None ≡ None → is_bid l ≡ false
    go true h e = let z : ◌≡◌ {A = ℕ} 0 1 = cc in absurd (omega arith)
    go false h e = h
