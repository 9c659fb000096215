-- Three parts stored one behind the other.
-- three            the parts
-- delivered        what they leave
-- deliver-short    and where there is no room for them
use mathlib.Core.Path.{◌≡◌, sym, ap, ap₂, ◌∙◌}
use mathlib.Core.List.{List, ◌++◌}
use Prim.Native.Nat.{ℕ, ◌+◌, ◌-◌, ◌≤◌, ◌<◌}
use native.Mathlib.Omega.{arith}
use lib.ListN.{length, take, drop, length-append, length-drop}
use lib.Seq.{paste, take-paste, drop-paste, length-paste, drop-drop, length-take-le, take_all}
use borrow.Author.Tests.{le-ltb}
use Rattle.base.specs.Written.{outcome, refused, write}
use Rattle.base.specs.Written.{Wrote}
use Rattle.base.proofs.Writing.{write-short}

-- behind what is pasted, the list is as it was
behind : (d : List ℕ) (at : ℕ) (s : List ℕ) (n r : ℕ) → at ≤ length d → n ≤ length s → drop (at + n + r) (paste d at s n) ≡ drop (at + n + r) d
behind d at s n r hd hs = sym (drop-drop r (at + n) (paste d at s n)) ∙ ap (drop r) (drop-paste d at s n hd hs) ∙ drop-drop r (at + n) d

module _ (out p : List ℕ) (n a o f : ℕ) (e : length p ≡ n) (h : a + o + f ≤ n) where
  -- the three parts
  abbrev pub three : List ℕ
  three = take a p ++ take o (drop (n - f - o) p) ++ drop (n - f) p

  length_three : length three ≡ a + o + f
  length_three =
      length-append (take a p ++ take o (drop (n - f - o) p)) (drop (n - f) p)
      ∙ ap₂ ◌+◌ (length-append (take a p) (take o (drop (n - f - o) p))
      ∙ ap₂ ◌+◌ (length-take-le a p (omega arith)) (length-take-le o (drop (n - f - o) p) (omega (arith, length-drop (n - f - o) p))))
      (length-drop (n - f) p ∙ omega arith)

  pub deliver-short : length out < a + o + f → refused 23 out ≡ write three out
  deliver-short k = sym (write-short three out (omega (arith, length_three)))

  module _ (k : a + o + f ≤ length out) where
    one : List ℕ
    one = paste out 0 (drop 0 p) a

    two : List ℕ
    two = paste one a (drop (n - f - o) p) o

    length-one : length one ≡ length out
    unfolding one
    length-one = length-paste out 0 (drop 0 p) a (omega arith) (omega arith)

    take-one : take a one ≡ take a p
    unfolding one
    take-one = let z : a ≡ 0 + a = omega arith in ap (λ (x : ℕ). take x one) z ∙ take-paste out 0 (drop 0 p) a (omega arith) (omega arith)

    take-two : take (a + o) two ≡ take a p ++ take o (drop (n - f - o) p)
    unfolding two
    take-two =
        take-paste one a (drop (n - f - o) p) o (omega (arith, length-one)) (omega (arith, length-drop (n - f - o) p))
        ∙ ap (λ (x : List ℕ). x ++ take o (drop (n - f - o) p)) take-one

    drop-two : drop (a + o + f) two ≡ drop (a + o + f) out
    unfolding one two
    drop-two =
        let z : 0 + a + (o + f) ≡ a + o + f = omega arith in
        behind one a (drop (n - f - o) p) o f (omega (arith, length-one)) (omega (arith, length-drop (n - f - o) p))
        ∙ ap (λ (x : ℕ). drop x one) (sym z) ∙ behind out 0 (drop 0 p) a (o + f) (omega arith) (omega arith) ∙ ap (λ (x : ℕ). drop x out) z

    pub delivered : {m : ℕ} → m ≡ n → {x y w : List ℕ} → x ≡ paste out 0 (drop 0 p) a → y ≡ paste x a (drop (m - f - o) p) o
        → w ≡ paste y (a + o) (drop (m - f) p) f
        → outcome (Wrote (a + o + f)) w ≡ write three out
    unfolding one two
    delivered {m} em {x} {y} {w} ex ey ew =
        let is : y ≡ two = ey ∙ ap (λ (t : ℕ). paste x a (drop (t - f - o) p) o) em ∙ ap (λ (l : List ℕ). paste l a (drop (n - f - o) p) o) ex in
        let w-is : w ≡ three ++ drop (a + o + f) out =
        ew ∙ ap (λ (t : ℕ). paste y (a + o) (drop (t - f) p) f) em ∙ ap (λ (l : List ℕ). paste l (a + o) (drop (n - f) p) f) is
        ∙ ap₂ (λ (l m : List ℕ). l ++ take f (drop (n - f) p) ++ m) take-two drop-two
        ∙ ap (λ (l : List ℕ). take a p ++ take o (drop (n - f - o) p) ++ l ++ drop (a + o + f) out)
        (take_all f (drop (n - f) p) (omega (arith, length-drop (n - f) p))) in
        ap (outcome (Wrote (a + o + f))) (w-is ∙ ap (λ (m : ℕ). three ++ drop m out) (sym length_three))
        ∙ ap (λ (m : ℕ). outcome (Wrote m) (three ++ drop (length three) out)) (sym length_three)
        ∙ sym (simp (le-ltb (length out) (length three) (omega (arith, length_three))))
