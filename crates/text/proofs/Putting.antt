-- Laws of bytes that are put from a place on.
-- put-none, put-room, put-over   no byte; one where there is room for it, and where there is none
-- put-append, put_then           two texts one behind the other, and what two calls put
-- put_next, put-done             a turn of the loop that puts a text, and its end
-- put_as, put-case               the same text in other words, and one that is chosen by cases
-- number-last, number_more       a number's last digit, and those before it
-- put-start, put-taken           from the start on, with room: what stands there then
-- behind-short                   how long a text is with another behind it
use Prim.Native.Nat.{ℕ, ◌+◌, ◌/◌, ◌%◌, ◌≤◌, ◌<◌}
use native.Mathlib.Omega.{arith}
use mathlib.Core.Path.{◌≡◌, refl, sym, ap, subst, ◌∙◌}
use mathlib.Core.List.{List, [], ◌∷◌, ◌++◌}
use lib.ListN.{length, take, drop, set, get_or, length-set, length-append}
use borrow.Author.Tests.{lt-ltb, le-ltb}
use Rattle.base.specs.Private.{Laid}
use Rattle.base.proofs.Lists.{next, over}
use Rattle.base.proofs.Laid.{laid_none, laid_more, laid-start, laid-take}
use Rattle.text.specs.Text.{decimal}
use Rattle.text.specs.Put.{Place, put_byte, put, Puts}
use Rattle.text.proofs.Digits.{wide, last-digit, more-digits}

pub put-append : (p : Place) (xs ys : List ℕ) → put p (xs ++ ys) ≡ put (put p xs) ys
unfolding put
put-append p [] ys = refl
put-append p (x ∷ xs) ys = put-append (put_byte p x) xs ys

pub put-none : (l : List ℕ) (at : ℕ) → Puts l at [] l at
unfolding put
put-none l at = record { is = refl }

pub put-room : (l : List ℕ) (at b : ℕ) → at < length l → Puts l at (b ∷ []) (set l at b) (at + 1)
unfolding put
put-room l at b h = record { is = simp (lt-ltb at (length l) h) }

pub put-over : (l : List ℕ) (at b : ℕ) → length l ≤ at → Puts l at (b ∷ []) l at
unfolding put
put-over l at b h = record { is = simp (le-ltb at (length l) h) }

module _ {l bs after : List ℕ} {at end : ℕ} (h : Puts l at bs after end) where
  pub put_then : {cs last : List ℕ} {stop : ℕ} → Puts after end cs last stop → Puts l at (bs ++ cs) last stop
  put_then {cs} k = record { is = k.is ∙ ap (λ (p : Place). put p cs) h.is ∙ sym (put-append (l, at) bs cs) }

  pub put_as : {cs : List ℕ} → bs ≡ cs → Puts l at cs after end
  put_as e = record { is = h.is ∙ ap (put (l, at)) e }

-- a text chosen by v, put where v is known to be w
pub put-case : {A : Type 0} {l after : List ℕ} {at end : ℕ} (text : A → List ℕ) {v w : A} → v ≡ w → Puts l at (text w) after end → Puts l at (text v) after end
put-case text same h = put_as h (sym (ap text same))

-- ---- the loop that puts a text: what is left is put behind the place
module _ (bytes : List ℕ) (i : ℕ) {l : List ℕ} {at : ℕ} {whole : Place} (left : put (l, at) (drop i bytes) ≡ whole) where
  pub put_next : {after : List ℕ} {end : ℕ} → i < length bytes → Puts l at (get_or bytes i 0 ∷ []) after end → put (after, end) (drop (i + 1) bytes) ≡ whole
  put_next h p =
      ap (λ (x : Place). put x (drop (i + 1) bytes)) p.is ∙ sym (put-append (l, at) (get_or bytes i 0 ∷ []) (drop (i + 1) bytes))
      ∙ ap (put (l, at)) (sym (next bytes i h)) ∙ left

  pub put-done : length bytes ≤ i → ◌≡◌ {A = Place} (l, at) whole
  unfolding put
  put-done h = ap (put (l, at)) (sym (over bytes i h)) ∙ left

-- ---- a number
pub number-last : {l after : List ℕ} {at end : ℕ} (n : ℕ) → n < 10 → Puts l at ((48 + n) ∷ []) after end → Puts l at (decimal n) after end
number-last n h p = put_as p (sym (last-digit n h))

pub number_more : {l m after : List ℕ} {at mid end : ℕ} (n : ℕ) → n < wide → 10 ≤ n → Puts l at (decimal (n / 10)) m mid
    → Puts m mid ((48 + n % 10) ∷ []) after end → Puts l at (decimal n) after end
number_more n h k p q = put_as (put_then p q) (sym (more-digits n h k))

-- ---- with room
first : (l : List ℕ) (at b : ℕ) (bs : List ℕ) → at < length l → put (l, at) (b ∷ bs) ≡ put (set l at b, at + 1) bs
unfolding put
first l at b bs h = ap (λ (p : Place). put p bs) (simp (lt-ltb at (length l) h))

put-laid : (l : List ℕ) (at : ℕ) (bs : List ℕ) → at + length bs ≤ length l → Laid l at bs (put (l, at) bs).0 (put (l, at) bs).1
unfolding put
put-laid l at [] h = laid_none l at
put-laid l at (b ∷ bs) h =
    subst (λ (p : Place). Laid l at (b ∷ bs) p.0 p.1) (sym (first l at b bs (omega arith)))
    (laid_more b (put-laid (set l at b) (at + 1) bs (omega (arith, length-set l at b))))

module _ {l bs after : List ℕ} {end : ℕ} (h : Puts l 0 bs after end) (room : length bs ≤ length l) where
  laid : Laid l 0 bs (put (l, 0) bs).0 (put (l, 0) bs).1
  laid = put-laid l 0 bs (omega arith)

  pub put-start : (after ≡ bs ++ drop (length bs) l) × (end ≡ length bs)
  put-start = (ap (λ (p : Place). p.0) h.is ∙ laid-start laid room, ap (λ (p : Place). p.1) h.is ∙ laid.ends ∙ omega arith)

  pub put-taken : take end after ≡ bs
  put-taken = ap (λ (p : Place). take p.1 p.0) h.is ∙ laid-take laid room

pub behind-short : (xs ys : List ℕ) (j k : ℕ) → length xs ≤ j → length ys ≤ k → length (xs ++ ys) ≤ j + k
behind-short xs ys j k h m = omega (arith, length-append xs ys)
