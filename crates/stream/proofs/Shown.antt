-- The reader with its buffer does what the reader without a limit does: its state is that one's, in numbers and the lent buffer.
-- shown-byte           one byte
-- shown-plain          a byte string
-- tell-end             an answer before others leaves the final state
-- held-use, held-st    what is in use does not hang on what stands behind it in the buffer
use Prim.Native.Nat.{ℕ, suc, ◌+◌, ◌≤◌, ◌<◌, min}
use native.Mathlib.Omega.{arith}
use mathlib.Core.Path.{◌≡◌, refl, sym, ◌∙◌, ap, subst}
use mathlib.Core.Bool.{Bool, true, false}
use mathlib.Core.List.{List, [], ◌∷◌, ◌++◌}
use mathlib.Core.Option.{Option, some, none}
use lib.ListN.{length, take, set, length-append, length-take}
use lib.Seq.{append_snoc, take_all, take_at, take-append-le, set-append_seam}
use lib.Dec.{eqb, ltb}
use borrow.Author.Tests.{ne_eqb, ltb-true, ltb-false}
use Rattle.base.specs.Calls.{tell}
use Rattle.packet_spec.specs.Escape.{flag, wrong_from, wrong_at, last, byte_before}
use Rattle.packet_spec.specs.Contents.{raw_limit}
use Rattle.packet_spec.specs.Frame.{Closed, judge, closed}
use Rattle.packet_spec.proofs.Places.{wrong-append}
use Rattle.packet_spec.proofs.Judging.{closed-over, judge-long, judge-is, length-closed}
use Rattle.stream.specs.Meaning.{Reading, waiting, inside, read_at, read, reads}
use Rattle.stream.specs.Call.{held, begun, noticed, store, shut, take_by, take_byte, read_all, held_of}
use Rattle.stream.proofs.Places.{before_last}

in_frame : (rs j : List ℕ) (n m place : ℕ) (l : List ℕ) → n ≡ min (length rs) (suc raw_limit) → m ≡ min (length rs) raw_limit
    → place ≡ wrong_at (take raw_limit rs) → l ≡ take raw_limit rs ++ j
    → held (record { opened = true; raw = n; stored = m; place = place }) l ≡ held_of (inside rs) j
in_frame rs j n m place l p q w r = λ i. held (record { opened = true; raw = p i; stored = q i; place = w i }) (r i)

-- a byte more behind raw bytes: what is noticed of it is the place of all
noticed-last : (rs : List ℕ) (b : ℕ) → noticed (wrong_at rs) (last 0 rs) (length rs) (b ∷ []) ≡ wrong_at (rs ++ b ∷ [])
noticed-last rs b =
    let z : 0 + length rs ≡ length rs = omega arith in
    sym (wrong-append rs (b ∷ []) 0 0 (λ e. absurd (omega (arith, e))) ∙ ap (λ (n : ℕ). noticed (wrong_at rs) (last 0 rs) n (b ∷ [])) z)

-- what is shown after a byte
Shown : Bool → Reading → List ℕ → ℕ → Type 0
Shown t r j b = (k : List ℕ)
    × (take_by t (held_of r j).st.opened (held_of r j) b ≡ ((read_at t r b).0, held_of (read_at t r b).1 k))
    × (raw_limit ≤ length (held_of (read_at t r b).1 k).recv)

shown-store : (t : Bool) (rs j : List ℕ) (b : ℕ) → ltb (min (length rs) (suc raw_limit)) raw_limit ≡ t → raw_limit ≤ length (take raw_limit rs ++ j)
    → (k : List ℕ) × (store t (held_of (inside rs) j) b ≡ held_of (inside (rs ++ b ∷ [])) k) × (raw_limit ≤ length (take raw_limit (rs ++ b ∷ []) ++ k))
shown-store true rs [] b e h =
    let l : min (length rs) (suc raw_limit) < raw_limit = ltb-true _ _ e in
    let t : take raw_limit rs ≡ rs = take_all raw_limit rs (omega arith) in
    absurd (omega (arith, length-append (take raw_limit rs) [], ap length t))
shown-store true rs (x ∷ j) b e h =
    let l : min (length rs) (suc raw_limit) < raw_limit = ltb-true _ _ e in
    let m : min (length rs) (suc raw_limit) ≡ length rs = omega arith in
    let t : take raw_limit rs ≡ rs = take_all raw_limit rs (omega arith) in
    let n : length (rs ++ b ∷ []) ≡ length rs + 1 = length-append rs (b ∷ []) in
    let u : take raw_limit (rs ++ b ∷ []) ≡ rs ++ b ∷ [] = take_all raw_limit (rs ++ b ∷ []) (omega arith) in (
      j,
      in_frame (rs ++ b ∷ []) j _ _ _ _ (omega arith) (omega arith)
          ((λ i. noticed (wrong_at (t i)) (byte_before (m i) (t i ++ x ∷ j)) (m i) (b ∷ []))
          ∙ (λ i. noticed (wrong_at rs) (before_last rs (x ∷ j) i) (length rs) (b ∷ [])) ∙ noticed-last rs b ∙ ap wrong_at (sym u))
          ((λ i. set (t i ++ x ∷ j) (m i) b) ∙ set-append_seam rs x j b ∙ sym (append_snoc rs b j) ∙ ap (λ y. y ++ j) (sym u)),
      omega (arith, h, length-append (take raw_limit rs) (x ∷ j), length-append (take raw_limit (rs ++ b ∷ [])) j, ap length t, ap length u),
    )
shown-store false rs j b e h =
    let l : raw_limit ≤ min (length rs) (suc raw_limit) = ltb-false _ _ e in
    let n : length (rs ++ b ∷ []) ≡ length rs + 1 = length-append rs (b ∷ []) in
    let s : take raw_limit rs ≡ take raw_limit (rs ++ b ∷ []) = sym (take-append-le raw_limit rs (b ∷ []) (omega arith)) in (
      j,
      in_frame (rs ++ b ∷ []) j (suc raw_limit) raw_limit (wrong_at (take raw_limit rs)) (take raw_limit rs ++ j) (omega arith) (omega arith) (ap wrong_at s)
          (ap (λ x. x ++ j) s),
      subst (λ x. raw_limit ≤ length (x ++ j)) s h,
    )

shown-shut : (o : Bool) (x : ℕ) (xs j : List ℕ) → ltb raw_limit (min (length (x ∷ xs)) (suc raw_limit)) ≡ o → raw_limit ≤ length (take raw_limit (x ∷ xs) ++ j)
    → (k : List ℕ) × (shut false (held_of (inside (x ∷ xs)) j) ≡ (some (judge (x ∷ xs)), held begun k)) × (raw_limit ≤ length k)
shown-shut true x xs j e h =
    let l : raw_limit < min (length (x ∷ xs)) (suc raw_limit) = ltb-true _ _ e in
    let r = take raw_limit (x ∷ xs) ++ j in
    let s = closed-over r (min (length (x ∷ xs)) (suc raw_limit)) l in
    (r, (λ i. (some ((ap (λ (c : Closed). c.told) s ∙ sym (judge-long (x ∷ xs) (omega arith))) i), held begun (s i).recv)), h)
shown-shut false x xs j e h =
    let l : min (length (x ∷ xs)) (suc raw_limit) ≤ raw_limit = ltb-false _ _ e in
    let n = min (length (x ∷ xs)) (suc raw_limit) in
    let r = take raw_limit (x ∷ xs) ++ j in
    let m : n ≡ length (x ∷ xs) = omega arith in
    let t : take raw_limit (x ∷ xs) ≡ x ∷ xs = take_all raw_limit (x ∷ xs) (omega arith) in
    let u : take n r ≡ x ∷ xs = (λ i. take (m i) (t i ++ j)) ∙ take_at (x ∷ xs) j (length (x ∷ xs)) refl in
    ((closed r n).recv, (λ i. (some ((judge-is r n l (omega arith) ∙ ap judge u) i), held begun (closed r n).recv)), rw length-closed h)

shown_by : (t : Bool) (r : Reading) (j : List ℕ) (b : ℕ) → raw_limit ≤ length (held_of r j).recv → Shown t r j b
unfolding Shown wrong_from
shown_by true waiting j b h = (j, refl, h)
shown_by false waiting j b h = (j, refl, h)
shown_by true (inside []) j b h = (j, refl, h)
shown_by true (inside (x ∷ xs)) j b h =
    let s = shown-shut (ltb raw_limit (min (length (x ∷ xs)) (suc raw_limit))) x xs j refl h in (
      s.0,
      ap (λ z. shut z (held_of (inside (x ∷ xs)) j)) (ne_eqb (min (length (x ∷ xs)) (suc raw_limit)) 0 (λ q. omega arith)) ∙ s.1,
      s.2,
    )
shown_by false (inside rs) j b h =
    let s = shown-store (ltb (min (length rs) (suc raw_limit)) raw_limit) rs j b refl h in
    (s.0, (λ i. (none, s.1 i)), s.2)

-- one byte of the frame reader
pub shown-byte : (r : Reading) (j : List ℕ) (b : ℕ) → raw_limit ≤ length (held_of r j).recv
    → (k : List ℕ) × (take_byte (held_of r j) b ≡ ((read r b).0, held_of (read r b).1 k))
    × (raw_limit ≤ length (held_of (read r b).1 k).recv)
unfolding Shown
shown-byte r j b h = shown_by (eqb b flag) r j b h

pub tell-end : {S A : Type 0} (o : Option A) (x : List A × S) → (tell o x).1 ≡ x.1
tell-end none x = refl
tell-end (some a) x = refl

tell-pair : {A S T : Type 0} (f : S → T) (o : Option A) (x : List A × S) → tell o (x.0, f x.1) ≡ ((tell o x).0, f (tell o x).1)
tell-pair f none x = refl
tell-pair f (some a) x = refl

-- a byte string, to the plain reader
pub shown-plain : (bs : List ℕ) (r : Reading) (j : List ℕ) → raw_limit ≤ length (held_of r j).recv
    → (k : List ℕ) × (read_all (held_of r j) bs ≡ ((reads r bs).0, held_of (reads r bs).1 k))
    × (raw_limit ≤ length (held_of (reads r bs).1 k).recv)
shown-plain [] r j h = (j, refl, h)
shown-plain (b ∷ bs) r j h =
    let s = shown-byte r j b h in
    let t = shown-plain bs (read r b).1 s.0 s.2 in (
      t.0,
      ap (λ q. tell q.0 (read_all q.1 bs)) s.1
          ∙ ap (tell (read r b).0) t.1
          ∙ tell-pair (λ y. held_of y t.0) (read r b).0 (reads (read r b).1 bs),
      subst (λ y. raw_limit ≤ length (held_of y t.0).recv) (sym (tell-end (read r b).0 (reads (read r b).1 bs))) t.2,
    )

-- what is in use does not hang on what stands behind it in the buffer
pub held-use : (r : Reading) (j : List ℕ) → take (held_of r j).st.stored (held_of r j).recv ≡ take (held_of r []).st.stored (held_of r []).recv
held-use waiting j = refl
held-use (inside rs) j =
    let h : min (length rs) raw_limit ≤ length (take raw_limit rs) = omega (arith, length-take raw_limit rs) in
    take-append-le (min (length rs) raw_limit) (take raw_limit rs) j h ∙ sym (take-append-le (min (length rs) raw_limit) (take raw_limit rs) [] h)

pub held-st : (r : Reading) (j : List ℕ) → (held_of r j).st ≡ (held_of r []).st
held-st waiting j = refl
held-st (inside rs) j = refl
