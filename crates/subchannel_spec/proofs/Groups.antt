-- The receiver without a limit, group by group: what groups mean is what the bytes mean that they bring, word by word.
-- Taken, onward, takes_all, takes-append   bytes of words, one after the other
-- behind                          the state behind a group
-- group-read, groups-read         a group; groups, the marker before each
use Prim.Native.Nat.{ℕ, zero, suc, ◌+◌, ◌*◌, ◌<◌}
use native.Mathlib.Omega.{arith}
use mathlib.Core.Path.{◌≡◌, refl, sym, ◌∙◌, ap}
use mathlib.Core.List.{List, [], ◌∷◌, ◌++◌, append_assoc, append-nil}
use mathlib.Core.Option.{Option, some, none}
use lib.ListN.{length, take, drop, length-drop, take-append-drop}
use lib.Seq.{length-take-le, take_all}
use lib.Dec.{lit<}
use borrow.Author.Tests.{lt-ltb, le-ltb}
use Rattle.base.specs.Calls.{and_then, run, tell}
use Rattle.base.proofs.Calls.{run-append}
use Rattle.stream.specs.Meaning.{Reading}
use Rattle.interleaver_spec.specs.Running.{pull}
use Rattle.interleaver_spec.specs.declared.Back.{Back}
use Rattle.channel_spec.specs.Meaning.{Event, zeros}
use Rattle.channel_spec.specs.declared.Hunting.{Hunting}
use Rattle.channel_spec.proofs.Given.{hears-append}
use Rattle.channel_spec.proofs.Marker.{the_marker}
use Rattle.subchannel_spec.specs.Sender.{group_bytes, grouped}
use Rattle.subchannel_spec.specs.Meaning.{Sub, in_group, in_mark, takes, grouping, step, hears}

-- ---- bytes of words
-- answers, the word so far, the frame reader
abbrev pub Taken : Type 0
Taken = List Event × List ℕ × Reading

-- more of them behind some
abbrev pub onward : Taken → (List ℕ → Reading → Taken) → Taken
onward t k = (t.0 ++ (k t.1 t.2).0, (k t.1 t.2).1, (k t.1 t.2).2)

abbrev pub takes_all : ℕ → List ℕ → List ℕ → Reading → Taken
takes_all r [] w q = ([], w, q)
takes_all r (y ∷ ys) w q = onward (takes r (some y) w q) (takes_all r ys)

pub takes-append : (r : ℕ) (xs ys w : List ℕ) (q : Reading) → takes_all r (xs ++ ys) w q ≡ onward (takes_all r xs w q) (takes_all r ys)
takes-append r [] ys w q = refl
takes-append r (x ∷ xs) ys w q =
    let t : Taken = takes r (some x) w q in
    let u : Taken = takes_all r xs t.1 t.2 in
    let v : Taken = takes_all r ys u.1 u.2 in
    ap (λ (z : Taken). (t.0 ++ z.0, z.1, z.2)) (takes-append r xs ys t.1 t.2) ∙ (λ i. (sym (append_assoc t.0 u.0 v.0) i, v.1, v.2))

-- ---- groups
module _ (r d : ℕ) where
  -- the state behind a group, by what its bytes bring
  abbrev pub behind : Hunting → List ℕ × Back → List ℕ → Reading → List Event × Sub
  behind f p w q = ((takes_all r p.0 w q).0, in_mark f 0 p.1 (takes_all r p.0 w q).1 (takes_all r p.0 w q).2)

  -- one byte before them
  behind-tell : (f : Hunting) (o : Option ℕ) (p : List ℕ × Back) (w : List ℕ) (q : Reading)
      → behind f (tell o p) w q ≡ ((takes r o w q).0 ++ (behind f p (takes r o w q).1 (takes r o w q).2).0, (behind f p (takes r o w q).1 (takes r o w q).2).1)
  behind-tell f none p w q = refl
  behind-tell f (some y) p w q = refl

  -- some before others
  behind-append : (f : Hunting) (k : Back) (xs ys w : List ℕ) (q : Reading) →
      let p : List ℕ × Back = run (pull d) k xs in
      let t : Taken = takes_all r p.0 w q in
      let o : List ℕ × Back = run (pull d) p.1 ys in
      behind f (run (pull d) k (xs ++ ys)) w q ≡ (t.0 ++ (behind f o t.1 t.2).0, (behind f o t.1 t.2).1)
  behind-append f k xs ys w q =
      let p : List ℕ × Back = run (pull d) k xs in
      let o : List ℕ × Back = run (pull d) p.1 ys in
      ap (λ (z : List ℕ × Back). behind f z w q) (run-append (pull d) k xs ys)
      ∙ ap (λ (v : Taken). (v.0, in_mark f 0 o.1 v.1 v.2)) (takes-append r p.0 o.0 w q)

  -- the last byte of a group, and one before it
  group-read : (bs : List ℕ) (f : Hunting) (n : ℕ) (k : Back) (w : List ℕ) (q : Reading) → n < group_bytes → n + length bs ≡ group_bytes
      → hears r d (in_group f n k w q) bs ≡ behind f (run (pull d) k bs) w q
  group-read [] f n k w q h e = absurd (omega arith)
  group-read (b ∷ []) f n k w q h e =
      let x : Option ℕ × Back = pull d k b in
      let t : Taken = takes r x.0 w q in
      ap (λ s. and_then (t.0, grouping s f (suc n) x.1 t.1 t.2) (λ u. ([], u))) (le-ltb (suc n) group_bytes (omega arith))
      ∙ sym (behind-tell f x.0 ([], x.1) w q)
  group-read (b ∷ c ∷ bs) f n k w q h e =
      let x : Option ℕ × Back = pull d k b in
      let t : Taken = takes r x.0 w q in
      ap (λ s. and_then (t.0, grouping s f (suc n) x.1 t.1 t.2) (λ u. hears r d u (c ∷ bs))) (lt-ltb (suc n) group_bytes (omega arith))
      ∙ ap (λ (y : List Event × Sub). (t.0 ++ y.0, y.1)) (group-read (c ∷ bs) f (suc n) x.1 t.1 t.2 (omega arith) (omega arith))
      ∙ sym (behind-tell f x.0 (run (pull d) x.1 (c ∷ bs)) w q)

  -- groups one after the other: w and q behind those before
  groups-behind : (g : ℕ) (bs : List ℕ) (f : Hunting) (k : Back) (w : List ℕ) (q : Reading) → length bs ≡ suc g * group_bytes
      → hears r d (in_mark f 0 k w q) (grouped (suc g) bs) ≡ behind the_marker (run (pull d) k bs) w q
  groups-behind zero bs f k w q e =
      let z : take group_bytes bs ++ [] ≡ bs = append-nil (take group_bytes bs) ∙ take_all group_bytes bs (omega arith) in
      ap (hears r d (in_group the_marker 0 k w q)) z ∙ group-read bs the_marker 0 k w q (lit< tt) (omega arith)
  groups-behind (suc g) bs f k w q e =
      let xs : List ℕ = take group_bytes bs in
      let ys : List ℕ = drop group_bytes bs in
      let p : List ℕ × Back = run (pull d) k xs in
      let t : Taken = takes_all r p.0 w q in
      let lx : length xs ≡ group_bytes = length-take-le group_bytes bs (omega arith) in
      hears-append (step r d) (in_group the_marker 0 k w q) xs (grouped (suc g) ys)
      ∙ ap (λ (y : List Event × Sub). and_then y (λ v. hears r d v (grouped (suc g) ys))) (group-read xs the_marker 0 k w q (lit< tt) (omega arith))
      ∙ ap (λ (y : List Event × Sub). (t.0 ++ y.0, y.1)) (groups-behind g ys the_marker p.1 t.1 t.2 (length-drop group_bytes bs ∙ omega arith))
      ∙ sym (behind-append the_marker k xs ys w q) ∙ ap (λ l. behind the_marker (run (pull d) k l) w q) (take-append-drop group_bytes bs)

  -- .. from the first one's marker on
  pub groups-read : (g : ℕ) (bs : List ℕ) (k : Back) (w : List ℕ) (q : Reading) → length bs ≡ suc g * group_bytes
      → hears r d (in_group the_marker 0 k w q) (take group_bytes bs ++ grouped g (drop group_bytes bs)) ≡ behind the_marker (run (pull d) k bs) w q
  groups-read g bs k w q e = groups-behind g bs zeros k w q e
