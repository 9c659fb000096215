-- Bytes that only fill a word.
-- Runs, runs-next, runs-bring, runs-same, runs_last   the loop over them
-- turned-placed                    .. and the cells' place
-- goes-all                         the state behind them
use Prim.Native.Nat.{ℕ, ◌+◌, ◌≤◌, ◌<◌}
use native.Mathlib.Omega.{arith}
use mathlib.Core.Path.{◌≡◌, refl, sym, ◌∙◌, ap, subst}
use mathlib.Core.Bool.{Bool, true, false}
use mathlib.Core.List.{List}
use mathlib.Core.Option.{Option, some, none}
use lib.ListN.{length, get_or, set}
use borrow.Author.Tests.{lt-ltb, le-ltb}
use Rattle.base.specs.Choice.{pick}
use Rattle.base.proofs.Tests.{by_le}
use Rattle.interleaver_spec.specs.Running.{back, taken, gave, pull, beyond}
use Rattle.interleaver_spec.specs.declared.Back.{Back}
use Rattle.channel_spec.specs.Sender.{word_bytes}
use Rattle.subchannel_spec.specs.Sender.{group_bytes}
use Rattle.subchannel.specs.declared.lane.Lane.{Lane}
use Rattle.subchannel.specs.declared.sub.Sub.{Sub}
use Rattle.subchannel.specs.Call.{sub, counts, counted, word_at, eat}
use Rattle.std.specs.Prelude as code
use Rattle.subchannel.specs.Private.{as_byte, EatenIs, Going, GoesOn, Fills, filled}
use Rattle.subchannel.proofs.Fine.{pull-placed}
use Rattle.subchannel.proofs.Steps.{none_is, again-full, words_more, eats-brought, eats-group}
use Rattle.subchannel.proofs.Ways.{some-none, going_next}

-- ---- one of them
-- each byte brings one, and the first pass stays as it is
pulls-all : (d : ℕ) (k : Back) (b : ℕ) → (2 ≤ d → k.again ≡ true) → ((pull d k b).0 ≡ none → ⊥) × ((pull d k b).1.again ≡ k.again)
pulls-all d k b h =
    by_le 2 d
    (λ l.
    let e : pull d k b ≡ (some (get_or (taken d k.matrix b).1.cells (taken d k.matrix b).1.place 0), back true (taken d k.matrix b).1) =
    ap (λ u. pick u (some b, k) (gave d k b)) (le-ltb d 2 l)
    ∙ ap (λ u. (pick u (taken d k.matrix b).0 none, back u (taken d k.matrix b).1)) (again-full d k (h l)) in
    ((λ z. absurd (some-none (sym (ap (λ (x : Option ℕ × Back). x.0) e) ∙ z))), ap (λ (x : Option ℕ × Back). x.1.again) e ∙ sym (h l)))
    (λ l.
    let e : pull d k b ≡ (some b, k) = ap (λ u. pick u (some b, k) (gave d k b)) (lt-ltb d 2 l) in
    ((λ z. absurd (some-none (sym (ap (λ (x : Option ℕ × Back). x.0) e) ∙ z))), ap (λ (x : Option ℕ × Back). x.1.again) e))

module _ (s : Lane) (k : Back) (w : List ℕ) (b : ℕ) (f : Fills s k.again 1) where
  eats-filling : {t : code.Option ℕ} {k' : Back} {y : ℕ} → t ≡ as_byte (pull s.settings.depth k b).0 → k' ≡ (pull s.settings.depth k b).1
      → t ≡ code.Some y
      → EatenIs (eat s k w b) (record { answer = code.None; lane = counted s (counts (s.counts.group + 1) s.counts.marker (s.counts.word + 1) 0) }) k'
      (set w s.counts.word y)
  eats-filling {y = y} u g r =
      let q = f.filling (omega arith) in
      let m : s.counts.word + 1 < word_bytes = q.3 in
      let v : s.counts.word ≡ word_at s.counts.word = sym (ap (λ t. pick t s.counts.word 0) (lt-ltb s.counts.word word_bytes (omega arith))) in
      let i : s.counts.group + 1 ≤ group_bytes = f.group in
      eats-group s k w b q.0 q.1 (omega arith) (eats-brought s k w b u g r (words_more s y w v m refl))

-- ---- the loop over them
module _ {s : Lane} {a : Bool} {n : ℕ} (f : Fills s a n) {i : ℕ} (h : i < n) where
  fills_one : Fills (filled s i) a 1
  fills_one =
      let q = f.filling (omega arith) in
      let m : s.counts.word + n < word_bytes = q.3 in
      let g : s.counts.group + n ≤ group_bytes = f.group in
      record { group = omega arith; word = omega arith; filling = λ z. (q.0, q.1, q.2, omega arith, q.4) }

  one_more : counted s (counts (s.counts.group + i + 1) s.counts.marker (s.counts.word + i + 1) 0) ≡ filled s (i + 1)
  one_more =
      let q = f.filling (omega arith) in
      let x : s.counts.group + i + 1 ≡ s.counts.group + (i + 1) = omega arith in
      let y : s.counts.word + i + 1 ≡ s.counts.word + (i + 1) = omega arith in
      λ j. counted s (counts (x j) s.counts.marker (y j) (sym q.2 j))

  module _ {bs w₁ : List ℕ} {from : ℕ} {s₁ : Sub} {k : Back} {w : List ℕ} (l : from + n ≤ length bs) (same : k.again ≡ a)
      (g : GoesOn bs from s₁ w₁ (from + i) (sub (filled s i) k) w)
      {t : code.Option ℕ} {k' : Back} {y : ℕ} (u : t ≡ as_byte (pull s.settings.depth k (get_or bs (from + i) 0)).0)
      (v : k' ≡ (pull s.settings.depth k (get_or bs (from + i) 0)).1) (b : t ≡ code.Some y) where
    goes-next : GoesOn bs from s₁ w₁ (from + (i + 1)) (sub (filled s (i + 1)) k') (set w (s.counts.word + i) y)
    goes-next s₀ w₀ z =
        let x : from + i + 1 ≡ from + (i + 1) = omega arith in
        let o : Fills (filled s i) k.again 1 = subst (λ x. Fills (filled s i) x 1) (sym same) fills_one in
        let r = going_next (g s₀ w₀ z) (omega arith) (eats-filling (filled s i) k w (get_or bs (from + i) 0) o u v b) refl in
        subst (λ j. Going s₀ w₀ bs j (sub (filled s (i + 1)) k') (set w (s.counts.word + i) y)) x
        (subst (λ x. Going s₀ w₀ bs (from + i + 1) (sub x k') (set w (s.counts.word + i) y)) one_more r)

-- i of n bytes, for a lane of depth d with v bytes in the word buffer
abbrev pub Runs : ℕ → ℕ → ℕ → ℕ → List ℕ → Back → List ℕ → ℕ → Back → List ℕ → Type 0
Runs n from d v bs k₀ w₀ i k w =
    (s : Lane) → Fills s k₀.again n → s.settings.depth ≡ d → s.counts.word ≡ v
    → GoesOn bs from (sub s k₀) w₀ (from + i) (sub (filled s i) k) w

module _ {n from d v : ℕ} {bs : List ℕ} {k₀ : Back} {w₀ : List ℕ} {i : ℕ} {k : Back} {w : List ℕ} (r : Runs n from d v bs k₀ w₀ i k w) where
  module _ (h : i < n) (same : k.again ≡ k₀.again) {t : code.Option ℕ} {k' : Back} (u : t ≡ as_byte (pull d k (get_or bs (from + i) 0)).0)
      (z : k' ≡ (pull d k (get_or bs (from + i) 0)).1) where
    pub runs-next : from + n ≤ length bs → {y : ℕ} → t ≡ code.Some y → Runs n from d v bs k₀ w₀ (i + 1) k' (set w (v + i) y)
    runs-next l {y} b s f e g =
        subst (λ x. GoesOn bs from (sub s k₀) w₀ (from + (i + 1)) (sub (filled s (i + 1)) k') (set w (x + i) y)) g
        (goes-next f h l same (r s f e g) (subst (λ x. t ≡ as_byte (pull x k (get_or bs (from + i) 0)).0) (sym e) u)
        (subst (λ x. k' ≡ (pull x k (get_or bs (from + i) 0)).1) (sym e) z) b)

    module _ (s : Lane) (f : Fills s k₀.again n) (e : s.settings.depth ≡ d) where
      pulled : ((pull d k (get_or bs (from + i) 0)).0 ≡ none → ⊥) × ((pull d k (get_or bs (from + i) 0)).1.again ≡ k.again)
      pulled =
          let q = f.filling (omega arith) in
          pulls-all d k (get_or bs (from + i) 0) (λ l. same ∙ q.4 (let z = e in omega arith))

      -- none brings no byte
      pub runs-bring : t ≡ code.None → ⊥
      runs-bring b = pulled.0 (none_is _ (sym b ∙ u))

      pub runs-same : k'.again ≡ k₀.again
      runs-same = ap (λ (x : Back). x.again) z ∙ pulled.1 ∙ same

  pub runs_last : n ≤ i → i ≤ n → (s : Lane) → Fills s k₀.again n → s.settings.depth ≡ d → s.counts.word ≡ v
      → GoesOn bs from (sub s k₀) w₀ (from + n) (sub (filled s n) k) w
  runs_last h l s f e g =
      let z : i ≡ n = omega arith in subst (λ j. GoesOn bs from (sub s k₀) w₀ (from + j) (sub (filled s j) k) w) z (r s f e g)

pub turned-placed : (d : ℕ) (k : Back) (b : ℕ) {k' : Back} → k' ≡ (pull d k b).1 → beyond d k.matrix.place ≡ false → beyond d k'.matrix.place ≡ false
turned-placed d k b u e = ap (λ (x : Back). beyond d x.matrix.place) u ∙ pull-placed d k b e

-- the state behind them
pub goes-all : {s₀ : Sub} {w₀ bs w w' : List ℕ} {i : ℕ} (n : ℕ) {s r : Lane} {k k' : Back} → Going s₀ w₀ bs i (sub s k) w
    → GoesOn bs i (sub s k) w (i + n) (sub (filled s n) k') w' → r ≡ filled s n → Going s₀ w₀ bs (i + n) (sub r k') w'
goes-all {s₀} {w₀} {bs} {w} {w'} {i} n {s} {r} {k} {k'} g o e = subst (λ x. Going s₀ w₀ bs (i + n) (sub x k') w') (sym e) (o s₀ w₀ g)
