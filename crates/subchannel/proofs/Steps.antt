-- A turn of the code is a byte of the definition, where the check does not see it by itself.
-- again-full               behind the first pass each byte brings one
-- mended-told              what repair finds of a word, and leaves of it
-- words_more               a byte of a word
-- none_is, eats-brought    a byte of a group, by the byte that it brings
-- eats-group               one new byte
use Prim.Native.Nat.{ℕ, suc, ◌+◌, ◌<◌}
use native.Mathlib.Numerals.{add-one}
use native.Mathlib.Omega.{arith}
use mathlib.Core.Path.{◌≡◌, refl, sym, ◌∙◌, ap, subst}
use mathlib.Core.Bool.{Bool, true, false, ◌||◌}
use mathlib.Core.List.{List}
use mathlib.Core.Option.{Option, some, none}
use lib.ListN.{set}
use lib.Dec.{eqb, ltb}
use borrow.Author.Tests.{lt-ltb}
use Rattle.interleaver_spec.specs.Running.{size, full, pull}
use Rattle.interleaver_spec.specs.declared.Back.{Back}
use Rattle.base.specs.Bytes.{Bytes}
use Rattle.repair.specs.Mended.{Mended}
use Rattle.repair.specs.Promise.{Promised}
use Rattle.repair.proofs.Promising.{promised-is}
use Rattle.channel_spec.specs.Sender.{word_bytes}
use Rattle.channel_spec.specs.Meaning.{Event, condition_by}
use Rattle.subchannel_spec.specs.Sender.{group_bytes}
use Rattle.subchannel_spec.specs.Word.{condition, mend}
use Rattle.subchannel.specs.declared.lane.Lane.{Lane}
use Rattle.subchannel.specs.declared.lane.Step.{Step}
use Rattle.subchannel.specs.Call.{counts, moved, word_at, word_on, group_on, grouped, eat_by, eat}
use Rattle.std.specs.Prelude as code
use Rattle.subchannel.specs.Private.{as_byte, step_of, WordIs, EatenIs}

-- ---- through the interleaver
pub again-full : (d : ℕ) (k : Back) → k.again ≡ true → full d k ≡ true
again-full d k e = ap (λ t. t || eqb (k.matrix.place + 1) (size d)) e

-- ---- words
pub mended-told : (r : ℕ) (w : List ℕ) → Bytes w → {a x : Mended} {o : List ℕ} → Promised r w a o → a ≡ x → (condition_by x ≡ condition r w) × (o ≡ mend r w)
mended-told r w b {a} {x} {o} p e = let s = promised-is r w b a o p in (ap condition_by (sym e ∙ s.0), s.1)

module _ (s : Lane) (y : ℕ) (l : List ℕ) {w : ℕ} (e : w ≡ word_at s.counts.word) where
  abbrev put : Option Event × Lane × List ℕ
  put = group_on (some y) s l

  -- the byte's place, by: is the word not whole yet
  placed : (t : Bool) → ltb (suc w) word_bytes ≡ t → word_on t s w (set l w y) ≡ put
  placed t p =
      ap (λ t. word_on t s w (set l w y)) (sym p) ∙ ap (λ x. word_on (ltb (suc x) word_bytes) s x (set l x y)) e

  pub words_more : {r : Lane} → w + 1 < word_bytes → r ≡ moved s s.hunting (counts (s.counts.group + 1) s.counts.marker (w + 1) 0)
      → WordIs put (record { answer = code.None; lane = r }) (set l w y)
  words_more {r} h q =
      subst (λ x. WordIs x (record { answer = code.None; lane = r }) (set l w y)) (placed true (lt-ltb (suc w) word_bytes (omega arith))) (
        (λ i. record {
          answer = code.None;
          lane = (q ∙ (λ j. moved s s.hunting (counts (add-one s.counts.group j) s.counts.marker (add-one w j) 0))) i;
        }),
        refl,
      )

-- ---- one new byte
some_is : {y : ℕ} (o : Option ℕ) → code.Some y ≡ as_byte o → o ≡ some y
some_is none e = cc
some_is {y} (some z) e = let f : z ≡ y = cc in ap some f

pub none_is : (o : Option ℕ) → code.None ≡ as_byte o → o ≡ none
none_is none e = refl
none_is (some y) e = cc

module _ (s : Lane) (k : Back) (w : List ℕ) (b : ℕ) where
  abbrev x : Option ℕ × Back
  x = pull s.settings.depth k b

  pub eats-brought : {t : code.Option ℕ} {k' : Back} → t ≡ as_byte x.0 → k' ≡ x.1 → {v : Step} {w' : List ℕ} {y : ℕ} → t ≡ code.Some y
      → WordIs (group_on (some y) s w) v w' → EatenIs (grouped s k w b) v k' w'
  eats-brought {t} {k'} u g {v} {w'} {y} p e =
      let o : some y ≡ x.0 = sym (some_is x.0 (sym p ∙ u)) in
      let q : v ≡ step_of ((group_on x.0 s w).0, (group_on x.0 s w).1) = e.0 ∙ ap (λ z. step_of ((group_on z s w).0, (group_on z s w).1)) o in
      (q, g, e.1 ∙ ap (λ z. (group_on z s w).2) o)

  pub eats-group : {r : Step} {k' : Back} {w' : List ℕ} → s.lost ≡ false → s.locked ≡ true → s.counts.group < group_bytes
      → EatenIs (grouped s k w b) r k' w' → EatenIs (eat s k w b) r k' w'
  eats-group {r} {k'} {w'} po pl h e =
      subst (λ x. EatenIs x r k' w') (λ i. eat_by (sym po i) (sym pl i) (sym (lt-ltb s.counts.group group_bytes h) i) s k w b) e
