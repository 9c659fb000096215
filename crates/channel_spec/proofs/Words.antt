-- Laws of a word with r parity bytes: of its answer, and of the word as repair leaves it.
-- mend-length                       no byte comes or goes
-- condition-clean, mend-clean       a clean word is clean, and stays
-- never-refused                     a word of 255 bytes is not refused
-- word-promised, word-determined    the answer and the word left meet the promise of repair, and nothing else does
-- block-promised, block-determined  .. of the opportunistic channel
use Prim.Native.Nat.{ℕ, ◌≤◌}
use native.Mathlib.Omega.{arith}
use mathlib.Core.Path.{◌≡◌, sym, ◌∙◌, ap}
use mathlib.Core.Bool.{Bool, true, false}
use mathlib.Core.List.{List}
use lib.ListN.{length}
use Rattle.base.specs.Bytes.{Bytes}
use Rattle.base.specs.Choice.{pick}
use Rattle.word_spec.specs.Word.{clean}
use Rattle.parity.specs.Calls.{root_limit}
use Rattle.parity.specs.Checked as check
use Rattle.repair.specs.Mended.{Mended}
use Rattle.repair.specs.Mended.{Clean, Repaired, Beyond, Refused}
use Rattle.repair.specs.Promise.{Promised}
use Rattle.repair.specs.Way.{repaired}
use Rattle.repair.proofs.Apart.{checked-is}
use Rattle.repair.proofs.Promising.{left-length, clean-left, promised-is}
use Rattle.repair.proofs.Meeting.{repaired-promised}
use Rattle.channel_spec.specs.Sender.{parity_bytes}
use Rattle.channel_spec.specs.Word.{condition_by, as_mended, condition, mend, IsWord}
use Rattle.channel_spec.specs.Meaning as channel
use Rattle.channel_spec.specs.declared.Condition.TheVariants.{Clean as clean_block}

pub mend-length : (r : ℕ) (w : List ℕ) → length (mend r w) ≡ length w
mend-length r w = left-length r w

pub never-refused : (n : ℕ) (t : Bool) → pick t check.Clean check.Damaged ≡ check.Refused n → ⊥
never-refused n true e = let z : ◌≡◌ {A = ℕ} 0 1 = cc in omega arith
never-refused n false e = let z : ◌≡◌ {A = ℕ} 0 1 = cc in omega arith

module _ (r : ℕ) (hr : r ≤ root_limit) (w : List ℕ) (h : IsWord w) where
  module _ (c : clean r w ≡ true) where
    pub condition-clean : condition r w ≡ clean_block
    condition-clean = ap (λ x. condition_by x.0) (clean-left r w hr h c)

    pub mend-clean : mend r w ≡ w
    mend-clean = ap (λ x. x.1) (clean-left r w hr h c)

  -- what is answered for repair's answer
  promised-by : (a : Mended) (o : List ℕ) → Promised r w a o → Promised r w (as_mended (condition_by a)) o
  promised-by Clean o p = p
  promised-by (Repaired n) o p = p
  promised-by Beyond o p = p
  promised-by (Refused n) o p = absurd (never-refused n (clean r w) (sym (checked-is r w hr h) ∙ p.0))

  -- .. and the word left: they meet the promise of repair ..
  pub word-promised : Bytes w → Promised r w (as_mended (condition r w)) (mend r w)
  word-promised b = promised-by (repaired r w).0 (mend r w) (repaired-promised r w b)

  -- .. and what meets it is they
  pub word-determined : Bytes w → (a : Mended) (o : List ℕ) → Promised r w a o → (condition_by a ≡ condition r w) × (o ≡ mend r w)
  word-determined b a o p = let s = promised-is r w b a o p in (ap condition_by s.0, s.1)

-- with 32 parity bytes
module _ (w : List ℕ) (h : IsWord w) where
  pub block-promised : Bytes w → Promised parity_bytes w (as_mended (channel.condition w)) (channel.mend w)
  block-promised = word-promised parity_bytes (omega arith) w h

  pub block-determined : Bytes w → (a : Mended) (o : List ℕ) → Promised parity_bytes w a o → (condition_by a ≡ channel.condition w) × (o ≡ channel.mend w)
  block-determined = word-determined parity_bytes (omega arith) w h
