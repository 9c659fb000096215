-- Every way of cutting a byte string yields the answers and the final state of the uncut string.
-- hand-one                    a move that is owed leaves one less
-- hear-agrees, hear-law       behind refusals 10 and 11 a call hears; the law of a call
-- hear-yields, hear-settled   from any state and buffers that pass 10 and 11: every way of cutting comes to its end, and yields that
use Prim.Native.Nat.{ℕ, suc}
use mathlib.Core.Path.{◌≡◌, refl, sym, ◌∙◌, ap}
use mathlib.Core.List.{List, ◌∷◌}
use lib.Dec.{eqb}
use Rattle.base.specs.Calls.{joined, told, Yields}
use Rattle.base.proofs.Calls.{law, yields-all, yields-first}
use Rattle.channel_spec.specs.Sender.{word_bytes}
use Rattle.channel.specs.Call.{Memory, eat_byte, owed, hand_on, hear_all, hear_on, hear_call, Fine}
use Rattle.channel.proofs.Fine.{fine-is, fine-roomy, fine-hand, fine-eat, owed-one}

-- a message byte handed on leaves one less to hand on
pub hand-one : (c : Memory) (n : ℕ) → owed c ≡ suc n → owed (hand_on c).1 ≡ n
hand-one c n e = (owed-one c.st.locked (eqb c.st.lock.word word_bytes) c.st.lock.handed n e).0

-- behind refusals 10 and 11, a call hears
pub hear-agrees : (c : Memory) (bs : List ℕ) → Fine c → hear_call c bs ≡ hear_on c bs
hear-agrees c bs i = rw (fine-is c i, fine-roomy c i) refl

-- the law of a call: its answer is the first, and the others are had from its state and the bytes it left
pub hear-law : (c : Memory) (bs : List ℕ) → Fine c → hear_all c bs ≡ told owed hand_on eat_byte (hear_call c bs) bs
hear-law c bs i =
    law owed hand_on eat_byte hand-one c bs ∙ ap (λ r. told owed hand_on eat_byte r bs) (sym (hear-agrees c bs i))

-- from any state and buffers that pass 10 and 11 every way of cutting comes to its end, and yields the answers and the final state of the
-- uncut string: with a word half handed on too ..
pub hear-yields : (c : Memory) → Fine c → (p : List ℕ) (ps : List (List ℕ)) → Yields hear_call c (p ∷ ps) λ es d. (es, d) ≡ hear_all c (joined (p ∷ ps))
hear-yields = yields-first owed hand_on eat_byte hand-one Fine fine-hand fine-eat hear_call hear-agrees

-- .. and where nothing is owed, of no piece too
pub hear-settled : (c : Memory) → owed c ≡ 0 → Fine c → (ps : List (List ℕ)) → Yields hear_call c ps λ es d. (es, d) ≡ hear_all c (joined ps)
hear-settled = yields-all owed hand_on eat_byte hand-one Fine fine-hand fine-eat hear_call hear-agrees
