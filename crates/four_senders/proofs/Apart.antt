-- The sub-channels of a sender stand apart.
-- got-put, got_other    one of the four exchanged, and the others then
-- configured-sends      configured, a sub-channel sends by these settings
-- configured-others     configuring one changes nothing of what another sends, or is refused by
-- send-keeps            a refused call leaves the output as it was
use Prim.Native.Nat.{ℕ, zero, suc, ◌≤◌}
use native.Mathlib.Omega.{arith}
use mathlib.Core.Path.{◌≡◌, refl, sym, ◌∙◌}
use mathlib.Core.Logic.{◌≢◌}
use mathlib.Core.Bool.{Bool, true, false, ◌&&◌}
use mathlib.Core.List.{List}
use lib.Dec.{ltb, leb}
use borrow.Author.Tests.{ltb-false, le-leb, lt-leb}
use Rattle.base.specs.Choice.{pick}
use Rattle.base.specs.Written.{Outcome, Keeps, refused, write}
use Rattle.base.proofs.Tests.{and-true as both, by_le}
use Rattle.base.proofs.Writing.{write_keeps, refused-keeps, pick-keeps}
use Rattle.parity.specs.Calls.{root_limit}
use Rattle.interleaver_spec.specs.Running.{depth_limit}
use Rattle.subchannel_spec.specs.Sender.{sent}
use Rattle.subchannel_spec.specs.declared.Settings.{Settings}
use Rattle.subchannel_spec.specs.Settings.{settings, within}
use Rattle.subchannel_spec.specs.Settings.{Configured, Done, Refused}
use Rattle.four_senders.specs.declared.Sender.{Sender}
use Rattle.four_senders.specs.Call.{get, put, sound_four, known, configuring, send_four}
use Rattle.four_senders.proofs.Calling.{sound-at}

pub got-put : (s : Sender) (n : ℕ) (x : Settings) → get (put s n x) n ≡ x
got-put s zero x = refl
got-put s (suc zero) x = refl
got-put s (suc (suc zero)) x = refl
got-put s (suc (suc (suc n))) x = refl

pub got_other : (s : Sender) (n k : ℕ) (x : Settings) → n ≤ 3 → k ≤ 3 → n ≢ k → get (put s n x) k ≡ get s k
got_other s zero zero x h i e = absurd (e refl)
got_other s zero (suc zero) x h i e = refl
got_other s zero (suc (suc zero)) x h i e = refl
got_other s zero (suc (suc (suc k))) x h i e = refl
got_other s (suc zero) zero x h i e = refl
got_other s (suc zero) (suc zero) x h i e = absurd (e refl)
got_other s (suc zero) (suc (suc zero)) x h i e = refl
got_other s (suc zero) (suc (suc (suc k))) x h i e = refl
got_other s (suc (suc zero)) zero x h i e = refl
got_other s (suc (suc zero)) (suc zero) x h i e = refl
got_other s (suc (suc zero)) (suc (suc zero)) x h i e = absurd (e refl)
got_other s (suc (suc zero)) (suc (suc (suc k))) x h i e = refl
got_other s (suc (suc (suc n))) zero x h i e = refl
got_other s (suc (suc (suc n))) (suc zero) x h i e = refl
got_other s (suc (suc (suc n))) (suc (suc zero)) x h i e = refl
got_other s (suc (suc (suc n))) (suc (suc (suc k))) x h i e = absurd (e (omega arith))

sound-put : (s : Sender) (n : ℕ) (x : Settings) → sound_four s ≡ true → within x ≡ true → sound_four (put s n x) ≡ true
sound-put s zero x e h = both h (both (sound-at s 1 e) (both (sound-at s 2 e) (sound-at s 3 e)))
sound-put s (suc zero) x e h = both (sound-at s 0 e) (both h (both (sound-at s 2 e) (sound-at s 3 e)))
sound-put s (suc (suc zero)) x e h = both (sound-at s 0 e) (both (sound-at s 1 e) (both h (sound-at s 3 e)))
sound-put s (suc (suc (suc n))) x e h = both (sound-at s 0 e) (both (sound-at s 1 e) (both (sound-at s 2 e) h))

-- sending by: does it pass 10, is the number one of the four, which settings
abbrev send_by : Bool → Bool → Settings → List ℕ → List ℕ → Outcome
send_by t u x bs out = pick t (pick (u && x.told) (write (sent x.parity x.depth bs) out) (refused 42 out)) (refused 10 out)

module _ (s : Sender) (n r d : ℕ) where
  abbrev x : Settings
  x = settings true r d

  -- configuring, by its four tests
  abbrev by_tests : Bool → Bool → Bool → Bool → Configured × Sender
  by_tests t a b c = pick t (pick a (Refused 42, s) (pick b (Refused 30, s) (pick c (Refused 32, s) (Done, put s n x)))) (Refused 10, s)

  takes : ltb root_limit r ≡ false → ltb depth_limit d ≡ false → within x ≡ true
  takes b c = both (le-leb r root_limit (ltb-false _ _ b)) (le-leb d depth_limit (ltb-false _ _ c))

  not-told : {m : ℕ} → Refused m ≡ Done → ⊥
  not-told e = let z : ◌≡◌ {A = ℕ} 0 1 = cc in omega arith

  module _ (bs out : List ℕ) where
    pub configured-sends : (configuring s n r d).0 ≡ Done → send_four (configuring s n r d).1 n bs out ≡ write (sent r d bs) out
    configured-sends = go (sound_four s) (ltb 3 n) (ltb root_limit r) (ltb depth_limit d) refl refl refl refl
      where
        go : (t a b c : Bool) → sound_four s ≡ t → ltb 3 n ≡ a → ltb root_limit r ≡ b → ltb depth_limit d ≡ c → (by_tests t a b c).0 ≡ Done
            → send_four (by_tests t a b c).1 n bs out ≡ write (sent r d bs) out
        go false a b c e f g h q = absurd (not-told q)
        go true true b c e f g h q = absurd (not-told q)
        go true false true c e f g h q = absurd (not-told q)
        go true false false true e f g h q = absurd (not-told q)
        go true false false false e f g h q =
            λ i. send_by (sound-put s n x e (takes g h) i) (le-leb n 3 (ltb-false _ _ f) i) (got-put s n x i) bs out

    pub configured-others : (k : ℕ) → n ≢ k → send_four (configuring s n r d).1 k bs out ≡ send_four s k bs out
    configured-others k ne = go (sound_four s) (ltb 3 n) (ltb root_limit r) (ltb depth_limit d) refl refl refl refl
      where
        go : (t a b c : Bool) → sound_four s ≡ t → ltb 3 n ≡ a → ltb root_limit r ≡ b → ltb depth_limit d ≡ c
            → send_four (by_tests t a b c).1 k bs out ≡ send_four s k bs out
        go false a b c e f g h = refl
        go true true b c e f g h = refl
        go true false true c e f g h = refl
        go true false false true e f g h = refl
        go true false false false e f g h =
            let w : sound_four (put s n x) ≡ sound_four s = sound-put s n x e (takes g h) ∙ sym e in
            by_le k 3
            (λ i j. send_by (w j) (leb k 3) (got_other s n k x (ltb-false _ _ f) i ne j) bs out)
            (λ i.
            (λ j. send_by (w j) (lt-leb k 3 i j) (get (put s n x) k) bs out) ∙ (λ j. send_by (sound_four s) (sym (lt-leb k 3 i) j) (get s k) bs out))

pub send-keeps : (s : Sender) (n : ℕ) (bs out : List ℕ) → Keeps out (send_four s n bs out)
send-keeps s n bs out =
    pick-keeps (sound_four s) out (pick-keeps (known s n) out (write_keeps (sent (get s n).parity (get s n).depth bs) out) (refused-keeps 42 out))
    (refused-keeps 10 out)
