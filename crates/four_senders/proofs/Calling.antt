-- What the ways through the sender's calls leave, by the tests that led there.
-- sound-at                             settings that pass 10, of each
-- told-is, send-known                  a sub-channel that is configured, and sent on
use Prim.Native.Nat.{ℕ, zero, suc}
use mathlib.Core.Path.{◌≡◌, refl, sym, ◌∙◌, ap}
use mathlib.Core.List.{List}
use mathlib.Core.Bool.{Bool, true, false}
use Rattle.std.specs.Prelude as code
use lib.Dec.{leb}
use borrow.Author.Tests.{le-ltb, leb-true}
use Rattle.base.specs.Choice.{pick}
use Rattle.base.specs.Written.{Outcome, refused, write}
use Rattle.base.proofs.Tests.{and_parts}
use Rattle.parity.specs.Calls.{root_limit}
use Rattle.interleaver_spec.specs.Running.{depth_limit}
use Rattle.subchannel_spec.specs.Sender.{sent}
use Rattle.subchannel_spec.specs.declared.Settings.{Settings}
use Rattle.subchannel_spec.specs.Settings.{within}
use Rattle.subchannel_sender.specs.Sending.{sending}
use Rattle.four_senders.specs.declared.Sender.{Sender}
use Rattle.four_senders.specs.Call.{get, sound_four, known, send_four}

-- ---- sending
pub sound-at : (s : Sender) (n : ℕ) → sound_four s ≡ true → within (get s n) ≡ true
sound-at s zero e = (and_parts (within s.a) _ e).0
sound-at s (suc zero) e = (and_parts (within s.b) _ (and_parts (within s.a) _ e).1).0
sound-at s (suc (suc zero)) e = (and_parts (within s.c) _ (and_parts (within s.b) _ (and_parts (within s.a) _ e).1).1).0
sound-at s (suc (suc (suc n))) e = (and_parts (within s.c) _ (and_parts (within s.b) _ (and_parts (within s.a) _ e).1).1).1

-- settings that pass 10 get neither 30 nor 32
within-sends : (x : Settings) (bs out : List ℕ) → within x ≡ true → sending x.parity x.depth bs out ≡ write (sent x.parity x.depth bs) out
within-sends x bs out e =
    let p = and_parts (leb x.parity root_limit) (leb x.depth depth_limit) e in
    rw (le-ltb root_limit x.parity (leb-true _ _ p.0), le-ltb depth_limit x.depth (leb-true _ _ p.1)) refl

module _ (s : Sender) (n : ℕ) (bs out : List ℕ) where
  module _ (e : sound_four s ≡ true) where
    -- a sub-channel that is configured
    pub told-is : {x : Settings} {o : code.Option Settings} → o ≡ pick (known s n) (code.Some (get s n)) code.None → o ≡ code.Some x
        → (known s n ≡ true) × (x ≡ get s n)
    told-is {x} p q = go (known s n) (sym q ∙ p)
      where
        go : (t : Bool) → code.Some x ≡ pick t (code.Some (get s n)) code.None → (t ≡ true) × (x ≡ get s n)
        go true e = (refl, cc)
        go false e = cc

    pub send-known : {x : Settings} {o : Outcome} → known s n ≡ true → x ≡ get s n → o ≡ sending x.parity x.depth bs out → o ≡ send_four s n bs out
    send-known f g q =
        q ∙ ap (λ (y : Settings). sending y.parity y.depth bs out) g ∙ within-sends (get s n) bs out (sound-at s n e)
        ∙ (λ i. pick (sym e i) (pick (sym f i) (write (sent (get s n).parity (get s n).depth bs) out) (refused 42 out)) (refused 10 out))
