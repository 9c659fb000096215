-- The loops over bytes, whatever is done with each.
-- left_out   what is stored from the output's start on, with room
-- sent-out   .. of the sender's bytes, at depth 2 or more
use mathlib.Core.Path.{◌≡◌, sym, ap, ◌∙◌}
use mathlib.Core.List.{List, ◌++◌}
use mathlib.Core.Option.{Option}
use Prim.Native.Nat.{ℕ, ◌+◌, ◌≤◌}
use native.Mathlib.Omega.{arith}
use lib.ListN.{length, drop}
use lib.Seq.{sets-eq}
use Rattle.base.specs.Calls.{run}
use Rattle.base.specs.Written.{copied}
use Rattle.base.proofs.Writing.{copied-fits}
use Rattle.interleaver_spec.specs.Running.{sent}
use Rattle.interleaver.specs.Private.{left}
use Rattle.interleaver_spec.specs.declared.Matrix.{Matrix}
use Rattle.interleaver_spec.proofs.Pushing.{sent-length}

pub left_out : (e : Matrix → ℕ → Option ℕ × Matrix) (bs : List ℕ) (m : Matrix) (out : List ℕ) → length (run e m bs).0 ≤ length out
    → left e bs 0 m out ≡ (copied (run e m bs).0 out, (run e m bs).1)
left_out e bs m out h =
    let r : List ℕ = (run e m bs).0 in
    ap (λ (x : List ℕ). (x, (run e m bs).1))
    (sets-eq r out 0 (omega arith) ∙ ap (λ (n : ℕ). r ++ drop n out) (let z : 0 + length r ≡ length r = omega arith in z) ∙ sym (copied-fits r out h))

pub sent-out : (d : ℕ) (bs : List ℕ) (m : Matrix) (out : List ℕ) → length bs ≤ length out
    → left (sent d) bs 0 m out ≡ (copied (run (sent d) m bs).0 out, (run (sent d) m bs).1)
sent-out d bs m out h = left_out (sent d) bs m out (let z = sent-length d m bs in omega arith)
