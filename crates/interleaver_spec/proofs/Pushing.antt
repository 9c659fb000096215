-- The sender's side, many bytes at once.
-- sent-length, sent-place   as many come out as go in; the place behind them
-- pushed-length             .. at any depth
use mathlib.Core.Path.{◌≡◌, ap, ◌∙◌}
use mathlib.Core.List.{List}
use Prim.Native.Nat.{ℕ, ◌+◌, ◌%◌, ◌<◌}
use lib.ListN.{length, get_or}
use Rattle.base.specs.Calls.{run}
use Rattle.base.proofs.Tests.{by_le}
use Rattle.interleaver_spec.specs.Places.{cell}
use Rattle.interleaver_spec.specs.Running.{size, sent, push}
use Rattle.interleaver_spec.specs.declared.Matrix.{Matrix}
use Rattle.interleaver_spec.proofs.Turns.{each-length, each-place}
use Rattle.interleaver_spec.proofs.Calling.{passes, deeper}

pub sent-length : (d : ℕ) (m : Matrix) (bs : List ℕ) → length (run (sent d) m bs).0 ≡ length bs
sent-length d = each-length (size d) (λ p. p) (λ m w. get_or w.cells (cell d m.place) 0)

pub sent-place : (d : ℕ) (m : Matrix) (bs : List ℕ) → m.place < size d → (run (sent d) m bs).1.place ≡ (m.place + length bs) % size d
sent-place d = each-place (size d) (λ p. p) (λ m w. get_or w.cells (cell d m.place) 0)

pub pushed-length : (d : ℕ) (m : Matrix) (bs : List ℕ) → length (run (push d) m bs).0 ≡ length bs
pushed-length d m bs =
    by_le 2 d (λ h. ap (λ (x : List ℕ × Matrix). length x.0) (deeper d (sent d) h m bs) ∙ sent-length d m bs)
    (λ h. ap (λ (x : List ℕ × Matrix). length x.0) (passes d (sent d) h m bs))
