-- A capture, read by calls.
-- read-yields   from any state and store that pass 10 and 11: every way of cutting comes to its end, and yields what the uncut bytes mean
-- every-cut     .. a whole file: what is imported of it
use mathlib.Core.Path.{◌≡◌, refl, ap, ◌∙◌}
use mathlib.Core.List.{List}
use Prim.Native.Nat.{ℕ}
use native.Mathlib.Omega.{arith}
use borrow.Author.Tests.{le-leb}
use lib.ListN.{length}
use Rattle.base.specs.Calls.{joined, owes_none, hands_none, Yields}
use Rattle.base.proofs.Calls.{none-owed, yields-all, yields-so}
use Rattle.capture_spec.specs.Meaning.{entry_limit, fresh, imported}
use Rattle.capture.specs.declared.reader.CaptureReader.TheVariants.{Header}
use Rattle.capture.specs.Call.{Held, held, take_byte, read_all, read_on, read_call, finishing, ended_as, Fine, EveryCut}
use Rattle.capture.proofs.Hearing.{fine-fresh, fine-take, fine-all}
use Rattle.capture.proofs.Following.{in-header, shows-all, ends_as}

read-agrees : (h : Held) (bs : List ℕ) → Fine h → read_call h bs ≡ read_on h bs
read-agrees h bs f = rw (f.counts, le-leb entry_limit (length h.store) f.room) refl

-- from any state and store that pass 10 and 11 every way of cutting comes to its end, and yields the answers and the final state of the
-- uncut string
pub read-yields : (h : Held) → Fine h → (pieces : List (List ℕ)) → Yields read_call h pieces λ ts g. (ts, g) ≡ read_all h (joined pieces)
read-yields h f =
    yields-all owes_none hands_none take_byte none-owed Fine (λ g n e i. i) (λ g b e i. fine-take g b i) read_call read-agrees h refl f

-- a whole file: its packets and its fault, and what the call at its end says
pub every-cut : (bs : List ℕ) → EveryCut bs λ ts g. (ts, ended_as (finishing g.st)) ≡ imported bs
every-cut bs st room pieces cut =
    let s = shows-all bs (held (Header 0) st) fresh (in-header {k = 0} (omega arith)) room in
    let end = ends_as s.1 (fine-all bs (held (Header 0) st) (fine-fresh st room)).room in
    yields-so (read-yields (held (Header 0) st) (fine-fresh st room) pieces) λ ts g e.
    let q = e ∙ ap (read_all (held (Header 0) st)) cut in
    (λ i. ((q i).0, ended_as (finishing (q i).1.st))) ∙ (λ i. (s.0 i, end i))
