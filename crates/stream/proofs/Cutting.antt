-- Every way of cutting a byte string yields the answers and the final state of the uncut string.
-- read-agrees           where 10 and 11 are passed, a call is a reading of its bytes
-- read-law              the law of a call
-- read-yields           from any state and buffer that pass 10 and 11: every way of cutting comes to its end, and yields that
-- every-cut-reads       .. from the fresh one
use Prim.Native.Nat.{ℕ, ◌≤◌}
use native.Mathlib.Omega.{arith}
use mathlib.Core.Path.{◌≡◌, refl, sym, ◌∙◌, ap}
use mathlib.Core.List.{List}
use lib.ListN.{length}
use borrow.Author.Tests.{le-leb}
use Rattle.base.specs.Calls.{joined, owes_none, hands_none, told, Yields}
use Rattle.base.proofs.Calls.{none-owed, law, yields-all, yields-so}
use Rattle.packet_spec.specs.Contents.{raw_limit}
use Rattle.packet_spec.specs.Frame.{Told}
use Rattle.stream.specs.Call.{Held, held, fresh, take_byte, read_all, read_on, read_call, Fine, EveryCut}
use Rattle.stream.proofs.Fine.{fine-is, fine-take}

pub read-agrees : (h : Held) (bs : List ℕ) → Fine h → read_call h bs ≡ read_on h bs
read-agrees h bs f = rw (fine-is h f, le-leb raw_limit (length h.recv) f.room) refl

-- the law of a call: its answer is the first, and the others are had from its state and the bytes it left
pub read-law : (h : Held) (bs : List ℕ) → Fine h → read_all h bs ≡ told owes_none hands_none take_byte (read_call h bs) bs
read-law h bs f =
    law owes_none hands_none take_byte none-owed h bs ∙ ap (λ r. told owes_none hands_none take_byte r bs) (sym (read-agrees h bs f))

-- from any state and buffer that pass 10 and 11 every way of cutting comes to its end, and yields the answers and the final state of the
-- uncut string
pub read-yields : (h : Held) → Fine h → (pieces : List (List ℕ)) → Yields read_call h pieces λ ts g. (ts, g) ≡ read_all h (joined pieces)
read-yields h f =
    yields-all owes_none hands_none take_byte none-owed Fine (λ g n e i. i) (λ g b e i. fine-take g b i) read_call read-agrees h refl f

-- a fresh reader's
pub every-cut-reads : (bs : List ℕ) {P : List Told → Held → Type 0}
    → ((recv : List ℕ) → raw_limit ≤ length recv → (ts : List Told) (d : Held) → (ts, d) ≡ read_all (held fresh recv) bs → P ts d) → EveryCut bs P
every-cut-reads bs f recv r pieces cut =
    yields-so (read-yields (held fresh recv) (record { stored = refl; raw = omega arith; place = omega arith; room = r }) pieces)
    λ ts d e. f recv r ts d (e ∙ ap (read_all (held fresh recv)) cut)
