-- take_within   no call takes more bytes than it is lent, nor writes more than the output holds, whatever its state is: what a caller's loop asks
use Prim.Native.Nat.{ℕ, ◌≤◌, zero-le}
use native.Mathlib.Omega.{arith}
use mathlib.Core.Path.{◌≡◌, refl, ap}
use mathlib.Core.Bool.{Bool, true, false}
use mathlib.Core.List.{List}
use mathlib.Core.Option.{Option, some, none}
use lib.Dec.{ltb}
use lib.ListN.{length, drop, length-append}
use Rattle.base.specs.Choice.{pick}
use Rattle.recording.proofs.Within.{call-within}
use Rattle.missed_spec.specs.Line.{longest}
use Rattle.missed.specs.Wants.{Took}
use Rattle.missed.specs.Page.{Page, Note, line, unheard, page_call}
use Rattle.missed.specs.Call.{Part, part_by, takes, TookIs}

part-taken : (o : Option Note) (n : ℕ) (g : Page) → (part_by o n g).taken ≡ n
part-taken none n g = refl
part-taken (some (line l)) n g = refl
part-taken (some (unheard k)) n g = refl

chosen : (c : Bool) (x y : Part) (k : ℕ) → x.taken ≤ k → y.taken ≤ k → (pick c x y).taken ≤ k
chosen true x y k h g = h
chosen false x y k h g = g

takes-within : (room : ℕ) (g : Page) (bs : List ℕ) → (takes room g bs).taken ≤ length bs
takes-within room g bs =
    chosen (ltb room longest) (part_by (some (unheard 23)) 0 g) (part_by (page_call g bs).0 (page_call g bs).1 (page_call g bs).2) (length bs) zero-le
    (omega (arith, part-taken (page_call g bs).0 (page_call g bs).1 (page_call g bs).2, call-within g.deck bs))

pub take_within : (g : Page) (bs old : List ℕ) {r : Took} {l k out : List ℕ}
    → TookIs (takes (length old) g bs) r l k old out → (r.taken ≤ length bs) × (r.written ≤ length out)
take_within g bs old h =
    let x : Part = takes (length old) g bs in (
      omega (arith, ap (λ (y : Took). y.taken) h.0, takes-within (length old) g bs),
      omega (arith, ap (λ (y : Took). y.written) h.0, ap length h.3, length-append x.text (drop (length x.text) old)),
    )
