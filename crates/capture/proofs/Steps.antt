-- One byte of a capture, as the code takes it.
-- sound-low, sound-high, sound-header, sound-head, sound-record   what the state's counts are
-- said-is                                            an answer
-- header-wrong, header-last, header-more             a byte of the header, by the tests that led there
-- headed-unequal, headed-none, headed-some           .. a whole head
-- whole_long, whole-kept                             .. a whole record
-- as-header, as-head, as-record, as-behind           a phase is that of the state that was matched
-- room-set                                           a byte stored leaves the store its room
use mathlib.Core.Path.{◌≡◌, refl, sym, ap, subst, ◌∙◌}
use mathlib.Core.Bool.{Bool, true, false, ◌&&◌}
use mathlib.Core.List.{List}
use mathlib.Core.Option.{Option, none}
use Prim.Native.Nat.{ℕ, ◌+◌, ◌≤◌, ◌<◌}
use native.Mathlib.Omega.{arith}
use borrow.Author.Tests.{eq-eqb, ne_eqb, lt-ltb, le-ltb, le-leb, lt-leb, ltb-true}
use lib.Dec.{eqb, leb}
use lib.ListN.{length, get_or, take, set, length-set}
use Rattle.base.specs.Choice.{pick}
use Rattle.packet_spec.specs.Frame.{Told, refusal, judged}
use Rattle.packet_spec.specs.declared.Judged.{Judged}
use Rattle.std.specs.Prelude.{Some}
use Rattle.capture_spec.specs.File.{header}
use Rattle.capture_spec.specs.Meaning.{entry, entry_limit, four_at}
use Rattle.capture.specs.declared.reader.CaptureReader.{CaptureReader}
use Rattle.capture.specs.declared.reader.CaptureReader.TheVariants.{Header, Head, Record, Behind}
use Rattle.capture.specs.declared.reader.Step.{Step}
use Rattle.capture.specs.Call.{held, next, says, header_by, headed_by, head_by, whole_by, record_by, take_by, take_byte, sound}
use Rattle.capture.specs.Private.{step_of, StepIs}

-- ---- the state's counts
module _ {c : CaptureReader} where
  pub sound-low : {f : ℕ} → c ≡ Behind f → f < 60 → false ≡ sound c
  sound-low {f} e h = sym (ap sound e ∙ ap (λ (t : Bool). t && leb f 62) (lt-leb 60 f h))

  pub sound-high : {f : ℕ} → c ≡ Behind f → 60 ≤ f → leb f 62 ≡ sound c
  sound-high {f} e h = sym (ap sound e ∙ ap (λ (t : Bool). t && leb f 62) (le-leb 60 f h))

  module _ (s : sound c ≡ true) where
    pub sound-header : {k : ℕ} → c ≡ Header k → k < 24
    sound-header {k} e = ltb-true k 24 (sym (ap sound e) ∙ s)

    pub sound-head : {k : ℕ} → c ≡ Head k → k < 16
    sound-head {k} e = ltb-true k 16 (sym (ap sound e) ∙ s)

    pub sound-record : {n d : ℕ} → c ≡ Record n d → d < n
    sound-record {n} {d} e = ltb-true d n (sym (ap sound e) ∙ s)

-- an answer
pub said-is : (t : Told) {j : Judged} {r : Step} → j ≡ judged t → r ≡ record { heard = Some j; capture = next j } → r ≡ step_of (says t)
said-is t e f = f ∙ (λ i. record { heard = Some (e i); capture = next (e i) })

-- ---- the phases
-- the header's byte is right
abbrev onward : ℕ → Option Told × CaptureReader
onward k = (none, pick (eqb (k + 1) 24) (Head 0) (Header (k + 1)))

module _ (k b : ℕ) {h : ℕ} (a : h ≡ get_or header k 0) where
  pub header-wrong : {r : Step} → (b ≡ h → ⊥) → r ≡ step_of (says (refusal 60)) → r ≡ step_of (header_by k b)
  header-wrong z e = e ∙ sym (ap (λ (t : Bool). step_of (pick t (onward k) (says (refusal 60)))) (ne_eqb b (get_or header k 0) (λ q. z (q ∙ sym a))))

  module _ (g : b ≡ h) where
    right : step_of (header_by k b) ≡ step_of (onward k)
    right = ap (λ (t : Bool). step_of (pick t (onward k) (says (refusal 60)))) (eq-eqb b (get_or header k 0) (g ∙ a))

    pub header-last : {r : Step} → k + 1 ≡ 24 → r ≡ step_of (none, Head 0) → r ≡ step_of (header_by k b)
    header-last z e = e ∙ sym (right ∙ ap (λ (t : Bool). step_of (none, pick t (Head 0) (Header (k + 1)))) (eq-eqb (k + 1) 24 z))

    pub header-more : {r : Step} → (k + 1 ≡ 24 → ⊥) → r ≡ step_of (none, Header (k + 1)) → r ≡ step_of (header_by k b)
    header-more z e = e ∙ sym (right ∙ ap (λ (t : Bool). step_of (none, pick t (Head 0) (Header (k + 1)))) (ne_eqb (k + 1) 24 z))

-- a record of n bytes begins
abbrev sized : ℕ → Option Told × CaptureReader
sized n = pick (eqb n 0) (says (refusal 62)) (none, Record n 0)

module _ (st : List ℕ) {m n : ℕ} (a : m ≡ four_at st 8) (b : n ≡ four_at st 12) where
  pub headed-unequal : {r : Step} → (m ≡ n → ⊥) → r ≡ step_of (says (refusal 61)) → r ≡ step_of (headed_by st)
  headed-unequal z e = e
      ∙ sym (ap (λ (t : Bool). step_of (pick t (sized (four_at st 8)) (says (refusal 61)))) (ne_eqb (four_at st 8) (four_at st 12) (λ q. z (a ∙ q ∙ sym b))))

  module _ (g : m ≡ n) where
    equal : step_of (headed_by st) ≡ step_of (sized (four_at st 8))
    equal = ap (λ (t : Bool). step_of (pick t (sized (four_at st 8)) (says (refusal 61)))) (eq-eqb (four_at st 8) (four_at st 12) (sym a ∙ g ∙ b))

    pub headed-none : {r : Step} → m ≡ 0 → r ≡ step_of (says (refusal 62)) → r ≡ step_of (headed_by st)
    headed-none z e = e ∙ sym
        (equal ∙ ap (λ (t : Bool). step_of (pick t (says (refusal 62)) (none, Record (four_at st 8) 0))) (eq-eqb (four_at st 8) 0 (sym a ∙ z)))

    pub headed-some : {r : Step} → (m ≡ 0 → ⊥) → r ≡ step_of (none, Record m 0) → r ≡ step_of (headed_by st)
    headed-some z e =
        e ∙ ap (λ (x : ℕ). step_of (none, Record x 0)) a
        ∙ sym (equal ∙ ap (λ (t : Bool). step_of (pick t (says (refusal 62)) (none, Record (four_at st 8) 0))) (ne_eqb (four_at st 8) 0 (λ q. z (a ∙ q))))

module _ (n : ℕ) (st : List ℕ) {r : Step} where
  pub whole_long : entry_limit < n → r ≡ step_of (says (refusal 62)) → r ≡ step_of (whole_by n st)
  whole_long h e = e ∙ sym (ap (λ (t : Bool). step_of (says (pick t (refusal 62) (entry (take n st))))) (lt-ltb entry_limit n h))

  pub whole-kept : {j : Judged} → n ≤ entry_limit → j ≡ judged (entry (take n st)) → r ≡ record { heard = Some j; capture = next j }
      → r ≡ step_of (whole_by n st)
  whole-kept h g e =
      said-is (entry (take n st)) g e
      ∙ sym (ap (λ (t : Bool). step_of (says (pick t (refusal 62) (entry (take n st))))) (le-ltb entry_limit n h))

-- ---- the state that was matched
module _ {c : CaptureReader} (st : List ℕ) (b : ℕ) {r : Step} where
  pub as-header : {k : ℕ} → c ≡ Header k → r ≡ step_of (header_by k b) → StepIs (take_byte (held c st) b) r st
  as-header e q = subst (λ (x : CaptureReader). StepIs (take_by x st b) r st) (sym e) (q, refl)

  pub as-head : {k : ℕ} {l : List ℕ} → c ≡ Head k → l ≡ set st k b → r ≡ step_of (head_by k l) → StepIs (take_byte (held c st) b) r l
  as-head {k} {l} e f q = subst (λ (x : CaptureReader). StepIs (take_by x st b) r l) (sym e) (q ∙ ap (λ (x : List ℕ). step_of (head_by k x)) f, f)

  pub as-record : {n d : ℕ} {l : List ℕ} → c ≡ Record n d → l ≡ set st d b → r ≡ step_of (record_by n d l) → StepIs (take_byte (held c st) b) r l
  as-record {n} {d} {l} e f q = subst (λ (x : CaptureReader). StepIs (take_by x st b) r l) (sym e) (q ∙ ap (λ (x : List ℕ). step_of (record_by n d x)) f, f)

  pub as-behind : {f : ℕ} → c ≡ Behind f → r ≡ step_of (none, Behind f) → StepIs (take_byte (held c st) b) r st
  as-behind e q = subst (λ (x : CaptureReader). StepIs (take_by x st b) r st) (sym e) (q, refl)

-- room in a store that has had one byte stored
pub room-set : (st : List ℕ) (k b : ℕ) {l : List ℕ} → l ≡ set st k b → entry_limit ≤ length st → entry_limit ≤ length l
room-set st k b e h = omega (arith, ap length e, length-set st k b, h)
