-- The ways through a call that reads a unit. What the code has found so far is a record over the one before it, of the call's length, delimiter, parts,
-- unit and output.
-- Fit, Whole       the length is a unit's; .. and so much is lent
-- Named            c is the sequence that the header names
-- Told             the parts told are the sequence's, and g says whether it announces opportunistic data
-- Parted           both parts fit into the payload, which has w bytes
-- Sought           opportunistic data is announced, and o bytes of it are found
-- fit-of, whole, headed, is-named, is-told, parted, sought-of                         how each is made
-- is-low, low, is-fit, long, heads-told, searched                                     what follows of them
-- not-a-unit, too_short, unnamed, nameless, not-told, no-audio, no-fixed, unmarked              each refusal
-- plainly, marked-room, marked                                                        the contents are read
use mathlib.Core.Path.{◌≡◌, refl, sym, ap, ap₂, ◌∙◌}
use mathlib.Core.Bool.{Bool, true, false}
use mathlib.Core.List.{List, ◌++◌, append-nil}
use Prim.Native.Nat.{ℕ, ◌+◌, ◌-◌, ◌≤◌, ◌<◌}
use native.Mathlib.Omega.{arith}
use lib.ListN.{length, take, drop, length-drop}
use lib.Seq.{drop-drop, length-take-le}
use Rattle.base.specs.Written.{Outcome, refused, write}
use Rattle.base.proofs.Lists.{drop-take}
use Rattle.unit_spec.specs.Tables.{sequence, heads, payload, lent, unfit, announced}
use Rattle.unit_spec.specs.Unit.{opened}
use Rattle.unit_spec.specs.Reading.{header_of, payload_of, named, middle, read_parts, read_unit}
use Rattle.unit_spec.proofs.Rows.{accepted, few}
use Rattle.std.specs.Prelude.{Option, None, Some, find}
use Rattle.unit.specs.Private.{bits_of, code, headers, begun}
use Rattle.unit.specs.declared.table.Header.{Header}
use Rattle.unit.proofs.Hearing.{payload-low, named-is, some-bits}
use Rattle.unit.proofs.Finding.{length-payload, opened-short, opened-is}
use Rattle.unit_spec.proofs.Ways.{no_name, wrong-told, wrong-fit, read_plain, not_found, read_found, bad-length, bad-unit, read_is}

pub record Fit (l : ℕ) (d : List ℕ) (a f : ℕ) (u out : List ℕ) : Type 0 where
  pub fit : unfit l ≡ false

pub record Whole (l : ℕ) (d : List ℕ) (a f : ℕ) (u out : List ℕ) : Type 0 where
  pub on : Fit l d a f u out
  pub long : lent l ≤ length u

pub record Named (l : ℕ) (d : List ℕ) (a f : ℕ) (u out : List ℕ) (c : ℕ) : Type 0 where
  pub on : Whole l d a f u out
  pub name : c ≡ named (heads l) (header_of l u)
  pub some : c ≡ 0 → ⊥

pub record Told (l : ℕ) (d : List ℕ) (a f : ℕ) (u out : List ℕ) (c g : ℕ) : Type 0 where
  pub on : Named l d a f u out c
  pub mark : g ≡ announced c
  pub right : sequence a f (announced c) ≡ c

pub record Parted (l : ℕ) (d : List ℕ) (a f : ℕ) (u out : List ℕ) (c g w : ℕ) : Type 0 where
  pub on : Told l d a f u out c g
  pub all : w ≡ payload l
  pub room : a + f ≤ payload l

pub record Sought (l : ℕ) (d : List ℕ) (a f : ℕ) (u out : List ℕ) (c g w o : ℕ) : Type 0 where
  pub on : Parted l d a f u out c g w
  pub some : g ≡ 0 → ⊥
  pub found : o ≡ length (opened d (drop a (take (w - f) (payload_of l u))))

pub not-a-unit : (l : ℕ) (d : List ℕ) (a f : ℕ) (u out : List ℕ) {b : Bool} → b ≡ unfit l → b ≡ true → refused 50 out ≡ read_unit l d a f u out
not-a-unit l d a f u out eb t = sym (bad-length l d a f u out (sym eb ∙ t))

pub heads-told : (l : ℕ) {n : ℕ} → n ≡ heads l → (22 ≤ n) × (n ≤ 24)
heads-told l e = (omega (arith, (few l).0), omega (arith, (few l).1))

place : (w x o a : ℕ) → x ≡ w - a → o ≤ x → a ≤ w → (a + (x - o) ≡ w - o) × (w - (w - o) ≡ o)
place w x o a e h k = (omega arith, omega arith)

module _ {l : ℕ} {d : List ℕ} {a f : ℕ} {u out : List ℕ} where
  pub fit-of : {b : Bool} → b ≡ unfit l → b ≡ false → Fit l d a f u out
  fit-of e n = record { fit = sym e ∙ n }

  pub is-low : Fit l d a f u out → l ≤ 146176
  is-low k = (accepted l k.fit).0

  pub too_short : Fit l d a f u out → {m : ℕ} → m ≡ lent l → length u < m → refused 50 out ≡ read_unit l d a f u out
  too_short k em h = sym (bad-unit l d a f u out k.fit (omega arith))

  pub whole : Fit l d a f u out → {m : ℕ} → m ≡ lent l → m ≤ length u → Whole l d a f u out
  whole k em h = record { on = k; long = omega arith }

  module _ (k : Whole l d a f u out) where
    pub is-fit : unfit l ≡ false
    is-fit = k.on.fit

    pub long : lent l ≤ length u
    long = k.long

    pub low : payload l < 18272
    low = payload-low l is-fit

    module _ {c x y : ℕ} (ex : x ≡ heads l) (ey : y ≡ header_of l u) (ec : c ≡ named x y) where
      named-as : c ≡ named (heads l) (header_of l u)
      named-as = ec ∙ ap₂ named ex ey

      pub unnamed : c ≡ 0 → refused 52 out ≡ read_unit l d a f u out
      unnamed e = sym (no_name (payload l) c d a f (payload_of l u) out e) ∙ ap (λ (z : ℕ). read_parts (payload l) z d a f (payload_of l u) out) named-as
          ∙ sym (read_is l d a f u out is-fit long)

      pub is-named : (c ≡ 0 → ⊥) → Named l d a f u out c
      is-named n = record { on = k; name = named-as; some = n }

  -- the sequence that the code finds, as a number
  module _ (k : Whole l d a f u out) {x y : ℕ} (ex : x ≡ heads l) (ey : y ≡ header_of l u) where
    name-of : {o : Option Header} → o ≡ find (begun (24 - x) y) headers → code o ≡ named x y
    name-of e = let n = heads-told l ex in ap code e ∙ named-is x y n.0 n.1

    pub nameless : {o : Option Header} → o ≡ find (begun (24 - x) y) headers → o ≡ None → refused 52 out ≡ read_unit l d a f u out
    nameless e z = unnamed k ex ey (name-of e) (ap code z)

    pub headed : {h : Header} → Some h ≡ find (begun (24 - x) y) headers → Named l d a f u out (bits_of h)
    headed {h} e = is-named k ex ey (name-of e) (some-bits h)

  module _ {c : ℕ} (k : Named l d a f u out c) where
    is : read_parts (payload l) c d a f (payload_of l u) out ≡ read_unit l d a f u out
    is = ap (λ (z : ℕ). read_parts (payload l) z d a f (payload_of l u) out) k.name ∙ sym (read_is l d a f u out (is-fit k.on) (long k.on))

    module _ {g s : ℕ} (eg : g ≡ announced c) (es : s ≡ sequence a f g) where
      told : s ≡ sequence a f (announced c)
      told = es ∙ ap (sequence a f) eg

      pub not-told : (s ≡ c → ⊥) → refused 53 out ≡ read_unit l d a f u out
      not-told r = sym (wrong-told (payload l) c d a f (payload_of l u) out k.some (λ e. r (told ∙ e))) ∙ is

      pub is-told : s ≡ c → Told l d a f u out c g
      is-told r = record { on = k; mark = eg; right = sym told ∙ r }

  module _ {c g : ℕ} (k : Told l d a f u out c g) where
    unfitting : payload l < a + f → refused 53 out ≡ read_unit l d a f u out
    unfitting t = sym (wrong-fit (payload l) c d a f (payload_of l u) out k.on.some k.right t) ∙ is k.on

    module _ {w : ℕ} (ew : w ≡ payload l) where
      pub no-audio : w < a → refused 53 out ≡ read_unit l d a f u out
      no-audio t = unfitting (omega arith)

      pub no-fixed : a ≤ w → w - a < f → refused 53 out ≡ read_unit l d a f u out
      no-fixed ta t = unfitting (omega arith)

      pub parted : a ≤ w → f ≤ w - a → Parted l d a f u out c g w
      parted ta tf = record { on = k; all = ew; room = omega arith }

  module _ {c g w : ℕ} (k : Parted l d a f u out c g w) where
    abbrev p : List ℕ
    p = payload_of l u

    pub plainly : g ≡ 0 → {v : Outcome} → v ≡ write (take a p ++ take 0 (drop (payload l - f - 0) p) ++ drop (payload l - f) p) out
        → v ≡ read_unit l d a f u out
    plainly z e =
        e ∙ ap (λ (t : List ℕ). write (t ++ drop (payload l - f) p) out) (append-nil (take a p))
        ∙ sym (read_plain (payload l) c d a f p out k.on.on.some k.on.right k.room (sym k.on.mark ∙ z)) ∙ is k.on.on

    -- what was searched is the middle
    pub searched : (a ≤ w - f) × (w - f ≤ payload l)
    searched = (omega (arith, k.all, k.room), omega (arith, k.all))

    middle-is : drop a (take (w - f) p) ≡ middle a f p
    middle-is = drop-take a (w - f) p ∙ ap (λ (t : ℕ). take (t - f - a) (drop a p)) (k.all ∙ sym (length-payload l u))

    length-searched : length (drop a (take (w - f) p)) ≡ w - f - a
    length-searched =
        length-drop a (take (w - f) p) ∙ ap (λ (t : ℕ). t - a) (length-take-le (w - f) p (omega (arith, k.all, length-payload l u)))

  pub sought-of : {c g w o : ℕ} → Parted l d a f u out c g w → (g ≡ 0 → ⊥) → o ≡ length (opened d (drop a (take (w - f) (payload_of l u))))
      → Sought l d a f u out c g w o
  sought-of k n e = record { on = k; some = n; found = e }

  module _ {c g w o : ℕ} (k : Sought l d a f u out c g w o) where
    abbrev q : List ℕ
    q = payload_of l u

    -- the data that is found is that of the middle
    size : o ≡ length (opened d (middle a f q))
    size = k.found ∙ ap (λ (t : List ℕ). length (opened d t)) (middle-is k.on)

    fewer : o ≤ w - f - a
    fewer = omega (arith, k.found, opened-short d (drop a (take (w - f) q)), length-searched k.on)

    pub marked-room : a + o + f ≤ payload l
    marked-room = omega (arith, fewer, k.on.all, k.on.room)

    pub unmarked : o ≡ 0 → refused 54 out ≡ read_unit l d a f u out
    unmarked t =
        let told = k.on.on in
        sym (not_found (payload l) c d a f q out told.on.some told.right k.on.room (λ v. k.some (told.mark ∙ v)) (sym size ∙ t)) ∙ is told.on

    there : opened d (middle a f q) ≡ take o (drop (payload l - f - o) q)
    there =
        let at = place (w - f) (w - f - a) o a refl fewer (searched k.on).0 in
        sym (ap (opened d) (middle-is k.on))
        ∙ opened-is d (drop a (take (w - f) q))
        ∙ ap₂ (λ (s t : ℕ). drop (s - t) (drop a (take (w - f) q))) (length-searched k.on) (sym k.found)
        ∙ drop-drop (w - f - a - o) a (take (w - f) q)
        ∙ ap (λ (t : ℕ). drop t (take (w - f) q)) at.0
        ∙ drop-take (w - f - o) (w - f) q
        ∙ ap₂ (λ (s t : ℕ). take s (drop (t - f - o) q)) at.1 k.on.all

    pub marked : (o ≡ 0 → ⊥) → {v : Outcome} → v ≡ write (take a q ++ take o (drop (payload l - f - o) q) ++ drop (payload l - f) q) out
        → v ≡ read_unit l d a f u out
    marked t e =
        let told = k.on.on in
        e ∙ ap (λ (s : List ℕ). write (take a q ++ s ++ drop (payload l - f) q) out) (sym there)
        ∙ sym (read_found (payload l) c d a f q out told.on.some told.right k.on.room (λ v. k.some (told.mark ∙ v)) (λ v. t (size ∙ v)))
        ∙ is told.on
