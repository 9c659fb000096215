-- The place that the state remembers, and the place that is told at the closing flag: what is told is judged from the stored bytes, and in
-- every run both are the same.
-- remembered-is     of raw bytes: told with 3 and a place exactly where that place is remembered, but for 1 and 2, which come first
-- held-told         of the reader with its buffer: where the next byte is a flag, and told with 3 and a place, the state has that place
-- remembered-told   .. behind every byte string, however cut
use Prim.Native.Nat.{ℕ, ◌≤◌}
use native.Mathlib.Omega.{arith}
use mathlib.Core.Path.{◌≡◌, sym, ◌∙◌, ap, subst}
use mathlib.Core.Logic.{◌≢◌, ◌↔◌}
use mathlib.Core.List.{List, [], ◌∷◌}
use mathlib.Core.Option.{Option, some}
use lib.ListN.{length}
use lib.Seq.{take_all}
use Rattle.packet_spec.specs.Contents.{raw_limit}
use Rattle.packet_spec.specs.Escape.{flag, wrong_at, last, BrokenAt}
use Rattle.packet_spec.specs.Frame.{Told, broken, judge}
use Rattle.packet_spec.proofs.Faults.{broken-is, broken-there, judge-broken}
use Rattle.stream.specs.Meaning.{Reading, waiting, inside, read, reads}
use Rattle.stream.specs.Call.{Held, take_byte, EveryCut, held_of}
use Rattle.stream.proofs.Shown.{shown-byte, shown-plain}
use Rattle.stream.proofs.Cutting.{every-cut-reads}

pub remembered-is : (rs j : List ℕ) (n : ℕ)
    → judge rs ≡ broken n ↔ (length rs ≤ raw_limit) × (last 0 rs ≢ 0x7D) × (n ≢ 0) × ((held_of (inside rs) j).st.place ≡ n)
remembered-is rs j n = (there, back)
  where
    there : judge rs ≡ broken n → (length rs ≤ raw_limit) × (last 0 rs ≢ 0x7D) × (n ≢ 0) × ((held_of (inside rs) j).st.place ≡ n)
    there e =
        let w = (judge-broken rs n).0 e in
        (w.0, w.1, λ z. omega (arith, z, w.2.6), ap wrong_at (take_all raw_limit rs w.0) ∙ broken-is rs n w.2)

    back : (length rs ≤ raw_limit) × (last 0 rs ≢ 0x7D) × (n ≢ 0) × ((held_of (inside rs) j).st.place ≡ n) → judge rs ≡ broken n
    back (h, l, z, e) =
        let at : wrong_at rs ≡ n = sym (ap wrong_at (take_all raw_limit rs h)) ∙ e in
        (judge-broken rs n).1 (h, l, subst (λ (m : ℕ). BrokenAt rs m) at (broken-there rs (λ k. z (sym at ∙ k))))

-- ---- in every run
closed-so : (r : Reading) (j : List ℕ) (n : ℕ) → (read r flag).0 ≡ some (broken n) → (held_of r j).st.place ≡ n
closed-so waiting j n e = let z : ◌≡◌ {A = ℕ} 0 1 = cc in absurd (omega arith)
closed-so (inside []) j n e = let z : ◌≡◌ {A = ℕ} 0 1 = cc in absurd (omega arith)
closed-so (inside (r ∷ rs)) j n e = let t : judge (r ∷ rs) ≡ broken n = cc in ((remembered-is (r ∷ rs) j n).0 t).3

pub held-told : (r : Reading) (j : List ℕ) → raw_limit ≤ length (held_of r j).recv → (n : ℕ) → (take_byte (held_of r j) flag).0 ≡ some (broken n)
    → (held_of r j).st.place ≡ n
held-told r j room n t = closed-so r j n (sym (ap (λ (x : Option Told × Held). x.0) (shown-byte r j flag room).1) ∙ t)

pub remembered-told : (bs : List ℕ) → EveryCut bs λ ts d. (n : ℕ) → (take_byte d flag).0 ≡ some (broken n) → d.st.place ≡ n
remembered-told bs =
    every-cut-reads bs λ recv room ts d e.
    let s = shown-plain bs waiting recv room in
    let is : d ≡ held_of (reads waiting bs).1 s.0 = ap (λ (x : List Told × Held). x.1) (e ∙ s.1) in
    subst (λ (h : Held). (n : ℕ) → (take_byte h flag).0 ≡ some (broken n) → h.st.place ≡ n) (sym is) (held-told (reads waiting bs).1 s.0 s.2)
