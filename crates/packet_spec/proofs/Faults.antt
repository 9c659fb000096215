-- What the escapes of raw bytes are, in the words of refusals 2 and 3.
-- broken-there, broken-is        the place told is the one that `BrokenAt` says, and that one is told
-- broken-followed                7D is then followed by something other than 5E and 5D
-- Scanned, scan-says             unfinished: the last raw byte is 7D; wrong: it is not, and `BrokenAt`; right: neither
-- closed-broken, judge-broken    a frame is refused with 3 and a place exactly where `BrokenAt` says
use mathlib.Core.Path.{◌≡◌, refl, sym, ap, subst, ◌∙◌}
use mathlib.Core.Bool.{Bool, true, false}
use mathlib.Core.Logic.{◌≢◌, ◌↔◌}
use mathlib.Core.List.{List, [], ◌∷◌, ◌++◌, append_assoc}
use Prim.Native.Nat.{ℕ, ◌+◌, ◌≤◌}
use native.Mathlib.Omega.{arith}
use lib.Dec.{eqb}
use lib.ListN.{length, take, length-append}
use lib.Seq.{take_all}
use borrow.Author.Tests.{eq-eqb, ne_eqb, eqb-true, eqb-false}
use Rattle.base.specs.Choice.{pick}
use Rattle.base.proofs.Tests.{by-eq, by_le}
use Rattle.packet_spec.specs.Contents.{raw_limit}
use Rattle.packet_spec.specs.Escape.{right, wrong_from, wrong_at, last, scan, Followed, BrokenAt}
use Rattle.packet_spec.specs.Frame.{Told, packet, refusal, broken, Closed, closed_by, closed, judge}
use Rattle.packet_spec.specs.declared.Escapes.{Escapes}
use Rattle.packet_spec.specs.declared.Escapes.TheVariants.{Right, Unfinished, Wrong}
use Rattle.packet_spec.proofs.Judging.{closed-over, closed-as, contents-broken}
use Rattle.packet_spec.proofs.Places.{wrong-append, wrong-there, wrong-here, wrong-found}

pub broken-followed : {raw : List ℕ} {n : ℕ} → BrokenAt raw n → Followed raw
broken-followed w = (w.0, w.1, w.2, w.3, w.4, w.5)

wrong-is : (b : ℕ) → right b ≡ false → (b ≢ 0x5E) × (b ≢ 0x5D)
unfolding right
wrong-is b = go (eqb b 0x5E) refl
  where
    go : (t : Bool) → eqb b 0x5E ≡ t → pick t true (eqb b 0x5D) ≡ false → (b ≢ 0x5E) × (b ≢ 0x5D)
    go true e h = let z : ◌≡◌ {A = ℕ} 0 1 = cc in absurd (omega arith)
    go false e h = (eqb-false _ _ e, eqb-false _ _ h)

is-wrong : (b : ℕ) → b ≢ 0x5E → b ≢ 0x5D → right b ≡ false
unfolding right
is-wrong b n m = simp (ne_eqb _ _ n, ne_eqb _ _ m)

last_end : (d : ℕ) (xs : List ℕ) → last d (xs ++ 0x7D ∷ []) ≡ 0x7D
unfolding last
last_end d [] = refl
last_end d (x ∷ xs) = last_end x xs

split : (x : ℕ) (xs : List ℕ) → last x xs ≡ 0x7D → (zs : List ℕ) × (x ∷ xs ≡ zs ++ 0x7D ∷ [])
unfolding last
split x [] e = ([], ap (λ (y : ℕ). y ∷ []) e)
split x (y ∷ ys) e = let r = split y ys e in (x ∷ r.0, ap (λ (l : List ℕ). x ∷ l) r.1)

split-last : (xs : List ℕ) → last 0 xs ≡ 0x7D → (zs : List ℕ) × (xs ≡ zs ++ 0x7D ∷ [])
unfolding last
split-last [] e = absurd (omega (arith, e))
split-last (x ∷ xs) e = split x xs e

-- 7D with what is before it, and what is behind it
cut : (xs ys : List ℕ) (b : ℕ) → xs ++ 0x7D ∷ b ∷ ys ≡ (xs ++ 0x7D ∷ []) ++ b ∷ ys
cut xs ys b = sym (append_assoc xs (0x7D ∷ []) (b ∷ ys))

no_zero : {A : Type 0} → ◌≡◌ {A = ℕ} 0 0x7D → A
no_zero e = absurd (omega (arith, e))

-- ---- the place of raw bytes
followed-found : (raw : List ℕ) → Followed raw → wrong_at raw ≢ 0
followed-found raw (xs, ys, b, e, p, q) z =
    wrong-found (xs ++ 0x7D ∷ []) ys b 0 0 (λ k. no_zero k) (last_end 0 xs) (is-wrong b p q) (sym (ap wrong_at (e ∙ cut xs ys b)) ∙ z)

pub broken-there : (raw : List ℕ) → wrong_at raw ≢ 0 → BrokenAt raw (wrong_at raw)
broken-there raw h =
    let w = wrong-there raw 0 0 h in
    let s = split-last w.xs w.behind in
    let n = wrong-is w.b w.wrong in (
      s.0,
      w.ys,
      w.b,
      w.is ∙ ap (λ (l : List ℕ). l ++ w.b ∷ w.ys) s.1 ∙ sym (cut s.0 w.ys w.b),
      n.0,
      n.1,
      omega (arith, w.place, ap length s.1, length-append s.0 (0x7D ∷ [])),
      λ f. followed-found (s.0 ++ 0x7D ∷ []) f (sym (ap wrong_at s.1) ∙ w.first),
    )

none-followed : (raw : List ℕ) → (Followed raw → ⊥) → wrong_at raw ≡ 0
none-followed raw h = by-eq (wrong_at raw) 0 (λ e. e) (λ n. absurd (h (broken-followed (broken-there raw n))))

pub broken-is : (raw : List ℕ) (n : ℕ) → BrokenAt raw n → wrong_at raw ≡ n
broken-is raw n (xs, ys, b, e, p, q, m, f) =
    let zs = xs ++ 0x7D ∷ [] in
    let z : wrong_at zs ≡ 0 = none-followed zs f in
    let l : 0 + length zs ≡ n = omega (arith, length-append xs (0x7D ∷ [])) in
    ap wrong_at (e ∙ cut xs ys b) ∙ wrong-append zs (b ∷ ys) 0 0 (λ k. no_zero k)
    ∙ ap (λ (t : Bool). pick t (wrong_from (last 0 zs) (0 + length zs) (b ∷ ys)) (wrong_at zs)) (eq-eqb _ _ z)
    ∙ wrong-here (last 0 zs) (0 + length zs) b ys (last_end 0 xs) (is-wrong b p q) ∙ l

-- ---- the last raw byte decides first
abbrev pub Scanned : Escapes → List ℕ → Type 0
Scanned Right raw = (last 0 raw ≢ 0x7D) × (Followed raw → ⊥)
Scanned Unfinished raw = last 0 raw ≡ 0x7D
Scanned (Wrong n) raw = (last 0 raw ≢ 0x7D) × BrokenAt raw n

pub scan-says : (raw : List ℕ) → Scanned (scan raw) raw
unfolding scan
scan-says raw = go (eqb (last 0 raw) 0x7D) (eqb (wrong_at raw) 0) refl refl
  where
    go : (t u : Bool) → eqb (last 0 raw) 0x7D ≡ t → eqb (wrong_at raw) 0 ≡ u → Scanned (pick t Unfinished (pick u Right (Wrong (wrong_at raw)))) raw
    go true u e k = eqb-true _ _ e
    go false true e k = (eqb-false _ _ e, λ f. followed-found raw f (eqb-true _ _ k))
    go false false e k = (eqb-false _ _ e, broken-there raw (eqb-false _ _ k))

scan-wrong : (raw : List ℕ) (n : ℕ) → last 0 raw ≢ 0x7D → BrokenAt raw n → scan raw ≡ Wrong n
unfolding scan
scan-wrong raw n h w =
    simp (ne_eqb _ _ h, ne_eqb _ _ (followed-found raw (broken-followed w))) (ap Wrong (broken-is raw n w))

-- ---- a frame
abbrev IsBroken : Told → Type 0
IsBroken (packet p) = ⊥
IsBroken (refusal n) = ⊥
IsBroken (broken n) = Unit {0}

is-broken : {t : Told} {n : ℕ} → t ≡ broken n → IsBroken t
is-broken e = subst IsBroken (sym e) tt

-- m raw bytes in the receive buffer
pub closed-broken : (recv : List ℕ) (m n : ℕ)
    → (closed recv m).told ≡ broken n ↔ (m ≤ raw_limit) × (last 0 (take m recv) ≢ 0x7D) × BrokenAt (take m recv) n
unfolding closed_by
closed-broken recv m n = (there, back)
  where
    raw : List ℕ
    raw = take m recv

    told-by : m ≤ raw_limit → (e : Escapes) → scan raw ≡ e → (closed recv m).told ≡ (closed_by e raw recv).told
    told-by h e s = ap (λ (c : Closed). c.told) (closed-as recv m h e s)

    by : (e : Escapes) → Scanned e raw → (closed_by e raw recv).told ≡ broken n → (last 0 raw ≢ 0x7D) × BrokenAt raw n
    by Right s e = absurd (contents-broken _ n e)
    by Unfinished s e = absurd (is-broken e)
    by (Wrong k) s e = let z : k ≡ n = cc in (s.0, subst (BrokenAt raw) z s.1)

    there : (closed recv m).told ≡ broken n → (m ≤ raw_limit) × (last 0 raw ≢ 0x7D) × BrokenAt raw n
    there e =
        by_le m raw_limit (λ h. let w = by (scan raw) (scan-says raw) (sym (told-by h (scan raw) refl) ∙ e) in (h, w.0, w.1))
        (λ h. absurd (is-broken (sym (ap (λ (c : Closed). c.told) (closed-over recv m h)) ∙ e)))

    back : (m ≤ raw_limit) × (last 0 raw ≢ 0x7D) × BrokenAt raw n → (closed recv m).told ≡ broken n
    back w = told-by w.0 (Wrong n) (scan-wrong raw n w.1 w.2)

-- raw bytes alone
pub judge-broken : (raw : List ℕ) (n : ℕ) → judge raw ≡ broken n ↔ (length raw ≤ raw_limit) × (last 0 raw ≢ 0x7D) × BrokenAt raw n
unfolding judge
judge-broken raw n =
    subst (λ (l : List ℕ). (closed raw (length raw)).told ≡ broken n ↔ (length raw ≤ raw_limit) × (last 0 l ≢ 0x7D) × BrokenAt l n)
    (take_all (length raw) raw (omega arith)) (closed-broken raw (length raw) n)
