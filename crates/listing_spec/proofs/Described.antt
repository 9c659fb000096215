-- A recording may end where it is as described, and nowhere else; and what is printed of one that is not.
-- described        both ways
-- e-or-x           `E` is printed of the one, `X` of the other
-- wrong_first      no first byte of the two
-- cut_short        a record cut short
-- wrong-mark, wrong_second    another byte where a mark's should stand
-- limit-passed     more stream bytes than the limit leaves
use Prim.Native.Nat.{ℕ, zero, suc, ◌+◌, ◌-◌, ◌*◌, ◌/◌, ◌%◌, ◌≤◌, ◌<◌}
use native.Mathlib.Omega.{arith}
use native.Mathlib.Nat.{add-zero}
use mathlib.Core.Path.{◌≡◌, refl, sym, ◌∙◌, ap, subst}
use mathlib.Core.Bool.{Bool, true, false, false≢true}
use mathlib.Core.Logic.{◌↔◌, ◌≢◌}
use mathlib.Core.List.{List, [], ◌∷◌, ◌++◌, append_assoc, append-nil}
use lib.Dec.{eqb, ltb}
use lib.ListN.{length, take, length-append}
use lib.Seq.{length-take-le}
use borrow.Author.Tests.{eqb-true, eqb-false, ltb-true, ne_eqb, le-ltb}
use Rattle.base.specs.Bytes.{Each, Bytes}
use Rattle.base.specs.Calls.{joined}
use Rattle.base.specs.Choice.{pick}
use Rattle.base.proofs.Tests.{by-test}
use Rattle.channel_spec.specs.Meaning.{Event}
use Rattle.listing_spec.specs.declared.Place.{Place}
use Rattle.listing_spec.specs.declared.Place.TheVariants.{Mode, Mark, Second, Low, High, Inside, Wrong}
use Rattle.listing_spec.specs.declared.Spot.{Spot}
use Rattle.listing_spec.specs.Apart.{most, fresh_spot, on, wrong, left, through, next_at, in_stream, keep, apart, well, on_channel, record_of, records}
use Rattle.listing_spec.specs.Described.{first_byte, Described}
use Rattle.listing_spec.specs.Lines.{lines, wrong_line}
use Rattle.listing_spec.specs.Meaning.{heard, total_line, last_line, listed, listing}
use Rattle.listing_spec.proofs.Apart.{at, before, one_in, record_apart, none_apart, records-apart, records-channel}
use Rattle.listing_spec.proofs.Offsets.{ended, ended_is, stays}

-- ---- from a recording that may end to its records
abbrev Short : List (List ℕ) → Type 0
Short ps = Each (λ p. length p < 65536) ps

-- whole records, behind c stream bytes
record Whole (c : ℕ) (bs : List ℕ) : Type 0 where
  pieces : List (List ℕ)
  are : bs ≡ records pieces
  short : Short pieces
  within : c + length (joined pieces) ≤ most

-- the rest of a record with the bytes p, and whole records
record Rest (c : ℕ) (Is : List ℕ → List ℕ → Type 0) : Type 0 where
  piece : List ℕ
  pieces : List (List ℕ)
  are : Is piece (piece ++ records pieces)
  fits : length piece < 65536
  short : Short pieces
  within : c + length (joined (piece ∷ pieces)) ≤ most

-- what stands behind a place in a recording that may end
abbrev Tail : Place → ℕ → List ℕ → Type 0
Tail Mode c bs = Unit {0}
Tail Mark c bs = Whole c bs
Tail Second c bs = Rest c λ p r. bs ≡ 0x5F ∷ length p % 256 ∷ length p / 256 ∷ r
Tail Low c bs = Rest c λ p r. bs ≡ length p % 256 ∷ length p / 256 ∷ r
Tail (High l) c bs = Rest c λ p r. (l ≡ length p % 256) × (bs ≡ length p / 256 ∷ r)
Tail (Inside k) c bs = Rest c λ p r. (length p ≡ suc k) × (bs ≡ r)
Tail Wrong c bs = ⊥

-- a place's number is one of a byte, or of two
abbrev Fits : Place → Type 0
Fits Mode = Unit {0}
Fits Mark = Unit {0}
Fits Second = Unit {0}
Fits Low = Unit {0}
Fits (High l) = l < 256
Fits (Inside k) = suc k < 65536
Fits Wrong = Unit {0}

-- it may end there
abbrev Ends : Spot → List ℕ → Type 0
Ends p bs = well (ended p bs).place ≡ true

-- behind a wrong byte it may not
never : (p : Spot) (bs : List ℕ) → Ends (wrong p) bs → ⊥
never p bs e = false≢true (sym (ap (λ (q : Spot). well q.place) (stays bs (wrong p) refl)) ∙ e)

-- n stream bytes are left: none, or one and more
left-tail : (n o c : ℕ) (bs : List ℕ) → n < 65536
    → ((q : Place) → Fits q → Ends (at q o c) bs → Tail q c bs) → Ends (at (left n) o c) bs → Rest c λ p r. (length p ≡ n) × (bs ≡ r)
left-tail n o c bs h f = go (eqb n 0) refl
  where
    go : (t : Bool) → eqb n 0 ≡ t → Ends (at (pick t Mark (Inside (n - 1))) o c) bs → Rest c λ p r. (length p ≡ n) × (bs ≡ r)
    go true e x =
        let w : Whole c bs = f Mark tt x in
        let z : 0 ≡ n = sym (eqb-true n 0 e) in
        record { piece = []; pieces = w.pieces; are = (z, w.are); fits = omega arith; short = w.short; within = w.within }
    go false e x =
        let z : n ≡ 0 → ⊥ = eqb-false n 0 e in
        let l : suc (n - 1) ≡ n = omega arith in
        let w = f (Inside (n - 1)) (omega arith) x in
        record { piece = w.piece; pieces = w.pieces; are = (w.are.0 ∙ l, w.are.1); fits = w.fits; short = w.short; within = w.within }

-- from each place on, at the end ..
none_tail : (q : Place) (o c : ℕ) → c ≤ most → Ends (at q o c) [] → Tail q c []
none_tail Mode o c l e = tt
none_tail Mark o c l e = record { pieces = []; are = refl; short = tt; within = omega arith }
none_tail Second o c l e = absurd (false≢true e)
none_tail Low o c l e = absurd (false≢true e)
none_tail (High m) o c l e = absurd (false≢true e)
none_tail (Inside k) o c l e = absurd (false≢true e)
none_tail Wrong o c l e = absurd (false≢true e)

-- .. and before a byte
module _ (b : ℕ) (bs : List ℕ) (o c : ℕ) (byte : b < 256)
    (next-tail : (q : Place) (n : ℕ) → n ≤ most → Fits q → Ends (at q (o + 1) n) bs → Tail q n bs) where
  mark-tail : c ≤ most → (t : Bool) → eqb b 0xF5 ≡ t → Ends (pick t (on Second (at Mark o c)) (wrong (at Mark o c))) bs → Whole c (b ∷ bs)
  mark-tail l true e x =
      let w = next-tail Second c l tt x in
      record { pieces = w.piece ∷ w.pieces; are = λ i. eqb-true b 0xF5 e i ∷ w.are i; short = (w.fits, w.short); within = w.within }
  mark-tail l false e x = absurd (never (at Mark o c) bs x)

  second-tail : c ≤ most → (t : Bool) → eqb b 0x5F ≡ t → Ends (pick t (on Low (at Second o c)) (wrong (at Second o c))) bs → Tail Second c (b ∷ bs)
  second-tail l true e x =
      let w = next-tail Low c l tt x in
      record {
        piece = w.piece;
        pieces = w.pieces;
        are = λ i. eqb-true b 0x5F e i ∷ w.are i;
        fits = w.fits;
        short = w.short;
        within = w.within;
      }
  second-tail l false e x = absurd (never (at Second o c) bs x)

  inside-tail : (k : ℕ) → suc k < 65536 → (t : Bool) → ltb c most ≡ t → Ends (pick t (through k (at (Inside k) o c)) (wrong (at (Inside k) o c))) bs
      → Tail (Inside k) c (b ∷ bs)
  inside-tail k f true e x =
      let h : c < most = ltb-true c most e in
      let w = left-tail k (o + 1) (c + 1) bs (omega arith) (λ q g. next-tail q (c + 1) (omega arith) g) x in
      let n : length w.piece ≡ k = w.are.0 in
      record {
        piece = b ∷ w.piece;
        pieces = w.pieces;
        are = (ap suc n, ap (λ (r : List ℕ). b ∷ r) w.are.1);
        fits = omega arith;
        short = w.short;
        within = omega (arith, w.within);
      }
  inside-tail k f false e x = absurd (never (at (Inside k) o c) bs x)

  one-tail : (q : Place) → c ≤ most → Fits q → Ends (at q o c) (b ∷ bs) → Tail q c (b ∷ bs)
  unfolding next_at
  one-tail Mode l f e = tt
  one-tail Mark l f e = mark-tail l (eqb b 0xF5) refl e
  one-tail Second l f e = second-tail l (eqb b 0x5F) refl e
  one-tail Low l f e =
      let w = next-tail (High b) c l byte e in
      record {
        piece = w.piece;
        pieces = w.pieces;
        are = λ i. w.are.0 i ∷ w.are.1 i;
        fits = w.fits;
        short = w.short;
        within = w.within;
      }
  one-tail (High m) l f e =
      let w = left-tail (m + 256 * b) (o + 1) c bs (omega arith) (λ q g. next-tail q c l g) e in
      let n : length w.piece ≡ m + 256 * b = w.are.0 in
      let y : b ≡ length w.piece / 256 = omega arith in
      record {
        piece = w.piece;
        pieces = w.pieces;
        are = (omega arith, λ i. y i ∷ w.are.1 i);
        fits = w.fits;
        short = w.short;
        within = w.within;
      }
  one-tail (Inside k) l f e = inside-tail k f (ltb c most) refl e
  one-tail Wrong l f e = absurd (never (at Wrong o c) (b ∷ bs) e)

tail : (bs : List ℕ) (q : Place) (o c : ℕ) → c ≤ most → Fits q → Bytes bs → Ends (at q o c) bs → Tail q c bs
tail [] q o c l f B e = none_tail q o c l e
tail (b ∷ bs) q o c l f B e = one-tail b bs o c B.0 (λ r n m g. tail bs r (o + 1) n m g B.1) q l f e

-- ---- a first byte, then the rest
kind-apart : (t : Bool) (bs : List ℕ) → apart fresh_spot (first_byte t ∷ bs) ≡ apart (at Mark (0 + 1) 0) bs
unfolding apart in_stream next_at
kind-apart true bs = refl
kind-apart false bs = refl

kind-channel : (t : Bool) (bs : List ℕ) → on_channel (first_byte t ∷ bs) ≡ t
kind-channel true bs = refl
kind-channel false bs = refl

-- a recording may end there exactly where it is as described
pub described : (file : List ℕ) → Bytes file → well (apart fresh_spot file).1.place ≡ true ↔ Described file
unfolding next_at
described file B = (λ e. from file B (sym (ap (λ (p : Spot). well p.place) (ended_is file fresh_spot)) ∙ e), back)
  where
    from : (f : List ℕ) → Bytes f → Ends fresh_spot f → Described f
    from [] B e = absurd (false≢true e)
    from (b ∷ bs) B e = go (eqb b 0x50) refl (eqb b 0x4F) refl e
      where
        made : (t : Bool) → b ≡ first_byte t → Ends (at Mark (0 + 1) 0) bs → Described (b ∷ bs)
        made t z e =
            let w : Whole 0 bs = tail bs Mark (0 + 1) 0 (omega arith) tt B.1 e in
            let h : length (joined w.pieces) ≤ most = omega (arith, w.within) in
            record { channel = t; pieces = w.pieces; whole = λ i. z i ∷ w.are i; short = w.short; within = h }

        go : (t : Bool) → eqb b 0x50 ≡ t → (u : Bool) → eqb b 0x4F ≡ u
            → Ends (pick t (on Mark fresh_spot) (pick u (on Mark fresh_spot) (wrong fresh_spot))) bs → Described (b ∷ bs)
        go true y u z e = made false (eqb-true b 0x50 y) e
        go false y true z e = made true (eqb-true b 0x4F z) e
        go false y false z e = absurd (never fresh_spot bs e)

    place : (t : Bool) (ps : List (List ℕ)) → length (joined ps) ≤ most → well (apart fresh_spot (first_byte t ∷ records ps)).1.place ≡ true
    place true ps h = ap (λ (r : List ℕ × Spot). well r.1.place) (records-channel ps ∙ records-apart ps h)
    place false ps h = ap (λ (r : List ℕ × Spot). well r.1.place) (records-apart ps h)

    back : Described file → well (apart fresh_spot file).1.place ≡ true
    back d = ap (λ (f : List ℕ). well (apart fresh_spot f).1.place) d.whole ∙ place d.channel d.pieces d.within

-- .. so `E` is printed of it then, and `X` else
pub e-or-x : (file : List ℕ) → Bytes file
    → let r = apart fresh_spot file in
    let es = heard (on_channel file) r.0 in
    (Described file → listing file ≡ lines es ++ total_line (length r.0) es) × ((Described file → ⊥) → listing file ≡ lines es ++ wrong_line r.1.offset)
unfolding listing listed last_line
e-or-x file B =
    let r = apart fresh_spot file in
    let es = heard (on_channel file) r.0 in
    let d = described file B in
    let f : Bool → List ℕ = λ t. lines es ++ pick t (total_line (length r.0) es) (wrong_line r.1.offset) in
    (λ x. ap f (d.1 x), λ x. by-test (well r.1.place) (λ e. absurd (x (d.0 e))) (λ e. ap f e))

-- ---- what is not as described
-- the stream bytes are these, and it does not end well, at this offset
record Stops (r : List ℕ × Spot) (bs : List ℕ) (o : ℕ) : Type 0 where
  bytes : r.0 ≡ bs
  ill : well r.1.place ≡ false
  offset : r.1.offset ≡ o

-- .. their lines are printed first, and then `X` with it
stops-listing : (file bs : List ℕ) (o : ℕ) → Stops (apart fresh_spot file) bs o → listing file ≡ lines (heard (on_channel file) bs) ++ wrong_line o
unfolding listing listed last_line
stops-listing file bs o s =
    let es : List ℕ → List Event = heard (on_channel file) in
    λ i. lines (es (s.bytes i)) ++ pick (s.ill i) (total_line (length (s.bytes i)) (es (s.bytes i))) (wrong_line (s.offset i))

-- .. of records and what stands behind them
module _ (t : Bool) (ps : List (List ℕ)) (ys : List ℕ) where
  -- one record after the other
  behind : (qs : List (List ℕ)) (o c : ℕ) → c + length (joined qs) ≤ most
      → apart (at Mark o c) (records qs ++ ys) ≡ before (joined qs) (apart (at Mark (o + length (records qs)) (c + length (joined qs))) ys)
  behind [] o c h = λ i. apart (at Mark (sym (add-zero o) i) (sym (add-zero c) i)) ys
  behind (q ∷ qs) o c h =
      let l = length-append q (joined qs) in
      let m = length-append (record_of q) (records qs) in
      let f : o + 1 + 1 + 1 + 1 + length q + length (records qs) ≡ o + length (record_of q ++ records qs) = omega (arith, m) in
      let g : c + length q + length (joined qs) ≡ c + length (q ++ joined qs) = omega (arith, l) in
      ap (apart (at Mark o c)) (append_assoc (record_of q) (records qs) ys)
      ∙ record_apart q (records qs ++ ys) o c (omega (arith, l))
      ∙ ap (before q) (behind qs (o + 1 + 1 + 1 + 1 + length q) (c + length q) (omega (arith, l)))
      ∙ (λ i. (sym (append_assoc q (joined qs) (apart (at Mark (f i) (g i)) ys).0) i, (apart (at Mark (f i) (g i)) ys).1))

  -- .. their lines come first
  after-records : (bs : List ℕ) (o : ℕ) → length (joined ps) ≤ most → Stops (apart (at Mark (suc (length (records ps))) (length (joined ps))) ys) bs o
      → listing (first_byte t ∷ (records ps ++ ys)) ≡ lines (heard t (joined ps ++ bs)) ++ wrong_line o
  after-records bs o h s =
      let x : 0 + 1 + length (records ps) ≡ suc (length (records ps)) = omega arith in
      let y : 0 + length (joined ps) ≡ length (joined ps) = omega arith in
      let e : apart fresh_spot (first_byte t ∷ (records ps ++ ys)) ≡ before (joined ps) (apart (at Mark (suc (length (records ps))) (length (joined ps))) ys) =
      kind-apart t (records ps ++ ys) ∙ behind ps (0 + 1) 0 (omega arith) ∙ (λ i. before (joined ps) (apart (at Mark (x i) (y i)) ys)) in
      let z : Stops (before (joined ps) (apart (at Mark (suc (length (records ps))) (length (joined ps))) ys)) (joined ps ++ bs) o =
      record { bytes = ap (λ (xs : List ℕ). joined ps ++ xs) s.bytes; ill = s.ill; offset = s.offset } in
      stops-listing (first_byte t ∷ (records ps ++ ys)) (joined ps ++ bs) o (subst (λ (r : List ℕ × Spot). Stops r (joined ps ++ bs) o) (sym e) z)
      ∙ ap (λ (u : Bool). lines (heard u (joined ps ++ bs)) ++ wrong_line o) (kind-channel t (records ps ++ ys))

  -- .. and alone, where no stream byte stands behind them
  after_none : (o : ℕ) → length (joined ps) ≤ most → Stops (apart (at Mark (suc (length (records ps))) (length (joined ps))) ys) [] o
      → listing (first_byte t ∷ (records ps ++ ys)) ≡ lines (heard t (joined ps)) ++ wrong_line o
  after_none o h s = after-records [] o h s ∙ ap (λ (xs : List ℕ). lines (heard t xs) ++ wrong_line o) (append-nil (joined ps))

-- a wrong byte
wrong-apart : (bs : List ℕ) (p : Spot) → apart (wrong p) bs ≡ ([], wrong p)
unfolding apart in_stream next_at
wrong-apart [] p = refl
wrong-apart (b ∷ bs) p = wrong-apart bs p

wrong-stops : (bs : List ℕ) (p : Spot) (o : ℕ) → p.offset ≡ o → Stops (apart (wrong p) bs) [] o
wrong-stops bs p o e =
    subst (λ (r : List ℕ × Spot). Stops r [] o) (sym (wrong-apart bs p)) (record { bytes = refl; ill = refl; offset = e })

-- .. where a mark should stand ..
mark-stops : (b o c : ℕ) (bs : List ℕ) → b ≢ 0xF5 → Stops (apart (at Mark o c) (b ∷ bs)) [] o
unfolding apart in_stream next_at
mark-stops b o c bs n = rw (ne_eqb b 0xF5 n) (wrong-stops bs (at Mark o c) o refl)

-- .. or its second byte
second-stops : (b o c m : ℕ) (bs : List ℕ) → b ≢ 0x5F → o + 1 ≡ m → Stops (apart (at Mark o c) (0xF5 ∷ b ∷ bs)) [] m
unfolding apart in_stream next_at
second-stops b o c m bs n e = rw (ne_eqb b 0x5F n) (wrong-stops bs (at Second (o + 1) c) m e)

-- a mark and a length
header-apart : (low high o c : ℕ) (ys : List ℕ)
    → apart (at Mark o c) (0xF5 ∷ 0x5F ∷ low ∷ high ∷ ys) ≡ apart (at (left (low + 256 * high)) (o + 1 + 1 + 1 + 1) c) ys
unfolding apart in_stream next_at
header-apart low high o c ys = refl

left-more : (n k : ℕ) → n ≡ suc k → left n ≡ Inside k
left-more n k e =
    let z : n - 1 ≡ k = omega arith in
    λ i. pick (ne_eqb n 0 (λ x. omega arith) i) Mark (Inside (z i))

-- stream bytes of a record that announces more
body-in : (xs : List ℕ) (n k o c : ℕ) (ys : List ℕ) → n ≡ length xs + suc k → c + length xs ≤ most
    → apart (at (left n) o c) (xs ++ ys) ≡ before xs (apart (at (Inside k) (o + length xs) (c + length xs)) ys)
body-in [] n k o c ys e h =
    let z : n ≡ suc k = omega arith in
    λ i. apart (at (left-more n k z i) (sym (add-zero o) i) (sym (add-zero c) i)) ys
body-in (b ∷ xs) n k o c ys e h =
    let z : n ≡ suc (length xs + suc k) = omega arith in
    let f : o + 1 + length xs ≡ o + suc (length xs) = omega arith in
    let g : c + 1 + length xs ≡ c + suc (length xs) = omega arith in
    (λ i. apart (at (left-more n (length xs + suc k) z i) o c) (b ∷ (xs ++ ys)))
    ∙ one_in (length xs + suc k) o c b (xs ++ ys) (omega arith)
    ∙ ap (before (b ∷ [])) (body-in xs (length xs + suc k) k (o + 1) (c + 1) ys refl (omega arith))
    ∙ (λ i. before (b ∷ xs) (apart (at (Inside k) (f i) (g i)) ys))

-- .. and end there
body-stops : (xs : List ℕ) (n o c m : ℕ) → length xs < n → c + length xs ≤ most → o + length xs ≡ m → Stops (apart (at (left n) o c) xs) xs m
body-stops xs n o c m l h e =
    let k : ℕ = n - length xs - 1 in
    let z : n ≡ length xs + suc k = omega arith in
    let a : apart (at (left n) o c) xs ≡ (xs, at (Inside k) (o + length xs) (c + length xs)) =
    ap (apart (at (left n) o c)) (sym (append-nil xs)) ∙ body-in xs n k o c [] z h ∙ ap (before xs) (none_apart (at (Inside k) (o + length xs) (c + length xs)))
    ∙ (λ i. (append-nil xs i, at (Inside k) (o + length xs) (c + length xs))) in
    subst (λ (r : List ℕ × Spot). Stops r xs m) (sym a) (record { bytes = refl; ill = refl; offset = e })

-- .. or pass the limit
limit-stops : (xs : List ℕ) (n o c b m : ℕ) (bs : List ℕ) → length xs < n → c + length xs ≡ most → o + length xs ≡ m
    → Stops (apart (at (left n) o c) (xs ++ b ∷ bs)) xs m
unfolding apart in_stream next_at
limit-stops xs n o c b m bs l h e =
    let k : ℕ = n - length xs - 1 in
    let z : n ≡ length xs + suc k = omega arith in
    let p : Spot = at (Inside k) (o + length xs) (c + length xs) in
    let t : ltb (c + length xs) most ≡ false = le-ltb (c + length xs) most (omega arith) in
    let s = wrong-stops bs p m e in
    let a : apart p (b ∷ bs) ≡ apart (wrong p) bs = λ i. keep (t i) b (apart (pick (t i) (through k p) (wrong p)) bs) in
    subst (λ (r : List ℕ × Spot). Stops r xs m) (sym (body-in xs n k o c (b ∷ bs) z (omega arith) ∙ ap (before xs) a)) (record {
      bytes = ap (λ (ys : List ℕ). xs ++ ys) s.bytes ∙ append-nil xs;
      ill = s.ill;
      offset = s.offset;
    })

-- n bytes of a record
cut-stops : (p : List ℕ) (n o c : ℕ) → 0 < n → n < 4 + length p → c + (n - 4) ≤ most
    → Stops (apart (at Mark o c) (take n (record_of p))) (take (n - 4) p) (o + n)
unfolding apart in_stream next_at
cut-stops p zero o c h l m = absurd (omega arith)
cut-stops p (suc zero) o c h l m = record { bytes = refl; ill = refl; offset = refl }
cut-stops p (suc (suc zero)) o c h l m = record { bytes = refl; ill = refl; offset = omega arith }
cut-stops p (suc (suc (suc zero))) o c h l m = record { bytes = refl; ill = refl; offset = omega arith }
cut-stops p (suc (suc (suc (suc n)))) o c h l m =
    let x : suc (suc (suc (suc n))) - 4 ≡ n = omega arith in
    let y : length p % 256 + 256 * (length p / 256) ≡ length p = omega arith in
    let z : length (take n p) ≡ n = length-take-le n p (omega arith) in
    let s = body-stops (take n p) (length p) (o + 1 + 1 + 1 + 1) c (o + suc (suc (suc (suc n)))) (omega arith) (omega arith) (omega arith) in
    subst (λ (j : ℕ). Stops (apart (at Mark o c) (take (suc (suc (suc (suc n)))) (record_of p))) (take j p) (o + suc (suc (suc (suc n))))) (sym x)
    (subst (λ (j : ℕ). Stops (apart (at (left j) (o + 1 + 1 + 1 + 1) c) (take n p)) (take n p) (o + suc (suc (suc (suc n))))) (sym y) s)

-- ---- the laws
-- a first byte that is none of the two: its offset is 0, and nothing stands before it
pub wrong_first : (b : ℕ) (rest : List ℕ) → b ≢ 0x50 → b ≢ 0x4F → listing (b ∷ rest) ≡ wrong_line 0
unfolding apart in_stream next_at heard lines
wrong_first b rest m n =
    stops-listing (b ∷ rest) [] 0 (rw (ne_eqb b 0x50 m, ne_eqb b 0x4F n) (wrong-stops rest fresh_spot 0 refl))
    ∙ ap (λ (u : Bool). lines (heard u []) ++ wrong_line 0) (ne_eqb b 0x4F n)

-- records, and n bytes of one more: its stream bytes are read too, and the offset is the input's length
pub cut_short : (t : Bool) (ps : List (List ℕ)) (p : List ℕ) (n : ℕ) → 0 < n → n < length (record_of p) → length (joined ps) + (n - 4) ≤ most
    → let file = first_byte t ∷ (records ps ++ take n (record_of p)) in
    listing file ≡ lines (heard t (joined ps ++ take (n - 4) p)) ++ wrong_line (length file)
cut_short t ps p n h l m =
    let a = length-append (records ps) (take n (record_of p)) in
    let b : length (take n (record_of p)) ≡ n = length-take-le n (record_of p) (omega arith) in
    let e : suc (length (records ps)) + n ≡ suc (length (records ps ++ take n (record_of p))) = omega arith in
    after-records t ps (take n (record_of p)) (take (n - 4) p) (suc (length (records ps)) + n) (omega arith)
    (cut-stops p n (suc (length (records ps))) (length (joined ps)) h (omega arith) m)
    ∙ ap (λ (o : ℕ). lines (heard t (joined ps ++ take (n - 4) p)) ++ wrong_line o) e

-- records, and a byte that is no mark's first ..
pub wrong-mark : (t : Bool) (ps : List (List ℕ)) (b : ℕ) (rest : List ℕ) → b ≢ 0xF5 → length (joined ps) ≤ most
    → listing (first_byte t ∷ (records ps ++ b ∷ rest)) ≡ lines (heard t (joined ps)) ++ wrong_line (length (first_byte t ∷ records ps))
wrong-mark t ps b rest n h =
    after_none t ps (b ∷ rest) (suc (length (records ps))) h (mark-stops b (suc (length (records ps))) (length (joined ps)) rest n)

-- .. or behind that no mark's second
pub wrong_second : (t : Bool) (ps : List (List ℕ)) (b : ℕ) (rest : List ℕ) → b ≢ 0x5F → length (joined ps) ≤ most
    → listing (first_byte t ∷ (records ps ++ 0xF5 ∷ b ∷ rest)) ≡ lines (heard t (joined ps)) ++ wrong_line (length (first_byte t ∷ records ps) + 1)
wrong_second t ps b rest n h =
    after_none t ps (0xF5 ∷ b ∷ rest) (suc (length (records ps)) + 1) h
    (second-stops b (suc (length (records ps))) (length (joined ps)) (suc (length (records ps)) + 1) rest n refl)

-- records, and stream bytes of one more up to the limit: the byte behind them is wrong, whatever it is
pub limit-passed : (t : Bool) (ps : List (List ℕ)) (low high : ℕ) (xs : List ℕ) (b : ℕ) (rest : List ℕ)
    → length xs < low + 256 * high → length (joined ps) + length xs ≡ most
    → listing (first_byte t ∷ (records ps ++ 0xF5 ∷ 0x5F ∷ low ∷ high ∷ (xs ++ b ∷ rest)))
    ≡ lines (heard t (joined ps ++ xs)) ++ wrong_line (length (first_byte t ∷ records ps) + 4 + length xs)
limit-passed t ps low high xs b rest l h =
    let o : ℕ = suc (length (records ps)) in
    let c : ℕ = length (joined ps) in
    after-records t ps (0xF5 ∷ 0x5F ∷ low ∷ high ∷ (xs ++ b ∷ rest)) xs (o + 4 + length xs) (omega arith)
    (subst (λ (r : List ℕ × Spot). Stops r xs (o + 4 + length xs)) (sym (header-apart low high o c (xs ++ b ∷ rest)))
    (limit-stops xs (low + 256 * high) (o + 1 + 1 + 1 + 1) c b (o + 4 + length xs) rest l h (omega arith)))
