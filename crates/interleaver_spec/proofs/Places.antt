-- The place map, apart from the order in which cells are written and read.
-- row_below, cell_below, origin-below   places stay within the matrix
-- cell-origin, origin-cell   outputs and cells are one-to-one: each map undoes the other
-- cell-one                   so no two outputs have one cell
-- cell-again, cell-mod       their period: the equations of t and of t mod N name one cell
-- last_written               the byte that the cell of output t holds: of this pass or the one before
-- read_at                    the output that byte t goes out with: not before it, and fewer than N behind it
use mathlib.Core.Path.{◌≡◌, refl, sym, ap, ap₂, ◌∙◌}
use Prim.Native.Nat.{ℕ, zero, suc, ◌+◌, ◌*◌, ◌-◌, ◌/◌, ◌%◌, ◌≤◌, ◌<◌}
use native.Mathlib.Nat.{mod-lt, mod-eq_of_lt, mod-add-mod, add-mod-mod, add-mod_right, mod-add-div'}
use native.Mathlib.Nat.{add-mul-mod_self_right, mul-add, mul_assoc, mul_comm, mul-one, zero-mul, suc-mul}
use native.Mathlib.Omega.{arith}
use Rattle.interleaver_spec.specs.Places.{width, row, column, cell, within, origin}
use Rattle.interleaver_spec.specs.Running.{size}

-- ---- 53 and 77 undo each other modulo 255
both_ways : 53 * 77 % width ≡ 1
both_ways = refl

mul-mod : (a b m : ℕ) → a * (b % m) % m ≡ a * b % m
mul-mod a b m =
    sym
    (ap (λ (x : ℕ). a * x % m) (sym (mod-add-div' b m)) ∙ ap (λ (x : ℕ). x % m)
    (mul-add a (b % m) (b / m * m) ∙ ap (λ (x : ℕ). a * (b % m) + x) (sym (mul_assoc a (b / m) m)))
    ∙ add-mul-mod_self_right (a * (b % m)) (a * (b / m)) m)

undo : (a b c m : ℕ) → a * b % m ≡ 1 → c < m → a * (b * c % m) % m ≡ c
undo a b c m e h =
    mul-mod a (b * c) m ∙ ap (λ (x : ℕ). x % m) (sym (mul_assoc a b c) ∙ mul_comm (a * b) c) ∙ sym (mul-mod c (a * b) m)
    ∙ ap (λ (x : ℕ). c * x % m) e ∙ ap (λ (x : ℕ). x % m) (mul-one c) ∙ mod-eq_of_lt h

there_back : (c : ℕ) → c < width → 53 * (77 * c % width) % width ≡ c
there_back c h = undo 53 77 c width both_ways h

back-there : (c : ℕ) → c < width → 77 * (53 * c % width) % width ≡ c
back-there c h = undo 77 53 c width (ap (λ (x : ℕ). x % width) (mul_comm 77 53) ∙ both_ways) h

-- ---- within the matrix
pub row_below : (d i : ℕ) → 0 < d → row d i < d
row_below d i h = mod-lt _ h

pub cell_below : (d i : ℕ) → 0 < d → cell d i < d * width
cell_below d i h = omega (arith, row_below d i h)

pub origin-below : (d k : ℕ) → 0 < d → origin d k < d * width
origin-below d k h = omega (arith, mod-lt (k / width + (d - within k % d)) h)

-- ---- one-to-one: turning by r and turning back, modulo d
turn_on : (d x r : ℕ) → x < d → ((x + (d - r % d)) % d + r) % d ≡ x
turn_on d x r h =
    let l : r % d < d = mod-lt r (omega arith) in
    let e : x + (d - r % d) + r % d ≡ x + d = omega arith in
    mod-add-mod (x + (d - r % d)) d r ∙ sym (add-mod-mod (x + (d - r % d)) r d) ∙ ap (λ (n : ℕ). n % d) e ∙ add-mod_right x d ∙ mod-eq_of_lt h

turn-back : (d q r : ℕ) → q < d → ((q + r) % d + (d - r % d)) % d ≡ q
turn-back d q r h =
    let l : r % d < d = mod-lt r (omega arith) in
    let e : q + r + (d - r % d) ≡ q + (d - r % d) + r = omega arith in
    let f : q + (d - r % d) + r % d ≡ q + d = omega arith in
    mod-add-mod (q + r) d (d - r % d) ∙ ap (λ (n : ℕ). n % d) e ∙ sym (add-mod-mod (q + (d - r % d)) r d) ∙ ap (λ (n : ℕ). n % d) f ∙ add-mod_right q d
    ∙ mod-eq_of_lt h

-- i - 254 INT(i/255) is INT(i/255) + i mod 255
row-sum : (i : ℕ) → i - 254 * (i / width) ≡ i / width + i % width
row-sum i = omega arith

-- a cell by its row and column
row_of : (x c : ℕ) → c < width → (x * width + c) / width ≡ x
row_of x c h = omega arith

column-of : (x c : ℕ) → c < width → (x * width + c) % width ≡ c
column-of x c h = omega arith

-- a column goes by i mod 255
column-mod : (i : ℕ) → column i ≡ column (i % width)
column-mod i = sym (mul-mod 53 i width)

pub cell-origin : (d k : ℕ) → k < d * width → cell d (origin d k) ≡ k
cell-origin d k h =
    let r = within k in
    let q = (k / width + (d - r % d)) % d in
    let low : r < width = omega arith in
    let is_row : origin d k - 254 * (origin d k / width) ≡ q + r = row-sum (origin d k) ∙ ap₂ (λ (x y : ℕ). x + y) (row_of q r low) (column-of q r low) in
    let is-column : column (origin d k) ≡ k % width = column-mod (origin d k) ∙ ap column (column-of q r low) ∙ there_back (k % width) (omega arith) in
    let above : k / width < d = omega arith in
    ap₂ (λ (x y : ℕ). x % d * width + y) is_row is-column ∙ ap (λ (x : ℕ). x * width + k % width) (turn_on d (k / width) r above) ∙ omega arith

pub origin-cell : (d i : ℕ) → i < d * width → origin d (cell d i) ≡ i
origin-cell d i h =
    let q = i / width in
    let r = i % width in
    let low : column i < width = omega arith in
    let is_row : cell d i / width ≡ (q + r) % d = row_of (row d i) (column i) low ∙ ap (λ (x : ℕ). x % d) (row-sum i) in
    let is_within : within (cell d i) ≡ r = ap (λ (x : ℕ). 77 * x % width) (column-of (row d i) (column i) low ∙ column-mod i) ∙ back-there r (omega arith) in
    let above : q < d = omega arith in
    ap₂ (λ (x y : ℕ). (x + (d - y % d)) % d * width + y) is_row is_within ∙ ap (λ (x : ℕ). x * width + r) (turn-back d q r above) ∙ omega arith

pub cell-one : (d i j : ℕ) → i < d * width → j < d * width → cell d i ≡ cell d j → i ≡ j
cell-one d i j h k e = sym (origin-cell d i h) ∙ ap (origin d) e ∙ origin-cell d j k

-- ---- the period
pub cell-again : (d i : ℕ) → cell d (i + size d) ≡ cell d i
cell-again d i =
    let e : i + size d - 254 * ((i + size d) / width) ≡ i - 254 * (i / width) + d = omega arith in
    let c : column (i + size d) ≡ column i = omega arith in
    ap₂ (λ (x y : ℕ). x % d * width + y) e c ∙ ap (λ (x : ℕ). x * width + column i) (add-mod_right (i - 254 * (i / width)) d)

passes : (d i k : ℕ) → cell d (i + k * size d) ≡ cell d i
passes d i zero = ap (cell d) (ap (λ (x : ℕ). i + x) (zero-mul (size d)) ∙ (let z : i + 0 ≡ i = omega arith in z))
passes d i (suc k) =
    ap (cell d) (ap (λ (x : ℕ). i + x) (suc-mul k (size d)) ∙ (let z : i + (k * size d + size d) ≡ i + k * size d + size d = omega arith in z))
    ∙ cell-again d (i + k * size d) ∙ passes d i k

pub cell-mod : (d t : ℕ) → cell d t ≡ cell d (t % size d)
cell-mod d t = ap (cell d) (sym (mod-add-div' t (size d))) ∙ passes d (t % size d) (t / size d)

module _ (d t : ℕ) (deep : 0 < d) where
  pub last_written : cell d t ≤ t → (u : ℕ) × (u ≤ t) × (t < u + size d) × (u % size d ≡ cell d t)
  last_written h =
      let c : ℕ = cell d t in
      let k : ℕ = (t - c) / size d * size d in
      let r : ℕ = (t - c) % size d in
      let e : r + k ≡ t - c = mod-add-div' (t - c) (size d) in
      let b : c < size d = omega (arith, cell_below d t deep) in
      let l : r < size d = mod-lt (t - c) (omega arith) in
      (c + k, omega arith, omega arith, add-mul-mod_self_right c ((t - c) / size d) (size d) ∙ mod-eq_of_lt b)

  pub read_at : (v : ℕ) × (t ≤ v) × (v < t + size d) × (cell d v ≡ t % size d)
  read_at =
      let q : ℕ = t % size d in
      let o : ℕ = origin d q in
      let b : q < size d = mod-lt t (omega arith) in
      let l : o < size d = omega (arith, origin-below d q deep) in
      let n : ℕ = (o + (size d - q)) % size d in
      let z : n < size d = mod-lt (o + (size d - q)) (omega arith) in
      let e : (t + n) % size d ≡ o =
      add-mod-mod t (o + (size d - q)) (size d) ∙ sym (mod-add-mod t (size d) (o + (size d - q)))
      ∙ ap (λ (x : ℕ). x % size d) (let y : q + (o + (size d - q)) ≡ o + size d = omega arith in y) ∙ add-mod_right o (size d) ∙ mod-eq_of_lt l in
      (t + n, omega arith, omega arith, cell-mod d (t + n) ∙ ap (cell d) e ∙ cell-origin d q (omega arith))
