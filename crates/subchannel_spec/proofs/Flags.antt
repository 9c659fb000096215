-- A word of flags is 255 flags, whatever the parity: so it does not matter how "words of flags" are read.
-- same_sum     n times the same coefficient, at a
-- flags-zero   255 times the same coefficient is zero at every power of alpha but 1
-- flag_word_lem    a word of flags
use Prim.Native.Nat.{ℕ, zero, suc, ◌+◌, ◌-◌, ◌*◌, ◌≤◌, ◌<◌}
use native.Mathlib.Nat.{pos_of_ne-zero}
use native.Mathlib.Omega.{arith}
use mathlib.Core.Path.{◌≡◌, refl, sym, ◌∙◌, ap}
use mathlib.Core.List.{◌++◌}
use lib.ListN.{replicate, length-replicate, replicate-append-replicate}
use lib.Dec.{lit<}
use Rattle.base.specs.Bytes.{IsByte}
use Rattle.base.proofs.Bytes.{each-replicate}
use Rattle.field.specs.Field.{alpha, add, mul, pow}
use Rattle.field.proofs.Sum.{add-self, add-eq, add-byte}
use Rattle.field.proofs.Product.{ring, mul-zero, one-mul, mul-lt}
use Rattle.field.proofs.Powers.{pow-zero, pow-suc, pow-lt, pow-mul, alpha-order, alpha-least, cancel}
use Rattle.packet_spec.specs.Escape.{flag}
use Rattle.word_spec.specs.Word.{eval, clean, remainder}
use Rattle.word_spec.proofs.Values.{eval-lt, eval-cons, eval-zeros}
use Rattle.word_spec.proofs.Clean.{roots-clean, clean_is}
use Rattle.parity.specs.Calls.{root_limit}
use Rattle.channel_spec.specs.Sender.{word_bytes}
use Rattle.subchannel_spec.specs.Sender.{message_bytes, flag_word}

-- one more: a p is the next power, u is 1
sum_step : (a c p u : ℕ) → add (add (mul a (mul c p)) (mul c p)) (mul c (add p u)) ≡ mul c (add (mul a p) u)
sum_step a c p u = simp ring

-- (a + 1) (c + c a + .. + c a^(n - 1)) is c (a^n + 1)
same_sum : (a c n : ℕ) → c < 256 → mul (add a 1) (eval (replicate n c) a) ≡ mul c (add (pow a n) 1)
same_sum a c zero h =
    ap (mul (add a 1)) (eval-zeros a 0) ∙ mul-zero (add a 1) ∙ sym (ap (λ x. mul c (add x 1)) (pow-zero a) ∙ ap (mul c) (add-self 1) ∙ mul-zero c)
same_sum a c (suc n) h =
    let p : ℕ = pow a n in
    let e : eval (replicate (suc n) c) a ≡ add (mul c p) (eval (replicate n c) a) =
    eval-cons a c (replicate n c) h ∙ ap (λ k. add (mul c (pow a k)) (eval (replicate n c) a)) (length-replicate n c) in
    ap (mul (add a 1)) e ∙ spread (mul c p) (eval (replicate n c) a) (mul-lt c p)
    ∙ ap (add (add (mul a (mul c p)) (mul c p))) (same_sum a c n h) ∙ sum_step a c p 1 ∙ sym (ap (λ x. mul c (add x 1)) (pow-suc a n))
  where
    spread : (x y : ℕ) → x < 256 → mul (add a 1) (add x y) ≡ add (add (mul a x) x) (mul (add a 1) y)
    spread x y k = parts x y 1 ∙ ap (λ z. add (add (mul a x) z) (mul (add a 1) y)) (one-mul x k)
      where
        parts : (x y u : ℕ) → mul (add a u) (add x y) ≡ add (add (mul a x) (mul u x)) (mul (add a u) y)
        parts x y u = simp ring

pow-one : (n : ℕ) → pow 1 n ≡ 1
pow-one zero = pow-zero 1
pow-one (suc n) = pow-suc 1 n ∙ ap (mul 1) (pow-one n) ∙ one-mul 1 (lit< tt)

-- the power 255 of each power of alpha
all-round : (j : ℕ) → pow (pow alpha j) 255 ≡ 1
all-round j =
    sym (pow-mul alpha 255 j) ∙ ap (pow alpha) (let z : 255 * j ≡ j * 255 = omega arith in z) ∙ pow-mul alpha j 255
    ∙ ap (λ a. pow a j) alpha-order ∙ pow-one j

flags-zero : (c j : ℕ) → c < 256 → 0 < j → j < 255 → eval (replicate 255 c) (pow alpha j) ≡ 0
flags-zero c j h i k =
    let a : ℕ = pow alpha j in
    cancel (add a 1) (eval (replicate 255 c) a)
    (pos_of_ne-zero (λ e. let z : j ≡ 0 = alpha-least j k (add-eq a 1 e) in omega arith)) (add-byte a 1 (pow-lt alpha j) (lit< tt))
    (eval-lt a (replicate 255 c) (each-replicate IsByte 255 c h))
    (same_sum a c 255 h ∙ ap (λ x. mul c (add x 1)) (all-round j) ∙ ap (mul c) (add-self 1) ∙ mul-zero c)

pub flag_word_lem : (r : ℕ) → r ≤ root_limit → flag_word r ≡ replicate word_bytes flag
flag_word_lem r h =
    let m = replicate (message_bytes r) flag in
    let whole : m ++ replicate r flag ≡ replicate word_bytes flag =
    replicate-append-replicate (message_bytes r) r flag ∙ ap (λ n. replicate n flag) (let z : message_bytes r + r ≡ word_bytes = omega arith in z) in
    let p : replicate r flag ≡ remainder r m =
    (clean_is r (omega arith) m (replicate r flag) (each-replicate IsByte (message_bytes r) flag (lit< tt)) (each-replicate IsByte r flag (lit< tt))
    (length-replicate r flag)).0
    (ap (clean r) whole ∙ roots-clean r (replicate word_bytes flag) (λ j i k. flags-zero flag j (lit< tt) i (omega arith))) in
    ap (λ x. m ++ x) (sym p) ∙ whole
