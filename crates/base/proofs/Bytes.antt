-- Laws of `Each`, and so of lists of bytes.
-- each_append, each-append-left, each-append-right   in lists joined, and in either of them
-- each_take, each-drop                               in lists cut
-- each-replicate                                     in a member repeated
-- bytes_of                                           a list of bytes, by its members
use mathlib.Core.Path.{sym, subst}
use mathlib.Core.List.{List, [], ◌∷◌, ◌++◌}
use Prim.Native.Nat.{ℕ, zero, suc, ◌<◌}
use lib.ListN.{take, drop, get_or, replicate, take-append-drop}
use Rattle.base.specs.Bytes.{Each, Bytes}

pub each_append : {A : Type 0} (Q : A → Type 0) (xs ys : List A) → Each Q xs → Each Q ys → Each Q (xs ++ ys)
each_append Q [] ys h k = k
each_append Q (x ∷ xs) ys h k = (h.0, each_append Q xs ys h.1 k)

pub each-append-left : {A : Type 0} (Q : A → Type 0) (xs ys : List A) → Each Q (xs ++ ys) → Each Q xs
each-append-left Q [] ys h = tt
each-append-left Q (x ∷ xs) ys h = (h.0, each-append-left Q xs ys h.1)

pub each-append-right : {A : Type 0} (Q : A → Type 0) (xs ys : List A) → Each Q (xs ++ ys) → Each Q ys
each-append-right Q [] ys h = h
each-append-right Q (x ∷ xs) ys h = each-append-right Q xs ys h.1

pub each_take : {A : Type 0} (Q : A → Type 0) (n : ℕ) (xs : List A) → Each Q xs → Each Q (take n xs)
each_take Q n xs h = each-append-left Q (take n xs) (drop n xs) (subst (Each Q) (sym (take-append-drop n xs)) h)

pub each-drop : {A : Type 0} (Q : A → Type 0) (n : ℕ) (xs : List A) → Each Q xs → Each Q (drop n xs)
each-drop Q n xs h = each-append-right Q (take n xs) (drop n xs) (subst (Each Q) (sym (take-append-drop n xs)) h)

pub each-replicate : {A : Type 0} (Q : A → Type 0) (n : ℕ) (a : A) → Q a → Each Q (replicate n a)
each-replicate Q zero a h = tt
each-replicate Q (suc n) a h = (h, each-replicate Q n a h)

-- the members of a slice of bytes are bytes
pub bytes_of : (xs : List ℕ) → ((i : ℕ) → get_or xs i 0 < 256) → Bytes xs
bytes_of [] h = tt
bytes_of (x ∷ xs) h = (h 0, bytes_of xs (λ i. h (suc i)))
