-- Reading by calls, of any reader. It has a state; at a state it may owe moves (`pend` of them), it makes one of them (`hand`), and
-- it takes one byte (`eat`).
-- joined                pieces one behind the other
-- run, all              what it makes of a whole byte string: its answers, and the state behind it
-- hear                  what one call makes of it: at most one answer, with the bytes taken and the state
-- tell, and_then, drain, rest                  of `run` and `all`: an answer before others; moves before the rest; the rest
-- unless, one_more, after, first, wait         of `hear`: an answer ends it; bytes counted; moves before the bytes; the bytes
-- told_by, told          a call's answer, and those of the bytes that it left
-- With                  a fact of an answer, where there is one, and the state
-- owes_none, hands_none   of a reader that never owes a move
-- Reads, ReadsAll       a piece handed in until "more wanted", and pieces one after the other
-- Yields                .. such calls come to their end (ends), and what all of them yield (always)
use Rattle.std.specs.Prelude.{ℕ, zero, suc, ◌+◌, ◌≡◌, List, [], ◌∷◌, ◌++◌, drop}
use Rattle.std.proofs.Math.Option.{Option, some, none}

-- the pieces of a cut string, put together again
abbrev pub joined {ℓ} : {A : Type ℓ} → List (List A) → List A
joined [] = []
joined (p ∷ ps) = p ++ joined ps

module _ {S A : Type 0} where
  -- an answer, if there is one, before the rest
  abbrev pub tell : Option A → List A × S → List A × S
  tell none r = r
  tell (some a) r = (a ∷ r.0, r.1)

  -- a run, and what follows from the state that it ends in
  abbrev pub and_then : List A × S → (S → List A × S) → List A × S
  and_then r k = (r.0 ++ (k r.1).0, (k r.1).1)

  -- a call's end: an answer ends it, with as many bytes taken
  abbrev pub unless : Option A → ℕ → S → Option A × ℕ × S → Option A × ℕ × S
  unless none n s r = r
  unless (some a) n s r = (some a, n, s)

  -- the same after one byte more
  abbrev pub one_more : Option A × ℕ × S → Option A × ℕ × S
  one_more r = (r.0, suc r.1, r.2)

-- the same after n bytes more
abbrev pub after : {A S : Type 0} → ℕ → Option A × ℕ × S → Option A × ℕ × S
after n r = (r.0, n + r.1, r.2)

-- a fact of the answer, if there is one, and the state that comes with it
abbrev pub With : {S A : Type 0} → (A → S → Type 0) → Option A → S → Type 0
With Q none s = Unit {0}
With Q (some a) s = Q a s

-- a reader that never owes a move ..
abbrev pub owes_none : {S : Type 0} → S → ℕ
owes_none s = 0

-- .. and so never makes one
abbrev pub hands_none : {S A : Type 0} → S → Option A × S
hands_none s = (none, s)

module _ {S A : Type 0} (eat : S → ℕ → Option A × S) where
  -- all that such a reader makes of a byte string, byte by byte
  abbrev pub run : S → List ℕ → List A × S
  run s [] = ([], s)
  run s (b ∷ bs) = tell (eat s b).0 (run (eat s b).1 bs)

-- `call s bs` is one call: its answer (none: "more wanted"), the bytes taken, the state.
module _ {S A : Type 0} (call : S → List ℕ → Option A × ℕ × S) where
  -- a piece counts as read when its rest has been handed in until "more wanted"
  pub data Reads : S → List ℕ → List A → S → Type 0 where
    more : {s : S} {bs : List ℕ} (n : ℕ) {t : S} → call s bs ≡ (none, n, t) → Reads s bs [] t
    answer : {s : S} {bs : List ℕ} {a : A} (n : ℕ) {t u : S} {xs : List A}
        → call s bs ≡ (some a, n, t) → Reads t (drop n bs) xs u → Reads s bs (a ∷ xs) u

  -- the pieces of a cut string are read one after the other
  pub data ReadsAll : S → List (List ℕ) → List A → S → Type 0 where
    done : {s : S} → ReadsAll s [] [] s
    piece : {s t u : S} {p : List ℕ} {ps : List (List ℕ)} {xs ys : List A}
        → Reads s p xs t → ReadsAll t ps ys u → ReadsAll s (p ∷ ps) (xs ++ ys) u

  -- the pieces are handed in from the state s on: some calls come to their end, and whatever calls do, with the answers xs and the final
  -- state t, P holds of them
  pub record Yields (s : S) (pieces : List (List ℕ)) (P : List A → S → Type 0) : Type 0 where
    pub ends : (xs : List A) × (t : S) × ReadsAll s pieces xs t
    pub always : (xs : List A) (t : S) → ReadsAll s pieces xs t → P xs t

module _ {S A : Type 0} (pend : S → ℕ) (hand : S → Option A × S) (eat : S → ℕ → Option A × S) where
  -- n owed moves, and then k
  abbrev pub drain : ℕ → S → (S → List A × S) → List A × S
  drain zero s k = k s
  drain (suc n) s k = tell (hand s).0 (drain n (hand s).1 k)

  -- all answers of a byte string, and the state behind it, where nothing is owed ..
  abbrev pub rest : List ℕ → S → List A × S
  rest [] s = ([], s)
  rest (b ∷ bs) s = tell (eat s b).0 (drain (pend (eat s b).1) (eat s b).1 (rest bs))

  -- .. and in general: what is owed comes first
  abbrev pub all : S → List ℕ → List A × S
  all s bs = drain (pend s) s (rest bs)

  -- the first answer among n owed moves, or else k
  abbrev pub first : ℕ → S → (S → Option A × ℕ × S) → Option A × ℕ × S
  first zero s k = k s
  first (suc n) s k = unless (hand s).0 0 (hand s).1 (first n (hand s).1 k)

  -- one call where nothing is owed
  abbrev pub wait : List ℕ → S → Option A × ℕ × S
  wait [] s = (none, 0, s)
  wait (b ∷ bs) s = unless (eat s b).0 1 (eat s b).1 (one_more (first (pend (eat s b).1) (eat s b).1 (wait bs)))

  -- one call: its answer (none: "more wanted"), the bytes taken, the state
  abbrev pub hear : S → List ℕ → Option A × ℕ × S
  hear s bs = first (pend s) s (wait bs)

  -- by: is there an answer
  abbrev pub told_by : Option A → ℕ → S → List ℕ → List A × S
  told_by none n s bs = ([], s)
  told_by (some a) n s bs = tell (some a) (all s (drop n bs))

  -- what a call's outcome says of all answers: its own is the first, and the others are had from its state and the bytes that it left;
  -- "more wanted" says that there is none, and that its state is the last
  abbrev pub told : Option A × ℕ × S → List ℕ → List A × S
  told r bs = told_by r.0 r.1 r.2 bs
