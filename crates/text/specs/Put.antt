-- Bytes put into a lent buffer from a place on, as many as there is room for.
-- Place, put_byte   a buffer's bytes and the place of the next one; one byte put there
-- put              bytes, one behind the other
-- Puts             what every function that puts bytes promises
use Rattle.std.specs.Prelude.{ℕ, ◌+◌, ◌≡◌, List, [], ◌∷◌, ltb, length, set}
use Rattle.base.specs.Choice.{pick}

-- a buffer's bytes, and the place of the next
abbrev pub Place : Type 0
Place = List ℕ × ℕ

-- a byte, where there is room for it
abbrev pub put_byte : Place → ℕ → Place
put_byte p b = pick (ltb p.1 (length p.0)) (set p.0 p.1 b, p.1 + 1) p

-- bytes, one behind the other
unfoldable pub put : Place → List ℕ → Place
put p [] = p
put p (b ∷ bs) = put (put_byte p b) bs

-- `after` and `end` are what comes of putting bs into `before` from `at` on
pub record Puts (before : List ℕ) (at : ℕ) (bs after : List ℕ) (end : ℕ) : Type 0 where
  pub is : ◌≡◌ {A = Place} (after, end) (put (before, at) bs)
