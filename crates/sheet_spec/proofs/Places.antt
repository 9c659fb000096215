-- Rows at places.
-- last-is             a port's last number, by what the packet is
-- row_is, length-is   the packet's row, and how many rows there are then
-- found-own, found-other, found-none   the place of a port: of its row, before a greater one, behind all
-- own-row, new-row    the row that is found there
-- note-put            the rows with the packet's put there
-- padded-is, padded-rows   rows at n places: they come first, blank ones behind them
use Rattle.std.proofs.Common.{ℕ, zero, suc, ◌+◌, ◌-◌, ◌≤◌, ◌<◌, ◌≡◌, ◌≢◌, Bool, true, false, ◌&&◌, cond, List, [], ◌∷◌, ◌++◌, length, take}
use Rattle.std.proofs.Common.{Option, Some, None, Ok, Err, position, eqb, ltb, leb, get_or, replicate, refl, sym, ap, ◌∙◌, arith}
use Rattle.std.proofs.Common.{not-suc-le-zero, le_of_suc-le-suc}
use Rattle.std.proofs.lemmas.List.Recursion.{is_position_or_len}
use borrow.Author.Tests.{eq-eqb, ne_eqb, lt-ltb, le-ltb, le-leb, lt-leb, ltb-true, ltb-false}
use Rattle.base.specs.Choice.{pick}
use Rattle.base.proofs.Tests.{by-eq, by_le, and_parts}
use Rattle.ports_spec.specs.Distance.{half, gap, ruled, last_behind}
use Rattle.ports_spec.specs.declared.Noted.TheVariants.{First}
use Rattle.sheet_spec.specs.declared.Row.{Row}
use Rattle.sheet_spec.specs.Rows.{blank, verdict, heard_row, note_in, row_for, padded_to}
use Rattle.sheet_spec.specs.Places.{last_by, place_for, is_old, place_in, put_in}

-- ---- the last number
ruled-last : (last s : ℕ) → last_by (ruled last s) last s ≡ last_behind last s
ruled-last last s =
    by-eq (gap last s) 0 (λ e. rw (eq-eqb (gap last s) 0 e, lt-ltb (gap last s) half (omega (arith, e))) refl)
    (λ n. rw (ne_eqb (gap last s) 0 n) (by-eq (gap last s) 1 (λ e. rw (eq-eqb (gap last s) 1 e, lt-ltb (gap last s) half (omega (arith, e))) refl)
    (λ m. rw (ne_eqb (gap last s) 1 m) (by_le half (gap last s) (λ l. rw (le-ltb (gap last s) half l) refl) (λ l. rw (lt-ltb (gap last s) half l) refl)))))

pub last-is : (r : Row) (s : ℕ) → last_by (verdict r s) r.last s ≡ pick r.heard (last_behind r.last s) s
last-is r s = go r.heard
  where
    go : (h : Bool) → last_by (pick h (ruled r.last s) First) r.last s ≡ pick h (last_behind r.last s) s
    go true = ruled-last r.last s
    go false = refl

-- ---- three cases
three : (P : Bool → Bool → Bool → Type 0) (a p : ℕ) → P true false false → P false true false → P false false true → P (eqb a p) (ltb p a) (ltb a p)
three P a p same less more =
    by-eq a p (λ e. rw (eq-eqb a p e, le-ltb p a (omega (arith, e)), le-ltb a p (omega (arith, e))) same)
    (λ n. rw (ne_eqb a p n) (by_le a p (λ l. rw (le-ltb p a l, lt-ltb a p (strict a p l n)) more) (λ l. rw (lt-ltb p a l, le-ltb a p (omega (arith, l))) less)))
  where
    strict : (x y : ℕ) → x ≤ y → x ≢ y → x < y
    strict x y k n = by_le y x (λ l. absurd (n (omega arith))) (λ l. l)

pub row_is : (port : ℕ) (rs : List Row) → row_for port rs ≡ pick (is_old port rs) (get_or rs (place_for port rs) (blank 0)) (blank port)
unfolding row_for is_old place_for
row_is port [] = refl
row_is port (r ∷ rs) =
    three (λ e g l. pick e r (pick g (blank port) (row_for port rs)) ≡ pick (pick l (is_old port rs) e)
    (get_or (r ∷ rs) (pick l (suc (place_for port rs)) 0) (blank 0)) (blank port))
    r.port port refl refl (row_is port rs)

pub length-is : (port s : ℕ) (rs : List Row) → length (note_in port s rs) ≡ pick (is_old port rs) (length rs) (length rs + 1)
unfolding note_in is_old
length-is port s [] = refl
length-is port s (r ∷ rs) =
    three (λ e g l. length (pick e (heard_row r s ∷ rs) (pick g (heard_row (blank port) s ∷ r ∷ rs) (r ∷ note_in port s rs))) ≡ pick (pick l (is_old port rs) e)
    (suc (length rs)) (suc (length rs) + 1))
    r.port port refl (omega arith) (ap suc (length-is port s rs) ∙ more (is_old port rs))
  where
    more : (b : Bool) → suc (pick b (length rs) (length rs + 1)) ≡ pick b (suc (length rs)) (suc (length rs) + 1)
    more true = refl
    more false = omega arith

-- ---- the place that is looked for
-- a place, where it is one of so many
among : ℕ → ℕ → Option ℕ
among n size = cond (ltb n size) (Some n) None

place-at : (port : ℕ) (rs : List Row) → position (λ r. leb port r.port) rs ≡ among (place_for port rs) (length rs)
unfolding among place_for
place-at port rs =
    ap (λ n. cond (ltb n (length rs)) (Some n) None)
    (sym (is_position_or_len (place_for port) (λ r. leb port r.port) refl (λ r rest. step r.port (place_for port rest)) rs))
  where
    step : (p n : ℕ) → pick (ltb p port) (suc n) 0 ≡ cond (leb port p) 0 (1 + n)
    step p n = by_le port p (λ l. rw (le-ltb p port l, le-leb port p l) refl) (λ l. rw (lt-ltb p port l, lt-leb port p l) (omega arith))

-- what stands at the place
old-is : (port : ℕ) (rs : List Row) → ltb (place_for port rs) (length rs) && eqb (get_or rs (place_for port rs) (blank 0)).port port ≡ is_old port rs
unfolding is_old place_for
old-is port [] = refl
old-is port (r ∷ rs) = go (ltb r.port port) (old-is port rs)
  where
    suc-ltb : (a b : ℕ) → ltb (suc a) (suc b) ≡ ltb a b
    suc-ltb a b = by_le b a (λ l. le-ltb (suc a) (suc b) (omega (arith, l)) ∙ sym (le-ltb a b l))
        (λ l. lt-ltb (suc a) (suc b) (omega (arith, l)) ∙ sym (lt-ltb a b l))

    go : (l : Bool) → ltb (place_for port rs) (length rs) && eqb (get_or rs (place_for port rs) (blank 0)).port port ≡ is_old port rs
        → ltb (pick l (suc (place_for port rs)) 0) (suc (length rs)) && eqb (get_or (r ∷ rs) (pick l (suc (place_for port rs)) 0) (blank 0)).port port ≡ pick l
        (is_old port rs) (eqb r.port port)
    go true x = rw (suc-ltb (place_for port rs) (length rs)) x
    go false x = rw (lt-ltb 0 (suc (length rs)) (omega arith)) refl

place-most : (port : ℕ) (rs : List Row) → place_for port rs ≤ length rs
unfolding place_for
place-most port [] = omega arith
place-most port (r ∷ rs) = go (ltb r.port port) (place-most port rs)
  where
    go : (b : Bool) → place_for port rs ≤ length rs → pick b (suc (place_for port rs)) 0 ≤ suc (length rs)
    go true l = omega (arith, l)
    go false l = omega arith

module _ (port : ℕ) (rs : List Row) where
  -- a place is found ..
  module _ {at : ℕ} (e : position (λ r. leb port r.port) rs ≡ Some at) where
    there : (ltb (place_for port rs) (length rs) ≡ true) × (place_for port rs ≡ at)
    unfolding among
    there = go (ltb (place_for port rs) (length rs)) (sym (place-at port rs) ∙ e)
      where
        go : (b : Bool) → cond b (Some (place_for port rs)) None ≡ Some at → (b ≡ true) × (place_for port rs ≡ at)
        go true e = (refl, cc)
        go false e = absurd (cc)

    -- .. of the port, or of a greater one
    pub found-own : (get_or rs at (blank 0)).port ≡ port → Ok at ≡ place_in port rs
    found-own h =
        let o : is_old port rs ≡ true = sym (old-is port rs) ∙ rw (there.0, there.1, eq-eqb (get_or rs at (blank 0)).port port h) refl in
        rw (o, there.1) refl

    pub found-other : (get_or rs at (blank 0)).port ≢ port → Err at ≡ place_in port rs
    found-other h =
        let o : is_old port rs ≡ false = sym (old-is port rs) ∙ rw (there.0, there.1, ne_eqb (get_or rs at (blank 0)).port port h) refl in
        rw (o, there.1) refl

  -- .. or none
  pub found-none : position (λ r. leb port r.port) rs ≡ None → Err (length rs) ≡ place_in port rs
  unfolding among
  found-none e = go (ltb (place_for port rs) (length rs)) refl (sym (place-at port rs) ∙ e)
    where
      go : (b : Bool) → ltb (place_for port rs) (length rs) ≡ b → cond b (Some (place_for port rs)) None ≡ None → Err (length rs) ≡ place_in port rs
      go true f e = absurd (cc)
      go false f e =
          let o : is_old port rs ≡ false = sym (old-is port rs) ∙ rw f refl in
          let l : place_for port rs ≡ length rs = omega (arith, place-most port rs, ltb-false (place_for port rs) (length rs) f) in
          rw (o, l) refl

-- ---- the row that is found, and the rows with it put there
module _ (port : ℕ) (rs : List Row) where
  pub own-row : {at : ℕ} → Ok at ≡ place_in port rs → (at < length rs) × (get_or rs at (blank 0) ≡ row_for port rs)
  own-row {at} e = go (is_old port rs) refl e
    where
      go : (b : Bool) → is_old port rs ≡ b → Ok at ≡ pick b (Ok (place_for port rs)) (Err (place_for port rs))
          → (at < length rs) × (get_or rs at (blank 0) ≡ row_for port rs)
      go true o e =
          let k : at ≡ place_for port rs = cc in
          let l : place_for port rs < length rs = ltb-true _ _ (and_parts _ _ (old-is port rs ∙ o)).0 in
          (omega (arith, k, l), rw k (sym (row_is port rs ∙ rw o refl)))
      go false o e = absurd (cc)

  pub new-row : {at : ℕ} → Err at ≡ place_in port rs → (at ≤ length rs) × (blank port ≡ row_for port rs)
  new-row {at} e = go (is_old port rs) refl e
    where
      go : (b : Bool) → is_old port rs ≡ b → Err at ≡ pick b (Ok (place_for port rs)) (Err (place_for port rs))
          → (at ≤ length rs) × (blank port ≡ row_for port rs)
      go true o e = absurd (cc)
      go false o e =
          let k : at ≡ place_for port rs = cc in
          (omega (arith, k, place-most port rs), sym (row_is port rs ∙ rw o refl))

pub note-put : (port s : ℕ) (rs : List Row) → note_in port s rs ≡ put_in (place_in port rs) (heard_row (row_for port rs) s) rs
unfolding note_in row_for is_old place_for
note-put port s [] = refl
note-put port s (r ∷ rs) =
    three (λ e g l. pick e (heard_row r s ∷ rs) (pick g (heard_row (blank port) s ∷ r ∷ rs) (r ∷ note_in port s rs))
    ≡ put_in (pick (pick l (is_old port rs) e) (Ok (pick l (suc (place_for port rs)) 0)) (Err (pick l (suc (place_for port rs)) 0)))
    (heard_row (pick e r (pick g (blank port) (row_for port rs))) s) (r ∷ rs))
    r.port port refl refl (ap (λ (xs : List Row). r ∷ xs) (note-put port s rs) ∙ on (is_old port rs) (heard_row (row_for port rs) s))
  where
    on : (b : Bool) (x : Row) → r ∷ put_in (pick b (Ok (place_for port rs)) (Err (place_for port rs))) x rs
        ≡ put_in (pick b (Ok (suc (place_for port rs))) (Err (suc (place_for port rs)))) x (r ∷ rs)
    on true x = refl
    on false x = refl

-- ---- rows at n places
pub padded-is : (n : ℕ) (rs : List Row) → length rs ≤ n → padded_to n rs ≡ rs ++ replicate (n - length rs) (blank 0)
unfolding padded_to
padded-is zero [] l = refl
padded-is zero (r ∷ rs) l = absurd (omega (arith, l))
padded-is (suc n) [] l =
    let e : n - 0 ≡ n = omega arith in
    let f : suc n - 0 ≡ suc n = omega arith in
    let g : padded_to n [] ≡ replicate n (blank 0) = padded-is n [] (omega arith) ∙ rw e refl in
    rw f (ap (λ (xs : List Row). blank 0 ∷ xs) g)
padded-is (suc n) (r ∷ rs) l =
    let e : suc n - suc (length rs) ≡ n - length rs = omega arith in
    ap (λ (xs : List Row). r ∷ xs) (padded-is n rs (omega (arith, l))) ∙ rw e refl

-- rows at n places have them first
pub padded-rows : (n : ℕ) (rs : List Row) → length rs ≤ n → take (length rs) (padded_to n rs) ≡ rs
unfolding padded_to
padded-rows n [] l = refl
padded-rows zero (r ∷ rs) l = absurd (not-suc-le-zero l)
padded-rows (suc n) (r ∷ rs) l = ap (λ (xs : List Row). r ∷ xs) (padded-rows n rs (le_of_suc-le-suc l))
