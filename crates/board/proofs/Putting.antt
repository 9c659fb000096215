-- A part of what is owed goes out, byte by byte.
-- Putting               so many bytes are out
-- put-start, put_on     before the first, and one more
-- put-out, put_full     all that is owed is out, or the output is full
use Prim.Native.Nat.{ℕ, zero, suc, ◌≤◌, ◌<◌}
use native.Mathlib.Omega.{arith}
use mathlib.Core.Path.{◌≡◌, refl, sym, ◌∙◌, ap, subst}
use mathlib.Core.Bool.{true, false}
use mathlib.Core.List.{List, [], ◌∷◌, ◌++◌, tail-eq_of_cons-eq, head-eq_of_cons-eq}
use lib.ListN.{length, get_or, set, take, drop, length-drop}
use lib.Seq.{length-take-le, take-suc, drop-cons, set_at, append_snoc}
use Rattle.listing_spec.specs.Lines.{longest}
use Rattle.board.specs.declared.owed.Owed.{Owed}
use Rattle.board.specs.Owed.{owes, left, forth, forth_by}
use Rattle.board.specs.Private.{PutIs}
use Rattle.board.proofs.Left.{Whole, left-none, left-forth, forth-whole, forth-short}

-- w bytes of what is owed are out
pub record Putting (o : Owed) (recv out out' : List ℕ) (o' : Owed) (w : ℕ) : Type 0 where
  pub is : o' ≡ forth_by w o recv
  pub within : w ≤ length (left o recv)
  pub fits : w ≤ length out
  pub output : out' ≡ take w (left o recv) ++ drop w out
  pub rest : left o' recv ≡ drop w (left o recv)
  pub whole : Whole o'
  pub short : o'.piece.length ≤ longest

pub put-start : (o : Owed) (recv out : List ℕ) → Whole o → o.piece.length ≤ longest → Putting o recv out out o 0
unfolding forth_by
put-start o recv out w s = record { is = refl; within = omega arith; fits = omega arith; output = refl; rest = refl; whole = w; short = s }

forth-last : (n : ℕ) (o : Owed) (recv : List ℕ) → forth (forth_by n o recv) recv ≡ forth_by (suc n) o recv
unfolding forth_by
forth-last zero o recv = refl
forth-last (suc n) o recv = forth-last n (forth o recv) recv

module _ {o : Owed} {recv out out' : List ℕ} {o' : Owed} {w : ℕ} (p : Putting o recv out out' o' w) where
  abbrev T : List ℕ
  T = left o recv

  pub put_on : {out'' : List ℕ} {o'' : Owed} {n : ℕ} → owes o' ≡ true → w < length out → n ≡ suc w → out'' ≡ set out' w (get_or o'.piece.bytes o'.out 0)
      → o'' ≡ forth o' recv → Putting o recv out out'' o'' n
  put_on {out''} {o''} {n} e h m k f =
      let b : ℕ = get_or o'.piece.bytes o'.out 0 in
      let s = sym p.rest ∙ left-forth o' recv p.whole e in
      let l : w < length T = omega (arith, ap length s, length-drop w T) in
      let t = sym (drop-cons T w 0 l) ∙ s in
      subst (λ j. Putting o recv out out'' o'' j) (sym m) (subst (λ x. Putting o recv out out'' x (suc w)) (sym f) (record {
        is = ap (λ x. forth x recv) p.is ∙ forth-last w o recv;
        within = l;
        fits = h;
        output =
            k ∙ ap (λ x. set x w b) (p.output ∙ ap (λ x. take w T ++ x) (drop-cons out w 0 h))
            ∙ set_at (take w T) (get_or out w 0) (drop (suc w) out) b w (length-take-le w T p.within)
            ∙ sym (append_snoc (take w T) b (drop (suc w) out))
            ∙ ap (λ x. (take w T ++ (x ∷ [])) ++ drop (suc w) out) (sym (head-eq_of_cons-eq t))
            ∙ ap (λ x. x ++ drop (suc w) out) (sym (take-suc T w 0 l));
        rest = sym (tail-eq_of_cons-eq t);
        whole = forth-whole o' recv p.whole;
        short = forth-short o' recv p.short;
      }))

  pub put-out : owes o' ≡ false → PutIs o recv out (record { owed = o'; written = w }) out'
  put-out e = record {
    written = omega (arith, ap length (sym p.rest ∙ left-none o' recv e), length-drop w T, p.within, p.fits);
    owed = p.is;
    output = p.output;
  }

  pub put_full : length out ≤ w → PutIs o recv out (record { owed = o'; written = w }) out'
  put_full h = record { written = omega (arith, p.within, p.fits, h); owed = p.is; output = p.output }
