-- Text that is owed goes out byte by byte: what is left behind a byte is the rest.
-- Whole                  the piece keeps within its bytes
-- left-none, left-some   nothing is owed, or something
-- left-forth, left_by    behind a byte, behind n bytes
-- text-is                a piece's text
-- piece-whole, forth-whole, forth-short   a piece keeps within its bytes, and does so a byte further
-- left-new, left-next    a new piece, and the next one
-- owes-left, left-owes   some is owed exactly where some is left
use Prim.Native.Nat.{ℕ, zero, suc, ◌-◌, ◌/◌, ◌%◌, ◌≤◌, ◌<◌}
use native.Mathlib.Omega.{arith}
use mathlib.Core.Path.{◌≡◌, refl, sym, ◌∙◌, ap, subst}
use mathlib.Core.Bool.{Bool, true, false}
use mathlib.Core.List.{List, [], ◌∷◌, ◌++◌, append_assoc}
use lib.Dec.{eqb, ltb}
use lib.ListN.{length, get_or, drop, length-append, drop_of_length-le, replicate}
use lib.Seq.{take-append_seam, drop-cons, slice-cons}
use borrow.Author.Tests.{lt-ltb, ltb-true, ltb-false}
use Rattle.base.specs.Choice.{pick}
use Rattle.base.proofs.Lists.{part-over}
use Rattle.base.proofs.Tests.{by-test}
use Rattle.bid.specs.Line.{feed}
use Rattle.listing_spec.specs.Lines.{longest}
use Rattle.board_spec.specs.Text.{backslash, printable, sixteenth, shown_byte, shown_text}
use Rattle.board_lines.specs.Piece.{piece_of, text_of}
use Rattle.board.specs.declared.owed.Owed.{Owed}
use Rattle.board.specs.Owed.{alone, nothing, owes, payload_in, left_behind, left, text_byte, text_piece, next_piece, further, forth, forth_by}

-- the piece keeps within its bytes
abbrev pub Whole : Owed → Type 0
Whole o = o.piece.length ≤ length o.piece.bytes

-- a piece's text, and it keeps within its bytes
pub text-is : (bs : List ℕ) → text_of (piece_of bs) ≡ bs
text-is bs = take-append_seam bs _

pub piece-whole : (bs : List ℕ) → (piece_of bs).length ≤ length (piece_of bs).bytes
piece-whole bs = omega (arith, length-append bs (replicate (longest - length bs) 0))

pub left-none : (o : Owed) (recv : List ℕ) → owes o ≡ false → left o recv ≡ []
unfolding left
left-none o recv e = rw e refl

pub left-some : (o : Owed) (recv : List ℕ) → owes o ≡ true
    → left o recv ≡ drop o.out (text_of o.piece) ++ left_behind o.text (drop o.at (payload_in o.delivery recv))
unfolding left
left-some o recv e = rw e refl

-- a new piece
pub left-new : (p : List ℕ) (o : Owed) (recv : List ℕ) → o.piece ≡ piece_of p → o.out ≡ 0 → 1 ≤ length p
    → left o recv ≡ p ++ left_behind o.text (drop o.at (payload_in o.delivery recv))
left-new p o recv e z h =
    left-some o recv (lt-ltb _ _ (subst (λ n. o.out < n) (ap (λ q. q.length) (sym e)) (omega (arith, z))))
    ∙ (λ i. drop (z i) (text_of (e i)) ++ left_behind o.text (drop o.at (payload_in o.delivery recv)))
    ∙ ap (λ (l : List ℕ). l ++ left_behind o.text (drop o.at (payload_in o.delivery recv))) (text-is p)

-- a byte is shown by one at least
shown-some : (b : ℕ) → 1 ≤ length (shown_byte b)
unfolding shown_byte
shown-some b = go (eqb b backslash) (printable b)
  where
    go : (t u : Bool) → 1 ≤ length (pick t (backslash ∷ backslash ∷ []) (pick u (b ∷ []) (backslash ∷ 120 ∷ sixteenth (b / 16) ∷ sixteenth (b % 16) ∷ [])))
    go true u = omega arith
    go false true = omega arith
    go false false = omega arith

-- .. and by four at most
shown-short : (b : ℕ) → length (shown_byte b) ≤ 4
unfolding shown_byte
shown-short b = go (eqb b backslash) (printable b)
  where
    go : (t u : Bool) → length (pick t (backslash ∷ backslash ∷ []) (pick u (b ∷ []) (backslash ∷ 120 ∷ sixteenth (b / 16) ∷ sixteenth (b % 16) ∷ []))) ≤ 4
    go true u = omega arith
    go false true = omega arith
    go false false = omega arith

-- behind a piece that is out: its text, by: is a byte of it left
text-left : (o : Owed) (recv : List ℕ) (t : Bool) → ltb o.at (length (payload_in o.delivery recv)) ≡ t
    → left_behind true (drop o.at (payload_in o.delivery recv)) ≡ left (text_piece o (payload_in o.delivery recv)) recv
unfolding shown_text left
text-left o recv true h =
    let text : List ℕ = payload_in o.delivery recv in
    let b : ℕ = get_or text o.at 0 in
    ap (left_behind true) (drop-cons text o.at 0 (ltb-true _ _ h))
    ∙ append_assoc (shown_byte b) (shown_text (drop (suc o.at) text)) (feed ∷ [])
    ∙ sym (left-new (shown_byte b) (text_byte o text) recv refl refl (shown-some b))
    ∙ ap (λ t. left (pick t (text_byte o text) (alone (piece_of (feed ∷ [])))) recv) (sym h)
text-left o recv false h =
    let text : List ℕ = payload_in o.delivery recv in
    ap (left_behind true) (drop_of_length-le text (ltb-false _ _ h))
    ∙ ap (λ t. left (pick t (text_byte o text) (alone (piece_of (feed ∷ [])))) recv) (sym h)

pub left-next : (o : Owed) (recv : List ℕ) → left_behind o.text (drop o.at (payload_in o.delivery recv)) ≡ left (next_piece o recv) recv
unfolding next_piece left
left-next o recv = go o.text
  where
    go : (t : Bool) → left_behind t (drop o.at (payload_in o.delivery recv)) ≡ left (pick t (text_piece o (payload_in o.delivery recv)) nothing) recv
    go true = text-left o recv (ltb o.at (length (payload_in o.delivery recv))) refl
    go false = refl

-- behind a byte
pub left-forth : (o : Owed) (recv : List ℕ) → Whole o → owes o ≡ true → left o recv ≡ get_or o.piece.bytes o.out 0 ∷ left (forth o recv) recv
unfolding forth
left-forth o recv w e = left-some o recv e ∙ go (ltb (suc o.out) o.piece.length) refl
  where
    b : ℕ
    b = get_or o.piece.bytes o.out 0

    behind : List ℕ
    behind = left_behind o.text (drop o.at (payload_in o.delivery recv))

    first : drop o.out (text_of o.piece) ++ behind ≡ b ∷ (drop (suc o.out) (text_of o.piece) ++ behind)
    first = ap (λ (l : List ℕ). l ++ behind) (slice-cons o.out o.piece.length o.piece.bytes 0 (ltb-true _ _ e) w)

    go : (t : Bool) → ltb (suc o.out) o.piece.length ≡ t
        → drop o.out (text_of o.piece) ++ left_behind o.text (drop o.at (payload_in o.delivery recv)) ≡ get_or o.piece.bytes o.out 0 ∷ left
        (forth o recv) recv
    go true h =
        first
        ∙ ap (λ (l : List ℕ). b ∷ l) (sym (left-some (further o) recv h))
        ∙ ap (λ t. b ∷ left (pick t (further o) (next_piece o recv)) recv) (sym h)
    go false h =
        first
        ∙ ap (λ (l : List ℕ). b ∷ (l ++ behind)) (part-over o.piece.bytes (suc o.out) o.piece.length (ltb-false _ _ h))
        ∙ ap (λ (l : List ℕ). b ∷ l) (left-next o recv)
        ∙ ap (λ t. b ∷ left (pick t (further o) (next_piece o recv)) recv) (sym h)

-- the next piece keeps within its bytes too
text-whole : (o : Owed) (text : List ℕ) (t : Bool) → Whole (pick t (text_byte o text) (alone (piece_of (feed ∷ []))))
text-whole o text true = piece-whole (shown_byte (get_or text o.at 0))
text-whole o text false = piece-whole (feed ∷ [])

next-whole : (o : Owed) (text : List ℕ) (t : Bool) → Whole (pick t (text_piece o text) nothing)
next-whole o text true = text-whole o text (ltb o.at (length text))
next-whole o text false = piece-whole []

pub forth-whole : (o : Owed) (recv : List ℕ) → Whole o → Whole (forth o recv)
unfolding forth next_piece
forth-whole o recv w = go (ltb (suc o.out) o.piece.length)
  where
    go : (t : Bool) → Whole (pick t (further o) (pick o.text (text_piece o (payload_in o.delivery recv)) nothing))
    go true = w
    go false = next-whole o (payload_in o.delivery recv) o.text

text-short : (o : Owed) (text : List ℕ) (t : Bool) → (pick t (text_byte o text) (alone (piece_of (feed ∷ [])))).piece.length ≤ longest
text-short o text true = omega (arith, shown-short (get_or text o.at 0))
text-short o text false = omega arith

pub forth-short : (o : Owed) (recv : List ℕ) → o.piece.length ≤ longest → (forth o recv).piece.length ≤ longest
unfolding forth next_piece
forth-short o recv h = go (ltb (suc o.out) o.piece.length) o.text
  where
    go : (t u : Bool) → (pick t (further o) (pick u (text_piece o (payload_in o.delivery recv)) nothing)).piece.length ≤ longest
    go true u = h
    go false true = text-short o (payload_in o.delivery recv) (ltb o.at (length (payload_in o.delivery recv)))
    go false false = omega arith

-- some is owed where some is left
pub owes-left : (o : Owed) (recv : List ℕ) → 0 < length (left o recv) → owes o ≡ true
owes-left o recv h = by-test (owes o) (λ e. e) (λ e. absurd (omega (arith, h, ap length (left-none o recv e))))

pub left-owes : (o : Owed) (recv : List ℕ) → Whole o → owes o ≡ true → 0 < length (left o recv)
left-owes o recv w e = omega (arith, ap length (left-forth o recv w e))

-- behind n bytes
pub left_by : (n : ℕ) (o : Owed) (recv : List ℕ) → Whole o → n ≤ length (left o recv)
    → (left (forth_by n o recv) recv ≡ drop n (left o recv)) × Whole (forth_by n o recv)
unfolding forth_by
left_by zero o recv w h = (refl, w)
left_by (suc n) o recv w h =
    let s = left-forth o recv w (owes-left o recv (omega arith)) in
    let r = left_by n (forth o recv) recv (forth-whole o recv w) (omega (arith, h, ap length s)) in
    (r.0 ∙ ap (drop (suc n)) (sym s), r.1)
