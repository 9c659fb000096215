-- Pieces of the board's text, as they are put.
-- same-number                              a number that is widened
-- heading-put                              `PORT SEQUENCE `
-- own-as, ahead-as                         what stands before a packet's text, and the lines ahead of its own, by what it is to its port
-- none_ahead, missing-put, unwatched-put   lines ahead of a packet's own
-- restricted-put, lead-restricted, lead-own   all before a packet's text
-- numbered-put                             a byte by its number
-- shown-backslash, shown-low, shown-high, shown-plain, shown-short   a byte as it is shown, and how long that is
-- refused-line, broken-line, said-line, lost-line, wrong-line, wrong-short   lines of answers that are no packet, and the last line
-- clean_line, repaired-line, beyond-line, untold   a block's line
-- piece-put                                a buffer of zeros with a text at its start, and the text's length, are its piece
use Prim.Native.Nat.{ℕ, ◌/◌, ◌%◌, ◌≤◌, ◌<◌}
use Prim.Native.Char.{code}
use native.Mathlib.Omega.{arith}
use mathlib.Core.Path.{◌≡◌, refl, sym, ap, ap₂, ◌∙◌}
use mathlib.Core.Bool.{Bool, true, false}
use mathlib.Core.List.{List, [], ◌∷◌, ◌++◌, append_assoc, append-nil}
use lib.Dec.{eqb}
use lib.ListN.{length, replicate, length-append}
use borrow.Author.Tests.{eq-eqb, ne_eqb, le-leb, lt-leb}
use Rattle.base.specs.Choice.{pick}
use Rattle.base.proofs.Lists.{drop-same}
use Rattle.text.specs.Text.{ascii, decimal, number}
use Rattle.text.specs.Put.{Puts}
use Rattle.text.proofs.Digits.{number_short}
use Rattle.text.proofs.Putting.{put-none, put_then, put_as, put-case, put-start}
use Rattle.packet_spec.specs.Contents.{key_format}
use Rattle.packet_spec.specs.declared.Delivery.{Delivery}
use Rattle.packet_spec.specs.declared.Judged.{Judged}
use Rattle.packet_spec.specs.declared.Judged.TheVariants.{Packet, Refused, Broken}
use Rattle.channel_spec.specs.declared.Condition.{Condition}
use Rattle.channel_spec.specs.declared.Condition.TheVariants.{Clean, Repaired, Beyond}
use Rattle.channel_spec.specs.declared.Answer.{Answer}
use Rattle.channel_spec.specs.declared.Answer.TheVariants.{Said}
use Rattle.listing_spec.specs.Lines.{longest}
use Rattle.ports_spec.specs.declared.Noted.{Noted}
use Rattle.board_spec.specs.Text.{backslash, printable, sixteenth, by_number, shown_byte, heading}
use Rattle.board_spec.specs.Meaning.{Line, missing, unwatched, restricted, refused_frame, broken_frame, clean_block, repaired_block, beyond_repair, lock_lost}
use Rattle.board_spec.specs.Meaning.{wrong_at}
use Rattle.board_spec.specs.Meaning.{missing_text, unwatched_text, restricted_text, refused_text, clean_text, repaired_text, beyond_text, lost_text, wrong_text}
use Rattle.board_spec.specs.Meaning.{written, written_all, ahead_of, block_lines}
use Rattle.board_spec.specs.Parts.{own_lead, lead, remark}
use Rattle.board_lines.specs.Piece.{piece_of}
use Rattle.board_lines.specs.declared.Piece.{Piece}

-- one line, written
whole-line : (x : Line) → written x ≡ written_all (x ∷ [])
unfolding written_all
whole-line x = sym (append-nil (written x))

-- a number is put as what it is widened to
pub same-number : {l after : List ℕ} {at e n m : ℕ} (behind : List ℕ) → n ≡ m → Puts l at (decimal n ++ behind) after e
    → Puts l at (decimal m ++ behind) after e
same-number behind same u = put_as u (ap (λ (k : ℕ). decimal k ++ behind) same)

pub heading-put : {l l₁ l₂ : List ℕ} {at a e : ℕ} (port sequence : ℕ) → Puts l at (number port " ") l₁ a → Puts l₁ a (number sequence " ") l₂ e
    → Puts l at (heading port sequence) l₂ e
heading-put port sequence u v = put_as (put_then u v) (sym (append_assoc (number port " ") (decimal sequence) (ascii " ")))

module _ {l after : List ℕ} {at e : ℕ} {v w : Noted} (port : ℕ) where
  pub own-as : (sequence : ℕ) → v ≡ w → Puts l at (own_lead w port sequence) after e → Puts l at (own_lead v port sequence) after e
  own-as sequence = put-case (λ (x : Noted). own_lead x port sequence)

  pub ahead-as : v ≡ w → Puts l at (written_all (ahead_of w port)) after e → Puts l at (written_all (ahead_of v port)) after e
  ahead-as = put-case (λ (x : Noted). written_all (ahead_of x port))

-- ---- lines ahead of a packet's own
pub none_ahead : (l : List ℕ) → Puts l 0 (written_all []) l 0
unfolding written_all
none_ahead l = put-none l 0

pub missing-put : {l l₁ l₂ l₃ : List ℕ} {a b e : ℕ} (port n : ℕ) → Puts l 0 missing_text l₁ a → Puts l₁ a (number port " ") l₂ b
    → Puts l₂ b (number n "\n") l₃ e → Puts l 0 (written_all (missing port n ∷ [])) l₃ e
unfolding written
missing-put port n u v w = put_as (put_then (put_then u v) w) (whole-line (missing port n))

pub unwatched-put : {l l₁ l₂ : List ℕ} {a e : ℕ} (port : ℕ) → Puts l 0 unwatched_text l₁ a → Puts l₁ a (number port "\n") l₂ e
    → Puts l 0 (written_all (unwatched port ∷ [])) l₂ e
unfolding written
unwatched-put port u v = put_as (put_then u v) (whole-line (unwatched port))

-- ---- all before a packet's text
pub restricted-put : {l l₁ l₂ l₃ l₄ : List ℕ} {at a b c e : ℕ} (port sequence key : ℕ) → Puts l at restricted_text l₁ a
    → Puts l₁ a (number port " ") l₂ b → Puts l₂ b (number sequence " ") l₃ c → Puts l₃ c (number key "\n") l₄ e
    → Puts l at (written (restricted port sequence key)) l₄ e
unfolding written
restricted-put port sequence key u v w x = put_then (put_then (put_then u v) w) x

module _ {l l₁ l₂ : List ℕ} {a e : ℕ} (v : Noted) (d : Delivery) where
  pub lead-restricted : d.format ≡ key_format → Puts l 0 (written_all (ahead_of v d.port)) l₁ a
      → Puts l₁ a (written (restricted d.port d.sequence d.number)) l₂ e → Puts l 0 (lead v d) l₂ e
  lead-restricted same u w = rw (eq-eqb d.format key_format same) (put_then u w)

  pub lead-own : (d.format ≡ key_format → ⊥) → Puts l 0 (written_all (ahead_of v d.port)) l₁ a → Puts l₁ a (own_lead v d.port d.sequence) l₂ e
      → Puts l 0 (lead v d) l₂ e
  lead-own other u w = rw (ne_eqb d.format key_format other) (put_then u w)

-- ---- a byte by its number
pub numbered-put : {l after : List ℕ} {high low e : ℕ} (b : ℕ) → high ≡ sixteenth (b / 16) → low ≡ sixteenth (b % 16)
    → Puts l 0 (backslash ∷ code "x" ∷ high ∷ low ∷ []) after e → Puts l 0 (by_number b) after e
numbered-put b h k u = put_as u (ap₂ (λ (x y : ℕ). backslash ∷ code "x" ∷ x ∷ y ∷ []) h k)

-- a byte as it is shown, by what it is
module _ (b : ℕ) where
  pub shown-backslash : b ≡ 92 → ascii "\\\\" ≡ shown_byte b
  unfolding shown_byte
  shown-backslash h = rw (eq-eqb b 92 h)

  pub shown-low : (b ≡ 92 → ⊥) → b < 32 → by_number b ≡ shown_byte b
  unfolding shown_byte
  shown-low n h = rw (ne_eqb b 92 n, lt-leb 32 b h)

  pub shown-high : (b ≡ 92 → ⊥) → 32 ≤ b → 126 < b → by_number b ≡ shown_byte b
  unfolding shown_byte
  shown-high n h k = rw (ne_eqb b 92 n, le-leb 32 b h, lt-leb b 126 k)

  pub shown-plain : (b ≡ 92 → ⊥) → 32 ≤ b → b ≤ 126 → b ∷ [] ≡ shown_byte b
  unfolding shown_byte
  shown-plain n h k = rw (ne_eqb b 92 n, le-leb 32 b h, le-leb b 126 k)

  -- it has four bytes at most
  pub shown-short : length (shown_byte b) ≤ longest
  unfolding shown_byte
  shown-short = go (eqb b backslash) (printable b)
    where
      go : (s t : Bool) → length (pick s (backslash ∷ backslash ∷ []) (pick t (b ∷ []) (by_number b))) ≤ longest
      go true t = omega arith
      go false true = omega arith
      go false false = omega arith

-- ---- answers that are no packet
module _ {l l₁ l₂ : List ℕ} {a e : ℕ} (u : Puts l 0 refused_text l₁ a) where
  pub refused-line : (n : ℕ) → Puts l₁ a (number n "\n") l₂ e → Puts l 0 (written (refused_frame n)) l₂ e
  unfolding written
  refused-line n v = put_then u v

  pub broken-line : {l₃ : List ℕ} {b : ℕ} (place : ℕ) → Puts l₁ a (number 3 " ") l₃ b → Puts l₃ b (number place "\n") l₂ e
      → Puts l 0 (written (broken_frame place)) l₂ e
  unfolding written
  broken-line place v w = put_then (put_then u v) w

pub wrong-line : {l l₁ l₂ : List ℕ} {a e : ℕ} (n : ℕ) → Puts l 0 wrong_text l₁ a → Puts l₁ a (number n "\n") l₂ e → Puts l 0 (written (wrong_at n)) l₂ e
unfolding written
wrong-line n u v = put_then u v

pub wrong-short : (n : ℕ) → length (written (wrong_at n)) ≤ longest
unfolding written
wrong-short n = omega (arith, length-append wrong_text (number n "\n"), number_short n "\n")

pub lost-line : {l after : List ℕ} {e : ℕ} → Puts l 0 (lost_text ++ ascii "\n") after e → Puts l 0 (written lock_lost) after e
unfolding written
lost-line u = u

-- a frame's line is the same whether or not blocks are told
either : (b : Bool) (j : Judged) → remark b (Said j) ≡ remark true (Said j)
either b (Packet d) = refl
either b (Refused n) = refl
either b (Broken n) = refl

pub said-line : {l after : List ℕ} {e : ℕ} {a : Answer} {j : Judged} (b : Bool) → a ≡ Said j → Puts l 0 (remark true (Said j)) after e
    → Puts l 0 (remark b a) after e
said-line {j = j} b same h = put_as h (sym (ap (remark b) same ∙ either b j))

-- ---- a block's line, by whether clean and repaired ones are told
module _ {l after : List ℕ} {e : ℕ} {b : Bool} {c : Condition} where
  as-told : {d : Bool} {f : Condition} → b ≡ d → c ≡ f → Puts l 0 (written_all (block_lines d f)) after e → Puts l 0 (written_all (block_lines b c)) after e
  as-told p q h = put_as h (sym (ap₂ (λ (x : Bool) (y : Condition). written_all (block_lines x y)) p q))

  pub clean_line : b ≡ true → c ≡ Clean → Puts l 0 (clean_text ++ ascii "\n") after e → Puts l 0 (written_all (block_lines b c)) after e
  unfolding written
  clean_line p q u = as-told p q (put_as u (whole-line clean_block))

  pub repaired-line : {mid : List ℕ} {a : ℕ} (n : ℕ) → b ≡ true → c ≡ Repaired n → Puts l 0 repaired_text mid a → Puts mid a (number n "\n") after e
      → Puts l 0 (written_all (block_lines b c)) after e
  unfolding written
  repaired-line n p q u v = as-told p q (put_as (put_then u v) (whole-line (repaired_block n)))

pub beyond-line : {l after : List ℕ} {e : ℕ} {c : Condition} (b : Bool) → c ≡ Beyond → Puts l 0 (beyond_text ++ ascii "\n") after e
    → Puts l 0 (written_all (block_lines b c)) after e
unfolding written
beyond-line b q u = put-case (λ (x : Condition). written_all (block_lines b x)) q (put_as u (whole-line beyond_repair))

pub untold : {l : List ℕ} {b : Bool} {c d : Condition} → b ≡ false → c ≡ d → block_lines false d ≡ [] → Puts l 0 (written_all (block_lines b c)) l 0
unfolding written_all
untold {l} p q none =
    put_as (put-none l 0) (sym (ap₂ (λ (x : Bool) (y : Condition). written_all (block_lines x y)) p q ∙ ap written_all none))

-- ---- a buffer of zeros behind a text
pub piece-put : {bs after : List ℕ} {end : ℕ} → Puts (replicate longest 0) 0 bs after end → length bs ≤ longest
    → ◌≡◌ {A = Piece} (record { bytes = after; length = end }) (piece_of bs)
piece-put {bs} h room =
    let s = put-start h room in
    ap₂ (λ (x : List ℕ) (n : ℕ). record { bytes = x; length = n })
    (s.0 ∙ ap (λ (x : List ℕ). bs ++ x) (drop-same 0 (length bs) longest))
    s.1
