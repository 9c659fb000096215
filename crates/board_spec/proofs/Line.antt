-- A line shown.
-- line-port, line-sequence, line-text   the parts of a bid's line, as the office reads a line
-- lines-apart               bids whose lines are the same bytes have the same port, sequence and payload
-- line-printable            a line is printable bytes and then one line feed: no payload ends it, or begins another
-- bid-first, remark-first   a bid's line begins with a digit, any other with `! `
-- line_plain                a line that the sender accepts, typed plainly, is shown as it was typed
-- Low, Fits, Closed         numbers of at most 20 digits, what a line shows, and bytes that end in their one line feed
use Prim.Native.Nat.{ℕ, ◌+◌, ◌≤◌, ◌<◌}
use native.Mathlib.Omega.{arith}
use native.Mathlib.Numerals.{unary_clauses}
use mathlib.Core.Path.{◌≡◌, refl, sym, ◌∙◌, ap, subst}
use mathlib.Core.Bool.{false, true≢false}
use mathlib.Core.List.{List, [], ◌∷◌, ◌++◌, append_assoc}
use lib.ListN.{length, take, drop, get_or, length-append}
use lib.Seq.{take_at, drop_at}
use Rattle.base.specs.Bytes.{Each, Bytes}
use Rattle.base.specs.UpTo.{up_to}
use Rattle.base.proofs.Bytes.{each_append}
use Rattle.base.proofs.Tests.{by-eq}
use Rattle.base.proofs.UpTo.{up-to-stop, up-to-go, up-to-none}
use Rattle.bid.specs.Line.{feed, space, past, no_number, port, sequence, text, number as number_in}
use Rattle.text.specs.Text.{ascii, decimal, number}
use Rattle.board_spec.specs.Text.{shown_text, bid_text}
use Rattle.board_spec.specs.Typed.{Plainly, is_bid}
use Rattle.board_spec.specs.Meaning.{Line, bid, missing, unwatched, late, repeated, restricted, refused_frame, broken_frame}
use Rattle.board_spec.specs.Meaning.{clean_block, repaired_block, beyond_repair, lock_lost, wrong_at, written}
use Rattle.board_spec.specs.Meaning.{missing_text, unwatched_text, late_text, repeated_text, restricted_text}
use Rattle.board_spec.specs.Meaning.{refused_text, clean_text, repaired_text, beyond_text, lost_text, wrong_text}
use Rattle.board_spec.proofs.Text.{Printable, all-printable, text-apart, text-printable, text-plain}
use Rattle.board_spec.proofs.Decimal.{printed_limit, IsDigit, decimal-each, decimal-some, number-decimal, decimal-number}

-- ---- a word without a space, and what is behind it
up-to-word : (w x : List ℕ) → Each IsDigit w → up_to space (w ++ space ∷ x) ≡ w
up-to-word [] x h = up-to-stop space {bs = space ∷ x} refl refl
up-to-word (b ∷ w) x h =
    up-to-go space {bs = b ∷ (w ++ space ∷ x)} refl (λ e. omega (arith, h.0.0)) ∙ ap (λ (y : List ℕ). b ∷ y) (up-to-word w x h.1)

past_word : (w x : List ℕ) → Each IsDigit w → past space (w ++ space ∷ x) ≡ x
past_word w x h =
    let one : w ++ space ∷ x ≡ (w ++ space ∷ []) ++ x = sym (append_assoc w (space ∷ []) x) in
    ap (λ (y : List ℕ). drop (length y + 1) (w ++ space ∷ x)) (up-to-word w x h) ∙ ap (drop (length w + 1)) one
    ∙ drop_at (w ++ space ∷ []) x (length w + 1) (length-append w (space ∷ []))

-- ---- the parts of a bid's line, as the office reads a line
module _ (p s : ℕ) (payload : List ℕ) where
  abbrev rest : List ℕ
  rest = decimal s ++ space ∷ shown_text payload

  text-is : bid_text p s payload ≡ decimal p ++ space ∷ rest
  unfolding bid_text
  text-is = simp append_assoc

  module _ (hp : p < no_number) (hs : s < no_number) where
    each-p : Each IsDigit (decimal p)
    each-p = decimal-each p (omega arith)

    each-s : Each IsDigit (decimal s)
    each-s = decimal-each s (omega arith)

    past-port : past space (bid_text p s payload) ≡ rest
    past-port = ap (past space) text-is ∙ past_word (decimal p) rest each-p

    pub line-port : port (bid_text p s payload) ≡ p
    line-port = ap port text-is ∙ ap number_in (up-to-word (decimal p) rest each-p) ∙ number-decimal p hp

    pub line-sequence : sequence (bid_text p s payload) ≡ s
    line-sequence =
        ap (λ (x : List ℕ). number_in (up_to space x)) past-port ∙ ap number_in (up-to-word (decimal s) (shown_text payload) each-s) ∙ number-decimal s hs

    pub line-text : text (bid_text p s payload) ≡ shown_text payload
    line-text = ap (past space) past-port ∙ past_word (decimal s) (shown_text payload) each-s

same-front : (x y : List ℕ) (c : ℕ) → x ++ c ∷ [] ≡ y ++ c ∷ [] → x ≡ y
same-front x y c e =
    let l : length x ≡ length y = omega (arith, ap length e, length-append x (c ∷ []), length-append y (c ∷ [])) in
    sym (take_at x (c ∷ []) (length x) refl) ∙ ap (take (length x)) e ∙ take_at y (c ∷ []) (length x) (sym l)

-- bids whose lines are the same bytes have the same port, sequence and payload
pub lines-apart : (p s : ℕ) (t : List ℕ) (q r : ℕ) (u : List ℕ) → p < no_number → s < no_number → Bytes t → q < no_number → r < no_number → Bytes u
    → written (bid p s t) ≡ written (bid q r u) → (p ≡ q) × (s ≡ r) × (t ≡ u)
unfolding written
lines-apart p s t q r u hp hs ht hq hr hu e =
    let same : bid_text p s t ≡ bid_text q r u = same-front (bid_text p s t) (bid_text q r u) feed e in (
      sym (line-port p s t hp hs) ∙ ap port same ∙ line-port q r u hq hr,
      sym (line-sequence p s t hp hs) ∙ ap sequence same ∙ line-sequence q r u hq hr,
      text-apart t u ht hu (sym (line-text p s t hp hs) ∙ ap text same ∙ line-text q r u hq hr),
    )

-- ---- printable bytes and then one line feed
-- numbers of at most 20 digits
abbrev pub Low : ℕ → Type 0
Low n = n < printed_limit

-- what a line shows: such numbers, and bytes
abbrev pub Fits : Line → Type 0
Fits (bid p s t) = Low p × Low s × Bytes t
Fits (missing p n) = Low p × Low n
Fits (unwatched p) = Low p
Fits (late p s t) = Low p × Low s × Bytes t
Fits (repeated p s t) = Low p × Low s × Bytes t
Fits (restricted p s k) = Low p × Low s × Low k
Fits (refused_frame n) = Low n
Fits (broken_frame n) = Low n
Fits clean_block = Unit {0}
Fits (repaired_block n) = Low n
Fits beyond_repair = Unit {0}
Fits lock_lost = Unit {0}
Fits (wrong_at n) = Low n

abbrev pub Closed : List ℕ → Type 0
Closed bs = (xs : List ℕ) × (bs ≡ xs ++ feed ∷ []) × Each Printable xs

ahead : (w : List ℕ) {bs : List ℕ} → Each Printable w → Closed bs → Closed (w ++ bs)
ahead w h c =
    (w ++ c.0, ap (λ (x : List ℕ). w ++ x) c.1 ∙ sym (append_assoc w c.0 (feed ∷ [])), each_append Printable w c.0 h c.2)

digit-printable : (w : List ℕ) → Each IsDigit w → Each Printable w
digit-printable [] h = tt
digit-printable (b ∷ w) h = ((omega (arith, h.0.0), omega (arith, h.0.1)), digit-printable w h.1)

decimal-printable : (n : ℕ) → Low n → Each Printable (decimal n)
decimal-printable n h = digit-printable (decimal n) (decimal-each n h)

last-number : (n : ℕ) → Low n → Closed (number n "\n")
last-number n h = (decimal n, refl, decimal-printable n h)

spaced : (n : ℕ) (x : List ℕ) → Low n → Each Printable x → Each Printable (decimal n ++ space ∷ x)
spaced n x h k = each_append Printable (decimal n) (space ∷ x) (decimal-printable n h) ((omega arith, omega arith), k)

one_number : (n : ℕ) → Low n → Each Printable (number n " ")
one_number n h = spaced n [] h tt

whole-bid : (p s : ℕ) (t : List ℕ) → Low p × Low s × Bytes t → Closed (bid_text p s t ++ feed ∷ [])
whole-bid p s t f = (
  bid_text p s t,
  refl,
  subst (Each Printable) (sym (text-is p s t)) (spaced p (rest p s t) f.0 (spaced s (shown_text t) f.1 (text-printable t f.2))),
)

pub line-printable : (l : Line) → Fits l → Closed (written l)
unfolding written
line-printable (bid p s t) f = whole-bid p s t f
line-printable (missing p n) f = ahead missing_text (all-printable missing_text tt) (ahead (number p " ") (one_number p f.0) (last-number n f.1))
line-printable (unwatched p) f = ahead unwatched_text (all-printable unwatched_text tt) (last-number p f)
line-printable (late p s t) f = ahead late_text (all-printable late_text tt) (whole-bid p s t f)
line-printable (repeated p s t) f = ahead repeated_text (all-printable repeated_text tt) (whole-bid p s t f)
line-printable (restricted p s k) f =
    let both = each_append Printable (number p " ") (number s " ") (one_number p f.0) (one_number s f.1) in
    ahead restricted_text (all-printable restricted_text tt) (ahead (number p " " ++ number s " ") both (last-number k f.2))
line-printable (refused_frame n) f = ahead refused_text (all-printable refused_text tt) (last-number n f)
line-printable (broken_frame n) f = ahead refused_text (all-printable refused_text tt) (ahead (number 3 " ") (one_number 3 (omega arith)) (last-number n f))
line-printable clean_block f = (clean_text, refl, all-printable clean_text tt)
line-printable (repaired_block n) f = ahead repaired_text (all-printable repaired_text tt) (last-number n f)
line-printable beyond_repair f = (beyond_text, refl, all-printable beyond_text tt)
line-printable lock_lost f = (lost_text, refl, all-printable lost_text tt)
line-printable (wrong_at n) f = ahead wrong_text (all-printable wrong_text tt) (last-number n f)

-- ---- a bid's line begins with a digit ..
first-digit : (w x : List ℕ) → 1 ≤ length w → Each IsDigit w → IsDigit (get_or (w ++ x) 0 0)
first-digit [] x h d = absurd (omega arith)
first-digit (b ∷ w) x h d = d.0

pub bid-first : (p s : ℕ) (t : List ℕ) → Low p → IsDigit (get_or (written (bid p s t)) 0 0)
unfolding written
bid-first p s t h =
    subst (λ (l : List ℕ). IsDigit (get_or l 0 0))
    (sym (ap (λ (l : List ℕ). l ++ feed ∷ []) (text-is p s t) ∙ append_assoc (decimal p) (space ∷ rest p s t) (feed ∷ [])))
    (first-digit (decimal p) ((space ∷ rest p s t) ++ feed ∷ []) (decimal-some p) (decimal-each p h))

-- .. and any other with `! `
pub remark-first : (l : Line) → is_bid l ≡ false → take 2 (written l) ≡ ascii "! "
unfolding written
remark-first (bid p s t) e = absurd (true≢false e)
remark-first (missing p n) e = refl
remark-first (unwatched p) e = refl
remark-first (late p s t) e = refl
remark-first (repeated p s t) e = refl
remark-first (restricted p s k) e = refl
remark-first (refused_frame n) e = refl
remark-first (broken_frame n) e = refl
remark-first clean_block e = refl
remark-first (repaired_block n) e = refl
remark-first beyond_repair e = refl
remark-first lock_lost e = refl
remark-first (wrong_at n) e = refl

-- ---- a line as it was typed: up to the space, and behind it
past-other : (b : ℕ) (l : List ℕ) → (b ≡ space → ⊥) → past space (b ∷ l) ≡ past space l
past-other b l n = ap (λ (w : List ℕ). drop (length w + 1) (b ∷ l)) (up-to-go space {bs = b ∷ l} refl n) ∙ simp unary_clauses refl

split-word : (l : List ℕ) → (past space l ≡ [] → ⊥) → l ≡ up_to space l ++ space ∷ past space l
split-word [] h = absurd (h (ap (λ (w : List ℕ). drop (length w + 1) []) (up-to-none space {bs = []} refl)))
split-word (b ∷ l) h =
    by-eq b space
    (λ e. (λ i. e i ∷ l) ∙ sym (ap (λ (w : List ℕ). w ++ space ∷ drop (length w + 1) (b ∷ l)) (up-to-stop space {bs = b ∷ l} refl e)))
    (λ n.
    ap (λ (x : List ℕ). b ∷ x) (split-word l (λ e. h (past-other b l n ∙ e)))
    ∙ (λ i. sym (up-to-go space {bs = b ∷ l} refl n) i ++ space ∷ sym (past-other b l n) i))

-- a line with two numbers and a text, typed plainly, is shown as it was typed
pub line_plain : (l : List ℕ) → port l < no_number → sequence l < no_number → (length (text l) ≡ 0 → ⊥) → Plainly l
    → bid_text (port l) (sequence l) (text l) ≡ l
line_plain l hp hs some plain =
    let r : List ℕ = past space l in
    let a : past space r ≡ [] → ⊥ = λ e. some (ap length e) in
    let b : r ≡ [] → ⊥ = λ e. some (ap (λ (x : List ℕ). length (past space x)) e ∙ nothing) in
    text-is (port l) (sequence l) (text l)
    ∙ (λ i. decimal-number (up_to space l) hp plain.port i ++ space ∷
    (decimal-number (up_to space r) hs plain.sequence i ++ space ∷ text-plain (text l) plain.text i))
    ∙ ap (λ (x : List ℕ). up_to space l ++ space ∷ x) (sym (split-word r a)) ∙ sym (split-word l b)
  where
    nothing : length (past space []) ≡ 0
    nothing = ap (λ (w : List ℕ). length (drop {A = ℕ} (length w + 1) [])) (up-to-none space {bs = []} refl)
