-- A call on many bytes at once, and byte by byte.
-- keep-is                       bytes of a line stored
-- eat-feed, eat-other           a byte
-- hear-all, hear-line           a call that finds no line feed, and one that finds it
-- heard-more, heard-line        what the code then answers and leaves; stored-fits, what it asks before
-- call-on                      a call that is let on
-- sound-stored, sound-held, roomy-line, roomy-hold            what these tests show
-- numbered-as                   the next line's number, start-ready, the start
-- none-begun, one-begun         what the end of the input stands for
use Prim.Native.Nat.{ℕ, suc, ◌+◌, ◌-◌, ◌^◌, ◌≤◌, ◌<◌, min}
use native.Mathlib.Omega.{arith}
use mathlib.Core.Path.{◌≡◌, refl, sym, ◌∙◌, ap, subst}
use mathlib.Core.Bool.{Bool, true}
use mathlib.Core.List.{List, [], ◌∷◌, ◌++◌, append_assoc, append-nil}
use mathlib.Core.Option.{Option, none}
use lib.Dec.{leb}
use lib.ListN.{length, take, drop, length-drop, take-append-drop}
use lib.Seq.{sets, sets-eq, length-sets, take-nil, take_all, length-take-le, drop-drop, drop-append-le}
use borrow.Author.Tests.{eq-eqb, ne_eqb, le-ltb, le-leb, leb-true}
use borrow.Rule.Slice.PartMut.{put_mid}
use Rattle.base.specs.Choice.{pick}
use Rattle.base.specs.Calls.{unless, one_more}
use Rattle.base.specs.UpTo.{up_to}
use Rattle.base.proofs.UpTo.{up-to-is, up-to-short}
use Rattle.base.specs.Written.{copied}
use Rattle.base.proofs.Lists.{over}
use Rattle.base.proofs.Tests.{by-eq, by_le, and_parts}
use Rattle.packet_spec.specs.Escape.{flag}
use Rattle.bid.specs.Line.{feed, line_limit, verdict}
use Rattle.bid.specs.Input.{numbered}
use Rattle.office.specs.declared.Office.{Office}
use Rattle.office.specs.Start.{Ready, Refused as StartRefused}
use Rattle.std.specs.Prelude.{Ok}
use Rattle.office.specs.declared.Answer.TheVariants as said
use Rattle.office.specs.declared.Ended.{Ended}
use Rattle.office.specs.Meaning.{Said, ending_by, Desk, desk, kept, ending_of, ended, eat}
use Rattle.office.specs.Call.{held_limit, hold_limit, out_limit, fresh_office, starting, sound, roomy, hear_on, hear_by, hear_call, last_feed}
use Rattle.office.specs.Call.{end_bytes, HeardIs}
use Rattle.office.specs.Private.{EndedIs}

-- ---- bytes of a line stored
module _ (line bs : List ℕ) (at : ℕ) (h : at ≤ line_limit) (room : line_limit ≤ length line) where
  abbrev m : ℕ
  m = line_limit - at

  abbrev tail : List ℕ
  tail = drop at line

  abbrev part : List ℕ
  part = take m tail

  tail-length : length tail ≡ length line - at
  tail-length = length-drop at line

  part_length : length part ≡ m
  part_length = length-take-le m tail (omega (arith, tail-length))

  part-copied : copied bs part ++ drop m tail ≡ take m bs ++ drop (length (take m bs)) tail
  unfolding copied
  part-copied =
      by_le (length bs) m
      (λ k.
      let e : take m bs ≡ bs = take_all m bs k in
      let l : length bs ≤ length part = omega (arith, part_length) in
      (λ i. (take (part_length i) bs ++ drop (length bs) part) ++ drop m tail)
      ∙ append_assoc (take m bs) (drop (length bs) part) (drop m tail)
      ∙ ap (λ (x : List ℕ). take m bs ++ x) (sym (drop-append-le (length bs) part (drop m tail) l) ∙ ap (drop (length bs)) (take-append-drop m tail))
      ∙ ap (λ (x : List ℕ). take m bs ++ drop (length x) tail) (sym e))
      (λ k.
      let l : length part ≤ length bs = omega (arith, part_length) in
      let n : length (take m bs) ≡ m = length-take-le m bs (omega arith) in
      (λ i. (take (part_length i) bs ++ over part (length bs) l i) ++ drop m tail)
      ∙ ap (λ (x : List ℕ). x ++ drop m tail) (append-nil (take m bs))
      ∙ ap (λ (k : ℕ). take m bs ++ drop k tail) (sym n))

  pub keep-is : {y : List ℕ} → y ≡ copied bs part → put_mid at m line y ≡ sets line at (take m bs)
  keep-is {y} e =
      let k : length (take m bs) ≤ m = by_le m (length bs) (λ l. omega (arith, length-take-le m bs l))
      (λ l. omega (arith, ap length (take_all m bs (omega arith)))) in
      ap (λ (x : List ℕ). take at line ++ (x ++ drop m tail)) e ∙ ap (λ (x : List ℕ). take at line ++ x) part-copied
      ∙ ap (λ (x : List ℕ). take at line ++ (take m bs ++ x)) (drop-drop (length (take m bs)) at line)
      ∙ sym (append_assoc (take at line) (take m bs) (drop (at + length (take m bs)) line))
      ∙ sym (sets-eq (take m bs) line at (omega arith))

-- ---- byte by byte
pub eat-feed : (d : Desk) (b : ℕ) → b ≡ feed → eat d b ≡ ended d
unfolding eat
eat-feed d b e = ap (λ (t : Bool). pick t (ended d) (none, kept d (b ∷ []))) (eq-eqb b feed e)

pub eat-other : (d : Desk) (b : ℕ) → (b ≡ feed → ⊥) → eat d b ≡ (none, kept d (b ∷ []))
unfolding eat
eat-other d b n = ap (λ (t : Bool). pick t (ended d) (none, kept d (b ∷ []))) (ne_eqb b feed n)

module _ (d : Desk) (h : d.st.stored ≤ line_limit) where
  kept-none : kept d [] ≡ d
  kept-none =
      let e : min (d.st.stored + 0) line_limit ≡ d.st.stored = omega arith in
      λ i. desk (record { lines = d.st.lines; stored = e i; held = d.st.held })
      (sets d.line d.st.stored (take-nil {A = ℕ} (line_limit - d.st.stored) i)) d.hold

  kept-most : (bs : List ℕ) → (kept d bs).st.stored ≤ line_limit
  kept-most bs = omega arith

  line-more : (b : ℕ) (bs : List ℕ)
      → sets (sets d.line d.st.stored (take (line_limit - d.st.stored) (b ∷ []))) (min (d.st.stored + 1) line_limit)
      (take (line_limit - min (d.st.stored + 1) line_limit) bs)
      ≡ sets d.line d.st.stored (take (line_limit - d.st.stored) (b ∷ bs))
  line-more b bs =
      let s : ℕ = d.st.stored in
      by_le line_limit s
      (λ k.
      let e : line_limit - s ≡ 0 = omega arith in
      let f : line_limit - min (s + 1) line_limit ≡ 0 = omega arith in
      (λ i. sets (sets d.line s (take (e i) (b ∷ []))) (min (s + 1) line_limit) (take (f i) bs)) ∙ ap (λ (n : ℕ). sets d.line s (take n (b ∷ bs))) (sym e))
      (λ k.
      let n : ℕ = line_limit - suc s in
      let e : line_limit - s ≡ suc n = omega arith in
      let f : min (s + 1) line_limit ≡ suc s = omega arith in
      (λ i. sets (sets d.line s (take (e i) (b ∷ []))) (f i) (take (line_limit - f i) bs))
      ∙ ap (λ (x : List ℕ). sets (sets d.line s (b ∷ x)) (suc s) (take n bs)) (take-nil n)
      ∙ ap (λ (k : ℕ). sets d.line s (take k (b ∷ bs))) (sym e))

  kept_more : (b : ℕ) (bs : List ℕ) → kept (kept d (b ∷ [])) bs ≡ kept d (b ∷ bs)
  kept_more b bs =
      let e : min (min (d.st.stored + 1) line_limit + length bs) line_limit ≡ min (d.st.stored + suc (length bs)) line_limit = omega arith in
      λ i. desk (record { lines = d.st.lines; stored = e i; held = d.st.held }) (line-more b bs i) d.hold

hear-other : (d : Desk) (b : ℕ) (bs : List ℕ) → (b ≡ feed → ⊥) → hear_on d (b ∷ bs) ≡ one_more (hear_on (kept d (b ∷ [])) bs)
hear-other d b bs n = ap (λ (r : Option Said × Desk). unless r.0 1 r.1 (one_more (hear_on r.1 bs))) (eat-other d b n)

-- no line feed
hear-all : (bs : List ℕ) (d : Desk) → d.st.stored ≤ line_limit → length bs ≤ length (up_to feed bs)
    → hear_on d bs ≡ (none, length (up_to feed bs), kept d (up_to feed bs))
unfolding up_to
hear-all [] d h k = λ i. (none, 0, sym (kept-none d h) i)
hear-all (b ∷ bs) d h k =
    by-eq b feed (λ e. let l = simp (eq-eqb b feed e) at k in absurd (omega (arith, l)))
    (λ m.
    let l = simp (ne_eqb b feed m) at k in
    simp (ne_eqb b feed m)
    (hear-other d b bs m ∙ ap one_more (hear-all bs (kept d (b ∷ [])) (kept-most d h (b ∷ [])) (omega (arith, l)))
    ∙ (λ i. (none, suc (length (up_to feed bs)), kept_more d h b (up_to feed bs) i))))

-- a line feed
up-to-hit : (b : ℕ) (bs : List ℕ) → b ≡ feed → up_to feed (b ∷ bs) ≡ []
unfolding up_to
up-to-hit b bs e = ap (λ (t : Bool). pick t [] (b ∷ up_to feed bs)) (eq-eqb b feed e)

up-to-miss : (b : ℕ) (bs : List ℕ) → (b ≡ feed → ⊥) → up_to feed (b ∷ bs) ≡ b ∷ up_to feed bs
unfolding up_to
up-to-miss b bs m = ap (λ (t : Bool). pick t [] (b ∷ up_to feed bs)) (ne_eqb b feed m)

-- a call that ends a line behind these bytes
abbrev line_end : Desk → List ℕ → Option Said × ℕ × Desk
line_end d u = ((ended (kept d u)).0, length u + 1, (ended (kept d u)).1)

hear-line : (bs : List ℕ) (d : Desk) → d.st.stored ≤ line_limit → length (up_to feed bs) < length bs → hear_on d bs ≡ line_end d (up_to feed bs)
hear-line [] d h k = absurd (omega arith)
hear-line (b ∷ bs) d h k =
    by-eq b feed
    (λ e.
    ap (λ (r : Option Said × Desk). unless r.0 1 r.1 (one_more (hear_on r.1 bs))) (eat-feed d b e)
    ∙ (λ i. ((ended (sym (kept-none d h) i)).0, 1, (ended (sym (kept-none d h) i)).1)) ∙ ap (line_end d) (sym (up-to-hit b bs e)))
    (λ m.
    let n : ℕ = length (up_to feed bs) in
    let c : suc (n + 1) ≡ suc n + 1 = omega arith in
    hear-other d b bs m ∙ ap one_more (hear-line bs (kept d (b ∷ [])) (kept-most d h (b ∷ [])) (omega (arith, ap length (up-to-miss b bs m))))
    ∙ (λ i. ((ended (kept_more d h b (up_to feed bs) i)).0, c i, (ended (kept_more d h b (up_to feed bs) i)).1)) ∙ ap (line_end d) (sym (up-to-miss b bs m)))

-- ---- what the code answers and leaves
module _ (s : Office) (line hold bs : List ℕ) (h : s.stored ≤ line_limit) {n k : ℕ} {line' : List ℕ} (en : n ≡ length (up_to feed bs))
    (ek : k ≡ min (s.stored + length (take n bs)) line_limit) (el : line' ≡ sets line s.stored (take (line_limit - s.stored) (take n bs))) where
  abbrev d : Desk
  d = desk s line hold

  run_is : take n bs ≡ up_to feed bs
  run_is = ap (λ (m : ℕ). take m bs) en ∙ sym (up-to-is feed bs)

  kept-is : desk (record { lines = s.lines; stored = k; held = s.held }) line' hold ≡ kept d (up_to feed bs)
  kept-is =
      (λ i. desk (record { lines = s.lines; stored = ek i; held = s.held }) (el i) hold) ∙ ap (kept d) run_is

  pub stored-fits : line_limit ≤ length line → k ≤ length line'
  stored-fits r = omega (arith, ap length el, length-sets line s.stored (take (line_limit - s.stored) (take n bs)))

  pub heard-more : n ≡ length bs → (out : List ℕ)
      → HeardIs (hear_on d bs) out (record { answer = Ok said.More; taken = n; office = record { lines = s.lines; stored = k; held = s.held } }) line' hold out
  heard-more e out =
      let x : hear_on d bs ≡ (none, n, desk (record { lines = s.lines; stored = k; held = s.held }) line' hold) =
      hear-all bs d h (omega arith) ∙ (λ i. (none, sym en i, sym kept-is i)) in
      subst (λ (y : Option Said × ℕ × Desk). HeardIs y out
      (record { answer = Ok said.More; taken = n; office = record { lines = s.lines; stored = k; held = s.held } }) line' hold out)
      (sym x) (refl, refl, refl, refl)

  line-stops : (n ≡ length bs → ⊥) → n < length bs
  line-stops e = by_le (length bs) n (λ m. absurd (e (omega (arith, up-to-short feed bs)))) (λ m. m)

  pub heard-line : (n ≡ length bs → ⊥) → (out : List ℕ) (x : Ended) {hold' out' : List ℕ} {j : ℕ}
      → EndedIs (ending_by (verdict (take k line')) s.held hold) out x hold' out' → j ≡ numbered s.lines
      → HeardIs (hear_on d bs) out (record { answer = x.answer; taken = n + 1; office = record { lines = j; stored = 0; held = x.held } }) line' hold' out'
  heard-line e out x {hold'} {out'} {j} ends ej =
      let c : Desk = desk (record { lines = s.lines; stored = k; held = s.held }) line' hold in
      let y : hear_on d bs ≡ ((ended c).0, n + 1, (ended c).1) =
      hear-line bs d h (omega (arith, line-stops e)) ∙ (λ i. ((ended (sym kept-is i)).0, sym en i + 1, (ended (sym kept-is i)).1)) in
      let f : EndedIs (ending_of c) out x hold' out' = ends in
      subst (λ (z : Option Said × ℕ × Desk). HeardIs z out
      (record { answer = x.answer; taken = n + 1; office = record { lines = j; stored = 0; held = x.held } }) line' hold' out')
      (sym y) (
        (λ i. record { answer = (f.0 i).answer; taken = n + 1; office = record { lines = ej i; stored = 0; held = (f.0 i).held } }),
        refl,
        f.1,
        f.2,
      )

-- ---- behind the refusals
module _ (room : ℕ) (d : Desk) (bs : List ℕ) (s : sound d.st ≡ true) (l : roomy d.line d.hold ≡ true) where
  pub call-on : out_limit ≤ room → hear_call room d bs ≡ hear_on d bs
  call-on k i = hear_by (s i) (l i) (le-leb out_limit room k i) d bs

-- what the tests show
pub sound-stored : (s : Office) → sound s ≡ true → s.stored ≤ line_limit
sound-stored s e = leb-true _ _ (and_parts (leb s.stored line_limit) (leb s.held held_limit) e).0

pub sound-held : (s : Office) → sound s ≡ true → s.held ≤ held_limit
sound-held s e = leb-true _ _ (and_parts (leb s.stored line_limit) (leb s.held held_limit) e).1

pub roomy-line : (line hold : List ℕ) → roomy line hold ≡ true → line_limit ≤ length line
roomy-line line hold e = leb-true _ _ (and_parts (leb line_limit (length line)) (leb hold_limit (length hold)) e).0

pub roomy-hold : (line hold : List ℕ) → roomy line hold ≡ true → hold_limit ≤ length hold
roomy-hold line hold e = leb-true _ _ (and_parts (leb line_limit (length line)) (leb hold_limit (length hold)) e).1

-- the end of the input
pub none-begun : (d : Desk) → d.st.stored ≡ 0 → end_bytes d ≡ []
none-begun d e = ap (λ (t : Bool). pick t [] last_feed) (eq-eqb _ _ e)

pub one-begun : (d : Desk) → (d.st.stored ≡ 0 → ⊥) → end_bytes d ≡ last_feed
one-begun d n = ap (λ (t : Bool). pick t [] last_feed) (ne_eqb _ _ n)

-- the next line's number, as the code counts it
pub numbered-as : (n : ℕ) → n < 2 ^ 64 → min (n + 1) (2 ^ 64 - 1) ≡ numbered n
numbered-as n h = grind arith

-- the start
pub start-ready : (hold : List ℕ) → hold_limit ≤ length hold → starting hold ≡ (Ready fresh_office, flag ∷ drop 1 hold)
start-ready hold h = ap (λ (t : Bool). pick t (StartRefused 11, hold) (Ready fresh_office, flag ∷ drop 1 hold)) (le-ltb _ _ h)
