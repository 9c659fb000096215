-- The reader as called follows the reader whose memory has no limit.
-- Shows       what a state and a store show of a reading
-- follows     one byte: the same answer, and what is shown is again the reading
-- shows-all   all bytes of a string
-- ends_as     the end of the file
use mathlib.Core.Path.{◌≡◌, refl, sym, ap, subst, ◌∙◌}
use mathlib.Core.Bool.{Bool, true, false}
use mathlib.Core.List.{List, [], ◌∷◌, ◌++◌}
use mathlib.Core.Option.{Option, some, none, none-ne-some}
use Prim.Native.Nat.{ℕ, ◌+◌, ◌≤◌, ◌<◌}
use native.Mathlib.Numerals.{add-one}
use native.Mathlib.Omega.{arith}
use borrow.Author.Tests.{eq-eqb, ne_eqb, eqb-false, lt-ltb, le-ltb, le-leb}
use lib.Dec.{eqb, ltb}
use lib.ListN.{length, get_or, take, set, length-append}
use lib.Seq.{take-suc-set, get_or-take, length-take-le}
use Rattle.base.specs.Choice.{pick}
use Rattle.base.specs.Calls.{tell}
use Rattle.base.proofs.Tests.{by-eq, by_le}
use Rattle.packet_spec.specs.Frame.{Told, refusal}
use Rattle.capture_spec.specs.File.{header}
use Rattle.capture_spec.specs.Meaning.{entry, entry_limit, Reading, in_header, in_head, in_record, behind, four_at, headed, read, reads, ends}
use Rattle.capture_spec.specs.Meaning as import
use Rattle.capture_spec.proofs.Entry.{entry-ways, entry-long}
use Rattle.capture.specs.declared.reader.CaptureReader.TheVariants.{Header, Head, Record, Behind}
use Rattle.capture.specs.Call.{Held, held, says, headed_by, with, take_by, take_byte, read_all, ending, finishing, ended_as}
use Rattle.capture.proofs.Hearing.{take-length}

-- the bytes of a head stand in the store, and those of a record that is not longer than a packet
pub data Shows : Held → Reading → Type 0 where
  in-header : {k : ℕ} {st : List ℕ} → k < 24 → Shows (held (Header k) st) (in_header k)
  in_head_lem : {k : ℕ} {st h : List ℕ} → k < 16 → h ≡ take k st → Shows (held (Head k) st) (in_head h)
  in-record : {n d : ℕ} {st bs : List ℕ} → d < n → length bs ≡ d → (n ≤ entry_limit → bs ≡ take d st) → Shows (held (Record n d) st) (in_record n bs)
  in-fault : {f : ℕ} {st : List ℕ} → 60 ≤ f → f ≤ 62 → Shows (held (Behind f) st) (behind f)

-- the same answer, and what is shown is the reading
abbrev Follows : Option Told × Held → Option Told × Reading → Type 0
Follows x y = (x.0 ≡ y.0) × Shows x.1 y.1

follow : {x x' : Option Told × Held} {y y' : Option Told × Reading} → x ≡ x' → y ≡ y' → Follows x' y' → Follows x y
follow {x} {x'} {y} {y'} e f h = subst (λ (a : Option Told × Held). Follows a y) (sym e) (subst (λ (a : Option Told × Reading). Follows x' a) (sym f) h)

-- behind a record that is told to be this
said : (bs st : List ℕ) → Follows (with (says (entry bs)) st) (import.says (entry bs))
said bs st =
    entry-ways bs (λ (t : Told). Follows (with (says t) st) (import.says t)) (refl, in-fault {f = 62} (omega arith) (omega arith))
    (λ p l e. (refl, in_head_lem {k = 0} (omega arith) refl))

-- ---- the header
header-follows : (k b : ℕ) (st : List ℕ) → k < 24 → Follows (take_by (Header k) st b) (read (in_header k) b)
unfolding read
header-follows k b st l = go (eqb b (get_or header k 0)) (eqb (k + 1) 24) refl
  where
    go : (t u : Bool) → eqb (k + 1) 24 ≡ u
        → Follows (with (pick t (none, pick u (Head 0) (Header (k + 1))) (says (refusal 60))) st)
        (pick t (none, pick u (in_head []) (in_header (k + 1))) (import.says (refusal 60)))
    go false u e = (refl, in-fault {f = 60} (omega arith) (omega arith))
    go true true e = (refl, in_head_lem {k = 0} (omega arith) refl)
    go true false e = (refl, in-header {k = k + 1} (omega (arith, l, eqb-false (k + 1) 24 e)))

-- ---- a head
sized-follows : (m n : ℕ) (st : List ℕ)
    → Follows (with (pick (eqb m n) (pick (eqb m 0) (says (refusal 62)) (none, Record m 0)) (says (refusal 61))) st)
    (pick (eqb m n) (import.record_by (eqb m 0) m []) (import.says (refusal 61)))
unfolding entry
sized-follows m n st = go (eqb m n) (eqb m 0) refl
  where
    go : (t u : Bool) → eqb m 0 ≡ u
        → Follows (with (pick t (pick u (says (refusal 62)) (none, Record m 0)) (says (refusal 61))) st)
        (pick t (import.record_by u m []) (import.says (refusal 61)))
    go false u e = (refl, in-fault {f = 61} (omega arith) (omega arith))
    go true true e = (refl, in-fault {f = 62} (omega arith) (omega arith))
    go true false e = (refl, in-record {n = m} {d = 0} (omega (arith, eqb-false m 0 e)) refl (λ l. refl))

four-take : (st : List ℕ) (i : ℕ) → i + 3 < 16 → four_at (take 16 st) i ≡ four_at st i
four-take st i h =
    rw (
      get_or-take 16 st i 0 (omega (arith, h)),
      get_or-take 16 st (i + 1) 0 (omega (arith, h)),
      get_or-take 16 st (i + 2) 0 (omega (arith, h)),
      get_or-take 16 st (i + 3) 0 h,
    ) refl

headed-follows : (st : List ℕ) → Follows (with (headed_by st) st) (headed (take 16 st))
headed-follows st =
    let m = four-take st 8 (omega arith) in
    let n = four-take st 12 (omega arith) in
    follow refl (λ i. pick (eqb (m i) (n i)) (import.record_by (eqb (m i) 0) (m i) []) (import.says (refusal 61)))
    (sized-follows (four_at st 8) (four_at st 12) st)

-- a byte more, stored
more : (st : List ℕ) (k b : ℕ) {bs : List ℕ} → k < length st → bs ≡ take k st → bs ++ b ∷ [] ≡ take (k + 1) (set st k b)
more st k b l e = ap (λ (x : List ℕ). x ++ b ∷ []) e ∙ sym (ap (λ (n : ℕ). take n (set st k b)) (add-one k) ∙ take-suc-set st k b l)

head-follows : (k b : ℕ) (st h : List ℕ) → k < 16 → entry_limit ≤ length st → h ≡ take k st → Follows (take_by (Head k) st b) (read (in_head h) b)
unfolding read
head-follows k b st h l room s = follow refl (ap (λ (n : ℕ). pick (eqb (n + 1) 16) (headed (h ++ b ∷ [])) (none, in_head (h ++ b ∷ []))) long)
    (by-eq (k + 1) 16 last on)
  where
    long : length h ≡ k
    long = ap length s ∙ length-take-le k st (omega (arith, l, room))

    now : h ++ b ∷ [] ≡ take (k + 1) (set st k b)
    now = more st k b (omega (arith, l, room)) s

    last : k + 1 ≡ 16 → Follows (take_by (Head k) st b) (pick (eqb (k + 1) 16) (headed (h ++ b ∷ [])) (none, in_head (h ++ b ∷ [])))
    last e = rw (eq-eqb (k + 1) 16 e) (follow refl (ap headed (now ∙ ap (λ (n : ℕ). take n (set st k b)) e)) (headed-follows (set st k b)))

    on : (k + 1 ≡ 16 → ⊥) → Follows (take_by (Head k) st b) (pick (eqb (k + 1) 16) (headed (h ++ b ∷ [])) (none, in_head (h ++ b ∷ [])))
    on z = rw (ne_eqb (k + 1) 16 z) (refl, in_head_lem {k = k + 1} (omega (arith, l, z)) now)

-- ---- a record's bytes
module _ (n d b : ℕ) (st bs : List ℕ) (l : d < n) (room : entry_limit ≤ length st) (long : length bs ≡ d) (s : n ≤ entry_limit → bs ≡ take d st) where
  abbrev stored : List ℕ
  stored = set st d b

  now : n ≤ entry_limit → bs ++ b ∷ [] ≡ take (d + 1) stored
  now h = more st d b (omega (arith, l, room, h)) (s h)

  size : length (bs ++ b ∷ []) ≡ d + 1
  size = length-append bs (b ∷ []) ∙ omega (arith, long)

  -- the record is told to be what its bytes are
  told : d + 1 ≡ n → pick (ltb entry_limit n) (refusal 62) (entry (take n stored)) ≡ entry (bs ++ b ∷ [])
  told e =
      by_le n entry_limit (λ h. rw (le-ltb entry_limit n h) (ap entry (sym (now h ∙ ap (λ (m : ℕ). take m stored) e))))
      (λ h. rw (lt-ltb entry_limit n h) (sym (entry-long (bs ++ b ∷ []) (omega (arith, size, e, h)))))

  record-follows : Follows (take_by (Record n d) st b) (read (in_record n bs) b)
  unfolding read
  record-follows = follow refl (ap (λ (m : ℕ). import.record_by (eqb (m + 1) n) n (bs ++ b ∷ [])) long) (by-eq (d + 1) n last on)
    where
      last : d + 1 ≡ n → Follows (take_by (Record n d) st b) (import.record_by (eqb (d + 1) n) n (bs ++ b ∷ []))
      last e = rw (eq-eqb (d + 1) n e) (follow (ap (λ (t : Told). with (says t) stored) (told e)) refl (said (bs ++ b ∷ []) stored))

      on : (d + 1 ≡ n → ⊥) → Follows (take_by (Record n d) st b) (import.record_by (eqb (d + 1) n) n (bs ++ b ∷ []))
      on z = rw (ne_eqb (d + 1) n z) (refl, in-record {n = n} {d = d + 1} (omega (arith, l, z)) size now)

-- ---- one byte
pub follows : {h : Held} {s : Reading} (b : ℕ) → Shows h s → entry_limit ≤ length h.store → Follows (take_byte h b) (read s b)
unfolding read
follows b (in-header {k} {st} l) room = header-follows k b st l
follows b (in_head_lem {k} {st} {h} l s) room = head-follows k b st h l room s
follows b (in-record {n} {d} {st} {bs} l e s) room = record-follows n d b st bs l room e s
follows b (in-fault l m) room = (refl, in-fault l m)

-- ---- all bytes of a string
tell-as : (o o' : Option Told) {xs ys : List Told} {t : Held} {s : Reading} → o ≡ o' → xs ≡ ys → Shows t s
    → ((tell o (xs, t)).0 ≡ (tell o' (ys, s)).0) × Shows (tell o (xs, t)).1 (tell o' (ys, s)).1
tell-as none none e f h = (f, h)
tell-as (some a) (some c) e f h = (λ i. cons (e i) (f i), h)
  where
    cons : Option Told → List Told → List Told
    cons (some x) xs = x ∷ xs
    cons none xs = a ∷ xs
tell-as none (some c) e f h = absurd (none-ne-some c e)
tell-as (some a) none e f h = absurd (none-ne-some a (sym e))

pub shows-all : (bs : List ℕ) (h : Held) (s : Reading) → Shows h s → entry_limit ≤ length h.store
    → ((read_all h bs).0 ≡ (reads s bs).0) × Shows (read_all h bs).1 (reads s bs).1
shows-all [] h s q room = (refl, q)
shows-all (b ∷ bs) h s q room =
    let f = follows b q room in
    let r = shows-all bs (take_byte h b).1 (read s b).1 f.1 (subst (λ (n : ℕ). entry_limit ≤ n) (sym (take-length h.st h.store b)) room) in
    tell-as (take_byte h b).0 (read s b).0 f.0 r.0 r.1

-- ---- the end of the file
pub ends_as : {h : Held} {s : Reading} → Shows h s → entry_limit ≤ length h.store → ended_as (finishing h.st) ≡ ends s
ends_as (in-header {k} l) room = rw (lt-ltb k 24 l) refl
ends_as (in_head_lem {k} {st} {h} l s) room = rw (lt-ltb k 16 l) (go h (ap length s ∙ length-take-le k st (omega (arith, l, room))))
  where
    go : (h : List ℕ) → length h ≡ k → ended_as (ending (Head k)) ≡ ends (in_head h)
    go [] e = rw (eq-eqb k 0 (sym e)) refl
    go (b ∷ h) e = rw (ne_eqb k 0 (λ q. absurd (omega (arith, e, q)))) refl
ends_as (in-record {n} {d} l e s) room = rw (lt-ltb d n l) refl
ends_as (in-fault {f} l m) room = rw (le-leb 60 f l, le-leb f 62 m) refl
