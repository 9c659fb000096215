-- Laws of the reader without a limit.
-- opened-behind                the packets opened from a flag on are the last of the stream, and what stands behind the flag
-- none-opened                  from a place behind the stream on none is opened
-- synchronised                 behind a flag the state is the same, whatever came before
-- ignored                      bytes before the first flag are ignored
-- unclosed, between-flags      bytes behind a flag that no flag follows are kept, and what stands between two flags is told at the second
-- behind-read, stream-read     a whole stream, filled with flags, gives its packets, once each, in order, and nothing else
-- from-flag                    and so does its rest from any flag on
use Prim.Native.Nat.{ℕ, zero, suc, ◌-◌, ◌≤◌}
use native.Mathlib.Omega.{arith}
use mathlib.Core.Path.{◌≡◌, refl, sym, ◌∙◌, ap}
use mathlib.Core.Logic.{◌≢◌}
use mathlib.Core.List.{List, [], ◌∷◌, ◌++◌, map, append-nil, append_assoc, nil≢cons, head-eq_of_cons-eq, tail-eq_of_cons-eq}
use mathlib.Core.Option.{some}
use lib.ListN.{length, replicate, length-append}
use lib.Seq.{append_snoc}
use borrow.Author.Tests.{ne_eqb}
use Rattle.base.specs.Bytes.{Each}
use Rattle.base.specs.Calls.{tell}
use Rattle.base.proofs.Calls.{run-append}
use Rattle.packet_spec.specs.Escape.{flag, NoFlag}
use Rattle.packet_spec.specs.Frame.{judge}
use Rattle.stream.specs.Meaning.{Reading, waiting, inside, closing, read, reads}
use Rattle.packet_spec.specs.Sender.{Accepted}
use Rattle.stream.specs.Sender.{raw_of, frames_of, stream, delivered, opened_from}
use Rattle.packet_spec.specs.Contents.{Packet}
use Rattle.stream.proofs.Accepting.{clear, some-raw, judged-is}

-- a flag behind bytes that are none stands behind all of them
past : (bs : List ℕ) → NoFlag bs → (cs xs ys : List ℕ) → bs ++ flag ∷ cs ≡ xs ++ flag ∷ ys
    → (zs : List ℕ) × (xs ≡ bs ++ zs) × (flag ∷ cs ≡ zs ++ flag ∷ ys)
past [] h cs xs ys e = (xs, refl, e)
past (b ∷ bs) h cs [] ys e = absurd (h.0 (head-eq_of_cons-eq e))
past (b ∷ bs) h cs (x ∷ xs) ys e =
    let r : (zs : List ℕ) × (xs ≡ bs ++ zs) × (flag ∷ cs ≡ zs ++ flag ∷ ys) = past bs h.1 cs xs ys (tail-eq_of_cons-eq e) in
    (r.0, (λ i. sym (head-eq_of_cons-eq e) i ∷ r.1 i), r.2)

-- they are the last packets of the stream ..
opened-last : (ps : List Packet) (n : ℕ) → (qs : List Packet) × (ps ≡ qs ++ opened_from ps n)
opened-last [] n = ([], refl)
opened-last (p ∷ ps) zero = ([], refl)
opened-last (p ∷ ps) (suc n) = let r = opened-last ps (n - length (raw_of p)) in (p ∷ r.0, ap (λ l. p ∷ l) r.1)

-- .. and what stands behind the flag at place n is their frames, and nothing else
pub opened-behind : (ps : List Packet) → Each (λ p. NoFlag (raw_of p)) ps → (xs ys : List ℕ) → stream ps ≡ xs ++ flag ∷ ys
    → ys ≡ frames_of (opened_from ps (length xs))
opened-behind [] h [] ys e = sym (tail-eq_of_cons-eq e)
opened-behind [] h (x ∷ []) ys e = absurd (nil≢cons (tail-eq_of_cons-eq e))
opened-behind [] h (x ∷ y ∷ xs) ys e = absurd (nil≢cons (tail-eq_of_cons-eq e))
opened-behind (p ∷ ps) h [] ys e = sym (tail-eq_of_cons-eq e)
opened-behind (p ∷ ps) h (x ∷ xs) ys e =
    let s : (zs : List ℕ) × (xs ≡ raw_of p ++ zs) × (flag ∷ frames_of ps ≡ zs ++ flag ∷ ys) =
    past (raw_of p) h.0 (frames_of ps) xs ys (tail-eq_of_cons-eq e) in
    let n : length xs - length (raw_of p) ≡ length s.0 = omega (arith, ap length s.1 ∙ length-append (raw_of p) s.0) in
    opened-behind ps h.1 s.0 ys s.2 ∙ ap (λ m. frames_of (opened_from ps m)) (sym n)

-- a flag behind the stream, as fill is, opens none
pub none-opened : (ps : List Packet) (n : ℕ) → length (stream ps) ≤ n → opened_from ps n ≡ []
none-opened [] n h = refl
none-opened (p ∷ ps) zero h = absurd (omega (arith, h))
none-opened (p ∷ ps) (suc n) h = none-opened ps (n - length (raw_of p)) (omega (arith, h, length-append (raw_of p) (flag ∷ frames_of ps)))

pub synchronised : (s : Reading) (bs : List ℕ) → (reads s (bs ++ flag ∷ [])).1 ≡ inside []
synchronised s bs = ap (λ r. r.1) (run-append read s bs (flag ∷ [])) ∙ go (reads s bs).1
  where
    go : (t : Reading) → (reads t (flag ∷ [])).1 ≡ inside []
    go waiting = refl
    go (inside []) = refl
    go (inside (r ∷ rs)) = refl

-- bytes that are no flags are kept
kept : (bs : List ℕ) → NoFlag bs → (rs cs : List ℕ) → reads (inside rs) (bs ++ cs) ≡ reads (inside (rs ++ bs)) cs
kept [] h rs cs = rw append-nil refl
kept (b ∷ bs) h rs cs = rw (ne_eqb b flag h.0) (kept bs h.1 (rs ++ b ∷ []) cs ∙ ap (λ l. reads (inside l) cs) (append_snoc rs b bs))

pub ignored : (bs : List ℕ) → NoFlag bs → (cs : List ℕ) → reads waiting (bs ++ cs) ≡ reads waiting cs
ignored [] h cs = refl
ignored (b ∷ bs) h cs = rw (ne_eqb b flag h.0) (ignored bs h.1 cs)

pub unclosed : (rs : List ℕ) → NoFlag rs → reads (inside []) rs ≡ ([], inside rs)
unclosed rs h = ap (reads (inside [])) (sym (append-nil rs)) ∙ kept rs h [] []

-- whatever stands between two flags
pub between-flags : (rs : List ℕ) → NoFlag rs → (cs : List ℕ) → reads (inside []) (rs ++ flag ∷ cs) ≡ tell (closing rs) (reads (inside []) cs)
between-flags rs h cs = kept rs h [] (flag ∷ cs)

-- fill: flags alone give no answer
flags : (k : ℕ) → reads (inside []) (replicate k flag) ≡ ([], inside [])
flags zero = refl
flags (suc k) = flags k

closing-some : (rs : List ℕ) → rs ≢ [] → closing rs ≡ some (judge rs)
closing-some [] h = absurd (h refl)
closing-some (r ∷ rs) h = refl

-- ---- packets that the sender takes
one-frame : (p : Packet) → Accepted p → (cs : List ℕ) → reads (inside []) (raw_of p ++ flag ∷ cs) ≡ tell (some (delivered p)) (reads (inside []) cs)
one-frame p a cs =
    between-flags (raw_of p) (clear p a) cs
    ∙ ap (λ o. tell o (reads (inside []) cs)) (closing-some (raw_of p) (some-raw p a) ∙ ap some (judged-is p a))

pub behind-read : (ps : List Packet) → Each Accepted ps → (k : ℕ) → reads (inside []) (frames_of ps ++ replicate k flag) ≡ (map delivered ps, inside [])
behind-read [] h k = flags k
behind-read (p ∷ ps) h k =
    ap (reads (inside [])) (append_assoc (raw_of p) (flag ∷ frames_of ps) (replicate k flag))
    ∙ one-frame p h.0 (frames_of ps ++ replicate k flag)
    ∙ ap (tell (some (delivered p))) (behind-read ps h.1 k)

-- a whole stream, filled with flags, gives the packets, once each, in order, and nothing else
pub stream-read : (ps : List Packet) → Each Accepted ps → (k : ℕ) → reads waiting (stream ps ++ replicate k flag) ≡ (map delivered ps, inside [])
stream-read ps h k = behind-read ps h k

fill-tail : (k : ℕ) (xs ys : List ℕ) → replicate k flag ≡ xs ++ flag ∷ ys → reads (inside []) ys ≡ ([], inside [])
fill-tail zero [] ys e = absurd (nil≢cons e)
fill-tail zero (x ∷ xs) ys e = absurd (nil≢cons e)
fill-tail (suc k) [] ys e = ap (reads (inside [])) (sym (tail-eq_of_cons-eq e)) ∙ flags k
fill-tail (suc k) (x ∷ xs) ys e = fill-tail k xs ys (tail-eq_of_cons-eq e)

-- from any flag of the filled stream on, the reading is that of the packets opened from it on
pub from-flag : (ps : List Packet) → Each Accepted ps → (k : ℕ) (xs ys : List ℕ) → stream ps ++ replicate k flag ≡ xs ++ flag ∷ ys
    → reads (inside []) ys ≡ (map delivered (opened_from ps (length xs)), inside [])
from-flag [] h k [] ys e = ap (reads (inside [])) (sym (tail-eq_of_cons-eq e)) ∙ flags k
from-flag [] h k (x ∷ xs) ys e = fill-tail k xs ys (tail-eq_of_cons-eq e)
from-flag (p ∷ ps) h k [] ys e = ap (reads (inside [])) (sym (tail-eq_of_cons-eq e)) ∙ behind-read (p ∷ ps) h k
from-flag (p ∷ ps) h k (x ∷ xs) ys e =
    let s : (zs : List ℕ) × (xs ≡ raw_of p ++ zs) × (flag ∷ (frames_of ps ++ replicate k flag) ≡ zs ++ flag ∷ ys) =
    past (raw_of p) (clear p h.0) (frames_of ps ++ replicate k flag) xs ys
    (sym (append_assoc (raw_of p) (flag ∷ frames_of ps) (replicate k flag)) ∙ tail-eq_of_cons-eq e) in
    let n : length xs - length (raw_of p) ≡ length s.0 = omega (arith, ap length s.1 ∙ length-append (raw_of p) s.0) in
    from-flag ps h.1 k s.0 ys s.2 ∙ ap (λ m. (map delivered (opened_from ps m), inside [])) (sym n)
