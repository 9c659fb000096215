-- In which order answers come: those of whole words, and of the bytes before the first and behind the last.
-- none-given   where no marker stands, none comes, and it hunts on
-- first-given  a first word that is not whole gives none
-- few-given    each word gives its block answer, and then the answers of its message bytes; up to three bytes behind it give none
-- begun-given  nor does a further word that is not whole
-- lost-given   four that are not the marker give "lock lost"; then all is as a fresh receiver hears it that begins with these four
use Prim.Native.Nat.{ℕ, suc, ◌+◌, ◌<◌}
use native.Mathlib.Omega.{arith}
use mathlib.Core.Path.{◌≡◌, refl, sym, ◌∙◌, ap, subst}
use mathlib.Core.Bool.{Bool, true, false, ◌&&◌}
use mathlib.Core.Logic.{◌≢◌}
use mathlib.Core.List.{List, [], ◌∷◌, ◌++◌, append-nil}
use lib.Dec.{eqb}
use lib.ListN.{length, length-append}
use borrow.Author.Tests.{lt-ltb}
use Rattle.base.specs.Bytes.{Each}
use Rattle.base.specs.Calls.{and_then}
use Rattle.stream.specs.Meaning.{Reading, waiting}
use Rattle.channel_spec.specs.declared.Hunting.{Hunting}
use Rattle.channel_spec.specs.Sender.{marker, word_bytes, framed}
use Rattle.channel_spec.specs.Meaning.{mend, Event, lost, shift, is_marker, zeros, Chan, hunting, in_word, in_mark, fresh_channel, hunt, whole}
use Rattle.channel_spec.specs.Meaning.{grow, compared, step, hears, answers}
use Rattle.channel_spec.specs.Meaning.{IsWord, words_give, FirstMarker}
use Rattle.channel_spec.proofs.Given.{hears-append}
use Rattle.channel_spec.proofs.Marker.{bytes_of, the_marker, no-match, four_are, past-zeros}
use Rattle.channel_spec.proofs.Streaming.{behind_words, from_start, received}

-- ---- before the first marker, with f the last four: it hunts on
hunts-on : (bs : List ℕ) (f : Hunting) → ((xs ys : List ℕ) → bytes_of f ++ bs ≡ xs ++ (marker ++ ys) → ⊥)
    → (g : Hunting) × (hears (hunting f) bs ≡ ([], hunting g))
hunts-on [] f h = (f, refl)
hunts-on (b ∷ bs) f h =
    let r = hunts-on bs (shift f b) (λ xs ys q. h (f.a ∷ xs) ys (ap (λ x. f.a ∷ x) q)) in
    let n = no-match (is_marker (shift f b)) (shift f b) refl (λ q. h (f.a ∷ []) bs (ap (λ x. f.a ∷ (x ++ bs)) q)) in
    (r.0, ap (λ t. hears (hunt t (shift f b)) bs) n ∙ r.1)

pub none-given : (bs : List ℕ) → ((xs ys : List ℕ) → bs ≡ xs ++ (marker ++ ys) → ⊥) → (g : Hunting) × (hears fresh_channel bs ≡ ([], hunting g))
none-given bs h = hunts-on bs zeros λ xs ys e. let r = past-zeros bs xs ys e in h r.0 ys r.2

-- ---- a word that is not whole
part-word : (bs w : List ℕ) (f : Hunting) (r : Reading) → length w + length bs < word_bytes → (hears (in_word f w r) bs).0 ≡ []
part-word [] w f r h = refl
part-word (b ∷ bs) w f r h =
    let l : length (w ++ b ∷ []) ≡ length w + 1 = length-append w (b ∷ []) in
    ap (λ t. (and_then (grow t f (w ++ b ∷ []) r) (λ t. hears t bs)).0) (lt-ltb (suc (length w)) word_bytes (omega arith))
    ∙ part-word bs (w ++ b ∷ []) f r (omega arith)

pub first-given : (stray bs : List ℕ) → FirstMarker stray (marker ++ bs) → length bs < word_bytes → answers (stray ++ (marker ++ bs)) ≡ []
first-given stray bs m h = ap (λ (x : List Event × Chan). x.0) (from_start stray bs m) ∙ part-word bs [] the_marker waiting (omega arith)

-- ---- behind words
-- behind words a marker is read
behind-mark : (ws : List (List ℕ)) (f : Hunting) (u : List ℕ) (r : Reading)
    → (g : Hunting) × (v : List ℕ) × (q : Reading) × (behind_words f u ws r ≡ in_mark g v 0 q)
behind-mark [] f u r = (f, u, r, refl)
behind-mark (w ∷ ws) f u r = behind-mark ws the_marker (mend w) (whole w r).1

-- up to three bytes of it
few : (g : Hunting) (v : List ℕ) (q : Reading) (bs : List ℕ) → length bs < 4 → (hears (in_mark g v 0 q) bs).0 ≡ []
few g v q [] h = refl
few g v q (a ∷ []) h = refl
few g v q (a ∷ b ∷ []) h = refl
few g v q (a ∷ b ∷ c ∷ []) h = refl
few g v q (a ∷ b ∷ c ∷ d ∷ bs) h = absurd (omega arith)

-- four that differ: "lock lost", and then all is as a fresh receiver hears it that begins with them
no : (t : Bool) → t && false ≡ false
no true = refl
no false = refl

module _ (f : Hunting) (cs : List ℕ) where
  -- a fresh receiver has not found the marker behind three bytes ..
  behind-four : is_marker f ≡ false → hears fresh_channel (bytes_of f ++ cs) ≡ hears (hunting f) cs
  behind-four e =
      let a : ℕ = f.a in
      let b : ℕ = f.b in
      let c : ℕ = f.c in
      let d : ℕ = f.d in
      ap (λ t. hears (hunt t (shift zeros a)) (b ∷ c ∷ d ∷ cs)) (no (eqb a 0x42))
      ∙ ap (λ t. hears (hunt t (shift (shift zeros a) b)) (c ∷ d ∷ cs)) (ap (λ u. eqb b 0x42 && u) (no (eqb a 0xE2)) ∙ no (eqb b 0x42))
      ∙ ap (λ t. hears (hunt t (shift (shift (shift zeros a) b) c)) (d ∷ cs))
      (ap (λ u. eqb c 0x42 && u) (ap (λ u. eqb b 0xE2 && u) (no (eqb a 0x3A)) ∙ no (eqb b 0xE2)) ∙ no (eqb c 0x42))
      ∙ ap (λ t. hears (hunt t f) cs) e

  -- .. and one that is locked has lost lock with the fourth
  four : (g : Hunting) (v : List ℕ) (q : Reading) → bytes_of f ≢ marker
      → hears (in_mark g v 0 q) (bytes_of f ++ cs) ≡ (lost ∷ (hears fresh_channel (bytes_of f ++ cs)).0, (hears fresh_channel (bytes_of f ++ cs)).1)
  four g v q n =
      let e : is_marker f ≡ false = no-match (is_marker f) f refl n in
      ap (λ t. and_then (compared t f q) (λ u. hears u cs)) e ∙ (λ i. (lost ∷ (sym (behind-four e) i).0, (sym (behind-four e) i).1))

lost-with : (g : Hunting) (v : List ℕ) (q : Reading) (bs cs : List ℕ) → length bs ≡ 4 → bs ≢ marker
    → hears (in_mark g v 0 q) (bs ++ cs) ≡ (lost ∷ (hears fresh_channel (bs ++ cs)).0, (hears fresh_channel (bs ++ cs)).1)
lost-with g v q bs cs h n =
    let f = four_are bs h in
    subst (λ x. hears (in_mark g v 0 q) (x ++ cs) ≡ (lost ∷ (hears fresh_channel (x ++ cs)).0, (hears fresh_channel (x ++ cs)).1)) f.1
    (four f.0 cs g v q (λ e. n (sym f.1 ∙ e)))

module _ (stray : List ℕ) (ws : List (List ℕ)) (some : ws ≢ []) (words : Each IsWord ws) (first : FirstMarker stray (framed ws)) where
  -- behind whole words bytes follow: they are heard where a marker is read
  behind-words : (g : Hunting) × (v : List ℕ) × (q : Reading)
      × ((bs : List ℕ) → hears fresh_channel ((stray ++ framed ws) ++ bs) ≡ (
        words_give ws waiting ++ (hears (in_mark g v 0 q) bs).0,
        (hears (in_mark g v 0 q) bs).1,
      ))
  behind-words =
      let m = behind-mark ws zeros [] waiting in (
        m.0,
        m.1,
        m.2,
        λ bs.
            hears-append step fresh_channel (stray ++ framed ws) bs
            ∙ ap (λ (x : List Event × Chan). and_then x (λ t. hears t bs)) (received stray ws some words first)
            ∙ (λ i. (words_give ws waiting ++ (hears (m.3 i) bs).0, (hears (m.3 i) bs).1)),
      )

  pub few-given : (bs : List ℕ) → length bs < 4 → answers ((stray ++ framed ws) ++ bs) ≡ words_give ws waiting
  few-given bs h =
      let m = behind-words in
      ap (λ (x : List Event × Chan). x.0) (m.3 bs) ∙ ap (λ (l : List Event). words_give ws waiting ++ l) (few m.0 m.1 m.2 bs h)
      ∙ append-nil (words_give ws waiting)

  pub begun-given : (bs : List ℕ) → length bs < word_bytes → answers ((stray ++ framed ws) ++ (marker ++ bs)) ≡ words_give ws waiting
  begun-given bs h =
      let m = behind-words in
      ap (λ (x : List Event × Chan). x.0) (m.3 (marker ++ bs))
      ∙ ap (λ (l : List Event). words_give ws waiting ++ l) (part-word bs [] the_marker m.2 (omega arith))
      ∙ append-nil (words_give ws waiting)

  pub lost-given : (bs cs : List ℕ) → length bs ≡ 4 → bs ≢ marker
      → hears fresh_channel ((stray ++ framed ws) ++ (bs ++ cs)) ≡ (words_give ws waiting ++ lost ∷ answers (bs ++ cs), (hears fresh_channel (bs ++ cs)).1)
  lost-given bs cs h n =
      let m = behind-words in
      m.3 (bs ++ cs) ∙ ap (λ (y : List Event × Chan). (words_give ws waiting ++ y.0, y.1)) (lost-with m.0 m.1 m.2 bs cs h n)
