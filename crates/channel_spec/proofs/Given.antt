-- Laws of what words give, with r parity bytes.
-- hears-append                               a string is heard one part after the other
-- frames-given, blocks-given, losses-given   the answers of words, by kind
-- give-append                                words one after the other: their answers
-- words-stay, words-exact                    of a sent stream's words some are altered at will, one or more: the others stay clean, and behind a
--                                            flag of a later word the frame answers are exactly the sent packets opened from there on
use Prim.Native.Nat.{ℕ}
use mathlib.Core.Path.{◌≡◌, refl, sym, ◌∙◌, ap}
use mathlib.Core.List.{List, [], ◌∷◌, ◌++◌, map, append_assoc, map-append}
use lib.ListN.{length, replicate}
use lib.Seq.{append_snoc}
use Rattle.base.specs.Bytes.{Each}
use Rattle.base.specs.Calls.{and_then}
use Rattle.base.proofs.Bytes.{each-append-left, each-append-right}
use Rattle.base.proofs.Calls.{run-append}
use Rattle.packet_spec.specs.Contents.{Packet}
use Rattle.packet_spec.specs.Escape.{flag}
use Rattle.packet_spec.specs.Frame.{Told}
use Rattle.packet_spec.specs.Sender.{Accepted}
use Rattle.stream.specs.Meaning.{Reading, waiting, read, reads}
use Rattle.stream.specs.Sender.{stream, delivered, opened_from}
use Rattle.stream.proofs.Streaming.{synchronised, from-flag}
use Rattle.channel_spec.specs.Word.{condition, message, carried}
use Rattle.channel_spec.specs.Given.{Event, said, block, frames, blocks, losses, each_byte, words_give}
use Rattle.channel_spec.specs.declared.Condition.TheVariants.{Clean as clean}
use Rattle.channel_spec.proofs.Messages.{IsClean, all-clean}

pub hears-append : {S : Type 0} (step : S → ℕ → List Event × S) (s : S) (bs cs : List ℕ)
    → each_byte step s (bs ++ cs) ≡ and_then (each_byte step s bs) (λ t. each_byte step t cs)
hears-append step s [] cs = refl
hears-append {S} step s (b ∷ bs) cs =
    let x : List Event × S = each_byte step (step s b).1 bs in
    let y : List Event × S = each_byte step x.1 cs in
    ap (and_then (step s b)) (λ i t. hears-append step t bs cs i) ∙ (λ i. (sym (append_assoc (step s b).0 x.0 y.0) i, y.1))

frames-whole : (xs : List Told) (es : List Event) → frames (map said xs ++ es) ≡ xs ++ frames es
frames-whole [] es = refl
frames-whole (x ∷ xs) es = ap (λ l. x ∷ l) (frames-whole xs es)

blocks-whole : (xs : List Told) (es : List Event) → blocks (map said xs ++ es) ≡ blocks es
blocks-whole [] es = refl
blocks-whole (x ∷ xs) es = blocks-whole xs es

losses-whole : (xs : List Told) (es : List Event) → losses (map said xs ++ es) ≡ losses es
losses-whole [] es = refl
losses-whole (x ∷ xs) es = losses-whole xs es

module _ (r : ℕ) where
  -- the frame answers are those of the messages, put together
  pub frames-given : (ws : List (List ℕ)) (q : Reading) → frames (words_give r ws q).0 ≡ (reads q (carried r ws)).0
  frames-given [] q = refl
  frames-given (w ∷ ws) q =
      frames-whole (reads q (message r w)).0 (words_give r ws (reads q (message r w)).1).0
      ∙ ap (λ l. (reads q (message r w)).0 ++ l) (frames-given ws (reads q (message r w)).1)
      ∙ sym (ap (λ x. x.0) (run-append read q (message r w) (carried r ws)))

  pub blocks-given : (ws : List (List ℕ)) (q : Reading) → blocks (words_give r ws q).0 ≡ map (condition r) ws
  blocks-given [] q = refl
  blocks-given (w ∷ ws) q =
      ap (λ l. condition r w ∷ l) (blocks-whole (reads q (message r w)).0 (words_give r ws (reads q (message r w)).1).0
      ∙ blocks-given ws (reads q (message r w)).1)

  pub losses-given : (ws : List (List ℕ)) (q : Reading) → losses (words_give r ws q).0 ≡ 0
  losses-given [] q = refl
  losses-given (w ∷ ws) q = losses-whole (reads q (message r w)).0 (words_give r ws (reads q (message r w)).1).0 ∙ losses-given ws (reads q (message r w)).1

  pub give-append : (us vs : List (List ℕ)) (q : Reading) → (words_give r (us ++ vs) q).0 ≡ (words_give r us q).0 ++ (words_give r vs (words_give r us q).1).0
  give-append [] vs q = refl
  give-append (u ∷ us) vs q =
      let x : List Told × Reading = reads q (message r u) in
      let y : List Event × Reading = words_give r us x.1 in
      ap (λ l. block (condition r u) ∷ l)
      (ap (λ l. map said x.0 ++ l) (give-append us vs x.1) ∙ sym (append_assoc (map said x.0) y.0 (words_give r vs y.1).0))

  carried-append : (us vs : List (List ℕ)) → carried r (us ++ vs) ≡ carried r us ++ carried r vs
  carried-append [] vs = refl
  carried-append (u ∷ us) vs = ap (λ l. message r u ++ l) (carried-append us vs) ∙ sym (append_assoc (message r u) (carried r us) (carried r vs))

-- ---- in words that are clean, and carry a sent stream with flags behind it, the words us, one or more, are altered at will, to vs
module _ (r : ℕ) (earlier us vs later : List (List ℕ)) where
  abbrev altered : List (List ℕ)
  altered = earlier ++ (vs ++ later)

  pub words-stay : Each (IsClean r) (earlier ++ (us ++ later))
      → (blocks (words_give r altered waiting).0 ≡ replicate (length earlier) clean ++ (map (condition r) vs ++ replicate (length later) clean))
      × (losses (words_give r altered waiting).0 ≡ 0)
  words-stay h =
      let before = each-append-left (IsClean r) earlier (us ++ later) h in
      let behind = each-append-right (IsClean r) us later (each-append-right (IsClean r) earlier (us ++ later) h) in (
        blocks-given r altered waiting ∙ map-append (condition r) earlier (vs ++ later)
            ∙ ap (λ l. map (condition r) earlier ++ l) (map-append (condition r) vs later)
            ∙ (λ i. all-clean r earlier before i ++ (map (condition r) vs ++ all-clean r later behind i)),
        losses-given r altered waiting,
      )

  split_at : (x : List (List ℕ)) (pre post : List ℕ) → carried r later ≡ pre ++ flag ∷ post
      → carried r (earlier ++ (x ++ later)) ≡ (carried r (earlier ++ x) ++ pre) ++ flag ∷ post
  split_at x pre post e =
      ap (carried r) (sym (append_assoc earlier x later)) ∙ carried-append r (earlier ++ x) later
      ∙ ap (λ l. carried r (earlier ++ x) ++ l) e ∙ sym (append_assoc (carried r (earlier ++ x)) pre (flag ∷ post))

  -- `pre` are the message bytes of the later words before the flag
  pub words-exact : (ps : List Packet) → Each Accepted ps → (k : ℕ) → carried r (earlier ++ (us ++ later)) ≡ stream ps ++ replicate k flag
      → (pre post : List ℕ) → carried r later ≡ pre ++ flag ∷ post
      → frames (words_give r altered waiting).0
      ≡ (reads waiting ((carried r (earlier ++ vs) ++ pre) ++ flag ∷ [])).0 ++ map delivered (opened_from ps (length (carried r (earlier ++ us) ++ pre)))
  words-exact ps a k c pre post e =
      frames-given r altered waiting
      ∙ ap (λ l. (reads waiting l).0) (split_at vs pre post e ∙ sym (append_snoc (carried r (earlier ++ vs) ++ pre) flag post))
      ∙ ap (λ x. x.0) (run-append read waiting ((carried r (earlier ++ vs) ++ pre) ++ flag ∷ []) post)
      ∙ ap (λ l. (reads waiting ((carried r (earlier ++ vs) ++ pre) ++ flag ∷ [])).0 ++ l)
      (ap (λ q. (reads q post).0) (synchronised waiting (carried r (earlier ++ vs) ++ pre))
      ∙ ap (λ x. x.0) (from-flag ps a k (carried r (earlier ++ us) ++ pre) post (sym c ∙ split_at us pre post e)))
