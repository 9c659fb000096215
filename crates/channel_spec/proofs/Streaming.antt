-- Laws of the receiver without a limit: a sender's whole marked stream gives its packets, and one altered block harms no other.
-- from_start                               behind the first marker a word is read
-- behind_words                              the state behind words
-- received                                 after stray bytes, the answers are those of the words, and so is the state behind them
-- first-markers                            where the marker first appears does not hang on the words
-- sent-messages, sent-each, sent-bytes, sent-some   the words of packets that the sender takes
-- words-carry                              .. and of any bytes
-- whole-stream                             a whole marked stream gives its packets, once each, in order, and nothing else
-- earlier-same, later-exact, others-clean  one block altered: the answers of the earlier ones, those behind a flag of a later one,
--                                          and that the others stay clean
use Prim.Native.Nat.{ℕ, suc, ◌+◌, ◌<◌}
use native.Mathlib.Omega.{arith}
use mathlib.Core.Path.{◌≡◌, refl, sym, ◌∙◌, ap, subst}
use mathlib.Core.Logic.{◌≢◌}
use mathlib.Core.List.{List, [], ◌∷◌, ◌++◌, map, append_assoc, nil≢cons, cons≢nil}
use lib.ListN.{length, replicate, length-append}
use lib.Seq.{append_snoc}
use lib.Dec.{lit<}
use borrow.Author.Tests.{lt-ltb, le-ltb}
use Rattle.base.specs.Bytes.{Each, Bytes}
use Rattle.base.specs.Calls.{and_then}
use Rattle.base.proofs.Bytes.{each-append-left, each-append-right, each_append}
use Rattle.packet_spec.specs.Contents.{Packet}
use Rattle.packet_spec.specs.Escape.{flag}
use Rattle.packet_spec.specs.Sender.{Accepted}
use Rattle.stream.specs.Meaning.{Reading, waiting, reads}
use Rattle.stream.specs.Sender.{stream, delivered, opened_from}
use Rattle.stream.proofs.Streaming.{stream-read}
use Rattle.channel_spec.specs.declared.Hunting.{Hunting}
use Rattle.channel_spec.specs.Sender.{marker, parity_bytes, word_bytes, word_of, framed, fillers, filled, messages_of, sent_words, sent}
use Rattle.channel_spec.specs.Meaning.{condition, mend, Event, frames, blocks, losses, shift, zeros, words_give, IsWord, carried, FirstMarker}
use Rattle.channel_spec.specs.Meaning.{Chan, hunting, in_word, in_mark, fresh_channel, whole, hunt, grow, step, hears, answers}
use Rattle.channel_spec.specs.declared.Condition.TheVariants.{Clean as clean}
use Rattle.channel_spec.proofs.Messages as messages
use Rattle.channel_spec.proofs.Messages.{IsMessage, IsClean, all-clean, stream-bytes}
use Rattle.channel_spec.proofs.Given.{hears-append, frames-given, blocks-given, losses-given, words-stay, words-exact}
use Rattle.channel_spec.proofs.Marker.{the_marker, first-marker, found}
use Rattle.channel_spec.proofs.Marking.{framed-append}

word_read : (v w : List ℕ) (f : Hunting) (r : Reading) (cs : List ℕ) → length w < word_bytes → length w + length v ≡ word_bytes
    → hears (in_word f w r) (v ++ cs) ≡ and_then ((whole (w ++ v) r).0, in_mark f (mend (w ++ v)) 0 (whole (w ++ v) r).1) (λ t. hears t cs)
word_read [] w f r cs h e = absurd (omega arith)
word_read (b ∷ []) w f r cs h e = rw (le-ltb (suc (length w)) word_bytes (omega arith)) refl
word_read (b ∷ c ∷ v) w f r cs h e =
    let l : length (w ++ b ∷ []) ≡ length w + 1 = length-append w (b ∷ []) in
    ap (λ t. and_then (grow t f (w ++ b ∷ []) r) (λ t. hears t (c ∷ v ++ cs))) (lt-ltb (suc (length w)) word_bytes (omega arith))
    ∙ word_read (c ∷ v) (w ++ b ∷ []) f r cs (omega arith) (omega arith)
    ∙ ap (λ u. and_then ((whole u r).0, in_mark f (mend u) 0 (whole u r).1) (λ t. hears t cs)) (append_snoc w b (c ∷ v))

-- the state behind words, where they come behind the word u
abbrev pub behind_words : Hunting → List ℕ → List (List ℕ) → Reading → Chan
behind_words f u [] r = in_mark f u 0 r
behind_words f u (w ∷ ws) r = behind_words the_marker (mend w) ws (whole w r).1

framed-read : (ws : List (List ℕ)) → Each IsWord ws → (f : Hunting) (u : List ℕ) (r : Reading)
    → hears (in_mark f u 0 r) (framed ws) ≡ (words_give ws r, behind_words f u ws r)
framed-read [] h f u r = refl
framed-read (w ∷ ws) h f u r =
    word_read w [] the_marker r (framed ws) (lit< tt) (let e : length w ≡ word_bytes = h.0 in omega arith)
    ∙ ap (λ (x : List Event × Chan). ((whole w r).0 ++ x.0, x.1)) (framed-read ws h.1 the_marker (mend w) (whole w r).1)

pub from_start : (stray cs : List ℕ) → FirstMarker stray (marker ++ cs)
    → hears fresh_channel (stray ++ (marker ++ cs)) ≡ hears (in_word the_marker [] waiting) cs
from_start =
    found (λ f. hears (hunting f)) (hears (in_word the_marker [] waiting)) (λ f b bs e. ap (λ t. hears (hunt t (shift f b)) bs) e) (λ f bs. refl)

-- a fresh receiver that hears stray bytes and then words, each with the marker before it: the answers are those of the words
pub received : (stray : List ℕ) (ws : List (List ℕ)) → ws ≢ [] → Each IsWord ws → FirstMarker stray (framed ws)
    → hears fresh_channel (stray ++ framed ws) ≡ (words_give ws waiting, behind_words zeros [] ws waiting)
received stray [] n h m = absurd (n refl)
received stray (w ∷ ws) n h m = from_start stray (w ++ framed ws) m ∙ framed-read (w ∷ ws) h zeros [] waiting

pub first-markers : (stray : List ℕ) (us ws : List (List ℕ)) → us ≢ [] → ws ≢ [] → FirstMarker stray (framed us) → FirstMarker stray (framed ws)
first-markers stray [] ws m n h = absurd (m refl)
first-markers stray (u ∷ us) [] m n h = absurd (n refl)
first-markers stray (u ∷ us) (w ∷ ws) m n h = first-marker stray (u ++ framed us) (w ++ framed ws) h

some_words : (xs : List (List ℕ)) (w : List ℕ) (ys : List (List ℕ)) → xs ++ w ∷ ys ≢ []
some_words [] w ys e = cons≢nil e
some_words (x ∷ xs) w ys e = cons≢nil e

-- ---- what is sent of any bytes: their words carry them, filled with flags
pub words-carry : (bs : List ℕ) → Bytes bs → carried (map word_of (messages_of bs)) ≡ filled bs
words-carry = messages.words-carry parity_bytes (omega arith)

-- ---- what is sent of packets that the sender takes
module _ (ps : List Packet) (a : Each Accepted ps) where
  pub sent-messages : Each (IsMessage parity_bytes) (messages_of (stream ps))
  sent-messages = messages.messages-each parity_bytes (omega arith) (stream ps) (stream-bytes ps a)

  sent-clean-each : Each (IsClean parity_bytes) (sent_words ps)
  sent-clean-each = messages.words-clean parity_bytes (omega arith) (messages_of (stream ps)) sent-messages

  pub sent-each : Each IsWord (sent_words ps)
  sent-each = messages.words-each parity_bytes (omega arith) (messages_of (stream ps)) sent-messages

  pub sent-bytes : carried (sent_words ps) ≡ filled (stream ps)
  sent-bytes = words-carry (stream ps) (stream-bytes ps a)

  pub sent-some : sent_words ps ≢ []
  sent-some e = nil≢cons (sym (ap carried e) ∙ sent-bytes)

-- stray bytes and then a sender's whole marked stream, the marker first appearing where that stream begins: the sent packets are
-- delivered once each, in order, and nothing else; every block is clean, and no lock is lost
pub whole-stream : (stray : List ℕ) (ps : List Packet) → Each Accepted ps → FirstMarker stray (sent ps)
    → (frames (answers (stray ++ sent ps)) ≡ map delivered ps)
    × (blocks (answers (stray ++ sent ps)) ≡ replicate (length (sent_words ps)) clean)
    × (losses (answers (stray ++ sent ps)) ≡ 0)
whole-stream stray ps a h =
    let e = ap (λ x. x.0) (received stray (sent_words ps) (sent-some ps a) (sent-each ps a) h) in (
      ap frames e ∙ frames-given parity_bytes (sent_words ps) waiting
          ∙ ap (λ l. (reads waiting l).0) (sent-bytes ps a)
          ∙ ap (λ x. x.0) (stream-read ps a (fillers (length (stream ps)))),
      ap blocks e ∙ blocks-given parity_bytes (sent_words ps) waiting ∙ all-clean parity_bytes (sent_words ps) (sent-clean-each ps a),
      ap losses e ∙ losses-given parity_bytes (sent_words ps) waiting,
    )

-- ---- the 255 bytes of one block, w as sent, are altered at will, to v, and no marker is
module _ (stray : List ℕ) (ps : List Packet) (accepted : Each Accepted ps) (first : FirstMarker stray (sent ps))
    (earlier later : List (List ℕ)) (w v : List ℕ) (one : sent_words ps ≡ earlier ++ w ∷ later) (any : IsWord v) where
  in_order : (ws : List (List ℕ)) → answers (stray ++ framed (earlier ++ ws))
      ≡ answers (stray ++ framed earlier) ++ (hears (hears fresh_channel (stray ++ framed earlier)).1 (framed ws)).0
  in_order ws =
      ap answers (ap (λ l. stray ++ l) (framed-append earlier ws) ∙ sym (append_assoc stray (framed earlier) (framed ws)))
      ∙ ap (λ x. x.0) (hears-append step fresh_channel (stray ++ framed earlier) (framed ws))

  -- the answers of the earlier blocks stay the same
  pub earlier-same : (xs ys : List Event)
      × (answers (stray ++ sent ps) ≡ answers (stray ++ framed earlier) ++ xs)
      × (answers (stray ++ framed (earlier ++ v ∷ later)) ≡ answers (stray ++ framed earlier) ++ ys)
  earlier-same = (
    (hears (hears fresh_channel (stray ++ framed earlier)).1 (framed (w ∷ later))).0,
    (hears (hears fresh_channel (stray ++ framed earlier)).1 (framed (v ∷ later))).0,
    ap (λ ws. answers (stray ++ framed ws)) one ∙ in_order (w ∷ later),
    in_order (v ∷ later),
  )

  altered-each : Each IsWord (earlier ++ v ∷ later)
  altered-each =
      let h : Each IsWord (earlier ++ w ∷ later) = subst (Each IsWord) one (sent-each ps accepted) in
      each_append IsWord earlier (v ∷ later) (each-append-left IsWord earlier (w ∷ later) h) (any, (each-append-right IsWord earlier (w ∷ later) h).1)

  given : answers (stray ++ framed (earlier ++ v ∷ later)) ≡ words_give (earlier ++ v ∷ later) waiting
  given =
      ap (λ x. x.0)
      (received stray (earlier ++ v ∷ later) (some_words earlier v later) altered-each
      (first-markers stray (sent_words ps) (earlier ++ v ∷ later) (sent-some ps accepted) (some_words earlier v later) first))

  -- the other blocks are clean, and no lock is lost
  pub others-clean : (blocks (answers (stray ++ framed (earlier ++ v ∷ later)))
      ≡ replicate (length earlier) clean ++ condition v ∷ replicate (length later) clean)
      × (losses (answers (stray ++ framed (earlier ++ v ∷ later))) ≡ 0)
  others-clean =
      let s = words-stay parity_bytes earlier (w ∷ []) (v ∷ []) later (subst (Each (IsClean parity_bytes)) one (sent-clean-each ps accepted)) in
      (ap blocks given ∙ s.0, ap losses given ∙ s.1)

  -- behind a flag in a later block, the first or any other, the frame answers are exactly the sent packets opened from that flag on,
  -- once each and in order: `pre` are the message bytes of the later blocks before the flag
  pub later-exact : (pre post : List ℕ) → carried later ≡ pre ++ flag ∷ post
      → frames (answers (stray ++ framed (earlier ++ v ∷ later)))
      ≡ (reads waiting (carried (earlier ++ v ∷ []) ++ pre ++ flag ∷ [])).0
      ++ map delivered (opened_from ps (length (carried (earlier ++ w ∷ []) ++ pre)))
  later-exact pre post e =
      ap frames given
      ∙ words-exact parity_bytes earlier (w ∷ []) (v ∷ []) later ps accepted (fillers (length (stream ps)))
      (ap carried (sym one) ∙ sent-bytes ps accepted) pre post e
