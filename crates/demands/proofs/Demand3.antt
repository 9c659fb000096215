-- Demand 3, in the owner's words:
--   "For every received byte string, every way of cutting it yields the list of answers and the final state that demand 2 defines for the
--   uncut string. Further, let a fresh receiver hear stray bytes and then a sender's whole marked stream, the marker first appearing where
--   that stream begins. It delivers the sent packets once each, in order, and nothing else. If the 255 bytes of one block are altered at
--   will and no marker is, the answers of the earlier blocks stay the same; and behind the first opening flag in a later block, the frame
--   answers are exactly the sent packets opened from that flag on, once each and in order."
-- `EveryCut bs λ es d. ..` (crates/channel/specs/Call.antt; of the plain stream crates/stream/specs/Call.antt): a fresh receiver hears bs,
-- cut in any way, each piece handed in until "more wanted", with any buffers that pass 11. Its calls come to their end, and whatever calls
-- these are, with es their answers and d the state and buffers behind them, it is so. They are calls of `hear_call`, which is what the
-- code's `hear` promises (`channel-hear-means` of Promises).
-- no-refuser                                           a receiver that always refuses meets no law of this form
-- every-cut, same-cut, every-payload                   cutting, on the channel
-- plain-cut, plain-payload                             .. and on the plain stream
-- remembered, remembered-told, plain-remembered-told   the place of a broken escape, in the final state
-- whole-stream, plain-stream                           a sender's whole stream
-- hunting-silent, first-begun                          no marker at all, and a first word that is not whole
-- words-in-order, word-begun, lock-kept, lock-lost     any words behind a marker, and the bytes behind the last
-- earlier-blocks, behind-flag, opened, opened-fill, other-blocks   one block altered at will
use Prim.Native.Nat.{ℕ, ◌≤◌, ◌<◌}
use native.Mathlib.Omega.{arith}
use mathlib.Core.Path.{◌≡◌, sym, ◌∙◌, ap, subst}
use mathlib.Core.Bool.{false}
use mathlib.Core.Logic.{◌≢◌, ◌↔◌}
use mathlib.Core.List.{List, [], ◌∷◌, ◌++◌, map, append-nil}
use mathlib.Core.Option.{Option, some, none-ne-some}
use lib.ListN.{length, take, replicate}
use Rattle.base.specs.Bytes.{Each}
use Rattle.base.specs.Calls.{With, joined, Reads, ReadsAll, Yields}
use Rattle.base.specs.Calls.Reads.{more, answer}
use Rattle.base.specs.Calls.ReadsAll.{piece}
use Rattle.base.proofs.Calls.{yields-so}
use Rattle.packet_spec.specs.Contents.{raw_limit, Packet}
use Rattle.packet_spec.specs.Escape.{flag, BrokenAt, NoFlag}
use Rattle.packet_spec.specs.Frame.{Told, broken}
use Rattle.packet_spec.proofs.Faults.{broken-there, broken-is}
use Rattle.stream.specs.Meaning.{waiting, inside, reads}
use Rattle.packet_spec.specs.Sender.{Accepted}
use Rattle.stream.specs.Sender.{raw_of, frames_of, stream, delivered, opened_from}
use Rattle.stream.specs.Call.{Held, take_byte, read_call, held_of, in_use as plain_in_use, ThereHeld, EveryCut as EveryPlainCut}
use Rattle.stream.proofs.Accepting.{clear}
use Rattle.stream.proofs.Cutting.{every-cut-reads}
use Rattle.stream.proofs.Shown.{shown-plain, held-use, held-st}
use Rattle.stream.proofs.Remembered as plain
use Rattle.stream.proofs.Delivery.{payload-held}
use Rattle.stream.proofs.Streaming.{ignored, stream-read, opened-behind, none-opened}
use Rattle.channel_spec.specs.Sender.{marker, word_bytes, framed, sent_words, sent}
use Rattle.channel_spec.specs.Meaning.{condition, Event, lost, frames, blocks, losses, fresh_channel, hears, answers, IsWord, carried, words_give, FirstMarker}
use Rattle.channel_spec.specs.declared.Condition.TheVariants.{Clean as clean}
use Rattle.channel.specs.Call.{Memory, memory, held_in, fresh_receiver, hear_call, EveryCut, ThereEvent, memory_of, in_use}
use Rattle.channel.proofs.Demands as channel
use Rattle.channel.proofs.Blocks as blocks-law
use Rattle.channel.proofs.Delivery.{payload-there}

-- ---- what calls yield, they yield by coming to their end: calls that are always refused do not
refused-on : {S A : Type 0} (a : A) {s : S} {bs : List ℕ} {xs : List A} {t : S} → Reads (λ (s : S) (bs : List ℕ). (some a, 0, s)) s bs xs t → ⊥
refused-on {S} {A} a (more n e) = none-ne-some a (sym (ap (λ (q : Option A × ℕ × S). q.0) e))
refused-on a (answer n e r) = refused-on a r

pub no-refuser : {S A : Type 0} (a : A) (s : S) (p : List ℕ) (ps : List (List ℕ)) (P : List A → S → Type 0)
    → Yields (λ (s : S) (bs : List ℕ). (some a, 0, s)) s (p ∷ ps) P → ⊥
no-refuser {S} {A} a s p ps P y = go y.ends.2
  where
    go : {xs : List A} {t : S} → ReadsAll (λ (s : S) (bs : List ℕ). (some a, 0, s)) s (p ∷ ps) xs t → ⊥
    go (piece r rs) = refused-on a r

-- ---- "For every received byte string, every way of cutting it yields the list of answers and the final state .. for the uncut string": the
-- state's numbers, the hunted bytes, and the bytes in use in both buffers ..
pub every-cut : (bs : List ℕ) → EveryCut bs λ es d. (es ≡ answers bs) × (in_use d ≡ in_use (memory_of (hears fresh_channel bs).1 [] []))
every-cut = channel.every-cut

-- .. and from the same buffers two ways yield the same, to the last byte of both
pub same-cut : (recv word : List ℕ) → raw_limit ≤ length recv → word_bytes ≤ length word → (ps qs : List (List ℕ)) → joined ps ≡ joined qs
    → Yields hear_call (memory fresh_receiver recv word) ps
    λ es d. Yields hear_call (memory fresh_receiver recv word) qs
    λ fs g. (es ≡ fs) × (d ≡ g)
same-cut = channel.same-cut

-- a delivery counts with its payload bytes and its key: they are the parts of the receive buffer that calls of their own hand out; format, key
-- number, port and sequence stand in the answer itself
pub every-payload : (c : Memory) (bs : List ℕ) → With ThereEvent (hear_call c bs).0 (hear_call c bs).2
every-payload = payload-there

-- the same of the plain stream
pub plain-cut : (bs : List ℕ) → EveryPlainCut bs λ ts d. (ts ≡ (reads waiting bs).0) × (plain_in_use d ≡ plain_in_use (held_of (reads waiting bs).1 []))
plain-cut bs = every-cut-reads bs λ recv room ts d run.
    let s = shown-plain bs waiting recv room in
    let r = (reads waiting bs).1 in
    let e : ◌≡◌ {A = List Told × Held} (ts, d) ((reads waiting bs).0, held_of r s.0) = run ∙ s.1 in
    (ap (λ x. x.0) e, ap (λ x. plain_in_use x.1) e ∙ (λ i. (held-st r s.0 i, held-use r s.0 i)))

pub plain-payload : (h : Held) (bs : List ℕ) → With ThereHeld (read_call h bs).0 (read_call h bs).2
plain-payload = payload-held

-- a broken escape counts with its place, in the answers and in the final state. The raw bytes rs behind a flag are remembered with the place of
-- their first wrong byte after 7D, of which none past the raw limit is looked at; 0 is no place ..
pub remembered : (rs j : List ℕ) (n : ℕ) → BrokenAt (take raw_limit rs) n ↔ (n ≢ 0) × ((held_of (inside rs) j).st.place ≡ n)
remembered rs j n = (
  λ w. (λ z. omega (arith, z, w.6), broken-is (take raw_limit rs) n w),
  λ r. subst (BrokenAt (take raw_limit rs)) r.1 (broken-there (take raw_limit rs) (λ k. r.0 (sym r.1 ∙ k))),
)

-- .. and in every run it is the place that a flag behind them would tell: on the channel ..
pub remembered-told : (bs : List ℕ) → EveryCut bs λ es d. (n : ℕ) → (take_byte (held_in d) flag).0 ≡ some (broken n) → d.st.frame.place ≡ n
remembered-told = channel.remembered-told

-- .. and on the plain stream
pub plain-remembered-told : (bs : List ℕ) → EveryPlainCut bs λ ts d. (n : ℕ) → (take_byte d flag).0 ≡ some (broken n) → d.st.place ≡ n
plain-remembered-told = plain.remembered-told

-- ---- "let a fresh receiver hear stray bytes and then a sender's whole marked stream, the marker first appearing where that stream begins. It
-- delivers the sent packets once each, in order, and nothing else." Every block is clean, and no lock is lost
pub whole-stream : (stray : List ℕ) (ps : List Packet) → Each Accepted ps → FirstMarker stray (sent ps)
    → EveryCut (stray ++ sent ps)
    λ es d. (frames es ≡ map delivered ps) × (blocks es ≡ replicate (length (sent_words ps)) clean) × (losses es ≡ 0)
whole-stream = channel.delivers

-- on the plain stream: stray bytes with no flag, and then the sender's whole stream
pub plain-stream : (stray : List ℕ) → NoFlag stray → (ps : List Packet) → Each Accepted ps
    → EveryPlainCut (stray ++ stream ps) λ ts d. ts ≡ map delivered ps
plain-stream stray n ps a recv room pieces cut =
    yields-so (plain-cut (stray ++ stream ps) recv room pieces cut) λ ts d e.
    e.0 ∙ ap (λ x. x.0) (ignored stray n (stream ps) ∙ ap (reads waiting) (sym (append-nil (stream ps))) ∙ stream-read ps a 0)

-- ---- "hunting, it compares the last four bytes with the marker" (paper 01): where no marker stands no answer comes, and it hunts on
pub hunting-silent : (bs : List ℕ) → ((xs ys : List ℕ) → bs ≡ xs ++ (marker ++ ys) → ⊥) → EveryCut bs λ es d. (es ≡ []) × (d.st.locked ≡ false)
hunting-silent = blocks-law.hunting-silent

-- "On a match it is locked: the next 255 bytes are a word" (paper 01): before they are all there no answer comes
pub first-begun : (stray bs : List ℕ) → FirstMarker stray (marker ++ bs) → length bs < 255 → EveryCut (stray ++ (marker ++ bs)) λ es _. es ≡ []
first-begun = blocks-law.first-begun

-- ---- any words, each with the marker before it, behind stray bytes: in which order the answers come
module _ (stray : List ℕ) (ws : List (List ℕ)) (some_word : ws ≢ []) (words : Each IsWord ws) (first : FirstMarker stray (framed ws)) where
  -- "Each whole word gives first a block answer, clean or damaged, then the answers of its 223 message bytes" (paper 01)
  pub words-in-order : EveryCut (stray ++ framed ws) λ es _. es ≡ words_give ws waiting
  words-in-order = blocks-law.words-given stray ws some_word words first

  -- .. and one that is not whole, behind the marker before it, gives none yet
  pub word-begun : (bs : List ℕ) → length bs < 255 → EveryCut ((stray ++ framed ws) ++ (marker ++ bs)) λ es _. es ≡ words_give ws waiting
  word-begun = blocks-law.word-begun stray ws some_word words first

  -- "When all four are read and differ, it answers "lock lost"" (paper 01): not before ..
  pub lock-kept : (bs : List ℕ) → length bs < 4 → EveryCut ((stray ++ framed ws) ++ bs) λ es _. es ≡ words_give ws waiting
  lock-kept = blocks-law.lock-kept stray ws some_word words first

  -- .. but then; it "drops any open packet and waits for a flag, and hunts with those four bytes as the last ones": what follows is heard as a
  -- fresh receiver hears it behind these four
  pub lock-lost : (bs cs : List ℕ) → length bs ≡ 4 → bs ≢ marker → EveryCut ((stray ++ framed ws) ++ (bs ++ cs))
      λ es d. (es ≡ words_give ws waiting ++ lost ∷ answers (bs ++ cs)) × (in_use d ≡ in_use (memory_of (hears fresh_channel (bs ++ cs)).1 [] []))
  lock-lost = blocks-law.lock-lost stray ws some_word words first

-- ---- "If the 255 bytes of one block are altered at will and no marker is": w as sent becomes v
module _ (stray : List ℕ) (ps : List Packet) (accepted : Each Accepted ps) (first : FirstMarker stray (sent ps))
    (earlier later : List (List ℕ)) (w v : List ℕ) (one : sent_words ps ≡ earlier ++ w ∷ later) (any : IsWord v) where
  -- "the answers of the earlier blocks stay the same": fs are the answers to the stream as sent, gs those to it up to that block, es those to
  -- the altered one; with gs both others begin
  pub earlier-blocks : EveryCut (stray ++ sent ps)
      λ fs _. EveryCut (stray ++ framed earlier)
      λ gs _. EveryCut (stray ++ framed (earlier ++ v ∷ later))
      λ es _. (xs ys : List Event) × (fs ≡ gs ++ xs) × (es ≡ gs ++ ys)
  earlier-blocks = channel.earlier-answers stray ps accepted first earlier later w v one any

  -- "and behind the first opening flag in a later block, the frame answers are exactly the sent packets opened from that flag on, once each
  -- and in order": behind the first, and behind every other. `pre` are the later blocks' message bytes before the flag; up to the flag the
  -- answers are those of the messages as repair leaves them; `opened_from` is said in numbers of the stream's bytes: see `opened`
  pub behind-flag : (pre post : List ℕ) → carried later ≡ pre ++ flag ∷ post
      → EveryCut (stray ++ framed (earlier ++ v ∷ later))
      λ es _. frames es ≡ (reads waiting (carried (earlier ++ v ∷ []) ++ pre ++ flag ∷ [])).0
      ++ map delivered (opened_from ps (length (carried (earlier ++ w ∷ []) ++ pre)))
  behind-flag = channel.later-answers stray ps accepted first earlier later w v one any

  -- the other blocks are still clean, that one is what repair finds of it, and no lock is lost
  pub other-blocks : EveryCut (stray ++ framed (earlier ++ v ∷ later))
      λ es _. (blocks es ≡ replicate (length earlier) clean ++ condition v ∷ replicate (length later) clean) × (losses es ≡ 0)
  other-blocks = channel.other-blocks stray ps accepted first earlier later w v one any

-- "opened from that flag on": what stands in the stream behind the flag at place n is the frames of `opened_from ps n`, and nothing else
pub opened : (ps : List Packet) → Each Accepted ps → (xs ys : List ℕ) → stream ps ≡ xs ++ flag ∷ ys → ys ≡ frames_of (opened_from ps (length xs))
opened ps a xs ys e = opened-behind ps (all-clear ps a) xs ys e
  where
    all-clear : (ps : List Packet) → Each Accepted ps → Each (λ (p : Packet). NoFlag (raw_of p)) ps
    all-clear [] a = tt
    all-clear (p ∷ ps) a = (clear p a.0, all-clear ps a.1)

-- .. and from a flag behind the stream on, as those are that fill the last word, none is opened
pub opened-fill : (ps : List Packet) (n : ℕ) → length (stream ps) ≤ n → opened_from ps n ≡ []
opened-fill = none-opened
