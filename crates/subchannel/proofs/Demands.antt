-- What the paper's demand 3 asks of a fixed sub-channel (request W7), of the call, for every r and d to 64: whatever the buffers hold, and
-- however the byte string is cut. Each law says two things together (`EveryCut`): the calls come to their end, and what they yield.
-- cut-so, every-cut                               the answers and the final state of the uncut string
-- same-cut                                        .. from the same buffers, to the last byte of both
-- delivers                                        a whole sent stream delivers the sent packets, and nothing else
-- earlier-answers, later-answers, other-blocks    depth 0 and 1: altered words harm no others
-- stays-silent                                    lock lost: nothing more is given
use Prim.Native.Nat.{ℕ, ◌-◌, ◌≤◌, ◌<◌}
use native.Mathlib.Omega.{arith}
use mathlib.Core.Path.{◌≡◌, refl, sym, ◌∙◌, ap}
use mathlib.Core.List.{List, [], ◌∷◌, ◌++◌, map, append-nil}
use lib.ListN.{length, replicate}
use Rattle.base.specs.Bytes.{Each}
use Rattle.base.specs.Calls.{joined, Yields}
use Rattle.base.proofs.Calls.{yields-so}
use Rattle.packet_spec.specs.Contents.{raw_limit, Packet}
use Rattle.packet_spec.specs.Escape.{flag}
use Rattle.packet_spec.specs.Sender.{Accepted}
use Rattle.parity.specs.Calls.{root_limit}
use Rattle.stream.specs.Meaning.{waiting, reads}
use Rattle.stream.specs.Sender.{stream, delivered, opened_from}
use Rattle.interleaver_spec.specs.Running.{depth_limit}
use Rattle.interleaver_spec.specs.declared.Back.{Back}
use Rattle.channel_spec.specs.Sender.{word_bytes}
use Rattle.channel_spec.specs.Meaning.{Event, frames, blocks, losses, IsWord, FirstMarker}
use Rattle.channel_spec.specs.declared.Condition.TheVariants.{Clean as clean}
use Rattle.channel_spec.specs.declared.Hunting.{Hunting}
use Rattle.channel_spec.proofs.Given.{hears-append}
use Rattle.subchannel_spec.specs.Sender.{closing_words, words_of, marked, sent}
use Rattle.subchannel_spec.specs.Word.{condition, carried}
use Rattle.subchannel_spec.specs.Meaning.{step, hears, start, answers, words_give, silent}
use Rattle.subchannel_spec.proofs.Streaming.{whole-stream}
use Rattle.subchannel_spec.proofs.Altered.{earlier-same, others-stay, later-exact}
use Rattle.subchannel_spec.proofs.Lost.{silent-stays}
use Rattle.subchannel.specs.Call.{Memory, memory, told_sub, hear_call, hear_all, EveryCut, memory_of, in_use}
use Rattle.subchannel.proofs.Fine.{fine-told}
use Rattle.subchannel.proofs.Cutting.{hear-settled}
use Rattle.subchannel.proofs.Shown.{shown-all, in_use_lem}

-- what every way yields may be said in other words
pub cut-so : {r d : ℕ} {bs : List ℕ} {P Q : List Event → Memory → Type 0}
    → EveryCut r d bs P → ((es : List Event) (c : Memory) → P es c → Q es c) → EveryCut r d bs Q
cut-so c f recv word a b pieces cut = yields-so (c recv word a b pieces cut) f

module _ (r d : ℕ) (hr : r ≤ root_limit) (hd : d ≤ depth_limit) where
  module _ (recv word : List ℕ) (a : raw_limit ≤ length recv) (b : word_bytes ≤ length word) where
    heard : (ps : List (List ℕ)) → Yields hear_call (memory (told_sub r d) recv word) ps λ es c. (es, c) ≡ hear_all (memory (told_sub r d) recv word)
        (joined ps)
    heard = hear-settled (memory (told_sub r d) recv word) refl (fine-told r d hr hd recv word a b)

    -- from the same buffers two ways of cutting yield the same, to the last byte of both
    pub same-cut : (ps qs : List (List ℕ)) → joined ps ≡ joined qs
        → Yields hear_call (memory (told_sub r d) recv word) ps
        λ es c. Yields hear_call (memory (told_sub r d) recv word) qs
        λ fs e. (es ≡ fs) × (c ≡ e)
    same-cut ps qs e =
        yields-so (heard ps) λ es c x. yields-so (heard qs) λ fs g y.
        let z : ◌≡◌ {A = List Event × Memory} (es, c) (fs, g) = x ∙ ap (hear_all (memory (told_sub r d) recv word)) e ∙ sym y in
        (ap (λ q. q.0) z, ap (λ q. q.1) z)

  -- every way of cutting yields the list of answers and the final state of the uncut string, which are those of the receiver without a limit,
  -- that has no buffers: what they held before does not matter
  pub every-cut : (bs : List ℕ) → EveryCut r d bs λ es c. (es ≡ answers r d bs) × (in_use c ≡ in_use (memory_of r d (hears r d start bs).1 [] []))
  every-cut bs recv word a b pieces cut =
      let s = shown-all r d hr bs start recv word tt (a, b) in
      yields-so (heard recv word a b pieces) λ es c x.
      let e : ◌≡◌ {A = List Event × Memory} (es, c) ((hears r d start bs).0, memory_of r d (hears r d start bs).1 s.0 s.1) =
      x ∙ ap (hear_all (memory (told_sub r d) recv word)) cut ∙ s.2 in
      (ap (λ q. q.0) e, ap (λ q. in_use q.1) e ∙ in_use_lem r d hr (hears r d start bs).1 s.0 s.1)

  -- let a sub-channel that was just told its settings hear stray bytes and then a sender's whole stream, the marker first appearing where it
  -- begins: it delivers the sent packets once each, in order, and nothing else; every block is clean, and no lock is lost
  pub delivers : (stray : List ℕ) (ps : List Packet) → Each Accepted ps → FirstMarker stray (sent r d (stream ps))
      → EveryCut r d (stray ++ sent r d (stream ps))
      λ es c. (frames es ≡ map delivered ps) × (blocks es ≡ replicate (length (words_of r d (stream ps)) - closing_words d) clean) × (losses es ≡ 0)
  delivers stray ps a f =
      let w = whole-stream r d hr hd stray ps a f in
      cut-so (every-cut (stray ++ sent r d (stream ps))) λ es c e. (ap frames e.0 ∙ w.0, ap blocks e.0 ∙ w.1, ap losses e.0 ∙ w.2)

  -- bytes behind which lock is lost: whatever follows, however cut, nothing more is answered
  pub stays-silent : (bs cs : List ℕ) (f : Hunting) (k : Back) → (hears r d start bs).1 ≡ silent f k
      → EveryCut r d (bs ++ cs) λ es c. es ≡ answers r d bs
  stays-silent bs cs f k e =
      cut-so (every-cut (bs ++ cs)) λ es c x.
      x.0 ∙ ap (λ y. y.0) (hears-append (step r d) start bs cs) ∙ ap (λ s. (hears r d start bs).0 ++ (hears r d s cs).0) e
      ∙ ap (λ y. (hears r d start bs).0 ++ y.0) (silent-stays r d cs f k) ∙ append-nil (hears r d start bs).0

-- ---- depth 0 and 1: of a sent stream the words us, one or more, are altered at will, to vs, and no marker is
module _ (r d : ℕ) (hr : r ≤ root_limit) (flat : d < 2) (stray : List ℕ) (ps : List Packet) (accepted : Each Accepted ps)
    (first : FirstMarker stray (sent r d (stream ps))) (earlier us vs later : List (List ℕ)) (one : words_of r d (stream ps) ≡ earlier ++ (us ++ later))
    (any : Each IsWord vs) (many : length vs ≡ length us) where
  hd : d ≤ depth_limit
  hd = omega arith

  abbrev altered : List ℕ
  altered = stray ++ marked d (earlier ++ (vs ++ later))

  -- the answers of the earlier words stay the same: fs to the stream as sent, es to the altered one; both begin with what those words give
  pub earlier-answers : EveryCut r d (stray ++ sent r d (stream ps))
      λ fs _. EveryCut r d altered
      λ es _. (xs ys : List Event) × (fs ≡ (words_give r earlier waiting).0 ++ xs) × (es ≡ (words_give r earlier waiting).0 ++ ys)
  earlier-answers =
      let e = earlier-same r d hr flat stray ps accepted first earlier us vs later one any many in
      cut-so (every-cut r d hr hd (stray ++ sent r d (stream ps))) λ fs _ f.
      cut-so (every-cut r d hr hd altered) λ es _ x. (e.0, e.1, f.0 ∙ e.2, x.0 ∙ e.3)

  -- behind a flag in a later word, the first or any other, the frame answers are exactly the sent packets opened from that flag on, once each
  -- and in order: `pre` are the later words' message bytes before the flag; up to it they are those of the messages as repair leaves them
  pub later-answers : (pre post : List ℕ) → carried r later ≡ pre ++ flag ∷ post
      → EveryCut r d altered
      λ es _. frames es ≡ (reads waiting ((carried r (earlier ++ vs) ++ pre) ++ flag ∷ [])).0
      ++ map delivered (opened_from ps (length (carried r (earlier ++ us) ++ pre)))
  later-answers pre post e =
      cut-so (every-cut r d hr hd altered) λ es _ x.
      ap frames x.0 ∙ later-exact r d hr flat stray ps accepted first earlier us vs later one any many pre post e

  -- the other words are still clean, and no lock is lost
  pub other-blocks : EveryCut r d altered
      λ es _. (blocks es ≡ replicate (length earlier) clean ++ (map (condition r) vs ++ replicate (length later) clean)) × (losses es ≡ 0)
  other-blocks =
      let o = others-stay r d hr flat stray ps accepted first earlier us vs later one any many in
      cut-so (every-cut r d hr hd altered) λ es _ x. (ap blocks x.0 ∙ o.0, ap losses x.0 ∙ o.1)
