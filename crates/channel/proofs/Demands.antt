-- What the paper demands of the channel's receiver, of the call: whatever the buffers hold, and however the byte string is cut. Each law says
-- two things together (`EveryCut`): the calls come to their end, and what they yield.
-- cut-so                                          what every way yields, in other words
-- every-cut                                       the answers and the final state of the uncut string
-- same-cut                                        .. from the same buffers, to the last byte of both
-- remembered-told                                 the place remembered is the one that a closing flag would tell
-- delivers                                        a whole marked stream delivers the sent packets, and nothing else
-- earlier-answers, later-answers, other-blocks    one block altered harms no other
use Prim.Native.Nat.{ℕ, ◌≤◌}
use native.Mathlib.Omega.{arith}
use mathlib.Core.Path.{◌≡◌, refl, sym, ◌∙◌, ap, subst}
use mathlib.Core.List.{List, [], ◌∷◌, ◌++◌, map}
use mathlib.Core.Option.{some}
use lib.ListN.{length, replicate}
use Rattle.base.specs.Bytes.{Each}
use Rattle.base.specs.Calls.{joined, Yields}
use Rattle.base.proofs.Calls.{yields-so}
use Rattle.packet_spec.specs.Escape.{flag}
use Rattle.packet_spec.specs.Contents.{raw_limit, Packet}
use Rattle.packet_spec.specs.Frame.{broken}
use Rattle.stream.specs.Meaning.{waiting, reads}
use Rattle.stream.specs.Call.{take_byte}
use Rattle.stream.proofs.Remembered.{held-told}
use Rattle.packet_spec.specs.Sender.{Accepted}
use Rattle.stream.specs.Sender.{delivered, opened_from}
use Rattle.channel_spec.specs.Sender.{word_bytes, framed, sent_words, sent}
use Rattle.channel_spec.specs.Meaning.{condition, Event, Chan, hunting, in_word, in_mark, frames, blocks, losses, fresh_channel, hears, answers, IsWord}
use Rattle.channel_spec.specs.Meaning.{carried, FirstMarker}
use Rattle.channel_spec.specs.declared.Condition.TheVariants.{Clean as clean}
use Rattle.channel.specs.Call.{Memory, memory, held_in, fresh_receiver, hear_call, hear_all, EveryCut, memory_of, in_use}
use Rattle.channel.proofs.Fine.{fine-fresh}
use Rattle.channel.proofs.Cutting.{hear-settled}
use Rattle.channel.proofs.Shown.{shown-all, in_use_lem}
use Rattle.channel_spec.proofs.Streaming.{whole-stream, earlier-same, later-exact, others-clean}

-- what every way yields may be said in other words
pub cut-so : {bs : List ℕ} {P Q : List Event → Memory → Type 0} → EveryCut bs P → ((es : List Event) (d : Memory) → P es d → Q es d) → EveryCut bs Q
cut-so c f recv word r w pieces cut = yields-so (c recv word r w pieces cut) f

module _ (recv word : List ℕ) (r : raw_limit ≤ length recv) (w : word_bytes ≤ length word) where
  heard : (ps : List (List ℕ)) → Yields hear_call (memory fresh_receiver recv word) ps λ es d. (es, d) ≡ hear_all (memory fresh_receiver recv word) (joined ps)
  heard = hear-settled (memory fresh_receiver recv word) refl (fine-fresh recv word r w)

  -- from the same buffers two ways of cutting yield the same, to the last byte of both
  pub same-cut : (ps qs : List (List ℕ)) → joined ps ≡ joined qs
      → Yields hear_call (memory fresh_receiver recv word) ps
      λ es d. Yields hear_call (memory fresh_receiver recv word) qs
      λ fs g. (es ≡ fs) × (d ≡ g)
  same-cut ps qs e =
      yields-so (heard ps) λ es d x. yields-so (heard qs) λ fs g y.
      let z : ◌≡◌ {A = List Event × Memory} (es, d) (fs, g) = x ∙ ap (hear_all (memory fresh_receiver recv word)) e ∙ sym y in
      (ap (λ q. q.0) z, ap (λ q. q.1) z)

-- every way of cutting yields the list of answers and the final state of the uncut string, which are those of the receiver without a limit,
-- that has no buffers: what they held before does not matter
pub every-cut : (bs : List ℕ) → EveryCut bs λ es d. (es ≡ answers bs) × (in_use d ≡ in_use (memory_of (hears fresh_channel bs).1 [] []))
every-cut bs recv word r w pieces cut =
    let s = shown-all bs fresh_channel recv word tt (r, w) in
    yields-so (heard recv word r w pieces) λ es d x.
    let e : ◌≡◌ {A = List Event × Memory} (es, d) ((hears fresh_channel bs).0, memory_of (hears fresh_channel bs).1 s.0 s.1) =
    x ∙ ap (hear_all (memory fresh_receiver recv word)) cut ∙ s.2 in
    (ap (λ q. q.0) e, ap (λ q. in_use q.1) e ∙ in_use_lem (hears fresh_channel bs).1 s.0 s.1 s.3)

-- behind every byte string, however cut: where the next message byte is a flag, and told with 3 and a place, the state has that place
held-told-in : (a : Chan) (j k : List ℕ) → raw_limit ≤ length (memory_of a j k).recv → (n : ℕ)
    → (take_byte (held_in (memory_of a j k)) flag).0 ≡ some (broken n) → (memory_of a j k).st.frame.place ≡ n
held-told-in (hunting f) j k room n t = let z : ◌≡◌ {A = ℕ} 0 1 = cc in absurd (omega arith)
held-told-in (in_word f w r) j k room n t = held-told r j room n t
held-told-in (in_mark f w m r) j k room n t = held-told r j room n t

pub remembered-told : (bs : List ℕ) → EveryCut bs λ es d. (n : ℕ) → (take_byte (held_in d) flag).0 ≡ some (broken n) → d.st.frame.place ≡ n
remembered-told bs recv word r w pieces cut =
    let s = shown-all bs fresh_channel recv word tt (r, w) in
    yields-so (heard recv word r w pieces) λ es d x.
    let is : d ≡ memory_of (hears fresh_channel bs).1 s.0 s.1 = ap (λ q. q.1) (x ∙ ap (hear_all (memory fresh_receiver recv word)) cut ∙ s.2) in
    subst (λ (c : Memory). (n : ℕ) → (take_byte (held_in c) flag).0 ≡ some (broken n) → c.st.frame.place ≡ n) (sym is)
    (held-told-in (hears fresh_channel bs).1 s.0 s.1 s.4.0)

-- let a fresh receiver hear stray bytes and then a sender's whole marked stream, the marker first appearing where that stream begins:
-- it delivers the sent packets once each, in order, and nothing else; every block is clean, and no lock is lost
pub delivers : (stray : List ℕ) (ps : List Packet) → Each Accepted ps → FirstMarker stray (sent ps)
    → EveryCut (stray ++ sent ps)
    λ es d. (frames es ≡ map delivered ps) × (blocks es ≡ replicate (length (sent_words ps)) clean) × (losses es ≡ 0)
delivers stray ps a f =
    let w = whole-stream stray ps a f in
    cut-so (every-cut (stray ++ sent ps)) λ es d e. (ap frames e.0 ∙ w.0, ap blocks e.0 ∙ w.1, ap losses e.0 ∙ w.2)

-- ---- the 255 bytes of one block, w as sent, are altered at will, to v, and no marker is
module _ (stray : List ℕ) (ps : List Packet) (accepted : Each Accepted ps) (first : FirstMarker stray (sent ps))
    (earlier later : List (List ℕ)) (w v : List ℕ) (one : sent_words ps ≡ earlier ++ w ∷ later) (any : IsWord v) where
  abbrev altered : List ℕ
  altered = stray ++ framed (earlier ++ v ∷ later)

  -- the answers of the earlier blocks stay the same: fs to the stream as sent, gs to it up to that block, es to the altered one; with gs
  -- both others begin
  pub earlier-answers : EveryCut (stray ++ sent ps)
      λ fs _. EveryCut (stray ++ framed earlier)
      λ gs _. EveryCut altered
      λ es _. (xs ys : List Event) × (fs ≡ gs ++ xs) × (es ≡ gs ++ ys)
  earlier-answers =
      let r = earlier-same stray ps accepted first earlier later w v one any in
      cut-so (every-cut (stray ++ sent ps)) λ fs _ f.
      cut-so (every-cut (stray ++ framed earlier)) λ gs _ g.
      cut-so (every-cut altered) λ es _ e.
      let q : answers (stray ++ framed earlier) ≡ gs = sym g.0 in
      (r.0, r.1, f.0 ∙ r.2 ∙ ap (λ l. l ++ r.0) q, e.0 ∙ r.3 ∙ ap (λ l. l ++ r.1) q)

  -- behind a flag in a later block, the first or any other, the frame answers are exactly the sent packets opened from that flag on,
  -- once each and in order: `pre` are the later blocks' message bytes before the flag; up to it they are those of the messages as repair leaves them
  pub later-answers : (pre post : List ℕ) → carried later ≡ pre ++ flag ∷ post
      → EveryCut altered
      λ es _. frames es ≡ (reads waiting (carried (earlier ++ v ∷ []) ++ pre ++ flag ∷ [])).0
      ++ map delivered (opened_from ps (length (carried (earlier ++ w ∷ []) ++ pre)))
  later-answers pre post e =
      cut-so (every-cut altered) λ es _ x. ap frames x.0 ∙ later-exact stray ps accepted first earlier later w v one any pre post e

  -- the other blocks are still clean, and no lock is lost
  pub other-blocks : EveryCut altered
      λ es _. (blocks es ≡ replicate (length earlier) clean ++ condition v ∷ replicate (length later) clean) × (losses es ≡ 0)
  other-blocks =
      let o = others-clean stray ps accepted first earlier later w v one any in
      cut-so (every-cut altered) λ es _ x. (ap blocks x.0 ∙ o.0, ap losses x.0 ∙ o.1)
