-- What parity guarantees, as a dealer asked for it (request W12):
--   "State and prove: a clean word with 1 to R bytes altered is never clean. And "beyond repair" is given exactly when no clean word lies
--   within h places. It follows for demand 3 that if at most 16 bytes of each opportunistic word are altered and no marker is, the
--   receiver delivers just what was sent."
-- `Promised r w a o` (crates/repair/specs/Promise.antt) is what the public function `repair` promises of the word w: the answer a, the word o.
-- one_byte                 one altered byte is always repaired (request W5)
-- never-clean              a clean word with 1 to R bytes altered is never clean, for every R to 64
-- beyond-exactly           "beyond repair" is given exactly when no clean word lies within h places
-- delivered-as-sent        at most 16 bytes of each word altered, no marker: the packets, the block answers, no lock lost ..
-- same-state               .. and the final state is that of the stream as sent
use Prim.Native.Nat.{ℕ, ◌≤◌, ◌<◌}
use native.Mathlib.Omega.{arith}
use mathlib.Core.Path.{◌≡◌, sym, ◌∙◌, ap, subst}
use mathlib.Core.Logic.{◌↔◌, ◌≢◌}
use mathlib.Core.List.{List, [], ◌++◌, map}
use lib.ListN.{length, get_or, set}
use Rattle.base.specs.Bytes.{Each, Bytes}
use Rattle.parity.specs.Calls.{checked}
use Rattle.parity.specs.Checked as check
use Rattle.repair.specs.Mended.{Mended}
use Rattle.repair.specs.Mended.{Repaired, Beyond}
use Rattle.repair.specs.Promise.{distance, half, CleanWord, Promised}
use Rattle.repair.proofs.Apart.{checked-clean, altered-damaged}
use Rattle.repair.proofs.Promising as promising
use Rattle.stream.specs.Meaning.{waiting, reads}
use Rattle.packet_spec.specs.Sender.{Accepted}
use Rattle.stream.specs.Sender.{stream, delivered}
use Rattle.packet_spec.specs.Contents.{Packet}
use Rattle.stream.proofs.Streaming.{stream-read}
use Rattle.channel_spec.specs.Sender.{parity_bytes, framed, fillers, messages_of, sent_words, sent}
use Rattle.channel_spec.specs.Meaning.{zeros, frames, blocks, losses, fresh_channel, hears, words_give, IsWord, FirstMarker}
use Rattle.channel.specs.Call.{EveryCut, memory_of, in_use}
use Rattle.channel_spec.proofs.Given.{frames-given, blocks-given, losses-given}
use Rattle.channel_spec.proofs.Streaming.{behind_words, first-markers, sent-messages, sent-each, sent-bytes, sent-some}
use Rattle.channel_spec.proofs.Streaming.{received as heard-words}
use Rattle.channel.proofs.Demands.{cut-so, every-cut}
use Rattle.demands_laws.specs.Guarantee.{altered, Repairable, Received, received}
use Rattle.demands_laws.proofs.Altered.{altered-is, repairable-half, half-repairable, sent-clean-words, carried-received}
use Rattle.demands_laws.proofs.Altered.{answers-received, behind-received, words-received, some-received}

-- ---- "a clean word with 1 to R bytes altered is never clean": the check finds it damaged
pub never-clean : (r : ℕ) (v : List ℕ) → CleanWord r v → (w : List ℕ) → IsWord w → Bytes w → 0 < altered v w → altered v w ≤ r
    → checked r w ≡ check.Damaged
never-clean r v c w l b some few =
    let e = altered-is v w (checked-clean r v c.1).1 l in
    altered-damaged r v c w b l (subst (λ (n : ℕ). 0 < n) e some) (subst (λ (n : ℕ). n ≤ r) e few)

-- ---- ""beyond repair" is given exactly when no clean word lies within h places", of whatever `repair` may answer
pub beyond-exactly : (r : ℕ) (w : List ℕ) → r ≤ 64 → IsWord w → Bytes w → (a : Mended) (o : List ℕ) → Promised r w a o
    → (a ≡ Beyond) ↔ ((v : List ℕ) → CleanWord r v → Repairable r (altered w v) → ⊥)
beyond-exactly r w h l b a o p =
    let x = promising.beyond-exactly r w h b l a o p in (
      λ e v c k. x.0 e v (c, subst (λ (n : ℕ). n ≤ half r) (places v c) (repairable-half r (altered w v) k)),
      λ f. x.1 (λ v near. f v near.0 (subst (Repairable r) (sym (places v near.0)) (half-repairable r (distance w v) near.1))),
    )
  where
    places : (v : List ℕ) → CleanWord r v → altered w v ≡ distance w v
    places v c = altered-is w v l (checked-clean r v c.1).1

-- ---- "One altered byte is always repaired when R is 2 or more" (request W5): the byte at place i has become c, whatever `repair` may answer
pub one_byte : (r : ℕ) (v : List ℕ) → CleanWord r v → 2 ≤ r → (i c : ℕ) → i < 255 → c < 256 → get_or v i 0 ≢ c
    → (a : Mended) (o : List ℕ) → Promised r (set v i c) a o → (a ≡ Repaired 1) × (o ≡ v)
one_byte = promising.one-restored

-- ---- "if at most 16 bytes of each opportunistic word are altered and no marker is, the receiver delivers just what was sent": stray bytes,
-- and then a sender's whole marked stream, the marker first appearing where that begins; its words come in as vs; cut in every way
module _ (stray : List ℕ) (ps : List Packet) (accepted : Each Accepted ps) (first : FirstMarker stray (sent ps))
    (vs : List (List ℕ)) (came : Received parity_bytes (sent_words ps) vs) where
  words : Each (CleanWord parity_bytes) (sent_words ps)
  words = sent-clean-words parity_bytes (omega arith) (messages_of (stream ps)) (sent-messages ps accepted)

  some : vs ≢ []
  some = some-received parity_bytes (sent_words ps) vs came (sent-some ps accepted)

  heard : hears fresh_channel (stray ++ framed vs) ≡ (words_give vs waiting, behind_words zeros [] vs waiting)
  heard = heard-words stray vs some (words-received parity_bytes (sent_words ps) vs came)
      (first-markers stray (sent_words ps) vs (sent-some ps accepted) some first)

  -- the frame answers are the sent packets, once each, in order, and nothing else; each block is clean, or repaired in exactly the places
  -- altered; no lock is lost
  pub delivered-as-sent : EveryCut (stray ++ framed vs)
      λ es d. (frames es ≡ map delivered ps) × (blocks es ≡ received (sent_words ps) vs) × (losses es ≡ 0)
  delivered-as-sent = cut-so (every-cut (stray ++ framed vs)) λ es d cut.
      let e = cut.0 ∙ ap (λ x. x.0) heard in (
        ap frames e ∙ frames-given parity_bytes vs waiting
            ∙ ap (λ l. (reads waiting l).0) (carried-received parity_bytes (sent_words ps) vs words came ∙ sent-bytes ps accepted)
            ∙ ap (λ x. x.0) (stream-read ps accepted (fillers (length (stream ps)))),
        ap blocks e ∙ blocks-given parity_bytes vs waiting ∙ answers-received parity_bytes (sent_words ps) vs words came,
        ap losses e ∙ losses-given parity_bytes vs waiting,
      )

  -- the final state is that of the stream as sent, in all that counts: the state's numbers, the hunted bytes, the bytes in use
  pub same-state : EveryCut (stray ++ framed vs) λ es d. EveryCut (stray ++ sent ps) λ fs g. in_use d ≡ in_use g
  same-state =
      cut-so (every-cut (stray ++ framed vs)) λ es d cut. cut-so (every-cut (stray ++ sent ps)) λ fs g unaltered.
      cut.1
      ∙ ap (λ x. in_use (memory_of x [] []))
      (ap (λ x. x.1) heard ∙ behind-received (sent_words ps) vs words came zeros [] waiting
      ∙ sym (ap (λ x. x.1) (heard-words stray (sent_words ps) (sent-some ps accepted) (sent-each ps accepted) first)))
      ∙ sym unaltered.1
