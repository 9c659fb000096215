-- From the office to the board: what the office sends of an input, a board that hears it whole delivers: the accepted bids, once each, in
-- order, and nothing else.
-- packets-accepted   each packet of an input is one that the sender takes
-- bids-heard         the board
use Prim.Native.Nat.{ℕ}
use mathlib.Core.Path.{◌≡◌, refl, sym, subst}
use mathlib.Core.List.{List, [], ◌∷◌, ◌++◌, map}
use lib.ListN.{length, replicate}
use Rattle.base.specs.Bytes.{Each, IsByte, Bytes}
use Rattle.base.proofs.Bytes.{each_append}
use Rattle.base.proofs.Tests.{by-eq}
use Rattle.packet_spec.specs.Sender.{Accepted}
use Rattle.stream.specs.Sender.{delivered}
use Rattle.channel_spec.specs.Sender.{sent_words}
use Rattle.channel_spec.specs.Meaning.{answers, frames, blocks, losses, FirstMarker}
use Rattle.channel_spec.specs.declared.Condition.TheVariants.{Clean as clean}
use Rattle.channel_spec.proofs.Streaming.{whole-stream}
use Rattle.bid.specs.Line.{feed, Verdict, no_bid, refused, accepted, verdict}
use Rattle.bid.specs.Input.{lines_from, lines_of, packets, packets_of}
use Rattle.bid.proofs.Lines.{lines-feed, lines_other, lines_none, lines-one}
use Rattle.bid.proofs.Verdicts.{accepted-is}
use Rattle.office.specs.Meaning.{sent_for}

-- the bytes of each line are bytes
line-bytes : (bs l : List ℕ) → Bytes l → Bytes bs → Each Bytes (lines_from l bs)
line-bytes [] l h k =
    by-eq (length l) 0 (λ e. subst (Each Bytes) (sym (lines_none l e)) tt) (λ n. subst (Each Bytes) (sym (lines-one l n)) (h, tt))
line-bytes (b ∷ bs) l h k =
    by-eq b feed (λ e. subst (Each Bytes) (sym (lines-feed l b bs e)) (h, line-bytes bs [] tt k.1))
    (λ n. subst (Each Bytes) (sym (lines_other l b bs n)) (line-bytes bs (l ++ b ∷ []) (each_append IsByte l (b ∷ []) h (k.0, tt)) k.1))

each-accepted : (ls : List (List ℕ)) → Each Bytes ls → Each Accepted (packets (map verdict ls))
unfolding packets
each-accepted [] h = tt
each-accepted (l ∷ ls) h = go (verdict l) refl (each-accepted ls h.1)
  where
    go : (v : Verdict) → verdict l ≡ v → Each Accepted (packets (map verdict ls)) → Each Accepted (packets (v ∷ map verdict ls))
    go no_bid e r = r
    go (refused n) e r = r
    go (accepted p) e r = (accepted-is l p h.0 e, r)

pub packets-accepted : (input : List ℕ) → Bytes input → Each Accepted (packets_of input)
packets-accepted input h = each-accepted (lines_of input) (line-bytes input [] tt h)

-- stray bytes, and then what the office sends, the marker first appearing where that begins
pub bids-heard : (stray input : List ℕ) → Bytes input → FirstMarker stray (sent_for input)
    → (frames (answers (stray ++ sent_for input)) ≡ map delivered (packets_of input))
    × (blocks (answers (stray ++ sent_for input)) ≡ replicate (length (sent_words (packets_of input))) clean)
    × (losses (answers (stray ++ sent_for input)) ≡ 0)
bids-heard stray input h m = whole-stream stray (packets_of input) (packets-accepted input h) m
