-- What is read back of what a call wrote.
-- accepted        a packet that was written is one that the sender takes
-- packet-back     the bytes of a packet, read behind a flag
-- judged-back     .. and judged where they stand in a receive buffer
-- plain-listed, channel-listed   what is printed of a recording of pieces
use Prim.Native.Nat.{ℕ, ◌≤◌, ◌<◌}
use native.Mathlib.Omega.{arith}
use mathlib.Core.Path.{◌≡◌, sym, ap, subst, ◌∙◌}
use mathlib.Core.Bool.{true, false}
use mathlib.Core.List.{List, [], ◌∷◌, ◌++◌, append-nil}
use lib.ListN.{length, take, drop, length-take}
use lib.Seq.{take_at}
use Rattle.base.specs.Bytes.{Bytes}
use Rattle.base.specs.Calls.{joined}
use Rattle.base.specs.Written.{Wrote}
use Rattle.packet_spec.specs.Escape.{flag}
use Rattle.packet_spec.specs.Frame.{Told, packet, delivery, judged, closed, judge, There}
use Rattle.packet_spec.specs.Sender.{Accepted, frame_of, flagged, writing}
use Rattle.packet_spec.specs.declared.Judged.TheVariants.{Packet as Delivered}
use Rattle.packet_spec.proofs.Judging.{judge-is, payload-there}
use Rattle.packet_spec.proofs.Round.{raw-fits}
use Rattle.packet.proofs.Sending.{wrote-is}
use Rattle.stream.specs.Meaning.{inside, reads}
use Rattle.stream.specs.Sender.{raw_of, delivered}
use Rattle.packet_spec.specs.Contents.{Packet}
use Rattle.stream.proofs.Accepting.{judged-is}
use Rattle.stream.proofs.Streaming.{behind-read}
use Rattle.listing_spec.specs.Apart.{most, records}
use Rattle.listing_spec.specs.Lines.{lines}
use Rattle.listing_spec.specs.Meaning.{heard, total_line, last_line, listed, listing}
use Rattle.listing_spec.proofs.Apart.{records-apart, records-channel}

module _ (p : Packet) (number_fits : p.number < 256) (key_bytes : Bytes p.key) (port_fits : p.port < 65536) (sequence_fits : p.sequence < 65536)
    (bytes : Bytes p.payload) (out : List ℕ) (n : ℕ) (wrote : (writing p out).answer ≡ Wrote n) where
  pub accepted : Accepted p
  accepted =
      let w = wrote-is p out n wrote in
      record {
        some = w.some;
        short = w.short;
        free = w.free;
        fits = w.fits;
        number_fits = number_fits;
        key_bytes = key_bytes;
        port_fits = port_fits;
        sequence_fits = sequence_fits;
        bytes = bytes;
      }

  pub packet-back : reads (inside []) (take n (writing p out).output) ≡ (delivered p ∷ [], inside [])
  unfolding frame_of flagged
  packet-back =
      let w = wrote-is p out n wrote in
      let bs : List ℕ = raw_of p ++ flag ∷ [] in
      ap (reads (inside [])) (ap (take n) w.holds ∙ take_at bs (drop (length bs) out) n (sym w.long) ∙ sym (append-nil bs))
      ∙ behind-read (p ∷ []) (accepted, tt) 0

module _ (p : Packet) (a : Accepted p) (recv : List ℕ) (there : take (length (raw_of p)) recv ≡ raw_of p) where
  told_back : (closed recv (length (raw_of p))).told ≡ delivered p
  told_back =
      let l : length (raw_of p) ≤ length recv = omega (arith, sym (ap length there) ∙ length-take (length (raw_of p)) recv) in
      judge-is recv (length (raw_of p)) (raw-fits p a) l
      ∙ ap judge there ∙ judged-is p a

  pub judged-back : (judged (closed recv (length (raw_of p))).told ≡ Delivered (delivery p))
      × There (packet p) (closed recv (length (raw_of p))).recv
  judged-back = (
    ap judged told_back,
    subst (λ (t : Told). There t (closed recv (length (raw_of p))).recv) told_back (payload-there recv (length (raw_of p))),
  )

-- ---- recordings
pub plain-listed : (pieces : List (List ℕ)) → length (joined pieces) ≤ most
    → listing (0x50 ∷ records pieces) ≡ lines (heard false (joined pieces)) ++ total_line (length (joined pieces)) (heard false (joined pieces))
unfolding listing listed last_line
plain-listed pieces h = ap (λ r. listed r (heard false r.0)) (records-apart pieces h)

pub channel-listed : (pieces : List (List ℕ)) → length (joined pieces) ≤ most
    → listing (0x4F ∷ records pieces) ≡ lines (heard true (joined pieces)) ++ total_line (length (joined pieces)) (heard true (joined pieces))
unfolding listing listed last_line
channel-listed pieces h = ap (λ r. listed r (heard true r.0)) (records-channel pieces ∙ records-apart pieces h)
