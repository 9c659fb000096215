-- What the packet layer says of a packet that the sender takes.
-- clear       no flag stands in its raw bytes
-- some-raw    they are some
-- judged-is   judging them gives the packet back
-- raw-bytes   they are bytes
use Prim.Native.Nat.{ℕ, ◌<◌}
use native.Mathlib.Omega.{arith}
use mathlib.Core.Path.{◌≡◌, sym, ap, subst, ◌∙◌}
use mathlib.Core.Logic.{◌≢◌}
use mathlib.Core.List.{List, [], ◌∷◌, ◌++◌}
use lib.ListN.{length, length-append}
use Rattle.base.specs.Bytes.{IsByte, Bytes}
use Rattle.base.proofs.Bytes.{each_append}
use Rattle.fcs.specs.Fcs.{fcs}
use Rattle.fcs.proofs.Laws.{fcs-lt}
use Rattle.packet_spec.specs.Contents.{contents, with_check, head, opening, packed, two}
use Rattle.packet_spec.specs.Escape.{escape, escape_byte, plain, NoFlag}
use Rattle.packet_spec.specs.Frame.{judge}
use Rattle.packet_spec.proofs.Escaping.{Kind, kind, escape-other}
use Rattle.packet_spec.proofs.Escaping.Kind.{flag, esc, other}
use Rattle.packet_spec.proofs.Round.{no_flag, plain-undoes, by-format, packed-length, round}
use Rattle.packet_spec.specs.Sender.{Accepted}
use Rattle.stream.specs.Sender.{raw_of, delivered}
use Rattle.packet_spec.specs.Contents.{Packet}

bytes-byte : {b : ℕ} → Kind b → IsByte b → Bytes (escape_byte b)
unfolding escape_byte
bytes-byte flag h = (omega arith, (omega arith, tt))
bytes-byte esc h = (omega arith, (omega arith, tt))
bytes-byte (other n m) h = subst Bytes (sym (escape-other _ n m)) (h, tt)

bytes-escape : (bs : List ℕ) → Bytes bs → Bytes (escape bs)
unfolding escape
bytes-escape [] h = tt
bytes-escape (b ∷ bs) h = each_append IsByte (escape_byte b) (escape bs) (bytes-byte (kind b) h.0) (bytes-escape bs h.1)

module _ (p : Packet) (a : Accepted p) where
  pub clear : NoFlag (raw_of p)
  clear = no_flag (contents p)

  pub some-raw : raw_of p ≢ []
  unfolding contents with_check plain
  some-raw e =
      let n : length (contents p) ≡ 0 = ap length (sym (plain-undoes (contents p)) ∙ ap plain e) in
      omega (arith, length-append (packed p) (two (fcs (packed p))), packed-length p a)

  pub judged-is : judge (raw_of p) ≡ delivered p
  judged-is = round p a

  bytes-two : (n : ℕ) → n < 65536 → Bytes (two n)
  bytes-two n h = (omega arith, (omega arith, tt))

  head_bytes : Bytes (head p.format p.number p.key)
  head_bytes =
      by-format p a.fits (λ e. subst (λ (q : Packet). Bytes (head q.format q.number q.key)) (sym e) (omega arith, tt))
      (λ e low high. subst (λ (q : Packet). Bytes (head q.format q.number q.key)) (sym e) (omega arith, (omega arith, (a.number_fits, a.key_bytes))))

  pub raw-bytes : Bytes (raw_of p)
  unfolding contents with_check
  raw-bytes =
      let places : Bytes (two p.port ++ two p.sequence) = each_append IsByte (two p.port) (two p.sequence) (bytes-two p.port a.port_fits)
      (bytes-two p.sequence a.sequence_fits) in
      let front : Bytes (packed p) = each_append IsByte (opening p) p.payload
      (each_append IsByte (head p.format p.number p.key) (two p.port ++ two p.sequence) head_bytes places) a.bytes in
      bytes-escape (contents p)
      (each_append IsByte (packed p) (two (fcs (packed p))) front (bytes-two (fcs (packed p)) (fcs-lt (packed p))))
