-- One packet written (paper 01, "Packet and frame", "Numbered refusals"; request W8).
-- flagged, frame_of     its escaped contents, and one flag behind them
-- head_fits             whether format, key number and key length may be sent
-- refusing             what the sender says of it
-- Accepted             that it takes it: some payload, not too long (short), a free port, a head that fits, and numbers that are such
--                      (number_fits, key_bytes, port_fits, sequence_fits, bytes)
-- writing              what the call answers and leaves
use Rattle.std.specs.Prelude.{ℕ, ◌≤◌, ◌<◌, ◌≡◌, Bool, true, false, ◌&&◌, List, [], ◌∷◌, ◌++◌, eqb, ltb, length}
use Rattle.base.specs.Bytes.{Bytes}
use Rattle.base.specs.Choice.{pick}
use Rattle.base.specs.Written.{Outcome, refused, write}
use Rattle.packet_spec.specs.Port.{barred}
use Rattle.packet_spec.specs.Contents.{Packet, plain_format, key_format, key_sized, payload_limit, contents}
use Rattle.packet_spec.specs.Escape.{flag, escape}

-- escaped, and a flag behind
unfoldable pub flagged : List ℕ → List ℕ
flagged cs = escape cs ++ flag ∷ []

-- a packet in the sender's stream
unfoldable pub frame_of : Packet → List ℕ
frame_of p = flagged (contents p)

-- 24 is not given: format 0x21 with key length and key number zero, or format 0x26 with a key length of 2 to 32
abbrev pub head_fits : ℕ → ℕ → ℕ → Bool
head_fits format number k =
    pick (eqb format plain_format) (eqb k 0 && eqb number 0) (pick (eqb format key_format) (key_sized k) false)

-- 20 payload empty, 21 payload too long as escaped, 22 port barred, 24 as above: `refuse` by the first that applies, or else `send`
abbrev pub refusing : {A : Type 0} → Packet → (ℕ → A) → A → A
refusing p refuse send =
    pick (eqb (length p.payload) 0) (refuse 20)
    (pick (ltb payload_limit (length (escape p.payload))) (refuse 21)
    (pick (barred p.port) (refuse 22)
    (pick (head_fits p.format p.number (length p.key)) send (refuse 24))))

-- what these refusals ask, of numbers and bytes that fit
pub record Accepted (p : Packet) : Type 0 where
  pub some : length p.payload ≡ 0 → ⊥
  pub short : length (escape p.payload) ≤ payload_limit
  pub free : barred p.port ≡ false
  pub fits : head_fits p.format p.number (length p.key) ≡ true
  pub number_fits : p.number < 256
  pub key_bytes : Bytes p.key
  pub port_fits : p.port < 65536
  pub sequence_fits : p.sequence < 65536
  pub bytes : Bytes p.payload

-- one packet; then 23 as for every call that writes
unfoldable pub writing : Packet → List ℕ → Outcome
writing p out = refusing p (λ n. refused n out) (write (frame_of p) out)
