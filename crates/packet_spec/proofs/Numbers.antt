-- numbers           number (d) of paper 01: the contents of port 5100, sequence 0, payload 41
-- edges, raw-edges  the paper's edges: of the payload's limit, and of the raw limit
-- key-contents      format 0x26: key length, key number and key between format and port
-- places, behind    where an escape broke: of a frame, and of the bytes from a place on
use mathlib.Core.Path.{◌≡◌, refl}
use mathlib.Core.List.{List, [], ◌∷◌, ◌++◌}
use Prim.Native.Nat.{ℕ, ◌-◌}
use lib.ListN.{replicate}
use Rattle.fcs.specs.Fcs.{fcs, register, entered}
use Rattle.packet_spec.specs.Contents.{plain_packet, key_packet, raw_limit, with_check, contents}
use Rattle.packet_spec.specs.Escape.{escape_byte, escape, right, wrong_from, wrong_behind, last, scan}
use Rattle.packet_spec.specs.Frame.{Told, refusal, broken, closed_by, closed, judge}
use Rattle.packet_spec.specs.Sender.{refusing}

pub numbers : contents (plain_packet 0x5100 0 (0x41 ∷ [])) ≡ 0x21 ∷ 0x00 ∷ 0x51 ∷ 0x00 ∷ 0x00 ∷ 0x41 ∷ 0xE4 ∷ 0xEC ∷ []
unfolding contents with_check fcs register entered escape escape_byte
numbers = refl

-- the number by which a payload for port 5100 is refused; 0 where it passes
abbrev refusal_of : List ℕ → ℕ
refusal_of payload = refusing (plain_packet 0x5100 0 payload) (λ n. n) 0

-- 8,192 plain payload bytes pass and 8,193 get 21; 4,096 bytes of 7E pass and 4,097 get 21
pub edges : ◌≡◌ {A = List ℕ}
    (refusal_of (replicate 8192 0) ∷ refusal_of (replicate 8193 0) ∷ refusal_of (replicate 4096 0x7E) ∷ refusal_of (replicate 4097 0x7E) ∷ [])
    (0 ∷ 21 ∷ 0 ∷ 21 ∷ [])
unfolding escape escape_byte
edges = refl

-- format 0x26 with key length, key number and key between format and port, and the check over all of it
abbrev key_contents : List ℕ
key_contents = contents (key_packet 0x07 (0xAA ∷ 0xBB ∷ []) 0x1234 0x0102 (0x41 ∷ []))

pub key-contents : key_contents ≡ 0x26 ∷ 0x02 ∷ 0x07 ∷ 0xAA ∷ 0xBB ∷ 0x34 ∷ 0x12 ∷ 0x02 ∷ 0x01 ∷ 0x41 ∷ 0x8E ∷ 0x3F ∷ []
unfolding contents with_check fcs register entered escape escape_byte
key-contents = refl

-- 8,272 raw bytes are judged further (these get 2) and 8,273 get 1
pub raw-edges : ◌≡◌ {A = List Told} (judge (replicate 8272 0x7D) ∷ judge (replicate 8273 0x7D) ∷ []) (refusal 2 ∷ refusal 1 ∷ [])
unfolding judge closed closed_by scan last
raw-edges = refl

-- the first wrong byte counts, a second 7D is one, and where the last raw byte is 7D there is no place; the last place is one below the limit
pub places : ◌≡◌ {A = List Told}
    (judge (0x7D ∷ 0x21 ∷ 0x7D ∷ 0x22 ∷ []) ∷ judge (0x7D ∷ 0x5E ∷ 0x7D ∷ 0x7D ∷ 0x5E ∷ []) ∷ judge (0x7D ∷ 0x21 ∷ 0x7D ∷ []) ∷ judge
    (replicate (raw_limit - 2) 0 ++ 0x7D ∷ 0x21 ∷ []) ∷ [])
    (broken 1 ∷ broken 3 ∷ refusal 2 ∷ broken (raw_limit - 1) ∷ [])
unfolding judge closed closed_by scan last wrong_from right
places = refl

-- the byte before the place decides; a byte that stands before it is not looked at, and beyond the end there is none
pub behind : ◌≡◌ {A = List ℕ}
    (wrong_behind 1 (0x7D ∷ 0x21 ∷ []) ∷ wrong_behind 2 (0x7D ∷ 0x21 ∷ []) ∷ wrong_behind 2 (0x7D ∷ 0x21 ∷ 0x22 ∷ []) ∷ wrong_behind 9 (0x7D ∷ []) ∷ [])
    (1 ∷ 0 ∷ 0 ∷ 0 ∷ [])
unfolding wrong_from right
behind = refl
