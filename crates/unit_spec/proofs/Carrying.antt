-- A unit carries its header and its payload.
-- holds, spans     its bytes hold its header bits and its payload bytes, and its length
-- hs, ps, length-hs, length-ps, room    the header bits, the others, and that these have room for those
-- length-unit      a unit takes as many bytes as its length says
-- woven            its bits are header bits woven into those of the payload, and zeros
-- header-unit      its header bits are those of its sequence
-- unwoven-unit     its other bits are those of the payload, and zeros
-- payload-unit     its payload bytes are those written
use mathlib.Core.Path.{◌≡◌, sym, ap, ap₂, ◌∙◌}
use mathlib.Core.List.{List, ◌++◌}
use Prim.Native.Nat.{ℕ, ◌+◌, ◌-◌, ◌*◌, ◌≤◌, ◌<◌}
use native.Mathlib.Omega.{arith}
use lib.ListN.{length, take, replicate, length-append, length-replicate}
use lib.Seq.{length-take-le}
use Rattle.base.specs.Bytes.{Bytes}
use Rattle.base.proofs.Bytes.{each_append, each_take, each-replicate}
use Rattle.unit_spec.specs.Bits.{digits, bits, number, pack}
use Rattle.unit_spec.specs.Tables.{heads, start, step, payload, lent}
use Rattle.unit_spec.specs.Unit.{weave, unit_bits, unit}
use Rattle.unit_spec.specs.Reading.{heard, unwoven, header_of, payload_of}
use Rattle.unit_spec.proofs.Weaving.{Room, heard-weave, unwoven-weave}
use Rattle.unit_spec.proofs.Packing.{pack-bits}
use Rattle.unit_spec.proofs.Bits.{IsBit, length_digits, length-bits, length-pack, length-weave, each-digits, each_bits, each_weave, bits-pack}
use Rattle.unit_spec.proofs.Rows.{few, fits, room_of}

pub length-unit : (l cw : ℕ) (p : List ℕ) → length (unit l cw p) ≡ lent l
unfolding unit
length-unit l cw p = length-pack (lent l) (unit_bits l cw p)

-- the bytes of a unit hold its header bits and its payload bytes
pub holds : (l : ℕ) → 0 < step l → heads l + payload l * 8 ≤ lent l * 8
unfolding payload lent
holds l k = omega (arith, fits l k)

pub spans : (l : ℕ) → 0 < step l → l ≤ lent l * 8
unfolding lent
spans l k = omega arith

module _ (l cw : ℕ) (p : List ℕ) (k : 0 < step l) (e : length p ≡ payload l) where
  abbrev pub hs : List ℕ
  hs = take (heads l) (digits 24 cw)

  abbrev pub ps : List ℕ
  ps = bits p ++ replicate (lent l * 8 - heads l - length p * 8) 0

  pub length-hs : length hs ≡ heads l
  length-hs = length-take-le (heads l) (digits 24 cw) (omega (arith, (few l).1, length_digits 24 cw))

  pub length-ps : length ps ≡ lent l * 8 - heads l
  length-ps =
      length-append (bits p) (replicate (lent l * 8 - heads l - length p * 8) 0)
      ∙ ap₂ ◌+◌ (length-bits p) (length-replicate {A = ℕ} (lent l * 8 - heads l - length p * 8) 0)
      ∙ omega (arith, holds l k, e)

  pub room : Room (start l) (step l - 1) (length hs) (length ps)
  room = rw (length-hs, length-ps) (room_of l (lent l * 8 - heads l) k (omega (arith, spans l k)))

  pub woven : bits (unit l cw p) ≡ weave (start l) (step l - 1) hs ps
  unfolding unit unit_bits
  woven =
      bits-pack (lent l) (unit_bits l cw p)
      (length-weave (start l) (step l - 1) hs ps ∙ omega (arith, length-hs, length-ps, holds l k))
      (each_weave IsBit (start l) (step l - 1) hs ps (each_take IsBit (heads l) (digits 24 cw) (each-digits 24 cw))
      (each_append IsBit (bits p) (replicate (lent l * 8 - heads l - length p * 8) 0) (each_bits p)
      (each-replicate IsBit (lent l * 8 - heads l - length p * 8) 0 (omega arith))))

  pub header-unit : header_of l (unit l cw p) ≡ number 0 (take (heads l) (digits 24 cw))
  unfolding header_of
  header-unit =
      ap (λ (u : List ℕ). number 0 (heard (start l) (step l - 1) (heads l) u)) woven
      ∙ ap (λ (n : ℕ). number 0 (heard (start l) (step l - 1) n (weave (start l) (step l - 1) hs ps))) (sym length-hs)
      ∙ ap (number 0) (heard-weave (start l) (step l - 1) hs ps room)

  -- its other bits are those of the payload, and zeros
  pub unwoven-unit : unwoven (start l) (step l - 1) (heads l) (bits (unit l cw p)) ≡ ps
  unwoven-unit =
      ap (unwoven (start l) (step l - 1) (heads l)) woven
      ∙ ap (λ (n : ℕ). unwoven (start l) (step l - 1) n (weave (start l) (step l - 1) hs ps)) (sym length-hs)
      ∙ unwoven-weave (start l) (step l - 1) hs ps room

  pub payload-unit : Bytes p → payload_of l (unit l cw p) ≡ p
  unfolding payload_of
  payload-unit b =
      ap (pack (payload l)) unwoven-unit ∙ ap (λ (n : ℕ). pack n ps) (sym e)
      ∙ pack-bits p (replicate (lent l * 8 - heads l - length p * 8) 0) b
