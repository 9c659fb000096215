-- What private functions alone are promised by.
-- run           the bytes that plain reading passes over before it hands over
-- escapes       whether a byte is escaped
-- as_judged     what contents are judged to be, as the answer to a frame
-- opening_most   how long format byte to sequence may be
use Rattle.std.specs.Prelude.{ℕ, ◌+◌, List, Bool, ◌||◌, eqb, Result, Ok, Err}
use Rattle.base.specs.declared.Refusal.{Refusal}
use Rattle.base.specs.Refusals.{number}
use Rattle.base.specs.UpTo.{up_to}
use Rattle.packet_spec.specs.Contents.{key_most, key_at}
use Rattle.packet_spec.specs.declared.Delivery.{Delivery}
use Rattle.packet_spec.specs.declared.Judged.{Judged}
use Rattle.packet_spec.specs.declared.Judged.TheVariants.{Packet as Delivered, Refused}

-- the bytes before the first 7D, all where there is none: plain reading passes over them at once
abbrev pub run : List ℕ → List ℕ
run bs = up_to 0x7D bs

-- the two bytes that are not sent as they are
abbrev pub escapes : ℕ → Bool
escapes b = eqb b 0x7E || eqb b 0x7D

-- format byte to sequence, at most
abbrev pub opening_most : ℕ
opening_most = key_at + key_most + 4

-- a packet as it is told of, or a refusal by the paper's number
abbrev pub as_judged : Result Delivery Refusal → Judged
as_judged (Ok d) = Delivered d
as_judged (Err r) = Refused (number r)
