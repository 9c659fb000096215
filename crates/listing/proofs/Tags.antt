-- What tells cases apart: where two are equal, so are their numbers.
-- wants_tag   what a call wants
use Prim.Native.Nat.{ℕ}
use Rattle.listing.specs.Wants.{Wants}
use Rattle.listing.specs.Wants.{More, Room, Refused}

abbrev pub wants_tag : Wants → ℕ
wants_tag More = 0
wants_tag Room = 1
wants_tag (Refused n) = 2
