-- Ports (paper 01, "Packet and frame"; table 5-2 of the source).
-- class    the class of a port
-- barred   whether it may not be used
use Rattle.std.specs.Prelude.{ℕ, Bool, false, leb}
use Rattle.base.specs.Choice.{pick}
use Rattle.packet_spec.specs.declared.Class.{Class}
use Rattle.packet_spec.specs.declared.Class.TheVariants.{System, Applications, M, D, Future, Barred}

-- range after range
unfoldable pub class : ℕ → Class
class port =
    pick (leb port 0x0400) System
    (pick (leb port 0x50FF) Applications
    (pick (leb port 0x5100) M
    (pick (leb port 0x5200) System
    (pick (leb port 0x5207) D
    (pick (leb port 0x52FF) System
    (pick (leb port 0x7CFF) Future
    (pick (leb port 0x7EFF) Barred
    (pick (leb port 0xFEFF) Future System))))))))

-- 7D00 to 7EFF
abbrev pub barred : ℕ → Bool
barred port = pick (leb 0x7D00 port) (leb port 0x7EFF) false
