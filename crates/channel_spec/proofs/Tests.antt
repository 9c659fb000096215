-- Tests in a row.
-- two-and, three-and   those before hold, and the last one decides
use mathlib.Core.Path.{◌≡◌}
use mathlib.Core.Bool.{Bool, true, ◌&&◌}

pub two-and : {a b x : Bool} → a ≡ true → b ≡ true → x ≡ a && (b && x)
two-and p q = rw (p, q)

pub three-and : {a b d x : Bool} → a ≡ true → b ≡ true → d ≡ true → x ≡ a && (b && (d && x))
three-and p q r = rw (p, q, r)
