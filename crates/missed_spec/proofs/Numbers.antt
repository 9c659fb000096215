-- Computed cases of what is printed.
-- printed   the lines of seven packets of two ports, with a gap, a late one and one repeated
use Prim.Native.Nat.{ℕ}
use mathlib.Core.Path.{◌≡◌, refl}
use mathlib.Core.List.{List, [], ◌∷◌}
use Rattle.text.specs.Text.{ascii, decimal_by, decimal}
use Rattle.ports_spec.specs.Distance.{ruled, last_behind}
use Rattle.ports_spec.specs.Ports.{place_of, free_place, twice, fresh_table, noting}
use Rattle.missed_spec.specs.Line.{noted_line}
use Rattle.missed_spec.specs.Meaning.{lines_of, notes}

pub printed : notes fresh_table ((5121, 88) ∷ (5121, 91) ∷ (5122, 65535) ∷ (5121, 90) ∷ (5122, 0) ∷ (5121, 91) ∷ (5121, 92) ∷ [])
    ≡ ascii "5121 88 first\n5121 91 missing 2\n5122 65535 first\n5121 90 late\n5122 0 in order\n5121 91 repeated\n5121 92 in order\n"
unfolding lines_of noted_line decimal decimal_by noting place_of free_place twice
printed = refl
