-- Taken   what a number of roots becomes: it itself, or refusal 30 where it is above 64
use Rattle.std.specs.Prelude.{ℕ, ◌≡◌, ◌<◌, Result, Ok, Err}
use Rattle.base.specs.declared.Refusal.{Refusal}
use Rattle.base.specs.declared.Refusal.TheVariants as refusal
use Rattle.parity.specs.declared.Roots.{Roots}
use Rattle.parity.specs.Calls.{root_limit}

-- of a number: so many roots, or it is above the limit
abbrev pub Taken : ℕ → Result Roots Refusal → Type 0
Taken n (Ok roots) = roots.count ≡ n
Taken n (Err e) = (e ≡ refusal.Roots) × (root_limit < n)
