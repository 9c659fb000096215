-- Computed cases that hold the numbers of 10: each count, each setting and the cells' place at its limit, and beyond it; and the counts.
-- limits              what passes 10, of a sub-channel with 16 parity bytes and depth 3
-- in_group_lem, in-mark   the counts in a group and behind one
use Prim.Native.Nat.{ℕ, ◌-◌, ◌≤◌, ◌<◌}
use mathlib.Core.Path.{◌≡◌, refl, ap}
use mathlib.Core.Bool.{Bool, true, false}
use mathlib.Core.List.{List, [], ◌∷◌, map}
use lib.ListN.{length}
use borrow.Author.Tests.{lt-ltb, le-ltb}
use Rattle.base.specs.Choice.{pick}
use Rattle.stream.specs.Meaning.{Reading}
use Rattle.interleaver_spec.specs.Running.{matrix, back}
use Rattle.interleaver_spec.specs.declared.Back.{Back}
use Rattle.channel_spec.specs.declared.Hunting.{Hunting}
use Rattle.channel_spec.specs.Meaning.{zeros}
use Rattle.stream.specs.Call.{fresh}
use Rattle.subchannel_spec.specs.Meaning.{in_group, in_mark}
use Rattle.subchannel.specs.declared.sub.Sub.{Sub}
use Rattle.subchannel.specs.declared.counts.Counts.{Counts}
use Rattle.subchannel.specs.Call.{sub, lane, counts, sound, memory_of}
use Rattle.subchannel_spec.specs.Settings.{settings}

-- settings r and d, counts g m w n, and place p
abbrev at : ℕ → ℕ → ℕ → ℕ → ℕ → ℕ → ℕ → Sub
at r d g m w n p = sub (lane (settings true r d) true false zeros (counts g m w n) fresh) (back true (matrix p []))

pub limits : ◌≡◌ {A = List Bool}
    (map sound (at 16 3 1020 3 255 239 764 ∷ at 64 64 1020 3 255 191 16319 ∷ at 0 1 1020 3 255 255 16320
    ∷ at 16 3 1021 3 255 239 764 ∷ at 16 3 1020 4 255 239 764 ∷ at 16 3 1020 3 256 239 764 ∷ at 16 3 1020 3 255 240 764 ∷ at 16 3 1020 3 255 239 765
    ∷ at 65 3 0 0 0 0 0 ∷ at 16 65 0 0 0 0 0 ∷ at 64 64 0 0 0 0 16320 ∷ []))
    (true ∷ true ∷ true ∷ false ∷ false ∷ false ∷ false ∷ false ∷ false ∷ false ∷ false ∷ [])
limits = refl

-- none of a word is handed on before it is whole, and then its 255 - R message bytes are: in a group ..
module _ (r d n : ℕ) (f : Hunting) (k : Back) (w : List ℕ) (q : Reading) where
  pub in_group_lem : let c : Counts = (memory_of r d (in_group f n k w q) [] []).st.lane.counts in
      (length w < 255 → c ≡ record { group = n; marker = 0; word = length w; handed = 0 })
      × (255 ≤ length w → c ≡ record { group = n; marker = 0; word = length w; handed = 255 - r })
  in_group_lem = (
    λ h. ap (λ (t : Bool). counts n 0 (length w) (pick t 0 (255 - r))) (lt-ltb (length w) 255 h),
    λ h. ap (λ (t : Bool). counts n 0 (length w) (pick t 0 (255 - r))) (le-ltb (length w) 255 h),
  )

  -- .. and behind one, of four words
  pub in-mark : let c : Counts = (memory_of r d (in_mark f n k w q) [] []).st.lane.counts in
      (length w < 255 → c ≡ record { group = 1020; marker = n; word = length w; handed = 0 })
      × (255 ≤ length w → c ≡ record { group = 1020; marker = n; word = length w; handed = 255 - r })
  in-mark = (
    λ h. ap (λ (t : Bool). counts 1020 n (length w) (pick t 0 (255 - r))) (lt-ltb (length w) 255 h),
    λ h. ap (λ (t : Bool). counts 1020 n (length w) (pick t 0 (255 - r))) (le-ltb (length w) 255 h),
  )
