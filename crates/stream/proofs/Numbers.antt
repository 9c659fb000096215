-- numbers             (e) to (h) of paper 01: the answers of 7E 7E, 7E 00 7E, 7E 21 7D 7E and 7E 7D 21 7E
-- places, place-edges  the place that the state remembers, and its edges
use mathlib.Core.Path.{◌≡◌, refl}
use mathlib.Core.Bool.{Bool, true, false}
use mathlib.Core.List.{List, [], ◌∷◌, ◌++◌}
use Prim.Native.Nat.{ℕ, suc, ◌-◌}
use lib.ListN.{replicate}
use Rattle.packet_spec.specs.Contents.{raw_limit}
use Rattle.packet_spec.specs.Escape.{plain, wrong_from, right, last, scan}
use Rattle.packet_spec.specs.Frame.{Told, refusal, broken, judge_contents, closed_by, closed, judge}
use Rattle.stream.specs.Meaning.{waiting, reads}
use Rattle.stream.specs.Call.{held, fresh, place_limit, take_byte, read_all, sound}

-- the answers of a stream from its start
abbrev heard : List ℕ → List Told
heard bs = (reads waiting bs).0

pub numbers :
    ◌≡◌ {A = List (List Told)}
    (heard (0x7E ∷ 0x7E ∷ []) ∷ heard (0x7E ∷ 0x00 ∷ 0x7E ∷ []) ∷ heard (0x7E ∷ 0x21 ∷ 0x7D ∷ 0x7E ∷ []) ∷ heard (0x7E ∷ 0x7D ∷ 0x21 ∷ 0x7E ∷ []) ∷ [])
    ([] ∷ (refusal 4 ∷ []) ∷ (refusal 2 ∷ []) ∷ (broken 1 ∷ []) ∷ [])
unfolding judge closed closed_by judge_contents scan last wrong_from right plain
numbers = refl

-- the place remembered behind bytes, in a receive buffer of eight
abbrev remembered : List ℕ → ℕ
remembered bs = (read_all (held fresh (replicate 8 0)) bs).1.st.place

-- the first wrong byte stays; a second 7D is one; behind a flag, and before the first one, there is none; a right byte is none
pub places : ◌≡◌ {A = List ℕ}
    (remembered (0x7E ∷ 0x7D ∷ 0x21 ∷ 0x7D ∷ 0x22 ∷ []) ∷ remembered (0x7E ∷ 0x7D ∷ 0x5E ∷ 0x7D ∷ 0x7D ∷ 0x5E ∷ []) ∷ remembered
    (0x7E ∷ 0x7D ∷ 0x21 ∷ 0x7E ∷ []) ∷ remembered (0x7D ∷ 0x21 ∷ []) ∷ remembered (0x7E ∷ 0x7D ∷ 0x5D ∷ 0x21 ∷ []) ∷ [])
    (1 ∷ 3 ∷ 0 ∷ 0 ∷ 0 ∷ [])
unfolding closed closed_by scan last wrong_from right
places = refl

-- behind n raw bytes, the last of them 7D, comes 21
abbrev noticed_at : ℕ → ℕ
noticed_at n = (take_byte (held (record { opened = true; raw = n; stored = n; place = 0 }) (replicate (n - 1) 0 ++ 0x7D ∷ 0 ∷ [])) 0x21).1.st.place

-- does a state with this place pass 10
abbrev passes : ℕ → Bool
passes n = sound (record { opened = true; raw = 0; stored = 0; place = n })

-- the last byte that is stored is looked at, and the one behind it is not; 10 where the place is above that byte's
pub place-edges : ◌≡◌ {A = List ℕ × List Bool}
    (noticed_at (raw_limit - 1) ∷ noticed_at raw_limit ∷ [], passes place_limit ∷ passes (suc place_limit) ∷ [])
    (place_limit ∷ 0 ∷ [], true ∷ false ∷ [])
unfolding wrong_from right
place-edges = refl
