-- framed-same   words framed alike are the same words
use Prim.Native.Nat.{ℕ}
use native.Mathlib.Omega.{arith}
use mathlib.Core.Path.{◌≡◌, refl, sym, ◌∙◌, ap}
use mathlib.Core.List.{List, [], ◌∷◌, ◌++◌}
use lib.ListN.{length, take, drop}
use lib.Seq.{take_at, drop_at}
use Rattle.base.specs.Bytes.{Each}
use Rattle.channel_spec.specs.Sender.{word_bytes, framed}
use Rattle.channel_spec.specs.Meaning.{IsWord}

some-framed : (w : List ℕ) (ws : List (List ℕ)) → [] ≡ framed (w ∷ ws) → ⊥
some-framed w ws e = omega (arith, ap length e)

pub framed-same : (us ws : List (List ℕ)) → Each IsWord us → Each IsWord ws → framed us ≡ framed ws → us ≡ ws
framed-same [] [] h k e = refl
framed-same [] (w ∷ ws) h k e = absurd (some-framed w ws e)
framed-same (u ∷ us) [] h k e = absurd (some-framed u us (sym e))
framed-same (u ∷ us) (w ∷ ws) h k e =
    let b : u ++ framed us ≡ w ++ framed ws = ap (drop 4) e in
    let f : u ≡ w = sym (take_at u (framed us) word_bytes h.0) ∙ ap (take word_bytes) b ∙ take_at w (framed ws) word_bytes k.0 in
    let g : framed us ≡ framed ws = sym (drop_at u (framed us) word_bytes h.0) ∙ ap (drop word_bytes) b ∙ drop_at w (framed ws) word_bytes k.0 in
    let r : us ≡ ws = framed-same us ws h.1 k.1 g in
    λ i. f i ∷ r i
