-- Lines from their parts, as they are put one behind the other.
-- packet-put, refused-put, broken-put   a frame's line
-- end-put, wrong-put                    the last line
use Prim.Native.Nat.{ℕ}
use mathlib.Core.Path.{◌≡◌, ap}
use mathlib.Core.List.{List, ◌∷◌}
use Rattle.text.specs.Text.{ascii, number}
use Rattle.text.specs.Put.{Puts}
use Rattle.text.proofs.Putting.{put_then, put_as}
use Rattle.packet_spec.specs.Port.{class}
use Rattle.packet_spec.specs.declared.Delivery.{Delivery}
use Rattle.packet_spec.specs.declared.Judged.TheVariants.{Packet, Refused, Broken}
use Rattle.listing_spec.specs.Lines.{letter, told, end_line, wrong_line}

pub packet-put : {l l₁ l₂ l₃ l₄ l₅ : List ℕ} {a b c e f k p s : ℕ} (d : Delivery) → p ≡ d.port → s ≡ d.sequence → Puts l 0 (ascii "P ") l₁ a
    → Puts l₁ a (number p " ") l₂ b → Puts l₂ b (number s " ") l₃ c → Puts l₃ c (number d.length " ") l₄ e → Puts l₄ e (k ∷ ascii "\n") l₅ f
    → k ≡ letter (class d.port) → Puts l 0 (told (Packet d)) l₅ f
unfolding told
packet-put d m n u v w x y h =
    let port = put_as v (ap (λ (p : ℕ). number p " ") m) in
    let sequence = put_as w (ap (λ (s : ℕ). number s " ") n) in
    put_then (put_then (put_then (put_then u port) sequence) x) (put_as y (ap (λ (k : ℕ). k ∷ ascii "\n") h))

pub refused-put : {l l₁ l₂ : List ℕ} {a b : ℕ} (n : ℕ) → Puts l 0 (ascii "R ") l₁ a → Puts l₁ a (number n "\n") l₂ b → Puts l 0 (told (Refused n)) l₂ b
unfolding told
refused-put n u v = put_then u v

pub broken-put : {l l₁ l₂ l₃ : List ℕ} {a b c : ℕ} (n : ℕ) → Puts l 0 (ascii "R ") l₁ a → Puts l₁ a (number 3 " ") l₂ b
    → Puts l₂ b (number n "\n") l₃ c → Puts l 0 (told (Broken n)) l₃ c
unfolding told
broken-put n u v w = put_then (put_then u v) w

pub end-put : {l l₁ l₂ l₃ l₄ l₅ l₆ : List ℕ} {a b c d e f : ℕ} (n p r x y : ℕ) → Puts l 0 (ascii "E ") l₁ a → Puts l₁ a (number n " ") l₂ b
    → Puts l₂ b (number p " ") l₃ c → Puts l₃ c (number r " ") l₄ d → Puts l₄ d (number x " ") l₅ e → Puts l₅ e (number y "\n") l₆ f
    → Puts l 0 (end_line n p r x y) l₆ f
unfolding end_line
end-put n p r x y u v w q s t = put_then (put_then (put_then (put_then (put_then u v) w) q) s) t

pub wrong-put : {l l₁ l₂ : List ℕ} {a b : ℕ} (n : ℕ) → Puts l 0 (ascii "X ") l₁ a → Puts l₁ a (number n "\n") l₂ b → Puts l 0 (wrong_line n) l₂ b
unfolding wrong_line
wrong-put n u v = put_then u v
