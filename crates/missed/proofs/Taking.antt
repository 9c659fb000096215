-- One call on a recording whose packets are noted, way by way.
-- noted-put                   a line from its parts
-- note-out, note-in           a packet of a port outside the range, and of one inside
use Prim.Native.Nat.{ℕ, ◌≤◌}
use native.Mathlib.Omega.{arith}
use mathlib.Core.Path.{◌≡◌, refl, sym, ◌∙◌, ap, subst}
use mathlib.Core.Bool.{Bool, true, false, not}
use mathlib.Core.List.{List, ◌++◌}
use lib.ListN.{length, drop}
use borrow.Author.Tests.{not-true, not-false}
use Rattle.text.specs.Text.{number}
use Rattle.text.specs.Put.{Puts}
use Rattle.text.proofs.Putting.{put_then, put-start}
use Rattle.packet_spec.specs.declared.Delivery.{Delivery}
use Rattle.ports_spec.specs.declared.Noted.{Noted}
use Rattle.ports_spec.specs.Range.{inside}
use Rattle.ports_spec.specs.Ports.{noting}
use Rattle.ports.specs.declared.by_value.NotedIn.{NotedIn}
use Rattle.ports.specs.ByValue.{noted_in}
use Rattle.missed_spec.specs.Line.{noted_text, noted_line, longest}
use Rattle.missed_spec.proofs.Laws.{line-short}
use Rattle.missed.specs.declared.notes.Notes.{Notes}
use Rattle.missed.specs.Wants.{Again, Took}
use Rattle.missed.specs.Page.{line_by}
use Rattle.missed.specs.Private.{NotedIs}

pub noted-put : {l l₁ l₂ l₃ : List ℕ} {a b c p q : ℕ} (port sequence : ℕ) (n : Noted) → p ≡ port → q ≡ sequence
    → Puts l 0 (number p " ") l₁ a → Puts l₁ a (number q " ") l₂ b → Puts l₂ b (noted_text n) l₃ c → Puts l 0 (noted_line port sequence n) l₃ c
unfolding noted_line
noted-put {l} {l₃ = l₃} {c = c} {p} {q} port sequence n ep eq u v w =
    subst (λ (x : ℕ). Puts l 0 (noted_line x sequence n) l₃ c) ep (subst (λ (y : ℕ). Puts l 0 (noted_line p y n) l₃ c) eq (put_then (put_then u v) w))

-- ---- a packet
module _ (s : Notes) (taken : ℕ) (d : Delivery) (old : List ℕ) {t : Bool} (asked : t ≡ inside s.range d.port) where
  -- the result, by: is its port one of the range
  abbrev Result : Bool → Took → List ℕ → Type 0
  Result b w out =
      (w ≡ record {
        wants = Again;
        taken = taken;
        written = length (line_by b s.ports d.port d.sequence).0;
        next = record { tape = s.tape; ports = (line_by b s.ports d.port d.sequence).1; range = s.range };
      }) × (out ≡ (line_by b s.ports d.port d.sequence).0 ++ drop (length (line_by b s.ports d.port d.sequence).0) old)

  as-asked : (b : Bool) {w : Took} {out : List ℕ} → t ≡ b → Result b w out → NotedIs s taken d w old out
  as-asked b {w} {out} e h = subst (λ (x : Bool). Result x w out) (sym e ∙ asked) h

  pub note-out : not t ≡ true → NotedIs s taken d (record { wants = Again; taken = taken; written = 0; next = s }) old old
  note-out e = as-asked false (not-true t e) (refl, refl)

  pub note-in : not t ≡ false → longest ≤ length old → {x : NotedIn} → x ≡ noted_in (noting s.ports.entries d.port d.sequence)
      → {out : List ℕ} {n : ℕ} → Puts old 0 (noted_line d.port d.sequence x.noted) out n
      → NotedIs s taken d (record {
        wants = Again;
        taken = taken;
        written = n;
        next = record { tape = s.tape; ports = x.ports; range = s.range };
      }) old out
  note-in e room {x} f {out} {n} h =
      let l : List ℕ = noted_line d.port d.sequence x.noted in
      let g = put-start h (omega (arith, room, line-short d.port d.sequence x.noted)) in
      let same : l ≡ noted_line d.port d.sequence (noting s.ports.entries d.port d.sequence).0 =
      ap (λ (y : NotedIn). noted_line d.port d.sequence y.noted) f in
      as-asked true (not-false t e) (
        (λ i. record {
          wants = Again;
          taken = taken;
          written = (g.1 ∙ ap length same) i;
          next = record { tape = s.tape; ports = (f i).ports; range = s.range };
        }),
        g.0 ∙ ap (λ (y : List ℕ). y ++ drop (length y) old) same,
      )
