-- Totals as the code counts them.
-- counting-below   where no total is the highest number, an answer is counted
use Prim.Native.Nat.{ℕ, ◌+◌, ◌<◌}
use native.Mathlib.Nat.{add-zero}
use mathlib.Core.Path.{◌≡◌, sym}
use borrow.Author.Tests.{lt-ltb}
use Rattle.channel_spec.specs.declared.Answer.{Answer}
use Rattle.listing_spec.specs.Lines.{total_of}
use Rattle.listing_spec.specs.declared.Total.{Total}
use Rattle.listing_spec.specs.declared.Total.TheVariants.{Packets, Refusals, Damaged, Lost, Nothing}
use Rattle.base.specs.Highest.{highest}
use Rattle.listing_lines.specs.declared.totals.Totals.{Totals}
use Rattle.listing_lines.specs.Counts.{counted_in, counted, more, raised, counting, Below}

-- four totals
abbrev all_of : ℕ → ℕ → ℕ → ℕ → Totals
all_of p r d l = record { packets = p; refused = r; damaged = d; lost = l }

-- .. each by a path
all : {p p' r r' d d' l l' : ℕ} → p ≡ p' → r ≡ r' → d ≡ d' → l ≡ l' → all_of p r d l ≡ all_of p' r' d' l'
all a b c e i = record { packets = a i; refused = b i; damaged = c i; lost = e i }

more-is : (n : ℕ) → n < highest → more n ≡ n + 1
more-is n h = simp (lt-ltb n highest h)

raised_below : (t : Totals) (x : Total) → Below t → raised t x ≡ counted_in t x
raised_below t Packets h = all (more-is t.packets h.0) (sym (add-zero t.refused)) (sym (add-zero t.damaged)) (sym (add-zero t.lost))
raised_below t Refusals h = all (sym (add-zero t.packets)) (more-is t.refused h.1) (sym (add-zero t.damaged)) (sym (add-zero t.lost))
raised_below t Damaged h = all (sym (add-zero t.packets)) (sym (add-zero t.refused)) (more-is t.damaged h.2) (sym (add-zero t.lost))
raised_below t Lost h = all (sym (add-zero t.packets)) (sym (add-zero t.refused)) (sym (add-zero t.damaged)) (more-is t.lost h.3)
raised_below t Nothing h = all (sym (add-zero t.packets)) (sym (add-zero t.refused)) (sym (add-zero t.damaged)) (sym (add-zero t.lost))

pub counting-below : (t : Totals) (a : Answer) → Below t → counting t a ≡ counted t a
counting-below t a h = raised_below t (total_of a) h
