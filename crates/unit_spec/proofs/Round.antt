-- The round trip: what a reader with the same lengths and the same delimiter makes of a written unit.
-- round        the contents, one behind the other, as a call that writes lays them
-- round_trip   from what the two calls answer and leave
use mathlib.Core.Path.{◌≡◌, sym, ap, ap₂, ◌∙◌}
use mathlib.Core.Bool.{Bool, true, false}
use mathlib.Core.List.{List, [], ◌∷◌, ◌++◌, append_assoc, append-nil}
use Prim.Native.Nat.{ℕ, suc, ◌+◌, ◌-◌}
use native.Mathlib.Omega.{arith}
use lib.Dec.{eqb, eqb-suc-zero}
use lib.ListN.{length, take, drop, replicate, length-append, length-replicate}
use lib.Seq.{take-append_seam, drop-append_seam, take_at, drop_at}
use Rattle.base.specs.Choice.{pick}
use Rattle.base.specs.Bytes.{IsByte, Bytes}
use Rattle.base.specs.Written.{Outcome, write}
use Rattle.base.specs.Written.{Wrote}
use Rattle.base.proofs.Bytes.{each_append, each-replicate}
use Rattle.base.proofs.Writing.{write-is}
use Rattle.unit_spec.specs.Tables.{heads, payload, announced}
use Rattle.unit_spec.specs.Unit.{opened, marked, filled, laid_out, written}
use Rattle.unit_spec.specs.Reading.{named, middle, read_parts, read_unit}
use Rattle.unit_spec.proofs.Rows.{accepted}
use Rattle.unit_spec.proofs.Sequences.{told, announces, same-mix}
use Rattle.unit_spec.proofs.Hiding.{opened-seen, seen_of}
use Rattle.unit_spec.proofs.Carrying.{length-unit, header-unit, payload-unit}
use Rattle.unit_spec.proofs.Ways.{mixed, whole, Writes, written_is, writes, read_plain, read_found, read_is}

-- four lists one behind the other, taken apart by the lengths of the first and the last
module _ (a z m f : List ℕ) (n : ℕ) (e : length a + length z + length m + length f ≡ n) where
  grouped : a ++ z ++ m ++ f ≡ a ++ (z ++ m ++ f)
  grouped = ap (λ (x : List ℕ). x ++ f) (append_assoc a z m) ∙ append_assoc a (z ++ m) f

  first_of : take (length a) (a ++ z ++ m ++ f) ≡ a
  first_of = ap (take (length a)) grouped ∙ take-append_seam a (z ++ m ++ f)

  last_of : drop (n - length f) (a ++ z ++ m ++ f) ≡ f
  last_of = drop_at (a ++ z ++ m) f (n - length f) (length-append (a ++ z) m ∙ ap (λ (k : ℕ). k + length m) (length-append a z) ∙ omega arith)

  middle_of : take (n - length f - length a) (drop (length a) (a ++ z ++ m ++ f)) ≡ z ++ m
  middle_of =
      ap (λ (x : List ℕ). take (n - length f - length a) (drop (length a) x)) grouped
      ∙ ap (take (n - length f - length a)) (drop-append_seam a (z ++ m ++ f))
      ∙ take_at (z ++ m) f (n - length f - length a) (length-append z m ∙ omega arith)

  long_of : length (a ++ z ++ m ++ f) ≡ n
  long_of =
      length-append (a ++ z ++ m) f
      ∙ ap (λ (k : ℕ). k + length f) (length-append (a ++ z) m ∙ ap (λ (k : ℕ). k + length m) (length-append a z)) ∙ e

module _ (l : ℕ) (d audio opp fixed : List ℕ) (w : Writes l d audio opp fixed) where
  gap : ℕ
  gap = payload l - filled d audio opp fixed

  laid : List ℕ
  laid = laid_out (payload l) d audio opp fixed

  sum : length audio + length {A = ℕ} (replicate (payload l - filled d audio opp fixed) 0) + length (marked d opp) + length fixed ≡ payload l
  sum = omega (arith, w.room, length-replicate {A = ℕ} (payload l - filled d audio opp fixed) 0)

  length-laid : length laid ≡ payload l
  unfolding laid laid_out
  length-laid = long_of audio (replicate (payload l - filled d audio opp fixed) 0) (marked d opp) fixed (payload l) sum

  laid-first : take (length audio) laid ≡ audio
  unfolding laid laid_out
  laid-first = first_of audio (replicate (payload l - filled d audio opp fixed) 0) (marked d opp) fixed (payload l) sum

  laid-last : drop (payload l - length fixed) laid ≡ fixed
  unfolding laid laid_out
  laid-last = last_of audio (replicate (payload l - filled d audio opp fixed) 0) (marked d opp) fixed (payload l) sum

  laid-middle : middle (length audio) (length fixed) laid ≡ replicate gap 0 ++ marked d opp
  unfolding laid laid_out gap
  laid-middle =
      ap (λ (n : ℕ). take (n - length fixed - length audio) (drop (length audio) laid)) length-laid
      ∙ middle_of audio (replicate (payload l - filled d audio opp fixed) 0) (marked d opp) fixed (payload l) sum

-- what the reader makes of the payload
module _ (l : ℕ) (d audio fixed out : List ℕ) (five : length d ≡ 5) where
  parted : (opp : List ℕ) (w : Writes l d audio opp fixed)
      → read_parts (payload l) (mixed l d audio opp fixed) d (length audio) (length fixed) (laid l d audio opp fixed w) out ≡ write (audio ++ opp ++ fixed) out
  unfolding gap
  parted [] w =
      read_plain (payload l) (mixed l d audio [] fixed) d (length audio) (length fixed) (laid l d audio [] fixed w) out w.mixes
      (same-mix (length audio) (length fixed) 0 w.mixes) (omega (arith, w.room)) (announces (length audio) (length fixed) 0 w.mixes)
      ∙ ap (λ (x : List ℕ). write x out) (ap₂ ◌++◌ (laid-first l d audio [] fixed w ∙ sym (append-nil audio)) (laid-last l d audio [] fixed w))
  parted (x ∷ o) w =
      read_found (payload l) (mixed l d audio (x ∷ o) fixed) d (length audio) (length fixed) (laid l d audio (x ∷ o) fixed w) out w.mixes
      (same-mix (length audio) (length fixed) (suc (length o)) w.mixes) (omega (arith, w.room)) (λ e. let z : ◌≡◌ {A = ℕ} 1 0 = sym says ∙ e in omega arith)
      (λ e. let z : length (x ∷ o) ≡ 0 = sym (ap length finds) ∙ e in omega arith)
      ∙ ap (λ (y : List ℕ). write y out) (ap₂ ◌++◌ (ap₂ ◌++◌ (laid-first l d audio (x ∷ o) fixed w) finds) (laid-last l d audio (x ∷ o) fixed w))
    where
      says : announced (mixed l d audio (x ∷ o) fixed) ≡ 1
      says = rw eqb-suc-zero at (announces (length audio) (length fixed) (suc (length o)) w.mixes)

      there : marked d (x ∷ o) ≡ d ++ x ∷ o
      there = rw eqb-suc-zero

      finds : opened d (middle (length audio) (length fixed) (laid l d audio (x ∷ o) fixed w)) ≡ x ∷ o
      finds =
          ap (opened d) (laid-middle l d audio (x ∷ o) fixed w ∙ ap (λ (m : List ℕ). replicate (payload l - filled d audio (x ∷ o) fixed) 0 ++ m) there)
          ∙ opened-seen d (x ∷ o) (payload l - filled d audio (x ∷ o) fixed) five
          (seen_of d o x (payload l - filled d audio (x ∷ o) fixed) five w.seen)

module _ (l : ℕ) (d audio opp fixed : List ℕ) (five : length d ≡ 5) (bd : Bytes d) (ba : Bytes audio) (bo : Bytes opp) (bf : Bytes fixed) where
  bytes : (w : Writes l d audio opp fixed) → Bytes (laid l d audio opp fixed w)
  unfolding laid laid_out
  bytes w =
      each_append IsByte (audio ++ replicate g 0 ++ marked d opp) fixed
      (each_append IsByte (audio ++ replicate g 0) (marked d opp)
      (each_append IsByte audio (replicate g 0) ba (each-replicate IsByte g 0 (omega arith))) (mark (eqb (length opp) 0))) bf
    where
      g : ℕ
      g = payload l - filled d audio opp fixed

      mark : (t : Bool) → Bytes (pick t [] (d ++ opp))
      mark true = tt
      mark false = each_append IsByte d opp bd bo

  pub round : Writes l d audio opp fixed → (out : List ℕ) → read_unit l d (length audio) (length fixed) (whole l d audio opp fixed) out ≡ write (audio ++ opp
      ++ fixed) out
  unfolding laid
  round w out =
      let k = (accepted l w.fit).1 in
      let cw = mixed l d audio opp fixed in
      read_is l d (length audio) (length fixed) (whole l d audio opp fixed) out w.fit (omega (arith, length-unit l cw (laid l d audio opp fixed w)))
      ∙ ap₂ (λ (c : ℕ) (p : List ℕ). read_parts (payload l) c d (length audio) (length fixed) p out)
      (ap (named (heads l)) (header-unit l cw (laid l d audio opp fixed w) k (length-laid l d audio opp fixed w))
      ∙ told (length audio) (length fixed) (length opp) w.mixes l)
      (payload-unit l cw (laid l d audio opp fixed w) k (length-laid l d audio opp fixed w) (bytes w))
      ∙ parted l d audio fixed out five opp w

  -- where a unit is written, the m bytes written are read as the contents
  pub round_trip : (m : ℕ) (out out' : List ℕ) → (written l d audio opp fixed out).answer ≡ Wrote m
      → read_unit l d (length audio) (length fixed) (take m (written l d audio opp fixed out).output) out' ≡ write (audio ++ opp ++ fixed) out'
  round_trip m out out' e =
      let w = writes l d audio opp fixed out m e in
      let i = written_is l d audio opp fixed out w in
      ap (λ (u : List ℕ). read_unit l d (length audio) (length fixed) u out')
      (ap (λ (r : Outcome). take m r.output) i ∙ write-is (whole l d audio opp fixed) out m (sym (ap (λ (r : Outcome). r.answer) i) ∙ e))
      ∙ round w out'
