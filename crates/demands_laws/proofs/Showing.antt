-- The refusals of a board's call, 10 and 11.
-- show-exact   row by row
-- show-same    with nothing taken or written, and state and buffers as they were
use Prim.Native.Nat.{ℕ, ◌-◌, ◌<◌}
use native.Mathlib.Omega.{arith}
use mathlib.Core.Path.{◌≡◌, refl, sym, ap}
use mathlib.Core.Bool.{Bool, true, false, ◌&&◌}
use mathlib.Core.Logic.{◌⊎◌, ◌↔◌, ⊎_elim}
use mathlib.Core.Logic.◌⊎◌.{inl, inr}
use mathlib.Core.List.{List, [], ◌∷◌}
use mathlib.Core.Option.{Option, some, none}
use lib.Dec.{ltb}
use lib.ListN.{length}
use borrow.Author.Tests.{leb-false, not-true, not-false}
use Rattle.base.specs.Choice.{pick}
use Rattle.base.proofs.Tests.{and_parts}
use Rattle.channel_spec.specs.Meaning.{Event}
use Rattle.channel.specs.Call.{sound, roomy}
use Rattle.listing_spec.specs.declared.Spot.{Spot}
use Rattle.listing_spec.specs.Lines.{longest}
use Rattle.ports_spec.specs.Ports.{unfit}
use Rattle.ports.specs.ByValue.{sound_ports}
use Rattle.ports_spec.proofs.Refusing.{unfit-is, fit-not}
use Rattle.recording.specs.Call.{far}
use Rattle.board.specs.declared.readout.Readout.{Readout}
use Rattle.board.specs.Wants.{Wants}
use Rattle.board.specs.Wants.{More, Again, Refused}
use Rattle.board.specs.Source.{Source, memory_in, source_hear}
use Rattle.board.specs.Owed.{sound_owed}
use Rattle.board.specs.Call.{Screen, readout_of, recv_on, owed_on, part, partly, heard_by, takes_on, near_by, sound_state, takes_by, takes}
use Rattle.demands_laws.specs.Table.{Exact}
use Rattle.demands_laws.specs.Refusals.{BoardBeyond, Short, ByShow}
use Rattle.demands_laws.proofs.Rows.{applies, over, passed, not-both}
use Rattle.demands_laws.proofs.Called.{not-most, beyond, within, short, long}

-- ---- 10
module _ (r : Readout) (n : ℕ) where
  abbrev tests : Bool × Bool × Bool × Bool
  tests = (sound r.tape.receiver, near_by r.bare r.tape.spot n, sound_ports r.ports, sound_owed r.owed)

  far-by : (b : Bool) (p : Spot) → near_by b p n ≡ false → (b ≡ false) × (far - n < p.offset)
  far-by true p e = absurd (let z : ◌≡◌ {A = ℕ} (pick true 0 1) (pick false 0 1) = ap (λ t. pick t 0 1) e in omega arith)
  far-by false p e = (refl, leb-false p.offset (far - n) e)

  near_by_lem : (b : Bool) (p : Spot) → near_by b p n ≡ true → (b ≡ false) × (far - n < p.offset) → ⊥
  near_by_lem true p e h = let z : ◌≡◌ {A = ℕ} (pick true 0 1) (pick false 0 1) = ap (λ t. pick t 0 1) h.0 in omega arith
  near_by_lem false p e h = not-most p.offset (far - n) e h.1

  board-beyond : sound_state r n ≡ false → BoardBeyond r n
  board-beyond e =
      ⊎_elim (λ h. inl (beyond r.tape.receiver h))
      (λ h. inr (⊎_elim (λ k. inl (far-by r.bare r.tape.spot k))
      (λ k. inr (⊎_elim (λ l. inl (unfit-is r.ports.entries (not-false (unfit r.ports.entries) l)))
      (λ l. inr (leb-false r.owed.piece.length longest l)) (not-both tests.2 tests.3 k)))
      (not-both tests.1 (tests.2 && tests.3) h)))
      (not-both tests.0 (tests.1 && (tests.2 && tests.3)) e)

  board-within : sound_state r n ≡ true → BoardBeyond r n → ⊥
  board-within e =
      let a = and_parts tests.0 (tests.1 && (tests.2 && tests.3)) e in
      let b = and_parts tests.1 (tests.2 && tests.3) a.1 in
      let c = and_parts tests.2 tests.3 b.1 in
      ⊎_elim (within r.tape.receiver a.0) (⊎_elim (near_by_lem r.bare r.tape.spot b.0)
      (⊎_elim (fit-not r.ports.entries (not-true (unfit r.ports.entries) c.0)) (not-most r.owed.piece.length longest c.1)))

-- ---- a call that passes refuses nothing
wanted : Wants → ℕ
wanted More = 0
wanted Again = 1
wanted (Refused n) = 2

heard-not : (s : Screen) (x : Option Event × ℕ × Source) (n : ℕ) → ByShow (heard_by s x) n → ⊥
unfolding wanted
heard-not s (none, m, y) n e = let z = ap wanted e in omega (arith, z)
heard-not s (some a, m, y) n e = let z = ap wanted e in omega (arith, z)

on-not : (room : ℕ) (s : Screen) (bs : List ℕ) (n : ℕ) → ByShow (takes_on room s bs) n → ⊥
unfolding takes_on wanted
on-not room s bs n = go (ltb room (length (owed_on s)))
  where
    go : (t : Bool) → ByShow (pick t (partly room s) (heard_by s (source_hear s.source bs))) n → ⊥
    go true e = let z = ap wanted e in omega (arith, z)
    go false e = heard-not s (source_hear s.source bs) n e

is-show : (s : Screen) (k n : ℕ) → ByShow (part (Refused k) 0 [] s) n ↔ n ≡ k
is-show s k n = (λ e. let z : k ≡ n = cc in sym z, λ e i. Refused (sym e i))

module _ (room : ℕ) (s : Screen) (bs : List ℕ) where
  abbrev word : List ℕ
  word = (memory_in s.source.deck).word

  pub show-exact : Exact ByShow (takes room s bs) ((10, BoardBeyond (readout_of s) (length bs)) ∷ (11, Short (recv_on s) word) ∷ [])
  show-exact = go (sound_state (readout_of s) (length bs)) (roomy (recv_on s) word) refl refl
    where
      go : (a b : Bool) → sound_state (readout_of s) (length bs) ≡ a → roomy (recv_on s) word ≡ b
          → Exact ByShow (takes_by a b room s bs) ((10, BoardBeyond (readout_of s) (length bs)) ∷ (11, Short (recv_on s) word) ∷ [])
      go false b e f = applies ByShow _ (is-show s 10) (board-beyond (readout_of s) (length bs) e)
      go true false e f = over ByShow (board-within (readout_of s) (length bs) e) (applies ByShow _ (is-show s 11) (short (recv_on s) word f))
      go true true e f =
          over ByShow (board-within (readout_of s) (length bs) e) (over ByShow (long (recv_on s) word f) (passed ByShow λ n b. on-not room s bs n b))

  pub show-same : (n : ℕ) → ByShow (takes room s bs) n → takes room s bs ≡ part (Refused n) 0 [] s
  show-same n = go (sound_state (readout_of s) (length bs)) (roomy (recv_on s) word)
    where
      go : (a b : Bool) → ByShow (takes_by a b room s bs) n → takes_by a b room s bs ≡ part (Refused n) 0 [] s
      go false b e = λ i. part (e i) 0 [] s
      go true false e = λ i. part (e i) 0 [] s
      go true true e = absurd (on-not room s bs n e)
