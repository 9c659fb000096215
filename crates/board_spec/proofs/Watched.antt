-- Sixteen ports at most, whatever comes in on them: each finds a place in the table.
-- IsWatched        a line that is not `! unwatched`
-- all-watched      packets of at most 16 ports, whatever their numbers, and whatever else is answered: each line is such
-- range-watched    so a board that is told a range of at most 16 ports never finds one unwatched, whatever is sent on others
use Prim.Native.Nat.{ℕ, zero, suc, ◌+◌, ◌-◌, ◌≤◌, ◌<◌}
use native.Mathlib.Omega.{arith}
use mathlib.Core.Path.{◌≡◌, refl, sym, ◌∙◌, ap, subst}
use mathlib.Core.Logic.{inl, inr}
use mathlib.Core.Bool.{Bool, true, false}
use mathlib.Core.List.{List, [], ◌∷◌, ◌++◌}
use mathlib.Core.Option.{Option, some, none}
use lib.Dec.{eqb, ltb, leb}
use lib.ListN.{length}
use borrow.Author.Tests.{leb-true}
use Rattle.base.specs.Bytes.{Each}
use Rattle.base.specs.Choice.{pick}
use Rattle.base.proofs.Bytes.{each_append}
use Rattle.base.proofs.Tests.{by-eq, by_le, and_parts}
use Rattle.packet_spec.specs.Contents.{Packet, key_format}
use Rattle.packet_spec.specs.Frame.{packet, refusal, broken}
use Rattle.channel_spec.specs.Meaning.{Event, said, block, lost, frames}
use Rattle.channel_spec.specs.declared.Condition.{Condition}
use Rattle.channel_spec.specs.declared.Condition.TheVariants.{Clean, Repaired, Beyond}
use Rattle.ports_spec.specs.declared.Entry.{Entry}
use Rattle.ports_spec.specs.declared.Noted.{Noted}
use Rattle.ports_spec.specs.declared.Noted.TheVariants.{First, InOrder, Repeated, Missing, Late, Refused}
use Rattle.ports_spec.specs.declared.Range.{Range}
use Rattle.ports_spec.specs.Distance.{half, gap, ruled}
use Rattle.ports_spec.specs.Ports.{place_limit, free_place, last_of, unfit, noting, fresh_table}
use Rattle.ports_spec.specs.Range.{inside}
use Rattle.ports_spec.proofs.Laws.{others-noted, noted-last, noted-first, fresh-fit, fresh-none}
use Rattle.ports_spec.proofs.Keeping.{fit-noted}
use Rattle.board_spec.specs.Meaning.{Line, bid, missing, unwatched, late, repeated, restricted, refused_frame, broken_frame}
use Rattle.board_spec.specs.Meaning.{clean_block, repaired_block, beyond_repair, lock_lost, wrong_at}
use Rattle.board_spec.specs.Meaning.{ahead_of, own_line, packet_lines, block_lines, board_lines, regarded}
use Rattle.board_spec.specs.Typed.{packets_among, Member, Among}
use Rattle.board_spec.proofs.Sixteen.{Within, has-place, noted-length}
use Rattle.board_spec.proofs.Ranges.{regarded-inside}

-- a line that is not `! unwatched`
abbrev pub IsWatched : Line → Type 0
IsWatched (bid p s t) = Unit {0}
IsWatched (missing p n) = Unit {0}
IsWatched (unwatched p) = ⊥
IsWatched (late p s t) = Unit {0}
IsWatched (repeated p s t) = Unit {0}
IsWatched (restricted p s k) = Unit {0}
IsWatched (refused_frame n) = Unit {0}
IsWatched (broken_frame n) = Unit {0}
IsWatched clean_block = Unit {0}
IsWatched (repaired_block n) = Unit {0}
IsWatched beyond_repair = Unit {0}
IsWatched lock_lost = Unit {0}
IsWatched (wrong_at n) = Unit {0}

-- ---- a packet whose port has a place, or finds one
abbrev Placed : Noted → Type 0
Placed First = Unit {0}
Placed InOrder = Unit {0}
Placed Repeated = Unit {0}
Placed (Missing n) = Unit {0}
Placed Late = Unit {0}
Placed (Refused n) = ⊥

rule-placed : (l s : ℕ) → Placed (ruled l s)
rule-placed l s = go (eqb (gap l s) 0) (eqb (gap l s) 1) (ltb (gap l s) half)
  where
    go : (a b c : Bool) → Placed (pick a Repeated (pick b InOrder (pick c (Missing (gap l s - 1)) Late)))
    go true b c = tt
    go false true c = tt
    go false false true = tt
    go false false false = tt

note-placed : (t : List Entry) (p : Packet) → unfit t ≡ false → (last_of p.port t ≡ none → length t ≤ free_place t → ⊥)
    → Placed (noting t p.port p.sequence).0
note-placed t p f room = go (last_of p.port t) refl
  where
    go : (o : Option ℕ) → last_of p.port t ≡ o → Placed (noting t p.port p.sequence).0
    go (some l) e = subst Placed (sym (noted-last t p.port p.sequence l f e).0) (rule-placed l p.sequence)
    go none e =
        by_le (length t) (free_place t) (λ k. absurd (room e k))
        (λ k. subst (λ (x : Noted × List Entry). Placed x.0) (sym (noted-first t p.port p.sequence f e k)) tt)

lines-placed : (v : Noted) (p : Packet) → Placed v → Each IsWatched (packet_lines v p)
lines-placed v p h = go v h (eqb p.format key_format)
  where
    go : (v : Noted) → Placed v → (t : Bool)
        → Each IsWatched
        (ahead_of v p.port ++ (pick t (restricted p.port p.sequence p.number) (own_line v p.port p.sequence p.payload) ∷ []))
    go First h true = (tt, tt)
    go First h false = (tt, tt)
    go InOrder h true = (tt, tt)
    go InOrder h false = (tt, tt)
    go Repeated h true = (tt, tt)
    go Repeated h false = (tt, tt)
    go (Missing n) h true = (tt, (tt, tt))
    go (Missing n) h false = (tt, (tt, tt))
    go Late h true = (tt, tt)
    go Late h false = (tt, tt)
    go (Refused n) h t = absurd h

block-watched : (b : Bool) (c : Condition) → Each IsWatched (block_lines b c)
block-watched true Clean = (tt, tt)
block-watched false Clean = tt
block-watched true (Repaired n) = (tt, tt)
block-watched false (Repaired n) = tt
block-watched true Beyond = (tt, tt)
block-watched false Beyond = (tt, tt)

-- ---- answers
module _ (b : Bool) (qs : List ℕ) (few : length qs ≤ place_limit) where
  watched-from : (es : List Event) (t : List Entry) → unfit t ≡ false → length t ≡ place_limit → Within qs t → Among qs (packets_among (frames es))
      → Each IsWatched (board_lines b t es)
  unfolding board_lines packets_among
  watched-from [] t f l w m = tt
  watched-from (said (packet p) ∷ es) t f l w m =
      let u : List Entry = (noting t p.port p.sequence).1 in
      let v : Noted = (noting t p.port p.sequence).0 in
      let within : Within qs u =
      λ q n.
      by-eq p.port q (λ e. subst (λ (x : ℕ). Member x qs) e m.0)
      (λ d. w q (λ z. n (others-noted t p.port p.sequence q d ∙ z))) in
      each_append IsWatched (packet_lines v p) (board_lines b u es)
      (lines-placed v p (note-placed t p f (has-place t qs p.port f (omega arith) w m.0)))
      (watched-from es u (fit-noted t p.port p.sequence f) (noted-length t p.port p.sequence ∙ l) within m.1)
  watched-from (said (refusal n) ∷ es) t f l w m = (tt, watched-from es t f l w m)
  watched-from (said (broken n) ∷ es) t f l w m = (tt, watched-from es t f l w m)
  watched-from (block c ∷ es) t f l w m =
      each_append IsWatched (block_lines b c) (board_lines b t es) (block-watched b c) (watched-from es t f l w m)
  watched-from (lost ∷ es) t f l w m = (tt, watched-from es t f l w m)

  pub all-watched : (es : List Event) → Among qs (packets_among (frames es)) → Each IsWatched (board_lines b fresh_table es)
  all-watched es m = watched-from es fresh_table fresh-fit refl (λ q n. absurd (n (fresh-none q))) m

-- ---- a range of at most 16 ports
unfoldable up_from : ℕ → ℕ → List ℕ
up_from a zero = []
up_from a (suc n) = a ∷ up_from (suc a) n

up-length : (n a : ℕ) → length (up_from a n) ≡ n
unfolding up_from
up-length zero a = refl
up-length (suc n) a = ap suc (up-length n (suc a))

up-member : (n a q : ℕ) → a ≤ q → q < a + n → Member q (up_from a n)
unfolding up_from
up-member zero a q h k = absurd (omega arith)
up-member (suc n) a q h k = by-eq q a (λ e. inl e) (λ d. inr (up-member n (suc a) q (omega arith) (omega arith)))

module _ (r : Range) (few : r.last < r.first + place_limit) where
  members : (ps : List Packet) → Each (λ p. inside r p.port ≡ true) ps → Among (up_from r.first place_limit) ps
  members [] h = tt
  members (p ∷ ps) h =
      let e = and_parts (leb r.first p.port) (leb p.port r.last) h.0 in
      let a = leb-true r.first p.port e.0 in
      let c = leb-true p.port r.last e.1 in
      (up-member place_limit r.first p.port a (omega (arith, c, few)), members ps h.1)

  pub range-watched : (b : Bool) (es : List Event) → Each IsWatched (board_lines b fresh_table (regarded r es))
  range-watched b es =
      all-watched b (up_from r.first place_limit) (omega (arith, up-length place_limit r.first)) (regarded r es)
      (members (packets_among (frames (regarded r es))) (regarded-inside r es))
