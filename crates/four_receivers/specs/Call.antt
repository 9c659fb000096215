-- One to four sub-channels (request W7): the receiver's calls, by number.
-- Receiver                  the receiver whole: each sub-channel with its cells
-- seated, seat              a sub-channel of its state by value and its cells, and back: the state by value
-- whole, seats, laid        .. of all four; the lent cells behind a call
-- get, put                  a sub-channel of the receiver, by its number
-- fresh_receiver             none is configured
-- sound_four, known          what 10 and 42 ask
-- configuring, heard_by, hear_four   what the two calls answer and leave; ConfiguringIs, FourIs: that the code's results are those
-- as_configuring            the code's result of configuring, by the paper's numbers
-- Memories, call_by, call_on  the receiver with each sub-channel's two buffers, and a call on one of them
-- memory_at, exchanged       a sub-channel with its buffers, and exchanged for another
-- Scheduled                 pieces, each with its sub-channel's number, handed in until "more wanted"
-- of_one                     those of one sub-channel
use Rattle.std.specs.Prelude.{ℕ, zero, suc, ◌≡◌, Bool, true, false, ◌&&◌, List, [], ◌∷◌, ◌++◌, map, eqb, ltb, leb, get_or, set}
use Rattle.std.proofs.Math.Option.{Option, some}
use Rattle.base.specs.Calls.{Reads}
use Rattle.base.specs.Choice.{pick}
use Rattle.packet_spec.specs.Frame.{refusal}
use Rattle.parity.specs.Calls.{root_limit}
use Rattle.interleaver_spec.specs.Running.{depth_limit, matrix, back}
use Rattle.channel_spec.specs.Meaning.{Event, said}
use Rattle.channel_spec.specs.Answer.{answered}
use Rattle.subchannel.specs.declared.sub.Sub.{Sub}
use Rattle.subchannel.specs.Call.{Memory, memory, sub, told_sub, untold, sound, hear_call}
use Rattle.four_receivers.specs.declared.Seat.{Seat}
use Rattle.four_receivers.specs.declared.Receiver as code
use Rattle.four_receivers.specs.declared.Configuring.{Configuring}
use Rattle.four_receivers.specs.declared.Hearing.{Hearing}
use Rattle.subchannel_spec.specs.Settings.{Configured, Done, Refused, as_configured}

-- the receiver whole
pub record Receiver : Type 0 where
  pub a : Sub
  pub b : Sub
  pub c : Sub
  pub d : Sub

-- a sub-channel: what is handed on by value, with its cells
abbrev pub seated : Seat → List ℕ → Sub
seated x cs = sub x.lane (back x.again (matrix x.place cs))

-- .. without them
abbrev pub seat : Sub → Seat
seat x = record { lane = x.lane; again = x.back.again; place = x.back.matrix.place }

-- all four, with the cells that are lent
abbrev pub whole : code.Receiver → List (List ℕ) → Receiver
whole s cs = record {
  a = seated s.a (get_or cs 0 []);
  b = seated s.b (get_or cs 1 []);
  c = seated s.c (get_or cs 2 []);
  d = seated s.d (get_or cs 3 []);
}

-- .. without them
abbrev pub seats : Receiver → code.Receiver
seats s = record { a = seat s.a; b = seat s.b; c = seat s.c; d = seat s.d }

-- the lent cells, with those of the four in their places
abbrev pub laid : List (List ℕ) → Receiver → List (List ℕ)
laid cs s = set (set (set (set cs 0 s.a.back.matrix.cells) 1 s.b.back.matrix.cells) 2 s.c.back.matrix.cells) 3 s.d.back.matrix.cells

-- sub-channel n; 3 stands for every number above 2
abbrev pub get : Receiver → ℕ → Sub
get s zero = s.a
get s (suc zero) = s.b
get s (suc (suc zero)) = s.c
get s (suc (suc (suc n))) = s.d

-- .. exchanged for x
abbrev pub put : Receiver → ℕ → Sub → Receiver
put s zero x = record { a = x; b = s.b; c = s.c; d = s.d }
put s (suc zero) x = record { a = s.a; b = x; c = s.c; d = s.d }
put s (suc (suc zero)) x = record { a = s.a; b = s.b; c = x; d = s.d }
put s (suc (suc (suc n))) x = record { a = s.a; b = s.b; c = s.c; d = x }

-- none is configured
abbrev pub fresh_receiver : Receiver
fresh_receiver = record { a = untold; b = untold; c = untold; d = untold }

-- 10: of the state, which is all four
abbrev pub sound_four : Receiver → Bool
sound_four s = sound s.a && (sound s.b && (sound s.c && sound s.d))

-- 42: "a sub-channel number above 3 or, outside configuring, one not configured"
abbrev pub known : Receiver → ℕ → Bool
known s n = leb n 3 && (get s n).lane.settings.told

-- configuring: 10, 42, 30, 32. Told, also again, a sub-channel begins anew
abbrev pub configuring : Receiver → ℕ → ℕ → ℕ → Configured × Receiver
configuring s n r d =
    pick (sound_four s)
    (pick (ltb 3 n) (Refused 42, s) (pick (ltb root_limit r) (Refused 30, s) (pick (ltb depth_limit d) (Refused 32, s) (Done, put s n (told_sub r d)))))
    (Refused 10, s)

-- the receiver with each sub-channel's receive buffer and word buffer, by number
pub record Memories : Type 0 where
  pub st : Receiver
  pub recv : ℕ → List ℕ
  pub word : ℕ → List ℕ

-- sub-channel n, with its buffers
abbrev pub memory_at : Memories → ℕ → Memory
memory_at s n = memory (get s.st n) (s.recv n) (s.word n)

-- .. exchanged for c
abbrev pub exchanged : Memories → ℕ → Memory → Memories
exchanged s n c = record {
  st = put s.st n c.st;
  recv = λ k. pick (eqb k n) c.recv (s.recv k);
  word = λ k. pick (eqb k n) c.word (s.word k);
}

-- by: does it pass 10, does it pass 42. Then 11, as for one sub-channel
abbrev pub call_by : Bool → Bool → ℕ → Memories → List ℕ → Option Event × ℕ × Memories
call_by false t n s bs = (some (said (refusal 10)), 0, s)
call_by true false n s bs = (some (said (refusal 42)), 0, s)
call_by true true n s bs = let x : Option Event × ℕ × Memory = hear_call (memory_at s n) bs in (x.0, x.1, exchanged s n x.2)

-- one call on sub-channel n: 10, 42, 11
abbrev pub call_on : ℕ → Memories → List ℕ → Option Event × ℕ × Memories
call_on n s bs = call_by (sound_four s.st) (known s.st n) n s bs

-- pieces, each with its sub-channel's number, each handed in until "more wanted": answers, each with that number, and what is behind them
pub data Scheduled : Memories → List (ℕ × List ℕ) → List (ℕ × Event) → Memories → Type 0 where
  done : {s : Memories} → Scheduled s [] [] s
  next : {s t u : Memories} {n : ℕ} {p : List ℕ} {ps : List (ℕ × List ℕ)} {xs : List Event} {ys : List (ℕ × Event)}
      → Reads (call_on n) s p xs t → Scheduled t ps ys u → Scheduled s ((n, p) ∷ ps) (map (λ x. (n, x)) xs ++ ys) u

-- those of sub-channel k
abbrev pub of_one : {A : Type 0} → ℕ → List (ℕ × A) → List A
of_one k [] = []
of_one k (x ∷ xs) = pick (eqb x.0 k) (x.1 ∷ of_one k xs) (of_one k xs)

-- the code's result of configuring, by the paper's numbers
abbrev pub as_configuring : Configuring → Configured × code.Receiver
as_configuring x = (as_configured x.answer, x.receiver)

-- the code's result of configuring, the cells cs being lent, and the cells then
abbrev pub ConfiguringIs : List (List ℕ) → Configured × Receiver → Configuring → List (List ℕ) → Type 0
ConfiguringIs cs x r cs' = (as_configuring r ≡ (x.0, seats x.1)) × (cs' ≡ laid cs x.1)

-- by: does it pass 10, does it pass 42. Then 11, as for one sub-channel: answer, bytes taken, state, receive buffer and word buffer
abbrev pub heard_by : Bool → Bool → Receiver → ℕ → List ℕ → List ℕ → List ℕ → Option Event × ℕ × Receiver × List ℕ × List ℕ
heard_by false t s n recv word bs = (some (said (refusal 10)), 0, s, recv, word)
heard_by true false s n recv word bs = (some (said (refusal 42)), 0, s, recv, word)
heard_by true true s n recv word bs =
    let x : Option Event × ℕ × Memory = hear_call (memory (get s n) recv word) bs in (x.0, x.1, put s n x.2.st, x.2.recv, x.2.word)

-- the call that is made on sub-channel n: 10, 42, 11
abbrev pub hear_four : Receiver → ℕ → List ℕ → List ℕ → List ℕ → Option Event × ℕ × Receiver × List ℕ × List ℕ
hear_four s n recv word bs = heard_by (sound_four s) (known s n) s n recv word bs

-- the code's result, the cells cs being lent, and the cells and the two buffers then
abbrev pub FourIs : List (List ℕ) → Option Event × ℕ × Receiver × List ℕ × List ℕ → Hearing → List (List ℕ) → List ℕ → List ℕ → Type 0
FourIs cs x r cs' l k =
    (r ≡ record { answer = answered x.0; taken = x.1; receiver = seats x.2 }) × (cs' ≡ laid cs x.2) × (l ≡ x.3) × (k ≡ x.4)
