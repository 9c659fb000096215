-- What private functions alone are promised by: what the code does with a line.
-- StepIs     a step of a call gives one line at most
-- StepBy     .. by: does it end the call
use Rattle.std.specs.Prelude.{ℕ, suc, ◌-◌, ◌≤◌, ◌<◌, ◌≡◌, true, List, Option, Some, None, Ok, ◌++◌, length, drop}
use Rattle.recording.specs.Deck.{Deck}
use Rattle.recording.specs.Call.{deck_of}
use Rattle.recording.specs.Private.{Stays}
use Rattle.listing_lines.specs.declared.totals.Totals.{Totals}
use Rattle.listing.specs.declared.lister.Step.{Step}
use Rattle.listing.specs.declared.lister.Wants.{Wants}
use Rattle.listing.specs.Wants.{as_wants}
use Rattle.listing.specs.Call.{near, printed, further, print}

-- by: what is wanted where the step ends the call. Else the call goes on behind it with less room
abbrev pub StepBy : Option Wants → Deck → Totals → List ℕ → ℕ → Step → List ℕ → List ℕ → List ℕ → Type 0
StepBy (Some w) m t bs room x text l k =
    (f : ℕ) → room ≤ f → print f room m t bs ≡ further x.taken text (printed (as_wants (Ok w)) (deck_of x.next.tape l k) x.next.totals)
StepBy None m t bs room x text l k =
    ((f : ℕ) → room ≤ suc f
    → print (suc f) room m t bs ≡ further x.taken text (print f (room - length text) (deck_of x.next.tape l k) x.next.totals (drop x.taken bs)))
    × (0 < length text)

-- l and k are the receiver's buffers and out' is the output behind the step
pub record StepIs (m : Deck) (t : Totals) (bs out : List ℕ) (x : Step) (l k out' : List ℕ) : Type 0 where
  pub text : List ℕ
  pub means : StepBy x.wants m t bs (length out) x text l k
  pub written : x.written ≡ length text
  pub fits : length text ≤ length out
  pub output : out' ≡ text ++ drop (length text) out
  pub stays : Stays m bs x.taken x.next.tape l k
  pub nears : near x.next.tape.spot x.next.totals (length bs - x.taken) (length out - x.written) ≡ true
