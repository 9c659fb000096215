-- What private functions alone are promised by.
-- EndedIs   a line ended
-- PutIs     whole messages put out
use Rattle.std.specs.Prelude.{ℕ, ◌≡◌, List, ◌++◌, length, drop}
use Rattle.base.specs.Written.{copied}
use Rattle.channel_spec.specs.Sender.{marked}
use Rattle.office.specs.declared.Ended.{Ended}
use Rattle.office.specs.Answer.{as_told}
use Rattle.office.specs.Meaning.{Ending}
use Rattle.channel_spec.specs.Sender.{wholes, rest_of}
use Rattle.office.specs.Call.{spoken, spoken_out}

-- a line ended
abbrev pub EndedIs : Ending → List ℕ → Ended → List ℕ → List ℕ → Type 0
EndedIs x out r hold out' =
    (as_told r ≡ record { answer = spoken x.said; held = x.held }) × (hold ≡ x.hold) × (out' ≡ spoken_out x.said out)

-- whole messages put out, and the rest moved to the start
abbrev pub PutIs : List ℕ → List ℕ → List ℕ → ℕ → List ℕ → List ℕ → Type 0
PutIs bs old out r hold out' =
    (r ≡ length (marked (wholes bs))) × (hold ≡ copied (rest_of bs) old) × (out' ≡ marked (wholes bs) ++ drop (length (marked (wholes bs))) out)
