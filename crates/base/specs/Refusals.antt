-- number     the paper's number of each refusal
-- Names      what a number names: the refusal that has it, or none
use Rattle.std.specs.Prelude.{ℕ, ◌≡◌, Result, Ok, Err}
use Rattle.base.specs.declared.Refusal.{Refusal}
use Rattle.base.specs.declared.Refusal.TheVariants as refusal
use Rattle.base.specs.declared.NoRefusal.{NoRefusal}

-- its number in the paper
abbrev pub number : Refusal → ℕ
number refusal.Raw = 1
number refusal.Unfinished = 2
number refusal.Escape = 3
number refusal.Short = 4
number refusal.Check = 5
number refusal.Format = 6
number refusal.Port = 7
number refusal.Payload = 8
number refusal.State = 10
number refusal.Buffer = 11
number refusal.Key = 12
number refusal.Empty = 20
number refusal.Long = 21
number refusal.Barred = 22
number refusal.Output = 23
number refusal.SentKey = 24
number refusal.Roots = 30
number refusal.Length = 31
number refusal.Depth = 32
number refusal.Full = 40
number refusal.Unheld = 41
number refusal.SubChannel = 42
number refusal.Table = 43
number refusal.Wide = 44
number refusal.Unit = 50
number refusal.Mix = 51
number refusal.Sequence = 52
number refusal.Parts = 53
number refusal.Delimiter = 54
number refusal.Capture = 60
number refusal.Record = 61
number refusal.NoPacket = 62

-- of a number: the refusal that has it, or this number, which none has
abbrev pub Names : ℕ → Result Refusal NoRefusal → Type 0
Names n (Ok r) = number r ≡ n
Names n (Err e) = (e.0 ≡ n) × ((r : Refusal) → number r ≡ n → ⊥)
