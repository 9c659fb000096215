-- The promises of the public functions leave nothing open. Those of `note` and `forget` of a lent table stand in Says.
-- rule-determined                                                           the distance rule
-- fresh-determined, sound-determined, note-determined, forget-determined    the table by value
use mathlib.Core.Path.{◌≡◌, refl, ap}
use mathlib.Core.List.{List}
use Rattle.base.specs.Determined.{Determined}
use Rattle.base.proofs.Determining.{same}
use Rattle.ports_spec.specs.declared.Entry.{Entry}
use Rattle.ports_spec.specs.Forgot.{Forgot}
use Rattle.ports_spec.proofs.Told.{same-forgot}
use Rattle.ports.proofs.distance.rule.Kinds as rule-kinds
use Rattle.ports.proofs.distance.rule.Reads as rule-reads
use Rattle.ports.proofs.by_value.Ports.fresh.Kinds as fresh-kinds
use Rattle.ports.proofs.by_value.Ports.fresh.Reads as fresh-reads
use Rattle.ports.proofs.by_value.Ports.sound.Kinds as sound-kinds
use Rattle.ports.proofs.by_value.Ports.sound.Reads as sound-reads
use Rattle.ports.proofs.by_value.Ports.note.Kinds as note-kinds
use Rattle.ports.proofs.by_value.Ports.note.Reads as note-reads
use Rattle.ports.proofs.by_value.Ports.forget.Kinds as forget-kinds
use Rattle.ports.proofs.by_value.Ports.forget.Reads as forget-reads

pub rule-determined : Determined rule-kinds.ps rule-kinds.r rule-reads.Asked rule-reads.Learnt
rule-determined κs a z z' ws ws' pre p q = (same p q, refl)

pub fresh-determined : Determined fresh-kinds.ps fresh-kinds.r fresh-reads.Asked fresh-reads.Learnt
fresh-determined κs a z z' ws ws' pre p q = (same p q, refl)

pub note-determined : Determined note-kinds.ps note-kinds.r note-reads.Asked note-reads.Learnt
note-determined κs a z z' ws ws' pre p q = (same p q, refl)

pub forget-determined : Determined forget-kinds.ps forget-kinds.r forget-reads.Asked forget-reads.Learnt
forget-determined κs a z z' ws ws' pre p q =
    let f : z.forgot ≡ z'.forgot = same-forgot z.forgot z'.forgot (ap (λ (x : Forgot × List Entry). x.0) (same p q)) in
    let t : z.ports.entries ≡ z'.ports.entries = ap (λ (x : Forgot × List Entry). x.1) (same p q) in
    (λ i. record { forgot = f i; ports = record { entries = t i } }, refl)

pub sound-determined : Determined sound-kinds.ps sound-kinds.r sound-reads.Asked sound-reads.Learnt
sound-determined κs a z z' ws ws' pre p q = (same p q, refl)
