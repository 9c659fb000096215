use Rattle.std.proofs.Common.{◌≡◌, ap, refl, ◌∙◌, ℕ, Result, Err}
use Rattle.base.specs.declared.Refusal.{Refusal}
use Rattle.base.specs.declared.Refusal.TheVariants.{Output}
use Rattle.base.specs.Written.{as_written, Refused}
use Rattle.base.proofs.Writing.{same-written}
use Rattle.capture.proofs.Asking.{ask-wrote, ask-none, ask-packet}
use Rattle.capture.proofs.entry.ask.Goals as goal

pub returns-in-Ok : goal.returns-in-Ok
returns-in-Ok c =
    ask-wrote c.args.format c.args.number c.args.key.now c.args.rest.now c.pair-port.ensures c.pair-sequence.ensures c.write_as.ensures
    (ap as_written c.in-Ok.is)

pub returns-in-Output : goal.returns-in-Output
returns-in-Output c =
    ask-packet c.args.format c.args.number c.args.key.now c.args.rest.now c.pair-port.ensures c.pair-sequence.ensures c.write_as.ensures
    (ap as_written (c.in-Err.is ∙ ap (λ (r : Refusal). Err r) c.in-Output.is)) refl refl refl

pub returns-in_default : goal.returns-in_default
returns-in_default c =
    ask-none c.args.format c.args.number c.args.key.now c.args.rest.now c.pair-port.ensures c.pair-sequence.ensures c.write_as.ensures
    (ap as_written c.in-Err.is)
    (λ z. absurd (c.in_default.not-Output (let same : ◌≡◌ {A = Result ℕ Refusal} (Err c.in-Err.refusal) (Err Output) =
    same-written _ _ (ap Refused z) in cc)))
