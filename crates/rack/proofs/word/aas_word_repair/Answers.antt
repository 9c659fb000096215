-- `word::aas_word_repair` meets its contract: each return by what repair finds.
use Rattle.std.proofs.Common.{◌≡◌, ℕ, List, sym, ap, ◌∙◌, rules}
use Rattle.base.specs.Bytes.{Bytes}
use Rattle.base.proofs.Bytes.{bytes_of}
use Rattle.repair.specs.Mended.{Mended, as_mended}
use Rattle.repair.proofs.Telling.{mended-found}
use Rattle.repair.specs.Promise.{Promised}
use Rattle.repair.specs.Way.{repaired}
use Rattle.repair.proofs.Promising.{promised-is}
use Rattle.rack.specs.Words.{mended_number, mending}
use Rattle.rack.proofs.word.aas_word_repair.Goals as goal

told : (r : ℕ) (word : List ℕ) → Bytes word → {a b : Mended} {o : List ℕ} → Promised r word a o → a ≡ b → (mended_number b, o) ≡ mending r word
told r word h {a} {b} {o} p e =
    let s = promised-is r word h a o p in
    let n : mended_number b ≡ mended_number (repaired r word).0 = ap mended_number (sym e ∙ s.0) in
    λ i. (n i, s.1 i)

pub returns-in-Ok-Clean : goal.returns-in-Ok-Clean
returns-in-Ok-Clean c =
    told c.args.r c.args.word.now (bytes_of c.args.word.now (λ i. search rules)) c.repair.ensures
    (mended-found c.in-Ok-Clean.is c.in-Ok-Clean.field-0-is)

pub returns-in-Ok-Repaired : goal.returns-in-Ok-Repaired
returns-in-Ok-Repaired c =
    told c.args.r c.args.word.now (bytes_of c.args.word.now (λ i. search rules)) c.repair.ensures
    (mended-found c.in-Ok-Repaired.is c.in-Ok-Repaired.field-0-is)

pub returns-in-Ok-Beyond : goal.returns-in-Ok-Beyond
returns-in-Ok-Beyond c =
    told c.args.r c.args.word.now (bytes_of c.args.word.now (λ i. search rules)) c.repair.ensures
    (mended-found c.in-Ok-Beyond.is c.in-Ok-Beyond.field-0-is)

pub returns-in-Err : goal.returns-in-Err
returns-in-Err c =
    ap (λ (n : ℕ). (n, c.repair.new.word)) c.number.ensures
    ∙ told c.args.r c.args.word.now (bytes_of c.args.word.now (λ i. search rules)) c.repair.ensures (ap as_mended c.in-Err.is)
