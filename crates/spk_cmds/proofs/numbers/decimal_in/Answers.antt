use Rattle.std.proofs.Common.{◌≡◌, Ok, rules, subst}
use Rattle.spk_num.specs.Decimal.{millionths_of}
use Rattle.spk_num.specs.Results.{IsPlainOrMemory}
use Rattle.spk_cmds.specs.Faults.{is_memory}
use Rattle.spk_cmds.specs.Kinds.{inside_or_out}
use Rattle.spk_cmds.proofs.DecimalWords.{decimal_by_reading}
use Rattle.spk_cmds.proofs.numbers.decimal_in.Goals as goal

pub returns-in-Ok : goal.returns-in-Ok
returns-in-Ok c =
    let same : IsPlainOrMemory is_memory (inside_or_out c.args.low c.args.high (Ok c.in-Ok.number.millionths) c.args.word.now) c.inside.result = search rules in
    decimal_by_reading _ _ _ (Ok c.in-Ok.number.millionths) _
    (subst (λ text. millionths_of text ≡ Ok c.in-Ok.number.millionths) c.as_bytes.ensures c.in-Ok.ensures) same
