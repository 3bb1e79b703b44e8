-- Words that are decimal numbers.
use Rattle.std.proofs.Common.{◌≡◌, ℕ, List, Result, ℤ, sym, subst}
use Rattle.spk_num.specs.Decimal.{millionths_of}
use Rattle.spk_num.specs.Results.{IsPlainOrMemory}
use Rattle.spk_num.specs.declared.decimal.Dec.{Dec}
use Rattle.spk_num.specs.declared.decimal.DecFault.{DecFault}
use Rattle.spk_cmds.specs.declared.command.CommandFault.{CommandFault}
use Rattle.spk_cmds.specs.Faults.{is_memory}
use Rattle.spk_cmds.specs.Kinds.{inside_or_out, decimal_in}

-- a word by what it is read as
pub decimal_by_reading : (low high : ℤ) (word : List ℕ) (read : Result ℤ DecFault) (result : Result Dec CommandFault) → millionths_of word ≡ read →
    IsPlainOrMemory is_memory (inside_or_out low high read word) result → IsPlainOrMemory is_memory (decimal_in low high word) result
unfolding decimal_in
decimal_by_reading low high word read result is same = subst (λ r. IsPlainOrMemory is_memory (inside_or_out low high r word) result) (sym is) same
