-- Commands by their first words.
use Rattle.std.proofs.Common.{◌≡◌, ℕ, ◌<◌, ◌≤◌, List, [], ◌∷◌, length, Result, Err, refl, sym, ap, subst, arith}
use Rattle.spk_num.specs.Results.{IsPlainOrMemory}
use Rattle.spk_cmds.specs.declared.command.Command.{Command}
use Rattle.spk_cmds.specs.declared.command.CommandFault.{CommandFault}
use Rattle.spk_cmds.specs.declared.command.CommandFault.TheVariants.{UnknownCommand}
use Rattle.spk_cmds.specs.Faults.{is_memory}
use Rattle.spk_cmds.specs.Table.{named_command, command_read}
use Rattle.spk_cmds.proofs.Refusals.{is_fault}
use Rattle.spk_cmds.proofs.ReaderSteps.{after_one}
use Rattle.spk_cmds.proofs.SomeWords.{StandsAt, one_and_more}

-- no words are the command without a name
pub nameless : (words : List (List ℕ)) (word : List ℕ) → length words < 1 → word ≡ [] → IsPlainOrMemory is_memory (command_read words) (Err (UnknownCommand word))
unfolding command_read
nameless [] word none is = is_fault _ _ (ap (λ w. Err (UnknownCommand w)) (sym is))
nameless (first ∷ words) word none is = absurd (omega arith)

named : (first : List ℕ) (words : List (List ℕ)) → command_read (first ∷ words) ≡ named_command first words
unfolding command_read
named first words = refl

pub by_name : (words : List (List ℕ)) (first : List ℕ) (result : Result Command CommandFault) → 1 ≤ length words → StandsAt words 0 first →
    IsPlainOrMemory is_memory (named_command first (after_one words)) result → IsPlainOrMemory is_memory (command_read words) result
by_name words first result some is same =
    subst (λ ws. IsPlainOrMemory is_memory (command_read ws) result) (one_and_more words first some is)
    (subst (λ p. IsPlainOrMemory is_memory p result) (sym (named first (after_one words))) same)
