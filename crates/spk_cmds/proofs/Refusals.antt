-- Laws of results of which one fault is that there is no memory left.
use Rattle.std.proofs.Common.{◌≡◌, Result, Ok, Err, refl}
use Rattle.std.specs.Result.{IsErrAnd}
use Rattle.spk_num.specs.Results.{◌>>=◌, IsPlainOrMemory}
use Rattle.spk_num.proofs.ResultLaws.{plain_value, plain_fault, plain_out_of_memory, plain_handed, plain_then}
use Rattle.spk_cmds.specs.declared.command.CommandFault.{CommandFault}
use Rattle.spk_cmds.specs.declared.command.CommandFault.TheVariants.{Memory}
use Rattle.spk_cmds.specs.Faults.{is_memory}

pub is_value : {A : Type 0} (plain : Result A CommandFault) (a : A) → plain ≡ Ok a → IsPlainOrMemory is_memory plain (Ok a)
is_value plain a is = plain_value is_memory plain a is

pub is_fault : {A : Type 0} (plain : Result A CommandFault) (fault : CommandFault) → plain ≡ Err fault → IsPlainOrMemory is_memory plain (Err fault)
is_fault plain fault is = plain_fault is_memory plain fault is

pub out_of_memory : {A : Type 0} (plain result : Result A CommandFault) → IsErrAnd result (λ fault. fault ≡ Memory) → IsPlainOrMemory is_memory plain result
out_of_memory plain result out = plain_out_of_memory is_memory plain result Memory out refl

pub handed_on : {A B : Type 0} (plain : Result A CommandFault) (next : A → Result B CommandFault) (fault : CommandFault) (result : Result B CommandFault) →
    IsPlainOrMemory is_memory plain (Err fault) → IsErrAnd result (λ f. f ≡ fault) → IsPlainOrMemory is_memory (plain >>= next) result
handed_on plain next fault result failed handed = plain_handed is_memory plain next fault result failed handed

pub goes_on : {A B : Type 0} (plain : Result A CommandFault) (next : A → Result B CommandFault) (a : A) (result : Result B CommandFault) →
    IsPlainOrMemory is_memory plain (Ok a) → IsPlainOrMemory is_memory (next a) result → IsPlainOrMemory is_memory (plain >>= next) result
goes_on plain next a result value same = plain_then is_memory plain next a result value same

-- the laws for a function that checks words
pub ruleset plain_or_memory = (is_value, is_fault, out_of_memory, handed_on, goes_on)
