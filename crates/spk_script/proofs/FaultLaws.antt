-- Out of memory as the fault of a line. A search finds these, since they name the fault.
use Rattle.std.proofs.Common.{◌≡◌, Result, refl}
use Rattle.std.specs.Result.{IsErrAnd}
use Rattle.spk_num.specs.Results.{IsPlainOrMemory, result_with}
use Rattle.spk_num.proofs.ResultLaws.{plain_value, plain_fault, plain_out_of_memory, plain_handed, plain_then, with_out_of_memory, with_handed}
use Rattle.spk_script.specs.declared.fault.LineFault.{LineFault}
use Rattle.spk_script.specs.declared.fault.LineFault.TheVariants.{Memory}
use Rattle.spk_script.specs.Faults.{is_memory}

pub line_out_of_memory : {A : Type 0} (plain result : Result A LineFault) → IsErrAnd result (λ fault. fault ≡ Memory) →
    IsPlainOrMemory is_memory plain result
line_out_of_memory plain result out = plain_out_of_memory is_memory plain result Memory out refl

pub line_with_out_of_memory : {A B : Type 0} (plain : Result A LineFault) (a : A) (result : Result B LineFault) →
    IsErrAnd result (λ fault. fault ≡ Memory) → IsPlainOrMemory is_memory plain (result_with a result)
line_with_out_of_memory plain a result out = with_out_of_memory is_memory plain a result Memory out refl

-- the laws for a function that checks something, and for one that makes a state
pub ruleset plain_or_memory = (plain_value, plain_fault, line_out_of_memory)

pub ruleset state_or_memory = (plain_value, plain_fault, line_with_out_of_memory, with_handed, plain_then)
