-- What the machine makes of a line, put together of its parts.
use Rattle.std.proofs.Common.{◌≡◌, ℕ, List, Option, Some, None, Ok, Err, IfSome, refl, sym, ap, subst, Result}
use Rattle.std.specs.Result.{IsErrAnd}
use Rattle.spk_script.specs.declared.fault.LineFault.{LineFault}
use Rattle.spk_script.specs.declared.machine.Step.{Step}
use Rattle.spk_script.specs.declared.machine.Step.TheVariants.{Words}
use Rattle.spk_script.specs.Lines.{LogicalLine}
use Rattle.spk_num.specs.Results.{◌>>=◌, IsPlainOrMemory}
use Rattle.spk_script.specs.Faults.{is_memory}
use Rattle.spk_script.specs.Substitution.{line_words}
use Rattle.spk_script.specs.States.{State}
use Rattle.spk_script.specs.Machine.{step_of, step_by, read}
use Rattle.spk_script.specs.MachineStates.{OwnTo, own_step, read_to}
use Rattle.spk_num.proofs.ResultLaws.{plain_value, plain_then, plain_failed}

-- a command of the machine's own, and one that is handed on
pub came_to_own : (number : ℕ) (words : List (List ℕ)) (state now : State) (plain : Option (Result State LineFault)) (obeyed : Result (Unit {0}) LineFault) →
    OwnTo plain now (Some obeyed) → IsPlainOrMemory is_memory (step_of number words state plain) (read_to now (own_step number obeyed))
came_to_own number words state now None obeyed own = absurd own
came_to_own number words state now (Some plain) (Ok done) own = plain_then _ plain _ now _ own (plain_value _ _ _ refl)
came_to_own number words state now (Some plain) (Err fault) own = plain_failed _ plain _ fault own

pub came_to_words : (number : ℕ) (words : List (List ℕ)) (state now : State) (plain : Option (Result State LineFault)) →
    OwnTo plain now None → now ≡ state → IsPlainOrMemory is_memory (step_of number words state plain) (Ok (Words number words, now))
came_to_words number words state now None own same = plain_value _ _ _ (ap (λ s. Ok (Words number words, s)) (sym same))
came_to_words number words state now (Some plain) own same = absurd own

-- a line whose words were refused, and one whose words were obeyed
pub read_failed : (lines : List LogicalLine) (state now : State) (at : Option LogicalLine) (fault : LineFault) (result : Result Step LineFault) →
    IfSome at (λ line. IsPlainOrMemory is_memory (line_words state.variables line.words) (Err fault)) → IsErrAnd result (λ f. f ≡ fault) →
    IfSome at (λ line. IsPlainOrMemory is_memory (read lines state line) (read_to now result))
unfolding read
read_failed lines state now None fault result words handed = tt
read_failed lines state now (Some line) fault (Ok step) words handed = absurd handed
read_failed lines state now (Some line) fault (Err f) words handed =
    subst (λ e. IsPlainOrMemory is_memory (line_words state.variables line.words >>= λ substituted. step_by lines state line.number substituted) (Err e)) (sym handed) (plain_failed _ _ _ fault words)

pub read_obeyed : (lines : List LogicalLine) (state now : State) (at : Option LogicalLine) (number : ℕ) (words : List (List ℕ)) (result : Result Step LineFault) →
    IfSome at (λ line. number ≡ line.number) → IfSome at (λ line. IsPlainOrMemory is_memory (line_words state.variables line.words) (Ok words)) →
    IsPlainOrMemory is_memory (step_by lines state number words) (read_to now result) →
    IfSome at (λ line. IsPlainOrMemory is_memory (read lines state line) (read_to now result))
unfolding read
read_obeyed lines state now None number words result is substituted done = tt
read_obeyed lines state now (Some line) number words result is substituted done =
    plain_then _ _ _ words _ substituted (subst (λ n. IsPlainOrMemory is_memory (step_by lines state n words) (read_to now result)) is done)
