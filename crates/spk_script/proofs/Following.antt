-- Laws of what follows an answer.
use Rattle.std.proofs.Common.{◌≡◌, Ok, Err, refl, sym, ap, ◌∙◌, Result}
use Rattle.spk_script.specs.declared.fault.LineFault.{LineFault}
use Rattle.spk_num.specs.Results.{◌>>=◌, IsPlainOrMemory}
use Rattle.spk_script.specs.Faults.{is_memory}

-- the same follows the same
pub then_same : {A B : Type 0} (plain same : Result A LineFault) (next after : A → Result B LineFault) → plain ≡ same → ((a : A) → next a ≡ after a) →
    plain >>= next ≡ same >>= after
unfolding ◌>>=◌
then_same (Ok a) same next after is each = each a ∙ ap (λ p. p >>= after) is
then_same (Err fault) same next after is each = ap (λ p. p >>= after) is

-- what follows may be followed in turn
pub then_then : {A B C : Type 0} (plain : Result A LineFault) (next : A → Result B LineFault) (after : B → Result C LineFault) →
    plain >>= next >>= after ≡ plain >>= λ a. next a >>= after
unfolding ◌>>=◌
then_then (Ok a) next after = refl
then_then (Err fault) next after = refl

pub then_ok : {A : Type 0} (plain : Result A LineFault) → plain >>= (λ a. Ok a) ≡ plain
unfolding ◌>>=◌
then_ok (Ok a) = refl
then_ok (Err fault) = refl

-- an answer that is the plain one itself
pub plain_same : {A : Type 0} (plain result : Result A LineFault) → result ≡ plain → IsPlainOrMemory is_memory plain result
unfolding IsPlainOrMemory
plain_same plain (Ok a) is = sym is
plain_same plain (Err fault) is = λ known. sym is
