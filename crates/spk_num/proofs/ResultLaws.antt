-- Laws of results: what is the plain one in parts is the plain one as a whole.
use Rattle.std.proofs.Common.{◌≡◌, Bool, true, false, Result, Ok, Err, sym, ap, subst, ◌∙◌}
use Rattle.std.specs.Result.{IsErrAnd}
use Rattle.spk_num.specs.Results.{◌>>=◌, ◌>>◌, IsPlainOrMemory, result_with}

-- what follows a value, and what follows a fault
pub then_value : {A B E : Type 0} (plain : Result A E) (next : A → Result B E) (a : A) → plain ≡ Ok a → plain >>= next ≡ next a
unfolding ◌>>=◌
then_value plain next a is = ap (λ p. p >>= next) is

pub then_fault : {A B E : Type 0} (plain : Result A E) (next : A → Result B E) (fault : E) → plain ≡ Err fault → plain >>= next ≡ Err fault
unfolding ◌>>=◌
then_fault plain next fault is = ap (λ p. p >>= next) is

-- a result that is a value says which one the plain one is
pub plain_is : {A E : Type 0} (is_memory : E → Bool) (plain : Result A E) (a : A) → IsPlainOrMemory is_memory plain (Ok a) → plain ≡ Ok a
unfolding IsPlainOrMemory
plain_is is_memory plain a same = same

pub plain_value : {A E : Type 0} (is_memory : E → Bool) (plain : Result A E) (a : A) → plain ≡ Ok a → IsPlainOrMemory is_memory plain (Ok a)
unfolding IsPlainOrMemory
plain_value is_memory plain a is = is

pub plain_fault : {A E : Type 0} (is_memory : E → Bool) (plain : Result A E) (fault : E) → plain ≡ Err fault → IsPlainOrMemory is_memory plain (Err fault)
unfolding IsPlainOrMemory
plain_fault is_memory plain fault is known = is

pub plain_memory : {A E : Type 0} (is_memory : E → Bool) (plain : Result A E) (fault : E) → is_memory fault ≡ true → IsPlainOrMemory is_memory plain (Err fault)
unfolding IsPlainOrMemory
plain_memory is_memory plain fault is known = let no : true ≡ false = sym is ∙ known in cc

-- what comes after a value, and a fault that nothing comes after
pub plain_then : {A B E : Type 0} (is_memory : E → Bool) (plain : Result A E) (next : A → Result B E) (a : A) (result : Result B E) →
    IsPlainOrMemory is_memory plain (Ok a) → IsPlainOrMemory is_memory (next a) result → IsPlainOrMemory is_memory (plain >>= next) result
plain_then is_memory plain next a result value same =
    subst (λ p. IsPlainOrMemory is_memory p result) (sym (then_value plain next a (plain_is is_memory plain a value))) same

pub plain_failed : {A B E : Type 0} (is_memory : E → Bool) (plain : Result A E) (next : A → Result B E) (fault : E) →
    IsPlainOrMemory is_memory plain (Err fault) → IsPlainOrMemory is_memory (plain >>= next) (Err fault)
unfolding IsPlainOrMemory
plain_failed is_memory plain next fault failed known = then_fault plain next fault (failed known)

-- out of memory on the way
pub plain_out_of_memory : {A E : Type 0} (is_memory : E → Bool) (plain result : Result A E) (memory : E) → IsErrAnd result (λ fault. fault ≡ memory) →
    is_memory memory ≡ true → IsPlainOrMemory is_memory plain result
plain_out_of_memory is_memory plain (Ok a) memory out is = absurd out
plain_out_of_memory is_memory plain (Err fault) memory out is = plain_memory is_memory plain fault (ap is_memory out ∙ is)

-- where a fault is handed on
pub plain_handed : {A B E : Type 0} (is_memory : E → Bool) (plain : Result A E) (next : A → Result B E) (fault : E) (result : Result B E) →
    IsPlainOrMemory is_memory plain (Err fault) → IsErrAnd result (λ f. f ≡ fault) → IsPlainOrMemory is_memory (plain >>= next) result
plain_handed is_memory plain next fault (Ok b) failed handed = absurd handed
plain_handed is_memory plain next fault (Err f) failed handed =
    subst (λ e. IsPlainOrMemory is_memory (plain >>= next) (Err e)) (sym handed) (plain_failed is_memory plain next fault failed)

-- a plain value in the place of what was found, and a fault that nothing comes after
pub plain_worth : {A B E : Type 0} (is_memory : E → Bool) (plain : Result B E) (b : B) (a : A) → plain ≡ Ok b → IsPlainOrMemory is_memory (plain >> Ok a) (Ok a)
unfolding IsPlainOrMemory
plain_worth is_memory plain b a is = then_value plain (λ _. Ok a) b is

pub plain_refused : {A B E : Type 0} (is_memory : E → Bool) (plain : Result A E) (next : Result B E) (fault : E) → plain ≡ Err fault → IsPlainOrMemory is_memory (plain >> next) (Err fault)
unfolding IsPlainOrMemory
plain_refused is_memory plain next fault is known = then_fault plain (λ _. next) fault is

-- the same of a call whose own value is left out
pub with_out_of_memory : {A B E : Type 0} (is_memory : E → Bool) (plain : Result A E) (a : A) (result : Result B E) (memory : E) → IsErrAnd result (λ fault. fault ≡ memory) →
    is_memory memory ≡ true → IsPlainOrMemory is_memory plain (result_with a result)
with_out_of_memory is_memory plain a (Ok b) memory out is = absurd out
with_out_of_memory is_memory plain a (Err fault) memory out is = plain_memory is_memory plain fault (ap is_memory out ∙ is)

pub with_handed : {A B C E : Type 0} (is_memory : E → Bool) (plain : Result A E) (next : A → Result B E) (fault : E) (b : B) (result : Result C E) →
    IsPlainOrMemory is_memory plain (Err fault) → IsErrAnd result (λ f. f ≡ fault) → IsPlainOrMemory is_memory (plain >>= next) (result_with b result)
with_handed is_memory plain next fault b (Ok c) failed handed = absurd handed
with_handed is_memory plain next fault b (Err f) failed handed =
    subst (λ e. IsPlainOrMemory is_memory (plain >>= next) (Err e)) (sym handed) (plain_failed is_memory plain next fault failed)

-- the laws for a function that checks something, for one that makes a state, and for one that reads a word
pub ruleset plain_or_memory = (plain_value, plain_fault, plain_out_of_memory, plain_handed, plain_then)

pub ruleset state_or_memory = (plain_value, plain_fault, with_out_of_memory, with_handed, plain_then)

pub ruleset value_or_memory = (plain_worth, plain_refused, plain_out_of_memory)
