-- Results of calls that may run out of memory, which a definition never does.
use Rattle.std.specs.Prelude.{◌≡◌, Bool, false, Result, Ok, Err}

-- a value or a fault, and what is made of the value
infixl 10 ◌>>=◌
unfoldable pub ◌>>=◌ : {A B E : Type 0} → Result A E → (A → Result B E) → Result B E
Ok a >>= next = next a
Err fault >>= next = Err fault

infixl 10 ◌>>◌
abbrev pub ◌>>◌ : {A B E : Type 0} → Result A E → Result B E → Result B E
first >> next = first >>= λ _. next

-- The result is the plain one, or out of memory. The test says which fault is out of memory.
unfoldable pub IsPlainOrMemory : {A E : Type 0} → (E → Bool) → Result A E → Result A E → Type 0
IsPlainOrMemory is_memory plain (Ok a) = plain ≡ Ok a
IsPlainOrMemory is_memory plain (Err fault) = is_memory fault ≡ false → plain ≡ Err fault

-- a result with this value in the place of its own
abbrev pub result_with : {A B E : Type 0} → A → Result B E → Result A E
result_with a (Ok b) = Ok a
result_with a (Err fault) = Err fault
