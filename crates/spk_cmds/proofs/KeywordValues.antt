-- The value after a keyword.
use Rattle.std.proofs.Common.{◌≡◌, ℕ, ◌-◌, ◌≤◌, false, List, length, take, drop, Option, Some, cond, sym, ap, subst, ◌∙◌}
use Rattle.std.specs.Str.{bytes_eq}
use Rattle.spk_cmds.specs.declared.value.Value.{Value}
use Rattle.spk_cmds.specs.Values.{after_keyword, word_by}
use Rattle.spk_cmds.proofs.SomeWords.{StandsAt, two_and_more}

-- it stands after another pair
pub after_other : (pairs : List Value) (keyword given : Value) (shown word : List ℕ) (found : Option Value) → 2 ≤ length pairs →
    StandsAt pairs 0 keyword → StandsAt pairs 1 given → shown ≡ word_by (Some keyword) → bytes_eq shown word ≡ false →
    found ≡ after_keyword (take (length pairs - 2) (drop 2 pairs)) word → found ≡ after_keyword pairs word
after_other pairs keyword given shown word found some first second is other same =
    let rest = take (length pairs - 2) (drop 2 pairs) in
    let differs : bytes_eq (word_by (Some keyword)) word ≡ false = subst (λ s. bytes_eq s word ≡ false) is other in
    same ∙ sym (ap (λ b. cond b (Some given) (after_keyword rest word)) differs) ∙ ap (λ list. after_keyword list word) (two_and_more pairs keyword given some first second)
