-- Words that take no more bytes than a line may have.
use Rattle.std.proofs.Common.{IfOk, ◌≡◌, ℕ, ◌+◌, ◌≤◌, true, false, nat_lt, List, length, Ok, Err, refl, sym, inl, inr, arith, Result}
use Rattle.std.specs.List.{All}
use Rattle.std.proofs.lemmas.Bool.{cases_Bool}
use Rattle.std.proofs.lemmas.Bool.Decides.{nat_tests}
use Rattle.std.proofs.lemmas.List.Sums.{sum-map, get_or-le-sum_by}
use Rattle.spk_script.specs.declared.fault.LineFault.{LineFault}
use Rattle.spk_script.specs.declared.fault.LineFault.TheVariants.{LineTooLong}
use Rattle.spk_script.specs.declared.words.Word.{Word}
use Rattle.spk_num.specs.Results.{◌>>=◌, IsPlainOrMemory}
use Rattle.spk_script.specs.Faults.{is_memory}
use Rattle.spk_script.specs.Values.{Environment}
use Rattle.spk_script.specs.Substitution.{substituted_words, line_length, fitted, line_words}
use Rattle.spk_num.proofs.ResultLaws.{plain_is}

-- words that fit, and words that don't
fitted_ok : (words : List (List ℕ)) → nat_lt 4096 (line_length words) ≡ false → fitted words ≡ Ok words
fitted_ok words fits = rw fits refl

fitted_long : (words : List (List ℕ)) → nat_lt 4096 (line_length words) ≡ true → fitted words ≡ Err LineTooLong
fitted_long words long = rw long refl

-- each word of a line is as short as the line
length_of_fitted : (words : Result (List (List ℕ)) LineFault) (texts : List (List ℕ)) → words >>= fitted ≡ Ok texts → line_length texts ≤ 4096
unfolding ◌>>=◌
length_of_fitted (Ok words) texts is =
    elim (cases_Bool (nat_lt 4096 (line_length words))) [
      | inl long ↦ let wrong : fitted words ≡ Err LineTooLong = fitted_long words long in absurd (cc (wrong, is))
      | inr fits ↦ let same : fitted words ≡ Ok words = fitted_ok words fits in
          let words_are : words ≡ texts = cc (same, is) in
          rw (sym words_are) (grind (arith, nat_tests))
    ]
length_of_fitted (Err fault) texts is = absurd (cc is)

pub short_words : (variables : Environment) (words : List Word) (texts : List (List ℕ)) →
    line_words variables words ≡ Ok texts → All (λ text. length text ≤ 4096) texts
short_words variables words texts is k d within =
    let bytes = λ (word : List ℕ). length word + 1 in
    let all : line_length texts ≤ 4096 = length_of_fitted (substituted_words variables words) texts is in
    omega (arith, all, sum-map bytes texts, get_or-le-sum_by bytes texts k d within)

pub short_answer : (variables : Environment) (words : List Word) (result : Result (List (List ℕ)) LineFault) →
    IsPlainOrMemory is_memory (line_words variables words) result → IfOk result (All (λ text. length text ≤ 4096))
short_answer variables words (Ok texts) answers = short_words variables words texts (plain_is _ _ _ answers)
short_answer variables words (Err fault) answers = tt
