-- Words that are whole numbers.
use Rattle.std.proofs.Common.{◌≡◌, ℕ, ◌^◌, ◌<◌, ◌≤◌, ◌&&◌, true, List, length, Result, Ok, ap, cond, Some, None, ◌∙◌, sym, arith, rules}
use Rattle.std.proofs.lemmas.Bool.{and_parts, leb-true, ltb-true}
use Rattle.std.proofs.lemmas.Bool.Decides.{nat_tests}
use Rattle.std.proofs.lemmas.List.Elements.{All-weaker}
use Rattle.std.proofs.lemmas.List.Sums.{AllPass-from_list_all}
use Rattle.std.proofs.lemmas.Str.{IsUtf8-from_ascii}
use Rattle.std.proofs.lemmas.Str.Ascii.{IsAscii-from_all}
use Rattle.std.proofs.lemmas.Str.Parse.{IsNumeralModel, numerals_by_value, parse_gives, digits_value_short}
use Rattle.std.specs.Char.{is_ascii_digit}
use Rattle.std.specs.List.{list_all}
use Rattle.std.specs.Prelude.{nat_lt, nat_le}
use Rattle.std.specs.Result.{result_ok}
use Rattle.std.specs.Str.{IsUtf8}
use Rattle.std.specs.Str.Parse.{digits_value, ParsesUnsigned}
use Rattle.spk_num.specs.Whole.{whole_of}

tells_digits : IsNumeralModel (λ word. list_all is_ascii_digit word ≡ true) (digits_value 10)
tells_digits = numerals_by_value _ (search rules)

-- 1 to 18 digits are read as what they are worth
pub whole_reads : {E : Type 0} (word : List ℕ) (read : Result ℕ E) → ParsesUnsigned 64 10 word read → list_all is_ascii_digit word ≡ true → 0 < length word → length word ≤ 18 →
    read ≡ Ok (digits_value 10 word)
whole_reads word read parses digits some short =
    let below : digits_value 10 word < 10 ^ 18 = digits_value_short tells_digits word 18 digits short in
    parse_gives tells_digits 64 word read parses digits some (omega arith)

-- digits are a text
pub digits_are_text : (word : List ℕ) → list_all is_ascii_digit word ≡ true → IsUtf8 word
digits_are_text word digits =
    IsUtf8-from_ascii word (IsAscii-from_all word
    (All-weaker (λ b. is_ascii_digit b ≡ true) (λ b. b < 128) (λ b is. grind (arith, nat_tests)) word (AllPass-from_list_all is_ascii_digit word digits)))

-- what is read from a word that passes the test
pub whole_is_read : {E : Type 0} (word : List ℕ) (read : Result ℕ E) → ParsesUnsigned 64 10 word read →
    (list_all is_ascii_digit word && nat_lt 0 (length word) && nat_le (length word) 18) ≡ true → result_ok read ≡ whole_of word
whole_is_read word read parses is =
    let parts = and_parts _ _ is in
    let first = and_parts _ _ parts.0 in
    ap result_ok (whole_reads word read parses first.0 (ltb-true _ _ first.1) (leb-true _ _ parts.1))
    ∙ sym (ap (λ whole. cond whole (Some (digits_value 10 word)) None) is)
