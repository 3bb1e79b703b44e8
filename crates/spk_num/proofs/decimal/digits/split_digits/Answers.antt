use Rattle.std.proofs.Common.{◌≡◌, ◌∙◌, List, ℕ, ap, subst, sym, take}
use Rattle.std.specs.Char.{IsAsciiDigit}
use Rattle.std.specs.Prelude.{EachIndex, slice_index}
use Rattle.spk_num.specs.Decimal.{leading_digits}
use Rattle.spk_num.proofs.Values.{leading_digits_are_digits, take_leading_digits}
use Rattle.spk_num.proofs.decimal.digits.split_digits.Goals as goal

pub returns-clause-digits : goal.returns-clause-digits
returns-clause-digits c =
    let front : c.split_at.result.0.now ≡ leading_digits c.args.text.now =
    c.split_at.ensures.front
    ∙ (ap (λ k. take k c.args.text.now) c.count_digits.ensures ∙ take_leading_digits c.args.text.now) in
    subst (λ (ds : List ℕ). EachIndex ds (λ k. IsAsciiDigit (slice_index ds k))) (sym front)
    (leading_digits_are_digits c.args.text.now)
