use Rattle.std.proofs.Common.{rules, List, ℕ, subst, sym, ◌∙◌, ap, min}
use Rattle.std.specs.Char.{IsAsciiDigit}
use Rattle.std.specs.Prelude.{EachIndex, slice_index}
use Rattle.std.specs.Str.Parse.{digits_value}
use Rattle.spk_num.proofs.Values.{six_places_are_digits, six_places_below, uncapped}
use Rattle.spk_num.proofs.decimal.digits.magnitude_of.Goals as goal

pub capped_value-millionths-requires-clause-digits : goal.capped_value-millionths-requires-clause-digits
capped_value-millionths-requires-clause-digits c =
    subst (λ (ds : List ℕ). EachIndex ds (λ k. IsAsciiDigit (slice_index ds k))) (sym c.six_places.ensures)
    (six_places_are_digits c.args.places.now c.requires.places)

pub returns-else-magnitude-gt-LARGEST_MILLIONTHS : goal.returns-else-magnitude-gt-LARGEST_MILLIONTHS
returns-else-magnitude-gt-LARGEST_MILLIONTHS c =
    uncapped _ _ _ _ c.capped_value-units.ensures
    (c.capped_value-millionths.ensures ∙ ap (λ ds. min (digits_value 10 ds) 1000000) c.six_places.ensures)
    (six_places_below c.args.places.now c.requires.places) (search rules)
