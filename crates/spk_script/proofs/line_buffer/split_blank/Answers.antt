use Rattle.spk_script.proofs.WordParts.{whole_part, before_blank, after_blank, first_part}
use Rattle.spk_script.proofs.line_buffer.split_blank.Goals as goal

pub returns-in_err-place : goal.returns-in_err-place
returns-in_err-place c = rw c.from_residual.ensures (whole_part c.args.text.now c.in_err-place.ensures)

pub range-requires-clause-end_boundary : goal.range-requires-clause-end_boundary
range-requires-clause-end_boundary c = before_blank c.args.text.now c.in_ok-place.place c.in_ok-place.ensures

pub range_from-requires : goal.range_from-requires
range_from-requires c _ = after_blank c.args.text.now c.in_ok-place.place c.in_ok-place.ensures c.utf8.text

pub returns : goal.returns
returns c = first_part c.args.text.now _ _ c.in_ok-place.place c.in_ok-place.ensures c.range.ensures.value c.range_from.ensures.value
