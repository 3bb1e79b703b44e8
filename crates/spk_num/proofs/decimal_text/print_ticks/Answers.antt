use Rattle.std.proofs.Common.{◌≤◌, length, arith, length-append, length-take, length-drop}
use Rattle.spk_num.proofs.Lengths.{length_decimal, length_whole_time}
use Rattle.spk_num.proofs.decimal_text.print_ticks.Goals as goal

pub push_all-requires : goal.push_all-requires
push_all-requires c =
    let whole : length c.push.new.self ≤ 12 =
    simp (c.push.ensures, c.push_number.ensures, c.new-text.ensures, length-append) (omega (arith, length_whole_time)) in
    let digits : length c.as_bytes.result.now ≤ 20 =
    rw (c.as_bytes.ensures.value, c.format.ensures.text) (length_decimal _ (omega arith)) in
    simp (length-take, length-drop) (omega arith)
