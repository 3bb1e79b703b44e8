use Rattle.std.proofs.Common.{◌≤◌, length, arith, length-append, length-take, length-drop}
use Rattle.spk_num.proofs.Lengths.{length_six_digits}
use Rattle.spk_num.proofs.decimal_text.DecText.push_fraction.Goals as goal

pub push_all-requires : goal.push_all-requires
push_all-requires c =
    let front : length c.push.new.self ≤ 25 = simp (c.push.ensures, length-append) (omega arith) in
    let digits : length c.as_bytes.result.now ≤ 7 =
    rw (c.as_bytes.ensures.value, c.format.ensures.text) (length_six_digits _ c.requires.below_one) in
    let shown = simp (length-take, length-drop) at c.trimmed.ensures.len in
    omega arith
