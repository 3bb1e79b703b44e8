use Rattle.std.proofs.Common.{subst, sym, ◌∙◌}
use Rattle.std.specs.Str.{IsAscii}
use Rattle.spk_script.proofs.Printed.{decimal_is_ascii}
use Rattle.spk_script.proofs.variable_text.number_text.Goals as goal

pub from_ascii-requires : goal.from_ascii-requires
from_ascii-requires c = subst IsAscii (sym (c.as_bytes.ensures.value ∙ c.print.ensures)) (decimal_is_ascii c.args.number.millionths)
