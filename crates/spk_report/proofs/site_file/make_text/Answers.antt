use Rattle.std.proofs.Common.{length, decimal, arith}
use Rattle.std.specs.Prelude.{codes}
use Rattle.spk_num.specs.Decimal.{ticks_text}
use Rattle.spk_sched.specs.SiteTexts.{rows_text, sites_text}
use Rattle.spk_report.proofs.LineParts.{six_parts}
use Rattle.spk_report.proofs.site_file.make_text.Goals as goal

pub loop-place-init : goal.loop-place-init
unfolding sites_text
loop-place-init c = record {
  text = rw (
    c.append-4.ensures.items,
    c.append_number.ensures.items,
    c.append-3.ensures.items,
    c.append-2.ensures.items,
    c.append.ensures.items,
    c.clear.ensures.items,
    c.as_bytes.ensures.value,
    c.print_ticks.ensures,
  ) (six_parts (codes "spk sites at time ") (ticks_text c.args.time) (codes "\n\n") (decimal (length c.args.values.now)) (codes " sites\n\nValues\n\n") (rows_text 1 c.args.values.now));
  room = omega arith;
}
