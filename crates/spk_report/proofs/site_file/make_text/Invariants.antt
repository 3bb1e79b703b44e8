use Rattle.std.proofs.Common.{◌≡◌, ◌+◌, ◌++◌, ◌≤◌, drop, vec_capacity}
use Rattle.spk_sched.specs.SiteTexts.{rows_text, sites_text}
use Rattle.spk_report.proofs.site_file.make_text.Given as goal

abbrev pub invariant-loop-place : goal.invariant-loop-place
invariant-loop-place l = record {
  text : l.text.items ++ rows_text (l.place + 1) (drop l.place l.values) ≡ sites_text l.fn.time l.values;
  room : vec_capacity l.fn.text ≤ vec_capacity l.text;
}
