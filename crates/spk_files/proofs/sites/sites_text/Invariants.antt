use Rattle.std.proofs.Common.{◌≡◌, ◌+◌, ◌++◌, drop}
use Rattle.spk_sched.specs.SiteTexts.{rows_text, sites_text}
use Rattle.spk_files.proofs.sites.sites_text.Given as goal

-- the rows so far, with those of the other values, make up the text
abbrev pub invariant-loop-place : goal.invariant-loop-place
invariant-loop-place l = l.text.items ++ rows_text (l.place + 1) (drop l.place l.values) ≡ sites_text l.time l.values
