use Rattle.spk_files.proofs.FileReads.{ReadsOn, bytes_left}
use Rattle.spk_files.proofs.sites.sites_read.Given as goal

abbrev pub invariant-loop-left : goal.invariant-loop-left
invariant-loop-left l = ReadsOn (record { sites = l.sites; largest = l.largest_value }) l.bytes l.reader l.left

abbrev pub decreases-loop-left : goal.decreases-loop-left
decreases-loop-left l = bytes_left l.left
