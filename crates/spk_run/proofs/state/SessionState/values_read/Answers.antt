use Rattle.spk_run.proofs.SiteFileReads.{few_values}
use Rattle.spk_run.proofs.state.SessionState.values_read.Goals as goal

pub returns-clause-few : goal.returns-clause-few
returns-clause-few c =
    few_values (record { sites = c.site_count.result; largest = c.match-self.largest }) c.args.bytes.now c.sites_read.result c.site_count.ensures.few c.sites_read.ensures.file
