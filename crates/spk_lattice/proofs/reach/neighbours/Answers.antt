use Rattle.std.proofs.Common.{arith, ap, length-set, ◌∙◌, []}
use Rattle.spk_lattice.proofs.Reaching.{spot_exists, table_row, read_few, read_leads, read_step, read_next, read_all}
use Rattle.spk_lattice.specs.Neighbours.{spot_of}
use Rattle.spk_lattice.proofs.Ways.{all_exist}
use Rattle.spk_lattice.proofs.reach.neighbours.Goals as goal

pub bounds-row-k : goal.bounds-row-k
bounds-row-k c =
    let row = table_row c.args.grid.now c.site_of-site.result.spot.basis c.args.table.now (record { count = 0; steps = [] }) c.requires.table (spot_exists c.args.grid.now c.site_of-site.result.id c.site_of-site.result.spot c.known.ensures c.site_of-site.ensures.site.exists c.site_of-site.ensures.site.spot).basis in
    omega (arith, read_few c.args.grid.now c.site_of-site.result.spot.basis _ row)

pub reached-requires-clause-leads : goal.reached-requires-clause-leads
reached-requires-clause-leads c =
    let row = table_row c.args.grid.now c.site_of-site.result.spot.basis c.args.table.now (record { count = 0; steps = [] }) c.requires.table (spot_exists c.args.grid.now c.site_of-site.result.id c.site_of-site.result.spot c.known.ensures c.site_of-site.ensures.site.exists c.site_of-site.ensures.site.spot).basis in
    read_leads c.args.grid.now c.site_of-site.result.spot.basis c.loop-k.k _ _ row c.loop-k-test.true

pub reached-requires-clause-step : goal.reached-requires-clause-step
reached-requires-clause-step c =
    let row = table_row c.args.grid.now c.site_of-site.result.spot.basis c.args.table.now (record { count = 0; steps = [] }) c.requires.table (spot_exists c.args.grid.now c.site_of-site.result.id c.site_of-site.result.spot c.known.ensures c.site_of-site.ensures.site.exists c.site_of-site.ensures.site.spot).basis in
    read_step c.args.grid.now c.site_of-site.result.spot.basis c.loop-k.k _ _ row c.loop-k-test.true

pub bounds-ids-k : goal.bounds-ids-k
bounds-ids-k c =
    let row = table_row c.args.grid.now c.site_of-site.result.spot.basis c.args.table.now (record { count = 0; steps = [] }) c.requires.table (spot_exists c.args.grid.now c.site_of-site.result.id c.site_of-site.result.spot c.known.ensures c.site_of-site.ensures.site.exists c.site_of-site.ensures.site.spot).basis in
    omega (arith, read_few c.args.grid.now c.site_of-site.result.spot.basis _ row)

pub loop-k-preserved : goal.loop-k-preserved
loop-k-preserved c =
    let row = table_row c.args.grid.now c.site_of-site.result.spot.basis c.args.table.now (record { count = 0; steps = [] }) c.requires.table (spot_exists c.args.grid.now c.site_of-site.result.id c.site_of-site.result.spot c.known.ensures c.site_of-site.ensures.site.exists c.site_of-site.ensures.site.spot).basis in
    record {
      all = length-set c.loop-k.ids c.loop-k.k c.reached.result ∙ c.loop-k.invariant.all;
      so_far = read_next c.args.grid.now c.args.id c.loop-k.k c.reached.result c.site_of-site.result.spot _ _ c.loop-k.ids row c.loop-k-test.true (c.site_of-site.ensures.site.spot ∙ ap (spot_of c.args.grid.now) c.site_of-site.ensures.id) c.loop-k.invariant.all c.loop-k.invariant.so_far c.reached.ensures;
    }

pub returns-clause-few : goal.returns-clause-few
returns-clause-few c =
    let row = table_row c.args.grid.now c.site_of-site.result.spot.basis c.args.table.now (record { count = 0; steps = [] }) c.requires.table (spot_exists c.args.grid.now c.site_of-site.result.id c.site_of-site.result.spot c.known.ensures c.site_of-site.ensures.site.exists c.site_of-site.ensures.site.spot).basis in
    read_few c.args.grid.now c.site_of-site.result.spot.basis _ row

pub returns-clause-ids : goal.returns-clause-ids
returns-clause-ids c =
    let row = table_row c.args.grid.now c.site_of-site.result.spot.basis c.args.table.now (record { count = 0; steps = [] }) c.requires.table (spot_exists c.args.grid.now c.site_of-site.result.id c.site_of-site.result.spot c.known.ensures c.site_of-site.ensures.site.exists c.site_of-site.ensures.site.spot).basis in
    read_all c.args.grid.now c.args.id c.loop-k.k c.site_of-site.result.spot _ c.loop-k.ids row (omega arith) (c.site_of-site.ensures.site.spot ∙ ap (spot_of c.args.grid.now) c.site_of-site.ensures.id) c.loop-k.invariant.so_far

pub returns-clause-sites : goal.returns-clause-sites
returns-clause-sites c = all_exist c.args.grid.now c.args.id c.known.ensures c.requires.id
