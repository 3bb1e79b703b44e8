use Rattle.std.proofs.Common.{◌<◌, length, arith, [], sym, subst}
use Rattle.spk_lattice.specs.Neighbours.{IsId, nb}
use Rattle.spk_lattice.proofs.Reaching.{spot_exists, table_row, read_count, read_few, read_leads, read_step, read_one}
use Rattle.spk_lattice.proofs.Ways.{all_exist, near_degree}
use Rattle.std.proofs.lemmas.List.Elements.{All-get_or}
use Rattle.spk_lattice.proofs.reach.neighbour.Goals as goal

pub offset_bounds-row-k : goal.offset_bounds-row-k
offset_bounds-row-k c =
    let row = table_row c.args.grid.now c.args.site.now.spot.basis c.args.table.now (record { count = 0; steps = [] }) c.requires.table (spot_exists _ c.args.site.now.id _ c.known.ensures c.requires.site.exists c.requires.site.spot).basis in
    let less = read_count c.args.grid.now c.args.site.now.id c.args.k c.args.site.now.spot _ c.known.ensures c.requires.site.exists row c.requires.site.spot c.requires.k in
    omega (arith, less, read_few c.args.grid.now c.args.site.now.spot.basis _ row)

pub bounds-row-k : goal.bounds-row-k
bounds-row-k c =
    let row = table_row c.args.grid.now c.args.site.now.spot.basis c.args.table.now (record { count = 0; steps = [] }) c.requires.table (spot_exists _ c.args.site.now.id _ c.known.ensures c.requires.site.exists c.requires.site.spot).basis in
    let less = read_count c.args.grid.now c.args.site.now.id c.args.k c.args.site.now.spot _ c.known.ensures c.requires.site.exists row c.requires.site.spot c.requires.k in
    omega (arith, less, read_few c.args.grid.now c.args.site.now.spot.basis _ row)

pub reached-requires-clause-leads : goal.reached-requires-clause-leads
reached-requires-clause-leads c =
    let row = table_row c.args.grid.now c.args.site.now.spot.basis c.args.table.now (record { count = 0; steps = [] }) c.requires.table (spot_exists _ c.args.site.now.id _ c.known.ensures c.requires.site.exists c.requires.site.spot).basis in
    let less = read_count c.args.grid.now c.args.site.now.id c.args.k c.args.site.now.spot _ c.known.ensures c.requires.site.exists row c.requires.site.spot c.requires.k in
    read_leads c.args.grid.now c.args.site.now.spot.basis c.args.k _ _ row less

pub reached-requires-clause-step : goal.reached-requires-clause-step
reached-requires-clause-step c =
    let row = table_row c.args.grid.now c.args.site.now.spot.basis c.args.table.now (record { count = 0; steps = [] }) c.requires.table (spot_exists _ c.args.site.now.id _ c.known.ensures c.requires.site.exists c.requires.site.spot).basis in
    let less = read_count c.args.grid.now c.args.site.now.id c.args.k c.args.site.now.spot _ c.known.ensures c.requires.site.exists row c.requires.site.spot c.requires.k in
    read_step c.args.grid.now c.args.site.now.spot.basis c.args.k _ _ row less

pub returns-clause-id : goal.returns-clause-id
returns-clause-id c =
    let row = table_row c.args.grid.now c.args.site.now.spot.basis c.args.table.now (record { count = 0; steps = [] }) c.requires.table (spot_exists _ c.args.site.now.id _ c.known.ensures c.requires.site.exists c.requires.site.spot).basis in
    let less = read_count c.args.grid.now c.args.site.now.id c.args.k c.args.site.now.spot _ c.known.ensures c.requires.site.exists row c.requires.site.spot c.requires.k in
    read_one c.args.grid.now c.args.site.now.id c.args.k c.reached.result c.args.site.now.spot _ _ row less c.requires.site.spot c.reached.ensures

pub returns-clause-exists : goal.returns-clause-exists
returns-clause-exists c =
    let row = table_row c.args.grid.now c.args.site.now.spot.basis c.args.table.now (record { count = 0; steps = [] }) c.requires.table (spot_exists _ c.args.site.now.id _ c.known.ensures c.requires.site.exists c.requires.site.spot).basis in
    let less = read_count c.args.grid.now c.args.site.now.id c.args.k c.args.site.now.spot _ c.known.ensures c.requires.site.exists row c.requires.site.spot c.requires.k in
    let is = read_one c.args.grid.now c.args.site.now.id c.args.k c.reached.result c.args.site.now.spot _ _ row less c.requires.site.spot c.reached.ensures in
    let within : c.args.k < length (nb c.args.grid.now c.args.site.now.id) = omega (arith, c.requires.k, near_degree c.args.grid.now c.args.site.now.id c.known.ensures c.requires.site.exists) in
    subst (IsId c.args.grid.now) (sym is) (All-get_or (IsId c.args.grid.now) (nb c.args.grid.now c.args.site.now.id) c.args.k 0 within (all_exist c.args.grid.now c.args.site.now.id c.known.ensures c.requires.site.exists))
