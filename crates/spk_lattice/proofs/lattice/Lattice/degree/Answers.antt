use Rattle.std.proofs.Common.{◌≡◌, subst, []}
use Rattle.spk_lattice.specs.Layout.{Layout}
use Rattle.spk_lattice.specs.Table.{table_of}
use Rattle.spk_lattice.proofs.Rows.{degree_is}
use Rattle.spk_lattice.proofs.Ways.{degree_few}
use Rattle.spk_lattice.proofs.lattice.Lattice.degree.Goals as goal

pub returns-clause-degree : goal.returns-clause-degree
returns-clause-degree c =
    let are : table_of c.args.self.now ≡ c.self.inside.table = subst (λ (l : Layout). table_of l ≡ c.self.inside.table) c.self.view_is c.self.invariant in
    degree_is c.args.self.now c.self.inside.table (record { count = 0; steps = [] }) are

pub returns-clause-few : goal.returns-clause-few
returns-clause-few c =
    let are : table_of c.args.self.now ≡ c.self.inside.table = subst (λ (l : Layout). table_of l ≡ c.self.inside.table) c.self.view_is c.self.invariant in
    rw (degree_is c.args.self.now c.self.inside.table (record { count = 0; steps = [] }) are) (degree_few c.args.self.now.style)
