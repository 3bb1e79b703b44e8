use Rattle.spk_patch.proofs.Whole.{whole}
use Rattle.spk_patch.proofs.Coordinates.{IsHeld, cell_is, small, fits, cell_is_site, id_is_place, place_exists}
use Rattle.spk_patch.proofs.patch.Patch.place_of.Goals as goal

pub overflow_cast-at : goal.overflow_cast-at
overflow_cast-at c =
    let p = c.args.self.now in
    let cell = cell_is p c.args.cell (whole p c.known.ensures.patch c.known.ensures.wrapped) c.requires.cell in
    fits p.lattice.nx _ (small p.lattice c.known.ensures.patch.on).x cell.x

pub overflow_cast-at-2 : goal.overflow_cast-at-2
overflow_cast-at-2 c =
    let p = c.args.self.now in
    let cell = cell_is p c.args.cell (whole p c.known.ensures.patch c.known.ensures.wrapped) c.requires.cell in
    fits p.lattice.ny _ (small p.lattice c.known.ensures.patch.on).y cell.y

pub overflow_cast-at-3 : goal.overflow_cast-at-3
overflow_cast-at-3 c =
    let p = c.args.self.now in
    let cell = cell_is p c.args.cell (whole p c.known.ensures.patch c.known.ensures.wrapped) c.requires.cell in
    fits p.lattice.nz _ (small p.lattice c.known.ensures.patch.on).z cell.z

pub id_of-requires : goal.id_of-requires
id_of-requires c =
    let held : IsHeld _ c.args.self.now =
    record { same = c.self.view_is; patch = c.known.ensures.patch; wrapped = c.known.ensures.wrapped } in
    cell_is_site _ _ c.args.cell c.args.basis held c.requires.cell c.requires.basis

pub returns-clause-place : goal.returns-clause-place
returns-clause-place c =
    let held : IsHeld _ c.args.self.now =
    record { same = c.self.view_is; patch = c.known.ensures.patch; wrapped = c.known.ensures.wrapped } in
    id_is_place _ _ c.args.cell c.args.basis _ held c.requires.cell c.id_of.ensures

pub returns-clause-exists : goal.returns-clause-exists
returns-clause-exists c =
    let held : IsHeld _ c.args.self.now =
    record { same = c.self.view_is; patch = c.known.ensures.patch; wrapped = c.known.ensures.wrapped } in
    place_exists _ _ c.args.cell c.args.basis _ held c.requires.cell c.requires.basis c.id_of.ensures
