use Rattle.std.proofs.Common.{◌∷◌, []}
use Rattle.spk_patch.proofs.Coordinates.{IsHeld, shows_cell, shows_place}
use Rattle.spk_patch.proofs.patch.Patch.cell_at.Goals as goal

pub returns-clause-exists : goal.returns-clause-exists
returns-clause-exists c =
    let held : IsHeld _ c.args.self.now =
    record { same = c.self.view_is; patch = c.known.ensures.patch; wrapped = c.known.ensures.wrapped } in
    let x = rw c.cell_of.ensures at c.from.ensures in
    let y = rw c.cell_of.ensures at c.from-2.ensures in
    let z = rw c.cell_of.ensures at c.from-3.ensures in
    let cell = c.from.result ∷ c.from-2.result ∷ c.from-3.result ∷ [] in
    shows_cell _ _ c.args.i cell held c.requires (record { x = x; y = y; z = z })

pub returns-clause-place : goal.returns-clause-place
returns-clause-place c =
    let held : IsHeld _ c.args.self.now =
    record { same = c.self.view_is; patch = c.known.ensures.patch; wrapped = c.known.ensures.wrapped } in
    let x = rw c.cell_of.ensures at c.from.ensures in
    let y = rw c.cell_of.ensures at c.from-2.ensures in
    let z = rw c.cell_of.ensures at c.from-3.ensures in
    let cell = c.from.result ∷ c.from-2.result ∷ c.from-3.result ∷ [] in
    shows_place _ _ c.args.i cell held c.requires (record { x = x; y = y; z = z })
