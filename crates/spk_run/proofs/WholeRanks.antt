-- A rank that has all cells of a lattice.
use Rattle.std.proofs.Common.{◌≡◌, ℕ, ◌-◌, ◌≤◌, ◌^◌, IsTrue, false, All, List, length, refl, sym, ap, subst, ◌∙◌, arith, Option, Some, None}
use Rattle.std.proofs.lemmas.List.FromFn.{length-range_with_len}
use Rattle.spk_num.specs.declared.sweep.Sweep.{Sweep}
use Rattle.spk_lattice.specs.Layout.{Layout, IsLattice, sites_of}
use Rattle.spk_lattice.specs.declared.cells.Cells.{Cells}
use Rattle.spk_lattice.specs.Boxes.{box_of_cells, cells_of, places_of, whole_box}
use Rattle.spk_lattice.proofs.Boxes.{whole_places}
use Rattle.spk_app.specs.Applications.{Application}
use Rattle.spk_patch.specs.Patches.{IsPatch, PatchSites, showing}
use Rattle.spk_patch.proofs.Whole.{showing_is, whole}
use Rattle.spk_sched.specs.declared.run_settings.RunSettings.{RunSettings}
use Rattle.spk_sched.specs.Plans.{elapsed}
use Rattle.spk_sched.proofs.PlanLaws.{elapsed_none}
use Rattle.spk_turn.specs.Sectors.{IsOwn, places_in, slots_on}
use Rattle.spk_turn.specs.Slots.{slot_count}
use Rattle.spk_turn.proofs.Patches.{places_whole}
use Rattle.spk_turn.proofs.SlotLaws.{count_is}
use Rattle.spk_run.specs.declared.rank.Rank.{Rank}
use Rattle.spk_run.specs.Ranks.{IsKept}
use Rattle.spk_run.specs.Running.{HasAllCells}
use Rattle.spk_run.specs.Runs.{sweeps_after}
use Rattle.spk_run.specs.Solvers.{room_of}
use Rattle.spk_sched.specs.Turns.{no_counts}

pub is_wrapped : (lattice : Layout) (patch : PatchSites) → HasAllCells lattice patch → IsTrue patch.wrapped
is_wrapped lattice patch all = all.wrapped

-- with other values it has them still
pub all_cells_with : (lattice : Layout) (patch filled : PatchSites) (values : List ℕ) → filled ≡ record patch { values = values } → HasAllCells lattice patch → HasAllCells lattice filled
all_cells_with lattice patch filled values is all = rw is (record { lattice_is = all.lattice_is; own = all.own; halo = all.halo; wrapped = all.wrapped })

-- all cells are its own
pub all_own : (lattice : Layout) (patch : PatchSites) (cells : Cells) → HasAllCells lattice patch → cells ≡ cells_of (whole_box lattice) → IsOwn patch cells
all_own lattice patch cells all is = rw is (record {
  is = refl;
  x = rw all.own (record { low = omega arith; ordered = omega arith; high = omega arith });
  y = rw all.own (record { low = omega arith; ordered = omega arith; high = omega arith });
  z = rw all.own (record { low = omega arith; ordered = omega arith; high = omega arith });
})

-- it has as many sites as the lattice
pub all_count : (lattice : Layout) (patch : PatchSites) (cells : Cells) → IsPatch patch → HasAllCells lattice patch → cells ≡ cells_of (whole_box lattice) → slot_count (slots_on patch cells) ≡ sites_of lattice
all_count lattice patch cells is_patch all is =
    let here : places_in patch cells ≡ places_of lattice (whole_box lattice) =
    places_whole patch cells is_patch (is_wrapped lattice patch all) ∙ ap (λ (l : Layout). places_of l (box_of_cells cells)) all.lattice_is ∙ ap (λ (c : Cells). places_of lattice (box_of_cells c)) is in
    let on : IsLattice lattice = subst IsLattice all.lattice_is is_patch.on in
    sym (count_is (slots_on patch cells)) ∙ ap length (here ∙ whole_places lattice on) ∙ length-range_with_len 0 (sites_of lattice)

same_showing : (patch : PatchSites) (held values : List ℕ) → showing (record patch { values = held }) values ≡ showing patch values
unfolding showing
same_showing patch held values = refl

-- it shows the values in their order
pub all_shown : (lattice : Layout) (patch filled : PatchSites) (values : List ℕ) → IsPatch filled → HasAllCells lattice patch → filled ≡ record patch { values = showing patch values } → length values ≡ sites_of lattice → filled.values ≡ values
all_shown lattice patch filled values is_patch all is count =
    let same : HasAllCells lattice filled = all_cells_with lattice patch filled (showing patch values) is all in
    let shown : showing filled values ≡ showing patch values = ap (λ (p : PatchSites). showing p values) is ∙ same_showing patch (showing patch values) values in
    ap (λ (p : PatchSites). p.values) is ∙ sym shown
    ∙ showing_is filled is_patch.on (whole filled is_patch (is_wrapped lattice filled same)) values (count ∙ ap sites_of (sym same.lattice_is))

-- a rank of all sites before its first turn
pub new_kept : (application : Application) (sweep : Option Sweep) (lattice : Layout) (values : List ℕ) (rank : Rank) → IsPatch rank.patch → HasAllCells lattice rank.patch → rank.cells ≡ cells_of (whole_box lattice) →
    rank.patch.values ≡ values → All (λ v. IsTrue (application.is_valid v)) values → (sweep ≡ None → sites_of lattice ≤ room_of rank.solver) → rank.is_listed ≡ false → rank.counts ≡ no_counts → IsKept application sweep rank
new_kept application sweep lattice values rank is_patch all cells same valid room unlisted none = record {
  cells = all_own lattice rank.patch rank.cells all cells;
  valid = rw same valid;
  room = λ no. omega (arith, room no, all_count lattice rank.patch rank.cells is_patch all cells);
  listed = λ yes. absurd (cc (yes, unlisted));
  counts = rw none (omega arith, omega arith);
}

no_sweeps_by : (sweep : Option Sweep) (sweeps : ℕ) → sweeps ≤ 2 ^ 64 - 1 → sweeps ≡ sweeps_after sweep sweeps 0
no_sweeps_by None sweeps fits = refl
no_sweeps_by (Some style) sweeps fits = omega (arith, fits)

-- before the first step there was no sweep
pub no_sweeps : (settings : RunSettings) (sweeps : ℕ) → sweeps ≤ 2 ^ 64 - 1 → sweeps ≡ sweeps_after settings.sweep sweeps (elapsed settings 0)
no_sweeps settings sweeps fits = rw (elapsed_none settings) (no_sweeps_by settings.sweep sweeps fits)
