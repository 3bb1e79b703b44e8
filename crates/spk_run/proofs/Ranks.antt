-- A run on one rank: its state is that of all ranks.
use Rattle.std.proofs.Common.{◌≡◌, ℕ, ◌+◌, ◌*◌, ◌%◌, ◌<◌, IsTrue, List, [], ◌∷◌, length, get_or, set, refl, sym, ap, ◌∙◌, arith, add-one, zero-add, get_or-set_same}
use Rattle.std.proofs.Math.Nat.{mod-one, mul-one}
use Rattle.std.proofs.lemmas.List.{set-get_or}
use Rattle.spk_lattice.specs.Layout.{Layout}
use Rattle.spk_lattice.specs.declared.cells.Cells.{Cells}
use Rattle.spk_lattice.specs.Boxes.{box_of_cells, cells_of, places_of, whole_box}
use Rattle.spk_app.specs.PlainViews.{places_beside}
use Rattle.spk_patch.specs.Patches.{IsPatch, near_of}
use Rattle.spk_turn.specs.Sectors.{places_in}
use Rattle.spk_turn.proofs.Patches.{places_whole, wrapped_near}
use Rattle.spk_run.specs.declared.domain.Domain.{Domain}
use Rattle.spk_run.specs.declared.rank.Rank.{Rank}
use Rattle.spk_sched.specs.declared.run_settings.RunSettings.{RunSettings}
use Rattle.spk_sched.specs.declared.counts.Counts.{Counts}
use Rattle.spk_sched.specs.Decompositions.{sector_box, whole_of}
use Rattle.spk_sched.specs.Turns.{RankState, no_counts, counts_sum, turn_by}
use Rattle.spk_sched.specs.Plans.{elapsed, sector_at, window, steps}
use Rattle.spk_sched.specs.Globals.{GlobalState, Kinetics, global_state, sector_of, streams_each}
use Rattle.spk_sched.proofs.OneRank.{one_rank_box}
use Rattle.spk_run.specs.Ranks.{sector_at_rank}
use Rattle.spk_run.specs.Running.{HasAllCells}
use Rattle.spk_run.specs.Runs.{job, one_rank, domain_at, domain_after, sweeps_after}

-- the state of all ranks where there is one
abbrev pub of_one_rank : Domain → RankState → GlobalState
of_one_rank domain state = record { values = state.values; streams = set domain.streams 0 state.stream; counts = state.counts ∷ [] }

-- before the first step
pub one_rank_starts : (kinetics : Kinetics) (settings : RunSettings) (domain : Domain) →
    global_state (job kinetics settings domain) 0 ≡ of_one_rank domain (record { values = domain.values; stream = get_or domain.streams 0 0; counts = no_counts })
unfolding global_state
one_rank_starts kinetics settings domain =
    ap (λ (streams : List ℕ). let state : GlobalState = record { values = domain.values; streams = streams; counts = no_counts ∷ [] } in state) (sym (set-get_or domain.streams 0 0))

set_again : (xs : List ℕ) (a b : ℕ) → set (set xs 0 a) 0 b ≡ set xs 0 b
set_again [] a b = refl
set_again (x ∷ xs) a b = refl

first_place : (each step sectors : ℕ) → sectors ≡ 1 → 0 * each + step % sectors ≡ 0
first_place each step sectors is = rw is (let none : step % 1 ≡ 0 = mod-one step in omega (arith, none))

-- the sector of a patch of all cells is the only sector of the only rank
pub only_sector : (kinetics : Kinetics) (settings : RunSettings) (domain : Domain) (sector : ℕ) (rank : Rank) → IsPatch rank.patch → HasAllCells domain.lattice rank.patch → rank.cells ≡ cells_of (whole_box domain.lattice) →
    sector_of (job kinetics settings domain) 0 sector ≡ sector_at_rank kinetics.application kinetics.rule rank
only_sector kinetics settings domain sector rank patch all cells =
    let wrapped : IsTrue rank.patch.wrapped = all.wrapped in
    let near : near_of rank.patch ≡ places_beside domain.lattice = wrapped_near rank.patch wrapped ∙ ap places_beside all.lattice_is in
    let places : places_in rank.patch rank.cells ≡ places_of domain.lattice (sector_box (whole_of (record { lattice = domain.lattice; ranks = one_rank })) 0 sector) =
    places_whole rank.patch rank.cells patch wrapped ∙ ap (λ (l : Layout). places_of l (box_of_cells rank.cells)) all.lattice_is
    ∙ ap (λ (c : Cells). places_of domain.lattice (box_of_cells c)) cells ∙ ap (places_of domain.lattice) (sym (one_rank_box domain.lattice)) in
    rw (near, places) refl

-- after one step more
pub one_rank_step : (kinetics : Kinetics) (settings : RunSettings) (domain : Domain) (done : ℕ) (state : RankState) → settings.sectors ≡ 1 → 0 < length domain.streams →
    global_state (job kinetics settings domain) done ≡ of_one_rank domain state →
    global_state (job kinetics settings domain) (done + 1)
    ≡ of_one_rank domain (turn_by settings.sweep (sector_of (job kinetics settings domain) 0 (sector_at settings done)) (window settings done) state)
unfolding global_state
one_rank_step kinetics settings domain done state one some is =
    rw (add-one done) (rw is (rw (first_place (streams_each domain.lattice) done settings.sectors one, get_or-set_same domain.streams 0 state.stream 0 some) (rw set_again refl)))

pub one_rank_started : (kinetics : Kinetics) (settings : RunSettings) (domain : Domain) (values : List ℕ) (stream : ℕ) (counts : Counts) → values ≡ domain.values → stream ≡ get_or domain.streams 0 0 → counts ≡ no_counts →
    global_state (job kinetics settings domain) 0 ≡ of_one_rank domain (record { values = values; stream = stream; counts = counts })
one_rank_started kinetics settings domain values stream counts values_are stream_is counts_are = rw (values_are, stream_is, counts_are) (one_rank_starts kinetics settings domain)

-- the box at a mark, by the state of the rank
pub domain_at_is : (kinetics : Kinetics) (settings : RunSettings) (domain : Domain) (done : ℕ) (state : RankState) → settings.sectors ≡ 1 →
    global_state (job kinetics settings domain) done ≡ of_one_rank domain state →
    domain_at kinetics settings domain done
    ≡ record domain {
      time = domain.time + elapsed settings done;
      values = state.values;
      streams = set domain.streams 0 state.stream;
      counts = counts_sum domain.counts state.counts;
      sweeps = sweeps_after settings.sweep domain.sweeps (elapsed settings done);
    }
unfolding domain_at
domain_at_is kinetics settings domain done state one is =
    let at : done * settings.sectors ≡ done = rw one (mul-one done) in
    rw (at, is, zero-add state.counts.accepted, zero-add state.counts.rejected) refl

-- the box after all steps, by the state of the rank
pub domain_after_is : (kinetics : Kinetics) (settings : RunSettings) (domain : Domain) (state : RankState) →
    global_state (job kinetics settings domain) (steps settings) ≡ of_one_rank domain state →
    domain_after kinetics settings domain
    ≡ record domain {
      time = domain.time + settings.length;
      values = state.values;
      streams = set domain.streams 0 state.stream;
      counts = counts_sum domain.counts state.counts;
      sweeps = sweeps_after settings.sweep domain.sweeps settings.length;
    }
domain_after_is kinetics settings domain state is =
    rw (is, zero-add state.counts.accepted, zero-add state.counts.rejected) refl
