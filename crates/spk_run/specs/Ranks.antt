-- A rank, as it is kept between turns.
use Rattle.std.specs.Prelude.{◌≡◌, ◌≤◌, true, All, IsTrue, Option, None}
use Rattle.spk_num.specs.declared.sweep.Sweep.{Sweep}
use Rattle.spk_app.specs.Applications.{Application}
use Rattle.spk_solve.specs.Choice.{Rule}
use Rattle.spk_sched.specs.Turns.{IsCount, Sector, RankState}
use Rattle.spk_patch.specs.Patches.{sight_of}
use Rattle.spk_turn.specs.Ready.{sector_on, propensities_in}
use Rattle.spk_turn.specs.Sectors.{IsOwn, places_in, slots_on}
use Rattle.spk_turn.specs.Slots.{slot_count}
use Rattle.spk_run.specs.declared.rank.Rank.{Rank}
use Rattle.spk_run.specs.Solvers.{list_of, room_of}

-- the sites of a rank that change
abbrev pub sector_at_rank : Application → Rule → Rank → Sector
sector_at_rank application rule rank = sector_on application rule (sight_of rank.patch) (places_in rank.patch rank.cells)

abbrev pub state_of : Rank → RankState
state_of rank = record { values = rank.patch.values; stream = rank.stream; counts = rank.counts }

-- Each value is valid, a solver has room where there is no sweep, and a list that is said to be that of the propensities is it.
-- The counts fit 64 bits.
pub record IsKept (application : Application) (sweep : Option Sweep) (rank : Rank) : Type 0 where
  pub cells : IsOwn rank.patch rank.cells
  pub valid : All (λ v. IsTrue (application.is_valid v)) rank.patch.values
  pub room : sweep ≡ None → slot_count (slots_on rank.patch rank.cells) ≤ room_of rank.solver
  pub listed : rank.is_listed ≡ true → list_of rank.solver ≡ propensities_in application (sight_of rank.patch) (places_in rank.patch rank.cells)
  pub counts : IsCount rank.counts
