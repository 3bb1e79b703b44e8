-- A rank after a turn.
use Rattle.std.proofs.Common.{◌≡◌, ℕ, IsTrue, true, All, List, sym, Option}
use Rattle.spk_num.specs.declared.sweep.Sweep.{Sweep}
use Rattle.spk_app.specs.Applications.{Application}
use Rattle.spk_solve.specs.Choice.{Rule}
use Rattle.spk_patch.specs.Patches.{sight_of}
use Rattle.spk_sched.specs.declared.counts.Counts.{Counts}
use Rattle.spk_sched.specs.Turns.{IsCount, RankState, no_counts, counts_sum, sweeps_of, turn_of}
use Rattle.spk_sched.proofs.CountLaws.{sum_fits, sweeps_counts, turn_counts}
use Rattle.spk_turn.specs.Ready.{propensities_in}
use Rattle.spk_turn.specs.Sectors.{places_in}
use Rattle.spk_run.specs.declared.rank.Rank.{Rank}
use Rattle.spk_run.specs.Ranks.{IsKept, sector_at_rank, state_of}
use Rattle.spk_run.specs.Solvers.{list_of, room_of}

-- it is kept as before
pub kept_after : (application : Application) (sweep : Option Sweep) (old new : Rank) (counts : Counts) → IsKept application sweep old → new.patch ≡ record old.patch { values = new.patch.values } → new.cells ≡ old.cells →
    All (λ v. IsTrue (application.is_valid v)) new.patch.values → room_of new.solver ≡ room_of old.solver →
    (new.is_listed ≡ true → list_of new.solver ≡ propensities_in application (sight_of new.patch) (places_in new.patch new.cells)) → new.counts ≡ counts_sum old.counts counts → IsKept application sweep new
kept_after application sweep old new counts kept patch cells valid room listed counted = record {
  cells = rw (patch, cells) (record { is = kept.cells.is; x = kept.cells.x; y = kept.cells.y; z = kept.cells.z });
  valid = valid;
  room = λ none. rw (patch, cells, room) (kept.room none);
  listed = listed;
  counts = rw counted (sum_fits old.counts counts);
}

-- its state is that after the turn, whose counts are added to those before it
pub events_state : (application : Application) (rule : Rule) (rank : Rank) (window stream : ℕ) (values : List ℕ) (counts : Counts) → IsCount rank.counts →
    turn_of (sector_at_rank application rule rank) window (record { values = rank.patch.values; stream = rank.stream; counts = no_counts }) ≡ record { values = values; stream = stream; counts = counts } →
    (let after : RankState = record { values = values; stream = stream; counts = counts_sum rank.counts counts } in after) ≡ turn_of (sector_at_rank application rule rank) window (state_of rank)
events_state application rule rank window stream values counts fits turned =
    sym (turn_counts (sector_at_rank application rule rank) window rank.patch.values values rank.stream stream rank.counts counts fits turned)

pub sweeps_state : (style : Sweep) (application : Application) (rule : Rule) (rank : Rank) (count stream : ℕ) (values : List ℕ) (counts : Counts) → IsCount rank.counts →
    sweeps_of style (sector_at_rank application rule rank) count (record { values = rank.patch.values; stream = rank.stream; counts = no_counts }) ≡ record { values = values; stream = stream; counts = counts } →
    (let after : RankState = record { values = values; stream = stream; counts = counts_sum rank.counts counts } in after) ≡ sweeps_of style (sector_at_rank application rule rank) count (state_of rank)
sweeps_state style application rule rank count stream values counts fits swept =
    sym (sweeps_counts style (sector_at_rank application rule rank) count rank.patch.values values rank.stream stream rank.counts counts fits swept)
