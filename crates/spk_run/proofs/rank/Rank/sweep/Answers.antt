use Rattle.std.proofs.Common.{refl}
use Rattle.spk_run.proofs.RankTurns.{kept_after, sweeps_state}
use Rattle.spk_run.proofs.rank.Rank.sweep.Goals as goal

pub returns-clause-state : goal.returns-clause-state
returns-clause-state g c = λ rule.
    rw c.plus-self.ensures (sweeps_state c.args.style (g.A.App.rules c.args.app.now) rule c.args.self.now c.args.count _ _ _ c.requires.kept.counts (c.turn_sweep-counts.ensures.turn rule))

pub returns-clause-kept : goal.returns-clause-kept
returns-clause-kept g c = kept_after _ _ _ _ c.turn_sweep-counts.result c.requires.kept c.turn_sweep-counts.ensures.patch refl c.turn_sweep-counts.ensures.valid refl (λ no. absurd (cc no)) c.plus-self.ensures
