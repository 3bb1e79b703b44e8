use Rattle.std.proofs.Common.{ap, ◌∙◌}
use Rattle.spk_sched.specs.declared.counts.Counts.{Counts}
use Rattle.spk_sched.specs.Turns.{counts_sum}
use Rattle.spk_run.specs.Solvers.{rule_of, style_of}
use Rattle.spk_run.proofs.RankTurns.{events_state, kept_after}
use Rattle.spk_run.proofs.rank.Rank.events.Goals as goal

pub returns-clause-state : goal.returns-clause-state
returns-clause-state g c =
    rw (c.plus-self.ensures, c.turned-counts.ensures.counts)
    (events_state (g.A.App.rules c.args.app.now) (rule_of (style_of c.args.self.now.solver)) c.args.self.now c.args.window _ _ _ c.requires.counts c.turned-counts.ensures.turn)

pub returns-clause-kept : goal.returns-clause-kept
returns-clause-kept g c =
    kept_after _ _ _ _ c.turned-counts.result c.requires c.turned-counts.ensures.patch c.turned-counts.ensures.cells c.turned-counts.ensures.valid c.turned-counts.ensures.room (λ yes. c.turned-counts.ensures.afresh)
    (c.plus-self.ensures ∙ ap (λ (counts : Counts). counts_sum counts c.turned-counts.result) c.turned-counts.ensures.counts)
