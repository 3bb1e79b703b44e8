use Rattle.std.proofs.Common.{◌≡◌, length, sym, ap, ◌∙◌, subst}
use Rattle.spk_world.specs.Effects.{writes}
use Rattle.spk_patch.specs.Patches.{place_count}
use Rattle.spk_sched.specs.Globals.{kinetics_of}
use Rattle.spk_run.specs.declared.rank.Rank.{Rank}
use Rattle.spk_run.specs.declared.running.Running.{Running}
use Rattle.spk_run.specs.Dumps.{dumps_events}
use Rattle.spk_run.specs.Ranks.{IsKept}
use Rattle.spk_run.specs.Runs.{domain_at, scene_of}
use Rattle.spk_run.specs.Snapshots.{scene_at}
use Rattle.spk_run.proofs.RunSteps.{mark_parts, scene_is, show_passed, told_has, told_shown}
use Rattle.spk_run.proofs.Tellers.{tells_same, tells_then}
use Rattle.spk_run.proofs.running.Running.tell.Goals as goal

pub returns-clause-telling : goal.returns-clause-telling
returns-clause-telling g c = λ display rule settings domain done one has shown.
    let kinetics = kinetics_of (g.A.App.rules c.args.app.now) rule in
    let told = c.tell_line.new.self in
    let told_has_done = told_has kinetics settings domain done c.args.self.now told c.tell_line.ensures.same has in
    let told_is_shown = told_shown display c.args.self.now told c.tell_line.ensures.same c.tell_line.ensures.writer shown in
    let scene : scene_at told.teller.writer told.time told.rank.patch.values ≡ scene_of display (domain_at kinetics settings domain done) =
    scene_is kinetics settings domain done told display one c.tell_line.ensures.show told_is_shown told_has_done in
    let dumps : told.dumps ≡ c.args.self.now.dumps = ap (λ (r : Running). r.dumps) c.tell_line.ensures.same in
    tells_same display.log _ _ _ _ _ _ (mark_parts display (g.A.App.rules c.args.app.now) c.args.lined (domain_at kinetics settings domain done) c.args.self.now.dumps)
    (tells_then display.log _ _ _ _ _ _ _ _ (c.tell_line.ensures.telling display rule settings domain done one has shown)
    (tells_same display.log _ _ _ _ _ _ (ap (λ s. writes (dumps_events s told.dumps)) scene ∙ ap (λ ds. writes (dumps_events (scene_of display (domain_at kinetics settings domain done)) ds)) dumps) (c.tell_dumps.ensures.telling display.log)))

pub returns-clause-ready : goal.returns-clause-ready
returns-clause-ready g c = λ application sweep ready.
    let rank : c.tell_dumps.new.self.rank ≡ c.args.self.now.rank = ap (λ (r : Running). r.rank) c.tell_dumps.ensures.same ∙ ap (λ (r : Running). r.rank) c.tell_line.ensures.same in
    let values : c.tell_dumps.new.self.values ≡ c.args.self.now.values = ap (λ (r : Running). r.values) c.tell_dumps.ensures.same ∙ ap (λ (r : Running). r.values) c.tell_line.ensures.same in
    record {
      kept = subst (IsKept application sweep) (sym rank) ready.kept;
      values = ap length values ∙ ready.values ∙ ap (λ (r : Rank). place_count r.patch) (sym rank);
      show = show_passed c.tell_dumps.new.self c.pass.new.self c.tell_dumps.new.self.time c.pass.ensures c.tell_dumps.ensures.show;
    }
