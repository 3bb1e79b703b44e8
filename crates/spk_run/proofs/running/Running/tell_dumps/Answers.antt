use Rattle.std.proofs.Common.{◌≡◌, sym, ap, ◌∙◌, length, subst}
use Rattle.spk_lattice.specs.Layout.{IsLattice, sites_of}
use Rattle.spk_report.specs.Pieces.{AreValuesOf}
use Rattle.spk_run.proofs.DumpTelling.{none_due}
use Rattle.spk_run.proofs.RunSteps.{all_values, show_telling}
use Rattle.spk_run.specs.Snapshots.{scene_at}
use Rattle.spk_run.proofs.Tellers.{tells_nothing}
use Rattle.spk_run.proofs.running.Running.tell_dumps.Goals as goal

pub returns-then-not-is_due-clause-telling : goal.returns-then-not-is_due-clause-telling
returns-then-not-is_due-clause-telling g c = λ log.
    tells_nothing log _ _ _ (none_due (scene_at c.args.self.now.teller.writer c.args.self.now.time c.args.self.now.rank.patch.values) c.args.self.now.dumps (sym c.is_due.ensures ∙ c.if-not-is_due.true))

pub fill-requires : goal.fill-requires
fill-requires g c = c.requires.show.piece ∙ sym (all_values c.args.self.now c.requires.show c.known.ensures.patch)

pub tell_dumps-requires-clause-pieces : goal.tell_dumps-requires-clause-pieces
tell_dumps-requires-clause-pieces g c =
    let all : length c.fill.new.self ≡ sites_of c.args.self.now.teller.writer.sectors.grid.lattice =
    ap length c.fill.ensures ∙ all_values c.args.self.now c.requires.show c.known.ensures.patch ∙ ap sites_of (sym c.requires.show.lattice) in
    c.as_slice.ensures.pieces c.args.self.now.teller.writer.sectors c.requires.show.ranks all

pub returns-clause-telling : goal.returns-clause-telling
returns-clause-telling g c = λ log.
    let all : length c.fill.new.self ≡ sites_of c.args.self.now.teller.writer.sectors.grid.lattice =
    ap length c.fill.ensures ∙ all_values c.args.self.now c.requires.show c.known.ensures.patch ∙ ap sites_of (sym c.requires.show.lattice) in
    let on : IsLattice c.args.self.now.teller.writer.sectors.grid.lattice = subst IsLattice (c.requires.show.patch.lattice_is ∙ sym c.requires.show.lattice) c.known.ensures.patch.on in
    c.tell_dumps.ensures.telling log c.args.self.now.rank.patch.values
    (subst (AreValuesOf c.args.self.now.teller.writer.sectors c.as_slice.result.now) c.fill.ensures (c.as_slice.ensures.values c.args.self.now.teller.writer.sectors on c.requires.show.ranks all))

pub returns-clause-show : goal.returns-clause-show
returns-clause-show g c =
    show_telling c.args.self.now c.fill.new.self c.tell_dumps.new.self (ap length c.fill.ensures ∙ all_values c.args.self.now c.requires.show c.known.ensures.patch) c.tell_dumps.ensures.can_tell c.tell_dumps.ensures.same c.requires.show
