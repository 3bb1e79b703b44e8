use Rattle.std.proofs.Common.{[], sym, ◌∙◌}
use Rattle.spk_script.specs.Lines.{LogicalLine}
use Rattle.spk_script.proofs.Arriving.{ahead_first_from, ahead_nothing, place_in_table}
use Rattle.spk_script.proofs.labelled_script.LabelledScript.command_from.Goals as goal

pub returns-in_err-place-clause-found : goal.returns-in_err-place-clause-found
returns-in_err-place-clause-found c = λ state.
    rw (← c.self.view_is, c.from_residual.ensures)
    (ahead_nothing state c.self.inside.script c.self.inside.commands.places.items c.args.place c.self.invariant.commanded (sym c.first_from.ensures ∙ c.in_err-place.was))

pub returns-clause-found : goal.returns-clause-found
returns-clause-found c = λ state.
    let none : LogicalLine = record { number = 0; raw = []; words = [] } in
    rw (c.number_at-number.ensures none, ← c.self.view_is)
    (ahead_first_from state c.self.inside.script c.args.place c.in_ok-place.place none
    (place_in_table c.self.inside.script c.self.inside.commands.places.items c.args.place c.in_ok-place.place c.self.invariant.commanded (sym c.first_from.ensures ∙ c.in_ok-place.was)))
