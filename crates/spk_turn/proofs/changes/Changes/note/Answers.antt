use Rattle.std.proofs.Common.{◌<◌, length, ℕ}
use Rattle.std.specs.Prelude.{All}
use Rattle.spk_turn.proofs.Gathering.{reach_one, one_inside, all_inside}
use Rattle.spk_turn.proofs.changes.Changes.note.Goals as goal

pub gather-requires-clause-room : goal.gather-requires-clause-room
gather-requires-clause-room g c = rw c.start.ensures (reach_one (g.V.View.sight c.args.view.now).near c.args.hops c.args.origin 729 c.requires.room)

pub note_values-requires-clause-inside : goal.note_values-requires-clause-inside
note_values-requires-clause-inside g c =
    let n : ℕ = length (g.V.View.sight c.args.view.now).values in
    let origins : All (λ j. j < n) c.start.new.self = rw c.start.ensures (one_inside n c.args.origin c.requires.place) in
    rw c.as_slice.ensures.places (all_inside (g.V.View.sight c.args.view.now).near n c.args.hops c.start.new.self c.gather.new.gathered c.requires.mutual origins c.gather.ensures.reached)
