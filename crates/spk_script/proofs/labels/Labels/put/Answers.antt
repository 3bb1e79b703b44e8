use Rattle.std.proofs.Common.{◌≡◌, ℕ, List, is_some, false, string_bytes}
use Rattle.std.specs.Option.{option_or}
use Rattle.spk_script.specs.Tables.{labels_of}
use Rattle.spk_script.proofs.LabelPlaces.{labels_of_put, labels_of_kept, place_at}
use Rattle.spk_script.proofs.labels.Labels.put.Goals as goal

-- the key has the name's bytes
pub returns-in_ok-insert : goal.returns-in_ok-insert
unfolding labels_of
returns-in_ok-insert c =
    let new : is_some (labels_of c.args.self.now.places c.args.name.now) ≡ false = cc (c.contains_key.ensures) in
    let changed : (label : List ℕ) → labels_of c.insert.new.self label
    ≡ option_or (labels_of c.args.self.now.places label) (place_at (string_bytes c.in_ok-key.key) c.args.place label) =
    labels_of_put (string_bytes c.in_ok-key.key) c.args.place c.args.self.now.places c.insert.new.self
    c.in_ok-insert.ensures.updates (rw c.in_ok-key.ensures.ok new) in
    rw c.in_ok-key.ensures.ok at changed

pub returns-else-not-contains_key : goal.returns-else-not-contains_key
unfolding labels_of
returns-else-not-contains_key c =
    labels_of_kept c.args.name.now c.args.place c.args.self.now.places (cc (c.contains_key.ensures))
