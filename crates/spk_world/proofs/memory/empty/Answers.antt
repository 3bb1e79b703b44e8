use Rattle.std.proofs.Common.{◌≡◌, Some, None, ap, ◌∙◌, rules}
use Rattle.std.specs.Map.{update}
use Rattle.std.specs.Str.{bytes_eq}
use Rattle.spk_world.specs.Memory.{files_of}
use Rattle.spk_world.proofs.Files.{files_of-update, files_of-none}
use Rattle.spk_world.proofs.memory.empty.Goals as goal

pub returns-in-Some-clause-ok : goal.returns-in-Some-clause-ok
returns-in-Some-clause-ok c =
    files_of-update _ _ _ _ ((c.get_mut.follows.holds c.clear.new.self).3 (search rules))
    ∙ ap (λ bytes. update bytes_eq (files_of c.args.files.now) c.args.name.now (Some bytes)) c.clear.ensures.items

pub returns-clause-allocates : goal.returns-clause-allocates
returns-clause-allocates c =
    let absent : files_of c.args.files.now c.args.name.now ≡ None = files_of-none _ _ c.in_default.ensures.value in
    search (rules, absent)
