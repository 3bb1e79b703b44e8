use Rattle.std.proofs.Common.{◌≡◌, None, rules}
use Rattle.spk_world.specs.Memory.{files_of}
use Rattle.spk_world.proofs.Files.{files_of-none, append-ok, append-err}
use Rattle.spk_world.proofs.memory.append.Goals as goal

pub returns-in-Some-clause-ok : goal.returns-in-Some-clause-ok
returns-in-Some-clause-ok c =
    append-ok _ _ _ _ _ _ _ ((c.get_mut.follows.holds c.extend_from_slice.new.self).3 (search rules)) c.in-Some.ensures.value c.extend_from_slice.ensures.items

pub returns-in-Some-clause-err : goal.returns-in-Some-clause-err
returns-in-Some-clause-err c =
    append-err _ _ _ _ _ _ _ ((c.get_mut.follows.holds c.extend_from_slice.new.self).3 (search rules)) c.in-Some.ensures.value c.extend_from_slice.ensures.items

-- the file isn't there, and is made of the bytes
pub returns-clause-ok : goal.returns-clause-ok
returns-clause-ok c =
    let absent : files_of c.args.files.now c.args.name.now ≡ None = files_of-none _ _ c.in_default.ensures.value in
    rw (absent, ← c.get_mut.follows.holds-at-none) c.put.ensures.ok

pub returns-clause-allocates : goal.returns-clause-allocates
returns-clause-allocates c =
    let absent : files_of c.args.files.now c.args.name.now ≡ None = files_of-none _ _ c.in_default.ensures.value in
    search (rules, absent)
