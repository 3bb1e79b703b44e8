use Rattle.std.proofs.Common.{◌≡◌, Some, string_bytes, rules}
use Rattle.std.specs.Map.{update}
use Rattle.std.specs.Str.{bytes_eq}
use Rattle.spk_world.specs.Memory.{files_of}
use Rattle.spk_world.proofs.Files.{files_of-update, files_of-same}
use Rattle.spk_world.proofs.memory.put.Goals as goal

pub returns-in_err-insert-clause-err : goal.returns-in_err-insert-clause-err
returns-in_err-insert-clause-err c =
    let same : files_of c.insert.new.self ≡ files_of c.args.files.now = files_of-same _ _ c.in_err-insert.ensures.err in
    search (rules, same)

-- the key has the name's bytes, and the file those given
pub returns-clause-ok : goal.returns-clause-ok
returns-clause-ok c =
    let changed : files_of c.insert.new.self ≡ update bytes_eq (files_of c.args.files.now) (string_bytes c.in_ok-key.key) (Some c.in_ok-file.file.items) =
    files_of-update _ _ _ _ c.in_ok-insert.ensures.updates in
    rw (c.in_ok-key.ensures.ok, c.in_ok-file.ensures.items) at changed
