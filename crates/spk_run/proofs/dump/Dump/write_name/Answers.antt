use Rattle.std.proofs.Common.{◌≡◌, ◌∙◌, length, sym, None, arith, rules}
use Rattle.std.proofs.lemmas.Str.Pattern.{split_once_first}
use Rattle.std.specs.List.{position_or_len}
use Rattle.std.specs.String.{string_bytes}
use Rattle.spk_run.specs.Dumps.{is_star}
use Rattle.spk_run.proofs.DumpNames.{numbered_missing}
use Rattle.spk_run.proofs.dump.Dump.write_name.Goals as goal

pub returns-in-None-clause-name : goal.returns-in-None-clause-name
returns-in-None-clause-name c =
    let missing : position_or_len is_star c.as_str.result.now ≡ length c.as_str.result.now = split_once_first 42 c.as_str.result.now None c.in-None.ensures.cases (omega arith) in
    let whole : string_bytes c.push_str-in-None.new.self ≡ c.self.inside.state.file = search rules in
    rw (← c.self.view_is) (whole ∙ sym (numbered_missing c.self.inside.state.file c.self.inside.state.number (rw c.as_str.ensures at missing)))
