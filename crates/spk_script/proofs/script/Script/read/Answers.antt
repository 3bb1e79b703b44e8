use Rattle.std.proofs.Common.{rules, ◌≡◌, arith, ◌∙◌}
use Rattle.spk_script.specs.Lines.{physical_lines}
use Rattle.spk_script.proofs.Reading.{read_few, read_many, all_lines_allowed}
use Rattle.spk_script.proofs.Runs.{nows}
use Rattle.spk_script.proofs.Scripts.{is_script}
use Rattle.spk_script.proofs.script.Script.read.Goals as goal

pub returns-then-len-gt-MOST_LINES-clause-fault : goal.returns-then-len-gt-MOST_LINES-clause-fault
returns-then-len-gt-MOST_LINES-clause-fault c = read_many c.args.bytes.now c.in_ok-physical.physical.items c.in_ok-physical.ensures (omega arith) (cc (c.first_not_allowed.ensures, c.in_default.is)) (omega arith)

pub logical_lines-requires-clause-allowed : goal.logical_lines-requires-clause-allowed
logical_lines-requires-clause-allowed c =
    let are : nows c.deref.result.now ≡ physical_lines c.args.bytes.now = rw c.deref.ensures.value c.in_ok-physical.ensures in
    all_lines_allowed c.args.bytes.now c.deref.result.now are (cc (c.first_not_allowed.ensures, c.in_default.is))

pub returns-in_err-lines-clause-fault : goal.returns-in_err-lines-clause-fault
returns-in_err-lines-clause-fault c =
    let are : nows c.deref.result.now ≡ physical_lines c.args.bytes.now = rw c.deref.ensures.value c.in_ok-physical.ensures in
    rw (read_few c.args.bytes.now c.deref.result.now are (omega arith) (cc (c.first_not_allowed.ensures, c.in_default.is)) (omega arith)) (search rules)

pub returns-clause-ok : goal.returns-clause-ok
returns-clause-ok c =
    let are : nows c.deref.result.now ≡ physical_lines c.args.bytes.now = rw c.deref.ensures.value c.in_ok-physical.ensures in
    read_few c.args.bytes.now c.deref.result.now are (omega arith) (cc (c.first_not_allowed.ensures, c.in_default.is)) (omega arith) ∙ c.in_ok-lines.ensures.ok

-- the lines that were read are a script's
pub invariant_of-result : goal.invariant_of-result
invariant_of-result c =
    let are : nows c.deref.result.now ≡ physical_lines c.args.bytes.now = rw c.deref.ensures.value c.in_ok-physical.ensures in
    is_script (nows c.deref.result.now) c.in_ok-lines.lines.items
    (all_lines_allowed c.args.bytes.now c.deref.result.now are (cc (c.first_not_allowed.ensures, c.in_default.is)))
    c.in_ok-lines.ensures.ok
