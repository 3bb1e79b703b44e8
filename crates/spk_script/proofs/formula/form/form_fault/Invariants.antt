use Rattle.std.proofs.Common.{◌≡◌, ◌≤◌, drop}
use Rattle.spk_script.specs.Forms.{depth_of, fault_from}
use Rattle.spk_script.specs.declared.formula.form.FormState.TheVariants.{BeforeOperand}
use Rattle.spk_script.proofs.formula.form.form_fault.Given as goal

-- the fault is that of the parts that are left
abbrev pub invariant-loop-part : goal.invariant-loop-part
invariant-loop-part l = record {
  depth : depth_of l.state ≤ l.part-index;
  fault : fault_from l.text l.state (drop l.part-index l.parts) ≡ fault_from l.text (BeforeOperand 0) l.parts;
}
