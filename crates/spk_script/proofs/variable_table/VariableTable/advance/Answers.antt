use Rattle.std.proofs.Common.{rules, refl, sym, ◌∙◌}
use Rattle.spk_script.proofs.Tables.{variables_of_update, variables_of_some, variables_of_none, variables_of_kept}
use Rattle.spk_script.proofs.variable_table.VariableTable.advance.Goals as goal

pub returns-in_default : goal.returns-in_default
returns-in_default c = (variables_of_none _ _ c.in_default.ensures.value, rw c.get_mut.follows.holds-at-none refl)

pub returns-then-not-has_steps : goal.returns-then-not-has_steps
returns-then-not-has_steps c = record {
  variable = c.in-Some.variable.now;
  found = variables_of_some _ _ _ c.in-Some.ensures.value;
  steps = sym c.has_steps.ensures ∙ c.if-not-has_steps.true;
  same = variables_of_kept _ _ _ c.in-Some.variable.now _ ((c.get_mut.follows.holds c.in-Some.variable.now).3 (search rules)) c.in-Some.ensures.value refl;
}

pub returns-then-advance : goal.returns-then-advance
returns-then-advance c = record {
  variable = c.in-Some.variable.now;
  next = c.advance.new.self;
  found = variables_of_some _ _ _ c.in-Some.ensures.value;
  steps = sym c.has_steps.ensures ∙ c.if-not-has_steps.false;
  goes = c.if-advance.ensures;
  changed = variables_of_update _ _ _ _ ((c.get_mut.follows.holds c.advance.new.self).3 (search rules));
}

pub returns-else-advance : goal.returns-else-advance
returns-else-advance c = record {
  variable = c.in-Some.variable.now;
  found = variables_of_some _ _ _ c.in-Some.ensures.value;
  steps = sym c.has_steps.ensures ∙ c.if-not-has_steps.false;
  ends = c.if-advance.ensures.0;
  same = variables_of_kept _ _ _ c.in-Some.variable.now _ ((c.get_mut.follows.holds c.advance.new.self).3 (search rules)) c.in-Some.ensures.value c.if-advance.ensures.1;
}
