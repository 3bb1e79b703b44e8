use Rattle.std.proofs.Common.{subst, sym}
use Rattle.std.specs.Str.{IsAscii}
use Rattle.std.proofs.lemmas.Result.{err_from_is_err_and}
use Rattle.std.proofs.lemmas.Str.{IsUtf8-from_ascii}
use Rattle.spk_script.specs.LineBuffers.{OpenLine, with_part, Holds}
use Rattle.spk_script.proofs.References.{after_is_ascii, nothing_substituted, one_variable_more, variable_is_wrong, no_variable_more}
use Rattle.spk_script.proofs.substitution.push_substituted.Goals as goal

pub loop-before-init : goal.loop-before-init
loop-before-init c =
    let ascii : IsAscii c.as_str-left.result.now = subst IsAscii (sym c.as_str-left.ensures) c.requires in
    record { utf8 = IsUtf8-from_ascii _ ascii; reads = nothing_substituted _ _ _ _ c.as_str-left.ensures; ascii = ascii }

pub returns-in_err-value : goal.returns-in_err-value
returns-in_err-value c =
    let exit = err_from_is_err_and c.from_residual-in_err-value.result c.from_residual-in_err-value.ensures.1 in
    let parts = c.in-Some in
    rw (exit.1, exit.2)
    (variable_is_wrong _ _ _ _ _ _ parts.before parts.after parts.ensures.cases c.loop-before.invariant.reads c.in_err-value.ensures)

pub value_after-requires : goal.value_after-requires
value_after-requires c = after_is_ascii _ c.in-Some.before c.in-Some.after c.in-Some.ensures.cases c.loop-before.invariant.ascii

pub loop-before-preserved : goal.loop-before-preserved
loop-before-preserved c =
    let parts = c.in-Some in
    let value : (line : OpenLine) → Holds c.push_part.new.self line →
    Holds c.push_part-in-Some.new.self (with_part c.args.word.now.quoted line c.in_ok-value.value) =
    rw c.as_str.ensures at c.in_ok-push_part-2.ensures in
    record {
      utf8 = IsUtf8-from_ascii _ c.in_ok-value.ensures.ascii;
      reads = one_variable_more _ _ _ _ c.push_part.new.self _ _ _ _ parts.before parts.after parts.ensures.cases
          c.loop-before.invariant.reads c.in_ok-value.ensures c.in_ok-push_part.ensures value;
      ascii = c.in_ok-value.ensures.ascii;
    }

pub returns : goal.returns
returns c = no_variable_more _ _ _ _ c.push_part-2.new.self _ _ c.in_default.ensures.cases c.loop-before.invariant.reads
    c.in_ok-push_part-3.ensures c.in_ok-end_word.ensures
