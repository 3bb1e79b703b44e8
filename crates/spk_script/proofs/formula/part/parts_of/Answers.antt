use Rattle.std.proofs.Common.{◌≤◌, ◌++◌, ◌∙◌, sym, ap, arith, drop, length, length-drop}
use Rattle.std.proofs.lemmas.List.{take_rest}
use Rattle.spk_script.specs.Formulas.{parts_of}
use Rattle.spk_script.specs.Parts.{token_at, length_at}
use Rattle.spk_script.proofs.Parts.{all_parts, blank_passed, part_taken}
use Rattle.spk_script.proofs.formula.part.parts_of.Goals as goal

pub loop-at-preserved-then-is_blank : goal.loop-at-preserved-then-is_blank
loop-at-preserved-then-is_blank c = record {
  within = omega arith;
  parts = c.loop-at.invariant.parts ∙ ap (λ parts. c.loop-at.parts.items ++ parts)
      (blank_passed c.args.text.now c.loop-at.at c.loop-at-test.true (sym c.is_blank.ensures ∙ c.if-is_blank.true));
}

pub loop-at-preserved : goal.loop-at-preserved
loop-at-preserved c =
    let rest = take_rest c.args.text.now c.loop-at.at in
    let fits : c.length_at-at.result ≤ length (drop c.loop-at.at c.args.text.now) = rw rest at c.length_at-at.ensures.within in
    record {
      within = omega (arith, length-drop c.loop-at.at c.args.text.now);
      parts = part_taken (parts_of c.args.text.now) c.loop-at.parts.items c.push.new.self.items c.args.text.now c.loop-at.at
          c.length_at-at.result c.in_ok-token.token c.loop-at-test.true (sym c.is_blank.ensures ∙ c.if-is_blank.false)
          (c.in_ok-token.ensures ∙ ap (token_at c.loop-at.at) rest) (c.length_at-at.ensures.same ∙ ap length_at rest) fits
          c.in_ok-push.ensures.items c.loop-at.invariant.parts;
    }

pub returns : goal.returns
returns c =
    sym (all_parts (parts_of c.args.text.now) c.loop-at.parts.items c.args.text.now c.loop-at.at c.loop-at-test.false
    c.loop-at.invariant.parts)
