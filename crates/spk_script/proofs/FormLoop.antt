-- The form of a formula, judged in a loop over its parts.
use Rattle.std.proofs.Common.{◌≡◌, ℕ, ◌+◌, ◌<◌, ◌≤◌, false, List, length, get_or, drop, Some, Result, Ok, Err, refl, sym, ◌∙◌, ap}
use Rattle.std.proofs.lemmas.List.{drop_more, drop_all}
use Rattle.spk_script.specs.declared.formula.part.Part.{Part}
use Rattle.spk_script.specs.declared.formula.form.FormState.{FormState}
use Rattle.spk_script.specs.declared.formula.form.FormState.TheVariants.{BeforeOperand}
use Rattle.spk_script.specs.Formulas.{begins_blank}
use Rattle.spk_script.specs.Forms.{passed, fault_at_end, fault_after, fault_from, form_fault}

-- one part more is passed, or can't stand there
abbrev pub passed_at : FormState → List Part → ℕ → Part → Result FormState ℕ
passed_at state parts i d = passed state (get_or parts i d).place (get_or parts i d).token

from_place : (text : List ℕ) (state : FormState) (parts : List Part) (i : ℕ) (d : Part) → i < length parts →
    fault_from text state (drop i parts) ≡ fault_after (passed_at state parts i d) (λ next. fault_from text next (drop (i + 1) parts))
unfolding fault_from
from_place text state parts i d within = ap (fault_from text state) (drop_more parts i d within)

pub passes_on : (text : List ℕ) (state next : FormState) (parts : List Part) (i : ℕ) (d : Part) → i < length parts →
    Ok next ≡ passed_at state parts i d → fault_from text next (drop (i + 1) parts) ≡ fault_from text state (drop i parts)
passes_on text state next parts i d within is =
    ap (λ r. fault_after r (λ next. fault_from text next (drop (i + 1) parts))) is ∙ sym (from_place text state parts i d within)

-- the fault of the whole, by the parts and at the end
whole_fault : (text : List ℕ) (parts : List Part) → begins_blank text ≡ false →
    fault_from text (BeforeOperand 0) parts ≡ form_fault text parts
whole_fault text parts seen = rw seen refl

pub stops_at : (text : List ℕ) (state : FormState) (parts : List Part) (i place : ℕ) (d : Part) → i < length parts →
    begins_blank text ≡ false → Err place ≡ passed_at state parts i d →
    fault_from text state (drop i parts) ≡ fault_from text (BeforeOperand 0) parts → Some place ≡ form_fault text parts
stops_at text state parts i place d within seen is so_far =
    ap (λ r. fault_after r (λ next. fault_from text next (drop (i + 1) parts))) is
    ∙ sym (from_place text state parts i d within) ∙ so_far ∙ whole_fault text parts seen

pub ends_at : (text : List ℕ) (state : FormState) (parts : List Part) (i : ℕ) → length parts ≤ i → begins_blank text ≡ false →
    fault_from text state (drop i parts) ≡ fault_from text (BeforeOperand 0) parts → fault_at_end text state ≡ form_fault text parts
unfolding fault_from
ends_at text state parts i following seen so_far =
    ap (fault_from text state) (sym (drop_all i parts following)) ∙ so_far ∙ whole_fault text parts seen
