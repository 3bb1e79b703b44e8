-- The places of labels, put in one after another.
use Rattle.std.proofs.Common.{◌≡◌, ℕ, true, false, cond, List, Option, None, Some, is_some, String, string_bytes, refl, sym, ◌∙◌, ap, rules}
use Rattle.std.specs.List.{position_from}
use Rattle.std.specs.Option.{option_or}
use Rattle.std.specs.Str.{bytes_eq}
use Rattle.std.specs.String.{string_cmp}
use Rattle.std.specs.Ordering.{nat_cmp}
use Rattle.std.specs.Cmp.Lexicographic.{slice_cmp}
use Rattle.std.specs.BTreeMap.{BTreeMap, UpdatesBy, IsEmpty, get_by_text}
use Rattle.std.specs.declared.alloc.Global.{Global}
use Rattle.std.proofs.lemmas.Iterator.Adapters.{position_from-zero}
use Rattle.std.proofs.lemmas.Map.Text.{btree_map_updates_text}
use Rattle.std.proofs.lemmas.Slice.Eq.{bytes_eq-Decides}
use Rattle.spk_script.specs.Lines.{LogicalLine}
use Rattle.spk_script.specs.Commands.Label.{is_label_by, label_place}
use Rattle.spk_script.specs.Tables.{labels_of}
use Rattle.spk_script.proofs.Cuts.{by_bool}

-- a place that is there for one name alone
abbrev pub place_at : List ℕ → ℕ → List ℕ → Option ℕ
place_at name place label = cond (bytes_eq name label) (Some place) None

or_none : (a : Option ℕ) → option_or a None ≡ a
or_none None = refl
or_none (Some place) = refl

or_some : (a b : Option ℕ) → is_some a ≡ true → option_or a b ≡ a
or_some None b there = cc
or_some (Some place) b there = refl

is_none : (a : Option ℕ) → is_some a ≡ false → a ≡ None
is_none None there = refl
is_none (Some place) there = cc

same_name : (name label : List ℕ) → bytes_eq name label ≡ true → name ≡ label
same_name name label is = search (rules, bytes_eq-Decides name label, is)

-- a label that is new, and one that is there
pub labels_of_put : (name : List ℕ) (place : ℕ) (m n : BTreeMap (String Global) ℕ) →
    UpdatesBy string_cmp (λ k. slice_cmp nat_cmp name (string_bytes k)) m n (Some place) → is_some (labels_of m name) ≡ false →
    (label : List ℕ) → labels_of n label ≡ option_or (labels_of m label) (place_at name place label)
unfolding labels_of
labels_of_put name place m n updates new label =
    let updated : get_by_text n label ≡ cond (bytes_eq name label) (Some place) (get_by_text m label) =
    btree_map_updates_text name m n (Some place) updates label in
    by_bool (bytes_eq name label)
    (λ same. let here : get_by_text m label ≡ get_by_text m name = ap (λ bytes. get_by_text m bytes) (sym (same_name name label same)) in
    let none : get_by_text m label ≡ None = here ∙ is_none (get_by_text m name) new in updated ∙ rw (same, none) refl)
    (λ other. updated ∙ rw other (sym (or_none (get_by_text m label))))

pub labels_of_kept : (name : List ℕ) (place : ℕ) (m : BTreeMap (String Global) ℕ) → is_some (labels_of m name) ≡ true →
    (label : List ℕ) → labels_of m label ≡ option_or (labels_of m label) (place_at name place label)
labels_of_kept name place m there label =
    by_bool (bytes_eq name label)
    (λ same. let here : is_some (labels_of m label) ≡ true =
    ap (λ bytes. is_some (labels_of m bytes)) (sym (same_name name label same)) ∙ there in
    sym (or_some (labels_of m label) (place_at name place label) here))
    (λ other. rw other (sym (or_none (labels_of m label))))

-- the first place of a label among the lines from a place on
abbrev pub label_from : List ℕ → ℕ → List LogicalLine → Option ℕ
label_from label place lines = position_from (λ line. is_label_by label line.words) place lines

pub no_labels : (m : BTreeMap (String Global) ℕ) → IsEmpty m → (label : List ℕ) → labels_of m label ≡ None
unfolding labels_of
no_labels m empty label = search empty

pub labels_first : (lines : List LogicalLine) (label : List ℕ) → label_from label 0 lines ≡ label_place lines label
labels_first lines label = sym (position_from-zero (λ line. is_label_by label line.words) lines)
