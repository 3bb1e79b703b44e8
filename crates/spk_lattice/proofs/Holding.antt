-- Which points a region holds, by what the regions before it hold.
use Rattle.std.proofs.Common.{◌≡◌, ℕ, suc, ◌+◌, ◌<◌, ◌≤◌, Bool, true, false, cond, List, [], ◌∷◌, map, length, get_or, take, drop, ℤ, Option, Some, refl, true≢false, sym, ap, ◌∙◌, arith, length-drop}
use Rattle.std.specs.List.{fold, All}
use Rattle.std.specs.Option.{unwrap_or}
use Rattle.std.specs.Str.{bytes_eq}
use Rattle.std.proofs.lemmas.List.{length-map, get_or-map, get_or-drop, take-append-drop, same_lists, nil_from_length}
use Rattle.std.proofs.lemmas.List.Folds.{fold-map}
use Rattle.std.proofs.lemmas.List.Sums.{fold-append, fold_more}
use Rattle.std.proofs.lemmas.Slice.Eq.{bytes_eq-Decides}
use Rattle.spk_lattice.specs.declared.regions.region.Region.{Region}
use Rattle.spk_lattice.specs.Shapes.{parts_of, shape_holds}
use Rattle.spk_lattice.specs.Regions.{Answers, no_answers, answers_of_parts, with_answer, holds, name_at, named_shapes, ArePlaces, AreRegions}
use Rattle.spk_lattice.proofs.Stored.{name_is}

-- one more region as it is stored
abbrev pub with_region : List ℤ → Answers → Region → Answers
with_region point answers region = with_answer point answers region.named

abbrev pub answers_after : List ℤ → List Region → Answers
answers_after point regions = fold (with_region point) no_answers regions

holds_is : (regions : List Region) (name : List ℕ) (point : List ℤ) → holds (named_shapes regions) name point ≡ answers_after point regions name
unfolding holds
holds_is regions name point = ap (λ (answers : Answers). answers name) (fold-map (with_answer point) (λ (region : Region). region.named) no_answers regions)

-- regions with other names say nothing of a name
unaffected : (point : List ℤ) (answers : Answers) (regions : List Region) (name : List ℕ) → All (λ (region : Region). bytes_eq region.named.name name ≡ false) regions →
    fold (with_region point) answers regions name ≡ answers name
unaffected point answers [] name apart = refl
unaffected point answers (region ∷ regions) name apart =
    let other : bytes_eq region.named.name name ≡ false = apart 0 region (omega arith) in
    let rest : All (λ (region : Region). bytes_eq region.named.name name ≡ false) regions = λ k d h. apart (suc k) d (omega arith) in
    unaffected point (with_region point answers region) regions name rest
    ∙ ap (λ (b : Bool). cond b (Some (shape_holds (answers_of_parts answers region.named.shape) region.named.shape point)) (answers name)) other

not_true : (b : Bool) → (b ≡ true → ⊥) → b ≡ false
not_true true never = absurd (never refl)
not_true false never = refl

turned_round : (a b : List ℕ) → bytes_eq a b ≡ false → bytes_eq b a ≡ false
turned_round a b apart =
    not_true (bytes_eq b a) (λ same. true≢false (sym ((bytes_eq-Decides a b).1 (sym ((bytes_eq-Decides b a).0 same))) ∙ apart))

-- the regions from a place on say nothing of the name at a place before
settled : (point : List ℤ) (regions : List Region) (place k : ℕ) (d : Region) → AreRegions regions → place < k → k ≤ length regions →
    answers_after point regions (name_at (named_shapes regions) place) ≡ answers_after point (take k regions) (name_at (named_shapes regions) place)
settled point regions place k d are before within =
    let name = name_at (named_shapes regions) place in
    let apart : All (λ (region : Region). bytes_eq region.named.name name ≡ false) (drop k regions) =
    λ i e h.
    let here : k + i < length regions = omega (arith, length-drop k regions) in
    rw (get_or-drop k regions i e, name_is regions place e (omega arith)) (turned_round (get_or regions place e).named.name (get_or regions (k + i) e).named.name (are.distinct place (k + i) e (omega arith) here)) in
    ap (λ (all : List Region). answers_after point all name) (sym (take-append-drop k regions))
    ∙ ap (λ (answers : Answers). answers name) (fold-append (with_region point) no_answers (take k regions) (drop k regions))
    ∙ unaffected point (answers_after point (take k regions)) (drop k regions) name apart

-- what is asked of the regions before a region is the same as of all regions
part_settled : (point : List ℤ) (regions : List Region) (place k : ℕ) (d : Region) → AreRegions regions → place < k → k ≤ length regions →
    answers_after point (take k regions) (name_at (named_shapes regions) place) ≡ holds (named_shapes regions) (name_at (named_shapes regions) place) point
part_settled point regions place k d are before within =
    sym (settled point regions place k d are before within) ∙ sym (holds_is regions (name_at (named_shapes regions) place) point)

-- what a region answers, by what the regions before it answer
region_answers : (point : List ℤ) (regions : List Region) (place : ℕ) (d : Region) → AreRegions regions → place < length regions →
    holds (named_shapes regions) (name_at (named_shapes regions) place) point
    ≡ Some (shape_holds (answers_of_parts (answers_after point (take place regions)) (get_or regions place d).named.shape) (get_or regions place d).named.shape point)
region_answers point regions place d are within =
    let name = name_at (named_shapes regions) place in
    let answers = answers_after point (take place regions) in
    let shape = (get_or regions place d).named.shape in
    let is : (get_or regions place d).named.name ≡ name = sym (name_is regions place d within) in
    let same : bytes_eq (get_or regions place d).named.name name ≡ true = (bytes_eq-Decides (get_or regions place d).named.name name).1 is in
    holds_is regions name point
    ∙ settled point regions place (place + 1) d are (omega arith) (omega arith)
    ∙ ap (λ (all : Answers). all name) (fold_more (with_region point) no_answers regions place d within)
    ∙ ap (λ (b : Bool). cond b (Some (shape_holds (answers_of_parts answers shape) shape point)) (answers name)) same

-- the answers of the parts of a region, by their places
parts_answer : (point : List ℤ) (regions : List Region) (place : ℕ) (d : Region) (answers : List Bool) → AreRegions regions → place < length regions →
    ((i : ℕ) → i < length (get_or regions place d).places.items →
    holds (named_shapes regions) (name_at (named_shapes regions) (get_or (get_or regions place d).places.items i 0)) point ≡ Some (get_or answers (get_or (get_or regions place d).places.items i 0) false)) →
    answers_of_parts (answers_after point (take place regions)) (get_or regions place d).named.shape ≡ map (λ (p : ℕ). get_or answers p false) (get_or regions place d).places.items
parts_answer point regions place d answers are within known =
    let shape = (get_or regions place d).named.shape in
    let places = (get_or regions place d).places.items in
    let before = answers_after point (take place regions) in
    let lie : ArePlaces (named_shapes regions) place (parts_of shape) places = are.parts place d within in
    same_lists (answers_of_parts before shape) (map (λ (p : ℕ). get_or answers p false) places)
    (length-map (parts_of shape) (λ (part : List ℕ). unwrap_or (before part) false) ∙ sym lie.count ∙ sym (length-map places (λ (p : ℕ). get_or answers p false)))
    (λ i b h.
    let here : i < length places = rw (lie.count) (rw length-map at h) in
    let part : i < length (parts_of shape) = rw length-map at h in
    let p = get_or places i 0 in
    get_or-map (λ (part : List ℕ). unwrap_or (before part) false) (parts_of shape) i [] b part
    ∙ ap (λ (part : List ℕ). unwrap_or (before part) false) (sym (lie.names i here))
    ∙ ap (λ (answer : Option Bool). unwrap_or answer false) (part_settled point regions p place d are (lie.lower i here) (omega arith) ∙ known i here)
    ∙ sym (get_or-map (λ (p : ℕ). get_or answers p false) places i 0 b here))

-- what a region answers, by the answers of the regions before it by their places
answer_is : (point : List ℤ) (regions : List Region) (place : ℕ) (region : Region) (answers : List Bool) → AreRegions regions → place < length regions → region ≡ get_or regions place region →
    ((i : ℕ) → i < length (get_or regions place region).places.items →
    holds (named_shapes regions) (name_at (named_shapes regions) (get_or (get_or regions place region).places.items i 0)) point ≡ Some (get_or answers (get_or (get_or regions place region).places.items i 0) false)) →
    holds (named_shapes regions) (name_at (named_shapes regions) place) point ≡ Some (shape_holds (map (λ (p : ℕ). get_or answers p false) region.places.items) region.named.shape point)
answer_is point regions place region answers are within is known =
    region_answers point regions place region are within
    ∙ ap (λ (parts : List Bool). Some (shape_holds parts (get_or regions place region).named.shape point)) (parts_answer point regions place region answers are within known)
    ∙ ap (λ (r : Region). Some (shape_holds (map (λ (p : ℕ). get_or answers p false) r.places.items) r.named.shape point)) (sym is)

-- where all regions before it have answered, and where it has no parts
pub answer_next : (point : List ℤ) (regions : List Region) (place : ℕ) (region : Region) (answers : List Bool) (result : Bool) → AreRegions regions → place < length regions → region ≡ get_or regions place region →
    ((k : ℕ) → k < place → holds (named_shapes regions) (name_at (named_shapes regions) k) point ≡ Some (get_or answers k false)) →
    result ≡ shape_holds (map (λ (p : ℕ). get_or answers p false) region.places.items) region.named.shape point →
    holds (named_shapes regions) (name_at (named_shapes regions) place) point ≡ Some result
answer_next point regions place region answers result are within is known says =
    answer_is point regions place region answers are within is (λ i h. known (get_or (get_or regions place region).places.items i 0) ((are.parts place region within).lower i h)) ∙ ap Some (sym says)

pub answer_alone : (point : List ℤ) (regions : List Region) (place : ℕ) (region : Region) (answer : ℕ → Bool) (result : Bool) → AreRegions regions → place < length regions → region ≡ get_or regions place region →
    length region.places.items ≡ 0 →
    result ≡ shape_holds (map answer region.places.items) region.named.shape point →
    holds (named_shapes regions) (name_at (named_shapes regions) place) point ≡ Some result
answer_alone point regions place region answer result are within is alone says =
    let none : length (get_or regions place region).places.items ≡ 0 = ap (λ (r : Region). length r.places.items) (sym is) ∙ alone in
    let same : map (λ (p : ℕ). get_or [] p false) region.places.items ≡ map answer region.places.items = rw (nil_from_length region.places.items alone) in
    answer_is point regions place region [] are within is (λ i h. absurd (omega arith))
    ∙ ap (λ (parts : List Bool). Some (shape_holds parts region.named.shape point)) same
    ∙ ap Some (sym says)
