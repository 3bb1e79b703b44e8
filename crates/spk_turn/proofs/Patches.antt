-- A patch that has all cells of its lattice is ready for turns, and its frame tells all but its values.
use Rattle.std.proofs.Common.{◌≡◌, ℕ, ◌<◌, ◌≤◌, Bool, true, false, ◌||◌, IsTrue, List, [], ◌∷◌, ◌++◌, map, take, length, get_or, All, refl, sym, ap, subst, ◌∙◌, rules, arith}
use Rattle.std.specs.Prelude.{unsigned_abs}
use Rattle.spk_lattice.specs.declared.cells.Cells.{Cells}
use Rattle.spk_lattice.specs.Hops.{IsMutual, ReachesAtMost}
use Rattle.spk_lattice.specs.Layout.{Layout, sites_of}
use Rattle.spk_lattice.specs.Spread.{spread}
use Rattle.spk_lattice.specs.Boxes.{Interval, CellBox, IsSpan, box_of_cells, cells_of, interval_at, places_of}
use Rattle.spk_lattice.proofs.Boxes.{box_few}
use Rattle.spk_app.specs.Applications.{Application}
use Rattle.spk_app.specs.PlainViews.{frame_of, places_beside}
use Rattle.spk_app.proofs.Frames.{frame_same}
use Rattle.spk_patch.specs.Patches.{PatchSites, IsPatch, is_whole, near_of, number_of, patch_frame, showing, sight_of}
use Rattle.spk_patch.proofs.Whole.{IsWholeAlong, IsWhole, showing_is, size_is, values_are, whole, with_values}
use Rattle.spk_turn.specs.Ready.{IsReady}
use Rattle.spk_turn.specs.Sectors.{IsOwn, IsPart, places_in, slots_on, span_in}
use Rattle.spk_turn.specs.Slots.{BoxSlots, places, slot_count}
use Rattle.spk_turn.proofs.PlainPlaces.{places_mutual, places_room, places_spread}

is_true : (b : Bool) → IsTrue b → b ≡ true
is_true true is = refl
is_true false is = absurd (search (rules, is))

true_or : (a b : Bool) → IsTrue a → IsTrue (a || b)
true_or true b is = is
true_or false b is = absurd (search (rules, is))

-- the places beside a place are those of the lattice
pub wrapped_near : (p : PatchSites) → IsTrue p.wrapped → near_of p ≡ places_beside p.lattice
wrapped_near p wrapped = rw (is_true p.wrapped wrapped) refl

count_is : (p : PatchSites) → IsPatch p → IsTrue p.wrapped → length p.values ≡ sites_of p.lattice
count_is p patch wrapped = values_are p patch (whole p patch wrapped)

pub patch_spread : (p : PatchSites) (hops : ℕ) → IsPatch p → IsTrue p.wrapped → hops ≤ 4 → (place : ℕ) → place < length p.values → ReachesAtMost (near_of p) hops place (spread p.lattice.style hops)
patch_spread p hops patch wrapped few place less =
    subst (λ (near : ℕ → List ℕ). ReachesAtMost near hops place (spread p.lattice.style hops)) (sym (wrapped_near p wrapped))
    (places_spread p.lattice hops place patch.on (omega (arith, less, count_is p patch wrapped)) (omega (arith, few)))

-- it is ready for turns of an application that sees and writes 4 hops far at most
pub patch_ready : (app : Application) (hops : ℕ) (p : PatchSites)
    → IsPatch p
    → IsTrue p.wrapped
    → All (λ v. IsTrue (app.is_valid v)) p.values
    → hops ≤ 4
    → IsReady app (is_whole p) hops (sight_of p)
patch_ready app hops p patch wrapped valid few =
    let all : length p.values ≡ sites_of p.lattice = count_is p patch wrapped in
    let near : places_beside p.lattice ≡ near_of p = sym (wrapped_near p wrapped) in
    record {
      both_ways = subst (λ (beside : ℕ → List ℕ). IsMutual beside (λ j. j < length p.values)) near
          (subst (λ n. IsMutual (places_beside p.lattice) (λ j. j < n)) (sym all) (places_mutual p.lattice patch.on));
      all_whole = λ place. true_or p.wrapped _ wrapped;
      valid = valid;
      room = λ place less. subst (λ (beside : ℕ → List ℕ). ReachesAtMost beside hops place 729) near (places_room p.lattice hops place patch.on (omega (arith, less, all)) few);
      limit = omega (arith, all, patch.on.limit);
    }

-- it has the values that it was filled with
pub values_taken : (p q : PatchSites) (values : List ℕ)
    → IsPatch q
    → IsTrue q.wrapped
    → q ≡ record p { values = showing p values }
    → length values ≡ sites_of p.lattice
    → q.values ≡ values
unfolding showing
values_taken p q values patch wrapped same all =
    ap (λ (r : PatchSites). r.values) same ∙ sym (ap (λ (r : PatchSites). showing r values) same)
    ∙ showing_is q patch.on (whole q patch wrapped) values (all ∙ sym (ap (λ (r : PatchSites). sites_of r.lattice) same))

-- ---- frames

-- the numbers of a frame
abbrev frame_numbers : PatchSites → CellBox → List ℕ
frame_numbers p b = frame_of p.lattice ++ (b.x.from ∷ b.y.from ∷ b.z.from ∷ b.x.to ∷ b.y.to ∷ b.z.to ∷ p.halo ∷ number_of p.wrapped ∷ [])

frame_is : (p : PatchSites) → IsPatch p → patch_frame p ≡ frame_numbers p (box_of_cells p.own)
frame_is p patch = ap (λ (own : Cells). frame_of p.lattice ++ map unsigned_abs own.lo ++ map unsigned_abs own.hi ++ (p.halo ∷ number_of p.wrapped ∷ [])) (sym patch.own.is)

same_bool : (a b : Bool) → number_of a ≡ number_of b → a ≡ b
same_bool true true same = refl
same_bool false false same = refl
same_bool true false same = absurd (omega (arith, same))
same_bool false true same = absurd (omega (arith, same))

same_box : (a b : CellBox) → a.x.from ≡ b.x.from → a.y.from ≡ b.y.from → a.z.from ≡ b.z.from → a.x.to ≡ b.x.to → a.y.to ≡ b.y.to → a.z.to ≡ b.z.to → a ≡ b
same_box a b from_x from_y from_z to_x to_y to_z = rw (from_x, from_y, from_z, to_x, to_y, to_z) refl

same_patches : (p q : PatchSites) → p.lattice ≡ q.lattice → p.own ≡ q.own → p.halo ≡ q.halo → p.wrapped ≡ q.wrapped → q ≡ with_values p q.values
same_patches p q lattice own halo wrapped = rw (lattice, own, halo, wrapped) refl

pub same_frame : (p q : PatchSites) → IsPatch p → IsPatch q → patch_frame p ≡ patch_frame q → q ≡ record p { values = q.values }
same_frame p q first second frame =
    let same : frame_numbers p (box_of_cells p.own) ≡ frame_numbers q (box_of_cells q.own) = sym (frame_is p first) ∙ frame ∙ frame_is q second in
    let at : (k : ℕ) → get_or (frame_numbers p (box_of_cells p.own)) k 0 ≡ get_or (frame_numbers q (box_of_cells q.own)) k 0 = λ k. ap (λ (ns : List ℕ). get_or ns k 0) same in
    let box : box_of_cells p.own ≡ box_of_cells q.own = same_box (box_of_cells p.own) (box_of_cells q.own) (at 4) (at 5) (at 6) (at 7) (at 8) (at 9) in
    same_patches p q (frame_same p.lattice q.lattice (ap (take 4) same)) (sym first.own.is ∙ ap cells_of box ∙ second.own.is) (at 10) (same_bool p.wrapped q.wrapped (at 11))

-- ---- sectors

-- other values leave the places of a sector as they were
pub places_stay : (p q : PatchSites) (cells : Cells) (slots : BoxSlots) → slots ≡ slots_on p cells → q ≡ record p { values = q.values } → places slots ≡ places_in q cells
places_stay p q cells slots is same = ap places is ∙ ap (λ (r : PatchSites). places_in r cells) (sym same)

same_span : (p : PatchSites) (cells : Cells) (dimension n : ℕ) → IsWholeAlong p dimension n → span_in p cells dimension ≡ interval_at cells dimension
same_span p cells dimension n is =
    let from : (span_in p cells dimension).from ≡ (interval_at cells dimension).from = omega (arith, is.from, is.halo) in
    let to : (span_in p cells dimension).to ≡ (interval_at cells dimension).to = omega (arith, is.from, is.halo) in
    rw (from, to) refl

-- the places of a sector are those that its cells have in the lattice
pub places_whole : (p : PatchSites) (cells : Cells) → IsPatch p → IsTrue p.wrapped → places_in p cells ≡ places_of p.lattice (box_of_cells cells)
places_whole p cells patch wrapped =
    let is : IsWhole p = whole p patch wrapped in
    let x : span_in p cells 0 ≡ interval_at cells 0 = same_span p cells 0 p.lattice.nx is.x in
    let y : span_in p cells 1 ≡ interval_at cells 1 = same_span p cells 1 p.lattice.ny is.y in
    let z : span_in p cells 2 ≡ interval_at cells 2 = same_span p cells 2 p.lattice.nz is.z in
    ap (λ (l : Layout). places_of l (record { x = span_in p cells 0; y = span_in p cells 1; z = span_in p cells 2 })) (size_is p is)
    ∙ ap (λ (b : CellBox). places_of p.lattice b) (same_box (record { x = span_in p cells 0; y = span_in p cells 1; z = span_in p cells 2 }) (box_of_cells cells)
    (ap (λ (i : Interval). i.from) x) (ap (λ (i : Interval). i.from) y) (ap (λ (i : Interval). i.from) z)
    (ap (λ (i : Interval). i.to) x) (ap (λ (i : Interval). i.to) y) (ap (λ (i : Interval). i.to) z))

part_spans : (p : PatchSites) (cells : Cells) (dimension n : ℕ) → IsWholeAlong p dimension n → IsPart (interval_at p.own dimension) (interval_at cells dimension) → IsSpan n (span_in p cells dimension)
part_spans p cells dimension n is part = record { ordered = omega (arith, part.ordered, is.from, is.halo); within = omega (arith, part.high, is.from, is.to, is.halo) }

-- a sector has no more sites than the lattice
pub slots_few : (p : PatchSites) (cells : Cells) → IsPatch p → IsTrue p.wrapped → IsOwn p cells → slot_count (slots_on p cells) ≤ sites_of p.lattice
slots_few p cells patch wrapped own =
    let is : IsWhole p = whole p patch wrapped in
    box_few p.lattice (slots_on p cells).cells (record { x = part_spans p cells 0 p.lattice.nx is.x own.x; y = part_spans p cells 1 p.lattice.ny is.y own.y; z = part_spans p cells 2 p.lattice.nz is.z own.z })
