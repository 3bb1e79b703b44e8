-- Regions as they are stored, and as contracts see them.
use Rattle.std.proofs.Common.{◌≡◌, ℕ, suc, ◌+◌, ◌<◌, Bool, true, false, cond, not, List, [], ◌∷◌, map, length, get_or, Option, Some, None, IfSome, refl, sym, ap, ◌∙◌, arith}
use Rattle.std.specs.List.{All, find, position, prefix_len}
use Rattle.std.specs.Option.{option_and_then, option_map}
use Rattle.std.specs.Str.{bytes_eq}
use Rattle.std.proofs.lemmas.List.{length-map, get_or-map}
use Rattle.std.proofs.lemmas.List.Quantifiers.{position-Some}
use Rattle.std.proofs.lemmas.Slice.Eq.{bytes_eq-Decides}
use Rattle.spk_num.specs.declared.shape.Shape.{Shape}
use Rattle.spk_num.specs.declared.shape.Shape.TheVariants.{Block as BlockShape, Sphere, Cylinder, Union, Intersect}
use Rattle.spk_lattice.specs.declared.regions.block.Block.{Block}
use Rattle.spk_lattice.specs.declared.regions.region.NamedShape.{NamedShape}
use Rattle.spk_lattice.specs.declared.regions.region.Region.{Region}
use Rattle.spk_lattice.specs.Regions.{block_in, block_named, IsNearBlock, name_at, named_shapes, place_of}
use Rattle.spk_lattice.specs.Shapes.{IsInRange}

pub length_named : (regions : List Region) → length (named_shapes regions) ≡ length regions
length_named regions = length-map regions (λ (region : Region). region.named)

-- the name at a place
pub name_is : (regions : List Region) (place : ℕ) (d : Region) → place < length regions → name_at (named_shapes regions) place ≡ (get_or regions place d).named.name
name_is regions place d h =
    let here : place < length (named_shapes regions) = rw length_named h in
    get_or-map (λ (region : NamedShape). region.name) (named_shapes regions) place d.named [] here
    ∙ ap (λ (region : NamedShape). region.name) (get_or-map (λ (region : Region). region.named) regions place d d.named h)

chosen-map : {X Y : Type 0} (f : X → Y) (b : Bool) (x : X) (o : Option X) {rest : Option Y} → rest ≡ option_map f o → cond b (Some (f x)) rest ≡ option_map f (cond b (Some x) o)
chosen-map f true x o is = refl
chosen-map f false x o is = is

-- the first that passes a test, in a list that is made of another
pub find-map : {X Y : Type 0} (p : Y → Bool) (f : X → Y) (xs : List X) → find p (map f xs) ≡ option_map f (find (λ x. p (f x)) xs)
find-map p f [] = refl
find-map p f (x ∷ xs) = chosen-map f (p (f x)) x (find (λ x. p (f x)) xs) (find-map p f xs)

prefix_len-map : {X Y : Type 0} (p : Y → Bool) (f : X → Y) (xs : List X) → prefix_len p (map f xs) ≡ prefix_len (λ x. p (f x)) xs
prefix_len-map p f [] = refl
prefix_len-map p f (x ∷ xs) = ap (λ n. cond (p (f x)) (1 + n) 0) (prefix_len-map p f xs)

pub position-map : {X Y : Type 0} (p : Y → Bool) (f : X → Y) (xs : List X) → position p (map f xs) ≡ position (λ x. p (f x)) xs
position-map p f xs = rw (prefix_len-map (λ y. not (p y)) f xs, length-map xs f)

pub option_and_then-map : {X Y Z : Type 0} (g : Y → Option Z) (f : X → Y) (o : Option X) → option_and_then g (option_map f o) ≡ option_and_then (λ x. g (f x)) o
option_and_then-map g f None = refl
option_and_then-map g f (Some x) = refl

-- what is found among regions as they are stored, as contracts see it
pub place_is : (regions items : List Region) (shown : List NamedShape) (name : List ℕ) (result : Option ℕ) → named_shapes regions ≡ shown → items ≡ regions →
    result ≡ position (λ (region : Region). bytes_eq region.named.name name) items → result ≡ place_of shown name
place_is regions items shown name result view same found =
    found
    ∙ ap (position (λ (region : Region). bytes_eq region.named.name name)) same
    ∙ sym (position-map (λ (region : NamedShape). bytes_eq region.name name) (λ (region : Region). region.named) regions)
    ∙ ap (λ (all : List NamedShape). place_of all name) view

pub block_is : (regions items : List Region) (shown : List NamedShape) (name : List ℕ) (result : Option Block) → named_shapes regions ≡ shown → items ≡ regions →
    result ≡ option_and_then (λ (region : Region). block_in region.named.shape) (find (λ (region : Region). bytes_eq region.named.name name) items) → result ≡ block_named shown name
block_is regions items shown name result view same found =
    found
    ∙ ap (λ (all : List Region). option_and_then (λ (region : Region). block_in region.named.shape) (find (λ (region : Region). bytes_eq region.named.name name) all)) same
    ∙ sym (option_and_then-map (λ (region : NamedShape). block_in region.shape) (λ (region : Region). region.named) (find (λ (region : Region). bytes_eq region.named.name name) regions))
    ∙ sym (ap (option_and_then (λ (region : NamedShape). block_in region.shape)) (find-map (λ (region : NamedShape). bytes_eq region.name name) (λ (region : Region). region.named) regions))
    ∙ ap (λ (all : List NamedShape). block_named all name) view

-- the region at the place of a name has that name
some_region : NamedShape
some_region = record { name = []; shape = Union [] }

pub name_found : (shown : List NamedShape) (name : List ℕ) (o : Option ℕ) → o ≡ place_of shown name → IfSome o (λ place. name_at shown place ≡ name)
name_found shown name None is = tt
name_found shown name (Some place) is =
    let found = position-Some (λ (region : NamedShape). bytes_eq region.name name) shown place some_region (sym is) in
    get_or-map (λ (region : NamedShape). region.name) shown place some_region [] found.0 ∙ (bytes_eq-Decides (get_or shown place some_region).name name).0 found.1

-- a block that is found has bounds in range
near_shape : (shape : Shape) → IsInRange shape → IfSome (block_in shape) IsNearBlock
near_shape (BlockShape lo hi) near = near
near_shape (Sphere centre radius) near = tt
near_shape (Cylinder axis centre radius lo hi) near = tt
near_shape (Union parts) near = tt
near_shape (Intersect parts) near = tt

near_chosen : (test : Bool) (region : Region) (rest : Option Region) → IsInRange region.named.shape →
    IfSome (option_and_then (λ (region : Region). block_in region.named.shape) rest) IsNearBlock →
    IfSome (option_and_then (λ (region : Region). block_in region.named.shape) (cond test (Some region) rest)) IsNearBlock
near_chosen true region rest near later = near_shape region.named.shape near
near_chosen false region rest near later = later

pub near_block : (regions : List Region) (test : Region → Bool) → All (λ (region : Region). IsInRange region.named.shape) regions →
    IfSome (option_and_then (λ (region : Region). block_in region.named.shape) (find test regions)) IsNearBlock
near_block [] test near = tt
near_block (region ∷ regions) test near =
    let later : All (λ (region : Region). IsInRange region.named.shape) regions = λ k d h. near (suc k) d (omega arith) in
    near_chosen (test region) region (find test regions) (near 0 region (omega arith)) (near_block regions test later)
