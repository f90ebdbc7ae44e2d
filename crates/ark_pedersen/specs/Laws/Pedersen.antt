-- The laws of Pedersen hashes: no refusal is `OutOfMemory`, and generators that are known by their values.
use Rattle.std.proofs.Common.{ℕ, ◌≡◌, refl, sym, ap, ◌∙◌, arith, get_or}
use Rattle.std.specs.Prelude.{◌/◌, ◌*◌, ◌==◌, List, [], ◌∷◌, length, map, drop, Ok, Err, nat_lt}
use Rattle.std.specs.declared.vec.Vec.{Vec}
use Rattle.ark_base.specs.Outcome.{Outcome, IsDecided}
use Rattle.ark_base.specs.Laws.Outcomes.{tested-decided}
use Rattle.ark_groups.specs.Group.{Group}
use Rattle.ark_pedersen.specs.Pedersen.{has_shape, lists_in, window_bits, pedersen_hash}
use Rattle.ark_pedersen.specs.Pedersen.{full_halves, of_halves, seen_by, image_of, seen_image}
use Rattle.ark_pedersen.specs.declared.window.Window.{Ghosts as Windows}

module _ {A B : Type 0} where
  pub image-decided : (mapped : A → Outcome B) (outcome : Outcome A)
      → ((x : A) → IsDecided (mapped x)) → IsDecided outcome → IsDecided (image_of mapped outcome)
  image-decided mapped (Ok x) after first = after x
  image-decided mapped (Err error) after first = first

pub seen-decided : {A B : Type 0} (view : A → B) (outcome : Outcome A)
    → IsDecided outcome → IsDecided (seen_by view outcome)
seen-decided view outcome decided = image-decided (λ x. Ok (view x)) outcome (λ x. tt) decided

pub seen_image-decided : {A B D : Type 0} (view : B → D) (mapped : A → Outcome B) (outcome : Outcome A)
    → ((x : A) → IsDecided (mapped x)) → IsDecided outcome → IsDecided (seen_image view mapped outcome)
seen_image-decided view mapped outcome after first =
    seen-decided view (image_of mapped outcome) (image-decided mapped outcome after first)

pub of_halves-decided : {G W : Type 0} (windows : Windows W) (hash : List ℕ → Outcome G)
    → ((input : List ℕ) → IsDecided (hash input)) → (left right : List ℕ)
    → IsDecided (of_halves windows hash left right)
of_halves-decided windows hash decided left right =
    let half = window_bits windows / 2 in
    tested-decided (length left == length right) _ _
    (tested-decided (nat_lt half (8 * length left)) _ _ (λ same. cc) (decided (full_halves half left right)))
    (λ same. cc)

module _ {G W : Type 0} (g : Group G) (windows : Windows W) (lists : List (List G)) where
  pub pedersen-decided : (input : List ℕ) → IsDecided (pedersen_hash g windows lists input)
  pedersen-decided input =
      tested-decided (nat_lt (window_bits windows) (8 * length input)) _ _ (λ same. cc)
      (tested-decided (has_shape windows.NUM_WINDOWS windows.WINDOW_SIZE lists) _ _ tt (λ same. cc))

  pub halves-decided : (left right : List ℕ) → IsDecided (of_halves windows (pedersen_hash g windows lists) left right)
  halves-decided left right = of_halves-decided windows (pedersen_hash g windows lists) pedersen-decided left right

-- ---- generators by their canonical values

-- what is mapped alike by f is mapped alike by h, where h sees no more than f
map-through : {A B D : Type 0} (f : A → B) (h : A → D) → ((x y : A) → f x ≡ f y → h x ≡ h y)
    → (xs ys : List A) → map f xs ≡ map f ys → map h xs ≡ map h ys
map-through f h less [] [] e = refl
map-through f h less [] (y ∷ ys) e = absurd (omega (arith, ap length e))
map-through f h less (x ∷ xs) [] e = absurd (omega (arith, ap length e))
map-through {A} {B} {D} f h less (x ∷ xs) (y ∷ ys) e =
    let first : f x ≡ f y = ap (λ (t : List B). get_or t 0 (f x)) e in
    let others : map f xs ≡ map f ys = ap (λ (t : List B). drop 1 t) e in
    ap (λ (d : D). d ∷ map h xs) (less x y first)
    ∙ ap (λ (t : List D). h y ∷ t) (map-through f h less xs ys others)

map-itself : {A : Type 0} (xs : List A) → map (λ (x : A). x) xs ≡ xs
map-itself [] = refl
map-itself (x ∷ xs) = ap (λ t. x ∷ t) (map-itself xs)

-- lists of elements with the same canonical values have the same elements
pub lists_in-same : {G V Z : Type 0} (view : G → V) → ((x y : G) → view x ≡ view y → x ≡ y)
    → (p q : List (Vec G Z))
    → map (λ (list : Vec G Z). map view list.items) p ≡ map (λ (list : Vec G Z). map view list.items) q
    → lists_in p ≡ lists_in q
lists_in-same {G} {V} {Z} view alone p q e =
    map-through (λ (list : Vec G Z). map view list.items) (λ (list : Vec G Z). list.items)
    (λ x y same. sym (map-itself x.items)
    ∙ map-through view (λ (a : G). a) alone x.items y.items same ∙ map-itself y.items)
    p q e
