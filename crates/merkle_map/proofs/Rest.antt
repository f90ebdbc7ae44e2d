-- What is left of a tree that lost an entry.
use Rattle.std.proofs.Common.{suc, ◌≡◌, ℕ, ◌+◌, Bool, true, false, if◌then◌else◌, Ok, Err, refl, ap, sym, ◌∙◌, subst}
use Rattle.std.specs.Str.{bytes_eq}
use Rattle.ark_base.specs.declared.error.Error.{Error}
use Rattle.ark_base.specs.Outcome.{Outcome, ◌>>=◌}
use Rattle.ark_base.specs.Laws.Steps.{done_injective}
use Rattle.merkle_map.specs.Map.{Key, Digest, bit_of}
use Rattle.merkle_map.specs.Tree.{Shape, Empty, One, Fork, Hidden}
use Rattle.merkle_map.specs.Changes.{rejoined, losing, is_alone, hides, Becomes}
use Rattle.merkle_map.specs.Rests.{rest_of, rest_beside, rest_seen}
use Rattle.merkle_map.specs.declared.remove.Rest.TheVariants.{Nothing as None, Lone, Any, Unknown}
use Rattle.merkle_map.proofs.Places.{losing-on}

abbrev pub failed : Error → Outcome Shape
failed error = Err error

err_injective : (a b : Error) → failed a ≡ failed b → a ≡ b
err_injective a b e = ap (λ (o : Outcome Shape). elim o [ Ok s ↦ a | Err x ↦ x ]) e

-- The outcome is no hidden tree.
abbrev pub IsSeen : Outcome Shape → Type 0
IsSeen (Ok Empty) = Unit {0}
IsSeen (Ok (One entry)) = Unit {0}
IsSeen (Ok (Fork left right)) = Unit {0}
IsSeen (Ok (Hidden digest)) = ⊥
IsSeen (Err error) = Unit {0}

seen-fork : (b : Bool) (l r : Shape) → IsSeen (if b then failed hides else Ok (Fork l r))
seen-fork true l r = tt
seen-fork false l r = tt

fork-hides : (b : Bool) (l r : Shape) (error : Error) → (if b then failed hides else Ok (Fork l r)) ≡ Err error
    → error ≡ hides
fork-hides true l r error e = sym (err_injective hides error e)
fork-hides false l r error e = absurd cc

fork-rest : (b : Bool) (l r : Shape)
    → rest_of (if b then failed hides else Ok (Fork l r)) ≡ rest_beside Lone (if b then Unknown else Any)
fork-rest true l r = refl
fork-rest false l r = refl

fork-becomes : (b : Bool) (l r : Shape) → Becomes (if b then failed hides else Ok (Fork l r)) (Fork l r)
fork-becomes true l r = tt
fork-becomes false l r = refl

none-rest : (b : Bool) → Unknown ≡ rest_beside None (if b then Unknown else Any)
none-rest true = refl
none-rest false = refl

-- what a lone entry beside a hidden tree becomes, where it becomes something
pub fork-is : (b : Bool) (l r new : Shape) → (if b then failed hides else Ok (Fork l r)) ≡ Ok new
    → (b ≡ false) × (Fork l r ≡ new)
fork-is true l r new e = absurd cc
fork-is false l r new e = (refl, done_injective {E = Error} (Fork l r) new e)

seen-joined : (nothing : Digest) (left right : Shape) → IsSeen (rejoined nothing left right)
seen-joined nothing Empty Empty = tt
seen-joined nothing Empty (One e) = tt
seen-joined nothing Empty (Fork a b) = tt
seen-joined nothing Empty (Hidden d) = tt
seen-joined nothing (One e) Empty = tt
seen-joined nothing (One e) (One f) = tt
seen-joined nothing (One e) (Fork a b) = tt
seen-joined nothing (One e) (Hidden d) = seen-fork (bytes_eq d nothing) (One e) (Hidden d)
seen-joined nothing (Fork a b) Empty = tt
seen-joined nothing (Fork a b) (One e) = tt
seen-joined nothing (Fork a b) (Fork c d) = tt
seen-joined nothing (Fork a b) (Hidden d) = tt
seen-joined nothing (Hidden d) Empty = tt
seen-joined nothing (Hidden d) (One e) = seen-fork (bytes_eq d nothing) (Hidden d) (One e)
seen-joined nothing (Hidden d) (Fork a b) = tt
seen-joined nothing (Hidden d) (Hidden e) = tt

seen-on : (o : Outcome Shape) (next : Shape → Outcome Shape) → ((s : Shape) → IsSeen (next s)) → IsSeen (o >>= next)
seen-on (Ok s) next h = h s
seen-on (Err e) next h = tt

pub seen-losing : (nothing : Digest) (level : ℕ) (key : Key) (shape : Shape) → IsSeen (losing nothing level key shape)
seen-losing nothing level key Empty = tt
seen-losing nothing level key (One entry) = by_test (bytes_eq entry.key key)
  where
    by_test : (b : Bool) → IsSeen (Ok (if b then Empty else One entry))
    by_test true = tt
    by_test false = tt
seen-losing nothing level key (Hidden d) = tt
seen-losing nothing level key (Fork left right) = by_test (bit_of level key)
  where
    by_test : (b : Bool) → IsSeen (if b then (losing nothing (suc level) key right >>= λ r. rejoined nothing left r)
        else (losing nothing (suc level) key left >>= λ l. rejoined nothing l right))
    by_test true = seen-on (losing nothing (suc level) key right) (λ r. rejoined nothing left r)
        (λ r. seen-joined nothing left r)
    by_test false = seen-on (losing nothing (suc level) key left) (λ l. rejoined nothing l right)
        (λ l. seen-joined nothing l right)

-- the only error is that something is hidden
joined-hides : (nothing : Digest) (left right : Shape) (error : Error) → rejoined nothing left right ≡ Err error
    → error ≡ hides
joined-hides nothing Empty Empty error e = absurd cc
joined-hides nothing Empty (One f) error e = absurd cc
joined-hides nothing Empty (Fork a b) error e = absurd cc
joined-hides nothing Empty (Hidden d) error e = sym (err_injective hides error e)
joined-hides nothing (One f) Empty error e = absurd cc
joined-hides nothing (One f) (One g) error e = absurd cc
joined-hides nothing (One f) (Fork a b) error e = absurd cc
joined-hides nothing (One f) (Hidden d) error e = fork-hides (bytes_eq d nothing) (One f) (Hidden d) error e
joined-hides nothing (Fork a b) Empty error e = absurd cc
joined-hides nothing (Fork a b) (One g) error e = absurd cc
joined-hides nothing (Fork a b) (Fork c d) error e = absurd cc
joined-hides nothing (Fork a b) (Hidden d) error e = absurd cc
joined-hides nothing (Hidden d) Empty error e = sym (err_injective hides error e)
joined-hides nothing (Hidden d) (One g) error e = fork-hides (bytes_eq d nothing) (Hidden d) (One g) error e
joined-hides nothing (Hidden d) (Fork a b) error e = absurd cc
joined-hides nothing (Hidden d) (Hidden f) error e = sym (err_injective hides error e)

hides-on : (o : Outcome Shape) (next : Shape → Outcome Shape) → ((error : Error) → o ≡ Err error → error ≡ hides)
    → ((s : Shape) (error : Error) → next s ≡ Err error → error ≡ hides)
    → (error : Error) → (o >>= next) ≡ Err error → error ≡ hides
hides-on (Ok s) next first second error e = second s error e
hides-on (Err f) next first second error e = first error e

pub losing-hides : (nothing : Digest) (level : ℕ) (key : Key) (shape : Shape) (error : Error)
    → losing nothing level key shape ≡ Err error
    → error ≡ hides
losing-hides nothing level key Empty error e = absurd cc
losing-hides nothing level key (One entry) error e = absurd cc
losing-hides nothing level key (Hidden d) error e = sym (err_injective hides error e)
losing-hides nothing level key (Fork left right) error e =
    by_test (losing-hides nothing (suc level) key left) (losing-hides nothing (suc level) key right)
    (bit_of level key) e
  where
    by_test : ((error : Error) → losing nothing (suc level) key left ≡ Err error → error ≡ hides)
        → ((error : Error) → losing nothing (suc level) key right ≡ Err error → error ≡ hides)
        → (b : Bool) → (if b then (losing nothing (suc level) key right >>= λ r. rejoined nothing left r)
        else (losing nothing (suc level) key left >>= λ l. rejoined nothing l right)) ≡ Err error → error ≡ hides
    by_test on_left on_right true e =
        hides-on (losing nothing (suc level) key right) (λ r. rejoined nothing left r) on_right
        (λ r. joined-hides nothing left r) error e
    by_test on_left on_right false e =
        hides-on (losing nothing (suc level) key left) (λ l. rejoined nothing l right) on_left
        (λ l. joined-hides nothing l right) error e

beside_left : (nothing : Digest) (left : Shape) (o : Outcome Shape) → IsSeen o
    → rest_of (o >>= λ r. rejoined nothing left r) ≡ rest_beside (rest_of o) (rest_seen nothing left)
beside_left nothing left (Err e) seen = refl
beside_left nothing Empty (Ok Empty) seen = refl
beside_left nothing (One f) (Ok Empty) seen = refl
beside_left nothing (Fork a b) (Ok Empty) seen = refl
beside_left nothing (Hidden d) (Ok Empty) seen = none-rest (bytes_eq d nothing)
beside_left nothing Empty (Ok (One e)) seen = refl
beside_left nothing (One f) (Ok (One e)) seen = refl
beside_left nothing (Fork a b) (Ok (One e)) seen = refl
beside_left nothing (Hidden d) (Ok (One e)) seen = fork-rest (bytes_eq d nothing) (Hidden d) (One e)
beside_left nothing Empty (Ok (Fork x y)) seen = refl
beside_left nothing (One f) (Ok (Fork x y)) seen = refl
beside_left nothing (Fork a b) (Ok (Fork x y)) seen = refl
beside_left nothing (Hidden d) (Ok (Fork x y)) seen = refl
beside_left nothing left (Ok (Hidden d)) seen = absurd seen

beside_right : (nothing : Digest) (right : Shape) (o : Outcome Shape) → IsSeen o
    → rest_of (o >>= λ l. rejoined nothing l right) ≡ rest_beside (rest_of o) (rest_seen nothing right)
beside_right nothing right (Err e) seen = refl
beside_right nothing Empty (Ok Empty) seen = refl
beside_right nothing (One f) (Ok Empty) seen = refl
beside_right nothing (Fork a b) (Ok Empty) seen = refl
beside_right nothing (Hidden d) (Ok Empty) seen = none-rest (bytes_eq d nothing)
beside_right nothing Empty (Ok (One e)) seen = refl
beside_right nothing (One f) (Ok (One e)) seen = refl
beside_right nothing (Fork a b) (Ok (One e)) seen = refl
beside_right nothing (Hidden d) (Ok (One e)) seen = fork-rest (bytes_eq d nothing) (One e) (Hidden d)
beside_right nothing Empty (Ok (Fork x y)) seen = refl
beside_right nothing (One f) (Ok (Fork x y)) seen = refl
beside_right nothing (Fork a b) (Ok (Fork x y)) seen = refl
beside_right nothing (Hidden d) (Ok (Fork x y)) seen = refl
beside_right nothing right (Ok (Hidden d)) seen = absurd seen

-- ---- two sides are joined

pub joined-right : (nothing : Digest) (left right : Shape) → is_alone right left ≡ true
    → rejoined nothing left right ≡ Ok right
joined-right nothing Empty Empty e = refl
joined-right nothing Empty (One f) e = refl
joined-right nothing Empty (Fork a b) e = absurd cc
joined-right nothing Empty (Hidden d) e = absurd cc
joined-right nothing (One f) Empty e = absurd cc
joined-right nothing (One f) (One g) e = absurd cc
joined-right nothing (One f) (Fork a b) e = absurd cc
joined-right nothing (One f) (Hidden d) e = absurd cc
joined-right nothing (Fork a b) Empty e = absurd cc
joined-right nothing (Fork a b) (One g) e = absurd cc
joined-right nothing (Fork a b) (Fork c d) e = absurd cc
joined-right nothing (Fork a b) (Hidden d) e = absurd cc
joined-right nothing (Hidden d) Empty e = absurd cc
joined-right nothing (Hidden d) (One g) e = absurd cc
joined-right nothing (Hidden d) (Fork a b) e = absurd cc
joined-right nothing (Hidden d) (Hidden f) e = absurd cc

pub joined-left : (nothing : Digest) (left right : Shape) → is_alone left right ≡ true
    → rejoined nothing left right ≡ Ok left
joined-left nothing Empty Empty e = refl
joined-left nothing (One f) Empty e = refl
joined-left nothing (Fork a b) Empty e = absurd cc
joined-left nothing (Hidden d) Empty e = absurd cc
joined-left nothing Empty (One g) e = absurd cc
joined-left nothing (One f) (One g) e = absurd cc
joined-left nothing (Fork a b) (One g) e = absurd cc
joined-left nothing (Hidden d) (One g) e = absurd cc
joined-left nothing Empty (Fork x y) e = absurd cc
joined-left nothing (One f) (Fork x y) e = absurd cc
joined-left nothing (Fork a b) (Fork x y) e = absurd cc
joined-left nothing (Hidden d) (Fork x y) e = absurd cc
joined-left nothing Empty (Hidden g) e = absurd cc
joined-left nothing (One f) (Hidden g) e = absurd cc
joined-left nothing (Fork a b) (Hidden g) e = absurd cc
joined-left nothing (Hidden d) (Hidden g) e = absurd cc

pub joined-both : (nothing : Digest) (left right : Shape) → is_alone right left ≡ false → is_alone left right ≡ false
    → Becomes (rejoined nothing left right) (Fork left right)
joined-both nothing Empty Empty p q = absurd cc
joined-both nothing Empty (One f) p q = absurd cc
joined-both nothing Empty (Fork a b) p q = refl
joined-both nothing Empty (Hidden d) p q = tt
joined-both nothing (One f) Empty p q = absurd cc
joined-both nothing (One f) (One g) p q = refl
joined-both nothing (One f) (Fork a b) p q = refl
joined-both nothing (One f) (Hidden d) p q = fork-becomes (bytes_eq d nothing) (One f) (Hidden d)
joined-both nothing (Fork a b) Empty p q = refl
joined-both nothing (Fork a b) (One g) p q = refl
joined-both nothing (Fork a b) (Fork c d) p q = refl
joined-both nothing (Fork a b) (Hidden d) p q = refl
joined-both nothing (Hidden d) Empty p q = tt
joined-both nothing (Hidden d) (One g) p q = fork-becomes (bytes_eq d nothing) (Hidden d) (One g)
joined-both nothing (Hidden d) (Fork a b) p q = refl
joined-both nothing (Hidden d) (Hidden f) p q = tt

-- an outcome that is known
pub becomes_is : (o : Outcome Shape) (new : Shape) → o ≡ Ok new → Becomes o new
becomes_is (Ok s) new e = done_injective {E = Error} s new e
becomes_is (Err error) new e = absurd cc

-- what comes of a tree that is changed and then joined
becomes_on : (o : Outcome Shape) (next : Shape → Outcome Shape) (between new : Shape) → Becomes o between
    → Becomes (next between) new → Becomes (o >>= next) new
becomes_on (Ok s) next between new e f = subst (λ (t : Shape). Becomes (next t) new) (sym e) f
becomes_on (Err error) next between new e f = tt

-- a tree that forks, some levels below the root, and a key that is removed from its side
module _ (nothing : Digest) (level : ℕ) {whole left right : Shape} (fork : whole ≡ Fork left right) (key : Key) where
  pub rest-on : (b : Bool) → bit_of level key ≡ b → rest_of (losing nothing level key whole)
      ≡ (if b then rest_beside (rest_of (losing nothing (level + 1) key right)) (rest_seen nothing left)
      else rest_beside (rest_of (losing nothing (level + 1) key left)) (rest_seen nothing right))
  rest-on true bit = ap rest_of (losing-on level fork nothing key true bit)
      ∙ beside_left nothing left (losing nothing (level + 1) key right) (seen-losing nothing (level + 1) key right)
  rest-on false bit = ap rest_of (losing-on level fork nothing key false bit)
      ∙ beside_right nothing right (losing nothing (level + 1) key left) (seen-losing nothing (level + 1) key left)

  pub becomes_side : (b : Bool) (between new : Shape) → bit_of level key ≡ b
      → Becomes (losing nothing (level + 1) key (if b then right else left)) between
      → Becomes (if b then rejoined nothing left between else rejoined nothing between right) new
      → Becomes (losing nothing level key whole) new
  becomes_side true between new bit lost join =
      subst (λ o. Becomes o new) (sym (losing-on level fork nothing key true bit))
      (becomes_on (losing nothing (level + 1) key right) (λ r. rejoined nothing left r) between new lost join)
  becomes_side false between new bit lost join =
      subst (λ o. Becomes o new) (sym (losing-on level fork nothing key false bit))
      (becomes_on (losing nothing (level + 1) key left) (λ l. rejoined nothing l right) between new lost join)
