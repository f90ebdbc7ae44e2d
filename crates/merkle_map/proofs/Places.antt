-- Trees on the way of a key.
use Rattle.std.proofs.Common.{suc, ◌≡◌, ℕ, ◌+◌, ◌<◌, Bool, true, false, if◌then◌else◌, Ok, arith, refl, ap, ◌∙◌, subst}
use Rattle.ark_base.specs.Outcome.{Outcome, ◌>>=◌, AnswersBy}
use Rattle.merkle_map.specs.Map.{Key, Digest, Entry, bit_of}
use Rattle.merkle_map.specs.Tree.{Shape, Fork, way, StandsAt}
use Rattle.merkle_map.specs.Changes.{known_at, with_value, losing, rejoined}
use Rattle.merkle_map.proofs.Answered.{answers_on}
use Rattle.merkle_map.proofs.Keys.{length-way}

pub if_true : {A : Type 0} (b : Bool) (x y : A) → b ≡ true → (if b then x else y) ≡ x
if_true b x y e = rw e refl

pub if_false : {A : Type 0} (b : Bool) (x y : A) → b ≡ false → (if b then x else y) ≡ y
if_false b x y e = rw e refl

-- the choice of a bit that is known, one level down
on_bit : {A : Type 0} (level : ℕ) (bit b : Bool) (on_right on_left : ℕ → A) → bit ≡ b
    → (if bit then on_right (suc level) else on_left (suc level))
    ≡ (if b then on_right (level + 1) else on_left (level + 1))
on_bit level bit b on_right on_left is =
    let next : suc level ≡ level + 1 = omega arith in
    ap (λ (c : Bool). if c then on_right (suc level) else on_left (suc level)) is
    ∙ ap (λ (n : ℕ). if b then on_right n else on_left n) next

-- a tree that forks, some levels below the root
module _ (level : ℕ) {whole left right : Shape} (fork : whole ≡ Fork left right) where
  -- it stands above the last bit of a key
  pub fork_within : (key : Key) → StandsAt (way level key) whole → level < 256
  fork_within key stands =
      let long = length-way level key in
      let inside = subst (StandsAt (way level key)) fork stands in omega (arith, inside.0, long)

  -- what it has at a key, the key's side has
  pub known-on : (key : Key) (b : Bool) → bit_of level key ≡ b
      → known_at level key whole ≡ (if b then known_at (level + 1) key right else known_at (level + 1) key left)
  known-on key b bit = ap (known_at level key) fork
      ∙ on_bit level (bit_of level key) b (λ n. known_at n key right) (λ n. known_at n key left) bit

  -- a key is removed from its side
  pub losing-on : (nothing : Digest) (key : Key) (b : Bool) → bit_of level key ≡ b
      → losing nothing level key whole
      ≡ (if b then (losing nothing (level + 1) key right >>= λ r. rejoined nothing left r)
      else (losing nothing (level + 1) key left >>= λ l. rejoined nothing l right))
  losing-on nothing key b bit = ap (losing nothing level key) fork
      ∙ on_bit level (bit_of level key) b (λ n. losing nothing n key right >>= λ r. rejoined nothing left r)
      (λ n. losing nothing n key left >>= λ l. rejoined nothing l right) bit

  -- a value is put into its key's side
  with-on : (own : Entry) (b : Bool) → bit_of level own.key ≡ b
      → with_value level own whole ≡ (if b then (with_value (level + 1) own right >>= λ r. Ok (Fork left r))
      else (with_value (level + 1) own left >>= λ l. Ok (Fork l right)))
  with-on own b bit = ap (with_value level own) fork
      ∙ on_bit level (bit_of level own.key) b (λ n. with_value n own right >>= λ r. Ok (Fork left r))
      (λ n. with_value n own left >>= λ l. Ok (Fork l right)) bit

  -- a call that puts a value into its key's side puts it into the tree
  pub answers_side : {A : Type 0} (own : Entry) (b : Bool) (result : Outcome A) (new : Shape) → bit_of level own.key ≡ b
      → AnswersBy (λ _. new) (with_value (level + 1) own (if b then right else left)) result
      → AnswersBy (λ _. if b then Fork left new else Fork new right) (with_value level own whole) result
  answers_side own true result new bit known = answers_on new (λ r. Fork left r) (with_value (level + 1) own right)
      (with_value level own whole) result (with-on own true bit) known
  answers_side own false result new bit known = answers_on new (λ l. Fork l right) (with_value (level + 1) own left)
      (with_value level own whole) result (with-on own false bit) known
