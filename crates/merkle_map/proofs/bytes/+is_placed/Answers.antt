use Rattle.std.proofs.Common.{◌≡◌, ◌+◌, ◌≤◌, suc, ℕ, Bool, true, false, arith, refl, ap, sym, ◌∙◌}
use Rattle.std.specs.Prelude.{◌&&◌}
use Rattle.std.proofs.lemmas.Bool.{le-ltb}
use Rattle.merkle_map.specs.Bytes.{all_have, is_placed, itself}
use Rattle.merkle_map.specs.Parts.{shape}
use Rattle.merkle_map.specs.Tree.{Fork, Shape, weight}
use Rattle.merkle_map.proofs.bytes.+is_placed.Goals.{After-is_placed}
use Rattle.merkle_map.proofs.bytes.+is_placed.Goals as goal

-- Behind the weights and the bits both sides decide.
placed-sides : (level : ℕ) (l r : Shape) → 2 ≤ weight l + weight r → all_have false level l ≡ true
    → all_have true level r ≡ true
    → is_placed level (Fork l r) ≡ (is_placed (level + 1) l && is_placed (level + 1) r)
placed-sides level l r heavy on_left on_right =
    let next : suc level ≡ level + 1 = omega arith in
    rw (le-ltb (weight l + weight r) 2 heavy, on_left, on_right, next) refl

both-sides : (t : _) (c : After-is_placed t) → is_placed c.args.level (shape itself c.args.part.now)
    ≡ (is_placed (c.args.level + 1) (shape itself c.in-Fork.sides.value.left)
    && is_placed (c.args.level + 1) (shape itself c.in-Fork.sides.value.right))
both-sides t c =
    let level = c.args.level in
    ap (λ p. is_placed level (shape itself p)) c.in-Fork.is
    ∙ placed-sides level (shape itself c.in-Fork.sides.value.left) (shape itself c.in-Fork.sides.value.right)
    (rw (
      ← c.deref.ensures,
      ← c.weight_of.ensures.weighs,
      ← c.weight_of-in-Fork.ensures.weighs,
    ) c.if-weight_of-lt2.false)
    (rw (← c.deref.ensures, ← c.all_have.ensures) c.if-not-all_have.false)
    (rw (← c.deref.ensures, ← c.all_have-else-not-all_have.ensures) c.if-not-all_have-2.false)

left-placed : (a b : Bool) → a ≡ true → (a && b) ≡ b
left-placed a b is = rw (is) refl

left-misplaced : (a b : Bool) → a ≡ false → (a && b) ≡ a
left-misplaced a b is = rw (is) refl

pub returns-then-is_placed : goal.returns-then-is_placed
returns-then-is_placed t c =
    let at = c.args.level + 1 in
    c.is_placed-then-is_placed.ensures ∙ ap (λ s. is_placed at (shape itself s.right)) c.deref.ensures
    ∙ sym (left-placed (is_placed at (shape itself c.in-Fork.sides.value.left))
    (is_placed at (shape itself c.in-Fork.sides.value.right)) (ap (λ s. is_placed at (shape itself s.left))
    (sym c.deref.ensures) ∙ sym c.is_placed.ensures ∙ c.if-is_placed.true))
    ∙ sym (both-sides t (goal.at.returns-then-is_placed t c).After-is_placed)

pub returns-else-is_placed : goal.returns-else-is_placed
returns-else-is_placed t c =
    let at = c.args.level + 1 in
    let left = c.is_placed.ensures ∙ ap (λ s. is_placed at (shape itself s.left)) c.deref.ensures in
    left ∙ sym (left-misplaced (is_placed at (shape itself c.in-Fork.sides.value.left))
    (is_placed at (shape itself c.in-Fork.sides.value.right)) (sym left ∙ c.if-is_placed.false))
    ∙ sym (both-sides t (goal.at.returns-else-is_placed t c).After-is_placed)
