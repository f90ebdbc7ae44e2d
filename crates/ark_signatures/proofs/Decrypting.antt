-- What is encrypted is decrypted.
use Rattle.std.proofs.Common.{◌≡◌, ℕ, ◌*◌, sym, ◌∙◌, ap, arith}
use Rattle.ark_groups.specs.Group.{Group, IsCommutativeGroup, times}
use Rattle.ark_groups.proofs.Multiples.{right_identity, times_at, times-mul}
use Rattle.ark_signatures.specs.ElGamal.{encrypted, decrypted}

module _ {G : Type 0} {g : Group G} (laws : IsCommutativeGroup g) where
  -- the order of two counts is free
  pub times-times : (m n : ℕ) (x : G) → times g m (times g n x) ≡ times g n (times g m x)
  times-times m n x =
      sym (times-mul laws m n x) ∙ times_at laws {m = m * n} {n = n * m} x (omega arith) ∙ times-mul laws n m x

  -- what was added is taken away
  pub plus-opposite : (x y : G) → g.plus (g.plus x y) (g.opposite y) ≡ x
  plus-opposite x y =
      laws.assoc x y (g.opposite y) ∙ ap (g.plus x) (laws.comm y (g.opposite y) ∙ laws.left_opposite y)
      ∙ right_identity laws x

  pub decrypted-encrypted : (generator key message : G) (r secret : ℕ) → key ≡ times g secret generator
      → decrypted g secret (encrypted g generator key message r) ≡ message
  decrypted-encrypted generator key message r secret is_key =
      let hidden = times g secret (times g r generator) in
      ap (λ y. g.plus (g.plus message y) (g.opposite hidden)) (ap (times g r) is_key ∙ times-times r secret generator)
      ∙ plus-opposite message hidden
