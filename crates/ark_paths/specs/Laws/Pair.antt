-- No refusal of a pair hash is `OutOfMemory`.
use Rattle.std.specs.Prelude.{Ok, Err}
use Rattle.ark_base.specs.Outcome.{Outcome, ◌>>=◌, IsDecided}
use Rattle.ark_paths.specs.Pair.{Digest, bottom_pair}

then-decided : {A B : Type 0} (o : Outcome A) (next : A → Outcome B) → IsDecided o → ((x : A) → IsDecided (next x))
    → IsDecided (o >>= next)
then-decided (Ok x) next here after = after x
then-decided (Err e) next here after = here

module _ (conversion : Digest → Outcome Digest) (evaluated : Digest → Digest → Outcome Digest)
    (converts : (x : Digest) → IsDecided (conversion x)) (hashes : (x y : Digest) → IsDecided (evaluated x y)) where
  pub bottom_pair-decided : (a b : Digest) → IsDecided (bottom_pair conversion evaluated a b)
  bottom_pair-decided a b =
      then-decided (conversion a) (λ x. conversion b >>= λ y. evaluated x y) (converts a)
      (λ x. then-decided (conversion b) (evaluated x) (converts b) (hashes x))
