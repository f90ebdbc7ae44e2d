use Rattle.jubjub.specs.Elements.{coordinates}
use Rattle.jubjub.specs.Laws.Spelling.{length-spelling}
use Rattle.ark_base.specs.Digits.{bytes_of_number}
use Rattle.ark_pedersen.proofs.ByteLists.{IsBytes-append}
use Rattle.ark_crypto_primitives.proofs.DigestBytes.{bytes_of_number-bytes}
use Rattle.ark_crypto_primitives.proofs.conflicts.jubjub_trees_bind.Goals as goal

pub returns : goal.returns
returns g c = c.point_trees_bind.ensures 64 (record {
  long = λ x. length-spelling (coordinates x);
  bytes = λ x. IsBytes-append (bytes_of_number 32 (coordinates x).x) (bytes_of_number 32 (coordinates x).y)
      (bytes_of_number-bytes 32 (coordinates x).x) (bytes_of_number-bytes 32 (coordinates x).y);
})
