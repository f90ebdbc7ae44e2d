-- SHA-256 of pairs.
use Rattle.std.specs.Prelude.{ℕ, List, ◌++◌}
use Rattle.sha2.specs.Sha256.{sha256}

-- the SHA-256 of left followed by right
abbrev pub plain_node : List ℕ → List ℕ → List ℕ
plain_node left right = sha256 (left ++ right)
