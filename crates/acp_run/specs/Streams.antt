-- What a writer holds back.
use Rattle.std.specs.Prelude.{ℕ, List, drop, Option, Some, None}

-- the bytes of a buffer that are not yet written: all, or those behind what was written when a call failed
abbrev pub held_back : Option ℕ → List ℕ → List ℕ
held_back None buffer = buffer
held_back (Some written) buffer = drop written buffer
