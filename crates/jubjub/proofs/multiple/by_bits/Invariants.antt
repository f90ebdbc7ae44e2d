use Rattle.jubjub.specs.Edwards.{Coordinates}
use Rattle.jubjub.specs.Jubjub.{d, IsOnJubjub}
use Rattle.jubjub.specs.Extended.{Stands}
use Rattle.jubjub.specs.Laws.Completeness.{jubjub_is_complete}
use Rattle.edwards.proofs.Bits.{AreLeft}
use Rattle.jubjub.proofs.multiple.by_bits.Given as goal

-- whatever point the argument stands for, the lowest digits so far were added
abbrev pub invariant-loop-rest : goal.invariant-loop-rest
invariant-loop-rest l =
    (s : Coordinates) → IsOnJubjub s → Stands l.fn.a s → AreLeft d jubjub_is_complete l.sum l.power l.rest l.fn.scalar s

abbrev pub decreases-loop-rest : goal.decreases-loop-rest
decreases-loop-rest l = l.rest
